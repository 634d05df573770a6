use Rattle.anb_probed.proofs.laws.lax_programs_are_told.Goals as goal

pub returns : goal.returns
returns c = λ ends old new played a case good tried told.
    (let of = c.cases_are_attempts.ensures ends old new played a case in c.lax_programs_are_told.ensures a of.0 of.1 tried good told)
