use Rattle.anb_probed.proofs.laws.right_programs_pass.Goals as goal

pub returns : goal.returns
returns c = λ ends old new played a case right.
    (let of = c.cases_are_attempts.ensures ends old new played a case in c.right_programs_pass.ensures a of.0 of.1 right.read right.plays (right.clear of.1))
