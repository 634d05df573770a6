use Rattle.std.proofs.Common.{◌≡◌, ℕ, List, ◌++◌, map, sym, ap, ◌∙◌, subst}
use Rattle.std.specs.List.{All}
use Rattle.anb_code.specs.Meaning.{acts_of}
use Rattle.anb_openings.specs.Openings.{HasOpening, openings_of}
use Rattle.anb_suite.specs.Suites.{HasCheck, checks_of}
use Rattle.anb_attempts.specs.declared.points.Point.{Point}
use Rattle.anb_attempts.specs.declared.points.Point.TheVariants.{Check, Opening}
use Rattle.anb_attempts.specs.Attempts.{HasPoint}
use Rattle.anb_attempts.proofs.Having.{each_has_point}
use Rattle.anb_attempts.proofs.points.points_of.Goals as goal

pub returns-clause-are : goal.returns-clause-are
returns-clause-are c =
    let acts = acts_of c.args.code.now in
    let checks : c.deref.result.now ≡ checks_of acts = c.deref.ensures.value ∙ c.in_ok-checks.ensures.are in
    let openings : c.deref-2.result.now ≡ openings_of acts = c.deref-2.ensures.value ∙ c.in_ok-openings.ensures.are in
    c.in_ok-put_openings.ensures ∙ ap (λ l. l ++ map Opening c.deref-2.result.now) (c.in_ok-put_checks.ensures ∙ ap (λ l. l ++ map Check c.deref.result.now) c.new-points.ensures.items)
    ∙ ap (λ l. map Check l ++ map Opening c.deref-2.result.now) checks ∙ ap (λ l. map Check (checks_of acts) ++ map Opening l) openings

pub returns-clause-each : goal.returns-clause-each
returns-clause-each c =
    let code = c.args.code.now in
    let shape = c.in_ok-put_openings.ensures ∙ ap (λ l. l ++ map Opening c.deref-2.result.now) (c.in_ok-put_checks.ensures ∙ ap (λ l. l ++ map Check c.deref.result.now) c.new-points.ensures.items) in
    subst (All (HasPoint code)) (sym shape) (each_has_point code c.deref.result.now c.deref-2.result.now
    (subst (All (HasCheck code)) (sym c.deref.ensures.value) c.in_ok-checks.ensures.each) (subst (All (HasOpening code)) (sym c.deref-2.ensures.value) c.in_ok-openings.ensures.each))
