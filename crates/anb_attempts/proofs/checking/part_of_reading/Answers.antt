use Rattle.std.proofs.Common.{ℕ, ◌+◌, length, subst}
use Rattle.anb_suite.specs.Suites.{IsFinding}
use Rattle.anb_suite.specs.declared.cases.Finding.{Finding}
use Rattle.anb_suite.specs.declared.cases.Finding.TheVariants as finding
use Rattle.anb_attempts.specs.declared.parts.Part.{Part}
use Rattle.anb_attempts.specs.Attempts.{IsPartOfNew, IsPartOfReading}
use Rattle.anb_attempts.specs.Parts.{part_value}
use Rattle.anb_attempts.proofs.Turns.{if_one}
use Rattle.anb_attempts.proofs.checking.part_of_reading.Goals as goal

pub returns-in-Case : goal.returns-in-Case
returns-in-Case c =
    let p = c.args.p.now in
    let role = c.args.role in
    let code = c.args.code.now in
    let reading = c.args.reading in
    let before = part_value c.args.before.now in
    let case = c.in-Case.case in
    let found = subst (λ (f : Finding). IsFinding p role code reading c.args.check f) c.in-Case.is c.in_ok-case.ensures in
    if_one c.part_of_new.result _ (λ (part : Part). IsPartOfReading p role code reading before (c.args.scene + length before.scenes) c.args.check (part_value part)) c.part_of_new.ensures
    (λ part h. (finding.Case case, found, subst (λ (k : ℕ). IsPartOfNew p role reading before k case (part_value part)) c.scene_behind-next.ensures h))
