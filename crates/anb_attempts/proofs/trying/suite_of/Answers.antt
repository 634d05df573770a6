use Rattle.std.proofs.Common.{◌≡◌, ℕ, ◌<◌, List, [], ◌∷◌, length, sym, ap, ◌∙◌, subst, arith}
use Rattle.std.specs.List.{AllByRecursion}
use Rattle.std.proofs.lemmas.List.Elements.{All-from_recursion}
use Rattle.anb_attempts.specs.declared.attempts.Attempt.{Attempt}
use Rattle.anb_attempts.specs.declared.attempts.Scene.{Scene}
use Rattle.anb_attempts.specs.declared.attempts.Suite.{Suite}
use Rattle.anb_attempts.specs.declared.points.Point.{Point}
use Rattle.anb_attempts.specs.Attempts.{Covers, IsPartOfPoint, SceneMayStand}
use Rattle.anb_attempts.proofs.Standing.{IsBelow, points_below, points_stand}
use Rattle.anb_attempts.proofs.trying.suite_of.Goals as goal

pub returns-clause-is : goal.returns-clause-is
returns-clause-is c =
    let begun = c.in_ok-suite.suite in
    let new = c.put_points.new.suite in
    let points = c.deref.ensures.value ∙ c.in_ok-points.ensures.are in
    record {
      begun = begun;
      begins = c.in_ok-suite.ensures.begun;
      covers = subst (λ (l : List Point). Covers (IsPartOfPoint c.args.p.now c.args.role c.args.code.now c.args.all) l begun new) points c.in_ok-put_points.ensures.covers;
    }

begun_below : (suite : Suite) (scene : Scene) (attempt : Attempt) → suite.scenes.items ≡ scene ∷ [] → suite.attempts.items ≡ attempt ∷ [] → attempt.scene ≡ 0 → AllByRecursion (IsBelow (length suite.scenes.items)) suite.attempts.items
begun_below suite scene attempt s a first =
    let one : attempt.scene < length suite.scenes.items = omega (arith, first, ap length s) in
    subst (AllByRecursion (IsBelow (length suite.scenes.items))) (sym a) (one, tt)

pub returns-clause-within : goal.returns-clause-within
returns-clause-within c =
    let begun = c.in_ok-suite.suite in
    let new = c.put_points.new.suite in
    let b = c.in_ok-suite.ensures.begun in
    let covers = c.in_ok-put_points.ensures.covers in
    All-from_recursion (IsBelow (length new.scenes.items)) new.attempts.items
    (points_below c.args.p.now c.args.role c.args.code.now c.args.all covers.tried begun new covers.added (begun_below begun b.scene b.attempt b.scenes b.attempts b.honest.scene))

pub returns-clause-stand : goal.returns-clause-stand
returns-clause-stand c =
    let covers = c.in_ok-put_points.ensures.covers in
    let new = c.put_points.new.suite in
    All-from_recursion (SceneMayStand c.args.p.now) new.scenes.items
    (points_stand c.args.p.now c.args.role c.args.code.now c.args.all covers.tried c.in_ok-suite.suite new covers.added c.in_ok-suite.ensures.stand)
