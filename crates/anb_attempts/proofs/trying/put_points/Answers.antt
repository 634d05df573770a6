use Rattle.std.proofs.Common.{◌≡◌, ℕ, ◌+◌, ◌≤◌, List, length, take, get_or, refl, sym, ap, ◌∙◌, subst, arith, length-append}
use Rattle.std.proofs.lemmas.List.{drop_more}
use Rattle.std.proofs.lemmas.List.Elements.{recursion_from_All}
use Rattle.anb_lemmas.proofs.Each.{each_at}
use Rattle.anb_attempts.specs.declared.attempts.TheConstants.{MOST}
use Rattle.anb_attempts.specs.Attempts.{HasAdded, HasPoint, IsPartOfPoint, PartValue}
use Rattle.anb_attempts.specs.declared.points.Point.{Point}
use Rattle.anb_attempts.specs.declared.points.Point.TheVariants.{Check}
use Rattle.anb_attempts.specs.Parts.{part_value}
use Rattle.anb_attempts.proofs.Adding.{front_covered, one_added}
use Rattle.anb_attempts.proofs.Turns.{isnt_within, taken_next}
use Rattle.anb_attempts.proofs.trying.put_points.Goals as goal

pub part_of_point-requires-clause-point : goal.part_of_point-requires-clause-point
part_of_point-requires-clause-point c =
    let P : Point → Type 0 = HasPoint c.args.code.now in each_at P c.args.points.now c.loop-point.point-index (Check 0) (recursion_from_All P c.args.points.now c.requires.points) (omega arith)

pub returns-then-not-has_room-clause-covers : goal.returns-then-not-has_room-clause-covers
returns-then-not-has_room-clause-covers c =
    let Is : ℕ → Point → PartValue → Type 0 = IsPartOfPoint c.args.p.now c.args.role c.args.code.now c.args.all in
    let mid = c.loop-point.suite in
    let xs = c.args.points.now in
    let i = c.loop-point.point-index in
    let x = get_or xs i (Check 0) in
    let part = part_value c.in_ok-part.part in
    let scenes : mid.scenes.len ≡ length mid.scenes.items = omega (arith, mid.scenes.ok.0) in
    let is : Is (length mid.scenes.items) x part = subst (λ (k : ℕ). Is k x part) (c.len-scene.ensures ∙ scenes) c.in_ok-part.ensures in
    front_covered Is xs i x c.args.suite.now mid _ part (drop_more xs i (Check 0) (omega arith)) c.loop-point.invariant.added refl refl refl refl is
    (isnt_within c.has_room.result (length mid.attempts.items + length part.attempts) MOST c.has_room.ensures.1 c.if-not-has_room.true)

pub loop-point-preserved : goal.loop-point-preserved
loop-point-preserved c =
    let Is : ℕ → Point → PartValue → Type 0 = IsPartOfPoint c.args.p.now c.args.role c.args.code.now c.args.all in
    let mid = c.loop-point.suite in
    let new = c.put.new.suite in
    let xs = c.args.points.now in
    let i = c.loop-point.point-index in
    let x = get_or xs i (Check 0) in
    let part = part_value c.in_ok-part.part in
    let scenes : mid.scenes.len ≡ length mid.scenes.items = omega (arith, mid.scenes.ok.0) in
    let is : Is (length mid.scenes.items) x part = subst (λ (k : ℕ). Is k x part) (c.len-scene.ensures ∙ scenes) c.in_ok-part.ensures in
    let put = c.in_ok-put.ensures in
    let room : length mid.attempts.items + length part.attempts ≤ MOST = c.has_room.ensures.0 c.if-not-has_room.false in
    let long : length new.attempts.items ≡ length mid.attempts.items + length part.attempts = ap length put.attempts ∙ length-append mid.attempts.items part.attempts in
    record {
      added = subst (λ (l : List Point). HasAdded Is l c.args.suite.now new) (sym (taken_next xs i (Check 0) (omega arith))) (one_added Is (take i xs) x c.args.suite.now mid new part c.loop-point.invariant.added is put);
      more = put.more ∙ c.loop-point.invariant.more;
      most = subst (λ (k : ℕ). k ≤ MOST) (sym long) room;
    }
