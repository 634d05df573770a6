-- Up to the opening.
use Rattle.std.proofs.Common.{◌≡◌, ◌<◌, ℕ, ◌-◌, length, map, take, Some, refl, sym, ap, ◌∙◌, subst, arith, true}
use Rattle.std.specs.List.{AllByRecursion}
use Rattle.std.proofs.lemmas.List.{take-map}
use Rattle.anb_term.specs.FreeAlgebra.{terms}
use Rattle.anb_term.specs.View.{tree_of}
use Rattle.anb_code.specs.Meaning.{act_of, acts_of}
use Rattle.anb_machine.specs.Works.{HasFewFields}
use Rattle.anb_openings.specs.Steps.{StopsAt}
use Rattle.anb_openings.specs.Walks.{progress, AreReady, EndsAt}
use Rattle.anb_openings.proofs.Going.{stops_before}
use Rattle.anb_openings.proofs.Gone.{came_to, ended_all, ended_with}
use Rattle.anb_openings.proofs.Readying.{ready_before}
use Rattle.anb_openings.proofs.finding.come.Goals as goal
use Rattle.anb_openings.proofs.finding.come.Goals.{In_ok-walk_over}

-- the acts before the opening
before_acts : (c : In_ok-walk_over) → map (act_of c.formats.result.now) c.instrs_before-before.result.now ≡ take (c.args.instruction - 1) (acts_of c.args.code.now)
before_acts c =
    let code = c.args.code.now in
    let k = c.args.instruction - 1 in
    ap (λ f. map (act_of f) c.instrs_before-before.result.now) c.formats.ensures.formats ∙ ap (map (act_of code.formats)) c.instrs_before-before.ensures.instrs ∙ sym (take-map (act_of code.formats) k code.instrs)

ends : (c : In_ok-walk_over) → EndsAt c.args.made.now c.args.arrivals.now (take (c.args.instruction - 1) (acts_of c.args.code.now)) c.args.walk.now c.walk_over.new.walk c.in_ok-walk_over.field-0
ends c = subst (λ l. EndsAt c.args.made.now c.args.arrivals.now l c.args.walk.now c.walk_over.new.walk c.in_ok-walk_over.field-0) (before_acts c) c.in_ok-walk_over.ensures

pub walk_over-requires-clause-ready : goal.walk_over-requires-clause-ready
walk_over-requires-clause-ready c =
    let code = c.args.code.now in
    let k = c.args.instruction - 1 in
    let acts : map (act_of c.formats.result.now) c.instrs_before-before.result.now ≡ take k (acts_of code) =
    ap (λ f. map (act_of f) c.instrs_before-before.result.now) c.formats.ensures.formats ∙ ap (map (act_of code.formats)) c.instrs_before-before.ensures.instrs ∙ sym (take-map (act_of code.formats) k code.instrs) in
    subst (λ l. AreReady l (length c.args.walk.now.table.items)) (sym acts) (ready_before (λ o. true) (acts_of code) k (length c.args.walk.now.table.items) c.requires.ready)

pub walk_over-requires-clause-few : goal.walk_over-requires-clause-few
walk_over-requires-clause-few c = subst (λ f. AllByRecursion (HasFewFields f) c.instrs_before-before.result.now) (sym c.formats.ensures.formats) c.instrs_before-before.ensures.few

-- where it stopped
stopped_at : (c : In_ok-walk_over) (place : ℕ) → c.in_ok-walk_over.field-0 ≡ Some place → (place < c.args.instruction - 1) × StopsAt terms (map tree_of c.args.made.now) (acts_of c.args.code.now) (progress c.args.arrivals.now c.args.walk.now) place
stopped_at c place e =
    let acts = acts_of c.args.code.now in
    let k = c.args.instruction - 1 in
    stops_before (map tree_of c.args.made.now) acts k (progress c.args.arrivals.now c.args.walk.now) place (ended_with c.args.made.now c.args.arrivals.now (take k acts) c.args.walk.now c.walk_over.new.walk c.in_ok-walk_over.field-0 place e (ends c))

pub overflow_cast-result : goal.overflow_cast-result
overflow_cast-result c =
    let stop = stopped_at (goal.at.overflow_cast-result c).In_ok-walk_over c.in-Some.place c.in-Some.is in
    omega (arith, stop.0, c.ranges.instruction.fits)

pub overflow_add-result : goal.overflow_add-result
overflow_add-result c =
    let stop = stopped_at (goal.at.overflow_add-result c).In_ok-walk_over c.in-Some.place c.in-Some.is in
    omega (arith, stop.0, c.ranges.instruction.fits)

pub returns-in-None : goal.returns-in-None
returns-in-None c =
    let x = (goal.at.returns-in-None c).In_ok-walk_over in
    let acts = acts_of c.args.code.now in
    came_to c.args.made.now c.args.arrivals.now acts c.args.instruction c.args.walk.now c.walk_over.new.walk c.requires.ready
    (ended_all c.args.made.now c.args.arrivals.now (take (c.args.instruction - 1) acts) c.args.walk.now c.walk_over.new.walk c.in_ok-walk_over.field-0 c.in-None.is (ends x))

pub returns-in-Some : goal.returns-in-Some
returns-in-Some c =
    let stop = stopped_at (goal.at.returns-in-Some c).In_ok-walk_over c.in-Some.place c.in-Some.is in
    record { at = c.in-Some.place; counts = refl; earlier = omega (arith, stop.0); stops = stop.1 }
