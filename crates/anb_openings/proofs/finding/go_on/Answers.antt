-- Behind the opening.
use Rattle.std.proofs.Common.{◌≡◌, ◌<◌, ℕ, ◌+◌, length, map, drop, Some, refl, sym, ap, ◌∙◌, subst, arith, length-append}
use Rattle.std.specs.List.{AllByRecursion}
use Rattle.std.proofs.lemmas.List.{drop-map, length-map}
use Rattle.anb_lemmas.proofs.Lists.{got_within}
use Rattle.anb_term.specs.FreeAlgebra.{terms}
use Rattle.anb_term.specs.View.{tree_of}
use Rattle.anb_code.specs.Meaning.{act_of, acts_of}
use Rattle.anb_machine.specs.Works.{HasFewFields}
use Rattle.anb_openings.specs.Steps.{writing, after_all, StopsAt}
use Rattle.anb_openings.specs.Walks.{progress, AreReady, EndsAt}
use Rattle.anb_openings.specs.declared.walking.Walk.{Walk}
use Rattle.anb_openings.proofs.Going.{ready_behind_opening}
use Rattle.anb_openings.proofs.Gone.{ended_all, ended_with, with_parts}
use Rattle.anb_openings.proofs.finding.go_on.Goals as goal
use Rattle.anb_openings.proofs.finding.go_on.Goals.{In_ok-walk_over}

-- the walk with the parts
widened : (c : In_ok-walk_over) → Walk
widened c = record c.args.walk.now { table = c.append.new.self }

widened_is : (c : In_ok-walk_over) → progress c.args.arrivals.now (widened c) ≡ writing (map tree_of c.args.parts.items) (progress c.args.arrivals.now c.args.walk.now)
unfolding widened
widened_is c = with_parts c.args.made.now c.args.arrivals.now c.args.parts.items c.args.walk.now (record c.args.walk.now { table = c.append.new.self }) c.in_ok-append.ensures.items refl refl refl refl

-- the acts behind the opening
ends : (c : In_ok-walk_over) → EndsAt c.args.made.now c.args.arrivals.now (drop c.args.instruction (acts_of c.args.code.now)) (widened c) c.walk_over.new.walk c.in_ok-walk_over.field-0
unfolding widened
ends c =
    let code = c.args.code.now in
    let acts : map (act_of c.formats.result.now) c.instrs_behind-behind.result.now ≡ drop c.args.instruction (acts_of code) =
    ap (λ f. map (act_of f) c.instrs_behind-behind.result.now) c.formats.ensures.formats ∙ ap (map (act_of code.formats)) c.instrs_behind-behind.ensures.instrs ∙ sym (drop-map (act_of code.formats) c.args.instruction code.instrs) in
    subst (λ l. EndsAt c.args.made.now c.args.arrivals.now l (record c.args.walk.now { table = c.append.new.self }) c.walk_over.new.walk c.in_ok-walk_over.field-0) acts c.in_ok-walk_over.ensures

-- where it stopped
stopped_at : (c : In_ok-walk_over) (place : ℕ) → c.in_ok-walk_over.field-0 ≡ Some place
    → (c.args.instruction + place < 4294967295) × StopsAt terms (map tree_of c.args.made.now) (drop c.args.instruction (acts_of c.args.code.now)) (writing (map tree_of c.args.parts.items) (progress c.args.arrivals.now c.args.walk.now)) place
stopped_at c place e =
    let code = c.args.code.now in
    let behind = drop c.args.instruction (acts_of code) in
    let stop = ended_with c.args.made.now c.args.arrivals.now behind (widened c) c.walk_over.new.walk c.in_ok-walk_over.field-0 place e (ends c) in
    let many : length behind ≡ length c.instrs_behind-behind.result.now =
    ap length (drop-map (act_of code.formats) c.args.instruction code.instrs) ∙ length-map (drop c.args.instruction code.instrs) (act_of code.formats) ∙ sym (ap length c.instrs_behind-behind.ensures.instrs) in
    (omega (arith, got_within behind place stop.act stop.here, many, c.instrs_behind-behind.ensures.long), subst (λ s. StopsAt terms (map tree_of c.args.made.now) behind s place) (widened_is c) stop)

pub walk_over-requires-clause-ready : goal.walk_over-requires-clause-ready
walk_over-requires-clause-ready c =
    let code = c.args.code.now in
    let old = c.args.walk.now.table.items in
    let parts = c.args.parts.items in
    let acts : map (act_of c.formats.result.now) c.instrs_behind-behind.result.now ≡ drop c.args.instruction (acts_of code) =
    ap (λ f. map (act_of f) c.instrs_behind-behind.result.now) c.formats.ensures.formats ∙ ap (map (act_of code.formats)) c.instrs_behind-behind.ensures.instrs ∙ sym (drop-map (act_of code.formats) c.args.instruction code.instrs) in
    let many : length c.append.new.self.items ≡ length old + length parts = ap length c.in_ok-append.ensures.items ∙ length-append old parts in
    let ready = ready_behind_opening code c.args.instruction (length old) (length parts) c.requires.opening c.requires.parts c.requires.ready in
    subst (λ l. AreReady l (length c.append.new.self.items)) (sym acts) (subst (λ n. AreReady (drop c.args.instruction (acts_of code)) n) (sym many) ready)

pub walk_over-requires-clause-few : goal.walk_over-requires-clause-few
walk_over-requires-clause-few c = subst (λ f. AllByRecursion (HasFewFields f) c.instrs_behind-behind.result.now) (sym c.formats.ensures.formats) c.instrs_behind-behind.ensures.few

pub returns-in-None : goal.returns-in-None
returns-in-None c =
    let x = (goal.at.returns-in-None c).In_ok-walk_over in
    let behind = drop c.args.instruction (acts_of c.args.code.now) in
    let all = ended_all c.args.made.now c.args.arrivals.now behind (widened x) c.walk_over.new.walk c.in_ok-walk_over.field-0 c.in-None.is (ends x) in
    subst (λ s. after_all terms (map tree_of c.args.made.now) behind s ≡ Some (progress c.args.arrivals.now c.walk_over.new.walk)) (widened_is x) all.goes

pub overflow_cast-result : goal.overflow_cast-result
overflow_cast-result c = let stop = stopped_at (goal.at.overflow_cast-result c).In_ok-walk_over c.in-Some.place c.in-Some.is in omega (arith, stop.0)

pub overflow_add-result : goal.overflow_add-result
overflow_add-result c = let stop = stopped_at (goal.at.overflow_add-result c).In_ok-walk_over c.in-Some.place c.in-Some.is in omega (arith, stop.0)

pub overflow_add-result-in-Some : goal.overflow_add-result-in-Some
overflow_add-result-in-Some c = let stop = stopped_at (goal.at.overflow_add-result-in-Some c).In_ok-walk_over c.in-Some.place c.in-Some.is in omega (arith, stop.0)

pub returns : goal.returns
returns c =
    let stop = stopped_at (goal.at.returns c).In_ok-walk_over c.in-Some.place c.in-Some.is in
    record { at = c.in-Some.place; counts = refl; stops = stop.1 }
