use Rattle.std.proofs.Common.{◌∙◌, ap, arith, subst, map, List}
use Rattle.std.proofs.lemmas.List.{map-append, take_all}
use Rattle.std.specs.Prelude.{nat_eq}
use Rattle.anb_plays.specs.Honest.{honest}
use Rattle.anb_algebra.specs.ByteMeaning.{byte_meaning}
use Rattle.anb_compile.specs.Emitting.{known_in}
use Rattle.anb_protocol.specs.Names.{distinct}
use Rattle.anb_protocol.specs.Plans.{PlanEvent}
use Rattle.anb_protocol.specs.Texts.{atoms_in_each}
use Rattle.std.specs.List.{flat_map}
use Rattle.anb_honest.specs.Given.{IsTable, items_of}
use Rattle.anb_honest.specs.Joint.{cast, given}
use Rattle.anb_honest.proofs.Begun.{known_all}
use Rattle.anb_honest.proofs.Placing.{table_gives}
use Rattle.anb_honest.proofs.Valuing.{mapped_next}
use Rattle.anb_honest.proofs.Setting.{plan_formed_at, initial_done}
use Rattle.anb_honest.proofs.beginning.initial_values.Goals as goal

pub values_of-requires : goal.values_of-requires
values_of-requires c =
    plan_formed_at c.args.p.now c.requires.holds c.args.plans.now c.loop-plan.plan-index c.plan-item.result c.requires.plans (omega arith) c.plan-item.is c.new-algebra.result.formats (c.new-algebra.ensures.formats ∙ c.formats.ensures)

pub loop-plan-preserved : goal.loop-plan-preserved
loop-plan-preserved c = λ atoms g.
    mapped_next (λ (plan : List PlanEvent). map (honest (byte_meaning c.new-algebra.result.formats c.new-algebra.result.suite) atoms) (known_in plan)) c.args.plans.now c.loop-plan.plan-index c.plan-item.result
    (map items_of c.loop-plan.all.items) (map items_of c.push.new.self.items) c.in_ok-values_of.field-0.items (omega arith) c.plan-item.is (c.loop-plan.invariant atoms g)
    (ap (map items_of) c.in_ok-push.ensures.items ∙ map-append items_of c.loop-plan.all.items _) (c.in_ok-values_of.ensures atoms g)

pub returns : goal.returns
returns c = λ codes seed.
    let p = c.args.p.now in
    let k = cast p codes c.args.values.now seed in
    let atoms = c.in_ok-known.ensures ∙ ap (λ l. atoms_in_each (flat_map known_in l)) c.requires.plans ∙ ap atoms_in_each (known_all p c.requires.holds.knows) in
    let g = table_gives k c.in_ok-given.given (subst (λ l. IsTable (distinct nat_eq l) c.in_ok-given.given.places.items) atoms c.in_ok-given.ensures.places) c.in_ok-given.ensures.values in
    initial_done k c.args.plans.now c.loop-plan.all.items c.new-algebra.result.formats c.new-algebra.result.suite (c.new-algebra.ensures.formats ∙ c.formats.ensures) (c.new-algebra.ensures.suite ∙ c.suite.ensures) c.requires.plans
    (c.loop-plan.invariant (given k) g
    ∙ ap (map (λ (plan : List PlanEvent). map (honest (byte_meaning c.new-algebra.result.formats c.new-algebra.result.suite) (given k)) (known_in plan))) (take_all c.loop-plan.plan-index c.args.plans.now (omega arith)))
