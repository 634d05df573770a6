use Rattle.std.proofs.Common.{◌∙◌, ◌<◌, ap, arith, length, subst}
use Rattle.std.specs.Prelude.{nat_eq}
use Rattle.std.specs.List.{flat_map}
use Rattle.anb_compile.specs.Emitting.{known_in}
use Rattle.anb_protocol.specs.Names.{distinct}
use Rattle.anb_protocol.specs.Plans.{plan_of}
use Rattle.anb_protocol.specs.Texts.{atoms_in_each}
use Rattle.anb_honest.specs.Given.{IsTable}
use Rattle.anb_honest.specs.Joint.{cast, given}
use Rattle.anb_honest.proofs.Begun.{known_all}
use Rattle.anb_honest.proofs.Placing.{table_gives}
use Rattle.anb_honest.proofs.Setting.{known_done, long_is, plan_formed_at, ranged}
use Rattle.anb_honest.proofs.Staging.{ok_map}
use Rattle.anb_honest.proofs.knowing.known_values.Goals as goal

pub index-requires : goal.index-requires
index-requires c =
    let p = c.args.p.now in
    let n = long_is (plan_of p) c.in_ok-plans.plans.items (length p.roles) c.in_ok-plans.ensures in
    omega (arith, n, c.in_ok-plans.plans.ok.0, c.requires)

pub values_of-requires : goal.values_of-requires
values_of-requires c =
    let p = c.args.p.now in
    let holds = c.protocols_hold.ensures p c.name.ensures.protocol in
    let n = long_is (plan_of p) c.in_ok-plans.plans.items (length p.roles) c.in_ok-plans.ensures in
    plan_formed_at p holds c.in_ok-plans.plans.items c.args.role c.index.result.now c.in_ok-plans.ensures (omega (arith, n, c.requires)) c.index.ensures c.new-algebra.result.formats
    (c.new-algebra.ensures.formats ∙ c.formats.ensures)

pub returns : goal.returns
returns c =
    let p = c.args.p.now in
    let holds = c.protocols_hold.ensures p c.name.ensures.protocol in
    let plans = c.in_ok-plans.plans.items in
    let atoms = c.in_ok-known.ensures ∙ ap (λ l. atoms_in_each (flat_map known_in l)) (c.deref.ensures.value ∙ c.in_ok-plans.ensures) ∙ ap atoms_in_each (known_all p holds.knows) in
    let plan = ranged (plan_of p) plans (length p.roles) c.args.role c.index.result.now c.in_ok-plans.ensures c.requires c.index.ensures in
    ok_map c.values_of.result c.values_of.ensures (λ values is. λ codes seed.
    let k = cast p codes c.args.atoms.now seed in
    let g = table_gives k c.in_ok-given.given (subst (λ l. IsTable (distinct nat_eq l) c.in_ok-given.given.places.items) atoms c.in_ok-given.ensures.places) c.in_ok-given.ensures.values in
    known_done k c.args.role c.index.result.now c.new-algebra.result.formats c.new-algebra.result.suite (c.new-algebra.ensures.formats ∙ c.formats.ensures) (c.new-algebra.ensures.suite ∙ c.suite.ensures) plan
    values.items (is (given k) g))
