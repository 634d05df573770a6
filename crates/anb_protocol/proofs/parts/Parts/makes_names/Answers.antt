use Rattle.std.proofs.Common.{◌≡◌, ◌<◌, List, ℕ, Bool, [], length, ap, sym, ◌∙◌, subst, arith, get_or, refl, take, drop}
use Rattle.std.specs.Prelude.{◌==◌}
use Rattle.std.proofs.lemmas.List.{length-map, drop_all}
use Rattle.anb_protocol.specs.Choices.{each_after}
use Rattle.anb_protocol.specs.Plans.{made_at}
use Rattle.anb_protocol.specs.Seen.{AreSeen}
use Rattle.anb_protocol.specs.Views.{action_value, value_of}
use Rattle.anb_protocol.proofs.Elements.{seen_as, within_map}
use Rattle.anb_protocol.proofs.Planned.{seen_next}
use Rattle.anb_protocol.proofs.SeenLemmas.{seen_first}
use Rattle.anb_protocol.proofs.Making.{makes_none, made_none, made_some, is_nothing, is_something}
use Rattle.anb_protocol.proofs.parts.Parts.makes_names.Goals as goal

pub loop-action-init : goal.loop-action-init
loop-action-init c =
    let p = value_of c.args.self.now in
    let P : List Bool → Type 0 = λ flags. AreSeen p [] flags in
    record { seen = subst P (sym c.in_ok-seen.ensures) (seen_first p); none = refl }

pub loop-action-preserved : goal.loop-action-preserved
loop-action-preserved c =
    let p = value_of c.args.self.now in
    let items = c.args.self.now.actions.items in
    let a = c.action-item.result in
    let i = c.loop-action.action-index in
    let here : i < length items = omega (arith, c.loop-action-test.true, ap length c.deref-action-items.ensures.value) in
    let is : a ≡ get_or items i a = rw c.deref-action-items.ensures.value at c.action-item.is in
    let within = within_map action_value items i here in
    let stands = seen_as action_value items i a is in
    let names = c.in_ok-names.names.items in
    let none : names ≡ [] = is_nothing names (ap (λ (ns : List ℕ). length ns == 0) (sym c.as_slice.ensures.value) ∙ sym c.is_empty.ensures ∙ c.if-not-is_empty.false) in
    record {
      seen = seen_next p p.actions i (action_value a) c.loop-action.seen.items c.made_names.new.seen.items within stands c.loop-action.invariant.seen c.in_ok-names.ensures.marks;
      none = made_none p p.actions i (action_value a) c.loop-action.seen.items names _ within stands c.loop-action.invariant.seen c.in_ok-names.ensures.made none c.loop-action.invariant.none;
    }

pub returns-then-not-is_empty : goal.returns-then-not-is_empty
returns-then-not-is_empty c =
    let p = value_of c.args.self.now in
    let items = c.args.self.now.actions.items in
    let a = c.action-item.result in
    let i = c.loop-action.action-index in
    let here : i < length items = omega (arith, c.loop-action-test.true, ap length c.deref-action-items.ensures.value) in
    let is : a ≡ get_or items i a = rw c.deref-action-items.ensures.value at c.action-item.is in
    let names = c.in_ok-names.names.items in
    let some = is_something names (ap (λ (ns : List ℕ). length ns == 0) (sym c.as_slice.ensures.value) ∙ sym c.is_empty.ensures ∙ c.if-not-is_empty.true) in
    let m = made_some p i (action_value a) c.loop-action.seen.items names (within_map action_value items i here) (seen_as action_value items i a is) c.loop-action.invariant.seen c.in_ok-names.ensures.made some c.requires in
    ((λ t. m), (λ t. refl))

pub returns : goal.returns
returns c =
    let p = value_of c.args.self.now in
    let items = c.args.self.now.actions.items in
    let i = c.loop-action.action-index in
    let done : drop i p.actions ≡ [] = drop_all i p.actions (omega (arith, c.loop-action-test.false, ap length c.deref-action-items.ensures.value, length-map items action_value)) in
    let none = c.loop-action.invariant.none ∙ ap (λ l. each_after (made_at p) (take i p.actions) l) done in
    ((λ t. absurd (cc t)), (λ m. absurd (makes_none p none m)))
