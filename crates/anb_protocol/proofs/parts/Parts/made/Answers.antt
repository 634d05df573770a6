use Rattle.std.proofs.Common.{◌≡◌, ℕ, ◌<◌, ◌++◌, ◌∷◌, List, Bool, [], length, map, take, drop, ap, sym, ◌∙◌, subst, arith, get_or, append-nil}
use Rattle.std.proofs.lemmas.List.{length-map, drop_all}
use Rattle.anb_protocol.specs.Choices.{each_after}
use Rattle.anb_protocol.specs.Plans.{names_made_at}
use Rattle.anb_protocol.specs.Seen.{AreSeen}
use Rattle.anb_protocol.specs.Texts.{atom_name}
use Rattle.anb_protocol.specs.Views.{action_value, value_of}
use Rattle.anb_protocol.proofs.Elements.{seen_as, within_map}
use Rattle.anb_protocol.proofs.Planned.{made_next, seen_next}
use Rattle.anb_protocol.proofs.SeenLemmas.{seen_first}
use Rattle.anb_protocol.proofs.parts.Parts.made.Goals as goal

pub loop-action-init : goal.loop-action-init
loop-action-init c =
    let p = value_of c.args.self.now in
    let P : List Bool → Type 0 = λ flags. AreSeen p [] flags in
    record { seen = subst P (sym c.in_ok-seen.ensures) (seen_first p); made = ap (λ (l : List (List (List ℕ))). l ++ each_after (names_made_at p) [] p.actions) c.new-made.ensures.items }

pub loop-action-preserved : goal.loop-action-preserved
loop-action-preserved c =
    let p = value_of c.args.self.now in
    let items = c.args.self.now.actions.items in
    let a = c.action-item.result in
    let i = c.loop-action.action-index in
    let here : i < length items = omega (arith, c.loop-action-test.true, ap length c.deref-action-items.ensures.value) in
    let is : a ≡ get_or items i a = rw c.deref-action-items.ensures.value at c.action-item.is in
    let within = within_map action_value items i here in
    let stands = seen_as action_value items i a is in
    let names = c.in_ok-atom_texts.field-0.items in
    let written : names ≡ map (atom_name p) c.in_ok-atoms.atoms.items = c.in_ok-atom_texts.ensures ∙ ap (map (atom_name p)) c.deref.ensures.value in
    let put : c.push.new.self.items ≡ c.loop-action.made.items ++ names ∷ [] = c.in_ok-push.ensures.items ∙ ap (λ (ns : List (List ℕ)). c.loop-action.made.items ++ ns ∷ []) c.new.ensures in
    record {
      seen = seen_next p p.actions i (action_value a) c.loop-action.seen.items c.made_names.new.seen.items within stands c.loop-action.invariant.seen c.in_ok-atoms.ensures.marks;
      made = made_next p p.actions i (action_value a) c.loop-action.seen.items c.in_ok-atoms.atoms.items names c.loop-action.made.items _ _ within stands c.loop-action.invariant.seen c.in_ok-atoms.ensures.made written put c.loop-action.invariant.made;
    }

pub returns : goal.returns
returns c =
    let p = value_of c.args.self.now in
    let items = c.args.self.now.actions.items in
    let i = c.loop-action.action-index in
    let done : drop i p.actions ≡ [] = drop_all i p.actions (omega (arith, c.loop-action-test.false, ap length c.deref-action-items.ensures.value, length-map items action_value)) in
    sym (append-nil c.loop-action.made.items) ∙ ap (λ l. c.loop-action.made.items ++ each_after (names_made_at p) (take i p.actions) l) (sym done) ∙ c.loop-action.invariant.made
