use Rattle.std.proofs.Common.{◌≡◌, ◌<◌, ◌+◌, List, length, take, get_or, ap, sym, ◌∙◌, subst, arith, Some}
use Rattle.std.specs.Prelude.{not}
use Rattle.std.proofs.lemmas.List.{length-take-le}
use Rattle.anb_base.specs.declared.TheConstants.{ARRIVAL, WIDE}
use Rattle.anb_format.specs.Formats.{FormatValue}
use Rattle.anb_term.specs.Tree.{IsFormed}
use Rattle.anb_term.specs.View.{tree_of}
use Rattle.anb_algebra.specs.ByteMeaning.{has_operator}
use Rattle.anb_protocol.specs.declared.refusals.ResolveNo.TheVariants.{Wide}
use Rattle.anb_protocol.specs.declared.refusals.Item.TheVariants.{Action}
use Rattle.anb_protocol.specs.Choices.{refuse_if}
use Rattle.anb_protocol.specs.Protocols.{ActionValue}
use Rattle.anb_protocol.specs.Widths.{fits_width}
use Rattle.anb_protocol.specs.Views.{action_value, value_of}
use Rattle.anb_protocol.proofs.Elements.{seen_as, within_map}
use Rattle.anb_protocol.proofs.FirstLemmas.{first_here, first_next, refuses, passes}
use Rattle.anb_protocol.proofs.KnowLemmas.{formed_message}
use Rattle.anb_protocol.proofs.parts.Parts.wide_message.Goals as goal

pub fits-requires : goal.fits-requires
fits-requires c =
    let p = value_of c.args.self.now in
    let items = c.args.self.now.actions.items in
    let a = c.action-item.result in
    let i = c.loop-i.i in
    let here : i < length items = omega (arith, c.loop-i-test.true, ap length c.deref-action-items.ensures.value) in
    let is : a ≡ get_or items i a = rw c.deref-action-items.ensures.value at c.action-item.is in
    let Q : List FormatValue → Type 0 = λ fs. IsFormed (has_operator fs) (tree_of a.message) in
    subst Q (sym c.deref.ensures.value) (formed_message p p.actions i (action_value a) (within_map action_value items i here) (seen_as action_value items i a is) c.requires.sent)

pub returns-then-not-branch : goal.returns-then-not-branch
returns-then-not-branch c =
    let p = value_of c.args.self.now in
    let acts = p.actions in
    let items = c.args.self.now.actions.items in
    let a = c.action-item.result in
    let i = c.loop-i.i in
    let here : i < length items = omega (arith, c.loop-i-test.true, ap length c.deref-action-items.ensures.value) in
    let is : a ≡ get_or items i a = rw c.deref-action-items.ensures.value at c.action-item.is in
    let within = within_map action_value items i here in
    let stands = seen_as action_value items i a is in
    let f = λ (before : List ActionValue) (x : ActionValue). refuse_if (not (fits_width ARRIVAL p.formats WIDE x.message)) (Wide (Action (length before + 1))) in
    let found = ap (λ (fs : List FormatValue). fits_width ARRIVAL fs WIDE (tree_of a.message)) (sym c.deref.ensures.value) ∙ sym c.in_ok-fits.ensures in
    ap (λ n. Some (Wide (Action (n + 1)))) (sym (length-take-le i acts (omega (arith, within))))
    ∙ first_here f acts i (action_value a) _ within stands (Wide (Action (length (take i acts) + 1))) (refuses _ _ (ap not (found ∙ c.if-not-branch.true))) c.loop-i.invariant

pub loop-i-preserved : goal.loop-i-preserved
loop-i-preserved c =
    let p = value_of c.args.self.now in
    let acts = p.actions in
    let items = c.args.self.now.actions.items in
    let a = c.action-item.result in
    let i = c.loop-i.i in
    let here : i < length items = omega (arith, c.loop-i-test.true, ap length c.deref-action-items.ensures.value) in
    let is : a ≡ get_or items i a = rw c.deref-action-items.ensures.value at c.action-item.is in
    let within = within_map action_value items i here in
    let stands = seen_as action_value items i a is in
    let f = λ (before : List ActionValue) (x : ActionValue). refuse_if (not (fits_width ARRIVAL p.formats WIDE x.message)) (Wide (Action (length before + 1))) in
    let found = ap (λ (fs : List FormatValue). fits_width ARRIVAL fs WIDE (tree_of a.message)) (sym c.deref.ensures.value) ∙ sym c.in_ok-fits.ensures in
    first_next f acts i (action_value a) _ within stands (passes _ _ (ap not (found ∙ c.if-not-branch.false))) c.loop-i.invariant
