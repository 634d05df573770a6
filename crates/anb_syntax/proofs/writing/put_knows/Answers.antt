use Rattle.std.proofs.Common.{◌≡◌, ◌++◌, List, [], length, map, drop, sym, ap, ◌∙◌, subst, arith, append-nil, vec_len}
use Rattle.std.specs.Prelude.{◌==◌}
use Rattle.std.proofs.lemmas.List.{drop_all}
use Rattle.std.specs.List.{flat_map}
use Rattle.anb_syntax.specs.Canon.{all_bytes, lay_know}
use Rattle.anb_syntax.specs.Views.{know_of}
use Rattle.anb_syntax.specs.declared.narration.KnowItem.{KnowItem}
use Rattle.anb_syntax.proofs.Laying.{knows_bytes, behind, no_items}
use Rattle.anb_syntax.proofs.writing.put_knows.Goals as goal

pub returns : goal.returns
returns c =
    let items = c.args.knows.now.items in
    let out = c.loop-item.out.items in
    let all = all_bytes (flat_map lay_know (map know_of items)) in
    let done : drop c.loop-item.item-index items ≡ [] = drop_all c.loop-item.item-index items (omega (arith, c.loop-item-test.false, ap length c.deref-item-items.ensures.value)) in
    let same : length items ≡ vec_len c.args.knows.now = sym (ap length c.deref-item-items.ensures.value) ∙ c.deref-item-items.ensures.len in
    let P : List KnowItem → Type 0 = λ rest. out ++ all_bytes (flat_map lay_know (map know_of rest)) ≡ c.extend_from_slice.new.self.items ++ all in
    sym (append-nil out) ∙ behind _ _ _ _ (subst P done c.loop-item.invariant) c.in_ok-extend_from_slice.ensures.items ∙ knows_bytes (map know_of items) c.args.out.now.items (no_items know_of items (ap (λ n. n == 0) same ∙ sym c.is_empty.ensures ∙ c.if-is_empty.false))
