use Rattle.std.proofs.Common.{arith, length, map, ap, ◌∙◌, sym}
use Rattle.anb_term.specs.View.{tree_of}
use Rattle.anb_algebra.specs.ByteMeaning.{byte_meaning, has_operator}
use Rattle.anb_term.specs.Lawful.{picked}
use Rattle.anb_term.specs.RecipeView.{first_places}
use Rattle.anb_plays.specs.Honest.{honest, honest_all}
use Rattle.anb_term.specs.Tree.{trees_of}
use Rattle.anb_term.proofs.Lists.{one_size, formed_next}
use Rattle.anb_term.proofs.Places.{length_first, all_first}
use Rattle.anb_honest.proofs.Valuing.{values_next, node_count, node_value}
use Rattle.anb_honest.proofs.given.+honest.Goals as goal

pub all_honest_bytes-honest_bytes-requires : goal.all_honest_bytes-honest_bytes-requires
all_honest_bytes-honest_bytes-requires t c =
    let one = one_size c.args.terms.now c.loop-t.t-index c.t-item.result (omega arith) c.t-item.is in
    (omega (arith, one, c.decreases), (formed_next (has_operator c.args.algebra.now.formats) c.args.terms.now c.loop-t.t-index c.t-item.result (omega arith) c.t-item.is c.loop-t.invariant.formed).0)

pub all_honest_bytes-loop-t-preserved : goal.all_honest_bytes-loop-t-preserved
all_honest_bytes-loop-t-preserved t c =
    let m = byte_meaning c.args.algebra.now.formats c.args.algebra.now.suite in
    let terms = c.args.terms.now in
    let i = c.loop-t.t-index in
    record {
      formed = (formed_next (has_operator c.args.algebra.now.formats) terms i c.t-item.result (omega arith) c.t-item.is c.loop-t.invariant.formed).1;
      values = λ atoms g.
          values_next m atoms terms i c.t-item.result c.loop-t.table.items c.push.new.self.items (honest_all m atoms (trees_of (map tree_of terms))) c.in_ok-honest_bytes.field-0 (omega arith) c.t-item.is
          c.in_ok-push.ensures.items (c.in_ok-honest_bytes.ensures atoms g) (c.loop-t.invariant.values atoms g);
      count = omega (arith, c.loop-t.invariant.count, c.in_ok-push.ensures.len, c.push.new.self.ok.0, c.loop-t.table.ok.0);
    }

pub honest_bytes-build-requires-clause-within : goal.honest_bytes-build-requires-clause-within
honest_bytes-build-requires-clause-within t c =
    let count = node_count (has_operator c.args.algebra.now.formats) c.args.t.now c.in-Node.op c.in-Node.operands c.as_slice.result.now c.in_ok-table-in-Node.table.items c.in-Node.is c.requires c.as_slice.ensures c.in_ok-table-in-Node.ensures.count in
    let h = ap length c.deref.ensures.value in
    rw (c.deref-in-Node.ensures.value, c.in_ok-at-in-Node.ensures) (all_first c.arity.result _ (omega (arith, count, h, c.arity.ensures)))

pub honest_bytes-build-requires-clause-count : goal.honest_bytes-build-requires-clause-count
honest_bytes-build-requires-clause-count t c = ap length (c.deref-in-Node.ensures.value ∙ c.in_ok-at-in-Node.ensures) ∙ length_first c.arity.result ∙ c.arity.ensures

pub honest_bytes-returns-in-Ok : goal.honest_bytes-returns-in-Ok
honest_bytes-returns-in-Ok t c = λ atoms g.
    let m = byte_meaning c.args.algebra.now.formats c.args.algebra.now.suite in
    let count = node_count (has_operator c.args.algebra.now.formats) c.args.t.now c.in-Node.op c.in-Node.operands c.as_slice.result.now c.in_ok-table-in-Node.table.items c.in-Node.is c.requires c.as_slice.ensures c.in_ok-table-in-Node.ensures.count in
    let values = c.in_ok-table-in-Node.ensures.values atoms g ∙ ap (λ l. honest_all m atoms (trees_of l)) c.as_slice.ensures in
    let built = c.in-Ok.ensures ∙ ap (λ l. m.built c.in-Node.op (picked l c.deref-in-Node.result.now)) c.deref.ensures.value in
    node_value m atoms c.in-Node.op c.in-Node.operands c.in_ok-table-in-Node.table.items c.deref-in-Node.result.now c.in-Ok.bytes
    (c.deref-in-Node.ensures.value ∙ c.in_ok-at-in-Node.ensures ∙ ap first_places c.arity.ensures) count values built
    ∙ ap (λ x. honest m atoms (tree_of x)) (sym c.in-Node.is)
