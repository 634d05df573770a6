use Rattle.std.proofs.Common.{◌≡◌, ◌<◌, ℕ, length, Some}
use Rattle.std.specs.Prelude.{slice_get}
use Rattle.anb_intern.specs.declared.node.NodeId.{NodeId}
use Rattle.anb_close.specs.Listed.{IsListed}
use Rattle.anb_close.specs.Parents.{list_at, ListsStay}
use Rattle.anb_close.proofs.parents.link_all.Given as goal

abbrev pub invariant-loop-id : goal.invariant-loop-id
invariant-loop-id l = record {
  long : length l.parents.items ≡ length l.initial.parents.items;
  stay : ListsStay l.initial.parents.items l.parents.items;
  so_far : (j : ℕ) (id : NodeId) → j < l.id-index → slice_get l.ids j ≡ Some id → IsListed (list_at l.parents.items id.0) l.n;
}
