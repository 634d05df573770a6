use Rattle.std.proofs.Common.{◌≡◌, map, drop, List}
use Rattle.std.specs.List.{list_all}
use Rattle.anb_term.specs.Tree.{Tree}
use Rattle.anb_intern.specs.Nodes.{operands_at}
use Rattle.anb_reason.specs.Decided.{is_among, composes, parts_in}
use Rattle.anb_reason.proofs.shut_lists.are_parted.Given as goal

abbrev pub invariant-loop-id : goal.invariant-loop-id
invariant-loop-id l = (S : List Tree) → l.marks ≡ map (is_among S) l.pool → l.composing ≡ map (composes S) l.pool
    → list_all (parts_in S) (operands_at l.pool l.ids) ≡ list_all (parts_in S) (operands_at l.pool (drop l.id-index l.ids))
