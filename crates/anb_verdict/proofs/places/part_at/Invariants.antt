use Rattle.std.proofs.Common.{◌≡◌, drop}
use Rattle.anb_term.specs.View.{tree_of}
use Rattle.anb_protocol.specs.Protocols.{ProtocolValue}
use Rattle.anb_protocol.specs.Texts.{IsTermOf}
use Rattle.anb_verdict.specs.Places.{part_at}
use Rattle.anb_verdict.proofs.places.part_at.Given as goal

abbrev pub invariant-loop-i : goal.invariant-loop-i
invariant-loop-i l = record {
  part : part_at (tree_of l.part) (drop l.i-index l.path) ≡ part_at (tree_of l.t) l.path;
  term : (p : ProtocolValue) → IsTermOf p (tree_of l.t) → IsTermOf p (tree_of l.part);
}
