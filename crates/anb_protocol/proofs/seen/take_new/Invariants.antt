use Rattle.std.proofs.Common.{◌≡◌, ◌++◌, drop}
use Rattle.anb_protocol.specs.Seen.{marked, new_among}
use Rattle.anb_protocol.proofs.seen.take_new.Given as goal

abbrev pub invariant-loop-a : goal.invariant-loop-a
invariant-loop-a l = record {
  new : l.new.items ++ new_among l.flags.items (drop l.a-index l.atoms) ≡ new_among l.initial.flags.items l.atoms;
  marks : marked l.flags.items (drop l.a-index l.atoms) ≡ marked l.initial.flags.items l.atoms;
}
