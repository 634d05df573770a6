use Rattle.std.proofs.Common.{◌≡◌, ◌++◌, take}
use Rattle.anb_spoil.specs.Changes.{xor_one}
use Rattle.anb_spoil.proofs.changes.put_xor_one.Given as goal

abbrev pub invariant-loop-b : goal.invariant-loop-b
invariant-loop-b l = l.out.items ≡ l.initial.out.items ++ xor_one (take l.b-index l.bytes)
