use Rattle.std.proofs.Common.{◌≡◌, ◌++◌, take}
use Rattle.anb_seal.specs.Streams.{xored}
use Rattle.anb_spoil.proofs.tags.put_xored.Given as goal

abbrev pub invariant-loop-i : goal.invariant-loop-i
invariant-loop-i l = l.out.items ≡ l.initial.out.items ++ xored (take l.i l.bytes) (take l.i l.pad)
