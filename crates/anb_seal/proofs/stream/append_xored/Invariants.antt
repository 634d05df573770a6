use Rattle.std.proofs.Common.{◌≡◌, ◌+◌, ◌++◌, take, vec_len}
use Rattle.std.specs.Vec.{vec_capacity}
use Rattle.anb_seal.specs.Streams.{xored}
use Rattle.anb_seal.proofs.stream.append_xored.Given as goal

abbrev pub invariant-loop-i : goal.invariant-loop-i
invariant-loop-i l = record {
  items : l.masked.items ≡ l.fn.masked.items ++ xored (take l.i l.bytes) (take l.i l.pad);
  len : vec_len l.masked ≡ vec_len l.fn.masked + l.i;
  capacity : vec_capacity l.masked ≡ vec_capacity l.fn.masked;
}
