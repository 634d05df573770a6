use Rattle.std.proofs.Common.{◌≡◌, ◌*◌, ◌++◌, take}
use Rattle.rand_chacha.specs.ChaCha.{key_of}
use Rattle.anb_seal.specs.Streams.{stream_bytes, xored}
use Rattle.anb_spoil.proofs.tags.masked_after.Given as goal

abbrev pub invariant-loop-i : goal.invariant-loop-i
invariant-loop-i l = l.masked.items ≡ l.initial.masked.items ++ xored (take (32 * l.i) l.m) (stream_bytes (key_of l.seed) 0 0 (8 * l.i))
