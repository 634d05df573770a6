use Rattle.std.proofs.Common.{◌≡◌, ◌+◌, ◌*◌, ◌++◌, take, min, length, vec_len}
use Rattle.std.specs.Vec.{vec_capacity}
use Rattle.rand_chacha.specs.ChaCha.{key_of}
use Rattle.anb_seal.specs.Streams.{stream_bytes, xored}
use Rattle.anb_seal.proofs.stream.append_masked.Given as goal

abbrev pub invariant-loop-i : goal.invariant-loop-i
invariant-loop-i l = record {
  words : l.words ≡ record { key = key_of l.fn.key; stream = 0; word_pos = 64 * l.i };
  items : l.masked.items ≡ l.initial.masked.items ++ xored (take (256 * l.i) l.bytes) (stream_bytes (key_of l.fn.key) 0 0 (64 * l.i));
  len : vec_len l.masked ≡ vec_len l.initial.masked + min (256 * l.i) (length l.bytes);
  capacity : vec_capacity l.masked ≡ vec_capacity l.initial.masked;
}
