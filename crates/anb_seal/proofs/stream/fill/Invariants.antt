use Rattle.std.proofs.Common.{◌≡◌, ◌+◌, ◌*◌, take}
use Rattle.anb_seal.specs.Streams.{stream_bytes}
use Rattle.anb_seal.proofs.stream.fill.Given as goal

abbrev pub invariant-loop-i : goal.invariant-loop-i
invariant-loop-i l = record {
  words : l.words ≡ record l.fn.words { word_pos = l.fn.words.word_pos + l.i };
  bytes : take (4 * l.i) l.bytes ≡ stream_bytes l.fn.words.key l.fn.words.stream l.fn.words.word_pos l.i;
}
