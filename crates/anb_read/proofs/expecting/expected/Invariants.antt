use Rattle.std.proofs.Common.{take}
use Rattle.anb_read.proofs.GoingOn.{Answered}
use Rattle.anb_read.specs.Places.{toks}
use Rattle.anb_read.proofs.expecting.expected.Given as goal

abbrev pub invariant-loop-word : goal.invariant-loop-word
invariant-loop-word l = Answered (toks l.text l.front) (take l.word-index l.word-items) l.words.items
