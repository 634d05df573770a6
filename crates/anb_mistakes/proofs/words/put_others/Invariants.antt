use Rattle.std.proofs.Common.{◌≡◌, ◌++◌, drop}
use Rattle.anb_mistakes.specs.Words.{other_words}
use Rattle.anb_mistakes.proofs.words.put_others.Given as goal

abbrev pub invariant-loop-i : goal.invariant-loop-i
invariant-loop-i l = l.out.items ++ other_words (drop l.i l.words) ≡ l.fn.out.items ++ other_words l.words
