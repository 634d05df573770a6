use Rattle.std.proofs.Common.{◌≡◌, filter, length, take}
use Rattle.std.specs.List.{slice_split}
use Rattle.anb_stage_commands.specs.Words.{is_space, is_word}
use Rattle.anb_stage_commands.proofs.casts.program_words.Given as goal

abbrev pub invariant-loop-word : goal.invariant-loop-word
invariant-loop-word l = l.words.items ≡ filter is_word (take (length l.yielded) (slice_split is_space l.program))
