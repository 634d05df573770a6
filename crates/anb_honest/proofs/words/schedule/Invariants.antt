use Rattle.std.proofs.Common.{◌≡◌, length, map, take, Some}
use Rattle.std.specs.Prelude.{filter}
use Rattle.std.specs.List.{slice_split}
use Rattle.anb_protocol.specs.Protocols.{role_named}
use Rattle.anb_honest.specs.Words.{is_blank, is_word}
use Rattle.anb_honest.proofs.words.schedule.Given as goal

abbrev pub invariant-loop-word : goal.invariant-loop-word
invariant-loop-word l = map Some l.turns.items ≡ map (role_named l.p) (filter is_word (take (length l.yielded) (slice_split is_blank l.text)))
