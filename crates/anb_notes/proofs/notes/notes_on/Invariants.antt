use Rattle.std.proofs.Common.{◌≡◌, ◌-◌, ◌++◌, length}
use Rattle.std.specs.List.{flat_map, range_with_len}
use Rattle.anb_notes.specs.Notes.{name_notes}
use Rattle.anb_notes.proofs.notes.notes_on.Given as goal

abbrev pub invariant-loop-x : goal.invariant-loop-x
invariant-loop-x l = l.out.items ++ flat_map (name_notes l.protocol) (range_with_len l.x (length l.protocol.atoms - l.x)) ≡ flat_map (name_notes l.protocol) (range_with_len 0 (length l.protocol.atoms))
