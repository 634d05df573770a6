use Rattle.std.proofs.Common.{◌≡◌, ◌-◌, ◌++◌, length}
use Rattle.std.specs.List.{flat_map, range_with_len}
use Rattle.anb_notes.specs.Places.{made_by}
use Rattle.anb_notes.proofs.places.makers.Given as goal

abbrev pub invariant-loop-role : goal.invariant-loop-role
invariant-loop-role l = l.out.items ++ flat_map (made_by l.protocol) (range_with_len l.role (length l.protocol.roles - l.role)) ≡ flat_map (made_by l.protocol) (range_with_len 0 (length l.protocol.roles))
