use Rattle.std.proofs.Common.{◌≡◌, ◌+◌, ◌-◌, ◌≤◌, length, drop}
use Rattle.anb_value_mistakes.specs.Diagnosis.{characters_len}
use Rattle.anb_value_mistakes.proofs.quoted.characters_len.Given as goal

abbrev pub invariant-characters : goal.invariant-characters
invariant-characters l = record { within : l.n ≤ length l.bytes; so_far : characters_len 0 l.bytes ≡ l.n + characters_len 0 (drop l.n l.bytes) }

abbrev pub decreases-characters : goal.decreases-characters
decreases-characters l = length l.bytes - l.n
