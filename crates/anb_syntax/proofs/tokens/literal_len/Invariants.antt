use Rattle.std.proofs.Common.{◌≡◌, ◌-◌, ◌≤◌, length, drop}
use Rattle.anb_syntax.specs.Scanning.{characters_len, farther}
use Rattle.anb_syntax.proofs.tokens.literal_len.Given as goal

abbrev pub invariant-characters : goal.invariant-characters
invariant-characters l = record { within : l.len ≤ length l.text; so_far : characters_len l.text ≡ farther l.len (characters_len (drop l.len l.text)) }

abbrev pub decreases-characters : goal.decreases-characters
decreases-characters l = length l.text - l.len
