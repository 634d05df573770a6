-- When the place of the words is reached.
use Rattle.std.specs.Prelude.{◌≡◌, ℕ, ◌⊎◌, List, Option, Some, None}
use Rattle.anb_base.specs.Moves.{Put}
use Rattle.anb_base.specs.Places.{line_of}
use Rattle.anb_base.specs.declared.place.Place.{Place}
use Rattle.anb_status.specs.Statuses.{Phase, before_reach, at_reach, after_reach, at_any_time}

-- What is told of the places that were reached, by when the status comes: nothing more, or the line of
-- this place more. Where the words ask for nothing, nothing is reached.
abbrev pub Reaches : Option Place → Phase → Option (List ℕ) → Option (List ℕ) → Type 0
Reaches None phase old new = new ≡ old
Reaches (Some place) before_reach old new = new ≡ old
Reaches (Some place) at_reach old new = new ≡ old
Reaches (Some place) after_reach old new = Put old new (line_of place)
Reaches (Some place) at_any_time old new = (new ≡ old) ⊎ Put old new (line_of place)
