-- The words of `park` and `resume` where the record goes to a file.
use Rattle.std.specs.Prelude.{ℕ, ◌-◌, ◌&&◌, List, [], ◌∷◌, codes, bytes_eq, length, take, drop, Option, Some, None, option_and_then, if◌then◌else◌}
use Rattle.anb_base.specs.declared.place.Place.{Place}
use Rattle.anb_words.specs.Words as words
use Rattle.anb_words.specs.Words.{Asked, asked_of, is_operand}

-- what is asked of the command, and the name of the record's file
pub data Recorded : Type 0 where
  park : (narration role values key : List ℕ) → Place → (file : List ℕ) → Recorded
  resume : (narration role parked key : List ℕ) → Place → (file : List ℕ) → Recorded

-- the same where the record goes over the wire
abbrev pub without_file : Recorded → Asked
without_file (park narration role values key place file) = words.park narration role values key place
without_file (resume narration role parked key place file) = words.resume narration role parked key place

abbrev pub recorded_in : Option Asked → (file : List ℕ) → Option Recorded
recorded_in (Some (words.park narration role values key place)) file = Some (park narration role values key place file)
recorded_in (Some (words.resume narration role parked key place)) file = Some (resume narration role parked key place file)
recorded_in asked file = None

-- the last two words are `--record` and a name
abbrev pub file_in : (end : List (List ℕ)) → Option (List ℕ)
file_in (flag ∷ file ∷ []) = if bytes_eq flag (codes "--record") && is_operand file then Some file else None
file_in end = None

-- before them stand the words of `park` or `resume`
abbrev pub recorded_of : List (List ℕ) → Option Recorded
recorded_of all =
    let before = length all - 2 in
    option_and_then (recorded_in (asked_of (take before all))) (file_in (drop before all))
