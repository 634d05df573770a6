-- The words of `replay` and `trace` where the number of a session is said.
use Rattle.std.specs.Prelude.{ℕ, ◌-◌, List, [], ◌∷◌, codes, bytes_eq, length, take, drop, Option, Some, None, option_and_then, if◌then◌else◌}
use Rattle.anb_text.specs.Reading.{number_of}
use Rattle.anb_words.specs.Words as words
use Rattle.anb_words.specs.Words.{Asked, asked_of}

-- what is asked of the command, and the number of the session
pub data Following : Type 0 where
  replay : (narration role values transcript : List ℕ) → (session : ℕ) → Following
  trace : (narration role values transcript : List ℕ) → (session : ℕ) → Following

-- the same of session 0, whose number isn't said
abbrev pub without_session : Following → Asked
without_session (replay narration role values transcript session) = words.replay narration role values transcript
without_session (trace narration role values transcript session) = words.trace narration role values transcript

abbrev pub following_in : Option Asked → (session : ℕ) → Option Following
following_in (Some (words.replay narration role values transcript)) session = Some (replay narration role values transcript session)
following_in (Some (words.trace narration role values transcript)) session = Some (trace narration role values transcript session)
following_in asked session = None

-- the last two words are `--session` and a number below 2^32, in decimal without a sign or leading zeros
abbrev pub session_in : (end : List (List ℕ)) → Option ℕ
session_in (flag ∷ number ∷ []) = if bytes_eq flag (codes "--session") then number_of number else None
session_in end = None

-- before them stand the words of `replay` or `trace`
abbrev pub following_of : List (List ℕ) → Option Following
following_of all =
    let before = length all - 2 in
    option_and_then (following_in (asked_of (take before all))) (session_in (drop before all))
