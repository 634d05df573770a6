-- What holds of the texts that are written.
use Rattle.std.specs.Prelude.{◌≡◌, ◌≢◌, ℕ, List, [], Ok, Err}
use Rattle.anb_values.specs.Fit.{Fit}
use Rattle.anb_values.specs.declared.fitted.Fitted.{Fitted}
use Rattle.anb_values.specs.declared.refusal.ValuesNo.{ValuesNo}
use Rattle.anb_value_mistakes.specs.Mistakes.{IsMistakesText}

-- one text is said of a file
abbrev pub MistakesTextsAreOne : Type 0
MistakesTextsAreOne = (name x : List ℕ) (names : List (List ℕ)) (text other : List ℕ)
    → IsMistakesText name x names text → IsMistakesText name x names other → text ≡ other

-- nothing is said of a file that gives all values, and something of each other
abbrev pub MistakesAreFaults : Type 0
MistakesAreFaults = (name x : List ℕ) (names : List (List ℕ)) (text : List ℕ) → IsMistakesText name x names text
    → ((fitted : Fitted) → Fit x names (Ok fitted) → text ≡ []) × ((why : ValuesNo) → Fit x names (Err why) → text ≢ [])
