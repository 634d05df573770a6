-- What holds of participants as they are written.
use Rattle.std.specs.Prelude.{◌≡◌, ℕ, List, true, false}
use Rattle.anb_syntax.specs.Words.{is_spelled}
use Rattle.anb_chart.specs.Participants.{escaped, is_word}

-- none is a word that the language keeps for itself
abbrev pub ParticipantsAreNoWords : Type 0
ParticipantsAreNoWords = (name : List ℕ) → is_word (escaped name) ≡ false

-- and different names are written differently
abbrev pub ParticipantsAreToldApart : Type 0
ParticipantsAreToldApart = (x y : List ℕ) → is_spelled x ≡ true → is_spelled y ≡ true → escaped x ≡ escaped y → x ≡ y
