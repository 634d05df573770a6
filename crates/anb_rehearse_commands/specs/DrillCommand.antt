-- What `drill` does: it tells how much the rehearsal of a drill's narration is, of as many exchanges as
-- are wanted.
use Rattle.std.specs.Prelude.{◌≡◌, ℕ, List, [], ◌∷◌, ◌++◌, codes, decimal}
use Rattle.anb_base.specs.Wires.{WireState}
use Rattle.anb_gen.specs.Counts.{Counts, drill_counts}
use Rattle.anb_status.specs.declared.status.Status.{Status}
use Rattle.anb_command.specs.Steps.{Answer, given}
use Rattle.anb_command.specs.Writing.{CompletesText, IsWritingOne}

-- the rest of a line that tells counts
abbrev pub counts_text : Counts → List ℕ
counts_text c =
    codes ": actions " ++ decimal c.actions
    ++ codes ", turns " ++ decimal c.turns ++ codes ", passed " ++ decimal c.passed ++ codes ", bytes "
    ++ decimal c.bytes ++ 10 ∷ []

-- the counts of the rehearsal of a drill's narration
abbrev pub drill_text : ℕ → List ℕ
drill_text n = codes "drill " ++ decimal n ++ counts_text (drill_counts n)

abbrev pub DrillText : ℕ → Answer (List ℕ) → Type 0
DrillText n answer = answer ≡ given (drill_text n)

module _ (n : ℕ) where
  abbrev pub DoesDrill : (old new : WireState) → Status → Type 0
  DoesDrill old new status = IsWritingOne (DrillText n) status old.written new.written

  abbrev pub CompletesDrill : Status → Type 0
  CompletesDrill status = CompletesText (DrillText n) status
