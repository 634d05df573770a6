-- What holds of drills.
use Rattle.std.specs.Prelude.{◌≡◌, ℕ, ◌+◌, ◌*◌, ◌≤◌, List, length, Some, slice_get, option_and_then, Option}
use Rattle.anb_syntax.specs.Grammar.{ActionItem}
use Rattle.anb_syntax.specs.Text.{Text}
use Rattle.anb_syntax.specs.Canon.{canon}
use Rattle.anb_gen.specs.Drill.{role_names, drill_narration}
use Rattle.anb_gen.specs.Turns.{turns_of}

-- the canonical text of the narration of a drill is a text of this narration
abbrev pub GeneratedIsRead : Type 0
GeneratedIsRead = (n : ℕ) → n ≤ 200 → Text (drill_narration n) (canon (drill_narration n))

-- the name of the role whose turn it is, counted from 0
abbrev pub role_at : ℕ → ℕ → Option (List ℕ)
role_at n turn = option_and_then (slice_get role_names) (slice_get (turns_of (drill_narration n)) turn)

-- Turn 2a is the turn of the sender of action a, and the next one the turn of its receiver, where
-- actions are counted from 0. There are no other turns.
pub record Alternates (n : ℕ) : Type 0 where
  pub count : length (turns_of (drill_narration n)) ≡ 2 * (n + 2)
  pub turns : (a : ℕ) (action : ActionItem) → slice_get (drill_narration n).actions a ≡ Some action
      → (role_at n (2 * a) ≡ Some action.from) × (role_at n (2 * a + 1) ≡ Some action.to)

abbrev pub TurnsAlternate : Type 0
TurnsAlternate = (n : ℕ) → Alternates n
