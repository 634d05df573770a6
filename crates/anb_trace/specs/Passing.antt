-- For proofs alone: what a call gives and appends that looks for a piece.
use Rattle.std.specs.Prelude.{◌≡◌, ℕ, List, ◌++◌, Option, Some, None}
use Rattle.std.specs.Borrow.{Bor}
use Rattle.anb_trace.specs.Misfits.{Found, Before, Misfit, at_byte}

-- what follows the piece, with nothing appended; or nothing, with the words appended
abbrev pub Passes : Found → Option (Bor (List ℕ)) → (old new : List ℕ) → Type 0
Passes (Before rest) None old new = ⊥
Passes (Before rest) (Some behind) old new = (behind.now ≡ rest) × (new ≡ old)
Passes (Misfit place text) None old new = new ≡ old ++ at_byte place text
Passes (Misfit place text) (Some behind) old new = ⊥
