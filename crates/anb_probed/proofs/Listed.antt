-- The cases that are tried are attempts of the suite.
use Rattle.std.proofs.Common.{◌≡◌, ℕ, zero, suc, ◌+◌, List, [], ◌∷◌, Bool, true, false, cond, Option, Some}
use Rattle.std.specs.Prelude.{slice_get}
use Rattle.anb_attempts.specs.declared.attempts.Attempt.{Attempt}
use Rattle.anb_probe_commands.specs.Cases.{cases_from, has_partner, is_wanted}
use Rattle.anb_probe_commands.specs.declared.partners.Lack.{Lack}

-- it is one of these
abbrev pub IsAmong : List Attempt → Attempt → Type 0
IsAmong attempts a = (place : ℕ) × (slice_get attempts place ≡ Some a)

one_later : (x a : Attempt) (rest : List Attempt) → IsAmong rest a → IsAmong (x ∷ rest) a
one_later x a rest is = (suc is.0, is.1)

pub among : (lacks : List (Option Lack)) (case : Option ℕ) (number : ℕ) (attempts : List Attempt) (i : ℕ) (a : Attempt) → slice_get (cases_from lacks case number attempts) i ≡ Some a → IsAmong attempts a
among lacks case number [] i a e = absurd (cc)
among lacks case number (x ∷ rest) i a e = by (has_partner lacks x) (is_wanted case number) i e (λ n k there. among lacks case n rest k a there) where
  by : (partner wanted : Bool) (k : ℕ)
      → slice_get (cond partner (cond wanted (x ∷ cases_from lacks case (number + 1) rest) (cases_from lacks case (number + 1) rest)) (cases_from lacks case number rest)) k ≡ Some a
      → ((n k : ℕ) → slice_get (cases_from lacks case n rest) k ≡ Some a → IsAmong rest a) → IsAmong (x ∷ rest) a
  by true true zero e later = (0, e)
  by true true (suc k) e later = one_later x a rest (later (number + 1) k e)
  by true false k e later = one_later x a rest (later (number + 1) k e)
  by false wanted k e later = one_later x a rest (later number k e)
