-- Classes whose names fall while they are tied, so that tying ends.
use Rattle.std.specs.Prelude.{◌≡◌, ℕ, suc, ◌<◌, List, Some, slice_get}
use Rattle.std.specs.List.{sum_by, AllByRecursion}
use Rattle.anb_certify.specs.declared.links.Pair.{Pair}

-- each register is named by itself or by an earlier one
abbrev pub AreLow : List ℕ → Type 0
AreLow cs = (i c : ℕ) → slice_get cs i ≡ Some c → c < suc i

-- and what names one is named by itself
abbrev pub AreFlat : List ℕ → Type 0
AreFlat cs = (i c : ℕ) → slice_get cs i ≡ Some c → slice_get cs c ≡ Some c

-- two registers are of two classes
abbrev pub AreApart : List ℕ → ℕ → ℕ → Type 0
AreApart cs a b = slice_get cs a ≡ slice_get cs b → ⊥

abbrev pub LinkApart : List ℕ → List Pair → Type 0
LinkApart cs links = AllByRecursion (λ l. AreApart cs l.0 l.1) links

-- the sum of the names
abbrev pub weight : List ℕ → ℕ
weight cs = sum_by (λ c. c) cs
