-- For proofs alone: which terms of a list are new, and which are none of some others, by their numbers and by marks for
-- numbers.
use Rattle.std.specs.Prelude.{◌≡◌, ℕ, List, [], ◌∷◌, length, map, take, replicate, not, Bool, true, false, Some, slice_get, slice_index_or, slice_set, unwrap_or}
use Rattle.std.specs.List.{list_any}
use Rattle.anb_term.specs.Tree.{Tree, tree_eqb}
use Rattle.anb_intern.specs.Nodes.{AreDistinct}
use Rattle.anb_protocol.specs.Seen.{marked}
use Rattle.anb_report.specs.Noting.{is_none_of}

-- of each term it is told whether none before it is the same
pub record AreNew (terms : List Tree) (told : List Bool) : Type 0 where
  pub many : length told ≡ length terms
  pub each : (i : ℕ) (t : Tree) → slice_get terms i ≡ Some t → slice_get told i ≡ Some (not (list_any (tree_eqb t) (take i terms)))

-- each term stands in the pool at its number
abbrev pub Numbered : List Tree → List Tree → List ℕ → Type 0
Numbered pool [] [] = Unit {0}
Numbered pool (t ∷ ts) (n ∷ ns) = (slice_get pool n ≡ Some t) × Numbered pool ts ns
Numbered pool ts ns = ⊥

-- for each number, whether it isn't marked before
abbrev pub news : List Bool → List ℕ → List Bool
news marks [] = []
news marks (n ∷ ns) = not (slice_index_or marks n true) ∷ news (slice_set marks n true) ns

-- ---- others

-- of this one it is told
abbrev pub is_told : List Bool → ℕ → Bool
is_told told n = unwrap_or (slice_get told n) false

-- of each term it is told whether it is none of some
abbrev pub AreOthers : (terms some : List Tree) → List Bool → Type 0
AreOthers terms some told = told ≡ map (is_none_of some) terms

-- the numbers of some terms of a pool are marked
pub record AreMarked (pool some : List Tree) (marks : List Bool) : Type 0 where
  pub numbers : List ℕ
  pub distinct : AreDistinct pool
  pub numbered : Numbered pool some numbers
  pub are : marks ≡ marked (replicate (length pool) false) numbers

abbrev pub IsOther : (pool : List Tree) → (marks : List Bool) → Tree → Bool → Type 0
IsOther pool marks t told = (some : List Tree) → AreMarked pool some marks → told ≡ is_none_of some t
