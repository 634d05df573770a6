-- What has come to compose since an entry came, while it is found out.
use Rattle.std.specs.Prelude.{◌≡◌, ℕ, suc, ◌≤◌, List, [], ◌∷◌, ◌++◌, length, Bool, true, Option, Some, is_some, slice_get, set, unwrap_or, ◌⊎◌}
use Rattle.anb_term.specs.declared.term.Op.{Op}
use Rattle.anb_term.specs.Tree.{Tree}
use Rattle.anb_term.specs.Operator.{arity}
use Rattle.anb_intern.specs.declared.node.NodeId.{NodeId}
use Rattle.anb_close.specs.Rows.{place, made_for}
use Rattle.anb_close.specs.Listed.{IsListed}
use Rattle.anb_close.specs.Parents.{IsNode}
use Rattle.anb_close.specs.Standings.{place_in, is_found, all_stand}
use Rattle.anb_close.specs.declared.index.Standing.{Standing}
use Rattle.anb_close.specs.declared.index.Standing.TheVariants.{Nowhere, Built, At}

-- whether the term with a number is found
abbrev pub stands : List Standing → ℕ → Bool
stands ss n = is_found (unwrap_or (slice_get ss n) Nowhere)

-- each term has its entry's place
abbrev pub HavePlaces : List (Option Tree) → List Tree → List Standing → Type 0
HavePlaces rs ts ss = (length ss ≡ length ts) × ((k : ℕ) (t : Tree) (s : Standing) → slice_get ts k ≡ Some t → slice_get ss k ≡ Some s → place_in s ≡ place rs t)

-- what is found composes; what is ready is found, or one of its operands is still to be spread to it;
-- and each entry is told of which an operand came to compose, or that operand is still to be spread to it
pub record IsSpreading (rs : List (Option Tree)) (ts : List Tree) (old ss : List Standing) (told : List ℕ) (IsDue : ℕ → ℕ → Type 0) : Type 0 where
  pub places : HavePlaces rs ts ss
  pub sound : (k : ℕ) (t : Tree) → slice_get ts k ≡ Some t → stands ss k ≡ true → is_some (made_for rs t) ≡ true
  pub complete : (n : ℕ) (o : Op) (ids : List NodeId) → IsNode ts n o ids → length ids ≡ arity o → all_stand ss ids ≡ true
      → (stands ss n ≡ true) ⊎ ((j : ℕ) × (id : NodeId) × (slice_get ids j ≡ Some id) × IsDue id.0 n)
  pub tells : (n : ℕ) (o : Op) (ids : List NodeId) (j : ℕ) (id : NodeId) (i : ℕ) → IsNode ts n o ids → slice_get ids j ≡ Some id → slice_get ss n ≡ Some (At i) → stands ss id.0 ≡ true
      → (stands old id.0 ≡ true) ⊎ (IsDue id.0 n ⊎ IsListed told i)

-- nothing is left to do for a number
abbrev pub IsDone : List Tree → List Standing → List ℕ → ℕ → Type 0
IsDone ts ss told n = ((o : Op) (ids : List NodeId) → IsNode ts n o ids → length ids ≡ arity o → all_stand ss ids ≡ true → stands ss n ≡ true)
    × ((i : ℕ) → slice_get ss n ≡ Some (At i) → IsListed told i)

-- a number stands nowhere, and is ready
abbrev pub IsNew : List Tree → List Standing → ℕ → Type 0
IsNew ts ss n = (slice_get ss n ≡ Some Nowhere) × (o : Op) × (ids : List NodeId) × IsNode ts n o ids × (length ids ≡ arity o) × (all_stand ss ids ≡ true)

-- a number was looked at: there was nothing to do but to tell of an entry, or it came to be built
abbrev pub HasVisited : List Tree → ℕ → List Standing → List ℕ → List ℕ → List Standing → List ℕ → List ℕ → Type 0
HasVisited ts n ss work told ss' work' told' =
    ((later : List ℕ) × (ss' ≡ ss) × (work' ≡ work) × (told' ≡ told ++ later) × IsDone ts ss later n)
    ⊎ ((ss' ≡ set ss n Built) × (work' ≡ work ++ n ∷ []) × (told' ≡ told) × IsNew ts ss n)

-- numbers that stand nowhere
abbrev pub nowheres : List Standing → ℕ
nowheres [] = 0
nowheres (Nowhere ∷ ss) = suc (nowheres ss)
nowheres (Built ∷ ss) = nowheres ss
nowheres (At i ∷ ss) = nowheres ss

-- still to be spread: what is listed, or a number to those from a place of a list on
abbrev pub IsLeft : List ℕ → ℕ → List ℕ → ℕ → ℕ → ℕ → Type 0
IsLeft work x ns k w n = IsListed work w ⊎ ((w ≡ x) × ((j : ℕ) × (k ≤ j) × (slice_get ns j ≡ Some n)))
