-- Classes of the terms of a pool, by a parent for each.
use Rattle.std.specs.Prelude.{◌≡◌, ℕ, ◌+◌, ◌<◌, nat_le, List, length, map, Bool, false, Option, Some, None, slice_get, ◌⊎◌, if◌then◌else◌}
use Rattle.anb_term.specs.Tree.{Tree, leaf, node, list_of}
use Rattle.anb_intern.specs.declared.node.NodeId.{NodeId}
use Rattle.anb_unify.specs.Substitutions.{put_in, KeepsNames}

abbrev pub is_variable : ℕ → Tree → Bool
is_variable names (leaf n) = nat_le names n
is_variable names (node o ts) = false

abbrev pub varies : ℕ → Option Tree → Bool
varies names None = false
varies names (Some t) = is_variable names t

-- where a term stands in the order of what may stand for a class: variables come last
abbrev pub rank : ℕ → List Tree → ℕ → ℕ
rank names ts i = if varies names (slice_get ts i) then length ts + i else i

pub record AreClasses (names : ℕ) (ts : List Tree) (parents : List NodeId) : Type 0 where
  pub long : length parents ≡ length ts
  pub within : (i : ℕ) (p : NodeId) → slice_get parents i ≡ Some p → p.0 < length ts
  pub falls : (i : ℕ) (p : NodeId) → slice_get parents i ≡ Some p → (p.0 ≡ i) ⊎ (rank names ts p.0 < rank names ts i)

abbrev pub IsRoot : List NodeId → NodeId → Type 0
IsRoot parents r = slice_get parents r.0 ≡ Some r

-- the terms at two places are the same for f
abbrev pub SameAt : List Tree → (Tree → Tree) → ℕ → ℕ → Type 0
SameAt ts f i j = (t u : Tree) → slice_get ts i ≡ Some t → slice_get ts j ≡ Some u → f t ≡ f u

-- f is the same for each term and its parent
abbrev pub Respects : List Tree → (Tree → Tree) → List NodeId → Type 0
Respects ts f parents = (i : ℕ) (p : NodeId) → slice_get parents i ≡ Some p → SameAt ts f i p.0

-- one operator on operands that are the same for f, or one name
abbrev pub AreLike : (Tree → Tree) → Tree → Tree → Type 0
AreLike f (leaf a) (leaf b) = a ≡ b
AreLike f (leaf a) (node p us) = ⊥
AreLike f (node o ts) (leaf b) = ⊥
AreLike f (node o ts) (node p us) = (o ≡ p) × (map f (list_of ts) ≡ map f (list_of us))

-- what stands for the class of a term that is no variable is like it
pub record LikeRoot (ts : List Tree) (f : Tree → Tree) (parents : List NodeId) (t : Tree) : Type 0 where
  pub root : NodeId
  pub term : Tree
  pub is_root : IsRoot parents root
  pub here : slice_get ts root.0 ≡ Some term
  pub same : f t ≡ f term
  pub like : AreLike f t term

abbrev pub AreClosed : ℕ → List Tree → (Tree → Tree) → List NodeId → Type 0
AreClosed names ts f parents = (i : ℕ) (t : Tree) → slice_get ts i ≡ Some t → is_variable names t ≡ false → LikeRoot ts f parents t

-- a term has this value where terms are put in the places of variables
abbrev pub Stands : List Tree → (ℕ → Tree) → ℕ → Tree → Type 0
Stands ts put i t = (u : Tree) → slice_get ts i ≡ Some u → put_in put u ≡ t

-- the narrated terms solve the equations, and these two terms of the pool are one for them
pub record AreNarrated (names : ℕ) (ts : List Tree) (parents : List NodeId) (one other : ℕ) (t : Tree) : Type 0 where
  pub put : ℕ → Tree
  pub keeps : KeepsNames names put
  pub respects : Respects ts (put_in put) parents
  pub one_is : Stands ts put one t
  pub other_is : Stands ts put other t

-- the same of each two of these
pub record AreAllNarrated (names : ℕ) (ts : List Tree) (parents : List NodeId) (ones others narrated : List Tree) : Type 0 where
  pub put : ℕ → Tree
  pub keeps : KeepsNames names put
  pub respects : Respects ts (put_in put) parents
  pub ones_are : map (put_in put) ones ≡ narrated
  pub others_are : map (put_in put) others ≡ narrated

-- parents were replaced by their parents, and nothing else
pub record IsShortened (names : ℕ) (ts : List Tree) (old new : List NodeId) : Type 0 where
  pub back : (f : Tree → Tree) → Respects ts f new → Respects ts f old
  pub on : (f : Tree → Tree) → Respects ts f old → Respects ts f new
  pub roots : (r : NodeId) → IsRoot old r → IsRoot new r

-- two classes became one by their roots
pub record AreLinked (names : ℕ) (ts : List Tree) (old new : List NodeId) (one other : ℕ) : Type 0 where
  pub back : (f : Tree → Tree) → Respects ts f new → Respects ts f old
  pub same : (f : Tree → Tree) → Respects ts f new → SameAt ts f one other
  pub on : (f : Tree → Tree) → Respects ts f old → SameAt ts f one other → Respects ts f new
  pub closed : (f : Tree → Tree) → Respects ts f new → (
      (t u : Tree) → slice_get ts one ≡ Some t → slice_get ts other ≡ Some u → is_variable names t ≡ false → is_variable names u ≡ false → AreLike f t u
      ) → AreClosed names ts f old → AreClosed names ts f new

-- two classes became one, and nothing else did
pub record AreOne (names : ℕ) (ts : List Tree) (old new : List NodeId) (one other : ℕ) : Type 0 where
  pub back : (f : Tree → Tree) → Respects ts f new → Respects ts f old
  pub same : (f : Tree → Tree) → Respects ts f new → SameAt ts f one other
  pub closed : (f : Tree → Tree) → Respects ts f new → AreClosed names ts f old → AreClosed names ts f new
  pub general : (put : ℕ → Tree) → Respects ts (put_in put) old → SameAt ts (put_in put) one other → Respects ts (put_in put) new

-- the same of each two of these
pub record AreAllOne (names : ℕ) (ts : List Tree) (old new : List NodeId) (ones others : List Tree) : Type 0 where
  pub back : (f : Tree → Tree) → Respects ts f new → Respects ts f old
  pub same : (f : Tree → Tree) → Respects ts f new → map f ones ≡ map f others
  pub closed : (f : Tree → Tree) → Respects ts f new → AreClosed names ts f old → AreClosed names ts f new
  pub general : (put : ℕ → Tree) → Respects ts (put_in put) old → map (put_in put) ones ≡ map (put_in put) others → Respects ts (put_in put) new
