-- Where the terms of a pool are found: nowhere, built from others, or at an entry's place.
use Rattle.std.specs.Prelude.{◌≡◌, ℕ, ◌<◌, List, [], ◌∷◌, length, map, Bool, true, false, ◌&&◌, ◌==◌, if◌then◌else◌, Option, Some, None, is_some, slice_get, unwrap_or}
use Rattle.std.proofs.Math.Dec.{ltb}
use Rattle.anb_term.specs.Tree.{Tree}
use Rattle.anb_term.specs.Operator.{arity}
use Rattle.anb_intern.specs.declared.node.NodeId.{NodeId}
use Rattle.anb_intern.specs.declared.node.Node.{Node}
use Rattle.anb_intern.specs.declared.node.Node.TheVariants.{Atom, Apply}
use Rattle.anb_intern.specs.Nodes.{operands_at, AreUnder}
use Rattle.anb_close.specs.Rows.{place, made_for, rows_of}
use Rattle.anb_close.specs.declared.index.Standing.{Standing}
use Rattle.anb_close.specs.declared.index.Standing.TheVariants.{Nowhere, Built, At}

-- an entry's place, or whether the term composes
abbrev pub standing : Option ℕ → Bool → Standing
standing (Some i) b = At i
standing None true = Built
standing None false = Nowhere

-- where a term is found, over rows
abbrev pub standing_of : List (Option Tree) → Tree → Standing
standing_of rs t = standing (place rs t) (is_some (made_for rs t))

abbrev pub standings_of : List (Option Tree) → List Tree → List Standing
standings_of rs ts = map (standing_of rs) ts

abbrev pub place_in : Standing → Option ℕ
place_in Nowhere = None
place_in Built = None
place_in (At i) = Some i

abbrev pub is_found : Standing → Bool
is_found Nowhere = false
is_found Built = true
is_found (At i) = true

-- whether these are all found
abbrev pub all_stand : List Standing → List NodeId → Bool
all_stand ss [] = true
all_stand ss (i ∷ is) = is_found (unwrap_or (slice_get ss i.0) Nowhere) && all_stand ss is

-- whether a node is built from operands that are found
abbrev pub is_ready : List Standing → Node → Bool
is_ready ss (Atom n) = false
is_ready ss (Apply o ids) = (length ids.items == arity o) && all_stand ss ids.items

-- an entry's place below one, and nothing else that rests on entries
abbrev pub cleared : ℕ → Standing → Standing
cleared b Nowhere = Nowhere
cleared b Built = Built
cleared b (At i) = if ltb i b then At i else Nowhere

-- each term of the pool is where the entries' terms say
pub record IsIndexed (ts : List Tree) (ids : List NodeId) (ss : List Standing) : Type 0 where
  pub under : AreUnder (length ts) ids
  pub right : ss ≡ standings_of (rows_of (operands_at ts ids)) ts

-- the places are right, and so are the first standings
pub record IsSettling (rs : List (Option Tree)) (ts : List Tree) (ss : List Standing) (n : ℕ) : Type 0 where
  pub long : length ss ≡ length ts
  pub places : (k : ℕ) (t : Tree) (s : Standing) → slice_get ts k ≡ Some t → slice_get ss k ≡ Some s → place_in s ≡ place rs t
  pub right : (k : ℕ) (t : Tree) → k < n → slice_get ts k ≡ Some t → slice_get ss k ≡ Some (standing_of rs t)
