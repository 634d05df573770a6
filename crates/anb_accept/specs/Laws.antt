-- What holds of patterns, whichever they are.
use Rattle.std.specs.Prelude.{◌≡◌, ℕ, List, [], map, Bool, IsTrue, Some, slice_get}
use Rattle.anb_term.specs.declared.term.Op.{Op}
use Rattle.anb_term.specs.Tree.{Tree}
use Rattle.anb_term.specs.Value.{Meaning}
use Rattle.anb_plays.specs.Plans.{Event, known, Sendable}
use Rattle.anb_plays.specs.Plays.{Played, Play, done}
use Rattle.anb_plays.specs.Honest.{honest, made, LabelsAreFormed}
use Rattle.anb_accept.specs.Numbering.{AreNumbered}
use Rattle.anb_accept.specs.Patterns.{IsInstance, ArePatterns}
use Rattle.anb_accept.specs.Parts.{part_at, IsFree, IsUncheckedAt}

-- a play that used all that came, and is over
pub record GoesOn {A : Type 0} (m : Meaning A) (draw : ℕ → A) (plan : List Event) (init arrivals : List A) : Type 0 where
  pub played : Played A
  pub is : Play m draw plan init arrivals played
  pub end : played.end ≡ done
  pub used : played.left ≡ []

-- Whatever the values of names and variables are: where what the role knows and draws has the values of its names, and
-- the values of the patterns arrive, its play goes on to the end.
abbrev pub InstancesGoOn : {A : Type 0} → Meaning A → Type 0
InstancesGoOn {A} m = (names : ℕ) (plan : List Event) (patterns : List Tree) (atoms : ℕ → A) (draw : ℕ → A)
    → ArePatterns m.has names plan patterns → Sendable m.has plan → LabelsAreFormed m.has plan
    → ((n : ℕ) → IsTrue (m.is_value (atoms n)))
    → ((i : ℕ) (t : Tree) → slice_get (made plan) i ≡ Some t → draw i ≡ honest m atoms t)
    → GoesOn m draw plan (map (honest m atoms) (known plan)) (map (honest m atoms) patterns)

-- patterns are one up to the names of their variables: each are instances of the others
abbrev pub PatternsAreOne : Type 0
PatternsAreOne = (has : Op → Bool) (names : ℕ) (plan : List Event) (one other : List Tree)
    → ArePatterns has names plan one → ArePatterns has names plan other → IsInstance names one other

-- where their variables are numbered in order, there is one list of them
abbrev pub PatternsAreUnique : Type 0
PatternsAreUnique = (has : Op → Bool) (names : ℕ) (plan : List Event) (one other : List Tree)
    → ArePatterns has names plan one → ArePatterns has names plan other → AreNumbered names one → AreNumbered names other → one ≡ other

-- a part may be anything, whatever else comes, exactly where a variable stands that stands nowhere else
abbrev pub FreeIsUnchecked : Type 0
FreeIsUnchecked = (has : Op → Bool) (names : ℕ) (plan : List Event) (patterns : List Tree) (place : List ℕ) (t : Tree)
    → ArePatterns has names plan patterns → part_at place patterns ≡ Some t
    → (IsFree has plan place → IsUncheckedAt names patterns place) × (IsUncheckedAt names patterns place → IsFree has plan place)
