-- What a stranger's messages do to bytes.
use Rattle.std.specs.Prelude.{◌≡◌, ℕ, List, map, Bool, IsTrue, Some, slice_get}
use Rattle.anb_term.specs.declared.term.Op.{Op}
use Rattle.anb_term.specs.Tree.{Tree, trees_of, AreFormed}
use Rattle.anb_term.specs.Value.{Meaning}
use Rattle.anb_term.specs.FreeAlgebra.{terms_over}
use Rattle.anb_plays.specs.Plans.{Event, known, Sendable}
use Rattle.anb_plays.specs.Plays.{Play}
use Rattle.anb_plays.specs.Honest.{honest, made, LabelsAreFormed}
use Rattle.anb_accept.specs.Conversations.{overheard}
use Rattle.anb_accept.specs.Patterns.{ArePatterns}
use Rattle.anb_judge.specs.Observed.{hears, over, says_in}
use Rattle.anb_stranger.specs.Making.{MakesAll}

-- The role's play over what comes in these lines goes on to its end, and it says what is said in them. Somebody can make
-- what comes at the first events of what he has and what the role has said by then.
pub record IsPlayedWith {A : Type 0} (m : Meaning A) (draw : ℕ → A) (plan first : List Event) (init having lines : List A) : Type 0 where
  pub play : Play m draw plan init (hears plan lines) (over (says_in plan lines))
  pub makes : MakesAll m having first lines

-- Whatever the values of names and variables are: where somebody can make what comes at the first events of the most
-- general conversation, as terms, so he can of their values, and the role's play over it goes on to its end.
abbrev pub StrangersArePlayed : {A : Type 0} → Meaning A → Type 0
StrangersArePlayed {A} m = (names : ℕ) (plan first : List Event) (having lines : List Tree) (atoms draw : ℕ → A)
    → ArePatterns m.has names (overheard plan) lines → AreFormed m.has (trees_of having) → MakesAll (terms_over m.has) having first lines
    → Sendable m.has plan → LabelsAreFormed m.has (overheard plan)
    → ((n : ℕ) → IsTrue (m.is_value (atoms n)))
    → ((i : ℕ) (t : Tree) → slice_get (made plan) i ≡ Some t → draw i ≡ honest m atoms t)
    → IsPlayedWith m draw plan first (map (honest m atoms) (known plan)) (map (honest m atoms) having) (map (honest m atoms) lines)

-- What is heard in the most general conversation are the role's patterns.
abbrev pub HeardArePatterns : Type 0
HeardArePatterns = (has : Op → Bool) (names : ℕ) (plan : List Event) (lines : List Tree)
    → ArePatterns has names (overheard plan) lines → Sendable has plan → ArePatterns has names plan (hears plan lines)
