-- A role as it is seen by somebody who knows what the role knows, and hears what the role hears and says.
use Rattle.std.specs.Prelude.{◌≡◌, ℕ, List, [], ◌∷◌, ◌++◌, Bool, IsTrue, Some, slice_get}
use Rattle.std.specs.List.{AllByRecursion}
use Rattle.anb_term.specs.declared.term.Op.{Op}
use Rattle.anb_term.specs.Value.{Meaning}
use Rattle.anb_term.specs.Agree.{HasRecipe}
use Rattle.anb_plays.specs.Plans.{Event, know, fresh, send, recv, known}
use Rattle.anb_plays.specs.Plays.{done, Played, Play}
use Rattle.anb_plays.specs.Honest.{heard, made}

-- who sees it makes and sends nothing, and hears each message of the role as the role hears its own
abbrev pub observed : List Event → List Event
observed [] = []
observed (know t ∷ es) = know t ∷ observed es
observed (fresh t ∷ es) = observed es
observed (send t ∷ es) = recv t ∷ observed es
observed (recv t ∷ es) = recv t ∷ observed es

-- of a conversation, in the order of the plan: what the role hears, and what it says
abbrev pub hears : {A : Type 0} → List Event → List A → List A
hears [] lines = []
hears (know t ∷ es) lines = hears es lines
hears (fresh t ∷ es) lines = hears es lines
hears (send t ∷ es) [] = []
hears (send t ∷ es) (line ∷ lines) = hears es lines
hears (recv t ∷ es) [] = []
hears (recv t ∷ es) (line ∷ lines) = line ∷ hears es lines

abbrev pub says_in : {A : Type 0} → List Event → List A → List A
says_in [] lines = []
says_in (know t ∷ es) lines = says_in es lines
says_in (fresh t ∷ es) lines = says_in es lines
says_in (send t ∷ es) [] = []
says_in (send t ∷ es) (line ∷ lines) = line ∷ says_in es lines
says_in (recv t ∷ es) [] = []
says_in (recv t ∷ es) (line ∷ lines) = says_in es lines

-- a play that is over, which sent these messages and used all that came
abbrev pub over : {A : Type 0} → List A → Played A
over messages = record { sent = messages; end = done; left = [] }

-- the names that the role makes can be told by who sees it: each has a recipe over what is known, heard and said
abbrev pub MadeIsSeen : (Op → Bool) → List Event → Type 0
MadeIsSeen has plan = AllByRecursion (HasRecipe has (known plan ++ heard (observed plan))) (made plan)

module _ {A : Type 0} (m : Meaning A) (plan : List Event) (init lines : List A) where
  -- for some draws, these lines are what the role hears and says in a play to its end
  pub record IsConversation : Type 0 where
    pub draw : ℕ → A
    pub drawn : (i : ℕ) → IsTrue (m.is_value (draw i))
    pub play : Play m draw plan init (hears plan lines) (over (says_in plan lines))

  -- who sees it goes on over these lines to the end; whatever is drawn, since nothing is
  abbrev pub IsObserved : Type 0
  IsObserved = (draw : ℕ → A) → Play m draw (observed plan) init lines (over [])
