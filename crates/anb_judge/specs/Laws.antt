-- What somebody who sees a role can say of it.
use Rattle.std.specs.Prelude.{◌≡◌, ℕ, List, length, IsTrue}
use Rattle.anb_term.specs.Value.{Meaning}
use Rattle.anb_term.specs.Lawful.{AreValues}
use Rattle.anb_plays.specs.Plans.{Event, FreshIsNew, Sendable}
use Rattle.anb_plays.specs.Honest.{heard}
use Rattle.anb_transcript.specs.declared.following.ReplayEnd.{ReplayEnd}
use Rattle.anb_judge.specs.Observed.{observed, MadeIsSeen, IsConversation, IsObserved}
use Rattle.anb_judge.specs.Verdicts.{Judged, Judges}

module _ {A : Type 0} (m : Meaning A) where
  -- a line for each message of the plan, sent or received
  abbrev pub AreLinesOf : List Event → List A → Type 0
  AreLinesOf plan lines = length lines ≡ length (heard (observed plan))

  -- whatever the role draws, its conversation is one on which who sees it goes on
  abbrev pub ConversationsAreObserved : Type 0
  ConversationsAreObserved = (plan : List Event) (init lines : List A) → FreshIsNew plan → AreValues m init → AreValues m lines
      → AreLinesOf plan lines → IsConversation m plan init lines → IsObserved m plan init lines

  -- and where the names that the role makes can be told, there are no others. An algebra has some value, for draws that
  -- are never made
  abbrev pub ObservedAreConversations : Type 0
  ObservedAreConversations = (plan : List Event) (init lines : List A) (some : A) → IsTrue (m.is_value some) → Sendable m.has plan → MadeIsSeen m.has plan
      → AreValues m init → AreValues m lines → IsObserved m plan init lines → IsConversation m plan init lines

-- of each transcript one thing comes at most
abbrev pub JudgesOne : Type 0
JudgesOne = (judged : Judged) (one other : ReplayEnd) → Judges judged one → Judges judged other → one ≡ other
