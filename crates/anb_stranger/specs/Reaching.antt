-- How far somebody gets with a role who knows nobody's key.
use Rattle.std.specs.Prelude.{◌≡◌, ℕ, ◌+◌, List, [], ◌∷◌, ◌++◌, length, map, filter, take, Bool, nat_le, if◌then◌else◌}
use Rattle.anb_term.specs.declared.term.Op.{Op}
use Rattle.anb_term.specs.Tree.{Tree, leaf, trees_of}
use Rattle.anb_term.specs.FreeAlgebra.{terms_over}
use Rattle.anb_algebra.specs.ByteMeaning.{has_operator}
use Rattle.anb_plays.specs.Plans.{Event, know, fresh, send, recv}
use Rattle.anb_protocol.specs.declared.parts.Atom.{Atom}
use Rattle.anb_protocol.specs.Checks.{is_agent}
use Rattle.anb_protocol.specs.Plays.{events_of}
use Rattle.anb_protocol.specs.Protocols.{ProtocolValue}
use Rattle.anb_protocol.specs.Texts.{atoms_in_all}
use Rattle.anb_accept.specs.Conversations.{IsConversationIn}
use Rattle.anb_outsider.specs.Recordings.{ReceivesAt}
use Rattle.anb_stranger.specs.declared.reach.Reach.{Reach}
use Rattle.anb_stranger.specs.declared.reach.Reach.TheVariants.{All, Event as Upto}
use Rattle.anb_stranger.specs.Making.{MakesAll}

-- the agents' names, where these atoms have numbers from one on
abbrev pub agents_from : ℕ → List Atom → List ℕ
agents_from n [] = []
agents_from n (x ∷ xs) = (if is_agent x.sort then n ∷ [] else []) ++ agents_from (n + 1) xs

abbrev pub agents : ProtocolValue → List ℕ
agents p = agents_from 0 p.atoms

-- the variables of lines, which are atoms above the names
abbrev pub variables : ℕ → List Tree → List ℕ
variables names lines = filter (nat_le names) (atoms_in_all (trees_of lines))

-- What a stranger has: the agents' names, and for the variables of the conversation names of his own.
abbrev pub stranger : ProtocolValue → List Tree → List Tree
stranger p lines = map leaf (agents p ++ variables (length p.atoms) lines)

-- the number of the last event at which something is received, where so many were before, the last such one this
abbrev pub last_received : (before last : ℕ) → List Event → ℕ
last_received before last [] = last
last_received before last (know t ∷ es) = last_received before last es
last_received before last (fresh t ∷ es) = last_received before last es
last_received before last (send t ∷ es) = last_received (before + 1) last es
last_received before last (recv t ∷ es) = last_received (before + 1) (before + 1) es

module _ (has : Op → Bool) (having lines : List Tree) (plan : List Event) where
  -- He can make all that is received before a place, and not what is received there. Of what he can make, the last is
  -- received at this event; or it's event 0, and there is nothing.
  pub record MakesTo (event : ℕ) : Type 0 where
    pub place : ℕ
    pub receives : ReceivesAt plan place
    pub makes : MakesAll (terms_over has) having (take place plan) lines
    pub no_more : MakesAll (terms_over has) having (take (place + 1) plan) lines → ⊥
    pub event_is : event ≡ last_received 0 0 (take place plan)

  abbrev pub Reaches : Reach → Type 0
  Reaches All = MakesAll (terms_over has) having plan lines
  Reaches (Upto event) = MakesTo event

-- How far a stranger gets over these events of a role: in the conversation of which all others are instances, with names
-- of his own for its variables.
pub record IsReachIn (p : ProtocolValue) (plan : List Event) (reach : Reach) : Type 0 where
  pub lines : List Tree
  pub conversation : IsConversationIn p plan lines
  pub reaches : Reaches (has_operator p.formats) (stranger p lines) lines plan reach

abbrev pub IsReach : ProtocolValue → ℕ → Reach → Type 0
IsReach p role reach = IsReachIn p (events_of p role) reach
