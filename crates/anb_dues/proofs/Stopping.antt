-- What is known of a scene in which a value is made wrong, and of one in which the role stops.
use Rattle.std.proofs.Common.{◌≡◌, ℕ, List, ◌++◌, length, take, false, Some}
use Rattle.std.specs.Prelude.{◌==◌}
use Rattle.anb_base.specs.Bytes.{IsBytes}
use Rattle.anb_term.specs.FreeAlgebra.{terms}
use Rattle.anb_term.specs.Tree.{Tree, trees_of, AreFormed}
use Rattle.anb_algebra.specs.ByteMeaning.{has_operator}
use Rattle.anb_plays.specs.Plans.{known, FreshIsNew}
use Rattle.anb_plays.specs.Plays.{stopped}
use Rattle.anb_plays.specs.Codes.{Act}
use Rattle.anb_plays.specs.Exec.{HasTakes}
use Rattle.anb_plays.specs.Fits.{Fits}
use Rattle.anb_plays.specs.Honest.{made, LabelsAreFormed}
use Rattle.anb_plays.specs.Statements.{RunsAsPlayed}
use Rattle.anb_protocol.specs.Laws.{KnowsFirst}
use Rattle.anb_protocol.specs.Plays.{events_of, honest_bytes, meaning_of}
use Rattle.anb_protocol.specs.Protocols.{ProtocolValue}
use Rattle.anb_probe.specs.Laws.{AreValuesOf, run_over}
use Rattle.anb_openings.specs.Steps.{Progress, begun, after_all}
use Rattle.anb_partner.specs.Plans.{Script}
use Rattle.anb_partner.specs.Talks.{Corruption}
use Rattle.anb_dues.proofs.Firsts.{Are, Text}
use Rattle.anb_dues.proofs.Naming.{AreOurs}

-- what is known of a role and its code
pub record Grounds (p : ProtocolValue) (role : ℕ) (acts : List Act) : Type 0 where
  pub fits : Fits (meaning_of p) acts (events_of p role)
  pub taking : HasTakes (has_operator p.formats) acts 0 (length (known (events_of p role)))
  pub formed : LabelsAreFormed (has_operator p.formats) (events_of p role)
  pub ours : AreOurs p
  pub first : KnowsFirst (events_of p role)
  pub new : FreshIsNew (events_of p role)
  pub plays : RunsAsPlayed (meaning_of p)

-- a value is made wrong in a script, and its terms are over the formats
pub record Changes (s : Script) : Type 0 where
  pub right : Tree
  pub right_is : s.right ≡ Some right
  pub arrivals_formed : AreFormed (has_operator s.protocol.formats) (trees_of s.arrivals)
  pub messages_formed : AreFormed (has_operator s.protocol.formats) (trees_of s.messages)

module _ (s : Script) (acts : List Act) where
  -- over these bytes of names, with these draws, the code stops at this event
  abbrev pub StopsAt : ℕ → (atoms draw : ℕ → Text) → Type 0
  StopsAt event atoms draw = (place : ℕ) × ((run_over (meaning_of s.protocol) atoms draw (events_of s.protocol s.role) acts s.arrivals).end ≡ stopped event place)

  -- the first acts of the code go on over the scene's terms up to this event, and send its first messages
  pub record ComesTo (event : ℕ) : Type 0 where
    pub count : ℕ
    pub before : Progress Tree
    pub comes : after_all terms (made (events_of s.protocol s.role)) (take count acts) (begun (known (events_of s.protocol s.role)) s.arrivals) ≡ Some before
    pub at : before.event ≡ event
    pub more : List Tree
    pub says : s.messages ≡ before.sent ++ more

  -- over bytes of the scene's terms the code says the first of its messages, and nothing else
  abbrev pub SaysAlong : Type 0
  SaysAlong = (atoms draw : ℕ → Text) → AreValuesOf (meaning_of s.protocol) (events_of s.protocol s.role) atoms draw
      → Are (λ t. honest_bytes s.protocol atoms t) (run_over (meaning_of s.protocol) atoms draw (events_of s.protocol s.role) acts s.arrivals).sent s.messages

  -- The code comes to this event, where it stops where the wrong value is made so of the right one; and there is a value with which
  -- it stops, whatever the others are.
  pub record Stops (corrupt : Corruption) (event : ℕ) : Type 0 where
    pub changes : Changes s
    pub comes_to : ComesTo event
    pub wrong : (atoms draw : ℕ → Text) → AreValuesOf (meaning_of s.protocol) (events_of s.protocol s.role) atoms draw
        → corrupt (honest_bytes s.protocol atoms changes.right) ≡ Some (atoms (length s.protocol.atoms)) → StopsAt event atoms draw
    pub shut : (atoms : ℕ → Text) → ((n : ℕ) → IsBytes (atoms n))
        → (v : Text) × IsBytes v × ((others draw : ℕ → Text) → AreValuesOf (meaning_of s.protocol) (events_of s.protocol s.role) others draw
        → ((n : ℕ) → (n == length s.protocol.atoms) ≡ false → others n ≡ atoms n) → others (length s.protocol.atoms) ≡ v → StopsAt event others draw)
