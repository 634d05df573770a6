-- Verdicts on attempts are right.
use Rattle.std.specs.Prelude.{◌≡◌, ◌≢◌, ◌<◌, ◌≤◌, ◌^◌, ◌⊎◌, ℕ, suc, List, length, map, replicate, take, true, false, Option, Some, None, slice_get}
use Rattle.std.specs.List.{AllByRecursion}
use Rattle.anb_base.specs.Bytes.{IsBytes}
use Rattle.anb_base.specs.declared.TheConstants.{ARRIVAL}
use Rattle.anb_code.specs.CodeValue.{CodeValue}
use Rattle.anb_frame.specs.Frames.{frames}
use Rattle.anb_machine.specs.ByteRuns.{run_bytes}
use Rattle.anb_algebra.specs.ByteMeaning.{has_operator}
use Rattle.anb_plays.specs.Honest.{heard, made, LabelsAreFormed}
use Rattle.anb_plays.specs.Plays.{Played, Play, stopped}
use Rattle.anb_protocol.specs.Plays.{event_of, honest_bytes, meaning_of}
use Rattle.anb_protocol.specs.Protocols.{ProtocolValue}
use Rattle.anb_protocol.specs.Texts.{known_by}
use Rattle.anb_term.specs.Tree.{Tree}
use Rattle.anb_transcript.specs.Replays.{arrivals_of}
use Rattle.anb_judge.specs.Verdicts.{Judged, IsBegun, is_said, line_bytes, own_plan, sides}
use Rattle.anb_partner.specs.Plans.{IsPartner, Script, handed_terms, hook_at, partner_plan, said}
use Rattle.anb_partner.specs.Talks.{Converses, Corruption, own_lines}
use Rattle.anb_partner.specs.Trials.{Trial}
use Rattle.anb_partner.specs.declared.conversation.Conversation.{Conversation}
use Rattle.anb_partner.specs.declared.conversation.TalkEnd.TheVariants.{Long, ReadFault, Refused, TooLong, Unchanged}
use Rattle.anb_partner.specs.declared.trials.ChildEnd.{ChildEnd}
use Rattle.anb_verdict.specs.declared.seen.Seen.{Seen}
use Rattle.anb_verdict.specs.declared.verdict.Verdict.{Verdict}
use Rattle.anb_verdict.specs.Laws.{CanBeTold, NamesAreTold}
use Rattle.anb_verdict.specs.Verdicts.{IsRoles, MayEnd, is_good}
use Rattle.anb_tries.specs.Seen.{ended_by, seen_of}
use Rattle.anb_tries.specs.Tries.{IsTriedVerdict}

-- ---- an attempt

-- The partner of a script, with this code, which begins with what the role does and is handed the values of all others,
-- and changes a value; the child of the case, before it was started; its conversation; and the verdict on it, where
-- the role is known to stop at an event, and the honest case got so far.
pub record Attempt : Type 0 where
  pub script : Script
  pub code : CodeValue
  pub initial : List (List ℕ)
  pub handed : List (List ℕ)
  pub at : Option ℕ
  pub wrong : Corruption
  pub words : List (List ℕ)
  pub old : Trial
  pub new : Trial
  pub conversation : Conversation
  pub due : Option ℕ
  pub reached : ℕ
  pub verdict : Verdict

module _ (a : Attempt) where
  abbrev pub judged : Judged
  judged = record {
    protocol = a.script.protocol;
    role = a.script.role;
    initial = a.initial;
    lines = a.conversation.lines;
  }

  abbrev pub seen : Seen
  seen = seen_of a.conversation a.due a.reached

  -- the script has a term for each message of the role
  pub record IsWhole : Type 0 where
    pub heard_all : length (heard (own_plan judged)) ≤ length a.script.arrivals
    pub said_all : length (said (own_plan judged)) ≤ length a.script.messages

  -- what `try_case` does, with a partner of this script, over values of these terms
  pub record IsAttempt : Type 0 where
    pub partner : IsPartner a.script a.code
    pub whole : IsWhole
    pub hook : a.at ≡ hook_at a.script
    pub count : length a.initial ≡ length (known_by a.script.protocol a.script.role)
    pub each : length a.handed ≡ length (handed_terms a.script.protocol a.script.role)
    pub values : AllByRecursion IsBytes a.initial
    pub handed_values : AllByRecursion IsBytes a.handed
    pub converses : Converses (run_bytes a.code a.initial (replicate 32 0) 0) a.handed a.at a.wrong a.words a.old a.new a.conversation
    pub lines : AllByRecursion IsBytes (map line_bytes a.conversation.lines)
    pub long : (len : ℕ) → a.conversation.end ≡ Long len → len < 2 ^ 32
    pub verdict : IsTriedVerdict judged seen a.conversation.end a.verdict

  -- Where it is known that the role stops at an event, it hears something there, and no draws go on over it.
  pub record DueIsKnown : Type 0 where
    pub hears : (event : ℕ) → a.due ≡ Some event → is_said (sides (own_plan judged)) event ≡ false
    pub stops : (event : ℕ) → a.due ≡ Some event → IsBegun judged event → ⊥

  -- ---- what came of it

  -- nothing failed: all that the child said was read, its end was had, and it wasn't silent for too long
  pub record IsRead : Type 0 where
    pub end : ChildEnd
    pub ended : a.conversation.child ≡ Some end
    pub loud : a.conversation.silent ≡ false
    pub read : a.conversation.end ≢ ReadFault

  -- a wrong value could be made, and no message was longer than a frame may be
  pub record IsTried : Type 0 where
    pub made : a.conversation.end ≢ Unchanged
    pub sent : a.conversation.end ≢ TooLong

  -- The child plays the role: for some draws, its output is what the role says over what came to it, and nothing else;
  -- and it ends as a program does that plays it, as far as its end is seen.
  pub record PlaysRole : Type 0 where
    pub draw : ℕ → List ℕ
    pub drawn : (i : ℕ) → IsBytes (draw i)
    pub played : Played (List ℕ)
    pub play : Play (meaning_of a.script.protocol) draw (own_plan judged) a.initial (arrivals_of a.conversation.lines) played
    pub short : AllByRecursion (λ message. length message ≤ ARRIVAL) played.sent
    pub output : a.old.pipes.left ≡ Some (frames played.sent)
    pub end : ChildEnd
    pub ends : a.old.ends ≡ Some end
    pub may : MayEnd (sides (own_plan judged)) played.end (ended_by (Some end))

  -- where it stops, this was known beforehand, or what it had made before can be told
  abbrev pub StopsAreSeen : PlaysRole → Type 0
  StopsAreSeen plays = (n at : ℕ) → plays.played.end ≡ stopped (suc n) at → (a.due ≡ Some (suc n)) ⊎ CanBeTold judged n

  -- All is as narrated: what the partner is to say and to hear, and what the role and all others begin with and make,
  -- which are the bytes of names.
  pub record IsNarrated (plays : PlaysRole) : Type 0 where
    pub arrivals : a.script.arrivals ≡ heard (own_plan judged)
    pub messages : a.script.messages ≡ said (own_plan judged)
    pub right : a.script.right ≡ None
    pub due : a.due ≡ None
    pub atoms : ℕ → List ℕ
    pub bytes : (n : ℕ) → IsBytes (atoms n)
    pub begins : a.initial ≡ map (honest_bytes a.script.protocol atoms) (known_by a.script.protocol a.script.role)
    pub hands : a.handed ≡ map (honest_bytes a.script.protocol atoms) (handed_terms a.script.protocol a.script.role)
    pub draws : (i : ℕ) (t : Tree) → slice_get (made (own_plan judged)) i ≡ Some t → plays.draw i ≡ honest_bytes a.script.protocol atoms t
    pub formed : LabelsAreFormed (has_operator a.script.protocol.formats) (own_plan judged)
    pub partner_formed : LabelsAreFormed (has_operator a.script.protocol.formats) (map event_of (partner_plan a.script))

  -- What the partner is handed, hears and gets for a wrong value are the bytes of the terms of its plan, of some bytes of
  -- all names and of the spare one.
  pub record HearsRight (is : IsAttempt) : Type 0 where
    pub atoms : ℕ → List ℕ
    pub bytes : (n : ℕ) → IsBytes (atoms n)
    pub begins : a.initial ≡ map (honest_bytes a.script.protocol atoms) (known_by a.script.protocol a.script.role)
    pub hears : (n : ℕ) × (arrivals_of (own_lines a.handed is.converses.talks.hooked a.conversation.lines)
        ≡ map (honest_bytes a.script.protocol atoms) (take n (heard (map event_of (partner_plan a.script)))))
    pub formed : LabelsAreFormed (has_operator a.script.protocol.formats) (map event_of (partner_plan a.script))

-- ---- the laws

-- No right program is called wrong: the child plays the role, and the partner refused none of its messages.
abbrev pub RightProgramsPass : ProtocolValue → Type 0
RightProgramsPass p = (a : Attempt) → a.script.protocol ≡ p → IsAttempt a → DueIsKnown a → IsRead a
    → a.conversation.end ≢ Refused → (plays : PlaysRole a) → StopsAreSeen a plays → is_good a.verdict ≡ true

-- And where all is as narrated, the partner refuses none of its messages, and the role doesn't stop.
abbrev pub RightProgramsPassAsNarrated : ProtocolValue → Type 0
RightProgramsPassAsNarrated p = (a : Attempt) → a.script.protocol ≡ p → IsAttempt a → IsRead a → (plays : PlaysRole a)
    → IsNarrated a plays → is_good a.verdict ≡ true

-- A lax program is told: where something was tried and nothing is said against the program, then for some draws what was
-- seen is what the role does, if the names that it makes can be told.
abbrev pub LaxProgramsAreTold : ProtocolValue → Type 0
LaxProgramsAreTold p = (a : Attempt) → a.script.protocol ≡ p → IsAttempt a → DueIsKnown a → IsTried a
    → is_good a.verdict ≡ true → NamesAreTold (judged a) → IsRoles (judged a) (seen a)

-- The partner refuses no right message.
abbrev pub RightMessagesPass : ProtocolValue → Type 0
RightMessagesPass p = (a : Attempt) → a.script.protocol ≡ p → (is : IsAttempt a) → HearsRight a is → a.conversation.end ≢ Refused
