-- What comes of a partner's conversation with a child.
use Rattle.std.specs.Prelude.{◌≡◌, ℕ, ◌+◌, ◌<◌, ◌≤◌, ◌^◌, ◌⊎◌, List, [], ◌∷◌, ◌++◌, length, map, take, drop, replicate, Bool, true, false, Option, Some, None, IfSome, Result, Ok, Err}
use Rattle.std.specs.List.{AllByRecursion}
use Rattle.anb_base.specs.Bytes.{IsBytes}
use Rattle.anb_base.specs.Moves.{Took, Put, PutPrefix, AtEnd, Rose, Stamped}
use Rattle.anb_base.specs.Wires.{WireState}
use Rattle.anb_base.specs.declared.TheConstants.{ARRIVAL}
use Rattle.anb_frame.specs.Frames.{frame, frames, length_bytes, IsPart}
use Rattle.anb_frame.specs.Cuts.{Short}
use Rattle.anb_frame.specs.Cuts as cuts
use Rattle.anb_plays.specs.Plays.{Run}
use Rattle.anb_machine.specs.declared.turn.Halt.{Halt}
use Rattle.anb_stage.specs.Children.{lines}
use Rattle.anb_transcript.specs.declared.transcript.TranscriptLine.{TranscriptLine}
use Rattle.anb_transcript.specs.declared.transcript.TranscriptLine.TheVariants.{In, Out}
use Rattle.anb_transcript.specs.declared.following.Due.{Due}
use Rattle.anb_transcript.specs.declared.following.Due.TheVariants.{Send, Receive, End}
use Rattle.anb_transcript.specs.Replays.{arrivals_of, messages_of, AreDue, due_after}
use Rattle.anb_partner.specs.declared.TheConstants.{BEHIND}
use Rattle.anb_partner.specs.declared.conversation.Conversation.{Conversation}
use Rattle.anb_partner.specs.declared.conversation.TalkEnd.{TalkEnd}
use Rattle.anb_partner.specs.declared.conversation.TalkEnd.TheVariants.{Done, Refused, Missing, Cut, Long, ReadFault, WriteFault, TooLong, Unchanged}
use Rattle.anb_partner.specs.Trials.{Trial}

-- ---- lines

-- what the child heard the partner said, and the other way round
abbrev pub flipped : TranscriptLine → TranscriptLine
flipped (In arrival) = Out arrival
flipped (Out message) = In message

-- what makes a right value a wrong one, where it can be made one
abbrev pub Corruption : Type 0
Corruption = List ℕ → Option (List ℕ)

-- a change: behind so many lines this right value became that wrong one
pub record Hooked : Type 0 where
  pub at : ℕ
  pub right : List ℕ
  pub wrong : List ℕ

-- What the partner heard and said: what it was handed, and the lines. At a change it says the right value
-- and hears the wrong one, and the child hears neither.
abbrev pub own_lines : (handed : List (List ℕ)) → Option Hooked → List TranscriptLine → List TranscriptLine
own_lines handed None lines = map In handed ++ map flipped lines
own_lines handed (Some h) lines =
    map In handed ++ map flipped (take h.at lines) ++ Out h.right ∷ In h.wrong ∷ map flipped (drop h.at lines)

-- where a value is to be changed behind so many lines: it was, into bytes, where there are more of them
abbrev pub IsHooked : Option ℕ → Corruption → List TranscriptLine → Option Hooked → Type 0
IsHooked at corrupt lines None = IfSome at (λ n. length lines ≤ n)
IsHooked at corrupt lines (Some h) =
    (at ≡ Some h.at) × (h.at ≤ length lines) × (corrupt h.right ≡ Some h.wrong) × IsBytes h.wrong

-- ---- the child's pipes

-- When each byte of the lines' messages is taken: how many bytes are written by then, so many at first.
abbrev pub stamps : ℕ → List TranscriptLine → List ℕ
stamps written [] = []
stamps written (In arrival ∷ lines) = stamps (written + length (frame arrival)) lines
stamps written (Out message ∷ lines) = replicate (length (frame message)) written ++ stamps written lines

module _ (old new : WireState) where
  -- these lines went over the pipes in their frames, each message taken once all before it was written
  pub record Passed (lines : List TranscriptLine) : Type 0 where
    pub took : Took old.left new.left (frames (messages_of lines))
    pub put : Put old.written new.written (frames (arrivals_of lines))
    pub in_time : IfSome old.written (λ written.
        Put old.taken_at new.taken_at (stamps (length written) lines))

  -- these bytes were taken, and nothing was written
  pub record Heard (bytes : List ℕ) : Type 0 where
    pub took : Took old.left new.left bytes
    pub written : new.written ≡ old.written
    pub in_time : IfSome old.written (λ written.
        Stamped old.taken_at new.taken_at (length written) (length bytes))

  -- nothing was taken
  pub record TookNothing : Type 0 where
    pub left : new.left ≡ old.left
    pub taken_at : new.taken_at ≡ old.taken_at

  -- and nothing was written
  pub record Still : Type 0 where
    pub took : TookNothing
    pub written : new.written ≡ old.written

-- ---- how a talk ends

-- a value that has no such change, or too long a one
abbrev pub IsUnchanged : Corruption → List ℕ → Type 0
IsUnchanged corrupt right = IfSome (corrupt right) (λ wrong. ARRIVAL < length wrong)

-- what is taken and written at the end, where this is due in the partner's play
abbrev pub Ends : Corruption → Result Due Halt → (old new : WireState) → TalkEnd → Type 0
Ends corrupt due old new Done = (due ≡ Ok End) × Still old new
Ends corrupt due old new Refused = ((halt : Halt) × (due ≡ Err halt)) × Still old new
Ends corrupt due old new Missing = (due ≡ Ok Receive) × Still old new × AtEnd old.left
Ends corrupt due old new (Cut have need) =
    (due ≡ Ok Receive) × ((part : List ℕ) × Heard old new part × cuts.Ends ARRIVAL part (Short have need))
    × AtEnd new.left
Ends corrupt due old new (Long len) =
    (due ≡ Ok Receive) × Heard old new (length_bytes len) × (ARRIVAL < len)
Ends corrupt due old new ReadFault =
    (due ≡ Ok Receive) × ((part : List ℕ) × (need : ℕ) × Heard old new part × IsPart ARRIVAL part need)
    × Rose old.read_faults new.read_faults
Ends corrupt due old new WriteFault =
    ((message : List ℕ) × (due ≡ Ok (Send message)) × PutPrefix old.written new.written (frame message))
    × TookNothing old new × Rose old.write_faults new.write_faults
Ends corrupt due old new TooLong =
    ((message : List ℕ) × (due ≡ Ok (Send message)) × (ARRIVAL < length message)) × Still old new
Ends corrupt due old new Unchanged =
    ((right : List ℕ) × (due ≡ Ok (Send right)) × IsUnchanged corrupt right) × Still old new

-- a line is no longer than an arrival may be
abbrev pub IsShort : TranscriptLine → Type 0
IsShort (In arrival) = length arrival ≤ ARRIVAL
IsShort (Out message) = length message ≤ ARRIVAL

-- The lines are those of the run of the partner, which was handed these values, over what came of the
-- child and the change; and they alone went over the pipes, up to the end.
pub record Talks (R : Run) (handed : List (List ℕ)) (at : Option ℕ) (corrupt : Corruption) (old new : WireState)
    (lines : List TranscriptLine) (end : TalkEnd) : Type 0 where
  pub hooked : Option Hooked
  pub is_hooked : IsHooked at corrupt lines hooked
  pub due : AreDue R (own_lines handed hooked lines)
  pub mid : WireState
  pub passed : Passed old mid lines
  pub ends : Ends corrupt (due_after R (own_lines handed hooked lines)) mid new end
  pub short : AllByRecursion IsShort lines
  pub few : length lines + 1 < 2 ^ 32

-- ---- the whole conversation

-- bytes that are no whole frame: a part of one at the end, or the length of one that is too long
abbrev pub IsLoose : WireState → List ℕ → Type 0
IsLoose new rest =
    ((have need : ℕ) × cuts.Ends ARRIVAL rest (Short have need) × AtEnd new.left)
    ⊎ ((len : ℕ) × (rest ≡ length_bytes len) × (ARRIVAL < len))

-- So many messages were read behind the talk, and then bytes that are no frame, or none. Then all was read,
-- but where reading failed, or the messages were too many.
pub record Drained (old new : WireState) (end : TalkEnd) (behind : ℕ) (is_loose : Bool) : Type 0 where
  pub messages : List (List ℕ)
  pub rest : List ℕ
  pub count : length messages ≡ behind
  pub took : Took old.left new.left (frames messages ++ rest)
  pub written : new.written ≡ old.written
  pub loose : is_loose ≡ true → IsLoose new rest
  pub all : is_loose ≡ false
      → ((rest ≡ []) × AtEnd new.left) ⊎ (BEHIND ≤ behind) ⊎ Rose old.read_faults new.read_faults ⊎ (end ≡ ReadFault)

module _ (R : Run) (handed : List (List ℕ)) (at : Option ℕ) (corrupt : Corruption) (words : List (List ℕ))
    (old new : Trial) where
  -- These words were asked of the child once; it was talked with, drained, and finished.
  pub record Converses (c : Conversation) : Type 0 where
    pub mid : WireState
    pub talks : Talks R handed at corrupt old.pipes mid c.lines c.end
    pub drained : Drained mid new.pipes c.end c.behind c.loose
    pub asked : Put old.asked new.asked (lines words)
    pub finished : new.phase ≡ 2
    pub child : IfSome c.child (λ end. IfSome old.ends (λ told. end ≡ told))
    pub silent : c.silent ≡ new.silent
