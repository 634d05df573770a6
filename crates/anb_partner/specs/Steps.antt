-- How far a talk is, and what a part of it does.
use Rattle.std.specs.Prelude.{◌≡◌, ℕ, List, [], ◌∷◌, ◌++◌, length, map, Option, Some, IfSome, Result}
use Rattle.std.specs.List.{AllByRecursion}
use Rattle.anb_base.specs.Bytes.{IsBytes}
use Rattle.anb_base.specs.Wires.{WireState}
use Rattle.anb_machine.specs.declared.turn.Halt.{Halt}
use Rattle.anb_plays.specs.Plays.{Run, SendsFirst}
use Rattle.anb_transcript.specs.declared.transcript.TranscriptLine.{TranscriptLine}
use Rattle.anb_transcript.specs.declared.transcript.TranscriptLine.TheVariants.{In, Out}
use Rattle.anb_transcript.specs.declared.following.Due.{Due}
use Rattle.anb_transcript.specs.Replays.{arrivals_of, messages_of, AreDue, due_after}
use Rattle.anb_partner.specs.declared.conversation.Conversation.{Conversation}
use Rattle.anb_partner.specs.declared.conversation.TalkEnd.{TalkEnd}
use Rattle.anb_partner.specs.declared.talking.Stop.{Stop}
use Rattle.anb_partner.specs.declared.talking.Stop.TheVariants.{Over, NoMemory}
use Rattle.anb_partner.specs.Talks.{Corruption, flipped, Drained, Ends, IsShort, Passed, Talks}
use Rattle.anb_partner.specs.Trials.{Trial}

-- each of these lines is due in the run R, which goes on as N behind them
pub record Reaches (R N : Run) (own : List TranscriptLine) : Type 0 where
  pub due : AreDue R own
  pub on : (arrivals : List (List ℕ)) → SendsFirst (R (arrivals_of own ++ arrivals)) (messages_of own) (N arrivals)

-- lines came behind others, over the pipes and by the run
pub record GoesOn (R N : Run) (before after : List TranscriptLine) (s t : WireState) (more : List TranscriptLine) : Type 0 where
  pub lines : after ≡ before ++ more
  pub reaches : Reaches R N (map flipped more)
  pub passed : Passed s t more
  pub short : AllByRecursion IsShort more

abbrev pub GoesOnBy : ℕ → (R N : Run) (before after : List TranscriptLine) (s t : WireState) → Type 0
GoesOnBy count R N before after s t =
    (more : List TranscriptLine) × GoesOn R N before after s t more × (length more ≡ count)

-- it is over at once, where this is due; want of memory says nothing
abbrev pub Stops : Corruption → Result Due Halt → (s t : WireState) → Stop → Type 0
Stops corrupt due s t (Over end) = Ends corrupt due s t end
Stops corrupt due s t NoMemory = Unit {0}

-- it goes on by some lines, and is over then
pub record Closes (R : Run) (before after : List TranscriptLine) (s u : WireState) (corrupt : Corruption) (end : TalkEnd) : Type 0 where
  pub more : List TranscriptLine
  pub N : Run
  pub t : WireState
  pub on : GoesOn R N before after s t more
  pub ends : Ends corrupt (due_after N []) t u end

abbrev pub IsOver : (R : Run) (before after : List TranscriptLine) (s u : WireState) (corrupt : Corruption) → Stop → Type 0
IsOver R before after s u corrupt (Over end) = Closes R before after s u corrupt end
IsOver R before after s u corrupt NoMemory = Unit {0}

-- a value was changed, into bytes
abbrev pub IsChanged : Corruption → (R N : Run) → Type 0
IsChanged corrupt R N =
    (right wrong : List ℕ) × (corrupt right ≡ Some wrong) × IsBytes wrong
    × Reaches R N (Out right ∷ In wrong ∷ [])

-- the whole talk
abbrev pub IsTalk : Run → Option ℕ → Corruption → (s u : WireState) → (lines : List TranscriptLine) → Stop → Type 0
IsTalk R at corrupt s u lines (Over end) = Talks R [] at corrupt s u lines end
IsTalk R at corrupt s u lines NoMemory = Unit {0}

-- a child that was started was talked with, drained and finished
pub record HasTalked (N : Run) (at : Option ℕ) (corrupt : Corruption) (pipes : WireState) (old new : Trial) (c : Conversation)
    : Type 0 where
  pub mid : WireState
  pub talks : Talks N [] at corrupt pipes mid c.lines c.end
  pub drained : Drained mid new.pipes c.end c.behind c.loose
  pub child : IfSome c.child (λ end. IfSome old.ends (λ told. end ≡ told))
  pub silent : c.silent ≡ new.silent
