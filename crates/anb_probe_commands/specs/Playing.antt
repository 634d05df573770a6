-- For proofs alone: what a part of the cases comes to, and what goes over the wire.
use Rattle.std.specs.Prelude.{◌≡◌, ◌≢◌, ◌⊎◌, ◌≤◌, ◌<◌, ◌^◌, ℕ, ◌+◌, List, length, slice_get, Some, All, Option, false, map, None, Result}
use Rattle.std.specs.List.{AllByRecursion}
use Rattle.anb_base.specs.Bytes.{IsBytes}
use Rattle.anb_base.specs.Moves.{Put, PutPrefix, Rose}
use Rattle.anb_base.specs.Wires.{WireState}
use Rattle.anb_base.specs.declared.TheConstants.{ARRIVAL}
use Rattle.anb_base.specs.declared.place.Place.TheVariants.{Stdio}
use Rattle.anb_draws.specs.Draws.{Values}
use Rattle.anb_attempts.specs.declared.attempts.TheConstants.{MOST}
use Rattle.anb_attempts.specs.declared.attempts.Attempt.{Attempt}
use Rattle.anb_command.specs.Causes.{HasWireCause}
use Rattle.anb_partner.specs.Talks.{IsShort}
use Rattle.anb_command.specs.OverWire.{OnlyWrites}
use Rattle.anb_command.specs.Reaches.{Reaches}
use Rattle.anb_command.specs.Reported.{TellsWireFaults}
use Rattle.anb_command.specs.Touches.{Touches}
use Rattle.anb_partner.specs.Trials.{Trial}
use Rattle.anb_status.specs.declared.status.Status.{Status}
use Rattle.anb_status.specs.declared.status.Status.TheVariants.{ChildFault, WriteFault}
use Rattle.anb_status.specs.declared.status.Status.TheVariants as status
use Rattle.anb_text.specs.declared.writing.WriteNo.{WriteNo}
use Rattle.anb_text.specs.declared.writing.WriteNo.TheVariants as writing
use Rattle.anb_verdict.specs.declared.verdict.Verdict.{Verdict}
use Rattle.anb_partner.specs.declared.planning.Partner.{Partner}
use Rattle.anb_attempts.specs.declared.attempts.Scene.{Scene}
use Rattle.anb_probe_commands.specs.declared.partners.Lack.{Lack}
use Rattle.anb_probe_commands.specs.Cases.{AreMade, lack_in, lack_of}
use Rattle.anb_probe_commands.specs.Plays.{AreInTime, ArePlayed, AreTold, CaseEnd, IsNotStarted, IsTried, handed, initial, verdicts_of}
use Rattle.anb_probe_commands.specs.Probings.{Probing}
use Rattle.anb_probe_commands.specs.ProbeCommand.{Agenda, ComesTo, RefusesHonest, StartFailed, Suit, agenda_of, probe_phase}
use Rattle.anb_probe_commands.specs.Reports.{case_text, played_lines, report, report_so_far}
use Rattle.anb_probe_commands.specs.Tasks.{agenda_by}
use Rattle.anb_probe_commands.specs.Words.{Trying}
use Rattle.anb_probe_commands.specs.declared.cases.Prepared.{Prepared}
use Rattle.anb_probe_commands.specs.declared.playing.Outcome.{Outcome}
use Rattle.anb_probe_commands.specs.declared.writing.PlayNo.{PlayNo}
use Rattle.anb_probe_commands.specs.declared.writing.PlayNo.TheVariants.{Failed, NotStarted, NoMemory}

-- the status where not all cases were played, of a role with this name
abbrev pub status_of : PlayNo → (name : List ℕ) → Status
status_of NotStarted name = ChildFault name
status_of Failed name = WriteFault
status_of NoMemory name = status.NoMemory

-- why lines weren't written
abbrev pub no_of : WriteNo → PlayNo
no_of writing.Failed = Failed
no_of writing.NoMemory = NoMemory

-- a text was written, and nothing else
pub record Wrote (S T : WireState) (text : List ℕ) : Type 0 where
  pub put : Put S.written T.written text
  pub only : OnlyWrites S T
  pub quiet : T.write_faults ≡ S.write_faults

-- something was, and this went wrong
pub record Broke (S T : WireState) (why : PlayNo) : Type 0 where
  pub only : OnlyWrites S T
  pub cause : why ≡ Failed → Rose S.write_faults T.write_faults
  pub quiet : why ≢ Failed → T.write_faults ≡ S.write_faults

-- a part of a text was, and it went wrong
pub record BrokeIn (text : List ℕ) (S T : WireState) (why : PlayNo) : Type 0 where
  pub part : PutPrefix S.written T.written text
  pub broke : Broke S T why
  pub started : why ≢ NotStarted

-- an attempt has a scene, and this has a partner
pub record IsPlaced (scenes : List Scene) (partners : List (Result Partner Lack)) (a : Attempt) : Type 0 where
  pub scene : a.scene < length scenes
  pub partner : a.scene < length partners
  pub made : lack_in (map lack_of partners) a.scene ≡ None

-- the cases of what is prepared can be played
pub record CanPlay (q : Probing) (x : Prepared) : Type 0 where
  pub role : q.role < length q.protocol.roles
  pub made : AreMade q.protocol q.role x.scenes.items x.partners.items
  pub placed : AllByRecursion (IsPlaced x.scenes.items x.partners.items) x.cases.items
  pub few : length x.cases.items ≤ MOST
  pub initial : x.values.initial.items ≡ initial q
  pub handed : x.values.handed.items ≡ handed q
  pub bytes : AllByRecursion IsBytes x.values.initial.items
  pub initial_short : All (λ value. length value ≤ ARRIVAL) x.values.initial.items
  pub handed_short : All (λ value. length value ≤ ARRIVAL) x.values.handed.items

-- what is tried is prepared
pub record IsPrepared (q : Probing) (trying : Trying) (x : Prepared) : Type 0 where
  pub suit : Suit q trying
  pub same : agenda_by x ≡ agenda_of suit
  pub can : CanPlay q x

-- what came of a case
abbrev pub end_in : Outcome → CaseEnd
end_in o = record { verdict = o.verdict; lines = o.lines }

-- its lines can be judged
pub record CanJudge (end : CaseEnd) : Type 0 where
  pub few : length end.lines + 1 < 2 ^ 32
  pub short : AllByRecursion IsShort end.lines

module _ (q : Probing) (x : Prepared) where
  -- the text of a case with a number, from 1, and of the first cases
  abbrev pub text_of : (number : ℕ) → Attempt → CaseEnd → List ℕ
  text_of number a end = case_text q.protocol q.role x.scenes.items x.is_shown number a end

  abbrev pub texts_of : List CaseEnd → List ℕ
  texts_of ends = played_lines q.protocol q.role x.scenes.items x.is_shown 1 x.cases.items ends

module _ (q : Probing) (x : Prepared) (order : List (List ℕ)) where
  -- Of a case, what was asked for want of something: its child can't be started, or no line of it is written, or a part
  abbrev pub IsCaseCut : (number reached : ℕ) → (old new : Trial) → (w now : Option (List ℕ)) → PlayNo → Type 0
  IsCaseCut number reached old new w now NotStarted = IsNotStarted old new × (now ≡ w)
  IsCaseCut number reached old new w now why =
      (now ≡ w)
      ⊎ ((a : Attempt) × (end : CaseEnd) × (got : ℕ) × (slice_get x.cases.items number ≡ Some a)
      × IsTried q x.scenes.items order a reached old new end got
      × PutPrefix w now (text_of q x (number + 1) a end))

  -- all cases were played, and this came of them
  pub record IsPlayedOut (old new : ℕ → Trial) (S T : WireState) (outcomes : List Outcome) : Type 0 where
    pub reached : ℕ
    pub ends : List CaseEnd
    pub ends_are : ends ≡ map end_in outcomes
    pub all : length ends ≡ length x.cases.items
    pub played : ArePlayed q x.scenes.items order x.cases.items reached ends (length ends) old new
    pub wrote : Wrote S T (texts_of q x ends)

  module _ (old new : ℕ → Trial) (w now : Option (List ℕ)) where
    pub record IsPlayedPart (ends : List CaseEnd) : Type 0 where
      pub reached : ℕ
      pub played : ArePlayed q x.scenes.items order x.cases.items reached ends (length ends + 1) old new
      pub within : length ends ≤ length x.cases.items

    -- the same of all of them
    abbrev pub IsCut : PlayNo → Type 0
    IsCut NotStarted = (ends : List CaseEnd) × IsPlayedPart ends × (length ends < length x.cases.items)
        × IsNotStarted (old (length ends)) (new (length ends))
        × Put w now (texts_of q x ends)
    IsCut why = (ends : List CaseEnd) × IsPlayedPart ends
        × AreInTime (texts_of q x) ends old new w now
        × PutPrefix w now (texts_of q x ends)

-- ---- all of them, and the report

-- the report on these, and up to the last of them
abbrev pub report_in : Probing → Agenda → List Values → List CaseEnd → List ℕ
report_in q g told ends = report q.protocol q.role g.scenes g.is_shown g.cases g.untried told ends

abbrev pub part_in : Probing → Agenda → List CaseEnd → List ℕ
part_in q g ends = report_so_far q.protocol q.role g.scenes g.is_shown g.cases ends

module _ (q : Probing) (g : Agenda) (order : List (List ℕ)) (old new : ℕ → Trial) where
  pub record PlaysAll (S T : WireState) (verdicts : List Verdict) : Type 0 where
    pub reached : ℕ
    pub ends : List CaseEnd
    pub verdicts_are : verdicts_of ends ≡ verdicts
    pub all : length ends ≡ length g.cases
    pub played : ArePlayed q g.scenes order g.cases reached ends (length ends) old new
    pub told : List Values
    pub are_told : AreTold q ends told
    pub wrote : Wrote S T (report_in q g told ends)

  module _ (w now : Option (List ℕ)) where
    pub record PlaysPart (ends : List CaseEnd) : Type 0 where
      pub reached : ℕ
      pub played : ArePlayed q g.scenes order g.cases reached ends (length ends + 1) old new

    abbrev pub PlaysLess : PlayNo → Type 0
    PlaysLess NotStarted = (ends : List CaseEnd) × PlaysPart ends × (length ends < length g.cases)
        × IsNotStarted (old (length ends)) (new (length ends))
        × Put w now (part_in q g ends)
    PlaysLess why = (ends : List CaseEnd) × PlaysPart ends
        × AreInTime (part_in q g) ends old new w now
        × (PutPrefix w now (part_in q g ends)
        ⊎ ((length ends ≡ length g.cases)
        × ((told : List Values) × AreTold q ends told × PutPrefix w now (report_in q g told ends))))

-- ---- behind the reach

-- why a status comes then: no other does
abbrev pub LateCause : (old new : ℕ → Trial) → (S T : WireState) → Status → Type 0
LateCause old new S T status.Done = T.write_faults ≡ S.write_faults
LateCause old new S T (status.CasesNotOk failed cases) = T.write_faults ≡ S.write_faults
LateCause old new S T status.NoMemory = T.write_faults ≡ S.write_faults
LateCause old new S T status.WriteFault = Rose S.write_faults T.write_faults
LateCause old new S T (status.ChildFault name) = StartFailed old new × (T.write_faults ≡ S.write_faults)
LateCause old new S T status = ⊥

pub record EndsLate (old new : ℕ → Trial) (S T : WireState) (status : Status) : Type 0 where
  pub only : OnlyWrites S T
  pub cause : LateCause old new S T status

-- ---- a whole task

abbrev pub HasTrialCause : (old new : ℕ → Trial) → (S T : WireState) → Status → Type 0
HasTrialCause old new S T (status.ChildFault name) = StartFailed old new
HasTrialCause old new S T status = HasWireCause (Some Stdio) S T status

pub record OverTrials (old new : ℕ → Trial) (S T : WireState) (status : Status) : Type 0 where
  pub cause : HasTrialCause old new S T status
  pub told : TellsWireFaults S T status
  pub reached : Reaches (Some Stdio) (probe_phase status) S.reached T.reached
  pub touches : Touches false (probe_phase status) S T

-- the honest partner is refused, or the cases come to this
abbrev pub TaskComesTo : Probing → Trying → (name : List ℕ) → (old new : ℕ → Trial) → (S T : WireState) → Status → Type 0
TaskComesTo q trying name old new S T s =
    ((RefusesHonest q trying s ⊎ (s ≡ status.NoMemory)) × (new ≡ old) × (T ≡ S))
    ⊎ ((suit : Suit q trying) × ComesTo q trying (agenda_of suit) name old new S.written T.written s)
