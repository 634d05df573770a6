-- What `probe` does: a program is tried in the cases of a role, and a report is written.
use Rattle.std.specs.Prelude.{◌≡◌, ◌⊎◌, ◌<◌, ℕ, ◌+◌, List, [], ◌∷◌, length, map, take, slice_get, count_by, Bool, true, false, Option, Some, is_some, Result}
use Rattle.anb_base.specs.Moves.{Put, PutPrefix}
use Rattle.anb_base.specs.Wires.{WireState}
use Rattle.anb_base.specs.declared.TheConstants.{ARRIVAL, WIDE}
use Rattle.anb_base.specs.declared.place.Place.TheVariants.{Stdio}
use Rattle.anb_code.specs.CodeValue.{CodeValue}
use Rattle.anb_code.specs.Verified.{IsVerifiedCode}
use Rattle.anb_compile.specs.Fitting.{FitsRole}
use Rattle.anb_partner.specs.Plans.{RefusesPartner}
use Rattle.anb_partner.specs.Trials.{Trial}
use Rattle.anb_partner.specs.declared.planning.Partner.{Partner}
use Rattle.anb_partner.specs.declared.planning.PartnerNo.{PartnerNo}
use Rattle.anb_partner.specs.declared.planning.PartnerNo.TheVariants as no
use Rattle.anb_protocol.specs.Protocols.{ActionValue, ProtocolValue}
use Rattle.anb_protocol.specs.declared.refusals.Kind.TheVariants.{AllNodes}
use Rattle.anb_protocol.specs.declared.refusals.ResolveNo.TheVariants.{Limit}
use Rattle.anb_status.specs.declared.status.NarrationNo.TheVariants.{Resolve}
use Rattle.anb_status.specs.declared.status.Status.{Status}
use Rattle.anb_status.specs.declared.status.Status.TheVariants.{BadNarration, CannotSend, ChildFault, Done, NoMemory, Unreached, WriteFault}
use Rattle.anb_status.specs.Statuses.{Phase, after_reach, at_reach, before_reach, phase_of}
use Rattle.anb_draws.specs.Draws.{Values}
use Rattle.anb_verdict.specs.Places.{is_own}
use Rattle.anb_verdict.specs.Texts.{no_such_case}
use Rattle.anb_attempts.specs.Attempts.{IsSuite, script_in}
use Rattle.anb_attempts.specs.declared.attempts.TheConstants.{MOST}
use Rattle.anb_attempts.specs.declared.attempts.Attempt.{Attempt}
use Rattle.anb_attempts.specs.declared.attempts.Scene.{Scene}
use Rattle.anb_attempts.specs.declared.attempts.Suite.{Suite}
use Rattle.anb_command.specs.Causes.{HasCause}
use Rattle.anb_command.specs.Fetches.{Files, IfTold}
use Rattle.anb_command.specs.Refusing.{IsRefusing}
use Rattle.anb_command.specs.Steps.{given}
use Rattle.anb_probe_commands.specs.Cases.{AreMade, all_untried, case_count, cases_from, is_beyond, lack_of}
use Rattle.anb_probe_commands.specs.Plays.{AreInTime, ArePlayed, AreTold, CaseEnd, IsNotStarted, verdicts_of}
use Rattle.anb_probe_commands.specs.Probings.{IsReadToProbe, Probing, ProbingIs}
use Rattle.anb_probe_commands.specs.Reports.{report, report_so_far, status_for}
use Rattle.anb_probe_commands.specs.Words.{Probed, Trying, order_of}
use Rattle.anb_probe_commands.specs.declared.partners.Lack.{Lack}

-- ---- what is tried, found before any program is started

-- the suite of the role's code, which is verified, and the partners of its scenes
pub record Suit (q : Probing) (trying : Trying) : Type 0 where
  pub code : CodeValue
  pub fits : FitsRole q.protocol q.role code
  pub verified : IsVerifiedCode ARRIVAL WIDE code
  pub suite : Suite
  pub is : IsSuite q.protocol q.role code trying.all suite
  pub partners : List (Result Partner Lack)
  pub made : AreMade q.protocol q.role suite.scenes.items partners
  pub each : length partners ≡ length suite.scenes.items

-- The scenes, the cases that are tried, the lines on what isn't, how many cases there are, where not all are asked for, and
-- whether the frames of each case are shown: where one is asked for.
pub record Agenda : Type 0 where
  pub scenes : List Scene
  pub cases : List Attempt
  pub untried : List (List ℕ)
  pub count : ℕ
  pub is_shown : Bool

abbrev pub lacks_in : {q : Probing} {trying : Trying} → Suit q trying → List (Option Lack)
lacks_in s = map lack_of s.partners

abbrev pub agenda_of : {q : Probing} {trying : Trying} → Suit q trying → Agenda
agenda_of {q} {trying} s = record {
  scenes = s.suite.scenes.items;
  cases = cases_from (map lack_of s.partners) trying.case 1 s.suite.attempts.items;
  untried = all_untried q.protocol q.role s.suite (map lack_of s.partners) trying.case;
  count = case_count (map lack_of s.partners) s.suite.attempts.items;
  is_shown = is_some trying.case;
}

-- a line of the role is the action with this number, from 1, whose sender has this name
pub record IsLineOf (p : ProtocolValue) (role line number : ℕ) (sender : List ℕ) : Type 0 where
  pub before : ℕ
  pub number_is : number ≡ before + 1
  pub action : ActionValue
  pub here : slice_get p.actions before ≡ Some action
  pub own : is_own role action ≡ true
  pub counted : count_by (is_own role) (take before p.actions) + 1 ≡ line
  pub named : slice_get p.roles action.from ≡ Some sender

module _ (p : ProtocolValue) (role : ℕ) where
  -- The partner of the first scene, the honest one, can't be made: it can't send the action of this line, or its plan has too
  -- many nodes.
  abbrev pub IsHonestNo : PartnerNo → Status → Type 0
  IsHonestNo (no.CannotSend line) status =
      (number : ℕ) × (sender : List ℕ) × IsLineOf p role line number sender × (status ≡ CannotSend number sender)
  IsHonestNo no.Large status = status ≡ BadNarration (Resolve (Limit AllNodes 65536))
  IsHonestNo no.NoMemory status = status ≡ NoMemory

pub record RefusesHonest (q : Probing) (trying : Trying) (status : Status) : Type 0 where
  pub code : CodeValue
  pub fits : FitsRole q.protocol q.role code
  pub suite : Suite
  pub suit : IsSuite q.protocol q.role code trying.all suite
  pub scene : Scene
  pub first : slice_get suite.scenes.items 0 ≡ Some scene
  pub why : PartnerNo
  pub refuses : RefusesPartner (script_in q.protocol q.role scene) why
  pub is : IsHonestNo q.protocol q.role why status

-- ---- what comes of it

module _ (q : Probing) (trying : Trying) (g : Agenda) (name : List ℕ) (old new : ℕ → Trial) (written written_now : Option (List ℕ)) where
  -- the first cases came to these ends; the children from the last on are as they were
  abbrev pub Plays : ℕ → (reached : ℕ) → List CaseEnd → Type 0
  Plays last reached ends = ArePlayed q g.scenes (order_of trying) g.cases reached ends last old new

  abbrev pub so_far : List CaseEnd → List ℕ
  so_far ends = report_so_far q.protocol q.role g.scenes g.is_shown g.cases ends

  abbrev pub whole : List Values → List CaseEnd → List ℕ
  whole told ends = report q.protocol q.role g.scenes g.is_shown g.cases g.untried told ends

  -- all cases are over, and the report is written
  pub record IsReported (status : Status) : Type 0 where
    pub there : is_beyond trying.case g.count ≡ false
    pub reached : ℕ
    pub ends : List CaseEnd
    pub all : length ends ≡ length g.cases
    pub played : Plays (length ends) reached ends
    pub told : List Values
    pub are_told : AreTold q ends told
    pub put : Put written written_now (whole told ends)
    pub is : status ≡ status_for (verdicts_of ends)

  -- there is no such case: nothing is started
  pub record IsBeyond (status : Status) : Type 0 where
    pub beyond : is_beyond trying.case g.count ≡ true
    pub unstarted : new ≡ old
    pub put : Put written written_now (no_such_case g.count)
    pub is : status ≡ Done

  -- a part of the report is written: up to the lines of these cases, of the notes behind all of them, or that there is no
  -- such case
  abbrev pub WritesPart : List CaseEnd → Type 0
  WritesPart ends =
      PutPrefix written written_now (so_far ends)
      ⊎ ((length ends ≡ length g.cases)
      × ((told : List Values) × AreTold q ends told × PutPrefix written written_now (whole told ends)))
      ⊎ PutPrefix written written_now (no_such_case g.count)

  -- Writing failed, or memory was wanting; nothing was started where there is no such case, and the lines of each case
  -- were written before the next child was started.
  pub record IsCutShort : Type 0 where
    pub idle : is_beyond trying.case g.count ≡ true → new ≡ old
    pub reached : ℕ
    pub ends : List CaseEnd
    pub played : Plays (length ends + 1) reached ends
    pub in_time : AreInTime so_far ends old new written written_now
    pub writes : WritesPart ends

  -- the program can't be started: the lines of the cases before are written
  pub record IsStuck (child : List ℕ) : Type 0 where
    pub there : is_beyond trying.case g.count ≡ false
    pub reached : ℕ
    pub ends : List CaseEnd
    pub within : length ends < length g.cases
    pub played : Plays (length ends + 1) reached ends
    pub next : IsNotStarted (old (length ends)) (new (length ends))
    pub put : Put written written_now (so_far ends)
    pub is : child ≡ name

  abbrev pub ComesTo : Status → Type 0
  ComesTo WriteFault = IsCutShort
  ComesTo NoMemory = IsCutShort
  ComesTo (ChildFault child) = IsStuck child
  ComesTo (Unreached place) = (new ≡ old) × (written_now ≡ written)
  ComesTo status = IsReported status ⊎ IsBeyond status

-- ---- the command

-- when a status may come; that of a program that can't be started comes behind the first lines
abbrev pub probe_phase : Status → Phase
probe_phase (ChildFault name) = after_reach
probe_phase status = phase_of status

abbrev pub probe_files : Probed → List (List ℕ)
probe_files asked = asked.narration ∷ asked.values ∷ []

module _ (asked : Probed) (told : Option Files) (host_seed : Option (List ℕ)) (old new : ℕ → Trial) (S T : WireState) where
  abbrev pub Asks : Files → Probing → Type 0
  Asks files q = ProbingIs files asked.narration asked.role asked.values host_seed (given q)

  -- nothing is started, and nothing written
  pub record IsIdle : Type 0 where
    pub children : new ≡ old
    pub unwritten : T.written ≡ S.written

  -- The files are refused, or the honest partner is; or the program is tried.
  pub record IsRefusedEarly (files : Files) (status : Status) : Type 0 where
    pub refuses : IsRefusing (ProbingIs files asked.narration asked.role asked.values host_seed)
        (IsReadToProbe files asked.narration asked.role asked.values) status
    pub early : (phase_of status ≡ before_reach) ⊎ (status ≡ NoMemory)
    pub idle : IsIdle

  pub record IsRefusedLate (files : Files) (status : Status) : Type 0 where
    pub q : Probing
    pub asks : Asks files q
    pub refuses : RefusesHonest q asked.trying status ⊎ (status ≡ NoMemory)
    pub idle : IsIdle

  pub record IsTriedOut (files : Files) (status : Status) : Type 0 where
    pub q : Probing
    pub asks : Asks files q
    pub suit : Suit q asked.trying
    pub comes : ComesTo q asked.trying (agenda_of suit) asked.role old new S.written T.written status

  abbrev pub IsProbed : Files → Status → Type 0
  IsProbed files status = IsRefusedEarly files status ⊎ IsRefusedLate files status ⊎ IsTriedOut files status

  pub record DoesProbe (status : Status) : Type 0 where
    pub probes : IfTold told (λ files. IsProbed files status)
    -- what is refused before the standard streams are reached starts nothing, whatever is told
    pub idle : probe_phase status ≡ before_reach → IsIdle
    pub unreached : probe_phase status ≡ at_reach → IsIdle

  -- where nothing is refused and nothing failed, all cases are tried and reported, or memory was wanting
  abbrev pub CompletesProbe : Status → Type 0
  CompletesProbe status = IfTold told (λ files. (q : Probing) → Asks files q
      → RefusesHonest q asked.trying status
      ⊎ ((suit : Suit q asked.trying)
      × (IsReported q asked.trying (agenda_of suit) asked.role old new S.written T.written status
      ⊎ IsBeyond q asked.trying (agenda_of suit) asked.role old new S.written T.written status))
      ⊎ (status ≡ NoMemory))

-- Starting the program failed in a case. What comes of a child that was started is no such failure, nor that it was
-- silent for too long.
abbrev pub StartFailed : (children children_now : ℕ → Trial) → Type 0
StartFailed children children_now = (case : ℕ) × (case < MOST) × IsNotStarted (children case) (children_now case)

-- A program that can't be started is answered only where a start failed, and all else as by the other commands.
abbrev pub HasProbeCause : (names : List (List ℕ)) → (faults faults_now : List ℕ → ℕ) → (children children_now : ℕ → Trial)
    → (old new : WireState) → Status → Type 0
HasProbeCause names faults faults_now children children_now old new (ChildFault name) =
    StartFailed children children_now
HasProbeCause names faults faults_now children children_now old new status =
    HasCause names (Some Stdio) faults faults_now old new status
