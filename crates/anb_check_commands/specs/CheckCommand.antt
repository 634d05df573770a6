-- What `check` does: it says where and why a narration's text is refused, or reports on its roles; and of a text with a
-- choice on those of each arm.
use Rattle.std.specs.Prelude.{◌≡◌, ◌⊎◌, ℕ, ◌+◌, true, false, List, [], ◌∷◌, ◌++◌, length, min, take, codes, Option, Some, None, slice_get}
use Rattle.std.specs.List.{AllByRecursion}
use Rattle.anb_base.specs.Moves.{Put}
use Rattle.anb_base.specs.Wires.{WireState}
use Rattle.anb_base.specs.declared.TheConstants.{ARRIVAL, WIDE}
use Rattle.anb_syntax.specs.Grammar.{Narration}
use Rattle.anb_syntax.specs.Text.{Text}
use Rattle.anb_read.specs.Refusals.{IsRefusal, offset}
use Rattle.anb_read.specs.declared.refusal.ReadNo.{ReadNo}
use Rattle.anb_protocol.specs.Protocols.{ProtocolValue, protocol_of}
use Rattle.anb_outcomes.specs.declared.choices.BranchNo.{BranchNo}
use Rattle.anb_outcomes.specs.declared.choices.BranchNo.TheVariants.{ArmRead, ArmResolve, Blind}
use Rattle.anb_choice.specs.Branching.{AreArmTexts, BranchedText, IsUntold, choice_fault}
use Rattle.anb_choice.specs.Lawful.{BranchedValue, IsLawful}
use Rattle.anb_code.specs.CodeValue.{CodeValue}
use Rattle.anb_code.specs.Verified.{IsVerifiedCode}
use Rattle.anb_compile.specs.Fitting.{FitRoles}
use Rattle.anb_pattern.specs.Taken.{TakenValue}
use Rattle.anb_notes.specs.Idle.{IsNotedOf}
use Rattle.anb_notes.specs.Notes.{notes}
use Rattle.anb_lack.specs.Lacking.{IsLackText}
use Rattle.anb_mistakes.specs.Pointing.{pointed}
use Rattle.anb_mistakes.specs.Unread.{IsUnreadText}
use Rattle.anb_mistakes.specs.Unresolved.{IsUnresolvedText}
use Rattle.anb_mistakes.specs.Unsent.{IsUnsentText}
use Rattle.anb_report.specs.Reporting.{report}
use Rattle.anb_visible.specs.Visible.{IsClean, visible}
use Rattle.anb_command.specs.declared.limits.TheConstants.{NARRATION_LIMIT}
use Rattle.anb_status.specs.declared.status.NarrationNo.TheVariants.{Read, Resolve}
use Rattle.anb_status.specs.declared.status.Status.{Status}
use Rattle.anb_status.specs.declared.status.Status.TheVariants.{Done, FileFault, BadNarration, CannotSend, Unreached, WriteFault, NoMemory}
use Rattle.anb_command.specs.Fetches.{Files, IfTold}
use Rattle.anb_command.specs.Files.{FileIs, NarrationIs, ProtocolIs}
use Rattle.anb_command.specs.Roles.{SendableOf}
use Rattle.anb_status.specs.Statuses.{is_fault, why_ill_formed}
use Rattle.anb_command.specs.Steps.{Answer, refused, given, InTurn}
use Rattle.anb_check_commands.specs.ChoiceLines.{action_at, arm_line, blind_line, blind_mend, fault_line, first_at, order_line, order_mend, roles_mend, text_of_arm, wrong_at}

-- the protocol that a text tells, where all its roles can send
abbrev pub SendableOfText : List ℕ → Answer ProtocolValue → Type 0
SendableOfText x = InTurn (NarrationIs x) (λ n. InTurn (ProtocolIs n) SendableOf)

-- What is said of an action that its sender can't compose, of the protocol that a text tells: at its message, what the
-- sender has and lacks.
abbrev pub IsLackSaid : (name x : List ℕ) → ProtocolValue → (action : ℕ) → List ℕ → Type 0
IsLackSaid name x p action said =
    (line : List ℕ) × (lists : List ℕ) × IsLackText p line lists × IsUnsentText name x action line lists said

-- What is said of a text, in a file of this name, that is refused with this status: the place and what
-- would mend it; and of a narration in which a role can't send, the place and what it lacks.
abbrev pub SaidOf : (name x : List ℕ) → Status → List ℕ → Type 0
SaidOf name x (BadNarration (Read why)) said = IsUnreadText name x why said
SaidOf name x (BadNarration (Resolve why)) said =
    (n : Narration) × Text n x × IsUnresolvedText name x n why (why_ill_formed why) said
SaidOf name x (CannotSend action role) said = (n : Narration) × Text n x × IsLackSaid name x (protocol_of n) action said
SaidOf name x status said = ⊥

-- what is said of each role in order, by the patterns whose instances are exactly what it takes, by what comes of a
-- recording of another run, by what somebody can send who knows only the agents' names, and by the new names that none of
-- its patterns has
pub record AreTaken (p : ProtocolValue) (taken : List TakenValue) : Type 0 where
  pub count : length taken ≡ length p.roles
  pub each : (role : ℕ) (t : TakenValue) → slice_get taken role ≡ Some t → IsNotedOf p role t

-- the report on all roles, by a code for each that is accepted and fits it, and by what each takes; below it stand the
-- notes on keys
pub record IsReport (p : ProtocolValue) (said : List ℕ) : Type 0 where
  pub codes : List CodeValue
  pub accepted : AllByRecursion (IsVerifiedCode ARRIVAL WIDE) codes
  pub fit : FitRoles p codes
  pub taken : List TakenValue
  pub takes : AreTaken p taken
  pub is : said ≡ report p codes taken ++ notes p

-- the status of a text as that of a narration, and what is said of it
abbrev pub IsVerdictOnText : (name x : List ℕ) → Status → List ℕ → Type 0
IsVerdictOnText name x status said =
    (SendableOfText x (refused status) × SaidOf name x status said)
    ⊎ ((p : ProtocolValue) × SendableOfText x (given p) × (status ≡ Done) × IsReport p said)

-- ---- texts with a choice

-- the first status but `Done`
abbrev pub first_refusal : (own later : Status) → Status
first_refusal Done later = later
first_refusal own later = own

-- The verdict on arms with these texts, from this number on: the number of each, and what is said of its text; and the
-- status of the first that isn't in order.
abbrev pub AreArms : (name : List ℕ) → (number : ℕ) → List (List ℕ) → Status → List ℕ → Type 0
AreArms name number [] status said = (status ≡ Done) × (said ≡ [])
AreArms name number (x ∷ xs) status said =
    (own : Status) × (text : List ℕ) × (later : Status) × (others : List ℕ)
    × IsVerdictOnText name x own text × AreArms name (number + 1) xs later others
    × (status ≡ first_refusal own later) × (said ≡ arm_line number ++ (text ++ others))

abbrev pub IsVerdictOnArms : (name x : List ℕ) → Status → List ℕ → Type 0
IsVerdictOnArms name x status said = (texts : List (List ℕ)) × AreArmTexts x texts × AreArms name 1 texts status said

abbrev pub IsVerdictOnArm : (name x : List ℕ) → (arm : ℕ) → Status → List ℕ → Type 0
IsVerdictOnArm name x arm status said =
    (texts : List (List ℕ)) × AreArmTexts x texts × IsVerdictOnText name (text_of_arm x texts arm) status said

-- the arm that is no narration, or not well formed
abbrev pub refused_arm : BranchNo → Option ℕ
refused_arm (ArmRead arm why) = Some arm
refused_arm (ArmResolve arm why) = Some arm
refused_arm why = None

-- the verdict on the text of an arm, or on the text itself
abbrev pub IsVerdictOnPart : (name x : List ℕ) → Option ℕ → Status → List ℕ → Type 0
IsVerdictOnPart name x None status said = IsVerdictOnText name x status said
IsVerdictOnPart name x (Some arm) status said = IsVerdictOnArm name x arm status said

-- The verdict on a text that tells no choice for this reason: of one that goes wrong here, behind the word with which
-- it begins, the place and what a choice is; else the verdict on the arm that is refused, or on the text itself.
abbrev pub IsVerdictAt : (name x : List ℕ) → ReadNo → BranchNo → Option ℕ → Status → List ℕ → Type 0
IsVerdictAt name x why cause None status said = IsVerdictOnPart name x (refused_arm cause) status said
IsVerdictAt name x why cause (Some at) status said =
    (status ≡ BadNarration (Read why)) × (said ≡ pointed name x (min at (length x)) (order_line cause) order_mend)

-- a line and what would mend it, at the message of an action of an arm
abbrev pub IsSaidAtAction : (name x : List ℕ) → (arm action : ℕ) → (line : List ℕ) → List ℕ → Type 0
IsSaidAtAction name x arm action line said =
    (texts : List (List ℕ)) × AreArmTexts x texts
    × IsUnsentText name (text_of_arm x texts arm) action line (blind_mend ++ codes "\n") said

-- the same there, or where no action is told, where the choice begins
abbrev pub IsSaidAt : (name x : List ℕ) → ReadNo → (arm : ℕ) → Option ℕ → (line : List ℕ) → List ℕ → Type 0
IsSaidAt name x why arm None line said = said ≡ pointed name x (offset why) line blind_mend
IsSaidAt name x why arm (Some action) line said = IsSaidAtAction name x arm action line said

-- what is said of a role that is blind in an arm: why, at the message of its first action there
abbrev pub IsBlindSaid : (name x : List ℕ) → ReadNo → BranchedValue → (role : List ℕ) → (arm : ℕ) → List ℕ → Type 0
IsBlindSaid name x why b role arm said =
    let first = first_at b role arm in IsSaidAt name x why arm (action_at b arm first) (blind_line role arm first) said

-- What is said of a choice that isn't lawful, in a text that is no narration for this reason: all but blindness is
-- said where the choice begins, which no narration goes on with.
abbrev pub IsFaultSaid : (name x : List ℕ) → ReadNo → BranchedValue → BranchNo → List ℕ → Type 0
IsFaultSaid name x why b (Blind role arm) said = IsBlindSaid name x why b role arm said
IsFaultSaid name x why b fault said = said ≡ pointed name x (offset why) (fault_line b.chooser fault) roles_mend

-- The verdict on a text that is no narration for this reason: it tells no choice, or one that isn't lawful, or a lawful
-- one.
abbrev pub IsVerdictOnUnread : (name x : List ℕ) → ReadNo → Status → List ℕ → Type 0
IsVerdictOnUnread name x why status said =
    ((no : BranchNo) × IsUntold x no × IsVerdictAt name x why no (wrong_at x why no) status said)
    ⊎ (((b : BranchedValue) × (no : BranchNo) × BranchedText x b × (choice_fault b ≡ Some no)
    × (status ≡ BadNarration (Read why)) × IsFaultSaid name x why b no said)
    ⊎ ((b : BranchedValue) × BranchedText x b × IsLawful b × IsVerdictOnArms name x status said))

-- the status of a text, and what is said of it
abbrev pub IsVerdict : (name x : List ℕ) → Status → List ℕ → Type 0
IsVerdict name x status said =
    ((n : Narration) × Text n x × IsVerdictOnText name x status said)
    ⊎ ((why : ReadNo) × IsRefusal x why × IsVerdictOnUnread name x why status said)

-- What is written of it: what is said, with control bytes, and what isn't UTF-8, as `\x1b`. So a terminal
-- gets no control byte of a file or of its name.
pub record IsShownVerdict (name x : List ℕ) (status : Status) (out : List ℕ) : Type 0 where
  pub said : List ℕ
  pub verdict : IsVerdict name x status said
  pub shown : out ≡ visible said
  pub clean : IsClean out

module _ (files : Files) (narration : List ℕ) where
  -- of the text in the file
  abbrev pub IsVerdictOnFile : Status → List ℕ → Type 0
  IsVerdictOnFile status out =
      (x : List ℕ) × FileIs files narration NARRATION_LIMIT (given x) × IsShownVerdict narration x status out

  -- an outcome, where no fault comes: the file is too long, or the verdict on its text
  abbrev pub Tells : Status → List ℕ → Type 0
  Tells status out =
      (FileIs files narration NARRATION_LIMIT (refused status) × (out ≡ [])) ⊎ IsVerdictOnFile status out

  abbrev pub TellsPart : List ℕ → Type 0
  TellsPart out = (status : Status) × (whole : List ℕ) × IsVerdictOnFile status whole × ((n : ℕ) × (out ≡ take n whole))

  -- what is written where a fault comes, or memory is wanting
  abbrev pub TellsLess : Status → List ℕ → Type 0
  TellsLess WriteFault out = TellsPart out
  TellsLess NoMemory out = out ≡ []
  TellsLess (Unreached place) out = ((status : Status) × (whole : List ℕ) × IsVerdictOnFile status whole) × (out ≡ [])
  TellsLess (FileFault name) out = out ≡ []
  TellsLess status out = ⊥

  pub record IsTelling (result : Status) (written written_now : Option (List ℕ)) : Type 0 where
    -- the status and what is written are an outcome
    pub is : is_fault result ≡ false → (out : List ℕ) × Tells result out × Put written written_now out
    -- and each outcome has this status
    pub only : is_fault result ≡ false → (status : Status) (out : List ℕ) → Tells status out → result ≡ status
    pub cut_short : is_fault result ≡ true → (out : List ℕ) × TellsLess result out × Put written written_now out

module _ (narration : List ℕ) (told : Option Files) where
  abbrev pub DoesCheck : (old new : WireState) → Status → Type 0
  DoesCheck old new status = IfTold told (λ files. IsTelling files narration status old.written new.written)

  -- where nothing failed the status is that of the verdict, or memory was wanting
  abbrev pub CompletesCheck : Status → Type 0
  CompletesCheck status =
      IfTold told (λ files. (x : List ℕ) → FileIs files narration NARRATION_LIMIT (given x)
      → ((out : List ℕ) × IsShownVerdict narration x status out) ⊎ (status ≡ NoMemory))
