-- Each case that `probe` plays is an attempt of its suite, so what is proved of attempts holds of the cases.
use Rattle.std.specs.Prelude.{◌≡◌, ◌≢◌, ◌⊎◌, ◌<◌, ℕ, List, length, Bool, true, Option, Some, None, slice_get}
use Rattle.anb_base.specs.Wires.{WireState}
use Rattle.anb_protocol.specs.Protocols.{ProtocolValue}
use Rattle.anb_partner.specs.Plans.{hook_at}
use Rattle.anb_partner.specs.Trials.{Trial}
use Rattle.anb_spoil.specs.Wrongs.{wrong_by}
use Rattle.anb_verdict.specs.Laws.{NamesAreTold}
use Rattle.anb_verdict.specs.Verdicts.{IsRoles, is_good}
use Rattle.anb_status.specs.declared.status.Status.{Status}
use Rattle.anb_status.specs.declared.status.Status.TheVariants.{CasesNotOk, Done}
use Rattle.anb_command.specs.Fetches.{Files}
use Rattle.anb_command.specs.Steps.{given}
use Rattle.anb_suite.specs.Suites.{IsCaseOf}
use Rattle.anb_suite.specs.declared.cases.Case.{Case}
use Rattle.anb_suite.specs.declared.reading.Reading.TheVariants.{Both}
use Rattle.anb_attempts.specs.Attempts.{IsSceneOf, script_in}
use Rattle.anb_attempts.specs.declared.attempts.Attempt as asked
use Rattle.anb_attempts.specs.declared.attempts.Scene.{Scene}
use Rattle.anb_tries.specs.Laws.{Attempt, IsAttempt, IsRead, IsTried as IsTriedOut, PlaysRole, judged, seen}
use Rattle.anb_dues.specs.Laws.{IsClear, IsTriedOf}
use Rattle.anb_mutants.specs.Laws.{IsApart, IsHeardOut, RunsLess}
use Rattle.anb_probe_commands.specs.Plays.{ArePlayed, CaseEnd, IsTried, handed, initial, verdicts_of}
use Rattle.anb_probe_commands.specs.Probings.{Probing, ProbingIs}
use Rattle.anb_probe_commands.specs.ProbeCommand.{DoesProbe, Suit, agenda_of}
use Rattle.anb_probe_commands.specs.Reports.{status_for}
use Rattle.anb_probe_commands.specs.Words.{Probed, order_of}

-- ---- cases

-- the attempt on a program that was made in a case
abbrev pub attempt_of : {q : Probing} {scenes : List Scene} {order : List (List ℕ)} {a : asked.Attempt} {reached : ℕ} {old new : Trial} {end : CaseEnd} {got : ℕ}
    → IsTried q scenes order a reached old new end got → Attempt
attempt_of {q} {scenes} {order} {a} {reached} {old} {new} {end} t = record {
  script = script_in q.protocol q.role t.scene;
  code = t.code;
  initial = initial q;
  handed = handed q;
  at = hook_at (script_in q.protocol q.role t.scene);
  wrong = wrong_by t.code.formats a.wrong;
  words = order;
  old = old;
  new = new;
  conversation = t.conversation;
  due = t.scene.due;
  reached = reached;
  verdict = end.verdict;
}

-- `probe` was asked for this, found these files, and has this suite; and these ends came of its first cases
pub record IsPlayed (p : ProtocolValue) (ends : List CaseEnd) (old new : ℕ → Trial) : Type 0 where
  pub asked : Probed
  pub files : Files
  pub host_seed : Option (List ℕ)
  pub q : Probing
  pub asks : ProbingIs files asked.narration asked.role asked.values host_seed (given q)
  pub protocol : q.protocol ≡ p
  pub suit : Suit q asked.trying
  pub reached : ℕ
  pub last : ℕ
  pub played : ArePlayed q (agenda_of suit).scenes (order_of asked.trying) (agenda_of suit).cases reached ends last old new

module _ {p : ProtocolValue} {ends : List CaseEnd} {old new : ℕ → Trial} (played : IsPlayed p ends old new) where
  abbrev pub cases_of : List asked.Attempt
  cases_of = (agenda_of played.suit).cases

  -- this attempt was made in one of them
  pub record IsCase (a : Attempt) : Type 0 where
    pub place : ℕ
    pub attempt : asked.Attempt
    pub here : slice_get cases_of place ≡ Some attempt
    pub end : CaseEnd
    pub ended : slice_get ends place ≡ Some end
    pub is : a ≡ attempt_of (played.played.each place attempt end here ended).1

  -- one of them is tried in the scene of the case of a check of the role's code, where it is known that the role stops
  pub record IsChecked (check : ℕ) : Type 0 where
    pub place : ℕ
    pub attempt : asked.Attempt
    pub here : slice_get cases_of place ≡ Some attempt
    pub scene : Scene
    pub scene_is : slice_get (agenda_of played.suit).scenes attempt.scene ≡ Some scene
    pub case : Case
    pub is_case : IsCaseOf played.q.protocol played.q.role played.suit.code Both check case
    pub is : IsSceneOf (length played.q.protocol.atoms) case scene
    pub event : ℕ
    pub due : scene.due ≡ Some event

  -- in the case at this place the child runs the role's code less some checks, and nothing failed beside
  abbrev pub IsMutantAt : (place : ℕ) → (drops : ℕ → Bool) → Type 0
  IsMutantAt place drops = (a : Attempt) (case : IsCase a) → case.place ≡ place → IsHeardOut a × RunsLess a played.suit.code drops

  -- so it does in the case at this place, which is one of a check; and the bytes of the check's two sides differ there, and what the
  -- role makes before it stops then can be told
  abbrev pub IsApartAt : (place check : ℕ) → (drops : ℕ → Bool) → Type 0
  IsApartAt place check drops = (a : Attempt) (case : IsCase a) → case.place ≡ place → (at : IsAttempt a) (is : IsTriedOf p a)
      → IsHeardOut a × ((mutant : RunsLess a is.code drops) × IsApart p a at is check mutant.draw)

-- The child plays the role, and nothing failed. Only where something is made wrong and it isn't known that the role stops then,
-- what it had made before it stops can be told, and sealed bytes that are changed don't open.
pub record IsRight (p : ProtocolValue) (a : Attempt) : Type 0 where
  pub read : IsRead a
  pub plays : PlaysRole a
  pub clear : (is : IsTriedOf p a) → a.script.right ≢ None → a.due ≡ None → IsClear p a is plays

-- Where something was tried, what was seen is what the role does for some draws, if the names that it makes can be told.
abbrev pub IsAsTheRole : Attempt → Type 0
IsAsTheRole a = IsTriedOut a → NamesAreTold (judged a) → IsRoles (judged a) (seen a)

-- ---- the laws

module _ (p : ProtocolValue) where
  -- of each case that was played
  abbrev pub OfCases : (Attempt → Type 0) → Type 0
  OfCases Holds = (ends : List CaseEnd) (old new : ℕ → Trial) (played : IsPlayed p ends old new) (a : Attempt) → IsCase played a → Holds a

  -- It is an attempt, as the suite of the role has it.
  abbrev pub CasesAreAttempts : Type 0
  CasesAreAttempts = OfCases (λ a. IsAttempt a × IsTriedOf p a)

  -- So no right program is called wrong.
  abbrev pub RightProgramsPass : Type 0
  RightProgramsPass = OfCases (λ a. IsRight p a → is_good a.verdict ≡ true)

  -- And a lax program is told: nothing is said only where all is as with the role.
  abbrev pub LaxProgramsAreTold : Type 0
  LaxProgramsAreTold = OfCases (λ a. is_good a.verdict ≡ true → IsAsTheRole a)

  -- Where all cases are played: if the program is right in each, the status is that nothing failed.
  abbrev pub RightProgramsAreDone : Type 0
  RightProgramsAreDone = (ends : List CaseEnd) (old new : ℕ → Trial) (played : IsPlayed p ends old new) → length ends ≡ length (cases_of played)
      → ((a : Attempt) → IsCase played a → IsRight p a) → status_for (verdicts_of ends) ≡ Done

  -- And where this is the status, all is as with the role in each.
  abbrev pub DoneIsAsTheRole : Type 0
  DoneIsAsTheRole = (ends : List CaseEnd) (old new : ℕ → Trial) (played : IsPlayed p ends old new) → status_for (verdicts_of ends) ≡ Done
      → (a : Attempt) → IsCase played a → IsAsTheRole a

  -- A program that lacks a check isn't called right: where all cases are played, and it is this in one where the check is
  -- tried, something failed.
  abbrev pub MutantsAreTold : Type 0
  MutantsAreTold = (ends : List CaseEnd) (old new : ℕ → Trial) (played : IsPlayed p ends old new) → length ends ≡ length (cases_of played)
      → (check : ℕ) (checked : IsChecked played check) (drops : ℕ → Bool) → drops check ≡ true → IsMutantAt played checked.place drops
      → status_for (verdicts_of ends) ≢ Done

  -- So is one where it isn't known that the role stops then, as where the sides differ under a hash alone.
  abbrev pub MutantsAreSeen : Type 0
  MutantsAreSeen = (ends : List CaseEnd) (old new : ℕ → Trial) (played : IsPlayed p ends old new) → length ends ≡ length (cases_of played)
      → (place check : ℕ) → place < length (cases_of played) → (drops : ℕ → Bool) → drops check ≡ true → IsApartAt played place check drops
      → status_for (verdicts_of ends) ≢ Done

-- ---- the command

-- the status of a report
abbrev pub IsReport : Status → Type 0
IsReport status = (status ≡ Done) ⊎ ((failed : ℕ) × (cases : ℕ) × (status ≡ CasesNotOk failed cases))

-- `probe` was asked for this and found these files; all cases were played, and the status is that of their ends
pub record IsPlayedWhole (asked : Probed) (files : Files) (old new : ℕ → Trial) (status : Status) : Type 0 where
  pub protocol : ProtocolValue
  pub ends : List CaseEnd
  pub played : IsPlayed protocol ends old new
  pub asked_is : played.asked ≡ asked
  pub files_are : played.files ≡ files
  pub all : length ends ≡ length (cases_of played)
  pub is : status ≡ status_for (verdicts_of ends)

-- a case was asked for that isn't there, and nothing was started
pub record IsNoCase (asked : Probed) (old new : ℕ → Trial) : Type 0 where
  pub number : ℕ
  pub asked_for : asked.trying.case ≡ Some number
  pub unstarted : new ≡ old

-- What the command's clause says of a status of a report, where its files are told.
abbrev pub ReportsArePlayed : Type 0
ReportsArePlayed = (asked : Probed) (files : Files) (host_seed : Option (List ℕ)) (old new : ℕ → Trial) (S T : WireState) (status : Status)
    → DoesProbe asked (Some files) host_seed old new S T status → IsReport status
    → IsPlayedWhole asked files old new status ⊎ IsNoCase asked old new
