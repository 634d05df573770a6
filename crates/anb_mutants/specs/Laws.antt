-- A program that lacks a check of the role's code is told, and each check of the code is tried.
use Rattle.std.specs.Prelude.{◌≡◌, ◌≢◌, ◌≤◌, ℕ, suc, List, length, map, Bool, true, false, IfSome, Some, slice_get}
use Rattle.std.specs.List.{AllByRecursion}
use Rattle.anb_base.specs.Bytes.{IsBytes}
use Rattle.anb_base.specs.declared.TheConstants.{ARRIVAL}
use Rattle.anb_code.specs.CodeValue.{CodeValue}
use Rattle.anb_code.specs.Meaning.{acts_of}
use Rattle.anb_frame.specs.Frames.{frames}
use Rattle.anb_plays.specs.Honest.{made}
use Rattle.anb_plays.specs.Plays.{Played, done}
use Rattle.anb_plays.specs.Runs.{run}
use Rattle.anb_probe.specs.Cases.{less_all}
use Rattle.anb_protocol.specs.Plays.{honest_bytes, meaning_of}
use Rattle.anb_protocol.specs.Protocols.{ProtocolValue}
use Rattle.anb_protocol.specs.Texts.{known_by}
use Rattle.anb_suite.specs.Suites.{IsCaseOf, IsFinding, checks_of}
use Rattle.anb_suite.specs.declared.reading.Reading.TheVariants.{Both}
use Rattle.anb_suite.specs.declared.cases.Case.{Case}
use Rattle.anb_suite.specs.declared.cases.Finding.{Finding}
use Rattle.anb_suite.specs.declared.cases.Finding.TheVariants as finding
use Rattle.anb_term.specs.Tree.{Tree}
use Rattle.anb_term.specs.View.{tree_of}
use Rattle.anb_transcript.specs.Replays.{arrivals_of}
use Rattle.anb_judge.specs.Verdicts.{own_plan}
use Rattle.anb_partner.specs.Plans.{handed_terms}
use Rattle.anb_partner.specs.declared.conversation.TalkEnd.TheVariants.{WriteFault}
use Rattle.anb_partner.specs.declared.trials.ChildEnd.TheVariants.{Status}
use Rattle.anb_verdict.specs.Laws.{CanBeTold}
use Rattle.anb_verdict.specs.Verdicts.{is_good}
use Rattle.anb_attempts.specs.Attempts.{CaseMayStand, IsSceneOf, IsSuite}
use Rattle.anb_attempts.specs.declared.attempts.Attempt as asked
use Rattle.anb_attempts.specs.declared.attempts.Scene.{Scene}
use Rattle.anb_attempts.specs.declared.attempts.Suite.{Suite}
use Rattle.anb_tries.specs.Laws.{Attempt, IsAttempt, IsRead, IsTried, judged}
use Rattle.anb_dues.specs.Laws.{IsTriedOf}

-- ---- a program that lacks checks

-- A child that runs the code of the role less some checks, for some draws: its output is what that code sends over what came
-- to it, and nothing else; and where the code comes to its end, the child ends with the status 0.
pub record RunsLess (a : Attempt) (code : CodeValue) (drops : ℕ → Bool) : Type 0 where
  pub draw : ℕ → List ℕ
  pub drawn : (i : ℕ) → IsBytes (draw i)
  pub played : Played (List ℕ)
  pub runs : played ≡ run (meaning_of a.script.protocol) draw (less_all drops (acts_of code)) a.initial (arrivals_of a.conversation.lines)
  pub short : AllByRecursion (λ message. length message ≤ ARRIVAL) played.sent
  pub output : a.old.pipes.left ≡ Some (frames played.sent)
  pub ends : played.end ≡ done → a.old.ends ≡ Some (Status 0)

-- Nothing failed: the wrong value could be made, all was written, and all that the child said was read.
pub record IsHeardOut (a : Attempt) : Type 0 where
  pub read : IsRead a
  pub tried : IsTried a
  pub written : a.conversation.end ≢ WriteFault

-- The attempt is one in the scene of the case of a check.
pub record IsAtCheck (p : ProtocolValue) (a : Attempt) (is : IsTriedOf p a) (check : ℕ) : Type 0 where
  pub case : Case
  pub is_case : IsCaseOf p is.role is.code Both check case
  pub scene : IsSceneOf (length p.atoms) case is.is.scene

-- And it is known there that the role stops.
pub record IsOfCheck (p : ProtocolValue) (a : Attempt) (is : IsTriedOf p a) (check : ℕ) : Type 0 where
  pub at : IsAtCheck p a is check
  pub event : ℕ
  pub due : a.due ≡ Some event

-- Bytes of all names and of the spare one in an attempt: those of what the role begins with, of what its partner is handed, and of
-- what the child draws, and what was made of the right value.
pub record AreNamesOf (a : Attempt) (at : IsAttempt a) (draw atoms : ℕ → List ℕ) : Type 0 where
  pub bytes : (n : ℕ) → IsBytes (atoms n)
  pub begins : a.initial ≡ map (honest_bytes a.script.protocol atoms) (known_by a.script.protocol a.script.role)
  pub hands : a.handed ≡ map (honest_bytes a.script.protocol atoms) (handed_terms a.script.protocol a.script.role)
  pub draws : (i : ℕ) (t : Tree) → slice_get (made (own_plan (judged a))) i ≡ Some t → draw i ≡ honest_bytes a.script.protocol atoms t
  pub changed : IfSome at.converses.talks.hooked (λ h. h.wrong ≡ atoms (length a.script.protocol.atoms))

-- The attempt is one in the scene of the case of a check, and the bytes of the check's two sides differ in it. What the role makes
-- before the event at which it stops then can be told.
pub record IsApart (p : ProtocolValue) (a : Attempt) (at : IsAttempt a) (is : IsTriedOf p a) (check : ℕ) (draw : ℕ → List ℕ) : Type 0 where
  pub here : IsAtCheck p a is check
  pub atoms : ℕ → List ℕ
  pub names : AreNamesOf a at draw atoms
  pub differ : honest_bytes p atoms (tree_of here.case.one) ≢ honest_bytes p atoms (tree_of here.case.other)
  pub told : (n : ℕ) → here.case.event ≡ suc n → CanBeTold (judged a) n

-- ---- where checks are tried

-- a suite has an attempt in the scene of a case
pub record HasAttempt (p : ProtocolValue) (suite : Suite) (case : Case) : Type 0 where
  pub place : ℕ
  pub attempt : asked.Attempt
  pub attempt_is : slice_get suite.attempts.items place ≡ Some attempt
  pub scene : Scene
  pub scene_is : slice_get suite.scenes.items attempt.scene ≡ Some scene
  pub is : IsSceneOf (length p.atoms) case scene

-- of a check with a case, where a plan may have its terms; nothing is asked where the others imply the check
abbrev pub HasAttemptAt : ProtocolValue → Suite → Finding → Type 0
HasAttemptAt p suite (finding.Case case) = CaseMayStand p case → HasAttempt p suite case
HasAttemptAt p suite finding.Implied = Unit {0}

-- what is found of a check, and an attempt at it
pub record IsCheckTried (p : ProtocolValue) (role : ℕ) (code : CodeValue) (suite : Suite) (check : ℕ) : Type 0 where
  pub found : Finding
  pub is : IsFinding p role code Both check found
  pub tried : HasAttemptAt p suite found

-- ---- the laws

-- A mutant is told: a code less some checks, one of which has a case.
abbrev pub MutantsAreTold : ProtocolValue → Type 0
MutantsAreTold p = (a : Attempt) → IsAttempt a → (is : IsTriedOf p a) → IsHeardOut a → (check : ℕ) → IsOfCheck p a is check → (drops : ℕ → Bool)
    → drops check ≡ true → RunsLess a is.code drops → is_good a.verdict ≡ false

-- And so is one where it isn't known beforehand that the role stops, as where the sides differ under a hash alone: it is enough that
-- their bytes differ in the attempt, and that what the role made by then can be told.
abbrev pub MutantsAreSeen : ProtocolValue → Type 0
MutantsAreSeen p = (a : Attempt) (at : IsAttempt a) (is : IsTriedOf p a) → IsHeardOut a → (check : ℕ) (drops : ℕ → Bool) → drops check ≡ true
    → (mutant : RunsLess a is.code drops) → IsApart p a at is check mutant.draw → is_good a.verdict ≡ false

-- Each check of the code behind the first arrival has such a scene in the suite, with an attempt, but where the others imply it,
-- a term of its case is too large, or the suite has no more room.
abbrev pub ChecksAreTried : ProtocolValue → Type 0
ChecksAreTried p = (role : ℕ) (code : CodeValue) (all : Bool) (suite : Suite) → IsSuite p role code all suite → suite.more ≡ false
    → (place check : ℕ) → slice_get (checks_of (acts_of code)) place ≡ Some check → IsCheckTried p role code suite check
