-- Where the suite of a role says that the role stops, it does, in every attempt on a program.
use Rattle.std.specs.Prelude.{◌≡◌, ◌≢◌, ◌⊎◌, ℕ, List, length, map, Bool, true, Some, None, slice_get}
use Rattle.std.specs.List.{AllByRecursion}
use Rattle.anb_base.specs.Bytes.{IsBytes}
use Rattle.anb_base.specs.declared.TheConstants.{ARRIVAL, WIDE}
use Rattle.anb_code.specs.CodeValue.{CodeValue}
use Rattle.anb_code.specs.Verified.{IsVerifiedCode}
use Rattle.anb_compile.specs.Fitting.{FitsRole}
use Rattle.anb_plays.specs.Plays.{stopped}
use Rattle.anb_protocol.specs.Plays.{honest_bytes}
use Rattle.anb_protocol.specs.Protocols.{ProtocolValue}
use Rattle.anb_protocol.specs.Texts.{known_by}
use Rattle.anb_honest.specs.Joint.{known_atoms}
use Rattle.anb_openings.specs.Openings.{IsOpeningCaseOf, parsed_at}
use Rattle.anb_openings.specs.declared.cases.OpeningCase.{OpeningCase}
use Rattle.anb_spoil.specs.Wrongs.{wrong_by}
use Rattle.anb_partner.specs.Plans.{handed_terms}
use Rattle.anb_partner.specs.Values.{handed_values, initial_values}
use Rattle.anb_partner.specs.declared.conversation.TalkEnd.TheVariants.{Refused}
use Rattle.anb_verdict.specs.Laws.{NamesAreTold}
use Rattle.anb_verdict.specs.Verdicts.{IsRoles, is_good}
use Rattle.anb_attempts.specs.Attempts.{IsSceneOfOpening, IsSuite, script_in}
use Rattle.anb_attempts.specs.declared.attempts.Attempt as asked
use Rattle.anb_attempts.specs.declared.attempts.Scene.{Scene}
use Rattle.anb_attempts.specs.declared.attempts.Suite.{Suite}
use Rattle.anb_tries.specs.Laws.{Attempt, DueIsKnown, IsAttempt, IsRead, IsTried, PlaysRole, StopsAreSeen, judged, seen}

-- a verified code that fits the role's plan, as compiling gives it
pub record IsCodeOf (p : ProtocolValue) (role : ℕ) (code : CodeValue) : Type 0 where
  pub fits : FitsRole p role code
  pub verified : IsVerifiedCode ARRIVAL WIDE code

-- what a role begins with, and what all others do, are the bytes of these names
pub record AreOfNames (p : ProtocolValue) (role : ℕ) (initial handed : List (List ℕ)) : Type 0 where
  pub atoms : ℕ → List ℕ
  pub bytes : (n : ℕ) → IsBytes (atoms n)
  pub begins : initial ≡ map (honest_bytes p atoms) (known_by p role)
  pub hands : handed ≡ map (honest_bytes p atoms) (handed_terms p role)

-- An attempt on a program as a suite has it at this place: over the script of its scene, with the value made wrong in its way,
-- and with what is known of where the role stops.
pub record IsOfSuite (p : ProtocolValue) (role : ℕ) (suite : Suite) (a : Attempt) : Type 0 where
  pub place : ℕ
  pub attempt : asked.Attempt
  pub attempt_is : slice_get suite.attempts.items place ≡ Some attempt
  pub scene : Scene
  pub scene_is : slice_get suite.scenes.items attempt.scene ≡ Some scene
  pub script : a.script ≡ script_in p role scene
  pub wrong : a.wrong ≡ wrong_by p.formats attempt.wrong
  pub due : a.due ≡ scene.due
  pub names : AreOfNames p role a.initial a.handed

-- a suite of a role's code, and an attempt on a program that it has
pub record IsTriedOf (p : ProtocolValue) (a : Attempt) : Type 0 where
  pub role : ℕ
  pub code : CodeValue
  pub all : Bool
  pub suite : Suite
  pub is_code : IsCodeOf p role code
  pub is_suite : IsSuite p role code all suite
  pub is : IsOfSuite p role suite a

-- The attempt is in the scene of the case of an opening that takes off a tag, where no false tag is made: what was sealed is changed
-- in another way, and may open, since a tag may fit by chance.
pub record IsOfSealed (p : ProtocolValue) (a : Attempt) (is : IsTriedOf p a) : Type 0 where
  pub instruction : ℕ
  pub case : OpeningCase
  pub is_case : IsOpeningCaseOf p is.role is.code instruction case
  pub sealed : parsed_at is.code instruction ≡ None
  pub scene : IsSceneOfOpening None case is.is.scene

-- a child that plays the role stops at this event
abbrev pub StopsThere : (a : Attempt) → PlaysRole a → (event : ℕ) → Type 0
StopsThere a plays event = (at : ℕ) × (plays.played.end ≡ stopped event at)

-- Where the child stops, what it had made before can be told. And where sealed bytes are changed they don't open, so it stops
-- there; or they open, and the partner refused none of its messages all the same.
pub record IsClear (p : ProtocolValue) (a : Attempt) (is : IsTriedOf p a) (plays : PlaysRole a) : Type 0 where
  pub stops : StopsAreSeen a plays
  pub unopened : (sealed : IsOfSealed p a is) → StopsThere a plays sealed.case.event ⊎ (a.conversation.end ≢ Refused)

-- ---- the laws

-- Where the suite says that the role stops at an event, it hears something there, and no draws go on over it.
abbrev pub DuesAreKnown : ProtocolValue → Type 0
DuesAreKnown p = (a : Attempt) → IsAttempt a → IsTriedOf p a → DueIsKnown a

-- What a partner is handed in trials has such names: the values are given for the names that some role knows, and drawn under a
-- seed for all others.
abbrev pub ValuesAreOfNames : ProtocolValue → Type 0
ValuesAreOfNames p = (values : List (List ℕ)) (seed : List ℕ) (role : ℕ) → length values ≡ length (known_atoms p) → AllByRecursion IsBytes values
    → AreOfNames p role (initial_values p values seed role) (handed_values p values seed role)

-- So no right program is called wrong: the child plays the role. That its partner refuses none of its messages follows. Only where
-- something is made wrong and it isn't known that the role stops then, it is asked that the child's stops can be seen, and that
-- sealed bytes that are changed don't open.
abbrev pub RightProgramsPass : ProtocolValue → Type 0
RightProgramsPass p = (a : Attempt) → IsAttempt a → (is : IsTriedOf p a) → IsRead a → (plays : PlaysRole a)
    → (a.script.right ≢ None → a.due ≡ None → IsClear p a is plays) → is_good a.verdict ≡ true

-- And a lax program is told: where something was tried and nothing is said against the program, then for some draws what
-- was seen is what the role does, if the names that it makes can be told.
abbrev pub LaxProgramsAreTold : ProtocolValue → Type 0
LaxProgramsAreTold p = (a : Attempt) → IsAttempt a → IsTriedOf p a → IsTried a → is_good a.verdict ≡ true
    → NamesAreTold (judged a) → IsRoles (judged a) (seen a)
