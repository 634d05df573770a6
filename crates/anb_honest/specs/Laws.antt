-- What holds of rehearsals, whatever the schedule.
use Rattle.std.specs.Prelude.{◌≡◌, ◌≢◌, ◌↔◌, ◌<◌, ℕ, List, length, Some, slice_get, IsTrue, AllPairs}
use Rattle.std.specs.List.{AllByRecursion}
use Rattle.anb_base.specs.Bytes.{IsBytes}
use Rattle.anb_code.specs.CodeValue.{CodeValue}
use Rattle.anb_compile.specs.Fitting.{FitsRole, FollowsRole}
use Rattle.anb_protocol.specs.Protocols.{ProtocolValue}
use Rattle.anb_protocol.specs.Texts.{known_names}
use Rattle.anb_protocol.specs.WellFormed.{IsProtocol}
use Rattle.anb_protocol.specs.Plays.{IsSendable, IsPlay}
use Rattle.anb_protocol.specs.Schedules.{taken, IsComplete}
use Rattle.anb_honest.specs.Joint.{Cast, cast, is_complete, joint, known_atoms}
use Rattle.anb_honest.specs.Honest.{AreHonest, honest_end, honest_known, honest_taken, play_so_far}

-- a code that fits a role keeps the order of its plan
abbrev pub FittingCodesFollow : Type 0
FittingCodesFollow =
    (p : ProtocolValue) (role : ℕ) (code : CodeValue) → FitsRole p role code → FollowsRole p role code

-- one code for each role, in order, each of which fits
pub record IsFitting (c : Cast) : Type 0 where
  pub count : length c.codes ≡ length c.protocol.roles
  pub each : (role : ℕ) (code : CodeValue) → slice_get c.codes role ≡ Some code
      → FitsRole c.protocol role code

-- where each code fits, the joint run ends as it does among honest roles; so no role is ever stuck
abbrev pub RehearsalsAreHonest : ProtocolValue → Type 0
RehearsalsAreHonest p =
    (codes : List CodeValue) (values : List (List ℕ)) (seed : List ℕ) (atoms : ℕ → List ℕ)
    (turns : List ℕ) → let c = cast p codes values seed in
    IsFitting c → AreHonest c atoms
    → AllByRecursion (λ role. role < length p.roles) turns → joint c turns ≡ honest_end c atoms turns

-- and the play of each role over what it took sends what it should by then, and does not stop
abbrev pub PlaysAreHonest : ProtocolValue → Type 0
PlaysAreHonest p =
    (codes : List CodeValue) (values : List (List ℕ)) (seed : List ℕ) (atoms : ℕ → List ℕ)
    (turns : List ℕ) (role : ℕ) → let c = cast p codes values seed in
    IsSendable p → AreHonest c atoms → role < length p.roles
    → IsPlay p role (honest_known c atoms role) seed role (honest_taken c atoms role turns)
    (play_so_far c atoms role turns)

-- there are such bytes of all atoms, whatever bytes are given for the names in knowledge
abbrev pub HonestBytesExist : Type 0
HonestBytesExist =
    (c : Cast) → length c.values ≡ length (known_atoms c.protocol) → AllByRecursion IsBytes c.values
    → (atoms : ℕ → List ℕ) × AreHonest c atoms

-- the names that values are asked for differ
abbrev pub KnownNamesDiffer : Type 0
KnownNamesDiffer =
    (p : ProtocolValue) → IsProtocol p → AllPairs (λ one other. one ≢ other) (known_names p)

-- the test is true exactly where the schedule is complete
abbrev pub CompleteIsTested : Type 0
CompleteIsTested =
    (c : Cast) (turns : List ℕ) → IsTrue (is_complete c (taken c.protocol turns) (length c.protocol.roles))
    ↔ IsComplete c.protocol turns
