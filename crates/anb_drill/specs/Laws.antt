-- What holds of drills.
use Rattle.std.specs.Prelude.{◌≡◌, ℕ, ◌<◌, ◌≤◌, List, length}
use Rattle.std.specs.List.{AllByRecursion, sum_by}
use Rattle.anb_base.specs.declared.TheConstants.{ARRIVAL, WIDE}
use Rattle.anb_base.specs.declared.content.Sent.{Sent}
use Rattle.anb_code.specs.CodeValue.{CodeValue}
use Rattle.anb_gen.specs.Counts.{drill_counts}
use Rattle.anb_gen.specs.Drill.{drill_narration, role_names}
use Rattle.anb_gen.specs.Turns.{turns_of}
use Rattle.anb_outcomes.specs.declared.rehearsals.Report.{Report}
use Rattle.anb_honest.specs.declared.report.RehearseEnd.TheVariants.{AllDone}
use Rattle.anb_honest.specs.Honest.{AreHonest, honest_end, honest_report}
use Rattle.anb_honest.specs.Joint.{cast}
use Rattle.anb_protocol.specs.Checks.{IsWellFormed}
use Rattle.anb_protocol.specs.Plays.{IsSendable}
use Rattle.anb_protocol.specs.Protocols.{protocol_of}
use Rattle.anb_protocol.specs.Texts.{known_names}

-- the narration of a drill is well formed
abbrev pub DrillsAreWellFormed : Type 0
DrillsAreWellFormed = (n : ℕ) → n ≤ 200 → IsWellFormed ARRIVAL WIDE (drill_narration n)

-- its roles are `A` and `B`, in this order
abbrev pub DrillsHaveTwoRoles : Type 0
DrillsHaveTwoRoles = (n : ℕ) → (protocol_of (drill_narration n)).roles ≡ role_names

-- each message of them has a recipe
abbrev pub DrillsCanBeSent : Type 0
DrillsCanBeSent = (n : ℕ) → n ≤ 200 → IsSendable (protocol_of (drill_narration n))

-- values are asked for three names, `A`, `B` and `K`, and the turns are the roles'
pub record AsksFor (n : ℕ) : Type 0 where
  pub names : length (known_names (protocol_of (drill_narration n))) ≡ 3
  pub roles : AllByRecursion (λ role. role < length (protocol_of (drill_narration n)).roles) (turns_of (drill_narration n))
  pub turns : length (turns_of (drill_narration n)) ≡ (drill_counts n).turns

abbrev pub DrillsAskFor : Type 0
DrillsAskFor = (n : ℕ) → n ≤ 200 → AsksFor n

-- the report has the counts of a drill, and each turn was taken
pub record IsDrilled (n : ℕ) (report : Report) : Type 0 where
  pub turns : report.turns ≡ (drill_counts n).turns
  pub taken : report.taken ≡ (drill_counts n).turns
  pub passed : report.passed ≡ (drill_counts n).passed
  pub actions : length report.sent ≡ (drill_counts n).actions
  pub bytes : sum_by (λ (s : Sent). length s.bytes) report.sent ≡ (drill_counts n).bytes

-- in the turns of a drill honest roles do all of it, where no value that is given is too long
abbrev pub DrillsAreDone : Type 0
DrillsAreDone =
    (n : ℕ) (codes : List CodeValue) (values : List (List ℕ)) (seed : List ℕ) (atoms : ℕ → List ℕ)
    → let c = cast (protocol_of (drill_narration n)) codes values seed in
    let turns = turns_of (drill_narration n) in
    n ≤ 200 → AllByRecursion (λ (v : List ℕ). length v ≤ ARRIVAL) values → AreHonest c atoms
    → (honest_end c atoms turns ≡ AllDone (honest_report c atoms turns))
    × IsDrilled n (honest_report c atoms turns)
