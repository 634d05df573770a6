-- For proofs alone: a walk over instructions, in terms.
use Rattle.std.specs.Prelude.{◌≡◌, ◌<◌, ℕ, ◌+◌, ◌-◌, List, length, map, take, drop, Bool, true, Option, Some, None, slice_get, if◌then◌else◌}
use Rattle.anb_term.specs.declared.term.Op.{Op}
use Rattle.anb_term.specs.declared.term.Term.{Term}
use Rattle.anb_term.specs.Operator.{arity, keys}
use Rattle.anb_term.specs.Tree.{Tree, leaf}
use Rattle.anb_term.specs.View.{tree_of}
use Rattle.anb_term.specs.FreeAlgebra.{terms}
use Rattle.anb_plays.specs.Plans.{Event, known}
use Rattle.anb_plays.specs.Codes.{Act}
use Rattle.anb_plays.specs.Exec.{IsVerified}
use Rattle.anb_plays.specs.Honest.{heard, made}
use Rattle.anb_protocol.specs.declared.plans.Event as code
use Rattle.anb_protocol.specs.Plays.{event_of}
use Rattle.anb_protocol.specs.Views.{plan_event}
use Rattle.anb_machine.specs.Standing.{registers_of, registers_in}
use Rattle.anb_code.specs.CodeValue.{CodeValue}
use Rattle.anb_code.specs.Meaning.{acts_of}
use Rattle.anb_openings.specs.Steps.{Progress, begun, writing, after, after_all, StopsAt}
use Rattle.anb_openings.specs.Openings.{exchanges_before, spared, IsObstacle, IsOpening}
use Rattle.anb_openings.specs.declared.cases.OpeningCase.{OpeningCase}
use Rattle.anb_openings.specs.declared.cases.OpeningFinding.{OpeningFinding}
use Rattle.anb_openings.specs.declared.cases.OpeningFinding.TheVariants as finding
use Rattle.anb_openings.specs.declared.finding.Stage.{Stage}
use Rattle.anb_openings.specs.declared.walking.Walk.{Walk}

-- the events of a plan
abbrev pub events_in : List code.Event → List Event
events_in events = map event_of (map plan_event events)

-- registers that acts name were written
abbrev pub AreReady : List Act → ℕ → Type 0
AreReady acts n = IsVerified (λ o. true) acts n

-- an opening writes so many registers
abbrev pub WritesAsMany : CodeValue → ℕ → ℕ → Type 0
WritesAsMany code instruction n = (o : Op) (ks : List ℕ) (r : ℕ) → IsOpening (acts_of code) instruction o ks r → n ≡ arity o - keys o

-- ---- walks

-- how far a walk is
abbrev pub progress : List Term → Walk → Progress Tree
progress arrivals walk = record {
  table = map tree_of walk.table.items;
  sent = map tree_of walk.sent.items;
  event = walk.event;
  drawn = walk.drawn;
  left = map tree_of (drop walk.heard arrivals);
}

module _ (made arrivals : List Term) where
  -- a walk took one act more, or didn't
  pub record HasGone (act : Act) (old new : Walk) (went : Bool) : Type 0 where
    pub goes : after terms (map tree_of made) act (progress arrivals old) ≡ (if went then Some (progress arrivals new) else None)
    pub long : went ≡ true → length new.table.items ≡ length old.table.items + registers_of act

  -- it took all these acts
  pub record HasWalked (acts : List Act) (old new : Walk) : Type 0 where
    pub goes : after_all terms (map tree_of made) acts (progress arrivals old) ≡ Some (progress arrivals new)
    pub long : length new.table.items ≡ length old.table.items + registers_in acts

  -- or it stopped at the one at this place
  abbrev pub EndsAt : List Act → Walk → Walk → Option ℕ → Type 0
  EndsAt acts old new None = HasWalked acts old new
  EndsAt acts old new (Some place) = StopsAt terms (map tree_of made) acts (progress arrivals old) place

  module _ (acts : List Act) (instruction : ℕ) where
    -- it came to an opening, or stopped before it at the instruction of this number
    pub record Came (old new : Walk) : Type 0 where
      pub goes : after_all terms (map tree_of made) (take (instruction - 1) acts) (progress arrivals old) ≡ Some (progress arrivals new)
      pub ready : AreReady (drop (instruction - 1) acts) (length new.table.items)

    pub record StoppedEarlier (old : Walk) (number : ℕ) : Type 0 where
      pub at : ℕ
      pub counts : number ≡ at + 1
      pub earlier : number < instruction
      pub stops : StopsAt terms (map tree_of made) acts (progress arrivals old) at

    abbrev pub HasCome : Walk → Walk → Option ℕ → Type 0
    HasCome old new None = Came old new
    HasCome old new (Some number) = StoppedEarlier old number

    -- with these parts written it went on behind the opening, or stopped at the instruction of this number
    module _ (parts : List Tree) where
      pub record StoppedLater (old : Walk) (number : ℕ) : Type 0 where
        pub at : ℕ
        pub counts : number ≡ instruction + at + 1
        pub stops : StopsAt terms (map tree_of made) (drop instruction acts) (writing parts (progress arrivals old)) at

      abbrev pub HasGoneOn : Walk → Walk → Option ℕ → Type 0
      HasGoneOn old new None = after_all terms (map tree_of made) (drop instruction acts) (writing parts (progress arrivals old)) ≡ Some (progress arrivals new)
      HasGoneOn old new (Some number) = StoppedLater old number

-- ---- on a stage

-- what a run begins with, where the spare name stands in place of a term
pub record IsStage (spare : ℕ) (opened : Tree) (plan : List Event) (stage : Stage) : Type 0 where
  pub spare_is : stage.spare ≡ spare
  pub opened_is : tree_of stage.opened ≡ opened
  pub known_are : map tree_of stage.known.items ≡ known plan
  pub made_are : map tree_of stage.made.items ≡ made plan
  pub arrivals_are : map tree_of stage.arrivals.items ≡ map (spared spare opened) (heard plan)

-- It comes to an opening, finds the spare name, and goes on with these parts.
pub record IsFound (acts : List Act) (instruction : ℕ) (known made arrivals : List Tree) (spare of : ℕ) (parts : List Tree) (case : OpeningCase) : Type 0 where
  pub before : Progress Tree
  pub comes : after_all terms made (take (instruction - 1) acts) (begun known arrivals) ≡ Some before
  pub finds : slice_get before.table of ≡ Some (leaf spare)
  pub event : before.event ≡ case.event
  pub behind : Progress Tree
  pub goes_on : after_all terms made (drop instruction acts) (writing parts before) ≡ Some behind
  pub messages : behind.sent ≡ map tree_of case.messages.items

-- what a finding says beside that
pub record IsOf (code : CodeValue) (instruction : ℕ) (stage : Stage) (number : ℕ) (arrivals : List Term) (opened : Term) : Type 0 where
  pub number_is : number ≡ instruction
  pub arrivals_are : arrivals ≡ stage.arrivals.items
  pub opened_is : opened ≡ stage.opened

abbrev pub IsFoundOn : CodeValue → (instruction of : ℕ) → (parts : List Tree) → Stage → OpeningFinding → Type 0
IsFoundOn code instruction of parts stage (finding.Case case) =
    IsOf code instruction stage case.instruction case.arrivals.items case.opened
    × IsFound (acts_of code) instruction (map tree_of stage.known.items) (map tree_of stage.made.items) (map tree_of stage.arrivals.items) stage.spare of parts case
IsFoundOn code instruction of parts stage (finding.NoCase lack) =
    IsOf code instruction stage lack.instruction lack.arrivals.items lack.opened × (lack.event ≡ exchanges_before code instruction)
    × IsObstacle (map tree_of stage.made.items) (map tree_of stage.known.items) (map tree_of stage.arrivals.items) (acts_of code) instruction stage.spare of parts lack.why
