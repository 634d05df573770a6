-- A run on a stage, in the words of what is found.
use Rattle.std.proofs.Common.{◌≡◌, ℕ, ◌-◌, List, map, take, drop, Some, sym, ap, subst}
use Rattle.std.specs.Prelude.{slice_get}
use Rattle.anb_term.specs.declared.term.Term.{Term}
use Rattle.anb_term.specs.Tree.{Tree, leaf}
use Rattle.anb_term.specs.View.{tree_of}
use Rattle.anb_term.specs.FreeAlgebra.{terms}
use Rattle.anb_plays.specs.Codes.{Act}
use Rattle.anb_code.specs.CodeValue.{CodeValue}
use Rattle.anb_code.specs.Meaning.{acts_of}
use Rattle.anb_openings.specs.Steps.{Progress, begun, writing, after_all, StopsAt}
use Rattle.anb_openings.specs.Openings.{exchanges_before, IsObstacle}
use Rattle.anb_openings.specs.Walks.{progress, Came, IsFoundOn, StoppedEarlier, StoppedLater}
use Rattle.anb_openings.specs.declared.cases.NoCase.{NoCase}
use Rattle.anb_openings.specs.declared.cases.Obstacle.{Obstacle}
use Rattle.anb_openings.specs.declared.cases.Obstacle.TheVariants.{Earlier, OwnTerm, Later}
use Rattle.anb_openings.specs.declared.cases.OpeningCase.{OpeningCase}
use Rattle.anb_openings.specs.declared.cases.OpeningFinding.TheVariants as finding
use Rattle.anb_openings.specs.declared.finding.Stage.{Stage}
use Rattle.anb_openings.specs.declared.walking.Walk.{Walk}

-- what is said of an opening that has no case
pub record IsLack (code : CodeValue) (instruction : ℕ) (stage : Stage) (why : Obstacle) (lack : NoCase) : Type 0 where
  pub instruction_is : lack.instruction ≡ instruction
  pub event_is : lack.event ≡ exchanges_before code instruction
  pub arrivals_are : lack.arrivals ≡ stage.arrivals
  pub opened_is : lack.opened ≡ stage.opened
  pub why_is : lack.why ≡ why

module _ (code : CodeValue) (instruction of : ℕ) (parts : List Tree) (stage : Stage) (first : Walk) (begins : (arrivals : List Term) → progress arrivals first ≡ begun (map tree_of stage.known.items) (map tree_of arrivals)) where
  abbrev made : List Tree
  made = map tree_of stage.made.items

  abbrev start : Progress Tree
  start = begun (map tree_of stage.known.items) (map tree_of stage.arrivals.items)

  abbrev acts : List Act
  acts = acts_of code

  no_case : (why : Obstacle) (lack : NoCase) → IsLack code instruction stage why lack → IsObstacle made (map tree_of stage.known.items) (map tree_of stage.arrivals.items) acts instruction stage.spare of parts why → IsFoundOn code instruction of parts stage (finding.NoCase lack)
  no_case why lack is h = (
    record { number_is = is.instruction_is; arrivals_are = ap (λ v. v.items) is.arrivals_are; opened_is = is.opened_is },
    is.event_is,
    subst (IsObstacle made (map tree_of stage.known.items) (map tree_of stage.arrivals.items) acts instruction stage.spare of parts) (sym is.why_is) h,
  )

  pub earlier : (number : ℕ) (lack : NoCase) → StoppedEarlier stage.made.items stage.arrivals.items acts instruction first number → IsLack code instruction stage (Earlier number) lack → IsFoundOn code instruction of parts stage (finding.NoCase lack)
  earlier number lack stop is = no_case (Earlier number) lack is (record {
    at = stop.at;
    counts = stop.counts;
    earlier = stop.earlier;
    stops = subst (λ s. StopsAt terms made acts s stop.at) (begins stage.arrivals.items) stop.stops;
  })

  -- it came to the opening
  module _ (walk : Walk) (came : Came stage.made.items stage.arrivals.items acts instruction first walk) where
    abbrev before : Progress Tree
    before = progress stage.arrivals.items walk

    comes : after_all terms made (take (instruction - 1) acts) start ≡ Some before
    comes = subst (λ s. after_all terms made (take (instruction - 1) acts) s ≡ Some before) (begins stage.arrivals.items) came.goes

    pub own : (lack : NoCase) → (slice_get (map tree_of walk.table.items) of ≡ Some (leaf stage.spare) → ⊥) → IsLack code instruction stage OwnTerm lack → IsFoundOn code instruction of parts stage (finding.NoCase lack)
    own lack other is = no_case OwnTerm lack is (record { before = before; comes = comes; other = other })

    module _ (finds : slice_get (map tree_of walk.table.items) of ≡ Some (leaf stage.spare)) where
      pub later : (number : ℕ) (lack : NoCase) → StoppedLater stage.made.items stage.arrivals.items acts instruction parts walk number → IsLack code instruction stage (Later number) lack → IsFoundOn code instruction of parts stage (finding.NoCase lack)
      later number lack stop is = no_case (Later number) lack is (record { before = before; comes = comes; finds = finds; at = stop.at; counts = stop.counts; stops = stop.stops })

      pub whole : (end : Walk) (case : OpeningCase) → after_all terms made (drop instruction acts) (writing parts before) ≡ Some (progress stage.arrivals.items end) → case.instruction ≡ instruction → case.arrivals ≡ stage.arrivals → case.opened ≡ stage.opened
          → case.event ≡ walk.event → case.messages ≡ end.sent → IsFoundOn code instruction of parts stage (finding.Case case)
      whole end case goes number arrivals opened event messages = (
        record { number_is = number; arrivals_are = ap (λ v. v.items) arrivals; opened_is = opened },
        record { before = before; comes = comes; finds = finds; event = sym event; behind = progress stage.arrivals.items end; goes_on = goes; messages = ap (λ v. map tree_of v.items) (sym messages) },
      )
