-- What holds of cases in every lawful algebra, whatever the values and draws are.
use Rattle.std.specs.Prelude.{◌≡◌, ℕ, List, map, Bool, true, false, IsTrue, Some, slice_get}
use Rattle.anb_term.specs.Tree.{Tree}
use Rattle.anb_term.specs.Value.{Meaning}
use Rattle.anb_plays.specs.Plans.{Event, known}
use Rattle.anb_plays.specs.Plays.{Played, stopped}
use Rattle.anb_plays.specs.Codes.{Act}
use Rattle.anb_plays.specs.Fits.{Follows}
use Rattle.anb_plays.specs.Runs.{run}
use Rattle.anb_plays.specs.Honest.{honest, made, LabelsAreFormed}
use Rattle.anb_probe.specs.Cases.{IsOver, less_all, CaseValue, IsCase, DifferAt}

module _ {A : Type 0} (m : Meaning A) where
  -- values of the names and of the spare name; what the role draws has the values of its names
  pub record AreValuesOf (plan : List Event) (atoms draw : ℕ → A) : Type 0 where
    pub values : (n : ℕ) → IsTrue (m.is_value (atoms n))
    pub drawn : (i : ℕ) (t : Tree) → slice_get (made plan) i ≡ Some t → draw i ≡ honest m atoms t

  -- a run over the values of what is known and of these arrivals
  abbrev pub run_over : (atoms draw : ℕ → A) → List Event → List Act → List Tree → Played A
  run_over atoms draw plan code arrivals = run m draw code (map (honest m atoms) (known plan)) (map (honest m atoms) arrivals)

  -- A code that lacks a check, and maybe others, goes on over the values of that check's case.
  abbrev pub LessGoesOn : Type 0
  LessGoesOn = (names : ℕ) (plan : List Event) (code : List Act) (check : ℕ) (case : CaseValue) (drops : ℕ → Bool) (atoms draw : ℕ → A)
      → IsCase m.has names plan code check case → Follows code plan → LabelsAreFormed m.has plan → AreValuesOf plan atoms draw
      → drops check ≡ true → IsOver (run_over atoms draw plan (less_all drops code) case.arrivals)

  -- The code itself stops at that check exactly where the values of its two sides differ; else it goes on to its end.
  pub record StopsAt (atoms draw : ℕ → A) (plan : List Event) (code : List Act) (check : ℕ) (case : CaseValue) : Type 0 where
    pub same : m.same (honest m atoms case.sides.one) (honest m atoms case.sides.other) ≡ true → IsOver (run_over atoms draw plan code case.arrivals)
    pub differ : m.same (honest m atoms case.sides.one) (honest m atoms case.sides.other) ≡ false
        → (event : ℕ) × ((run_over atoms draw plan code case.arrivals).end ≡ stopped event check)

  abbrev pub StopsThere : Type 0
  StopsThere = (names : ℕ) (plan : List Event) (code : List Act) (check : ℕ) (case : CaseValue) (atoms draw : ℕ → A)
      → IsCase m.has names plan code check case → Follows code plan → LabelsAreFormed m.has plan → AreValuesOf plan atoms draw
      → StopsAt atoms draw plan code check case

  -- Where the sides differ in place, the code stops at the check whatever the wrong value is, if it isn't the right one.
  abbrev pub DiffersInPlace : Type 0
  DiffersInPlace = (names : ℕ) (plan : List Event) (code : List Act) (check : ℕ) (case : CaseValue) (place : List ℕ) (atoms draw : ℕ → A)
      → IsCase m.has names plan code check case → Follows code plan → LabelsAreFormed m.has plan → AreValuesOf plan atoms draw
      → DifferAt names case.wrong place case.sides.one case.sides.other → m.same (atoms names) (honest m atoms case.wrong) ≡ false
      → (event : ℕ) × ((run_over atoms draw plan code case.arrivals).end ≡ stopped event check)
