-- What a program reads behind a check that it lacks: both values that the check compares, or one of them for both.
use Rattle.std.specs.Prelude.{◌≡◌, ℕ, zero, suc, ◌==◌, List, [], ◌∷◌, map, Bool, true, false, if◌then◌else◌}
use Rattle.anb_term.specs.Tree.{Tree}
use Rattle.anb_term.specs.Value.{Meaning}
use Rattle.anb_plays.specs.Plans.{Event}
use Rattle.anb_plays.specs.Plays.{stopped}
use Rattle.anb_plays.specs.Codes.{Act, takes, draws, receives, sends, works, Work, make, undo, equal}
use Rattle.anb_plays.specs.Fits.{Follows}
use Rattle.anb_plays.specs.Honest.{honest, LabelsAreFormed}
use Rattle.anb_probe.specs.Cases.{IsOver, less_all, CaseValue, IsCase, DifferAt}
use Rattle.anb_probe.specs.Laws.{AreValuesOf, run_over}
use Rattle.anb_suite.specs.declared.reading.Reading.{Reading}
use Rattle.anb_suite.specs.declared.reading.Reading.TheVariants.{Both, First, Second}

-- one register read for another
abbrev pub read_for : (gone used : ℕ) → ℕ → ℕ
read_for gone used r = if r == gone then used else r

abbrev pub work_for : (gone used : ℕ) → Work → Work
work_for gone used (make o rs) = make o (map (read_for gone used) rs)
work_for gone used (undo o ks r) = undo o (map (read_for gone used) ks) (read_for gone used r)
work_for gone used (equal a b) = equal (read_for gone used a) (read_for gone used b)

abbrev pub act_for : (gone used : ℕ) → Act → Act
act_for gone used takes = takes
act_for gone used draws = draws
act_for gone used receives = receives
act_for gone used (sends r) = sends (read_for gone used r)
act_for gone used (works w) = works (work_for gone used w)

-- Acts that read one register for another behind so many. Of a code behind a check, with the two registers that this
-- compares: where the check holds both hold one value, so the code does what it did.
abbrev pub read_behind : ℕ → (gone used : ℕ) → List Act → List Act
read_behind zero gone used acts = map (act_for gone used) acts
read_behind (suc n) gone used [] = []
read_behind (suc n) gone used (act ∷ acts) = act ∷ read_behind n gone used acts

-- The code behind a check of two registers: as it is; with the first one read for the second; or the other way round.
abbrev pub read_by : Reading → (check a b : ℕ) → List Act → List Act
read_by Both check a b acts = acts
read_by First check a b acts = read_behind check b a acts
read_by Second check a b acts = read_behind check a b acts

-- ---- what holds of such codes, in every lawful algebra

module _ {A : Type 0} (m : Meaning A) where
  -- Of a code that reads so, and its case: where it lacks the check it goes on over the case's values.
  abbrev pub OneForOtherGoesOn : Type 0
  OneForOtherGoesOn = (names : ℕ) (plan : List Event) (code : List Act) (reading : Reading) (check a b : ℕ) (case : CaseValue) (drops : ℕ → Bool) (atoms draw : ℕ → A)
      → IsCase m.has names plan (read_by reading check a b code) check case → Follows code plan → LabelsAreFormed m.has plan → AreValuesOf m plan atoms draw
      → drops check ≡ true → IsOver (run_over m atoms draw plan (less_all drops (read_by reading check a b code)) case.arrivals)

  -- The code itself, which reads both, stops there at that check where the values of its two sides differ,
  abbrev pub OneForOtherStops : Type 0
  OneForOtherStops = (names : ℕ) (plan : List Event) (code : List Act) (reading : Reading) (check a b : ℕ) (case : CaseValue) (atoms draw : ℕ → A)
      → IsCase m.has names plan (read_by reading check a b code) check case → Follows code plan → LabelsAreFormed m.has plan → AreValuesOf m plan atoms draw
      → m.same (honest m atoms case.sides.one) (honest m atoms case.sides.other) ≡ false
      → (event : ℕ) × ((run_over m atoms draw plan code case.arrivals).end ≡ stopped event check)

  -- and so where they differ in place, whatever the wrong value is, if it isn't the right one.
  abbrev pub OneForOtherDiffers : Type 0
  OneForOtherDiffers = (names : ℕ) (plan : List Event) (code : List Act) (reading : Reading) (check a b : ℕ) (case : CaseValue) (place : List ℕ) (atoms draw : ℕ → A)
      → IsCase m.has names plan (read_by reading check a b code) check case → Follows code plan → LabelsAreFormed m.has plan → AreValuesOf m plan atoms draw
      → DifferAt names case.wrong place case.sides.one case.sides.other → m.same (atoms names) (honest m atoms case.wrong) ≡ false
      → (event : ℕ) × ((run_over m atoms draw plan code case.arrivals).end ≡ stopped event check)
