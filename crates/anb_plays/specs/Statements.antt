-- Laws on plays, runs and codes that fit.
use Rattle.std.specs.Prelude.{◌≡◌, ℕ, List, [], ◌++◌, length, map, take, IsTrue, Some, slice_get, ◌⊎◌}
use Rattle.anb_term.specs.Tree.{Tree, trees_of, AreFormed}
use Rattle.anb_term.specs.Value.{Meaning, RecipeTree, value}
use Rattle.anb_term.specs.Lawful.{AreValues}
use Rattle.anb_term.specs.FreeAlgebra.{terms_over}
use Rattle.anb_term.specs.Agree.{Agree}
use Rattle.anb_plays.specs.Plans.{Event, known, FreshIsNew, Sendable}
use Rattle.anb_plays.specs.Plays.{waiting, Played, Play}
use Rattle.anb_plays.specs.Codes.{Act}
use Rattle.anb_plays.specs.Runs.{run, without_place}
use Rattle.anb_plays.specs.Fits.{Fits}
use Rattle.anb_plays.specs.Exec.{exec, HasTakes}
use Rattle.anb_plays.specs.Honest.{honest, honest_play, heard, made, LabelsAreFormed}

-- q goes on from where p waited, or is p where that was over, with these arrivals left as well
abbrev pub Grows : {A : Type 0} → Played A → Played A → List A → Type 0
Grows {A} p q more =
    ((e : ℕ) × (p.end ≡ waiting e) × (p.left ≡ []) × (rest : List A) × (q.sent ≡ p.sent ++ rest))
    ⊎ (((e : ℕ) → p.end ≡ waiting e → ⊥) × (q ≡ record p { left = p.left ++ more }))

module _ {A : Type 0} (m : Meaning A) where
  -- a plan has at most one play
  abbrev pub PlaysAreOne : Type 0
  PlaysAreOne = (draw : ℕ → A) (plan : List Event) (init arrivals : List A) (p q : Played A)
      → Play m draw plan init arrivals p → Play m draw plan init arrivals q → p ≡ q

  -- and it can't be that it has none, where what must be sent has a recipe. (No way is known to tell of all labels whether they agree)
  abbrev pub PlaysAreThere : Type 0
  PlaysAreThere = (draw : ℕ → A) (plan : List Event) (init arrivals : List A) → Sendable m.has plan → FreshIsNew plan
      → ((i : ℕ) → IsTrue (m.is_value (draw i))) → AreValues m init → AreValues m arrivals
      → ((p : Played A) → Play m draw plan init arrivals p → ⊥) → ⊥

  -- where a code fits, its run, without the instruction of a stop, is a play of the plan, and the only one
  abbrev pub RunsAsPlayed : Type 0
  RunsAsPlayed = (draw : ℕ → A) (code : List Act) (plan : List Event) (init arrivals : List A) → Fits m code plan → FreshIsNew plan
      → ((i : ℕ) → IsTrue (m.is_value (draw i))) → AreValues m init → AreValues m arrivals → length init ≡ length (known plan)
      → Play m draw plan init arrivals (without_place (run m draw code init arrivals))
      × ((p : Played A) → Play m draw plan init arrivals p → p ≡ without_place (run m draw code init arrivals))

  -- a run over the values of registers is the code's run
  abbrev pub ExecIsRun : Type 0
  ExecIsRun = (draw : ℕ → A) (code : List Act) (init arrivals : List A) → HasTakes m.has code 0 (length init)
      → exec m draw code init 0 0 0 arrivals ≡ run m draw code init arrivals

  -- over more arrivals a run goes on from where it waited, and a run that is over stays as it is
  abbrev pub RunGrows : Type 0
  RunGrows = (draw : ℕ → A) (code : List Act) (init arrivals more : List A)
      → Grows (run m draw code init arrivals) (run m draw code init (arrivals ++ more)) more

  -- labels with values by the form of their terms agree with them, and each recipe has the value of its term's form
  abbrev pub HonestAgree : Type 0
  HonestAgree = (atoms : ℕ → A) (frame : List Tree) → ((n : ℕ) → IsTrue (m.is_value (atoms n))) → AreFormed m.has (trees_of frame)
      → AreValues m (map (honest m atoms) frame) × Agree m frame (map (honest m atoms) frame)
      × ((r : RecipeTree) (t : Tree) → value (terms_over m.has) frame r ≡ Some t → value m (map (honest m atoms) frame) r ≡ Some (honest m atoms t))

  -- where the labels of a role have values by the form of their terms, its play never stops: it sends the value of each message by its form
  abbrev pub HonestPlays : Type 0
  HonestPlays = (draw : ℕ → A) (atoms : ℕ → A) (plan : List Event) (n : ℕ) → ((k : ℕ) → IsTrue (m.is_value (atoms k))) → Sendable m.has plan → LabelsAreFormed m.has plan
      → ((i : ℕ) (t : Tree) → slice_get (made plan) i ≡ Some t → draw i ≡ honest m atoms t)
      → Play m draw plan (map (honest m atoms) (known plan)) (map (honest m atoms) (take n (heard plan))) (honest_play m atoms plan n)
