-- A code made piece by piece: what its first acts do of a plan, and the place that they reach.
use Rattle.std.specs.Prelude.{◌≡◌, List, [], ◌∷◌, ◌++◌}
use Rattle.anb_term.specs.Value.{Meaning}
use Rattle.anb_plays.specs.Plans.{Event, know, fresh, send, recv}
use Rattle.anb_plays.specs.Codes.{Act, takes, draws, receives, sends, works}
use Rattle.anb_plays.specs.Fits.{Place, after_take, after_label, after_work, SendsIt, IsSound, IsEnough, Fits, start}

module _ {A : Type 0} (m : Meaning A) where
  -- these acts do these events from place s, and then stand at place t; what Fits demands of them holds on the way
  abbrev pub Reaches : List Act → List Event → Place → Place → Type 0
  Reaches [] [] s t = s ≡ t
  Reaches [] (e ∷ es) s t = ⊥
  Reaches (works w ∷ acts) es s t = IsSound m s w × Reaches acts es (after_work s w) t
  Reaches (takes ∷ acts) (know u ∷ es) s t = Reaches acts es (after_take s) t
  Reaches (draws ∷ acts) (fresh u ∷ es) s t = Reaches acts es (after_label s u) t
  Reaches (receives ∷ acts) (recv u ∷ es) s t = IsEnough m s × Reaches acts es (after_label s u) t
  Reaches (sends n ∷ acts) (send u ∷ es) s t = IsEnough m s × SendsIt m s n u × Reaches acts es s t
  Reaches (act ∷ acts) es s t = ⊥

  -- what reaches a place can be gone on with from there
  abbrev pub ReachesOn : Type 0
  ReachesOn = (xs ys : List Act) (es fs : List Event) (s t u : Place) → Reaches xs es s t → Reaches ys fs t u → Reaches (xs ++ ys) (es ++ fs) s u

  -- a code that does the whole plan, with enough asked at the end, fits it
  abbrev pub ReachesFit : Type 0
  ReachesFit = (code : List Act) (plan : List Event) (t : Place) → Reaches code plan (start plan) t → IsEnough m t → Fits m code plan
