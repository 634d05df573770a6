-- What a role is to do: one sequence of events, each with a term.
use Rattle.std.specs.Prelude.{◌≡◌, ℕ, List, [], ◌∷◌, ◌++◌, Bool}
use Rattle.anb_term.specs.declared.term.Op.{Op}
use Rattle.anb_term.specs.Tree.{Tree, leaf, AvoidsEach}
use Rattle.anb_term.specs.Agree.{HasRecipe}

pub data Event : Type 0 where
  know : Tree → Event
  fresh : Tree → Event
  send : Tree → Event
  recv : Tree → Event

-- the terms of the initial labels
abbrev pub known : List Event → List Tree
known [] = []
known (know t ∷ es) = t ∷ known es
known (_ ∷ es) = known es

-- each fresh term is an atom that occurs in no label's term before it
abbrev pub IsFreshAfter : List Tree → List Event → Type 0
IsFreshAfter frame [] = Unit {0}
IsFreshAfter frame (know t ∷ es) = IsFreshAfter frame es
IsFreshAfter frame (fresh t ∷ es) = ((a : ℕ) × (t ≡ leaf a) × AvoidsEach a frame) × IsFreshAfter (frame ++ t ∷ []) es
IsFreshAfter frame (send t ∷ es) = IsFreshAfter frame es
IsFreshAfter frame (recv t ∷ es) = IsFreshAfter (frame ++ t ∷ []) es

abbrev pub FreshIsNew : List Event → Type 0
FreshIsNew plan = IsFreshAfter (known plan) plan

module _ (has : Op → Bool) where
  -- each term to be sent has a recipe over the labels before it
  abbrev pub CanSend : List Tree → List Event → Type 0
  CanSend frame [] = Unit {0}
  CanSend frame (know t ∷ es) = CanSend frame es
  CanSend frame (fresh t ∷ es) = CanSend (frame ++ t ∷ []) es
  CanSend frame (send t ∷ es) = HasRecipe has frame t × CanSend frame es
  CanSend frame (recv t ∷ es) = CanSend (frame ++ t ∷ []) es

  abbrev pub Sendable : List Event → Type 0
  Sendable plan = CanSend (known plan) plan
