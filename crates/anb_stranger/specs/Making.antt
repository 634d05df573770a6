-- What somebody can make who plays with a role.
use Rattle.std.specs.Prelude.{◌≡◌, List, [], ◌∷◌, ◌++◌, Some}
use Rattle.anb_term.specs.Value.{Meaning, RecipeTree, value}
use Rattle.anb_plays.specs.Plans.{Event, know, fresh, send, recv}

module _ {A : Type 0} (m : Meaning A) where
  -- some recipe over what he has gives it
  abbrev pub Makes : List A → A → Type 0
  Makes having x = (r : RecipeTree) × (value m having r ≡ Some x)

  -- Of a conversation, in the order of the plan: he can make each that the role hears, of what he has and what the role
  -- has said by then.
  abbrev pub MakesAll : List A → List Event → List A → Type 0
  MakesAll having [] lines = Unit {0}
  MakesAll having (know t ∷ es) lines = MakesAll having es lines
  MakesAll having (fresh t ∷ es) lines = MakesAll having es lines
  MakesAll having (send t ∷ es) [] = Unit {0}
  MakesAll having (send t ∷ es) (line ∷ lines) = MakesAll (having ++ line ∷ []) es lines
  MakesAll having (recv t ∷ es) [] = Unit {0}
  MakesAll having (recv t ∷ es) (line ∷ lines) = Makes having line × MakesAll having es lines
