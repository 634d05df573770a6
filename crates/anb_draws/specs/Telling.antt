-- For proofs alone: names with their values, and the plan of who sees a role's first messages and then says names.
use Rattle.std.specs.Prelude.{◌≡◌, ◌<◌, ◌==◌, ℕ, zero, suc, List, [], ◌∷◌, ◌++◌, length, map, false, Option, Some, None, if◌then◌else◌}
use Rattle.std.specs.List.{AllByRecursion}
use Rattle.anb_term.specs.Tree.{Tree, leaf, node}
use Rattle.anb_term.specs.Agree.{HasRecipe}
use Rattle.anb_algebra.specs.ByteMeaning.{has_operator}
use Rattle.anb_code.specs.CodeValue.{CodeValue}
use Rattle.anb_code.specs.Taking.{take_texts}
use Rattle.anb_code.specs.Uses.{is_among}
use Rattle.anb_compile.specs.Emitting.{Emits, context_of}
use Rattle.anb_compile.specs.RoleCodes.{role_code}
use Rattle.anb_compile.specs.Unsent.{labels_of}
use Rattle.anb_protocol.specs.Plans.{PlanEvent, to_know, to_make, to_send, to_receive, plan_of}
use Rattle.anb_protocol.specs.Protocols.{ProtocolValue}
use Rattle.anb_protocol.specs.Texts.{known_texts}
use Rattle.anb_draws.specs.declared.draws.Drawn.{Drawn}

-- ---- names with their values

-- the value of a name among these: the first one
abbrev pub value_among : List Drawn → (name : ℕ) → Option (List ℕ)
value_among [] name = None
value_among (d ∷ draws) name = if d.name == name then Some d.value else value_among draws name

-- a value, or else another
abbrev pub first_of : (value other : Option (List ℕ)) → Option (List ℕ)
first_of None other = other
first_of (Some value) other = Some value

-- ---- what is known

-- of terms with these values, the names
abbrev pub named : List Tree → List (List ℕ) → List Drawn
named [] values = []
named (t ∷ ts) [] = []
named (leaf a ∷ ts) (value ∷ values) = record { name = a; value = value } ∷ named ts values
named (node o us ∷ ts) (value ∷ values) = named ts values

-- ---- the plan

-- it makes nothing, and hears the first n messages
abbrev pub seen_by : ℕ → List PlanEvent → List PlanEvent
seen_by n [] = []
seen_by n (to_know t ∷ es) = to_know t ∷ seen_by n es
seen_by n (to_make t ∷ es) = seen_by n es
seen_by zero (to_send action t ∷ es) = []
seen_by zero (to_receive action t ∷ es) = []
seen_by (suc n) (to_send action t ∷ es) = to_receive action t ∷ seen_by n es
seen_by (suc n) (to_receive action t ∷ es) = to_receive action t ∷ seen_by n es

-- it says a name, whose number stands for that of the action
abbrev pub asks : ℕ → PlanEvent
asks name = to_send name (leaf name)

abbrev pub telling : ℕ → (names : List ℕ) → List PlanEvent → List PlanEvent
telling n names plan = seen_by n plan ++ map asks names

-- ---- its code

module _ (p : ProtocolValue) (frame : List Tree) where
  -- some recipe over these terms has the name
  abbrev pub IsHad : ℕ → Type 0
  IsHad name = HasRecipe (has_operator p.formats) frame (leaf name)

  -- Of the first names, those that can be had of these terms and aren't known as these.
  pub record AreOpen (known : List Drawn) (count : ℕ) (names : List ℕ) : Type 0 where
    pub within : AllByRecursion (λ name. name < count) names
    pub had : AllByRecursion IsHad names
    pub others : (name : ℕ) → name < count → value_among known name ≡ None → is_among names name ≡ false → IsHad name → ⊥

module _ (p : ProtocolValue) (role n : ℕ) where
  -- what is had behind the first n messages
  abbrev pub frame_by : List Tree
  frame_by = labels_of (seen_by n (plan_of p role))

  -- a code that says those
  pub record IsTeller (known : List Drawn) (names : List ℕ) (code : CodeValue) : Type 0 where
    pub left : AreOpen p frame_by known (length p.atoms) names
    pub names_are : code ≡ role_code p role code.instrs
    pub texts : take_texts code.instrs ≡ known_texts p role
    pub emits : Emits (context_of p (telling n names (plan_of p role))) (telling n names (plan_of p role)) code.instrs

abbrev pub name_of : Drawn → ℕ
name_of d = d.name

abbrev pub value_of : Drawn → List ℕ
value_of d = d.value
