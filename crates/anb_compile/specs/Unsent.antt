-- Which actions can't be sent.
use Rattle.std.specs.Prelude.{◌≡◌, ℕ, ◌<◌, List, [], ◌∷◌, ◌++◌, length}
use Rattle.std.specs.List.{flat_map}
use Rattle.anb_term.specs.Tree.{Tree}
use Rattle.anb_term.specs.Agree.{HasRecipe}
use Rattle.anb_algebra.specs.ByteMeaning.{has_operator}
use Rattle.anb_protocol.specs.Protocols.{ProtocolValue}
use Rattle.anb_protocol.specs.Plans.{PlanEvent, to_know, to_make, to_send, to_receive, plan_of}
use Rattle.anb_compile.specs.declared.refusal.CompileNo.{CompileNo}
use Rattle.anb_compile.specs.declared.refusal.CompileNo.TheVariants.{CannotSend, NoMemory}

-- the terms that a role has by then: what it knows, made and received
abbrev pub label_of : PlanEvent → List Tree
label_of (to_know t) = t ∷ []
label_of (to_make t) = t ∷ []
label_of (to_send action t) = []
label_of (to_receive action t) = t ∷ []

abbrev pub labels_of : List PlanEvent → List Tree
labels_of events = flat_map label_of events

-- the role sends this action's message, and no recipe over what it has before has the message's term
pub record IsUnsent (p : ProtocolValue) (role action : ℕ) : Type 0 where
  pub before : List PlanEvent
  pub message : Tree
  pub after : List PlanEvent
  pub plan : plan_of p role ≡ before ++ (to_send action message ∷ after)
  pub no_recipe : HasRecipe (has_operator p.formats) (labels_of before) message → ⊥

-- and no smaller action of the role is so
pub record IsFirstUnsent (p : ProtocolValue) (role action : ℕ) : Type 0 where
  pub unsent : IsUnsent p role action
  pub first : (other : ℕ) → other < action → IsUnsent p role other → ⊥

-- the same among all roles
pub record IsFirstUnsentOfAll (p : ProtocolValue) (role action : ℕ) : Type 0 where
  pub is_role : role < length p.roles
  pub unsent : IsUnsent p role action
  pub first : (sender other : ℕ) → sender < length p.roles → other < action → IsUnsent p sender other → ⊥

-- the role can send all that it has to
abbrev pub SendsAll : ProtocolValue → ℕ → Type 0
SendsAll p role = (action : ℕ) → IsUnsent p role action → ⊥

-- each role can
abbrev pub AllSendAll : ProtocolValue → Type 0
AllSendAll p = (role action : ℕ) → role < length p.roles → IsUnsent p role action → ⊥

-- why a role has no code
abbrev pub RefusesRole : ProtocolValue → ℕ → CompileNo → Type 0
RefusesRole p role (CannotSend action sender) = (sender ≡ role) × IsFirstUnsent p role action
RefusesRole p role NoMemory = Unit {0}

-- why some role has none
abbrev pub RefusesRoles : ProtocolValue → CompileNo → Type 0
RefusesRoles p (CannotSend action sender) = IsFirstUnsentOfAll p sender action
RefusesRoles p NoMemory = Unit {0}
