-- When a code fits a plan.
use Rattle.std.specs.Prelude.{◌≡◌, ℕ, List, [], ◌∷◌, ◌++◌, length, IsTrue, Some}
use Rattle.anb_term.specs.Tree.{Tree}
use Rattle.anb_term.specs.Value.{Meaning, RecipeTree, label, value}
use Rattle.anb_term.specs.FreeAlgebra.{terms_over}
use Rattle.anb_term.specs.Demand.{Demand, all_hold, Suffices}
use Rattle.anb_plays.specs.Plans.{Event, know, fresh, send, recv, known}
use Rattle.anb_plays.specs.Codes.{Act, takes, draws, receives, sends, works, Work, at_register, writes, demands}

-- a place of a code: the terms of the labels, the recipes of the registers, and the demands before it
pub record Place : Type 0 where
  pub frame : List Tree
  pub regs : List RecipeTree
  pub asked : List Demand

abbrev pub after_take : Place → Place
after_take s = record s { regs = s.regs ++ label (length s.regs) ∷ [] }

abbrev pub after_label : Place → Tree → Place
after_label s t = record s { frame = s.frame ++ t ∷ []; regs = s.regs ++ label (length s.frame) ∷ [] }

abbrev pub after_work : Place → Work → Place
after_work s w = record s { regs = s.regs ++ writes s.regs w; asked = s.asked ++ demands s.regs w }

-- takes, draws, receives and sends are in order the events; AtSend holds at each send with its term, AtWork at each work,
-- and AtBorder before each send and receive and at the end
abbrev pub Along : (Place → ℕ → Tree → Type 0) → (Place → Work → Type 0) → (Place → Type 0) → List Act → List Event → Place → Type 0
Along AtSend AtWork AtBorder [] [] s = AtBorder s
Along AtSend AtWork AtBorder [] (e ∷ es) s = ⊥
Along AtSend AtWork AtBorder (works w ∷ acts) es s = AtWork s w × Along AtSend AtWork AtBorder acts es (after_work s w)
Along AtSend AtWork AtBorder (takes ∷ acts) (know t ∷ es) s = Along AtSend AtWork AtBorder acts es (after_take s)
Along AtSend AtWork AtBorder (draws ∷ acts) (fresh t ∷ es) s = Along AtSend AtWork AtBorder acts es (after_label s t)
Along AtSend AtWork AtBorder (receives ∷ acts) (recv t ∷ es) s = AtBorder s × Along AtSend AtWork AtBorder acts es (after_label s t)
Along AtSend AtWork AtBorder (sends n ∷ acts) (send t ∷ es) s = AtBorder s × AtSend s n t × Along AtSend AtWork AtBorder acts es s
Along AtSend AtWork AtBorder (act ∷ acts) es s = ⊥

abbrev pub start : List Event → Place
start plan = record { frame = known plan; regs = []; asked = [] }

abbrev pub AnySend : Place → ℕ → Tree → Type 0
AnySend s n t = Unit {0}

abbrev pub AnyWork : Place → Work → Type 0
AnyWork s w = Unit {0}

abbrev pub AnyBorder : Place → Type 0
AnyBorder s = Unit {0}

-- the order is the plan's
abbrev pub Follows : List Act → List Event → Type 0
Follows code plan = Along AnySend AnyWork AnyBorder code plan (start plan)

module _ {A : Type 0} (m : Meaning A) where
  -- the recipe of a send has the message's term
  abbrev pub SendsIt : Place → ℕ → Tree → Type 0
  SendsIt s n t = value (terms_over m.has) s.frame (at_register s.regs n) ≡ Some t

  -- what is demanded is true in terms
  abbrev pub IsSound : Place → Work → Type 0
  IsSound s w = IsTrue (all_hold (terms_over m.has) s.frame (demands s.regs w))

  -- values of the labels on which all demands before are true agree with their terms
  abbrev pub IsEnough : Place → Type 0
  IsEnough s = Suffices m s.frame s.asked

  pub record Fits (code : List Act) (plan : List Event) : Type 0 where
    pub order : Follows code plan
    pub sends : Along SendsIt AnyWork AnyBorder code plan (start plan)
    pub sound : Along AnySend IsSound AnyBorder code plan (start plan)
    pub enough : Along AnySend AnyWork IsEnough code plan (start plan)
