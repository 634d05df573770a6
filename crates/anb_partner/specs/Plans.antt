-- The plan of a role's partner, which is everybody else as one agent.
use denote.Ref.{Bor}
use Rattle.std.specs.Prelude.{◌≡◌, ℕ, ◌+◌, ◌≤◌, ◌==◌, List, [], ◌∷◌, ◌++◌, length, map, Bool, true, if◌then◌else◌, Option, Some, None, option_and_then}
use Rattle.std.specs.List.{flat_map, list_any, range_with_len}
use Rattle.anb_base.specs.declared.TheConstants.{ARRIVAL, WIDE}
use Rattle.anb_term.specs.View.{tree_of}
use Rattle.anb_term.specs.declared.term.Term.{Term}
use Rattle.anb_term.specs.Tree.{Tree, leaf, tree_size, nodes, IsFormed}
use Rattle.anb_algebra.specs.ByteMeaning.{has_operator}
use Rattle.anb_code.specs.CodeValue.{CodeValue}
use Rattle.anb_code.specs.Taking.{take_texts}
use Rattle.anb_compile.specs.Emitting.{Emits, IsBlocked, context_of}
use Rattle.anb_compile.specs.RoleCodes.{role_code}
use Rattle.anb_compile.specs.Unsent.{labels_of}
use Rattle.anb_plays.specs.Plans.{Event, know, fresh, send, recv}
use Rattle.anb_protocol.specs.Plans.{PlanEvent, to_know, to_make, to_send, to_receive, plan_of}
use Rattle.anb_protocol.specs.Protocols.{ProtocolValue}
use Rattle.anb_protocol.specs.Texts.{atoms_in, known_by, known_texts}
use Rattle.anb_protocol.specs.Widths.{fits_width}
use Rattle.anb_partner.specs.declared.planning.PartnerNo.{PartnerNo}
use Rattle.anb_partner.specs.declared.planning.PartnerNo.TheVariants.{CannotSend, Large, NoMemory}

-- ---- what it has

-- what a role knows and makes, in order
abbrev pub begins : List PlanEvent → List Tree
begins [] = []
begins (to_know t ∷ es) = t ∷ begins es
begins (to_make t ∷ es) = t ∷ begins es
begins (to_send action t ∷ es) = begins es
begins (to_receive action t ∷ es) = begins es

-- what the other roles know and make
abbrev pub handed_by : ProtocolValue → (role other : ℕ) → List Tree
handed_by p role other = if other == role then [] else begins (plan_of p other)

abbrev pub handed_terms : ProtocolValue → ℕ → List Tree
handed_terms p role = flat_map (handed_by p role) (range_with_len 0 (length p.roles))

-- ---- what it does

-- the messages that are sent
abbrev pub said : List Event → List Tree
said [] = []
said (know t ∷ es) = said es
said (fresh t ∷ es) = said es
said (send t ∷ es) = t ∷ said es
said (recv t ∷ es) = said es

-- the right value is made, and a wrong one is heard in its place
abbrev pub hook : (spare line : ℕ) → Option Tree → List PlanEvent
hook spare line None = []
hook spare line (Some right) = to_send line right ∷ to_receive line (leaf spare) ∷ []

abbrev pub has_atom : ℕ → Tree → Bool
has_atom a t = list_any (λ b. b == a) (atoms_in t)

-- Of a role's plan: the partner hears what the role says there and says what the role is to hear. Just
-- before the first message with the spare name stands the hook. Lines have numbers from 1.
abbrev pub mirrored : (spare : ℕ) → (right : Option Tree) → (line : ℕ) → List PlanEvent → (arrivals messages : List Tree) → List PlanEvent
mirrored spare right line [] arrivals messages = []
mirrored spare right line (to_know t ∷ es) arrivals messages =
    mirrored spare right line es arrivals messages
mirrored spare right line (to_make t ∷ es) arrivals messages =
    mirrored spare right line es arrivals messages
mirrored spare right line (to_send action t ∷ es) arrivals [] = []
mirrored spare right line (to_send action t ∷ es) arrivals (message ∷ messages) =
    to_receive line message ∷ mirrored spare right (line + 1) es arrivals messages
mirrored spare right line (to_receive action t ∷ es) [] messages = []
mirrored spare right line (to_receive action t ∷ es) (arrival ∷ arrivals) messages =
    if has_atom spare arrival
    then hook spare line right ++ to_send line arrival ∷ mirrored spare None (line + 1) es arrivals messages
    else to_send line arrival ∷ mirrored spare right (line + 1) es arrivals messages

-- how many lines stand before the first message to the role with the spare name
abbrev pub lines_before : (spare line : ℕ) → List PlanEvent → (arrivals : List Tree) → Option ℕ
lines_before spare line [] arrivals = None
lines_before spare line (to_know t ∷ es) arrivals = lines_before spare line es arrivals
lines_before spare line (to_make t ∷ es) arrivals = lines_before spare line es arrivals
lines_before spare line (to_send action t ∷ es) arrivals = lines_before spare (line + 1) es arrivals
lines_before spare line (to_receive action t ∷ es) [] = None
lines_before spare line (to_receive action t ∷ es) (arrival ∷ arrivals) =
    if has_atom spare arrival then Some line else lines_before spare (line + 1) es arrivals

-- a role of a protocol, what it is to hear and what it says then, and the term that the spare name stands
-- in place of, where there is one
pub record Script : Type 0 where
  pub protocol : ProtocolValue
  pub role : ℕ
  pub arrivals : List Tree
  pub messages : List Tree
  pub right : Option Tree

abbrev pub script_of : ProtocolValue → ℕ → (arrivals messages : List Tree) → Option Tree → Script
script_of p role arrivals messages right = record {
  protocol = p;
  role = role;
  arrivals = arrivals;
  messages = messages;
  right = right;
}

-- the term behind a reference
abbrev pub term_at : Bor Term → Tree
term_at t = tree_of t.now

module _ (s : Script) where
  -- The partner knows what the role knows, and is handed what all others have, before anything else.
  abbrev pub partner_plan : List PlanEvent
  partner_plan =
      map to_know (known_by s.protocol s.role) ++ map (to_receive 0) (handed_terms s.protocol s.role)
      ++ mirrored (length s.protocol.atoms) s.right 1 (plan_of s.protocol s.role) s.arrivals s.messages

  -- the number of lines before the hook, where there is one
  abbrev pub hook_at : Option ℕ
  hook_at =
      option_and_then (λ (t : Tree). lines_before (length s.protocol.atoms) 0 (plan_of s.protocol s.role) s.arrivals)
      s.right

  -- its code: one that fits its plan, over what the role knows
  pub record IsPartner (code : CodeValue) : Type 0 where
    pub names : code ≡ role_code s.protocol s.role code.instrs
    pub texts : take_texts code.instrs ≡ known_texts s.protocol s.role
    pub emits : Emits (context_of s.protocol partner_plan) partner_plan code.instrs

  -- why it has none: it can't send the first message of this line, or the right value there; or its terms
  -- are too many
  abbrev pub RefusesPartner : PartnerNo → Type 0
  RefusesPartner (CannotSend line) = IsBlocked (context_of s.protocol partner_plan) partner_plan line
  RefusesPartner Large = nodes (labels_of partner_plan) ≤ 65535 → ⊥
  RefusesPartner NoMemory = Unit {0}

-- a term that a plan may have
pub record MayStand (p : ProtocolValue) (t : Tree) : Type 0 where
  pub formed : IsFormed (has_operator p.formats) t
  pub small : tree_size t ≤ 1024
  pub narrow : fits_width ARRIVAL p.formats WIDE t ≡ true
