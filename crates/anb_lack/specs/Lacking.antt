-- What a role lacks for a message that it can't send, as a text.
use Rattle.std.specs.Prelude.{◌≡◌, ℕ, List, [], ◌∷◌, ◌++◌, codes, decimal, slice_get, Some}
use Rattle.std.specs.List.{AllZip, flat_map}
use Rattle.anb_term.specs.Tree.{Tree}
use Rattle.anb_term.specs.View.{tree_of}
use Rattle.anb_protocol.specs.Plans.{PlanEvent, plan_of}
use Rattle.anb_protocol.specs.Protocols.{ProtocolValue}
use Rattle.anb_protocol.specs.Texts.{term_text}
use Rattle.anb_reason.specs.declared.reasons.Refusal.{Refusal}
use Rattle.anb_reason.specs.Reach.{IsReason}
use Rattle.anb_lack.specs.declared.origins.Origin.{Origin}
use Rattle.anb_lack.specs.declared.origins.Origin.TheVariants.{Built, Known, Made, Received}
use Rattle.anb_lack.specs.Origins.{IsListedFrom}
use Rattle.anb_lack.specs.Parts.{lacking}
use Rattle.anb_lack.specs.Roots.{root_line, roots}

abbrev pub origin_text : Origin → List ℕ
origin_text Known = codes "known"
origin_text Made = codes "made"
origin_text Built = codes "built"
origin_text (Received action) = codes "from action " ++ decimal action

-- a line for a term that the role has
abbrev pub origin_line : ProtocolValue → Tree → Origin → List ℕ
origin_line p t origin = codes "  " ++ (term_text p t ++ (codes ", " ++ (origin_text origin ++ codes "\n")))

abbrev pub origin_lines : ProtocolValue → List Tree → List Origin → List ℕ
origin_lines p (t ∷ ts) (origin ∷ origins) = origin_line p t origin ++ origin_lines p ts origins
origin_lines p ts origins = []

abbrev pub had_text : ProtocolValue → List Tree → List Origin → List ℕ
had_text p [] origins = codes "it has nothing\n"
had_text p (t ∷ ts) origins = codes "it has:\n" ++ origin_lines p (t ∷ ts) origins

-- a line for a part that the role can't make
abbrev pub lacking_line : ProtocolValue → Tree → List ℕ
lacking_line p u = codes "  " ++ (term_text p u ++ codes "\n")

abbrev pub lacking_text : ProtocolValue → List Tree → List ℕ
lacking_text p us = codes "it can't make:\n" ++ flat_map (lacking_line p) us

-- the action that can't be sent, with its sender's name and its message
abbrev pub refused_text : ProtocolValue → List ℕ → Refusal → List ℕ
refused_text p sender r =
    sender ++ (codes " can't compose " ++ (term_text p (tree_of r.term) ++ (codes " at action " ++ decimal r.action)))

-- for each of these that stands in something that the sender can't undo, and for each name, why it is lacking
abbrev pub roots_text : ProtocolValue → (sender : List ℕ) → (terms : List Tree) → List PlanEvent → List Tree → List ℕ
roots_text p sender terms before us = flat_map (root_line p sender) (roots terms before us)

-- What the sender has by then, after these events: the terms of the refusal, each with where it is from;
-- which parts of the message don't compose from them; and why.
abbrev pub lists_text : ProtocolValue → (sender : List ℕ) → Refusal → List PlanEvent → List Origin → List ℕ
lists_text p sender r before origins =
    had_text p r.terms origins ++ (lacking_text p (lacking r.terms (tree_of r.term))
    ++ roots_text p sender r.terms before (lacking r.terms (tree_of r.term)))

-- what is said of the protocol's refusal: a line without its end, and the lists
pub record IsLackText (p : ProtocolValue) (line lists : List ℕ) : Type 0 where
  pub refusal : Refusal
  pub sender : List ℕ
  pub origins : List Origin
  pub reason : IsReason p refusal
  pub is_sender : slice_get p.roles refusal.role ≡ Some sender
  pub are_origins : AllZip (IsListedFrom p refusal.terms (plan_of p refusal.role) reason.unsent.before) refusal.terms origins
  pub line_is : line ≡ refused_text p sender refusal
  pub lists_are : lists ≡ lists_text p sender refusal reason.unsent.before origins
