-- What the lists of a refusal's text are worth.
use Rattle.std.specs.Prelude.{◌≡◌, ℕ, ◌<◌, List, ◌∷◌, length}
use Rattle.std.specs.List.{AllByRecursion}
use Rattle.anb_term.specs.Agree.{HasRecipe}
use Rattle.anb_term.specs.Tree.{Tree}
use Rattle.anb_term.specs.View.{tree_of}
use Rattle.anb_algebra.specs.ByteMeaning.{has_operator}
use Rattle.anb_protocol.specs.Plans.{PlanEvent, plan_of}
use Rattle.anb_protocol.specs.Protocols.{ProtocolValue}
use Rattle.anb_compile.specs.Unsent.{labels_of}
use Rattle.anb_reason.specs.declared.reasons.Refusal.{Refusal}
use Rattle.anb_reason.specs.Reach.{IsReason}
use Rattle.anb_lack.specs.declared.origins.Origin.{Origin}
use Rattle.anb_lack.specs.Origins.{IsListedFrom, IsOrigin}
use Rattle.anb_lack.specs.Parts.{lacking}
use Rattle.anb_lack.specs.Roots.{RootValue, roots}

-- a recipe over what the sender has before the send gives the term
abbrev pub IsMade : (p : ProtocolValue) (r : Refusal) → IsReason p r → Tree → Type 0
IsMade p r reason t = HasRecipe (has_operator p.formats) (labels_of reason.unsent.before) t

-- some recipe gives each term that the role has
abbrev pub HadIsMade : Type 0
HadIsMade = (p : ProtocolValue) (r : Refusal) (reason : IsReason p r) → AllByRecursion (IsMade p r reason) r.terms

-- and the event from which on the role has it stands before the send
abbrev pub HadIsFrom : Type 0
HadIsFrom = (p : ProtocolValue) (r : Refusal) (reason : IsReason p r)
    → AllByRecursion (λ t. (n : ℕ) (e : PlanEvent) → IsOrigin p (plan_of p r.role) t n e → n < length reason.unsent.before) r.terms

-- a term is from one place at most, whatever the plan
abbrev pub OriginsAreOne : Type 0
OriginsAreOne = (p : ProtocolValue) (S : List Tree) (plan before : List PlanEvent) (t : Tree) (one other : Origin)
    → IsListedFrom p S plan before t one → IsListedFrom p S plan before t other → one ≡ other

-- no recipe gives a part of the message that is listed as lacking
abbrev pub LackingIsNotMade : Type 0
LackingIsNotMade = (p : ProtocolValue) (r : Refusal) (reason : IsReason p r)
    → AllByRecursion (λ u. IsMade p r reason u → ⊥) (lacking r.terms (tree_of r.term))

-- the first that is listed is the message itself
abbrev pub MessageIsLacking : Type 0
MessageIsLacking = (p : ProtocolValue) (r : Refusal) → IsReason p r
    → (others : List Tree) × (lacking r.terms (tree_of r.term) ≡ tree_of r.term ∷ others)

-- and none gives a key that is asked for
abbrev pub KeysAreNotMade : Type 0
KeysAreNotMade = (p : ProtocolValue) (r : Refusal) (reason : IsReason p r)
    → AllByRecursion (λ (root : RootValue). IsMade p r reason root.key → ⊥) (roots r.terms reason.unsent.before (lacking r.terms (tree_of r.term)))
