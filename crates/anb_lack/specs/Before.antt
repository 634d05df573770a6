-- For proofs alone: what stands before a send, and origins that are replaced.
use Rattle.std.specs.Prelude.{◌≡◌, ◌⊎◌, ◌==◌, ℕ, List, [], ◌∷◌, ◌++◌, Bool, false, if◌then◌else◌}
use Rattle.anb_term.specs.Tree.{Tree}
use Rattle.anb_protocol.specs.Plans.{PlanEvent, to_know, to_make, to_send, to_receive}
use Rattle.anb_lack.specs.declared.origins.Origin.{Origin}
use Rattle.anb_lack.specs.declared.origins.Origin.TheVariants.{Built}

abbrev pub is_send : ℕ → PlanEvent → Bool
is_send action (to_send i t) = i == action
is_send action (to_know t) = false
is_send action (to_make t) = false
is_send action (to_receive i t) = false

-- behind these events the action is sent; or it never is
abbrev pub IsBefore : ℕ → (plan before : List PlanEvent) → Type 0
IsBefore action plan before =
    ((t : Tree) × (after : List PlanEvent) × (plan ≡ before ++ to_send action t ∷ after))
    ⊎ ((first last : List PlanEvent) (t : Tree) → plan ≡ first ++ to_send action t ∷ last → ⊥)

abbrev pub or_built : Bool → Origin → Origin
or_built out origin = if out then origin else Built

-- these origins where a term comes out, and else that it is built
abbrev pub unless_built : List Bool → List Origin → List Origin
unless_built (out ∷ outs) (origin ∷ origins) = or_built out origin ∷ unless_built outs origins
unless_built outs origins = []
