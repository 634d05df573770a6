-- Flags by atoms, as the code keeps them: those that occur in what was looked at.
use Rattle.std.specs.Prelude.{◌≡◌, ℕ, ◌<◌, ◌||◌, List, [], ◌∷◌, length, slice_index_or, slice_set, Bool, true, if◌then◌else◌}
use Rattle.anb_protocol.specs.Protocols.{ActionValue, ProtocolValue}
use Rattle.anb_protocol.specs.Texts.{known_terms}
use Rattle.anb_protocol.specs.Plans.{messages, occurs}

-- with these atoms marked
abbrev pub marked : List Bool → List ℕ → List Bool
marked flags [] = flags
marked flags (a ∷ atoms) = marked (slice_set flags a true) atoms

-- the atoms that aren't marked, each where it stands first
abbrev pub new_among : List Bool → List ℕ → List ℕ
new_among flags [] = []
new_among flags (a ∷ atoms) = if slice_index_or flags a true then new_among flags atoms else a ∷ new_among (slice_set flags a true) atoms

-- the flags tell of each atom whether it occurs in what some role knows, or in these messages
pub record AreSeen (p : ProtocolValue) (before : List ActionValue) (flags : List Bool) : Type 0 where
  pub sized : length flags ≡ length p.atoms
  pub told : (a : ℕ) → a < length p.atoms → slice_index_or flags a true ≡ (occurs (known_terms p) a || occurs (messages before) a)
