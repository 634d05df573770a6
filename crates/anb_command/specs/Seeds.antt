-- The seed of the draws.
use Rattle.std.specs.Prelude.{◌≡◌, ℕ, List, Bool, true, false, replicate, Option, Some, None}
use Rattle.anb_status.specs.declared.status.Status.TheVariants.{NoSeed}
use Rattle.anb_command.specs.Steps.{Answer, refused, given}

-- The seed: that of the values file, else the one that is handed in. A plan that makes no name needs
-- none.
abbrev pub seed_of : Bool → Option (List ℕ) → Option (List ℕ) → Option (List ℕ)
seed_of makes (Some seed) host_seed = Some seed
seed_of makes None (Some seed) = Some seed
seed_of true None None = None
seed_of false None None = Some (replicate 32 0)

abbrev pub SeedIs : Bool → Option (List ℕ) → Option (List ℕ) → Answer (List ℕ) → Type 0
SeedIs makes told host_seed (refused status) = (status ≡ NoSeed) × (seed_of makes told host_seed ≡ None)
SeedIs makes told host_seed (given seed) = seed_of makes told host_seed ≡ Some seed
