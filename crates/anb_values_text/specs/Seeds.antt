-- For proofs alone: what a seed is.
use Rattle.std.specs.Prelude.{◌≡◌, ℕ, List, length, Option, Some, None}
use Rattle.anb_base.specs.Bytes.{IsBytes}

-- a seed of 32 bytes
pub record IsSeed (seed : List ℕ) : Type 0 where
  pub bytes : IsBytes seed
  pub whole : length seed ≡ 32

abbrev pub IsSeedOf : Option (List ℕ) → Type 0
IsSeedOf None = Unit {0}
IsSeedOf (Some seed) = IsSeed seed
