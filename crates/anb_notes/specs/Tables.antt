-- For proofs alone: the first place of each name, as it is looked up.
use Rattle.std.specs.Prelude.{◌≡◌, ℕ, ◌<◌, List, length, Option, Some, slice_get}
use Rattle.anb_protocol.specs.Protocols.{ProtocolValue}
use Rattle.anb_notes.specs.declared.notes.Tables.{Tables}
use Rattle.anb_notes.specs.declared.places.Place.{Place}
use Rattle.anb_notes.specs.declared.standing.Standing.TheVariants.{AsKey, InClear, Inside}
use Rattle.anb_notes.specs.Places.{first_of, places, makers, bare_keys, others_keys}

-- of so many names
pub record AreFirsts (many : ℕ) (all : List Place) (table : List (Option ℕ)) : Type 0 where
  pub long : length table ≡ many
  pub each : (x : ℕ) → x < many → slice_get table x ≡ Some (first_of x all)

pub record AreTables (p : ProtocolValue) (tables : Tables) : Type 0 where
  pub keys : AreFirsts (length p.atoms) (places AsKey p) tables.keys.items
  pub clear : AreFirsts (length p.atoms) (places InClear p) tables.clear.items
  pub inside : AreFirsts (length p.atoms) (places Inside p) tables.inside.items
  pub makers : AreFirsts (length p.atoms) (makers p) tables.makers.items
  pub bare : AreFirsts (length p.atoms) (bare_keys p) tables.bare.items
  pub others : AreFirsts (length p.atoms) (others_keys p) tables.others.items
