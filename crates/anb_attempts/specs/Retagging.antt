-- How what a role unseals or unwraps gets a false tag: of what the partner makes it, and how.
use Rattle.std.specs.Prelude.{ℕ, ◌+◌, ◌-◌, nat_le, List, [], ◌∷◌, replicate, Option, Some, None, if◌then◌else◌}
use Rattle.std.specs.Option.{option_map}
use Rattle.anb_format.specs.Formats.{FormatValue, field_count}
use Rattle.anb_protocol.specs.Protocols.{ProtocolValue}
use Rattle.anb_spoil.specs.declared.tags.Closing.{Closing}
use Rattle.anb_spoil.specs.declared.tags.Closing.TheVariants as closing
use Rattle.anb_spoil.specs.declared.wrongs.Wrong.{Wrong}
use Rattle.anb_spoil.specs.declared.wrongs.Wrong.TheVariants.{FalseTag}
use Rattle.anb_term.specs.declared.term.Op.{Op}
use Rattle.anb_term.specs.declared.term.Op.TheVariants.{Seal, Wrap, Format}
use Rattle.anb_term.specs.Tree.{Tree, Trees, leaf, node, none, more, trees_of}

-- the value that the partner makes, and what is made of it
pub record RetaggingValue : Type 0 where
  pub pair : Tree
  pub way : Wrong

-- the place of the first of these formats that has two fields or more, and how many it has
abbrev pub pair_from : (place : ℕ) → List FormatValue → Option (ℕ × ℕ)
pair_from place [] = None
pair_from place (f ∷ fs) = if nat_le 2 (field_count f.pieces) then Some (place, field_count f.pieces) else pair_from (place + 1) fs

-- a closed term and its key in a format with so many fields: the key stands in all fields behind the first one
abbrev pub pair_of : (place fields : ℕ) → (closed key : Tree) → Tree
pair_of place fields closed key = node (Format place fields) (trees_of (closed ∷ replicate (fields - 1) key))

module _ (p : ProtocolValue) (way : Closing) (closed : Tree) where
  abbrev pub retagging_in : (key : Tree) → ℕ × ℕ → RetaggingValue
  retagging_in key format = record { pair = pair_of format.0 format.1 closed key; way = FalseTag p.suite way format.0 }

  -- the first of its operands is its key
  abbrev pub retagging_by : Trees → Option RetaggingValue
  retagging_by none = None
  retagging_by (more key ts) = option_map (retagging_in key) (pair_from 0 p.formats)

-- of a term that is sealed, or wrapped
abbrev pub retagging_of : ProtocolValue → Tree → Option RetaggingValue
retagging_of p (leaf n) = None
retagging_of p (node Seal ts) = retagging_by p closing.Seal (node Seal ts) ts
retagging_of p (node Wrap ts) = retagging_by p closing.Wrap (node Wrap ts) ts
retagging_of p (node o ts) = None

-- of what an instruction opens: not where it parses a format
abbrev pub retagging_at : ProtocolValue → (parsed : Option ℕ) → Tree → Option RetaggingValue
retagging_at p (Some format) opened = None
retagging_at p None opened = retagging_of p opened
