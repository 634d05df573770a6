-- What makes a right value a wrong one.
use Rattle.std.specs.Prelude.{ℕ, ◌&&◌, ◌^◌, nat_le, nat_lt, List, [], ◌∷◌, length, Bool, Option, Some, None, if◌then◌else◌, option_and_then, slice_get}
use Rattle.anb_base.specs.declared.content.Suite.{Suite}
use Rattle.anb_format.specs.Formats.{FormatValue}
use Rattle.anb_format.specs.Reading.{parts_of}
use Rattle.anb_format.specs.declared.pieces.Piece.{Piece}
use Rattle.anb_spoil.specs.Changes.{changed_by}
use Rattle.anb_spoil.specs.Rows.{spoilt}
use Rattle.anb_spoil.specs.Tags.{retagged}
use Rattle.anb_spoil.specs.declared.rows.Row.{Row}
use Rattle.anb_spoil.specs.declared.tags.Closing.{Closing}
use Rattle.anb_spoil.specs.declared.wrongs.Wrong.{Wrong}
use Rattle.anb_spoil.specs.declared.wrongs.Wrong.TheVariants.{Changed, Spoilt, FalseTag}

-- bytes of these pieces, spoilt in the way of a row; nothing, where they have no parts, or can't be spoilt so
abbrev pub respoilt : List Piece → Row → List ℕ → Option (List ℕ)
respoilt pieces row bytes = option_and_then (spoilt pieces row) (parts_of pieces bytes)

-- there is a whole tag, and no message that is longer than any may be
abbrev pub has_tag : List ℕ → Bool
has_tag c = nat_le 32 (length c) && nat_lt (length c) (2 ^ 32)

-- the first of these, which is closed under the second one, with a false tag
abbrev pub retagged_first : Suite → Closing → List (List ℕ) → Option (List ℕ)
retagged_first suite closing [] = None
retagged_first suite closing (c ∷ []) = None
retagged_first suite closing (c ∷ k ∷ parts) = if has_tag c then Some (retagged suite closing k c) else None

-- the same of the parts of these bytes
abbrev pub retagged_in : List Piece → Suite → Closing → List ℕ → Option (List ℕ)
retagged_in pieces suite closing bytes = option_and_then (retagged_first suite closing) (parts_of pieces bytes)

-- what is made of a right value, by the formats of a protocol
abbrev pub wrong_by : List FormatValue → Wrong → List ℕ → Option (List ℕ)
wrong_by formats (Changed change) bytes = changed_by change bytes
wrong_by formats (Spoilt place row) bytes = option_and_then (λ (format : FormatValue). respoilt format.pieces row bytes) (slice_get formats place)
wrong_by formats (FalseTag suite closing place) bytes =
    option_and_then (λ (format : FormatValue). retagged_in format.pieces suite closing bytes) (slice_get formats place)
