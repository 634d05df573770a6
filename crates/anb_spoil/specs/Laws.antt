-- What holds of spoilt bytes, whatever the bytes are.
use Rattle.std.specs.Prelude.{◌≡◌, ◌≢◌, ℕ, List, ◌∷◌, length, take, drop, Some, None, Bool, true, false, Contains, slice_get}
use Rattle.std.specs.List.{AllByRecursion}
use Rattle.anb_base.specs.Bytes.{IsBytes}
use Rattle.anb_base.specs.declared.content.Suite.{Suite}
use Rattle.anb_format.specs.Formats.{FormatValue, IsParts, IsSound, field_count}
use Rattle.anb_format.specs.Reading.{arguments_at, parts_of}
use Rattle.anb_format.specs.declared.pieces.Piece.{Piece}
use Rattle.anb_seal.specs.Primitives.{key_for, masked, sealed, unsealed, unwrapped, wrapped}
use Rattle.anb_spoil.specs.Changes.{changed_by}
use Rattle.anb_spoil.specs.Rows.{rows_of, spoilt}
use Rattle.anb_spoil.specs.Tags.{falsely_sealed, falsely_wrapped, retagged}
use Rattle.anb_spoil.specs.Wrongs.{respoilt, wrong_by}
use Rattle.anb_spoil.specs.declared.changes.Change.{Change}
use Rattle.anb_spoil.specs.declared.rows.Row.{Row}
use Rattle.anb_spoil.specs.declared.rows.Row.TheVariants.{At}
use Rattle.anb_spoil.specs.declared.rows.Spoiling.TheVariants.{Semicolon, Comma}
use Rattle.anb_spoil.specs.declared.tags.Closing.TheVariants.{Seal, Wrap}
use Rattle.anb_spoil.specs.declared.wrongs.Wrong.{Wrong}
use Rattle.anb_spoil.specs.declared.wrongs.Wrong.TheVariants.{Changed, Spoilt, FalseTag}

-- what a change makes of bytes differs from them
abbrev pub ChangesDiffer : Type 0
ChangesDiffer = (change : Change) (bytes wrong : List ℕ) → changed_by change bytes ≡ Some wrong → wrong ≢ bytes

-- what is spoilt in the way of a row is built of no arguments
abbrev pub RowsAreRefused : Type 0
RowsAreRefused = (pieces : List Piece) → IsSound pieces → (row : Row) (arguments : List (List ℕ)) → length arguments ≡ field_count pieces
    → AllByRecursion IsBytes arguments → (bytes : List ℕ) → spoilt pieces row arguments ≡ Some bytes
    → (others : List (List ℕ)) → IsParts pieces bytes others → ⊥

-- whatever is spoilt at all is so in the way of one of the format's rows
abbrev pub RowsAreAll : Type 0
RowsAreAll = (pieces : List Piece) (row : Row) (arguments : List (List ℕ)) (bytes : List ℕ)
    → spoilt pieces row arguments ≡ Some bytes → Contains (rows_of pieces) row

-- in these two ways the sign that tells where digits end is another one
abbrev pub hides_an_end : Row → Bool
hides_an_end (At i Semicolon) = true
hides_an_end (At i Comma) = true
hides_an_end row = false

-- what is spoilt in any other way still has the right arguments where the pieces seem to stand: only
-- who compares refuses it
abbrev pub RowsAreNear : Type 0
RowsAreNear = (pieces : List Piece) → IsSound pieces → (row : Row) (arguments : List (List ℕ)) → length arguments ≡ field_count pieces
    → AllByRecursion IsBytes arguments → (bytes : List ℕ) → spoilt pieces row arguments ≡ Some bytes
    → hides_an_end row ≡ false → arguments_at pieces bytes ≡ arguments

-- bytes of a format that are spoilt in the way of a row are built of no arguments
abbrev pub SpoiltIsRefused : Type 0
SpoiltIsRefused = (pieces : List Piece) → IsSound pieces → (row : Row) (right wrong : List ℕ) → respoilt pieces row right ≡ Some wrong
    → (others : List (List ℕ)) → IsParts pieces wrong others → ⊥

-- it isn't the right value; with a false tag it isn't the closed bytes that are a part of that
abbrev pub IsAnother : List FormatValue → Wrong → (right made : List ℕ) → Type 0
IsAnother formats (Changed change) right made = made ≢ right
IsAnother formats (Spoilt place row) right made = made ≢ right
IsAnother formats (FalseTag suite closing place) right made =
    (format : FormatValue) (c k : List ℕ) (parts : List (List ℕ)) → slice_get formats place ≡ Some format
    → parts_of format.pieces right ≡ Some (c ∷ k ∷ parts) → made ≢ c

-- what a right value is made differs from it
abbrev pub WrongsDiffer : Type 0
WrongsDiffer = (formats : List FormatValue) → AllByRecursion (λ (format : FormatValue). IsSound format.pieces) formats
    → (wrong : Wrong) (right made : List ℕ) → wrong_by formats wrong right ≡ Some made → IsAnother formats wrong right made

-- false tags aren't opened, under the very key; but whoever doesn't compare tags has the message
pub record FalseTagsStayShut : Type 0 where
  pub seals : (suite : Suite) (k m : List ℕ) → unsealed suite k (falsely_sealed suite k m) ≡ None
  pub wraps : (suite : Suite) (k d m : List ℕ) → unwrapped suite k d (falsely_wrapped suite k d m) ≡ None

pub record FalseTagsHoldTheMessage : Type 0 where
  pub seals : (suite : Suite) (k m : List ℕ) → let c = falsely_sealed suite k m in masked suite (key_for suite 1 k) (take 32 c) (drop 32 c) ≡ m
  pub wraps : (suite : Suite) (k d m : List ℕ) → let c = falsely_wrapped suite k d m in masked suite (key_for suite 3 k) (take 32 c) (drop 32 c) ≡ m

-- closed bytes with another tag are their message with a false tag
pub record RetaggedIsFalse : Type 0 where
  pub seals : (suite : Suite) (k m : List ℕ) → retagged suite Seal k (sealed suite k m) ≡ falsely_sealed suite k m
  pub wraps : (suite : Suite) (k d m : List ℕ) → retagged suite Wrap k (wrapped suite k d m) ≡ falsely_wrapped suite k d m
