-- What a right value is made differs from it, and isn't of its format.
use Rattle.std.proofs.Common.{◌≡◌, ◌≢◌, ◌^◌, ℕ, Bool, true, false, List, ◌∷◌, length, Option, Some, None, if◌then◌else◌, refl, sym, subst, ◌∙◌}
use Rattle.std.proofs.lemmas.Bool.{leb-true}
use Rattle.std.specs.Prelude.{◌&&◌, nat_le, nat_lt, option_and_then, slice_get}
use Rattle.std.specs.List.{AllByRecursion}
use Rattle.anb_lemmas.proofs.Each.{each_got}
use Rattle.anb_base.specs.declared.content.Suite.{Suite}
use Rattle.anb_format.specs.Formats.{FormatValue, IsParts, IsSound}
use Rattle.anb_format.specs.Reading.{parts_of}
use Rattle.anb_format.specs.declared.pieces.Piece.{Piece}
use Rattle.anb_format.proofs.ReadingLemmas.{parts_of-builds}
use Rattle.anb_spoil.specs.Rows.{spoilt}
use Rattle.anb_spoil.specs.Wrongs.{has_tag, respoilt, retagged_first, retagged_in, wrong_by}
use Rattle.anb_spoil.specs.Laws.{IsAnother}
use Rattle.anb_spoil.specs.Tags.{retagged}
use Rattle.anb_spoil.specs.declared.tags.Closing.{Closing}
use Rattle.anb_spoil.specs.declared.rows.Row.{Row}
use Rattle.anb_spoil.specs.declared.wrongs.Wrong.{Wrong}
use Rattle.anb_spoil.specs.declared.wrongs.Wrong.TheVariants.{Changed, Spoilt, FalseTag}
use Rattle.anb_spoil.proofs.Changing.{changes_differ}
use Rattle.anb_spoil.proofs.FalseTags.{retagged_differs}
use Rattle.anb_spoil.proofs.Refusing.{rows_refused}

found : {A B : Type 0} (f : A → Option B) (o : Option A) (t : B) → option_and_then f o ≡ Some t → (x : A) × (o ≡ Some x) × (f x ≡ Some t)
found f None t e = cc
found f (Some x) t e = (x, refl, e)

-- the parts that the right bytes have
parts_there : (pieces : List Piece) (row : Row) (right wrong : List ℕ) → respoilt pieces row right ≡ Some wrong
    → (parts : List (List ℕ)) × IsParts pieces right parts × (spoilt pieces row parts ≡ Some wrong)
parts_there pieces row right wrong e =
    let f = found (spoilt pieces row) (parts_of pieces right) wrong e in (f.0, parts_of-builds pieces right f.0 f.1, f.2)

pub spoilt_refused : (pieces : List Piece) → IsSound pieces → (row : Row) (right wrong : List ℕ) → respoilt pieces row right ≡ Some wrong
    → (others : List (List ℕ)) → IsParts pieces wrong others → ⊥
spoilt_refused pieces sound row right wrong e others h =
    let f = parts_there pieces row right wrong e in
    rows_refused pieces sound.rest_is_last row f.0 f.1.count f.1.strings wrong f.2 others h

-- a test that holds
tested : (b : Bool) (x y : List ℕ) → (if b then Some x else None) ≡ Some y → (b ≡ true) × (x ≡ y)
tested true x y e = (refl, cc)
tested false x y e = absurd (cc)

both : (a b : Bool) → (a && b) ≡ true → a ≡ true
both true b e = refl
both false b e = absurd (cc)

-- what has another tag differs
retagged_apart : (formats : List FormatValue) (suite : Suite) (closing : Closing) (place : ℕ) (right made : List ℕ) → wrong_by formats (FalseTag suite closing place) right ≡ Some made
    → IsAnother formats (FalseTag suite closing place) right made
retagged_apart formats suite closing place right made e format c k parts there has same =
    let f = found (λ (x : FormatValue). retagged_in x.pieces suite closing right) (slice_get formats place) made e in
    let is : f.0 ≡ format = (let s : Some f.0 ≡ Some format = sym f.1 ∙ there in cc) in
    let g = found (retagged_first suite closing) (parts_of format.pieces right) made (subst (λ (x : FormatValue). retagged_in x.pieces suite closing right ≡ Some made) is f.2) in
    let parted : g.0 ≡ c ∷ k ∷ parts = (let s : Some g.0 ≡ Some (c ∷ k ∷ parts) = sym g.1 ∙ has in cc) in
    let first : retagged_first suite closing (c ∷ k ∷ parts) ≡ Some made = subst (λ l. retagged_first suite closing l ≡ Some made) parted g.2 in
    let t = tested (has_tag c) (retagged suite closing k c) made first in
    let long : nat_le 32 (length c) ≡ true = both (nat_le 32 (length c)) (nat_lt (length c) (2 ^ 32)) t.0 in
    retagged_differs suite closing k c (leb-true 32 (length c) long) (t.1 ∙ same)

pub wrongs_differ : (formats : List FormatValue) → AllByRecursion (λ (format : FormatValue). IsSound format.pieces) formats
    → (wrong : Wrong) (right made : List ℕ) → wrong_by formats wrong right ≡ Some made → IsAnother formats wrong right made
wrongs_differ formats sound (Changed change) right made e = changes_differ change right made e
wrongs_differ formats sound (Spoilt place row) right made e = (λ same.
    let f = found (λ (format : FormatValue). respoilt format.pieces row right) (slice_get formats place) made e in
    let here = each_got (λ (format : FormatValue). IsSound format.pieces) formats place f.0 sound f.1 in
    let parts = parts_there f.0.pieces row right made f.2 in
    spoilt_refused f.0.pieces here row right made f.2 parts.0 (subst (λ b. IsParts f.0.pieces b parts.0) (sym same) parts.1))
wrongs_differ formats sound (FalseTag suite closing place) right made e = retagged_apart formats suite closing place right made e
