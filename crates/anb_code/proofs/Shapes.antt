-- The faults of a format's shape, and the rows of a format.
use Rattle.std.proofs.Common.{◌≡◌, ◌≢◌, ◌<◌, ◌+◌, ◌&&◌, ◌||◌, ◌==◌, not, ℕ, zero, suc, nat_lt, Bool, true, false, List, [], ◌∷◌, ◌++◌, length, map, Some, Result, Ok, Err, IsOk, OnOk, IfErr, ◌↔◌, refl, ap, arith, add-zero, zero-add}
use Rattle.std.specs.List.{list_any}
use Rattle.std.proofs.lemmas.Bool.{and_parts, false_from_ne_true}
use Rattle.anb_format.specs.Formats.{FormatValue, IsEarlyRest, IsFirstEarlyRest, IsSound, field_count, head}
use Rattle.anb_format.specs.declared.pieces.FieldKind.TheVariants.{Len, Net, Hex, Rest}
use Rattle.anb_format.specs.declared.pieces.FormatNo.{FormatNo}
use Rattle.anb_format.specs.declared.pieces.FormatNo.TheVariants.{NoHead, RestNotLast}
use Rattle.anb_format.specs.declared.pieces.Piece.{Piece}
use Rattle.anb_format.specs.declared.pieces.Piece.TheVariants.{Lit, Field}
use Rattle.anb_code.specs.declared.refusal.CodeNo.TheVariants.{Many, Twice, Shape}
use Rattle.anb_code.specs.Spelling.{is_named}
use Rattle.anb_code.specs.Table.{BeginsWith, where_true, is_rest, is_empty, early_rests, shape_faults, format_faults}

rest_is : (piece : Piece) → is_rest piece ≡ true → piece ≡ Field Rest
rest_is (Lit text) e = cc
rest_is (Field Len) e = cc
rest_is (Field Net) e = cc
rest_is (Field Hex) e = cc
rest_is (Field Rest) e = refl

not_empty : {A : Type 0} (xs : List A) → not (is_empty xs) ≡ true → 0 < length xs
not_empty [] e = cc
not_empty (x ∷ xs) e = omega arith

not_nil : {A : Type 0} (xs : List A) → xs ≢ [] → is_empty xs ≡ false
not_nil [] n = absurd (n refl)
not_nil (x ∷ xs) n = refl

has_some : {A : Type 0} (xs : List A) → 0 < length xs → is_empty xs ≡ false
has_some [] h = absurd (omega arith)
has_some (x ∷ xs) h = refl

-- what a first place says: a `rest` that a piece follows, or none
early_here : (piece : Piece) (pieces : List Piece) → (is_rest piece && not (is_empty pieces)) ≡ true → IsEarlyRest (piece ∷ pieces) 0
early_here piece pieces e =
    let both = and_parts (is_rest piece) (not (is_empty pieces)) e in
    let some = not_empty pieces both.1 in
    (ap Some (rest_is piece both.0), omega arith)

here_early : (piece : Piece) (pieces : List Piece) → IsEarlyRest (piece ∷ pieces) 0 → (is_rest piece && not (is_empty pieces)) ≡ true
here_early piece pieces e =
    let is : piece ≡ Field Rest = cc (e.0) in
    rw (is, has_some pieces (omega (arith, e.1))) refl

none_here : (piece : Piece) (pieces : List Piece) → (IsEarlyRest (piece ∷ pieces) 0 → ⊥) → (is_rest piece && not (is_empty pieces)) ≡ false
none_here piece pieces n = false_from_ne_true (is_rest piece && not (is_empty pieces)) (λ e. n (early_here piece pieces e))

pub early_none : (k : ℕ) (pieces : List Piece) → ((i : ℕ) → IsEarlyRest pieces i → ⊥) → early_rests k pieces ≡ []
early_none k [] n = refl
early_none k (piece ∷ pieces) n =
    rw (none_here piece pieces (n 0)) (early_none (k + 1) pieces (λ i e. n (suc i) (e.0, omega (arith, e.1))))

pub early_first : (k i : ℕ) (pieces : List Piece) → IsFirstEarlyRest pieces i → BeginsWith (early_rests k pieces) (RestNotLast (k + i))
early_first k i [] f = absurd (omega (arith, f.here.1))
early_first k zero (piece ∷ pieces) f = (early_rests (k + 1) pieces, rw (here_early piece pieces f.here, add-zero) refl)
early_first k (suc i) (piece ∷ pieces) f =
    let later : IsFirstEarlyRest pieces i = record { here = (f.here.0, omega (arith, f.here.1)); none_before = λ j h e. f.none_before (suc j) (omega arith) (e.0, omega (arith, e.1)) } in
    let rest = early_first (k + 1) i pieces later in
    let place : k + 1 + i ≡ k + suc i = omega arith in
    (rest.0, rw (none_here piece pieces (f.none_before 0 (omega arith)), ← place) rest.1)

pub shape_none : (pieces : List Piece) → IsSound pieces → shape_faults pieces ≡ []
shape_none pieces sound = rw (not_nil (head pieces) sound.head_stands) (early_none 0 pieces sound.rest_is_last)

pub shape_no_head : (pieces : List Piece) → head pieces ≡ [] → BeginsWith (shape_faults pieces) NoHead
shape_no_head pieces e = (early_rests 0 pieces, rw e refl)

pub shape_rest : (pieces : List Piece) (i : ℕ) → head pieces ≢ [] → IsFirstEarlyRest pieces i → BeginsWith (shape_faults pieces) (RestNotLast i)
shape_rest pieces i stands first =
    let rest = early_first 0 i pieces first in (rest.0, rw (not_nil (head pieces) stands) (rw zero-add at rest.1))

pub shape_fault : (pieces : List Piece) (fault : FormatNo)
    → (fault ≡ NoHead → head pieces ≡ []) → ((i : ℕ) → fault ≡ RestNotLast i → (head pieces ≢ []) × IsFirstEarlyRest pieces i)
    → BeginsWith (shape_faults pieces) fault
shape_fault pieces NoHead h r = shape_no_head pieces (h refl)
shape_fault pieces (RestNotLast i) h r = let is = r i refl in shape_rest pieces i is.0 is.1

-- ---- the rows of a format

abbrev is_many : List FormatValue → FormatValue → Bool
is_many before format = length before == 64 || nat_lt 32 (field_count format.pieces)

abbrev is_twice : List FormatValue → FormatValue → Bool
is_twice before format = list_any (is_named format.name) before

module _ (before : List FormatValue) (format : FormatValue) where
  pub many_first : is_many before format ≡ true → BeginsWith (format_faults before format) (Many (length before))
  many_first h = (where_true (is_twice before format) (Twice (length before)) ++ map (Shape (length before)) (shape_faults format.pieces), rw h refl)

  pub twice_first : is_many before format ≡ false → is_twice before format ≡ true → BeginsWith (format_faults before format) (Twice (length before))
  twice_first h k = (map (Shape (length before)) (shape_faults format.pieces), rw (h, k) refl)

  pub shape_first : (fault : FormatNo) → is_many before format ≡ false → is_twice before format ≡ false → BeginsWith (shape_faults format.pieces) fault → BeginsWith (format_faults before format) (Shape (length before) fault)
  shape_first fault h k b = (map (Shape (length before)) b.0, rw (h, k, b.1) refl)

  pub format_fine : is_many before format ≡ false → is_twice before format ≡ false → shape_faults format.pieces ≡ [] → format_faults before format ≡ []
  format_fine h k e = rw (h, k, e) refl

-- ---- what `check` answers

abbrev Sound : List Piece → Result (Unit {0}) FormatNo → Type 0
Sound pieces r = IsOk r ↔ IsSound pieces

abbrev NoHeadIs : List Piece → Result (Unit {0}) FormatNo → Type 0
NoHeadIs pieces r = (r ≡ Err NoHead) ↔ (head pieces ≡ [])

abbrev RestIs : List Piece → Result (Unit {0}) FormatNo → Type 0
RestIs pieces r = (i : ℕ) → (r ≡ Err (RestNotLast i)) ↔ ((head pieces ≢ []) × IsFirstEarlyRest pieces i)

pub checked_fine : (pieces : List Piece) (r : Result (Unit {0}) FormatNo) → Sound pieces r → OnOk r (shape_faults pieces ≡ [])
checked_fine pieces (Ok done) sound = shape_none pieces (sound.0 refl)
checked_fine pieces (Err fault) sound = tt

pub checked_refused : (pieces : List Piece) (r : Result (Unit {0}) FormatNo) → NoHeadIs pieces r → RestIs pieces r → IfErr r (BeginsWith (shape_faults pieces))
checked_refused pieces (Ok done) n r = tt
checked_refused pieces (Err fault) n r = shape_fault pieces fault (λ e. n.0 (ap Err e)) (λ i e. (r i).0 (ap Err e))
