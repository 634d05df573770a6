-- Pieces in which no fault of shape is found make a format.
use Rattle.std.proofs.Common.{◌≡◌, ℕ, zero, suc, ◌+◌, ◌<◌, ◌≤◌, List, [], ◌∷◌, length, ap, sym, ◌∙◌, subst, arith, refl, Bool, true, false, cond, Option, Some, None}
use Rattle.std.specs.Prelude.{◌&&◌, ◌==◌, nat_lt}
use Rattle.std.specs.Option.{option_map}
use Rattle.std.specs.List.{AllByRecursion, list_all}
use Rattle.std.proofs.lemmas.Bool.{and_from, eqb-false, eqb-true, eq-eqb, lt-ltb}
use Rattle.anb_lemmas.proofs.Options.{none_mapped}
use Rattle.anb_format.specs.declared.pieces.FieldKind.TheVariants.{Len, Net, Hex, Rest}
use Rattle.anb_format.specs.declared.pieces.FormatNo.{FormatNo}
use Rattle.anb_format.specs.declared.pieces.FormatNo.TheVariants.{NoHead, RestNotLast}
use Rattle.anb_format.specs.declared.pieces.Piece.{Piece}
use Rattle.anb_format.specs.declared.pieces.Piece.TheVariants.{Lit, Field}
use Rattle.anb_format.specs.Formats.{head, ends_at_rest, is_sound, is_bytes_piece, IsEarlyRest, IsFirstEarlyRest, IsSound, IsBytesPiece}
use Rattle.anb_format.proofs.BuiltLemmas.{passes_literals}
use Rattle.anb_protocol.specs.Checks.{early_rest, shape_fault}

rests : (ps : List Piece) → early_rest ps ≡ None → ends_at_rest ps ≡ true
rests [] e = refl
rests (Lit b ∷ []) e = refl
rests (Lit b ∷ p ∷ ps) e = rests (p ∷ ps) (none_mapped (λ i. i + 1) (early_rest (p ∷ ps)) e)
rests (Field Rest ∷ []) e = refl
rests (Field Len ∷ []) e = refl
rests (Field Net ∷ []) e = refl
rests (Field Hex ∷ []) e = refl
rests (Field Rest ∷ p ∷ ps) e = absurd (cc e)
rests (Field Len ∷ p ∷ ps) e = rests (p ∷ ps) (none_mapped (λ i. i + 1) (early_rest (p ∷ ps)) e)
rests (Field Net ∷ p ∷ ps) e = rests (p ∷ ps) (none_mapped (λ i. i + 1) (early_rest (p ∷ ps)) e)
rests (Field Hex ∷ p ∷ ps) e = rests (p ∷ ps) (none_mapped (λ i. i + 1) (early_rest (p ∷ ps)) e)

by_head : (ps : List Piece) (b : Bool) → (length (head ps) == 0) ≡ b → shape_fault ps ≡ None → (b ≡ false) × (early_rest ps ≡ None)
by_head ps true t e = let h = sym (ap (λ v. cond v (Some NoHead) (option_map (λ i. RestNotLast i) (early_rest ps))) t) ∙ e in absurd (cc h)
by_head ps false t e = (refl, none_mapped (λ i. RestNotLast i) (early_rest ps) (sym (ap (λ v. cond v (Some NoHead) (option_map (λ i. RestNotLast i) (early_rest ps))) t) ∙ e))

pub sound_pieces : (ps : List Piece) → shape_fault ps ≡ None → AllByRecursion IsBytesPiece ps → is_sound ps ≡ true
sound_pieces ps e a =
    let h = by_head ps (length (head ps) == 0) refl e in
    let some : 0 < length (head ps) = above_zero (length (head ps)) h.0 in
    and_from (nat_lt 0 (length (head ps)) && ends_at_rest ps) (list_all is_bytes_piece ps)
    (and_from (nat_lt 0 (length (head ps))) (ends_at_rest ps) (lt-ltb 0 (length (head ps)) some) (rests ps h.1)) (passes_literals ps a)
  where
    above_zero : (n : ℕ) → (n == 0) ≡ false → 0 < n
    above_zero zero e = absurd (eqb-false 0 0 e refl)
    above_zero (suc n) e = omega arith

-- ---- the first early rest, as a relation and as a computation

mapped_some : (o : Option ℕ) (i : ℕ) → option_map (λ k. k + 1) o ≡ Some i → (j : ℕ) × (o ≡ Some j) × (i ≡ j + 1)
mapped_some None i e = absurd (cc)
mapped_some (Some j) i e = let h : j + 1 ≡ i = cc in (j, refl, sym h)

down : (p : Piece) (ps : List Piece) (i : ℕ) → IsEarlyRest (p ∷ ps) (suc i) → IsEarlyRest ps i
down p ps i h = (h.0, omega (arith, h.1))

none_early : (ps : List Piece) → early_rest ps ≡ None → (i : ℕ) → IsEarlyRest ps i → ⊥
none_early [] e i h = cc (h.0)
none_early (Field Rest ∷ []) e i h = omega (arith, h.1)
none_early (Field Rest ∷ p ∷ ps) e i h = cc (e)
none_early (Lit b ∷ ps) e zero h = cc (h.0)
none_early (Field Len ∷ ps) e zero h = cc (h.0)
none_early (Field Net ∷ ps) e zero h = cc (h.0)
none_early (Field Hex ∷ ps) e zero h = cc (h.0)
none_early (Lit b ∷ ps) e (suc i) h = none_early ps (none_mapped (λ k. k + 1) (early_rest ps) e) i (down (Lit b) ps i h)
none_early (Field Len ∷ ps) e (suc i) h = none_early ps (none_mapped (λ k. k + 1) (early_rest ps) e) i (down (Field Len) ps i h)
none_early (Field Net ∷ ps) e (suc i) h = none_early ps (none_mapped (λ k. k + 1) (early_rest ps) e) i (down (Field Net) ps i h)
none_early (Field Hex ∷ ps) e (suc i) h = none_early ps (none_mapped (λ k. k + 1) (early_rest ps) e) i (down (Field Hex) ps i h)

-- none stands before the one that is found
before_early : (ps : List Piece) (i : ℕ) → early_rest ps ≡ Some i → (k : ℕ) → IsEarlyRest ps k → i ≤ k
before_early [] i e k h = absurd (cc (h.0))
before_early (Field Rest ∷ []) i e k h = absurd (omega (arith, h.1))
before_early (Field Rest ∷ p ∷ ps) i e k h = let z : 0 ≡ i = cc in omega arith
before_early (Lit b ∷ ps) i e zero h = absurd (cc (h.0))
before_early (Field Len ∷ ps) i e zero h = absurd (cc (h.0))
before_early (Field Net ∷ ps) i e zero h = absurd (cc (h.0))
before_early (Field Hex ∷ ps) i e zero h = absurd (cc (h.0))
before_early (Lit b ∷ ps) i e (suc k) h = let m = mapped_some (early_rest ps) i e in omega (arith, m.2, before_early ps m.0 m.1 k (down (Lit b) ps k h))
before_early (Field Len ∷ ps) i e (suc k) h = let m = mapped_some (early_rest ps) i e in omega (arith, m.2, before_early ps m.0 m.1 k (down (Field Len) ps k h))
before_early (Field Net ∷ ps) i e (suc k) h = let m = mapped_some (early_rest ps) i e in omega (arith, m.2, before_early ps m.0 m.1 k (down (Field Net) ps k h))
before_early (Field Hex ∷ ps) i e (suc k) h = let m = mapped_some (early_rest ps) i e in omega (arith, m.2, before_early ps m.0 m.1 k (down (Field Hex) ps k h))

up : (p : Piece) (ps : List Piece) (i j : ℕ) → i ≡ j + 1 → IsEarlyRest ps j → IsEarlyRest (p ∷ ps) i
up p ps i j e h = let s : suc j ≡ i = omega (arith, e) in let P : ℕ → Type 0 = λ n. IsEarlyRest (p ∷ ps) n in subst P s (h.0, omega (arith, h.1))

early_here : (ps : List Piece) (i : ℕ) → early_rest ps ≡ Some i → IsEarlyRest ps i
early_here [] i e = absurd (cc)
early_here (Field Rest ∷ []) i e = absurd (cc)
early_here (Field Rest ∷ p ∷ ps) i e = let z : 0 ≡ i = cc in let P : ℕ → Type 0 = λ n. IsEarlyRest (Field Rest ∷ p ∷ ps) n in subst P z (refl, omega arith)
early_here (Lit b ∷ ps) i e = let m = mapped_some (early_rest ps) i e in up (Lit b) ps i m.0 m.2 (early_here ps m.0 m.1)
early_here (Field Len ∷ ps) i e = let m = mapped_some (early_rest ps) i e in up (Field Len) ps i m.0 m.2 (early_here ps m.0 m.1)
early_here (Field Net ∷ ps) i e = let m = mapped_some (early_rest ps) i e in up (Field Net) ps i m.0 m.2 (early_here ps m.0 m.1)
early_here (Field Hex ∷ ps) i e = let m = mapped_some (early_rest ps) i e in up (Field Hex) ps i m.0 m.2 (early_here ps m.0 m.1)

by_order : (j i : ℕ) → (j < i → ⊥) → j ≤ i → j ≡ i
by_order j i n low = omega arith

first_early : (ps : List Piece) (i : ℕ) (o : Option ℕ) → early_rest ps ≡ o → IsFirstEarlyRest ps i → o ≡ Some i
first_early ps i None e f = absurd (none_early ps e i f.here)
first_early ps i (Some j) e f =
    let low = before_early ps j e i f.here in
    let same = by_order j i (λ h. f.none_before j h (early_here ps j e)) low in
    ap (λ n. Some n) same

nothing : (xs : List ℕ) → (length xs == 0) ≡ true → xs ≡ []
nothing [] e = refl
nothing (x ∷ xs) e = let h = eqb-true (length (x ∷ xs)) 0 e in absurd (omega arith)

no_shape : (ps : List Piece) (b : Bool) → (length (head ps) == 0) ≡ b → (head ps ≡ [] → ⊥) → b ≡ false
no_shape ps true e n = absurd (n (nothing (head ps) e))
no_shape ps false e n = refl

with_head : (ps : List Piece) → (head ps ≡ [] → ⊥) → shape_fault ps ≡ option_map (λ i. RestNotLast i) (early_rest ps)
with_head ps n = ap (λ b. cond b (Some NoHead) (option_map (λ i. RestNotLast i) (early_rest ps))) (no_shape ps (length (head ps) == 0) refl n)

pub shape_no_head : (ps : List Piece) → head ps ≡ [] → shape_fault ps ≡ Some NoHead
shape_no_head ps e = ap (λ (xs : List ℕ). cond (length xs == 0) (Some NoHead) (option_map (λ i. RestNotLast i) (early_rest ps))) e ∙ ap (λ b. cond b (Some NoHead) (option_map (λ i. RestNotLast i) (early_rest ps))) (eq-eqb 0 0 refl)

pub shape_early : (ps : List Piece) (i : ℕ) → (head ps ≡ [] → ⊥) → IsFirstEarlyRest ps i → shape_fault ps ≡ Some (RestNotLast i)
shape_early ps i n f = with_head ps n ∙ ap (option_map (λ k. RestNotLast k)) (first_early ps i (early_rest ps) refl f)

none_found : (ps : List Piece) (o : Option ℕ) → early_rest ps ≡ o → ((i : ℕ) → IsEarlyRest ps i → ⊥) → o ≡ None
none_found ps None e n = refl
none_found ps (Some i) e n = absurd (n i (early_here ps i e))

pub shape_none : (ps : List Piece) → IsSound ps → shape_fault ps ≡ None
shape_none ps s = with_head ps s.head_stands ∙ ap (option_map (λ k. RestNotLast k)) (none_found ps (early_rest ps) refl s.rest_is_last)

-- what `check` says is the fault of the shape
pub shape_told : (ps : List Piece) (why : FormatNo) → (why ≡ NoHead → head ps ≡ []) → ((i : ℕ) → why ≡ RestNotLast i → (head ps ≡ [] → ⊥) × IsFirstEarlyRest ps i) → shape_fault ps ≡ Some why
shape_told ps NoHead a b = shape_no_head ps (a refl)
shape_told ps (RestNotLast i) a b = let h = b i refl in shape_early ps i h.0 h.1
