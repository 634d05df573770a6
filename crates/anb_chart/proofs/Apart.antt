-- Participants are no words, and are told apart.
use Rattle.std.proofs.Common.{◌≡◌, ℕ, ◌+◌, ◌<◌, ◌^◌, ◌%◌, List, [], ◌∷◌, ◌++◌, Bool, true, false, cond, refl, sym, ap, ◌∙◌, arith}
use Rattle.std.specs.Prelude.{◌==◌, decimal, not}
use Rattle.std.specs.List.{list_all}
use Rattle.std.proofs.lemmas.Bool.Decides.{leb_tells, nat_tests}
use Rattle.std.proofs.lemmas.Fmt.{decimal_by_steps, decimal_is_IsNumeral}
use Rattle.std.proofs.lemmas.List.Folds.{list_all-append}
use Rattle.std.specs.Str.Parse.{digits_value}
use Rattle.std.proofs.lemmas.Bool.{and_parts}
use Rattle.anb_syntax.specs.Words.{is_letter, is_name_byte, is_spelled}
use Rattle.anb_chart.specs.Participants.{escaped, is_word}

pub no_word : (name : List ℕ) → is_word (escaped name) ≡ false
no_word [] = refl
no_word (b ∷ rest) = by (is_word (b ∷ rest)) refl where
  by : (v : Bool) → is_word (b ∷ rest) ≡ v → is_word (cond v (35 ∷ decimal b ++ 59 ∷ rest) (b ∷ rest)) ≡ false
  by true is = refl
  by false is = is

-- ---- the digits of an entity code end at the semicolon

abbrev is_open : ℕ → Bool
is_open b = not (b == 59)

digits_open : (n : ℕ) → n < 2 ^ 64 → list_all is_open (decimal n) ≡ true
digits_open =
    decimal_by_steps (λ (n : ℕ) (ds : List ℕ). list_all is_open ds ≡ true)
    (λ n h. let one : is_open (48 + n) ≡ true = grind (arith, nat_tests) in rw one refl)
    (λ n ds h e. let one : is_open (48 + n % 10) ≡ true = grind (arith, nat_tests) in list_all-append is_open ds _ ∙ rw (e, one) refl)

not_open : (y : ℕ) (ys : List ℕ) → 59 ≡ y → list_all is_open (y ∷ ys) ≡ true → ⊥
not_open y ys same all =
    let is : is_open y ≡ true = (and_parts (is_open y) (list_all is_open ys) all).0 in
    let closed : is_open 59 ≡ true = ap is_open same ∙ is in
    cc

cut : (xs ys r s : List ℕ) → list_all is_open xs ≡ true → list_all is_open ys ≡ true → xs ++ 59 ∷ r ≡ ys ++ 59 ∷ s → (xs ≡ ys) × (r ≡ s)
cut [] [] r s a b e = (refl, cc)
cut [] (y ∷ ys) r s a b e = let same : 59 ≡ y = cc in absurd (not_open y ys same b)
cut (x ∷ xs) [] r s a b e = let same : 59 ≡ x = cc in absurd (not_open x xs same a)
cut (x ∷ xs) (y ∷ ys) r s a b e =
    let same : x ≡ y = cc in
    let rest : xs ++ 59 ∷ r ≡ ys ++ 59 ∷ s = cc in
    let k = cut xs ys r s (and_parts (is_open x) (list_all is_open xs) a).1 (and_parts (is_open y) (list_all is_open ys) b).1 rest in
    (rw (same, k.0) refl, k.1)

value : (n : ℕ) → n < 2 ^ 64 → digits_value 10 (decimal n) ≡ n
value n small = (decimal_is_IsNumeral n small).1

-- ---- names

letters_small : (b : ℕ) → is_letter b ≡ true → b < 2 ^ 64
letters_small b e = grind (arith, leb_tells)

no_letter : (d : ℕ) → 35 ≡ d → is_letter d ≡ true → ⊥
no_letter d same e = let never : is_letter 35 ≡ true = ap is_letter same ∙ e in cc

module _ (b d : ℕ) (r s : List ℕ) (lb : is_letter b ≡ true) (ld : is_letter d ≡ true) where
  by_words : (v w : Bool) → cond v (35 ∷ decimal b ++ 59 ∷ r) (b ∷ r) ≡ cond w (35 ∷ decimal d ++ 59 ∷ s) (d ∷ s) → b ∷ r ≡ d ∷ s
  by_words true true e =
      let rest : decimal b ++ 59 ∷ r ≡ decimal d ++ 59 ∷ s = cc in
      let k = cut (decimal b) (decimal d) r s (digits_open b (letters_small b lb)) (digits_open d (letters_small d ld)) rest in
      let same : b ≡ d = sym (value b (letters_small b lb)) ∙ ap (digits_value 10) k.0 ∙ value d (letters_small d ld) in
      rw (same, k.1) refl
  by_words true false e = let same : 35 ≡ d = cc in absurd (no_letter d same ld)
  by_words false true e = let same : 35 ≡ b = cc in absurd (no_letter b same lb)
  by_words false false e = e

pub told_apart : (x y : List ℕ) → is_spelled x ≡ true → is_spelled y ≡ true → escaped x ≡ escaped y → x ≡ y
told_apart [] y sx sy e = cc
told_apart (b ∷ r) [] sx sy e = cc
told_apart (b ∷ r) (d ∷ s) sx sy e =
    by_words b d r s (and_parts (is_letter b) (list_all is_name_byte r) sx).0 (and_parts (is_letter d) (list_all is_name_byte s) sy).0 (is_word (b ∷ r)) (is_word (d ∷ s)) e
