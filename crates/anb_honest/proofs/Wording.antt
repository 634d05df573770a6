-- How many words a text has.
use Rattle.std.proofs.Common.{◌≡◌, ℕ, suc, ◌+◌, ◌*◌, ◌≤◌, List, [], ◌∷◌, length, Bool, true, false, cond, refl, ap, arith}
use Rattle.std.specs.Prelude.{filter}
use Rattle.std.specs.List.{slice_split, onto_first}
use Rattle.std.proofs.lemmas.Bool.Decides.{nat_tests}
use Rattle.anb_honest.specs.Words.{is_blank, is_word, words_of}

abbrev words_in : List (List ℕ) → ℕ
words_in parts = length (filter is_word parts)

word_is : (b : ℕ) (part : List ℕ) → is_word (b ∷ part) ≡ true
word_is b part = grind (arith, nat_tests)

-- a part has at most one word, and where it has one a byte
words_first : (part : List ℕ) (rest : List (List ℕ)) → 2 * words_in (part ∷ rest) ≤ length part + 1 + 2 * words_in rest
words_first [] rest = omega arith
words_first (x ∷ part) rest =
    let e : words_in ((x ∷ part) ∷ rest) ≡ suc (words_in rest) = ap (λ v. length (cond v ((x ∷ part) ∷ filter is_word rest) (filter is_word rest))) (word_is x part) in
    omega arith

few_in : (text : List ℕ) → (first : List ℕ) × (rest : List (List ℕ)) × (slice_split is_blank text ≡ first ∷ rest) × (length first + 2 * words_in rest ≤ length text)
few_in [] = ([], [], refl, omega arith)
few_in (b ∷ text) =
    let ih = few_in text in
    by (is_blank b) ih.0 ih.1 ih.2 ih.3
  where
    by : (v : Bool) (first : List ℕ) (rest : List (List ℕ)) → slice_split is_blank text ≡ first ∷ rest → length first + 2 * words_in rest ≤ length text
        → (f : List ℕ) × (r : List (List ℕ)) × (cond v ([] ∷ slice_split is_blank text) (onto_first b (slice_split is_blank text)) ≡ f ∷ r) × (length f + 2 * words_in r ≤ suc (length text))
    by true first rest e h =
        let more = words_first first rest in
        ([], first ∷ rest, ap (λ l. [] ∷ l) e, omega (arith, h, more))
    by false first rest e h = (b ∷ first, rest, ap (onto_first b) e, omega (arith, h))

pub few_words : (text : List ℕ) → 2 * length (words_of text) ≤ length text + 1
few_words text =
    let h = few_in text in
    let w = words_first h.0 h.1 in
    let e : length (words_of text) ≡ words_in (h.0 ∷ h.1) = ap (λ l. length (filter is_word l)) h.2 in
    omega (arith, w, h.3, e)
