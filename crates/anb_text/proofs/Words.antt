-- Words without spaces, and the line that they make.
use Rattle.std.proofs.Common.{◌≡◌, ℕ, List, [], ◌∷◌, ◌++◌, Bool, true, false, refl, sym, ap, ◌∙◌, arith}
use Rattle.std.specs.Prelude.{◌==◌, ◌&&◌, not}
use Rattle.std.specs.List.{AllByRecursion, flat_map, join_with_byte, list_all, onto_first}
use Rattle.std.proofs.lemmas.Bool.{and_parts}
use Rattle.std.proofs.lemmas.Bool.Decides.{nat_tests}
use Rattle.std.proofs.lemmas.List.{append-nil}
use Rattle.std.proofs.lemmas.List.Folds.{list_all-append}
use Rattle.std.proofs.lemmas.List.Splits.{join_with_byte-slice_split, slice_split-cons_no, slice_split-cons_yes}
use Rattle.anb_text.specs.Reading.{words_of}

-- neither a space nor the end of a line
abbrev pub is_plain : ℕ → Bool
is_plain b = not (b == 32) && not (b == 10)

abbrev pub IsPlain : List ℕ → Type 0
IsPlain w = list_all is_plain w ≡ true

abbrev pub is_within : ℕ → Bool
is_within b = not (b == 10)

-- the words, each behind a space
abbrev pub behind : List (List ℕ) → List ℕ
behind ws = flat_map (λ w. 32 ∷ w) ws

abbrev pub joined : List (List ℕ) → List ℕ
joined [] = []
joined (w ∷ ws) = w ++ behind ws

no_space : (b : ℕ) → is_plain b ≡ true → (b == 32) ≡ false
no_space b h = grind (arith, nat_tests)

one_word : (w : List ℕ) → IsPlain w → words_of w ≡ w ∷ []
one_word [] h = refl
one_word (b ∷ w) h =
    let k = and_parts (is_plain b) (list_all is_plain w) h in
    slice_split-cons_no (λ c. c == 32) b w (no_space b k.0) ∙ ap (onto_first b) (one_word w k.1)

word_before : (w y : List ℕ) → IsPlain w → words_of (w ++ 32 ∷ y) ≡ w ∷ words_of y
word_before [] y h = slice_split-cons_yes (λ c. c == 32) 32 y refl
word_before (b ∷ w) y h =
    let k = and_parts (is_plain b) (list_all is_plain w) h in
    slice_split-cons_no (λ c. c == 32) b (w ++ 32 ∷ y) (no_space b k.0) ∙ ap (onto_first b) (word_before w y k.1)

split_again : (w : List ℕ) (ws : List (List ℕ)) → IsPlain w → AllByRecursion IsPlain ws → words_of (w ++ behind ws) ≡ w ∷ ws
split_again w [] h k = ap words_of (append-nil w) ∙ one_word w h
split_again w (v ∷ vs) h k = word_before w (v ++ behind vs) h ∙ ap (λ (t : List (List ℕ)). w ∷ t) (split_again v vs k.0 k.1)

-- words are read again
pub words_again : (ws : List (List ℕ)) → (ws ≡ [] → ⊥) → AllByRecursion IsPlain ws → words_of (joined ws) ≡ ws
words_again [] some h = absurd (some refl)
words_again (w ∷ ws) some h = split_again w ws h.0 h.1

join_is : (ws : List (List ℕ)) → join_with_byte 32 ws ≡ joined ws
join_is [] = refl
join_is (x ∷ []) = sym (append-nil x)
join_is (x ∷ y ∷ xs) = ap (λ (t : List ℕ). x ++ 32 ∷ t) (join_is (y ∷ xs))

-- the words of a text are all of it
pub text_again : (x : List ℕ) → joined (words_of x) ≡ x
text_again x = sym (join_is (words_of x)) ∙ join_with_byte-slice_split 32 x

pub both_all : (p : ℕ → Bool) (xs ys : List ℕ) → list_all p xs ≡ true → list_all p ys ≡ true → list_all p (xs ++ ys) ≡ true
both_all p xs ys h k = list_all-append p xs ys ∙ (rw (h, k) refl)

pub plain_within : (w : List ℕ) → IsPlain w → list_all is_within w ≡ true
plain_within [] h = refl
plain_within (b ∷ w) h =
    let k = and_parts (is_plain b) (list_all is_plain w) h in
    let first = k.0 in
    let one : is_within b ≡ true = grind (arith, nat_tests) in rw one (plain_within w k.1)

behind_within : (ws : List (List ℕ)) → AllByRecursion IsPlain ws → list_all is_within (behind ws) ≡ true
behind_within [] h = refl
behind_within (w ∷ ws) h = both_all is_within w (behind ws) (plain_within w h.0) (behind_within ws h.1)

-- no line ends within words
pub joined_within : (ws : List (List ℕ)) → AllByRecursion IsPlain ws → list_all is_within (joined ws) ≡ true
joined_within [] h = refl
joined_within (w ∷ ws) h = both_all is_within w (behind ws) (plain_within w h.0) (behind_within ws h.1)
