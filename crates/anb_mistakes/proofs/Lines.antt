-- Texts that are put together piece by piece.
use Rattle.std.proofs.Common.{◌≡◌, ℕ, suc, ◌+◌, ◌-◌, ◌<◌, List, [], ◌∷◌, ◌++◌, length, drop, take, get_or, Bool, true, false, refl, ap, sym, ◌∙◌, arith, append_assoc, length-drop, inl, inr}
use Rattle.std.specs.Prelude.{codes, nat_lt, replicate}
use Rattle.std.proofs.lemmas.Bool.{cases_lt, le-ltb, lt-ltb}
use Rattle.std.proofs.lemmas.List.{append-nil, drop_more}
use Rattle.anb_read.specs.declared.grammar.GrammarWord.{GrammarWord}
use Rattle.anb_mistakes.specs.Pointing.{gap, part}
use Rattle.anb_mistakes.specs.Words.{word_text, other_words}

pub heading_put : (old name line column message : List ℕ)
    → (((((((old ++ name) ++ codes ":") ++ line) ++ codes ":") ++ column) ++ codes ": ") ++ message) ++ codes "\n"
    ≡ old ++ (name ++ (codes ":" ++ (line ++ (codes ":" ++ (column ++ (codes ": " ++ (message ++ codes "\n")))))))
heading_put old name line column message = simp append_assoc

pub shown_put : (old number source blank below : List ℕ)
    → (((((((old ++ number) ++ codes " | ") ++ source) ++ codes "\n") ++ blank) ++ codes " | ") ++ below) ++ codes "^\n"
    ≡ old ++ (number ++ (codes " | " ++ (source ++ (codes "\n" ++ (blank ++ (codes " | " ++ (below ++ codes "^\n")))))))
shown_put old number source blank below = simp append_assoc

pub pointed_put : (heading shown mend : List ℕ) → ((([] ++ heading) ++ shown) ++ mend) ++ codes "\n" ≡ heading ++ (shown ++ (mend ++ codes "\n"))
pointed_put heading shown mend = simp append_assoc

-- ---- parts of lines

rest_is_long : (from : ℕ) (line : List ℕ) → nat_lt 120 (length (drop from line)) ≡ nat_lt (from + 120) (length line)
rest_is_long from line = elim (cases_lt 120 (length (drop from line))) [
  | inl less ↦ lt-ltb _ _ less ∙ sym (lt-ltb _ _ (omega (arith, less, length-drop from line)))
  | inr more ↦ le-ltb _ _ more ∙ sym (le-ltb _ _ (omega (arith, more, length-drop from line)))
]

pub part_put : (old : List ℕ) (from : ℕ) (line : List ℕ)
    → ((old ++ gap (nat_lt 0 from)) ++ take 120 (drop from line)) ++ gap (nat_lt 120 (length (drop from line))) ≡ old ++ part from line
part_put old from line = rw (rest_is_long from line) (simp append_assoc)

-- ---- spaces

spaces_are : (n k m : ℕ) (old : List ℕ) → n - k ≡ suc m → n - (k + 1) ≡ m → (old ++ 32 ∷ []) ++ replicate (n - (k + 1)) 32 ≡ old ++ replicate (n - k) 32
spaces_are n k m old e h = rw (e, h) (append_assoc old (32 ∷ []) (replicate m 32))

pub one_space : (n k : ℕ) (old : List ℕ) → k < n → (old ++ 32 ∷ []) ++ replicate (n - (k + 1)) 32 ≡ old ++ replicate (n - k) 32
one_space n k old lt = spaces_are n k (n - (k + 1)) old (omega arith) refl

-- ---- words

abbrev pub separator : Bool → List ℕ
separator true = codes " or "
separator false = codes ", "

abbrev is_last : List GrammarWord → Bool
is_last [] = true
is_last (w ∷ ws) = false

one_word : (w : GrammarWord) (ws : List GrammarWord) (old : List ℕ) → ((old ++ separator (is_last ws)) ++ word_text w) ++ other_words ws ≡ old ++ other_words (w ∷ ws)
one_word w [] old = simp append_assoc (ap (λ l. old ++ (codes " or " ++ l)) (append-nil (word_text w)))
one_word w (v ∷ ws) old = simp append_assoc

last_is : (ws : List GrammarWord) → length ws ≡ 0 → is_last ws ≡ true
last_is [] e = refl
last_is (w ∷ ws) e = absurd (omega (arith, e))

not_last : (ws : List GrammarWord) → 0 < length ws → is_last ws ≡ false
not_last [] e = absurd (omega (arith, e))
not_last (w ∷ ws) e = refl

module _ (ws : List GrammarWord) (i : ℕ) (d : GrammarWord) (within : i < length ws) (text : List ℕ) (is : text ≡ word_text (get_or ws i d)) (old : List ℕ) where
  next_word : (b : Bool) → is_last (drop (i + 1) ws) ≡ b → ((old ++ separator b) ++ text) ++ other_words (drop (i + 1) ws) ≡ old ++ other_words (drop i ws)
  next_word b e = rw (is, ← e) (one_word (get_or ws i d) (drop (i + 1) ws) old) ∙ ap (λ (l : List GrammarWord). old ++ other_words l) (sym (drop_more ws i d within))

  pub last_word : i + 1 ≡ length ws → ((old ++ codes " or ") ++ text) ++ other_words (drop (i + 1) ws) ≡ old ++ other_words (drop i ws)
  last_word e = next_word true (last_is (drop (i + 1) ws) (omega (arith, e, length-drop (i + 1) ws)))

  pub inner_word : (i + 1 ≡ length ws → ⊥) → ((old ++ codes ", ") ++ text) ++ other_words (drop (i + 1) ws) ≡ old ++ other_words (drop i ws)
  inner_word e = next_word false (not_last (drop (i + 1) ws) (omega (arith, within, e, length-drop (i + 1) ws)))

pub overlap_put : (old one first other second : List ℕ)
    → ((((((old ++ one) ++ codes " begins with") ++ first) ++ codes ", ") ++ other) ++ codes " with") ++ second
    ≡ old ++ (one ++ (codes " begins with" ++ (first ++ (codes ", " ++ (other ++ (codes " with" ++ second))))))
overlap_put old one first other second = simp append_assoc

pub sort_put : (old name text : List ℕ) → ((old ++ name) ++ codes " is declared as ") ++ text ≡ old ++ (name ++ (codes " is declared as " ++ text))
sort_put old name text = simp append_assoc

pub unknown_put : (old name text : List ℕ) → ((old ++ name) ++ codes " isn't declared") ++ text ≡ old ++ (name ++ (codes " isn't declared" ++ text))
unknown_put old name text = simp append_assoc
