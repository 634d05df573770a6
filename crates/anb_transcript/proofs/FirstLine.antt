-- The first line of a text, by where its end stands.
use Rattle.std.proofs.Common.{◌≡◌, inl, inr, ◌==◌, ◌<◌, ◌≤◌, ◌+◌, not, ℕ, suc, Bool, true, false, cond, ltb, List, [], ◌∷◌, length, take, drop, Option, Some, None, refl, sym, ap, ◌∙◌, arith}
use Rattle.std.specs.List.{position_or_len, onto_first}
use Rattle.std.proofs.lemmas.Bool.{cases_lt, cond_below, cond_above, false≢true}
use Rattle.anb_transcript.specs.Texts.{lines_of}

-- where the first byte 0A stands, or the length
abbrev pub end_of : List ℕ → ℕ
end_of text = position_or_len (λ b. b == 10) text

first_step : (t : Bool) (b : ℕ) (bs : List ℕ) (n : ℕ) → (n < length bs → lines_of bs ≡ take n bs ∷ lines_of (drop (n + 1) bs)) → cond (not t) (1 + n) 0 < suc (length bs)
    → cond t ([] ∷ lines_of bs) (onto_first b (lines_of bs)) ≡ take (cond (not t) (1 + n) 0) (b ∷ bs) ∷ lines_of (drop (cond (not t) (1 + n) 0 + 1) (b ∷ bs))
first_step true b bs n first h = refl
first_step false b bs n first h =
    let at : 1 + n ≡ suc n = omega arith in
    let behind : suc n + 1 ≡ suc (n + 1) = omega arith in
    rw (at, behind) (ap (onto_first b) (first (omega arith)))

-- a line that is ended, and what stands behind it
pub ended : (text : List ℕ) → end_of text < length text
    → lines_of text ≡ take (end_of text) text ∷ lines_of (drop (end_of text + 1) text)
ended [] h = absurd (omega arith)
ended (b ∷ bs) h = first_step (b == 10) b bs (end_of bs) (ended bs) h

last_step : (t : Bool) (b : ℕ) (bs : List ℕ) (n : ℕ) → (length bs ≤ n → onto_first b (lines_of bs) ≡ (b ∷ bs) ∷ []) → suc (length bs) ≤ cond (not t) (1 + n) 0
    → cond t ([] ∷ lines_of bs) (onto_first b (lines_of bs)) ≡ (b ∷ bs) ∷ []
last_step true b bs n last h = absurd (omega arith)
last_step false b bs n last h = last (omega arith)

-- a text with no such byte is one line
pub unended : (b : ℕ) (bs : List ℕ) → length (b ∷ bs) ≤ end_of (b ∷ bs) → lines_of (b ∷ bs) ≡ (b ∷ bs) ∷ []
unended b [] h = last_step (b == 10) b [] 0 (λ _. refl) h
unended b (c ∷ cs) h = last_step (b == 10) b (c ∷ cs) (end_of (c ∷ cs)) (λ k. ap (onto_first b) (unended c cs k)) h

-- by what `position` answers
module _ (text : List ℕ) (r : Option ℕ) (is : r ≡ cond (ltb (end_of text) (length text)) (Some (end_of text)) None) where
  pub found : (n : ℕ) → r ≡ Some n → (n ≡ end_of text) × (end_of text < length text)
  found n some = elim (cases_lt (end_of text) (length text)) [
    | inl h ↦ let at = cond_below (end_of text) (length text) (Some (end_of text)) None h in let same : Some n ≡ Some (end_of text) = sym some ∙ is ∙ sym at in (cc, h)
    | inr h ↦ let none : None ≡ cond (ltb (end_of text) (length text)) (Some (end_of text)) None = cond_above _ _ _ None None h refl in cc
  ]

  pub not_found : r ≡ None → length text ≤ end_of text
  not_found none = elim (cases_lt (end_of text) (length text)) [
    | inl h ↦ let at = cond_below (end_of text) (length text) (Some (end_of text)) None h in cc
    | inr h ↦ h
  ]

pub whole : (text : List ℕ) → false ≡ (length text == 0) → length text ≤ end_of text → lines_of text ≡ text ∷ []
whole [] some h = absurd (false≢true some)
whole (b ∷ bs) some h = unended b bs h
