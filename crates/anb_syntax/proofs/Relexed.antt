-- Words that are laid out with blanks between them are lexed to themselves.
use Rattle.std.proofs.Common.{◌≡◌, ℕ, suc, ◌+◌, List, [], ◌∷◌, ◌++◌, length, take, drop, Bool, true, false, Option, Some, None, refl, sym, ap, ◌∙◌, subst, inl, inr, ◌⊎◌, arith, append_assoc, cond}
use Rattle.std.specs.Prelude.{◌==◌, ◌||◌, not}
use Rattle.std.proofs.lemmas.Bool.{eqb-true, and_parts}
use Rattle.std.proofs.lemmas.List.{append-nil}
use Rattle.std.specs.List.{flat_map, list_all, prefix_len}
use Rattle.anb_lemmas.proofs.Options.{side_taken}
use Rattle.anb_base.specs.Bytes.{IsBytes}
use Rattle.anb_format.specs.Literals.{canonical_literal}
use Rattle.anb_format.proofs.Canonical.{canonical}
use Rattle.anb_syntax.specs.Words.{Word, name, literal, sign, end, bad, Tok, is_letter, is_name_byte, is_spelled}
use Rattle.anb_syntax.specs.Lexing.{is_blank, is_sign, gap_len, token_here, Lexes, LexesHere}
use Rattle.anb_syntax.specs.Canon.{Laid, word_bytes, laid_bytes}
use Rattle.anb_syntax.proofs.LiteralTokens.{literal_read}
use Rattle.anb_syntax.proofs.Names.{letter_is}

abbrev pub IsNameWord : Word → Bool
IsNameWord (name b) = true
IsNameWord (literal b) = false
IsNameWord (sign c) = false
IsNameWord end = false
IsNameWord bad = false

-- a word that its bytes give again
abbrev pub IsProper : Word → Type 0
IsProper (name b) = is_spelled b ≡ true
IsProper (literal b) = IsBytes b
IsProper (sign c) = (c ≡ 45) ⊎ ((is_sign c ≡ true) × (is_letter c ≡ false) × (is_blank c ≡ false) × ((c == 35) ≡ false) × ((c == 45) ≡ false) × (is_name_byte c ≡ false) × ((c == 34) ≡ false))
IsProper end = ⊥
IsProper bad = ⊥

abbrev pub is_none : List ℕ → Bool
is_none [] = true
is_none (b ∷ x) = false

-- two names don't touch
abbrev pub apart : Word → Laid → Bool
apart w p = not (IsNameWord w) || not (IsNameWord p.word) || not (is_none p.gap)

abbrev pub IsSpaced : List Laid → Type 0
IsSpaced [] = ⊥
IsSpaced (p ∷ []) = (list_all is_blank p.gap ≡ true) × (p.word ≡ end)
IsSpaced (p ∷ q ∷ ps) = (list_all is_blank p.gap ≡ true) × IsProper p.word × (apart p.word q ≡ true) × (list_all is_blank q.gap ≡ true) × IsSpaced (q ∷ ps)

abbrev pub bytes : List Laid → List ℕ
bytes ps = flat_map laid_bytes ps

abbrev pub toks_from : ℕ → List Laid → List Tok
toks_from at [] = []
toks_from at (p ∷ ps) = record { word = p.word; at = at + length p.gap } ∷ toks_from (at + length p.gap + length (word_bytes p.word)) ps

gap_of : (g y : List ℕ) → list_all is_blank g ≡ true → gap_len y ≡ 0 → gap_len (g ++ y) ≡ length g
gap_of [] y b e = e
gap_of (c ∷ g) y b e = let k = and_parts (is_blank c) (list_all is_blank g) b in rw k.0 (ap suc (gap_of g y k.1 e))

whole : (b : Bool) → cond b true false ≡ b
whole true = refl
whole false = refl

other_byte : (T : ℕ → Bool) (c k : ℕ) → T c ≡ true → T k ≡ false → (c == k) ≡ false
other_byte T c k t f = elim (side_taken (c == k) true false (c == k) (whole (c == k))) [ inl h ↦ let s : c ≡ k = eqb-true c k h.0 in cc (t, f, ap T s) | inr h ↦ h.0 ]

letter_not_blank : (c : ℕ) → is_letter c ≡ true → is_blank c ≡ false
letter_not_blank c t = rw (other_byte is_letter c 32 t refl, other_byte is_letter c 9 t refl, other_byte is_letter c 10 t refl, other_byte is_letter c 13 t refl) refl

-- a proper word begins where it begins
no_gap : (w : Word) (z : List ℕ) → IsProper w → gap_len (word_bytes w ++ z) ≡ 0
no_gap (name []) z h = cc
no_gap (name (c ∷ x)) z h =
    let k = and_parts (is_letter c) (list_all is_name_byte x) h in
    rw (letter_not_blank c k.0, other_byte is_letter c 35 k.0 refl) refl
no_gap (literal b) z h = refl
no_gap (sign c) z (inl e) = rw e refl
no_gap (sign c) z (inr h) = rw (h.4, h.2, h.3) refl
no_gap end z h = absurd h
no_gap bad z h = absurd h

name_len : (b z : List ℕ) → list_all is_name_byte b ≡ true → prefix_len is_name_byte z ≡ 0 → prefix_len is_name_byte (b ++ z) ≡ length b
name_len [] z h e = e
name_len (c ∷ b) z h e = let k = and_parts (is_name_byte c) (list_all is_name_byte b) h in rw (k.0, name_len b z k.1 e) (omega arith)

take_front : (b z : List ℕ) → take (length b) (b ++ z) ≡ b
take_front [] z = refl
take_front (c ∷ b) z = ap (λ (x : List ℕ). c ∷ x) (take_front b z)

drop_front : (b z : List ℕ) → drop (length b) (b ++ z) ≡ z
drop_front [] z = refl
drop_front (c ∷ b) z = drop_front b z

name_here : (c : ℕ) (y : List ℕ) (n : ℕ) → is_letter c ≡ true → prefix_len is_name_byte (c ∷ y) ≡ n → token_here (c ∷ y) ≡ Some (name (take n (c ∷ y)), n)
name_here c y n t e =
    let g : prefix_len is_name_byte (c ∷ y) ≡ 1 + prefix_len is_name_byte y = rw t refl in
    rw t (ap (λ k. Some (name (take k (c ∷ y)), k)) (sym g ∙ e))

-- its bytes give it again, if no name goes on behind a name
again_here : (w : Word) (z : List ℕ) → IsProper w → (IsNameWord w ≡ true → prefix_len is_name_byte z ≡ 0) → token_here (word_bytes w ++ z) ≡ Some (w, length (word_bytes w))
again_here (name []) z h e = cc
again_here (name (c ∷ x)) z h e =
    let k = and_parts (is_letter c) (list_all is_name_byte x) h in
    let all : list_all is_name_byte (c ∷ x) ≡ true = rw (letter_is c k.0) k.1 in
    name_here c (x ++ z) (length (c ∷ x)) k.0 (name_len (c ∷ x) z all (e refl)) ∙ ap (λ b. Some (name b, length (c ∷ x))) (take_front (c ∷ x) z)
again_here (literal b) z h e = literal_read (canonical_literal b) b z (canonical b h)
again_here (sign c) z (inl i) e = rw i refl
again_here (sign c) z (inr h) e = rw (h.4, h.1, h.6, h.0) refl
again_here end z h e = absurd h
again_here bad z h e = absurd h

pub here_some : (Others : ℕ → Type 0) (last : Type 0) (x : List ℕ) (o : Option (Word × ℕ)) (w : Word) (t : Word × ℕ) → o ≡ Some t → w ≡ t.0 → Others t.1 → LexesHere Others last x o w
here_some Others last [] None w t e h k = cc
here_some Others last (b ∷ x) None w t e h k = cc
here_some Others last [] (Some u) w t e h k = let s : t ≡ u = cc in (h ∙ ap (λ (v : Word × ℕ). v.0) s, subst (λ (v : Word × ℕ). Others v.1) s k)
here_some Others last (b ∷ x) (Some u) w t e h k = let s : t ≡ u = cc in (h ∙ ap (λ (v : Word × ℕ). v.0) s, subst (λ (v : Word × ℕ). Others v.1) s k)

-- a word, and the tokens behind it
lexes_word : (at : ℕ) (x g y : List ℕ) (w : Word) (n : ℕ) (z : List ℕ) (ts : List Tok) → x ≡ g ++ y → gap_len x ≡ length g → token_here y ≡ Some (w, n) → drop n y ≡ z → Lexes (at + length g + n) z ts
    → Lexes at x (record { word = w; at = at + length g } ∷ ts)
lexes_word at x g y w n z ts e gap here rest h =
    let v = drop (gap_len x) x in
    let same : v ≡ y = ap (λ k. drop k x) gap ∙ ap (drop (length g)) e ∙ drop_front g y in
    let P : ℕ → Type 0 = λ k. Lexes (at + k + n) (drop n v) ts in
    let Q : List ℕ → Type 0 = λ u. Lexes (at + length g + n) u ts in (
      ap (λ k. at + k) (sym gap),
      here_some (λ k. Lexes (at + gap_len x + k) (drop k v) ts) (ts ≡ []) v (token_here v) w (w, n) (ap token_here same ∙ here) refl
          (subst P (sym gap) (subst Q (sym (ap (drop n) same ∙ rest)) h)),
    )

pub here_end : (Others : ℕ → Type 0) (last : Type 0) (x : List ℕ) (w : Word) → x ≡ [] → w ≡ end → last → LexesHere Others last x (token_here x) w
here_end Others last [] w e h k = (h, k)
here_end Others last (b ∷ x) w e h k = cc

blank_no_name : (c : ℕ) → is_blank c ≡ true → is_name_byte c ≡ false
blank_no_name c t = elim (side_taken (is_name_byte c) true false (is_name_byte c) (whole (is_name_byte c))) [
  | inl h ↦ let n : is_blank c ≡ false = rw (other_byte is_name_byte c 32 h.0 refl, other_byte is_name_byte c 9 h.0 refl, other_byte is_name_byte c 10 h.0 refl, other_byte is_name_byte c 13 h.0 refl) refl in cc (t, n)
  | inr h ↦ h.0
]

name_stops : (g : List ℕ) (v : Word) (z : List ℕ) → list_all is_blank g ≡ true → (not (IsNameWord v) || not (is_none g)) ≡ true → IsProper v ⊎ ((v ≡ end) × (z ≡ [])) → prefix_len is_name_byte ((g ++ word_bytes v) ++ z) ≡ 0
name_stops (c ∷ g) v z b e h = let k = and_parts (is_blank c) (list_all is_blank g) b in rw (blank_no_name c k.0) refl
name_stops [] (name n) z b e h = cc
name_stops [] (literal n) z b e h = refl
name_stops [] (sign c) z b e (inl (inl i)) = rw i refl
name_stops [] (sign c) z b e (inl (inr i)) = rw (i.4, i.5) refl
name_stops [] (sign c) z b e (inr i) = cc (i.0)
name_stops [] end z b e (inl i) = absurd i
name_stops [] end z b e (inr i) = rw i.1 refl
name_stops [] bad z b e (inl i) = absurd i
name_stops [] bad z b e (inr i) = cc (i.0)

pub kind_first : (q : Laid) (ps : List Laid) → IsSpaced (q ∷ ps) → (list_all is_blank q.gap ≡ true) × (IsProper q.word ⊎ ((q.word ≡ end) × (bytes ps ≡ [])))
kind_first q [] h = (h.0, inr (h.1, refl))
kind_first q (r ∷ ps) h = (h.0, inl h.1)

apart_name : (w : Word) (q : Laid) → IsNameWord w ≡ true → apart w q ≡ true → (not (IsNameWord q.word) || not (is_none q.gap)) ≡ true
apart_name w q h e = rw h at e

pub lexed : (ps : List Laid) (at : ℕ) → IsSpaced ps → Lexes at (bytes ps) (toks_from at ps)
lexed [] at h = absurd h
lexed (p ∷ []) at h =
    let x = bytes (p ∷ []) in
    let e : x ≡ p.gap ++ [] = ap (λ w. (p.gap ++ word_bytes w) ++ []) h.1 ∙ append-nil (p.gap ++ []) in
    let gap : gap_len x ≡ length p.gap = ap gap_len e ∙ gap_of p.gap [] h.0 refl in
    let none : drop (gap_len x) x ≡ [] = ap (λ k. drop k x) gap ∙ ap (drop (length p.gap)) e ∙ drop_front p.gap [] in
    (ap (λ k. at + k) (sym gap), here_end (λ n. Lexes (at + gap_len x + n) (drop n (drop (gap_len x) x)) []) ([] ≡ []) (drop (gap_len x) x) p.word none h.1 refl)
lexed (p ∷ q ∷ ps) at h =
    let z = bytes (q ∷ ps) in
    let k = kind_first q ps h.4 in
    let e : bytes (p ∷ q ∷ ps) ≡ p.gap ++ (word_bytes p.word ++ z) = append_assoc p.gap (word_bytes p.word) z in
    lexes_word at (bytes (p ∷ q ∷ ps)) p.gap (word_bytes p.word ++ z) p.word (length (word_bytes p.word)) z (toks_from (at + length p.gap + length (word_bytes p.word)) (q ∷ ps))
    e (ap gap_len e ∙ gap_of p.gap (word_bytes p.word ++ z) h.0 (no_gap p.word z h.1))
    (again_here p.word z h.1 (λ i. name_stops q.gap q.word (bytes ps) k.0 (apart_name p.word q i h.2) k.1))
    (drop_front (word_bytes p.word) z)
    (lexed (q ∷ ps) (at + length p.gap + length (word_bytes p.word)) h.4)
