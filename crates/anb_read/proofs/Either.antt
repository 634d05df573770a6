-- Each text is a narration's, or is refused.
use Rattle.std.proofs.Common.{◌≡◌, ◌<◌, ◌⊎◌, ◌+◌, ℕ, zero, suc, List, [], ◌∷◌, length, drop, Bool, true, false, Option, Some, None, Result, Ok, Err, refl, inl, inr, cond, arith}
use Rattle.std.specs.Prelude.{◌==◌, ◌&&◌, take}
use Rattle.std.specs.List.{prefix_len}
use Rattle.std.proofs.lemmas.List.{length-drop}
use Rattle.anb_syntax.specs.Words.{Word, Tok, bad, end, is_letter, is_name_byte, name, sign}
use Rattle.anb_syntax.specs.Lexing.{Lexes, LexesHere, begins_with, characters_here, gap_len, is_sign, quoted, token_here}
use Rattle.anb_syntax.specs.Grammar.{Narration, Written, told}
use Rattle.anb_syntax.specs.Text.{Text}
use Rattle.anb_syntax.proofs.Names.{name_long}
use Rattle.anb_read.specs.declared.refusal.ReadNo.{ReadNo}
use Rattle.anb_read.specs.Laws.{EachIsEither}
use Rattle.anb_read.specs.Productions.{narration_at}
use Rattle.anb_read.specs.Refusals.{IsRefusal}
use Rattle.anb_read.proofs.Answering.{ok_found, refusal_of}

-- ---- each text has tokens

abbrev HasBytes : Option (Word × ℕ) → Type 0
HasBytes o = (t : Word × ℕ) → o ≡ Some t → 0 < t.1

either_has : (test : Bool) (this other : Option (Word × ℕ)) → (test ≡ true → HasBytes this) → HasBytes other → HasBytes (cond test this other)
either_has true this other one two = one refl
either_has false this other one two = two

quoted_has : (r : Option (List ℕ × ℕ)) → HasBytes (quoted r)
quoted_has None t e = cc
quoted_has (Some r) t e = let same : suc r.1 ≡ t.1 = cc in omega (arith, same)

given_has : (w : Word) (n : ℕ) → 0 < n → HasBytes (Some (w, n))
given_has w n some t e = let same : n ≡ t.1 = cc in omega (arith, same, some)

nothing_has : HasBytes None
nothing_has t e = cc

-- a token has bytes
token_has : (b : ℕ) (x : List ℕ) → HasBytes (token_here (b ∷ x))
token_has b x =
    either_has (is_letter b) (Some (name (take (prefix_len is_name_byte (b ∷ x)) (b ∷ x)), prefix_len is_name_byte (b ∷ x))) _ (λ letter. given_has _ _ (name_long b x letter))
    (either_has (b == 34) (quoted (characters_here x)) _ (λ _. quoted_has (characters_here x))
    (either_has (is_sign b) (Some (sign b, 1)) _ (λ _. given_has _ 1 (omega arith))
    (either_has (b == 45 && begins_with 62 x) (Some (sign 45, 2)) None (λ _. given_has _ 2 (omega arith)) nothing_has)))

some_bytes : (x : List ℕ) (t : Word × ℕ) → token_here x ≡ Some t → (0 < t.1) × (0 < length x)
some_bytes [] t e = cc
some_bytes (b ∷ x) t e = (token_has b x t e, omega arith)

-- a first token, before the others
first : (Others : List Tok → ℕ → Type 0) (x : List ℕ) (o : Option (Word × ℕ)) → ((t : Word × ℕ) → o ≡ Some t → (ts : List Tok) × Others ts t.1)
    → (w : Word) × (ts : List Tok) × LexesHere (Others ts) (ts ≡ []) x o w
first Others [] None next = (end, [], (refl, refl))
first Others (b ∷ x) None next = (bad, [], (refl, refl))
first Others [] (Some t) next = let r = next t refl in (t.0, r.0, (refl, r.1))
first Others (b ∷ x) (Some t) next = let r = next t refl in (t.0, r.0, (refl, r.1))

shorter : (n : ℕ) (x : List ℕ) (t : Word × ℕ) → length x < suc n → token_here (drop (gap_len x) x) ≡ Some t → length (drop t.1 (drop (gap_len x) x)) < n
shorter n x t h e =
    let some = some_bytes (drop (gap_len x) x) t e in
    let here = some.0 in
    let there = some.1 in
    omega (arith, h, here, there, length-drop t.1 (drop (gap_len x) x), length-drop (gap_len x) x)

lexes : (n at : ℕ) (x : List ℕ) → length x < n → (ts : List Tok) × Lexes at x ts
lexes zero at x h = absurd (omega (arith, h))
lexes (suc n) at x h =
    let y = drop (gap_len x) x in
    let r = first (λ ts k. Lexes (at + gap_len x + k) (drop k y) ts) y (token_here y) (λ t e. lexes n (at + gap_len x + t.1) (drop t.1 y) (shorter n x t h e)) in
    (record { word = r.0; at = at + gap_len x } ∷ r.1, (refl, r.2))

-- ---- and these are read, or refused

pub either : EachIsEither
either x = by (narration_at 64 (lexes (suc (length x)) 0 x (omega arith)).0) refl where
  by : (r : Result (Written × List Tok) ReadNo) → narration_at 64 (lexes (suc (length x)) 0 x (omega arith)).0 ≡ r → ((n : Narration) × Text n x) ⊎ ((why : ReadNo) × IsRefusal x why)
  by (Ok (w, rest)) e = let l = lexes (suc (length x)) 0 x (omega arith) in inl (told w, ok_found x l.0 l.1 w rest e)
  by (Err why) e = let l = lexes (suc (length x)) 0 x (omega arith) in inr (why, refusal_of x l.0 l.1 why e)
