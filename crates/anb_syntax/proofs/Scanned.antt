-- Literals and signs, as they are scanned.
use Rattle.std.proofs.Common.{◌≡◌, ℕ, suc, ◌+◌, ◌-◌, ◌<◌, ◌≤◌, List, [], ◌∷◌, length, get_or, take, drop, Option, Some, None, refl, sym, ap, ◌∙◌, subst, arith, length-drop}
use Rattle.std.proofs.lemmas.List.{take_all, drop-drop}
use Rattle.anb_syntax.specs.Words.{literal}
use Rattle.anb_syntax.specs.Lexing.{characters_here, quoted, token_here}
use Rattle.anb_syntax.specs.Views.{meant}
use Rattle.anb_syntax.specs.Scanning.{token_of, len_of, characters_len, escaped_len, farther, closing}
use Rattle.anb_syntax.specs.declared.tokens.TokenKind.TheVariants as kinds
use Rattle.anb_syntax.proofs.Bytes.{next_byte}

farther_twice : (m n : ℕ) (o : Option ℕ) → farther m (farther n o) ≡ farther (m + n) o
farther_twice m n None = refl
farther_twice m n (Some k) = ap Some (omega arith)

pub none_farther : (o : Option ℕ) → o ≡ farther 0 o
none_farther None = refl
none_farther (Some k) = ap Some (omega arith)

-- a character that begins with `\`
pub behind_backslash : (x : List ℕ) (m : ℕ) → 1 ≤ length x → get_or x 0 0 ≡ 92 → 0 < m → m ≤ length (take (length x - 1) (drop 1 x))
    → escaped_len (take (length x - 1) (drop 1 x)) ≡ farther (1 + m) (characters_len (drop m (take (length x - 1) (drop 1 x))))
    → (0 < 1 + m) × (1 + m ≤ length x) × (characters_len x ≡ farther (1 + m) (characters_len (drop (1 + m) x)))
behind_backslash [] m some e pos within h = absurd (omega arith)
behind_backslash (b ∷ z) m some e pos within h =
    let all : take (length (b ∷ z) - 1) z ≡ z = take_all (length (b ∷ z) - 1) z (omega arith) in
    let first : b ≡ 92 = e in
    let P : List ℕ → Type 0 = λ y. escaped_len y ≡ farther (1 + m) (characters_len (drop m y)) in
    let k : escaped_len z ≡ farther (1 + m) (characters_len (drop m z)) = subst P all h in
    let size : length (take (length (b ∷ z) - 1) z) ≡ length z = ap length all in
    let on : drop (1 + m) (b ∷ z) ≡ drop m z = let one : 1 + m ≡ suc m = omega arith in ap (λ n. drop n (b ∷ z)) one in (
      omega arith,
      omega (arith, size, within),
      let start : characters_len (b ∷ z) ≡ escaped_len z = rw first refl in start ∙ k ∙ ap (λ y. farther (1 + m) (characters_len y)) (sym on),
    )

pub no_more : (x : List ℕ) → 1 ≤ length x → get_or x 0 0 ≡ 92 → escaped_len (take (length x - 1) (drop 1 x)) ≡ None → characters_len x ≡ closing x
no_more [] some e h = absurd (omega arith)
no_more (b ∷ z) some e h =
    let all : take (length (b ∷ z) - 1) z ≡ z = take_all (length (b ∷ z) - 1) z (omega arith) in
    let first : b ≡ 92 = e in
    rw first (ap escaped_len (sym all) ∙ h)

-- the bytes from a place on
pub from_place : (x : List ℕ) (i : ℕ) → take (length x - i) (drop i x) ≡ drop i x
from_place x i = take_all (length x - i) (drop i x) (omega (arith, length-drop i x))

-- one character more
pub goes_on : (x : List ℕ) (i n : ℕ) → characters_len x ≡ farther i (characters_len (drop i x))
    → characters_len (take (length x - i) (drop i x)) ≡ farther n (characters_len (drop n (take (length x - i) (drop i x))))
    → characters_len x ≡ farther (i + n) (characters_len (drop (i + n) x))
goes_on x i n h k =
    let P : List ℕ → Type 0 = λ y. characters_len y ≡ farther n (characters_len (drop n y)) in
    let on : characters_len (drop i x) ≡ farther n (characters_len (drop n (drop i x))) = subst P (from_place x i) k in
    h ∙ ap (farther i) on ∙ farther_twice i n (characters_len (drop n (drop i x))) ∙ ap (λ y. farther (i + n) (characters_len y)) (drop-drop n i x)

-- the literal ends where no character stands: at a quote, or it isn't closed
pub stops : (x : List ℕ) (i : ℕ) → characters_len x ≡ farther i (characters_len (drop i x)) → characters_len (take (length x - i) (drop i x)) ≡ closing (take (length x - i) (drop i x))
    → characters_len x ≡ farther i (closing (drop i x))
stops x i h k =
    let P : List ℕ → Type 0 = λ y. characters_len y ≡ closing y in
    h ∙ ap (farther i) (subst P (from_place x i) k)

token_quoted : (o : Option (List ℕ × ℕ)) (n : ℕ) → Some n ≡ len_of o → quoted o ≡ Some (literal (meant o), 1 + n)
token_quoted None n e = cc
token_quoted (Some r) n e = let s : n ≡ r.1 = cc in ap (λ k. Some (literal r.0, k)) (omega (arith, s))

none_quoted : (o : Option (List ℕ × ℕ)) → None ≡ len_of o → quoted o ≡ None
none_quoted None e = refl
none_quoted (Some r) e = cc

module _ (s : List ℕ) (i : ℕ) (lt : i < length s) (first : get_or s i 0 ≡ 34) where
  opens : drop i s ≡ 34 ∷ drop (i + 1) s
  opens = next_byte s i lt ∙ ap (λ b. b ∷ drop (i + 1) s) first

  -- a literal that is closed
  pub literal_token : (n : ℕ) → Some n ≡ characters_len (take (length s - (i + 1)) (drop (i + 1) s)) → Some (token_of kinds.Literal (1 + n) (drop i s)) ≡ token_here (drop i s)
  literal_token n e =
      let y = drop (i + 1) s in
      let here : token_here (34 ∷ y) ≡ Some (literal (meant (characters_here y)), 1 + n) = token_quoted (characters_here y) n (e ∙ ap characters_len (from_place s (i + 1))) in
      rw opens (sym here)

  -- and one that isn't
  pub no_literal : None ≡ characters_len (take (length s - (i + 1)) (drop (i + 1) s)) → None ≡ token_here (drop i s)
  no_literal e = rw opens (sym (none_quoted (characters_here (drop (i + 1) s)) (e ∙ ap characters_len (from_place s (i + 1)))))
