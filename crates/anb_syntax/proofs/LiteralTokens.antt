-- Literals are tokens.
use Rattle.std.proofs.Common.{◌≡◌, ℕ, suc, ◌+◌, ◌*◌, List, [], ◌∷◌, ◌++◌, length, map, true, false, Option, Some, None, IsSome, unwrap_or, nat_le, refl, sym, ap, ◌∙◌, arith, append_assoc, length-append, Bool, cond, inl, inr, subst}
use Rattle.std.specs.Prelude.{◌==◌, ◌&&◌, ◌||◌}
use Rattle.std.proofs.lemmas.Bool.{eqb-true}
use Rattle.std.proofs.lemmas.Bool.Decides.{nat_tests}
use Rattle.std.specs.List.{AllByRecursion, flat_map}
use Rattle.std.proofs.lemmas.Option.{same_Some, none-some}
use Rattle.anb_lemmas.proofs.Options.{side_taken}
use Rattle.hex.specs.Hex.{hex_digit_value}
use Rattle.anb_format.specs.Literals.{Character, Plain, Quote, Backslash, Hexadecimal, IsAllowed, IsLiteral, IsLiteralAt, byte_of, spelling_of}
use Rattle.anb_syntax.specs.Words.{Word, name, literal, sign, is_letter}
use Rattle.anb_syntax.specs.Lexing.{characters_here, escaped_here, digits_here, digits_before, before, quoted, is_sign, begins_with, token_here}
use Rattle.anb_syntax.specs.Laws.{LiteralsAreTokens}

-- how many bytes characters take
abbrev size_of : List Character → ℕ
size_of cs = length (flat_map spelling_of cs)

digits : (high low : Option ℕ) (o : Option (List ℕ × ℕ)) (r : List ℕ × ℕ) → IsSome high → IsSome low → o ≡ Some r → digits_before high low o ≡ Some ((unwrap_or high 0 * 16 + unwrap_or low 0) ∷ r.0, 4 + r.1)
digits None low o r i j e = cc
digits (Some h) None o r i j e = cc
digits (Some h) (Some l) o r i j e = rw e refl

plain_tests : (b : ℕ) → IsAllowed (Plain b) → ((b == 34) ≡ false) × ((b == 92) ≡ false) × ((nat_le 0x20 b && nat_le b 0x7e) ≡ true)
plain_tests b a = let low = a.0 in let high = a.1 in let quote = a.2 in let backslash = a.3 in (grind (arith, nat_tests), grind (arith, nat_tests), grind (arith, nat_tests))

plain_on : (b : ℕ) (z : List ℕ) → IsAllowed (Plain b) → characters_here (b ∷ z) ≡ before b 1 (characters_here z)
plain_on b z a = let k = plain_tests b a in rw (k.0, k.1, k.2) refl

before_some : (b n : ℕ) (o : Option (List ℕ × ℕ)) (r : List ℕ × ℕ) → o ≡ Some r → before b n o ≡ Some (b ∷ r.0, n + r.1)
before_some b n o r e = rw e refl

-- one character before others
one_read : (c : Character) (z : List ℕ) (r : List ℕ × ℕ) → IsAllowed c → characters_here z ≡ Some r → characters_here (spelling_of c ++ z) ≡ Some (byte_of c ∷ r.0, length (spelling_of c) + r.1)
one_read (Plain b) z r a e = plain_on b z a ∙ before_some b 1 (characters_here z) r e
one_read Quote z r a e = before_some 34 2 (characters_here z) r e
one_read Backslash z r a e = before_some 92 2 (characters_here z) r e
one_read (Hexadecimal h l) z r a e = digits (hex_digit_value h) (hex_digit_value l) (characters_here z) r a.0 a.1 e

pub all_read : (cs : List Character) (rest : List ℕ) → AllByRecursion IsAllowed cs → characters_here (flat_map spelling_of cs ++ 34 ∷ rest) ≡ Some (map byte_of cs, size_of cs + 1)
all_read [] rest a = refl
all_read (c ∷ cs) rest a =
    let others = flat_map spelling_of cs in
    let one = one_read c (others ++ 34 ∷ rest) (map byte_of cs, size_of cs + 1) a.0 (all_read cs rest a.1) in
    let size : length (spelling_of c) + (size_of cs + 1) ≡ length (spelling_of c ++ others) + 1 = omega (arith, length-append (spelling_of c) others) in
    ap characters_here (append_assoc (spelling_of c) others (34 ∷ rest)) ∙ one ∙ ap (λ n. Some (byte_of c ∷ map byte_of cs, n)) size

-- a literal at the front is a token
pub literal_read : (x bytes rest : List ℕ) → IsLiteral x bytes → token_here (x ++ rest) ≡ Some (literal bytes, length x)
literal_read x bytes rest h =
    let inner = flat_map spelling_of h.characters in
    let whole : x ++ rest ≡ 34 ∷ (inner ++ 34 ∷ rest) = ap (λ (t : List ℕ). t ++ rest) h.spelled ∙ ap (λ (t : List ℕ). 34 ∷ t) (append_assoc inner (34 ∷ []) rest) in
    let size : suc (size_of h.characters + 1) ≡ length x = omega (arith, ap length h.spelled, length-append inner (34 ∷ [])) in
    ap token_here whole ∙ ap quoted (all_read h.characters rest h.allowed) ∙ ap (λ n. Some (literal (map byte_of h.characters), n)) size ∙ ap (λ b. Some (literal b, length x)) (sym h.means)

-- what was read: characters, a quote, and what follows
record Read (text bytes : List ℕ) (n : ℕ) : Type 0 where
  characters : List Character
  allowed : AllByRecursion IsAllowed characters
  rest : List ℕ
  stands : text ≡ flat_map spelling_of characters ++ 34 ∷ rest
  means : bytes ≡ map byte_of characters
  size : n ≡ size_of characters + 1

one_more : (c : Character) (text bytes : List ℕ) (n : ℕ) → IsAllowed c → Read text bytes n → Read (spelling_of c ++ text) (byte_of c ∷ bytes) (length (spelling_of c) + n)
one_more c text bytes n a r = record {
  characters = c ∷ r.characters;
  allowed = (a, r.allowed);
  rest = r.rest;
  stands = ap (λ (t : List ℕ). spelling_of c ++ t) r.stands ∙ sym (append_assoc (spelling_of c) (flat_map spelling_of r.characters) (34 ∷ r.rest));
  means = ap (λ (t : List ℕ). byte_of c ∷ t) r.means;
  size = omega (arith, r.size, length-append (spelling_of c) (flat_map spelling_of r.characters));
}

before_of : (b n : ℕ) (o : Option (List ℕ × ℕ)) (bytes : List ℕ) (m : ℕ) → before b n o ≡ Some (bytes, m) → (s : List ℕ × ℕ) × (o ≡ Some s) × (b ∷ s.0 ≡ bytes) × (n + s.1 ≡ m)
before_of b n None bytes m e = cc
before_of b n (Some s) bytes m e = let f = same_Some (b ∷ s.0, n + s.1) (bytes, m) e in (s, refl, ap (λ (v : List ℕ × ℕ). v.0) f, ap (λ (v : List ℕ × ℕ). v.1) f)

digits_of : (high low : Option ℕ) (o : Option (List ℕ × ℕ)) (bytes : List ℕ) (m : ℕ) → digits_before high low o ≡ Some (bytes, m)
    → IsSome high × IsSome low × (before (unwrap_or high 0 * 16 + unwrap_or low 0) 4 o ≡ Some (bytes, m))
digits_of None low o bytes m e = cc
digits_of (Some h) None o bytes m e = cc
digits_of (Some h) (Some l) o bytes m e = (refl, refl, e)

plain_allowed : (b : ℕ) → (b == 34) ≡ false → (b == 92) ≡ false → (nat_le 0x20 b && nat_le b 0x7e) ≡ true → IsAllowed (Plain b)
plain_allowed b e f g = (grind (arith, nat_tests), grind (arith, nat_tests), grind (arith, nat_tests), grind (arith, nat_tests))

no_literal_name : (b c : List ℕ) → name b ≡ literal c → ⊥
no_literal_name b c e = cc

no_literal_sign : (b : ℕ) (c : List ℕ) → sign b ≡ literal c → ⊥
no_literal_sign b c e = cc

or_cond : (a b : Bool) → (a || b) ≡ true → cond a true b ≡ true
or_cond true b e = refl
or_cond false b e = e

-- a character before what was read
one_found : (c : Character) (text bytes : List ℕ) (n : ℕ) (s : List ℕ × ℕ) → IsAllowed c → Read text s.0 s.1 → byte_of c ∷ s.0 ≡ bytes → length (spelling_of c) + s.1 ≡ n → Read (spelling_of c ++ text) bytes n
one_found c text bytes n s a r e f =
    let P : ℕ → Type 0 = λ m. Read (spelling_of c ++ text) (byte_of c ∷ s.0) m in
    let Q : List ℕ → Type 0 = λ bs. Read (spelling_of c ++ text) bs n in
    subst Q e (subst P f (one_more c text s.0 s.1 a r))

mutual
  read_characters : (y bytes : List ℕ) (n : ℕ) → characters_here y ≡ Some (bytes, n) → Read y bytes n
  read_characters [] bytes n e = cc
  read_characters (b ∷ x) bytes n e =
      elim (side_taken (b == 34) _ _ _ e) [
        | inl closed ↦
            let first : b ≡ 34 = eqb-true b 34 closed.0 in
            let f = same_Some {A = List ℕ × ℕ} ([], 1) (bytes, n) closed.1 in
            record { characters = []; allowed = tt; rest = x; stands = ap (λ c. c ∷ x) first; means = sym (ap (λ (v : List ℕ × ℕ). v.0) f); size = sym (ap (λ (v : List ℕ × ℕ). v.1) f) }
        | inr open_on ↦
            elim (side_taken (b == 92) _ _ _ open_on.1) [
              | inl escape ↦ let first : b ≡ 92 = eqb-true b 92 escape.0 in subst (λ c. Read (c ∷ x) bytes n) (sym first) (read_escaped x bytes n escape.1)
              | inr no_escape ↦
                  elim (side_taken (nat_le 0x20 b && nat_le b 0x7e) _ _ _ no_escape.1) [
                    | inl shown ↦
                        let s = before_of b 1 (characters_here x) bytes n shown.1 in
                        one_found (Plain b) x bytes n s.0 (plain_allowed b open_on.0 no_escape.0 shown.0) (read_characters x s.0.0 s.0.1 s.1) s.2 s.3
                    | inr hidden ↦ absurd (none-some (bytes, n) hidden.1)
                  ]
            ]
      ]

  read_escaped : (y bytes : List ℕ) (n : ℕ) → escaped_here y ≡ Some (bytes, n) → Read (92 ∷ y) bytes n
  read_escaped [] bytes n e = cc
  read_escaped (b ∷ x) bytes n e =
      elim (side_taken (b == 34 || b == 92) _ _ _ e) [
        | inl itself ↦
            let s = before_of b 2 (characters_here x) bytes n itself.1 in
            let r = read_characters x s.0.0 s.0.1 s.1 in
            elim (side_taken (b == 34) true (b == 92) true (or_cond (b == 34) (b == 92) itself.0)) [
              | inl quote ↦ let first : b ≡ 34 = eqb-true b 34 quote.0 in
                  subst (λ c. Read (92 ∷ c ∷ x) bytes n) (sym first) (one_found Quote x bytes n s.0 tt r (ap (λ c. c ∷ s.0.0) (sym first) ∙ s.2) s.3)
              | inr backslash ↦ let first : b ≡ 92 = eqb-true b 92 backslash.1 in
                  subst (λ c. Read (92 ∷ c ∷ x) bytes n) (sym first) (one_found Backslash x bytes n s.0 tt r (ap (λ c. c ∷ s.0.0) (sym first) ∙ s.2) s.3)
            ]
        | inr other ↦
            elim (side_taken (b == 120) _ _ _ other.1) [
              | inl hex ↦ let first : b ≡ 120 = eqb-true b 120 hex.0 in subst (λ c. Read (92 ∷ c ∷ x) bytes n) (sym first) (read_digits x bytes n hex.1)
              | inr none ↦ absurd (none-some (bytes, n) none.1)
            ]
      ]

  read_digits : (y bytes : List ℕ) (n : ℕ) → digits_here y ≡ Some (bytes, n) → Read (92 ∷ 120 ∷ y) bytes n
  read_digits [] bytes n e = cc
  read_digits (h ∷ []) bytes n e = cc
  read_digits (h ∷ l ∷ x) bytes n e =
      let d = digits_of (hex_digit_value h) (hex_digit_value l) (characters_here x) bytes n e in
      let s = before_of (unwrap_or (hex_digit_value h) 0 * 16 + unwrap_or (hex_digit_value l) 0) 4 (characters_here x) bytes n d.2 in
      one_found (Hexadecimal h l) x bytes n s.0 (d.0, d.1) (read_characters x s.0.0 s.0.1 s.1) s.2 s.3

quoted_of : (o : Option (List ℕ × ℕ)) (bytes : List ℕ) (n : ℕ) → quoted o ≡ Some (literal bytes, n) → (m : ℕ) × (o ≡ Some (bytes, m)) × (suc m ≡ n)
quoted_of None bytes n e = cc
quoted_of (Some r) bytes n e =
    let f = same_Some (literal r.0, suc r.1) (literal bytes, n) e in
    let g : literal r.0 ≡ literal bytes = ap (λ (v : Word × ℕ). v.0) f in
    let same : r.0 ≡ bytes = cc in
    (r.1, ap (λ (b : List ℕ). Some (b, r.1)) same, ap (λ (v : Word × ℕ). v.1) f)

word_is : (w v : Word) (k n : ℕ) → ◌≡◌ {A = Option (Word × ℕ)} (Some (w, k)) (Some (v, n)) → w ≡ v
word_is w v k n e = ap (λ (p : Word × ℕ). p.0) (same_Some (w, k) (v, n) e)

-- a literal token is a literal
literal_found : (x bytes : List ℕ) (n : ℕ) → token_here x ≡ Some (literal bytes, n) → IsLiteralAt x 0 bytes n
literal_found [] bytes n e = cc
literal_found (b ∷ x) bytes n e =
    elim (side_taken (is_letter b) _ _ _ e) [
      | inl letter ↦ let f = word_is _ _ _ _ letter.1 in absurd (no_literal_name _ bytes f)
      | inr other ↦
          elim (side_taken (b == 34) _ _ _ other.1) [
            | inl quote ↦
                let first : b ≡ 34 = eqb-true b 34 quote.0 in
                let q = quoted_of (characters_here x) bytes n quote.1 in
                let r = read_characters x bytes q.0 q.1 in
                let inner = flat_map spelling_of r.characters in
                record {
                  spelling = 34 ∷ inner ++ 34 ∷ [];
                  is = record { characters = r.characters; allowed = r.allowed; spelled = refl; means = r.means };
                  rest = r.rest;
                  stands = ap (λ c. c ∷ x) first ∙ ap (λ (t : List ℕ). 34 ∷ t) (r.stands ∙ sym (append_assoc inner (34 ∷ []) r.rest));
                  ends = omega (arith, r.size, q.2, length-append inner (34 ∷ []));
                }
            | inr none ↦
                elim (side_taken (is_sign b) _ _ _ none.1) [
                  | inl signed ↦ let f = word_is _ _ _ _ signed.1 in absurd (no_literal_sign _ bytes f)
                  | inr no_sign ↦
                      elim (side_taken (b == 45 && begins_with 62 x) _ _ _ no_sign.1) [
                        | inl arrow ↦ let f = word_is _ _ _ _ arrow.1 in absurd (no_literal_sign _ bytes f)
                        | inr nothing ↦ absurd (none-some (literal bytes, n) nothing.1)
                      ]
                ]
          ]
    ]

literal_at : (x bytes : List ℕ) (n : ℕ) → IsLiteralAt x 0 bytes n → token_here x ≡ Some (literal bytes, n)
literal_at x bytes n h = let size : length h.spelling ≡ n = omega (arith, h.ends) in ap token_here h.stands ∙ literal_read h.spelling bytes h.rest h.is ∙ ap (λ k. Some (literal bytes, k)) size

pub literal_tokens : LiteralsAreTokens
literal_tokens x bytes n = (literal_found x bytes n, literal_at x bytes n)
