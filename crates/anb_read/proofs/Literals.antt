-- The literal at an offset, and names as texts.
use Rattle.std.proofs.Common.{◌≡◌, ℕ, ◌+◌, List, [], drop, Option, Some, None, refl, sym, ap, ◌∙◌, arith}
use Rattle.anb_format.specs.Literals.{IsLiteralAt}
use Rattle.anb_syntax.specs.Words.{Word, name, literal, sign, end, bad}
use Rattle.anb_syntax.specs.Lexing.{token_here}
use Rattle.anb_syntax.proofs.LiteralTokens.{literal_read, literal_tokens}
use Rattle.anb_read.specs.Places.{literal_of, found, literal_here}

pub literal_is : (x bytes : List ℕ) (at n : ℕ) → IsLiteralAt x at bytes n → bytes ≡ literal_here (drop at x)
literal_is x bytes at n h = sym (ap (λ y. found (token_here y)) h.stands ∙ ap found (literal_read h.spelling bytes h.rest h.is))

further : (x bytes : List ℕ) (at n : ℕ) → IsLiteralAt (drop at x) 0 bytes n → IsLiteralAt x at bytes (at + n)
further x bytes at n h = record { spelling = h.spelling; is = h.is; rest = h.rest; stands = h.stands; ends = omega (arith, h.ends) }

by_word : (w : Word) → ((b : List ℕ) → w ≡ literal b → ⊥) → [] ≡ literal_of w
by_word (literal b) h = absurd (h b refl)
by_word (name b) h = refl
by_word (sign c) h = refl
by_word end h = refl
by_word bad h = refl

by_token : (o : Option (Word × ℕ)) → ((b : List ℕ) (n : ℕ) → o ≡ Some (literal b, n) → ⊥) → [] ≡ found o
by_token None h = refl
by_token (Some t) h = by_word t.0 (λ b e. h b t.1 (ap (λ w. Some (w, t.1)) e))

pub literal_none : (x : List ℕ) (at : ℕ) → ((bytes : List ℕ) (n : ℕ) → IsLiteralAt x at bytes n → ⊥) → [] ≡ literal_here (drop at x)
literal_none x at none = by_token (token_here (drop at x)) (λ b n e. none b (at + n) (further x b at n ((literal_tokens (drop at x) b n).0 e)))
