-- What holds of tokens and narrations whatever they are.
use Rattle.std.specs.Prelude.{◌≡◌, ◌↔◌, ℕ, List, Some}
use Rattle.anb_format.specs.Literals.{IsLiteralAt}
use Rattle.anb_syntax.specs.Words.{Tok, literal}
use Rattle.anb_syntax.specs.Lexing.{token_here, Lexes}
use Rattle.anb_syntax.specs.Grammar.{Narration, IsSpellable}
use Rattle.anb_syntax.specs.Text.{Text}
use Rattle.anb_syntax.specs.Canon.{canon}

-- a token that is a literal of some bytes begins exactly where a literal of these bytes does
abbrev pub LiteralsAreTokens : Type 0
LiteralsAreTokens = (x bytes : List ℕ) (n : ℕ) → (token_here x ≡ Some (literal bytes, n)) ↔ IsLiteralAt x 0 bytes n

-- a text has one list of tokens
abbrev pub TokensAreUnique : Type 0
TokensAreUnique = (x : List ℕ) (ts us : List Tok) → Lexes 0 x ts → Lexes 0 x us → ts ≡ us

-- a narration is written in its canonical text
abbrev pub CanonicalIsText : Type 0
CanonicalIsText = (n : Narration) → IsSpellable n → Text n (canon n)
