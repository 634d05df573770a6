-- What the scanner of tokens finds.
use Rattle.std.specs.Prelude.{ℕ, ◌+◌, List, [], ◌∷◌, Option, Some, None, ◌==◌, if◌then◌else◌}
use Rattle.anb_syntax.specs.Words.{Word}
use Rattle.anb_syntax.specs.Lexing.{characters_here, escaped_here}
use Rattle.anb_syntax.specs.Views.{word_of}
use Rattle.anb_syntax.specs.declared.tokens.TokenKind.{TokenKind}

-- a token at the front of a text, and its length
abbrev pub token_of : TokenKind → ℕ → List ℕ → Word × ℕ
token_of k n x = (word_of k n x, n)

-- how many bytes are left of a literal, where it is closed
abbrev pub len_of : Option (List ℕ × ℕ) → Option ℕ
len_of None = None
len_of (Some r) = Some r.1

abbrev pub characters_len : List ℕ → Option ℕ
characters_len x = len_of (characters_here x)

abbrev pub escaped_len : List ℕ → Option ℕ
escaped_len x = len_of (escaped_here x)

-- so many bytes more
abbrev pub farther : ℕ → Option ℕ → Option ℕ
farther n None = None
farther n (Some m) = Some (n + m)

-- the closing quote
abbrev pub closing : List ℕ → Option ℕ
closing [] = None
closing (b ∷ x) = if b == 34 then Some 1 else None
