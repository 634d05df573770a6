-- What comes next in a text.
use Rattle.std.specs.Prelude.{◌≡◌, ℕ, ◌+◌, ◌<◌, ◌≤◌, List, length, drop, Some, None}
use Rattle.anb_syntax.specs.Lexing.{gap_len, token_here}
use Rattle.anb_syntax.specs.Views.{tok_of}
use Rattle.anb_syntax.specs.declared.tokens.Next.{Next}
use Rattle.anb_syntax.specs.declared.tokens.Next.TheVariants as next

-- Behind the gap from this offset on stands this token, or the text ends, or no token begins.
abbrev pub IsNext : List ℕ → ℕ → Next → Type 0
IsNext x from (next.Token t) = (t.at ≡ from + gap_len (drop from x)) × (token_here (drop t.at x) ≡ Some ((tok_of x t).word, t.len))
IsNext x from next.End = from + gap_len (drop from x) ≡ length x
IsNext x from (next.Bad at) = (at ≡ from + gap_len (drop from x)) × (at < length x) × (token_here (drop at x) ≡ None)

-- the token isn't empty, and ends in the text
abbrev pub IsWithin : ℕ → Next → Type 0
IsWithin len (next.Token t) = (0 < t.len) × (t.at + t.len ≤ len)
IsWithin len next.End = Unit {0}
IsWithin len (next.Bad at) = Unit {0}
