-- Which narration a text is, and which beginnings of a text a narration can go on from.
use Rattle.std.specs.Prelude.{◌≡◌, ℕ, List, ◌∷◌, ◌++◌, length, true, Some, slice_get}
use Rattle.anb_syntax.specs.Words.{Word, Tok, Begins}
use Rattle.anb_syntax.specs.Lexing.{Lexes}
use Rattle.anb_syntax.specs.Grammar.{Narration, Written, told, IsNarration, fits, spell}
use Rattle.anb_syntax.specs.Levels.{levels}

-- The narration is written in the text: the text's tokens are its words up to the end, or up to goals,
-- and no term is too deep.
pub record Text (n : Narration) (x : List ℕ) : Type 0 where
  pub written : Written
  pub tells : told written ≡ n
  pub valid : IsNarration n
  pub fit : fits 64 n ≡ true
  pub tokens : List Tok
  pub lexes : Lexes 0 x tokens
  pub rest : List Tok
  pub begins : Begins tokens (spell written) rest

-- some narration, of whatever depth, begins with these words and then this one
pub record Continues (front : List Word) (x : Word) : Type 0 where
  pub written : Written
  pub valid : IsNarration (told written)
  pub more : List Word
  pub completes : spell written ≡ front ++ x ∷ more

-- some narration, of whatever depth, begins with these words
abbrev pub IsViable : List Word → Type 0
IsViable front = (x : Word) × Continues front x

-- some narration goes on with this word behind these, and there the word begins a term at the level
pub record BeginsTermAt (level : ℕ) (front : List Word) (x : Word) : Type 0 where
  pub continues : Continues front x
  pub stands : slice_get (levels continues.written) (length front) ≡ Some level
