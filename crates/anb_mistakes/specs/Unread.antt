-- What is said of a text that is no narration.
use Rattle.std.specs.Prelude.{◌≡◌, ℕ, List, [], ◌++◌, take, drop, codes, Option, Some, None}
use Rattle.anb_syntax.specs.Lexing.{token_here}
use Rattle.anb_syntax.specs.Words.{Tok, Word, head}
use Rattle.anb_read.specs.Expected.{AreExpected}
use Rattle.anb_read.specs.Refusals.{offset}
use Rattle.anb_read.specs.declared.grammar.GrammarWord.{GrammarWord}
use Rattle.anb_read.specs.declared.refusal.ReadNo.{ReadNo}
use Rattle.anb_read.specs.declared.refusal.ReadNo.TheVariants.{Token, Grammar, Deep, NoMemory}
use Rattle.anb_mistakes.specs.Near.{section_text}
use Rattle.anb_mistakes.specs.Pointing.{pointed}
use Rattle.anb_mistakes.specs.Spots.{HasTokens, item_at}
use Rattle.anb_mistakes.specs.Words.{expected_text}

-- what isn't expected: the token at the front, or the end where none is there
abbrev pub unexpected : Option (Word × ℕ) → List ℕ → List ℕ
unexpected None x = codes "unexpected end"
unexpected (Some t) x = codes "unexpected `" ++ (take t.1 x ++ codes "`")

abbrev pub reason : List ℕ → ReadNo → List ℕ
reason x (Token at) = codes "no token begins here"
reason x (Grammar at) = unexpected (token_here (drop at x)) (drop at x)
reason x (Deep at) = codes "this term is at level 65"
reason x NoMemory = []

abbrev pub AreWords : List ℕ → ReadNo → List ℕ → Type 0
AreWords x why mend = (words : List GrammarWord) × AreExpected x why words × (mend ≡ expected_text words)

-- the words; and where the item at the place begins with a word that is near a section's name, that section
abbrev pub AreHints : List ℕ → (at : ℕ) → List ℕ → Type 0
AreHints x at mend =
    (words : List ℕ) × AreWords x (Grammar at) words × ((ts : List Tok) × HasTokens x ts
    × (mend ≡ words ++ section_text (head (item_at at ts))))

-- what would mend it: a word that is expected there, or a term of fewer levels
abbrev pub Mends : List ℕ → ReadNo → List ℕ → Type 0
Mends x (Token at) mend = AreWords x (Token at) mend
Mends x (Grammar at) mend = AreHints x at mend
Mends x (Deep at) mend = mend ≡ codes "a term has 64 levels at most"
Mends x NoMemory mend = ⊥

-- this is what is said of a refusal of the text x, which is in a file of this name
pub record IsUnreadText (name x : List ℕ) (why : ReadNo) (text : List ℕ) : Type 0 where
  pub mend : List ℕ
  pub mends : Mends x why mend
  pub is : text ≡ pointed name x (offset why) (reason x why) mend
