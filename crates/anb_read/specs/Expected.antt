-- The words of the grammar, and those of them with which a text could have gone on where it is refused.
use Rattle.std.specs.Prelude.{◌≡◌, ◌⊎◌, ℕ, List, [], ◌∷◌, Bool, true, false, codes}
use Rattle.anb_base.specs.declared.content.Suite.TheVariants as suite
use Rattle.anb_format.specs.declared.pieces.FieldKind.TheVariants as kind
use Rattle.anb_syntax.specs.declared.narration.Sort.TheVariants as sort
use Rattle.anb_syntax.specs.Lexing.{Lexes}
use Rattle.anb_syntax.specs.Text.{Continues}
use Rattle.anb_syntax.specs.Words as spec
use Rattle.anb_syntax.specs.Words.{Word, name, Tok, Begins}
use Rattle.anb_read.specs.Refusals.{offset}
use Rattle.anb_read.specs.declared.grammar.GrammarWord.{GrammarWord}
use Rattle.anb_read.specs.declared.grammar.GrammarWord.TheVariants as words
use Rattle.anb_read.specs.declared.refusal.ReadNo.{ReadNo}

-- The word. Names are alike to the grammar, and so are literals, so `x` stands for the names, and the
-- literal without bytes for the literals.
abbrev pub word_of : GrammarWord → Word
word_of words.Protocol = name spec.protocol_word
word_of words.Suite = name spec.suite_word
word_of words.Sha256 = name (spec.hash_name suite.One)
word_of words.Sha512 = name (spec.hash_name suite.Two)
word_of words.Agent = name (spec.sort_word sort.Agent)
word_of words.Number = name (spec.sort_word sort.Number)
word_of words.Key = name (spec.sort_word sort.Key)
word_of words.Name = name (codes "x")
word_of words.Hash = name spec.hash_word
word_of words.Mac = name spec.mac_word
word_of words.Seal = name spec.seal_word
word_of words.Wrap = name spec.wrap_word
word_of words.Literal = spec.literal []
word_of words.Len = name (spec.kind_word kind.Len)
word_of words.Net = name (spec.kind_word kind.Net)
word_of words.Hex = name (spec.kind_word kind.Hex)
word_of words.Rest = name (spec.kind_word kind.Rest)
word_of words.Colon = spec.colon
word_of words.Equals = spec.equals
word_of words.Arrow = spec.arrow
word_of words.Open = spec.open_sign
word_of words.Comma = spec.comma
word_of words.Close = spec.close_sign
word_of words.Semicolon = spec.semicolon
word_of words.Types = name spec.types_word
word_of words.Formats = name spec.formats_word
word_of words.Knowledge = name spec.knowledge_word
word_of words.Actions = name spec.actions_word
word_of words.Goals = name spec.goals_word
word_of words.End = spec.end

-- All of them, in the grammar's order: wherever several may stand, the grammar has them in this order.
abbrev pub grammar_words : List GrammarWord
grammar_words =
    words.Protocol ∷ words.Suite ∷ words.Sha256 ∷ words.Sha512 ∷ words.Agent ∷ words.Number ∷ words.Key
    ∷ words.Name ∷ words.Hash ∷ words.Mac ∷ words.Seal ∷ words.Wrap ∷ words.Literal ∷ words.Len ∷ words.Net ∷ words.Hex ∷ words.Rest
    ∷ words.Colon ∷ words.Equals ∷ words.Arrow ∷ words.Open ∷ words.Comma ∷ words.Close ∷ words.Semicolon
    ∷ words.Types ∷ words.Formats ∷ words.Knowledge ∷ words.Actions ∷ words.Goals ∷ words.End ∷ []

-- words of the grammar that are names at other places
abbrev pub is_name_too : GrammarWord → Bool
is_name_too words.Sha256 = true
is_name_too words.Sha512 = true
is_name_too words.Len = true
is_name_too words.Net = true
is_name_too words.Hex = true
is_name_too words.Rest = true
is_name_too _ = false

-- Some narration goes on with the word behind these. A word that is a name at other places is expected
-- as itself only where names aren't.
abbrev pub Expects : List Word → GrammarWord → Type 0
Expects front w = Continues front (word_of w) × (is_name_too w ≡ true → Continues front (word_of words.Name) → ⊥)

-- these are the words of the text before the token at this offset
pub record IsBefore (x : List ℕ) (at : ℕ) (front : List Word) : Type 0 where
  pub tokens : List Tok
  pub lexes : Lexes 0 x tokens
  pub next : Tok
  pub others : List Tok
  pub begins : Begins tokens front (next ∷ others)
  pub stands : next.at ≡ at

-- these are the things that P holds of, in order
abbrev pub Chosen : {X : Type 0} → (X → Type 0) → List X → List X → Type 0
Chosen P [] chosen = chosen ≡ []
Chosen P (x ∷ xs) chosen = (P x × ((rest : List _) × (chosen ≡ x ∷ rest) × Chosen P xs rest)) ⊎ ((P x → ⊥) × Chosen P xs chosen)

-- Expected where the text is refused are the words of the grammar with which the tokens before go on to
-- some narration.
pub record AreExpected (x : List ℕ) (why : ReadNo) (words : List GrammarWord) : Type 0 where
  pub front : List Word
  pub before : IsBefore x (offset why) front
  pub chosen : Chosen (Expects front) grammar_words words
