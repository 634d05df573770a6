-- What holds of texts, whatever they are.
use Rattle.std.specs.Prelude.{◌≡◌, ◌⊎◌, ℕ, List}
use Rattle.anb_syntax.specs.Grammar.{Narration}
use Rattle.anb_syntax.specs.Text.{Text}
use Rattle.anb_read.specs.Expected.{AreExpected}
use Rattle.anb_read.specs.Refusals.{IsRefusal}
use Rattle.anb_read.specs.declared.grammar.GrammarWord.{GrammarWord}
use Rattle.anb_read.specs.declared.refusal.ReadNo.{ReadNo}

-- a text is that of one narration at most
abbrev pub NarrationsAreUnique : Type 0
NarrationsAreUnique = (x : List ℕ) (m n : Narration) → Text m x → Text n x → m ≡ n

-- a text has one refusal at most
abbrev pub RefusalsAreUnique : Type 0
RefusalsAreUnique = (x : List ℕ) (why other : ReadNo) → IsRefusal x why → IsRefusal x other → why ≡ other

-- no text is a narration's and is refused
abbrev pub NoneIsBoth : Type 0
NoneIsBoth = (x : List ℕ) (n : Narration) (why : ReadNo) → Text n x → IsRefusal x why → ⊥

-- each text is a narration's, or is refused
abbrev pub EachIsEither : Type 0
EachIsEither = (x : List ℕ) → ((n : Narration) × Text n x) ⊎ ((why : ReadNo) × IsRefusal x why)

-- a text could have gone on with these words of the grammar, and no others
abbrev pub ExpectedAreUnique : Type 0
ExpectedAreUnique = (x : List ℕ) (why : ReadNo) (words others : List GrammarWord) → AreExpected x why words → AreExpected x why others → words ≡ others
