-- The words of the grammar as they are told.
use Rattle.std.specs.Prelude.{ℕ, List, [], ◌∷◌, ◌++◌, codes}
use Rattle.anb_read.specs.declared.grammar.GrammarWord.{GrammarWord}
use Rattle.anb_read.specs.declared.grammar.GrammarWord.TheVariants as words

abbrev pub word_text : GrammarWord → List ℕ
word_text words.Protocol = codes "`Protocol`"
word_text words.Suite = codes "`Suite`"
word_text words.Sha256 = codes "`sha256`"
word_text words.Sha512 = codes "`sha512`"
word_text words.Agent = codes "`Agent`"
word_text words.Number = codes "`Number`"
word_text words.Key = codes "`Key`"
word_text words.Name = codes "a name"
word_text words.Hash = codes "`h`"
word_text words.Mac = codes "`mac`"
word_text words.Seal = codes "`scrypt`"
word_text words.Wrap = codes "`wrap`"
word_text words.Literal = codes "a literal"
word_text words.Len = codes "`len`"
word_text words.Net = codes "`net`"
word_text words.Hex = codes "`hex`"
word_text words.Rest = codes "`rest`"
word_text words.Colon = codes "`:`"
word_text words.Equals = codes "`=`"
word_text words.Arrow = codes "`->`"
word_text words.Open = codes "`(`"
word_text words.Comma = codes "`,`"
word_text words.Close = codes "`)`"
word_text words.Semicolon = codes "`;`"
word_text words.Types = codes "`Types`"
word_text words.Formats = codes "`Formats`"
word_text words.Knowledge = codes "`Knowledge`"
word_text words.Actions = codes "`Actions`"
word_text words.Goals = codes "`Goals`"
word_text words.End = codes "the end"

-- what stands behind the first: commas before all but the last, and `or` before that
abbrev pub other_words : List GrammarWord → List ℕ
other_words [] = []
other_words (w ∷ []) = codes " or " ++ word_text w
other_words (w ∷ v ∷ ws) = codes ", " ++ (word_text w ++ other_words (v ∷ ws))

abbrev pub some_words : List GrammarWord → List ℕ
some_words [] = []
some_words (w ∷ ws) = word_text w ++ other_words ws

abbrev pub expected_text : List GrammarWord → List ℕ
expected_text ws = codes "expected " ++ some_words ws
