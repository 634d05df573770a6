-- How the reader finds out what it expects.
use Rattle.std.specs.Prelude.{ℕ, List, [], ◌∷◌, ◌++◌, take, nat_lt, not, ◌&&◌, Bool, true, false, Result, Err}
use Rattle.std.specs.List.{prefix_len}
use Rattle.anb_syntax.specs.Words.{Word, Tok}
use Rattle.anb_read.specs.Expected.{is_name_too, word_of}
use Rattle.anb_read.specs.declared.grammar.GrammarWord.{GrammarWord}
use Rattle.anb_read.specs.declared.grammar.GrammarWord.TheVariants.{Name}
use Rattle.anb_read.specs.Productions.{narration_at}
use Rattle.anb_read.specs.declared.refusal.ReadNo.{ReadNo}
use Rattle.anb_read.specs.declared.refusal.ReadNo.TheVariants.{Grammar}

abbrev pub is_earlier : ℕ → Tok → Bool
is_earlier at t = nat_lt t.at at

-- the first tokens, up to one that begins at the offset or later
abbrev pub before : ℕ → List Tok → List Tok
before at ts = take (prefix_len (is_earlier at) ts) ts

-- the word itself isn't refused
abbrev pub passes : {A : Type 0} → Result A ReadNo → Bool
passes (Err (Grammar at)) = false
passes _ = true

abbrev pub given : Word → Tok
given x = record { word = x; at = 0 }

abbrev pub goes_on : List Tok → Word → Bool
goes_on w x = passes (narration_at 64 (w ++ given x ∷ []))

abbrev pub expects : List Tok → GrammarWord → Bool
expects w g = not (is_name_too g && goes_on w (word_of Name)) && goes_on w (word_of g)
