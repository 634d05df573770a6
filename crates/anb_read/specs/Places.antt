-- What the reader's own types stand for, and what its parts answer.
use Rattle.std.specs.Prelude.{◌≡◌, ℕ, List, [], map, take, drop, Option, Some, None, Result, Ok, Err}
use Rattle.anb_syntax.specs.Words as spec
use Rattle.anb_syntax.specs.Words.{Tok}
use Rattle.anb_syntax.specs.Lexing.{token_here}
use Rattle.anb_syntax.specs.declared.tokens.TokenKind.{TokenKind}
use Rattle.anb_syntax.specs.declared.tokens.TokenKind.TheVariants as kinds
use Rattle.anb_read.specs.declared.places.Place.{Place}
use Rattle.anb_read.specs.declared.places.Place.TheVariants as places
use Rattle.anb_read.specs.declared.places.Word.{Word}
use Rattle.anb_read.specs.declared.places.Word.TheVariants as words
use Rattle.anb_read.specs.Expected.{word_of}
use Rattle.anb_read.specs.declared.refusal.ReadNo.{ReadNo}
use Rattle.anb_read.specs.declared.refusal.ReadNo.TheVariants.{Token, Grammar, Deep, NoMemory}

-- the bytes of a literal
abbrev pub literal_of : spec.Word → List ℕ
literal_of (spec.literal b) = b
literal_of _ = []

abbrev pub found : Option (spec.Word × ℕ) → List ℕ
found None = []
found (Some t) = literal_of t.0

-- the bytes of the literal at the front, where one stands there
abbrev pub literal_here : List ℕ → List ℕ
literal_here x = found (token_here x)

-- the word that a token of this kind and length is at the front of a text
abbrev pub kind_of : TokenKind → ℕ → List ℕ → spec.Word
kind_of kinds.Name n x = spec.name (take n x)
kind_of kinds.Literal n x = spec.literal (literal_here x)
kind_of kinds.Colon n x = spec.colon
kind_of kinds.Semicolon n x = spec.semicolon
kind_of kinds.Comma n x = spec.comma
kind_of kinds.Open n x = spec.open_sign
kind_of kinds.Close n x = spec.close_sign
kind_of kinds.Equals n x = spec.equals
kind_of kinds.Arrow n x = spec.arrow

abbrev pub tok_of : List ℕ → Place → Tok
tok_of text (places.At t) = record { word = kind_of t.kind t.len (drop t.at text); at = t.at }
tok_of text (places.End at) = record { word = spec.end; at = at }
tok_of text (places.Bad at) = record { word = spec.bad; at = at }
tok_of text (places.Given g) = record { word = word_of g; at = 0 }

abbrev pub toks : List ℕ → List Place → List Tok
toks text ps = map (tok_of text) ps

abbrev pub word_in : List ℕ → Word → spec.Word
word_in text (words.Name b) = spec.name b.now
word_in text (words.Literal at) = spec.literal (literal_here (drop at text))
word_in text words.Quotes = spec.literal []
word_in text (words.Sign c) = spec.sign c
word_in text words.End = spec.end
word_in text words.Bad = spec.bad

-- reading is refused so, unless memory ran out
abbrev pub Fails : {Y : Type 0} → ReadNo → Result Y ReadNo → Type 0
Fails (Token at) read = read ≡ Err (Token at)
Fails (Grammar at) read = read ≡ Err (Grammar at)
Fails (Deep at) read = read ≡ Err (Deep at)
Fails NoMemory read = Unit {0}

-- what a function returned, seen by view, is what reading gives, unless memory ran out
abbrev pub Finds : {X Y : Type 0} → (X → Y) → Result X ReadNo → Result Y ReadNo → Type 0
Finds view (Ok x) read = read ≡ Ok (view x)
Finds view (Err e) read = Fails e read
