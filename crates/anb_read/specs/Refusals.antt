-- Why a text is no narration.
use Rattle.std.specs.Prelude.{◌≡◌, ◌≢◌, ℕ, ◌≤◌, List, ◌∷◌}
use Rattle.anb_syntax.specs.Words.{Word, bad, Tok, Begins}
use Rattle.anb_syntax.specs.Lexing.{Lexes}
use Rattle.anb_syntax.specs.Text.{Continues, IsViable, BeginsTermAt}
use Rattle.anb_read.specs.declared.refusal.ReadNo.{ReadNo}
use Rattle.anb_read.specs.declared.refusal.ReadNo.TheVariants.{Token, Grammar, Deep, NoMemory}

-- Behind these words, the next token is a cause to refuse. Some narration goes on behind the words, but no
-- token begins; or some narration goes on, but none with this token, which may be the end; or some
-- narration goes on with this token, and there it begins a term at level 65. Want of memory has no cause.
abbrev pub IsCause : ReadNo → List Word → Tok → Type 0
IsCause (Token at) front next = (next.at ≡ at) × IsViable front × (next.word ≡ bad)
IsCause (Grammar at) front next = (next.at ≡ at) × IsViable front × (next.word ≢ bad) × (Continues front next.word → ⊥)
IsCause (Deep at) front next = (next.at ≡ at) × BeginsTermAt 65 front next.word
IsCause NoMemory front next = ⊥

-- somewhere among its tokens the text has this cause
pub record HasCause (x : List ℕ) (why : ReadNo) : Type 0 where
  pub tokens : List Tok
  pub lexes : Lexes 0 x tokens
  pub front : List Word
  pub next : Tok
  pub others : List Tok
  pub begins : Begins tokens front (next ∷ others)
  pub cause : IsCause why front next

abbrev pub offset : ReadNo → ℕ
offset (Token at) = at
offset (Grammar at) = at
offset (Deep at) = at
offset NoMemory = 0

-- the refusal of the text: of its causes the one with the smallest offset
pub record IsRefusal (x : List ℕ) (why : ReadNo) : Type 0 where
  pub cause : HasCause x why
  pub first : (other : ReadNo) → HasCause x other → offset why ≤ offset other

-- the fact holds, unless this is want of memory
abbrev pub UnlessNoMemory : ReadNo → Type 0 → Type 0
UnlessNoMemory (Token at) P = P
UnlessNoMemory (Grammar at) P = P
UnlessNoMemory (Deep at) P = P
UnlessNoMemory NoMemory P = Unit {0}
