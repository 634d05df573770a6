-- What the parts of the reader compute: a line's words from left to right. The contract of `read_line` names none of
-- this; that it is the grammar of lines is proved.
use Rattle.std.specs.Prelude.{◌≡◌, ℕ, ◌^◌, ◌==◌, ◌&&◌, nat_lt, not, List, [], ◌∷◌, length, map, true, Bool, codes, decimal, Option, Some, None, if◌then◌else◌}
use Rattle.std.specs.Borrow.{Bor}
use Rattle.std.specs.List.{list_all, slice_split}
use Rattle.std.specs.Str.{bytes_eq}
use Rattle.std.specs.Str.Parse.{digits_value}
use Rattle.anb_values.specs.Lines.{is_label_byte}
use Rattle.anb_syntax.specs.Words.{is_name, suite_of_word}
use Rattle.anb_code.specs.declared.raw.What.{What}
use Rattle.anb_code.specs.declared.raw.What.TheVariants as what
use Rattle.anb_code.specs.RawValue.{RawInstrValue}
use Rattle.anb_text.specs.declared.lines.Version.{Version}
use Rattle.anb_text.specs.declared.lines.Version.TheVariants as version
use Rattle.anb_text.specs.declared.lines.Line.{Line}
use Rattle.anb_text.specs.declared.lines.Line.TheVariants as line
use Rattle.anb_text.specs.Lines.{version_digit, what_word}

infixl 10 ◌>>=◌
abbrev pub ◌>>=◌ : {A B : Type 0} → Option A → (A → Option B) → Option B
None >>= f = None
(Some x) >>= f = f x

-- byte strings behind references
abbrev pub texts : List (Bor (List ℕ)) → List (List ℕ)
texts words = map (λ w. w.now) words

abbrev pub words_of : List ℕ → List (List ℕ)
words_of text = slice_split (λ b. b == 32) text

-- ---- registers

abbrev pub number_if : ℕ → List ℕ → Option ℕ
number_if n digits = if nat_lt n (2 ^ 32) && bytes_eq (decimal n) digits then Some n else None

-- the number below 2^32 that is written so
unfoldable pub number_of : List ℕ → Option ℕ
number_of digits = number_if (digits_value 10 digits) digits

abbrev pub register_of : List ℕ → Option ℕ
register_of [] = None
register_of (b ∷ digits) = if b == 114 then number_of digits else None

-- registers, and the words that follow
pub record Front : Type 0 where
  pub registers : List ℕ
  pub rest : List (List ℕ)

abbrev pub onto : Option ℕ → List ℕ → List (List ℕ) → Front → Front
onto None word words front = record { registers = []; rest = word ∷ words }
onto (Some r) word words front = record { registers = r ∷ front.registers; rest = front.rest }

-- the registers at the front, as many as stand there
abbrev pub front_of : List (List ℕ) → Front
front_of [] = record { registers = []; rest = [] }
front_of (word ∷ words) = onto (register_of word) word words (front_of words)

-- ---- instructions

abbrev pub what_of : List ℕ → Option What
what_of w =
    if bytes_eq (what_word what.Take) w then Some what.Take
    else (if bytes_eq (what_word what.Fresh) w then Some what.Fresh
    else (if bytes_eq (what_word what.Recv) w then Some what.Recv
    else (if bytes_eq (what_word what.Hash) w then Some what.Hash
    else (if bytes_eq (what_word what.Mac) w then Some what.Mac
    else (if bytes_eq (what_word what.Seal) w then Some what.Seal
    else (if bytes_eq (what_word what.Unseal) w then Some what.Unseal
    else (if bytes_eq (what_word what.Wrap) w then Some what.Wrap
    else (if bytes_eq (what_word what.Unwrap) w then Some what.Unwrap
    else (if bytes_eq (what_word what.Build) w then Some what.Build
    else (if bytes_eq (what_word what.Parse) w then Some what.Parse
    else (if bytes_eq (what_word what.Equal) w then Some what.Equal
    else (if bytes_eq (what_word what.Send) w then Some what.Send else None))))))))))))

abbrev pub counts_are : What → ℕ → ℕ → Bool
counts_are what.Take to args = to == 1 && args == 0
counts_are what.Fresh to args = to == 1 && args == 0
counts_are what.Recv to args = to == 1 && args == 0
counts_are what.Hash to args = to == 1 && args == 1
counts_are what.Mac to args = to == 1 && args == 2
counts_are what.Seal to args = to == 1 && args == 2
counts_are what.Unseal to args = to == 1 && args == 2
counts_are what.Wrap to args = to == 1 && args == 3
counts_are what.Unwrap to args = to == 1 && args == 3
counts_are what.Build to args = to == 1
counts_are what.Parse to args = args == 1
counts_are what.Equal to args = to == 0 && args == 2
counts_are what.Send to args = to == 0 && args == 1

-- a name, and the words that follow
pub record Named : Type 0 where
  pub name : List ℕ
  pub rest : List (List ℕ)

abbrev pub is_label : List ℕ → Bool
is_label w = nat_lt 0 (length w) && list_all is_label_byte w

abbrev pub named_if : (List ℕ → Bool) → List (List ℕ) → Option Named
named_if test [] = None
named_if test (word ∷ words) = if test word then Some (record { name = word; rest = words }) else None

abbrev pub named : What → List (List ℕ) → Option Named
named what.Take words = named_if is_label words
named what.Build words = named_if is_name words
named what.Parse words = named_if is_name words
named other words = Some (record { name = []; rest = words })

-- all words are registers
abbrev pub ended_front : Front → Option (List ℕ)
ended_front front = ended_at front.rest front.registers
  where
    ended_at : List (List ℕ) → List ℕ → Option (List ℕ)
    ended_at [] registers = Some registers
    ended_at (word ∷ words) registers = None

abbrev pub counted : RawInstrValue → Option RawInstrValue
counted i = if counts_are i.what (length i.to) (length i.args) then Some i else None

-- an instruction that writes these registers, from the word for what it does
unfoldable pub operation : List ℕ → List (List ℕ) → Option RawInstrValue
operation to [] = None
operation to (word ∷ words) =
    what_of word >>= λ w. named w words >>= λ n. ended_front (front_of n.rest) >>= λ args. counted (record { to = to; what = w; name = n.name; args = args })

-- what follows the registers that are written, and `=` behind them
abbrev pub after_equals : List ℕ → List (List ℕ) → Option (List (List ℕ))
after_equals [] words = Some words
after_equals (r ∷ rs) [] = None
after_equals (r ∷ rs) (word ∷ words) = if bytes_eq (codes "=") word then Some words else None

unfoldable pub instr_of : List (List ℕ) → Option RawInstrValue
instr_of words = after_equals (front_of words).registers (front_of words).rest >>= operation (front_of words).registers

-- ---- lines

abbrev pub version_of : List ℕ → Option Version
version_of w =
    if bytes_eq (version_digit version.One) w then Some version.One
    else (if bytes_eq (version_digit version.Two) w then Some version.Two else None)

abbrev pub option_name : List ℕ → Option (List ℕ)
option_name w = if is_name w then Some w else None

-- a line of one word, or of two of which the first says its kind
unfoldable pub head_of : List (List ℕ) → Option Line
head_of (word ∷ []) =
    if bytes_eq (codes "code") word then Some line.Code
    else (if bytes_eq (codes "end") word then Some line.End else None)
head_of (word ∷ value ∷ []) =
    if bytes_eq (codes "anb-role") word then version_of value >>= (λ v. Some (line.Version v))
    else (if bytes_eq (codes "protocol") word then option_name value >>= (λ n. Some (line.Protocol n))
    else (if bytes_eq (codes "role") word then option_name value >>= (λ n. Some (line.Role n))
    else (if bytes_eq (codes "suite") word then suite_of_word value >>= (λ s. Some (line.Suite s)) else None)))
head_of other = None

abbrev pub or_instr : Option Line → List (List ℕ) → Option Line
or_instr None words = instr_of words >>= λ i. Some (line.Instr i)
or_instr (Some l) words = Some l

-- a line that is no format line
abbrev pub line_of : List (List ℕ) → Option Line
line_of words = or_instr (head_of words) words

-- ---- format lines

-- no space stands in the word
abbrev pub IsWord : List ℕ → Type 0
IsWord word = list_all (λ b. not (b == 32)) word ≡ true

-- a space is next, or nothing
abbrev pub IsEnd : List ℕ → Type 0
IsEnd [] = Unit {0}
IsEnd (b ∷ x) = b ≡ 32
