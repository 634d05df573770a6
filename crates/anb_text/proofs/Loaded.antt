-- What a text of a code is, and what it can't be.
use Rattle.std.proofs.Common.{◌≡◌, ◌≢◌, ◌⊎◌, Result, Ok, Err, ◌<◌, ◌≤◌, ◌^◌, ℕ, List, [], ◌∷◌, length, All, refl, sym, ap, subst, inl, inr, ◌∙◌, arith}
use Rattle.std.specs.Prelude.{MatchResult}
use Rattle.std.specs.Result.{IsErrAnd}
use Rattle.std.proofs.lemmas.List.Elements.{All-from_recursion}
use Rattle.std.specs.List.{AllByRecursion}
use Rattle.anb_base.specs.declared.TheConstants.{ARRIVAL, WIDE}
use Rattle.anb_base.specs.declared.content.Suite.{Suite}
use Rattle.anb_base.specs.declared.content.Suite.TheVariants as suite
use Rattle.anb_format.specs.Formats.{FormatValue}
use Rattle.anb_code.specs.declared.refusal.CodeNo.{CodeNo}
use Rattle.anb_code.specs.declared.refusal.CodeNo.TheVariants as code
use Rattle.anb_code.specs.CodeValue.{CodeValue}
use Rattle.anb_code.specs.RawValue.{RawInstrValue, RawValue}
use Rattle.anb_code.specs.Spelling.{code_of, raw_of}
use Rattle.anb_code.specs.Table.{HasCounts, IsAccepted, IsFirstFault}
use Rattle.anb_code.specs.Verified.{IsVerifiedCode}
use Rattle.anb_code.proofs.Spelled.{spelled_code}
use Rattle.anb_text.specs.declared.lines.Version.{Version}
use Rattle.anb_text.specs.declared.lines.Version.TheVariants as version
use Rattle.anb_text.specs.declared.refusal.LoadNo.{LoadNo}
use Rattle.anb_text.specs.declared.refusal.LoadNo.TheVariants.{Line as AtLine, Code, NoMemory}
use Rattle.anb_text.specs.Lines.{IsInstr}
use Rattle.anb_text.specs.RoleFiles.{IsFor, IsRoleFile, IsSpellable, IsTextOf, file_lines, lines_text}
use Rattle.anb_text.specs.Refusals.{IsFaultyCode, IsFirstFaulty, IsRefusal}
use Rattle.anb_text.specs.Laws.{CodesAreUnique}
use Rattle.anb_text.specs.Stages.{IsFault, Spells, refusal_of}
use Rattle.anb_text.proofs.Back.{raw_again}
use Rattle.anb_text.proofs.Sizes.{Fits, file_fits}
use Rattle.anb_text.proofs.Unique.{files, none}

-- ---- one code

abbrev pub file_of : (text : List ℕ) (raw : RawValue) (s : Spells text raw) → IsRoleFile (file_lines s.v raw)
file_of text raw s = record { v = s.v; raw = raw; suite = s.suite; spellable = s.spellable; stands = refl }

pub one_raw : (text : List ℕ) (one other : RawValue) → Spells text one → Spells text other → one ≡ other
one_raw text one other s t = (files (file_lines s.v one) (file_lines t.v other) (file_of text one s) (file_of text other t) (sym s.stands ∙ t.stands)).1

pub spelled_by : (text : List ℕ) (code : CodeValue) → IsTextOf text code → Spells text (raw_of code)
spelled_by text code is = elim is.1 [
  | inl two ↦ record { v = version.Two; suite = tt; spellable = is.0; stands = two }
  | inr one ↦ record { v = version.One; suite = one.0; spellable = is.0; stands = one.1 }
]

-- a verified code comes of what a text of it spells
code_again : (text : List ℕ) (code : CodeValue) (raw : RawValue) → IsVerifiedCode ARRIVAL WIDE code → IsTextOf text code → Spells text raw → code_of raw ≡ code
code_again text code raw verified is s = ap code_of (one_raw text raw (raw_of code) s (spelled_by text code is)) ∙ (spelled_code ARRIVAL WIDE code verified).same

pub codes : CodesAreUnique
codes text one other verified also is as_well =
    sym (code_again text one (raw_of other) verified is (spelled_by text other as_well)) ∙ (spelled_code ARRIVAL WIDE other also).same

-- ---- what is loaded

pub read_code : (text : List ℕ) (raw : RawValue) (code : CodeValue) → Spells text raw → code ≡ code_of raw → (other : CodeValue) → IsVerifiedCode ARRIVAL WIDE other → IsTextOf text other → code ≡ other
read_code text raw code s e other verified is = e ∙ code_again text other raw verified is s

-- a text is a role file of this raw code, in one of the versions
abbrev IsTextFor : List ℕ → Suite → RawValue → Type 0
IsTextFor text s raw = IsSpellable raw × ((text ≡ lines_text (file_lines version.Two raw)) ⊎ ((s ≡ suite.One) × (text ≡ lines_text (file_lines version.One raw))))

text_for : (text : List ℕ) (raw : RawValue) (v : Version) → IsFor v raw.suite → IsSpellable raw → text ≡ lines_text (file_lines v raw) → IsTextFor text raw.suite raw
text_for text raw version.One is spellable stands = (spellable, inr (is, stands))
text_for text raw version.Two is spellable stands = (spellable, inl stands)

pub loaded : (text : List ℕ) (raw : RawValue) (code : CodeValue) → Spells text raw → IsAccepted ARRIVAL WIDE raw → code ≡ code_of raw → IsTextOf text code
loaded text raw code s accepted e =
    let is : IsTextFor text raw.suite raw = text_for text raw s.v s.suite s.spellable s.stands in
    let again : IsTextFor text raw.suite (raw_of (code_of raw)) = subst (IsTextFor text raw.suite) (sym (raw_again raw s.spellable.code accepted)) is in
    subst (IsTextOf text) (sym e) again

-- ---- what is refused

-- what a text of a verified code spells is accepted
no_fault : (text : List ℕ) (raw : RawValue) (fault : CodeNo) → Spells text raw → IsFirstFault ARRIVAL WIDE raw fault → (code : CodeValue) → IsVerifiedCode ARRIVAL WIDE code → IsTextOf text code → ⊥
no_fault text raw fault s first code verified is =
    let accepted : IsAccepted ARRIVAL WIDE raw = subst (IsAccepted ARRIVAL WIDE) (one_raw text (raw_of code) raw (spelled_by text code is) s) (spelled_code ARRIVAL WIDE code verified).accepted in
    let off : [] ≡ fault ∷ first.0 = sym accepted ∙ first.1 in cc

pub faulty_code : (text : List ℕ) (raw : RawValue) (fault : CodeNo) → Spells text raw → IsFirstFault ARRIVAL WIDE raw fault → IsFaultyCode text fault
faulty_code text raw fault s first = record { file = file_lines s.v raw; is = file_of text raw s; stands = s.stands; first = first }

-- a fault, or want of memory
by_fault : (P : CodeNo → Type 0) → P code.NoMemory → ((fault : CodeNo) → (fault ≢ code.NoMemory) → P fault) → (fault : CodeNo) → P fault
by_fault P memory other code.NoMemory = memory
by_fault P memory other fault = other fault (λ e. cc)

is_fault : (fault : CodeNo) → fault ≢ code.NoMemory → Code fault ≡ refusal_of fault
is_fault code.NoMemory other = absurd (other refl)
is_fault fault other = refl

pub not_accepted : (text : List ℕ) (raw : RawValue) (fault : CodeNo) → Spells text raw → (fault ≢ code.NoMemory → IsFirstFault ARRIVAL WIDE raw fault) → IsRefusal text (refusal_of fault)
not_accepted text raw fault s first = by_fault (λ fault. (fault ≢ code.NoMemory → IsFirstFault ARRIVAL WIDE raw fault) → IsRefusal text (refusal_of fault)) (λ first. tt)
    (λ fault other first. subst (IsRefusal text) (is_fault fault other) (faulty_code text raw fault s (first other))) fault first

pub not_a_code : (text : List ℕ) (raw : RawValue) (fault : CodeNo) → Spells text raw → (fault ≢ code.NoMemory → IsFirstFault ARRIVAL WIDE raw fault)
    → (one : CodeValue) → IsVerifiedCode ARRIVAL WIDE one → IsTextOf text one → refusal_of fault ≡ NoMemory
not_a_code text raw fault s first one verified is = by_fault (λ fault. (fault ≢ code.NoMemory → IsFirstFault ARRIVAL WIDE raw fault) → refusal_of fault ≡ NoMemory) (λ first. refl)
    (λ fault other first. absurd (no_fault text raw fault s (first other) one verified is)) fault first

-- a text of a code has no faulty line
only_memory : (text : List ℕ) (refusal : LoadNo) → IsFault text refusal → (code : CodeValue) → IsVerifiedCode ARRIVAL WIDE code → IsTextOf text code → refusal ≡ NoMemory
only_memory text (AtLine n) fault code verified is =
    let s = spelled_by text code is in
    absurd (none (file_lines s.v (raw_of code)) n (file_of text (raw_of code) s) (subst (λ t. IsFirstFaulty t n) s.stands fault))
only_memory text (Code fault) never code verified is = absurd never
only_memory text NoMemory fault code verified is = refl

-- it is handed on as it is
pub handed_on : (text : List ℕ) (refusal : LoadNo) (r : Result CodeValue LoadNo) → IsErrAnd r (λ other. other ≡ refusal) → IsFault text refusal
    → (code : CodeValue) → IsVerifiedCode ARRIVAL WIDE code → IsTextOf text code → MatchResult r (λ c. c ≡ code) (λ other. other ≡ NoMemory)
handed_on text refusal (Ok c) is fault code verified of = absurd is
handed_on text refusal (Err other) is fault code verified of = is ∙ only_memory text refusal fault code verified of

-- ---- what can be verified

all_counts : (code : List RawInstrValue) → AllByRecursion IsInstr code → AllByRecursion HasCounts code
all_counts [] all = tt
all_counts (i ∷ code) all = (all.0.counts, all_counts code all.1)

pub counts : (text : List ℕ) (raw : RawValue) → Spells text raw → All HasCounts raw.code
counts text raw s = All-from_recursion HasCounts raw.code (all_counts raw.code s.spellable.code)

pub fits : (text : List ℕ) (raw : RawValue) → Spells text raw → Fits (length text) raw
fits text raw s = subst (λ t. Fits (length t) raw) (sym s.stands) (file_fits s.v raw)

below : (n : ℕ) (formats : List FormatValue) → n < 2 ^ 32 → AllByRecursion (λ (format : FormatValue). length format.pieces ≤ n) formats → AllByRecursion (λ (format : FormatValue). length format.pieces < 2 ^ 32) formats
below n [] small all = tt
below n (format ∷ formats) small all = (let here = all.0 in omega arith, below n formats small all.1)

pub pieces : (text : List ℕ) (raw : RawValue) → Spells text raw → length text ≤ 16777216 → All (λ (format : FormatValue). length format.pieces < 2 ^ 32) raw.formats
pieces text raw s size =
    All-from_recursion (λ (format : FormatValue). length format.pieces < 2 ^ 32) raw.formats (below (length text) raw.formats (omega arith) (fits text raw s).pieces)
