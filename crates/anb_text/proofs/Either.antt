-- Each text is that of a verified code, or is refused.
use Rattle.std.proofs.Common.{◌≡◌, ◌≢◌, ◌≤◌, ◌<◌, ◌⊎◌, ◌+◌, ℕ, zero, suc, List, [], ◌∷◌, ◌++◌, length, map, Bool, true, false, Option, Some, None, refl, sym, ap, inl, inr, ◌∙◌, length-append, arith}
use Rattle.std.specs.Prelude.{◌==◌, ◌&&◌, not, take, drop}
use Rattle.std.specs.List.{AllByRecursion, position}
use Rattle.std.proofs.lemmas.List.Elements.{All-from_recursion}
use Rattle.anb_base.specs.declared.TheConstants.{ARRIVAL, LARGE_FILE, WIDE}
use Rattle.anb_format.specs.Formats.{FormatValue, IsBytesPiece, IsEarlyRest, IsSound, head}
use Rattle.anb_format.specs.declared.pieces.FieldKind.TheVariants.{Len, Net, Hex, Rest}
use Rattle.anb_format.specs.declared.pieces.FormatNo.{FormatNo}
use Rattle.anb_format.specs.declared.pieces.Piece.{Piece}
use Rattle.anb_format.specs.declared.pieces.Piece.TheVariants.{Lit, Field}
use Rattle.anb_code.specs.CodeValue.{CodeValue}
use Rattle.anb_code.specs.RawValue.{RawValue}
use Rattle.anb_code.specs.Spelling.{code_of}
use Rattle.anb_code.specs.Table.{code_faults, early_rests, faults_from, format_faults, instr_faults, is_empty, is_rest, shape_faults, where_true}
use Rattle.anb_code.specs.Verified.{IsVerifiedCode}
use Rattle.anb_code.specs.declared.refusal.CodeNo.{CodeNo}
use Rattle.anb_code.proofs.Accepted.{verified_code}
use Rattle.anb_text.specs.declared.lines.Version.{Version}
use Rattle.anb_text.specs.declared.lines.Line.{Line}
use Rattle.anb_text.specs.declared.stages.Stage.{Stage}
use Rattle.anb_text.specs.declared.stages.Stage.TheVariants.{Start, Version as OfVersion, Protocol, Role, Formats, Code as InCode, End}
use Rattle.anb_text.specs.declared.refusal.LoadNo.{LoadNo}
use Rattle.anb_text.specs.declared.refusal.LoadNo.TheVariants.{Line as AtLine, Code, NoMemory}
use Rattle.anb_text.specs.Laws.{EachIsEither}
use Rattle.anb_text.specs.Lines.{IsFormat, IsLine, line_bytes}
use Rattle.anb_text.specs.Refusals.{IsFirstFaulty, IsRefusal}
use Rattle.anb_text.specs.RoleFiles.{IsTextOf}
use Rattle.anb_text.specs.Stages.{HasRead, IsOneLine, IsSplit, IsStuck, ReadsOn, Spells, stage_after}
use Rattle.anb_text.proofs.Deciding.{line_decided}
use Rattle.anb_text.proofs.LineLemmas.{lines_differ}
use Rattle.anb_text.proofs.Loaded.{counts, faulty_code, fits, loaded}
use Rattle.anb_text.proofs.Progress.{faulty_line, no_line, no_split, nothing_read, reads_more, split_at, whole_file}
use Rattle.anb_lemmas.proofs.Searching.{Decided}
use Rattle.anb_lemmas.proofs.Lists.{both_empty}

-- ---- the next line

module _ (stage : Stage) (text : List ℕ) where
  abbrev GoesOn : Type 0
  GoesOn = ((after : Stage) × ReadsOn stage text after) ⊎ IsStuck stage text

  after_line : (l : Line) → IsLine l → text ≡ line_bytes l → (after : Option Stage) → stage_after stage l ≡ after → GoesOn
  after_line l is stands (Some after) e = inl (after, record { next = l; is = is; stands = stands; leads = e })
  after_line l is stands None e = inr (λ next can also. ap (stage_after stage) (lines_differ next l can is (sym also ∙ stands)) ∙ e)

  next_line : Decided ((l : Line) × IsLine l × (text ≡ line_bytes l)) → GoesOn
  next_line (inl w) = after_line w.0 w.1 w.2 (stage_after stage w.0) refl
  next_line (inr none) = inr (λ next can stands. absurd (none (next, can, stands)))

-- a first line, or no end of one
abbrev Splits : List ℕ → Type 0
Splits rest = ((line : List ℕ) × (behind : List ℕ) × IsSplit rest line behind) ⊎ IsOneLine rest

splits : (rest : List ℕ) → Splits rest
splits rest = by (position (λ b. b == 10) rest) refl where
  by : (end : Option ℕ) → position (λ b. b == 10) rest ≡ end → Splits rest
  by (Some end) e = inl (take end rest, drop (end + 1) rest, split_at rest end e)
  by None e = inr (no_split rest (λ end also. let never : ◌≡◌ {A = Option ℕ} None (Some end) = sym e ∙ also in cc))

is_end : (stage : Stage) → ((v : Version) × (raw : RawValue) × (stage ≡ End v raw)) ⊎ ((v : Version) (raw : RawValue) → stage ≡ End v raw → ⊥)
is_end (End v raw) = inl (v, raw, refl)
is_end Start = inr (λ v raw e. cc)
is_end (OfVersion version) = inr (λ v raw e. cc)
is_end (Protocol version protocol) = inr (λ v raw e. cc)
is_end (Role protocol role) = inr (λ v raw e. cc)
is_end (Formats version code) = inr (λ v raw e. cc)
is_end (InCode version code) = inr (λ v raw e. cc)

-- ---- all lines

module _ (text : List ℕ) where
  abbrev IsFile : Type 0
  IsFile = ((raw : RawValue) × Spells text raw) ⊎ ((n : ℕ) × IsFirstFaulty text n)

  at_end : (rest : List ℕ) (stage : Stage) (number : ℕ) → HasRead text stage rest number → IsOneLine rest → IsFile
  at_end rest stage number read one = by rest refl (is_end stage) where
    by : (left : List ℕ) → rest ≡ left → ((v : Version) × (raw : RawValue) × (stage ≡ End v raw)) ⊎ ((v : Version) (raw : RawValue) → stage ≡ End v raw → ⊥) → IsFile
    by left is (inr other) = inr (number, no_line text rest stage number read one (λ v raw e. absurd (other v raw e)))
    by [] is (inl w) = inl (w.1, whole_file text rest w.0 w.1 stage number read w.2 is)
    by (b ∷ left) is (inl w) = inr (number, no_line text rest stage number read one (λ v raw e none. let never : b ∷ left ≡ [] = sym is ∙ none in cc))

  shorter : (n : ℕ) (rest line behind : List ℕ) → IsSplit rest line behind → length rest ≤ n → length behind < n
  shorter n rest line behind split within = let whole = ap length split.stands in omega (arith, whole, within, length-append line (10 ∷ behind))

  go_on : (rest line behind : List ℕ) (stage : Stage) (number : ℕ) → HasRead text stage rest number → IsSplit rest line behind → ((after : Stage) → HasRead text after behind (number + 1) → IsFile) → GoesOn stage line → IsFile
  go_on rest line behind stage number read split further (inl w) = further w.0 (reads_more text rest line behind stage w.0 number read split w.1)
  go_on rest line behind stage number read split further (inr stuck) = inr (number, faulty_line text rest line behind stage number read split stuck)

  walk : (n : ℕ) (rest : List ℕ) (stage : Stage) (number : ℕ) → length rest ≤ n → HasRead text stage rest number → Splits rest → IsFile
  walk n rest stage number within read (inr one) = at_end rest stage number read one
  walk zero rest stage number within read (inl (line, behind, split)) = let less = shorter zero rest line behind split within in absurd (omega (arith, less))
  walk (suc n) rest stage number within read (inl (line, behind, split)) =
      let less = shorter (suc n) rest line behind split within in
      go_on rest line behind stage number read split (λ after more. walk n behind after (number + 1) (omega (arith, less)) more (splits behind)) (next_line stage line (line_decided line))

  is_file : IsFile
  is_file = walk (length text) text Start 1 (omega arith) (nothing_read text) (splits text)

-- ---- the code that it spells

not_early : (b : Bool) (refusal : FormatNo) → where_true b refusal ≡ [] → b ≡ false
not_early true refusal e = cc
not_early false refusal e = refl

some_head : (xs : List ℕ) → is_empty xs ≡ false → xs ≢ []
some_head [] e = cc
some_head (x ∷ xs) e = λ same. cc

rest_there : (piece : Piece) (pieces : List Piece) → (is_rest piece && not (is_empty pieces)) ≡ false → IsEarlyRest (piece ∷ pieces) 0 → ⊥
rest_there (Field Rest) [] e early = omega (arith, early.1)
rest_there (Field Rest) (p ∷ pieces) e early = cc
rest_there (Field Len) pieces e early = let never : ◌≡◌ {A = Option Piece} (Some (Field Len)) (Some (Field Rest)) = early.0 in cc
rest_there (Field Net) pieces e early = let never : ◌≡◌ {A = Option Piece} (Some (Field Net)) (Some (Field Rest)) = early.0 in cc
rest_there (Field Hex) pieces e early = let never : ◌≡◌ {A = Option Piece} (Some (Field Hex)) (Some (Field Rest)) = early.0 in cc
rest_there (Lit text) pieces e early = let never : ◌≡◌ {A = Option Piece} (Some (Lit text)) (Some (Field Rest)) = early.0 in cc

no_early : (k : ℕ) (pieces : List Piece) → early_rests k pieces ≡ [] → (i : ℕ) → IsEarlyRest pieces i → ⊥
no_early k [] none i early = omega (arith, early.1)
no_early k (piece ∷ pieces) none zero early = rest_there piece pieces (not_early _ _ (both_empty _ (early_rests (k + 1) pieces) none).0) early
no_early k (piece ∷ pieces) none (suc i) early = no_early (k + 1) pieces (both_empty _ (early_rests (k + 1) pieces) none).1 i (early.0, omega (arith, early.1))

sound : (pieces : List Piece) → AllByRecursion IsBytesPiece pieces → shape_faults pieces ≡ [] → IsSound pieces
sound pieces all none =
    let parts = both_empty _ (early_rests 0 pieces) none in
    record { head_stands = some_head (head pieces) (not_early _ _ parts.0); rest_is_last = no_early 0 pieces parts.1; literals = all }

map_empty : {A B : Type 0} (f : A → B) (xs : List A) → map f xs ≡ [] → xs ≡ []
map_empty f [] e = refl
map_empty f (x ∷ xs) e = cc

each_sound : (before formats : List FormatValue) → AllByRecursion IsFormat formats → faults_from format_faults before formats ≡ [] → AllByRecursion (λ (f : FormatValue). IsSound f.pieces) formats
each_sound before [] all none = tt
each_sound before (f ∷ formats) all none =
    let parts = both_empty (format_faults before f) (faults_from format_faults (before ++ f ∷ []) formats) none in
    let shapes = both_empty _ (map _ (shape_faults f.pieces)) parts.0 in
    (sound f.pieces all.0.pieces (map_empty _ (shape_faults f.pieces) shapes.1), each_sound (before ++ f ∷ []) formats all.1 parts.1)

module _ (text : List ℕ) (size : length text ≤ LARGE_FILE) (raw : RawValue) (s : Spells text raw) where
  verified : code_faults ARRIVAL WIDE raw ≡ [] → IsVerifiedCode ARRIVAL WIDE (code_of raw)
  verified none =
      let parts = both_empty (faults_from format_faults [] raw.formats) (faults_from (instr_faults ARRIVAL WIDE raw.formats) [] raw.code) none in
      let few = fits text raw s in
      let instrs = few.instrs in
      let destinations = few.destinations in
      verified_code raw parts.0 parts.1 (All-from_recursion (λ (f : FormatValue). IsSound f.pieces) raw.formats (each_sound [] raw.formats s.spellable.formats parts.0)) (counts text raw s)
      (omega (arith, size, instrs)) (omega (arith, size, destinations))

  of_code : (faults : List CodeNo) → code_faults ARRIVAL WIDE raw ≡ faults → ((code : CodeValue) × IsVerifiedCode ARRIVAL WIDE code × IsTextOf text code) ⊎ ((no : LoadNo) × (no ≢ NoMemory) × IsRefusal text no)
  of_code [] none = inl (code_of raw, verified none, loaded text raw (code_of raw) s none refl)
  of_code (fault ∷ faults) first = inr (Code fault, (λ same. cc), faulty_code text raw fault s (faults, first))

pub either : EachIsEither
either text size = elim (is_file text) [
  | inl (raw, s) ↦ of_code text size raw s (code_faults ARRIVAL WIDE raw) refl
  | inr (n, first) ↦ inr (AtLine n, (λ same. cc), first)
]
