-- What a reader of lines knows.
use Rattle.std.proofs.Common.{◌≡◌, ◌≢◌, ◌≤◌, ◌<◌, ◌+◌, ◌==◌, ℕ, suc, Bool, true, false, List, [], ◌∷◌, ◌++◌, length, get_or, take, drop, Option, Some, None, Result, Ok, Err, refl, sym, ap, subst, inl, inr, ◌∙◌, append_assoc, arith}
use Rattle.std.specs.Prelude.{IfSome, IfOk, IfNone}
use Rattle.std.specs.List.{position, position_or_len}
use Rattle.std.proofs.lemmas.Bool.{eqb-true, cases_lt}
use Rattle.std.proofs.lemmas.Bool.Decides.{nat_tests}
use Rattle.std.proofs.lemmas.Grind.{common_steps}
use Rattle.std.proofs.lemmas.List.{append-nil, length-append, take_all}
use Rattle.std.proofs.lemmas.List.Sums.{passes_at_first, split_at_first}
use Rattle.anb_code.specs.RawValue.{RawValue}
use Rattle.anb_text.specs.declared.lines.Version.{Version}
use Rattle.anb_text.specs.declared.lines.Line.{Line}
use Rattle.anb_text.specs.declared.stages.Stage.{Stage}
use Rattle.anb_text.specs.declared.stages.Stage.TheVariants.{Start, End}
use Rattle.anb_text.specs.Lines.{IsLine, line_bytes}
use Rattle.anb_text.specs.RoleFiles.{ended, lines_text}
use Rattle.anb_text.specs.Refusals.{IsFirstFaulty}
use Rattle.anb_text.specs.Stages.{HasRead, IsOneLine, IsSplit, IsStage, IsStuck, ReadsOn, Spells, lines_to, stage_after}
use Rattle.anb_text.proofs.LineLemmas.{lines_differ}
use Rattle.anb_text.proofs.Texts.{count_lines, is_one_line, no_ten, split_once}
use Rattle.anb_text.proofs.StageLemmas.{begins, ended_there, next_is, one_line_more, stuck}

-- ---- the first line of a text

abbrev place : List ℕ → ℕ
place text = position_or_len (λ b. b == 10) text

one_more : (b : ℕ) (text : List ℕ) (is : Bool) → (b == 10) ≡ is → IsOneLine (take (place text) text) → IsOneLine (take (place (b ∷ text)) (b ∷ text))
one_more b text true e rest = rw e tt
one_more b text false e rest = let next : 1 + place text ≡ suc (place text) = omega arith in rw (e, next) (rw e refl, rest)

one_before : (text : List ℕ) → IsOneLine (take (place text) text)
one_before [] = tt
one_before (b ∷ text) = one_more b text (b == 10) refl (one_before text)

first_split : (text : List ℕ) → place text < length text → IsSplit text (take (place text) text) (drop (place text + 1) text)
first_split text within =
    let found : get_or text (place text) 0 ≡ 10 = eqb-true _ 10 (passes_at_first (λ b. b == 10) text 0 within) in record {
      stands = split_at_first (λ b. b == 10) text 0 within ∙ ap (λ b. take (place text) text ++ b ∷ drop (place text + 1) text) found;
      one = one_before text;
    }

no_place : (text : List ℕ) → length text ≤ place text → IsOneLine text
no_place text past = subst IsOneLine (take_all (place text) text past) (one_before text)

pub split_at : (text : List ℕ) (end : ℕ) → position (λ b. b == 10) text ≡ Some end → IsSplit text (take end text) (drop (end + 1) text)
split_at text end e =
    let at : place text ≡ end = grind (arith, common_steps) in
    let within : place text < length text = grind (arith, common_steps) in
    subst (λ n. IsSplit text (take n text) (drop (n + 1) text)) at (first_split text within)

pub no_split : (text : List ℕ) → ((end : ℕ) → position (λ b. b == 10) text ≡ Some end → ⊥) → IsOneLine text
no_split text none = elim (cases_lt (place text) (length text)) [
  | inl h ↦ let some : position (λ b. b == 10) text ≡ Some (place text) = grind (arith, nat_tests) in absurd (none (place text) some)
  | inr h ↦ no_place text h
]

-- ---- one line more

pub nothing_read : (text : List ℕ) → HasRead text Start text 1
nothing_read text = record { is = tt; stands = refl; number_is = refl }

lines_push : (ls : List Line) (l : Line) → lines_text (ls ++ l ∷ []) ≡ lines_text ls ++ ended l
lines_push [] l = append-nil (ended l)
lines_push (x ∷ ls) l = ap (λ t. ended x ++ t) (lines_push ls l) ∙ sym (append_assoc (ended x) (lines_text ls) (ended l))

length-push : (ls : List Line) (l : Line) → length (ls ++ l ∷ []) ≡ length ls + 1
length-push ls l = length-append ls (l ∷ [])

step : (s t : Stage) (l : Line) → IsStage s → IsLine l → stage_after s l ≡ Some t → IsStage t × (lines_to t ≡ lines_to s ++ l ∷ [])
step s t l is can e = subst (λ o. IfSome o (λ t. IsStage t × (lines_to t ≡ lines_to s ++ l ∷ []))) e (one_line_more s l is can)

pub reads_more : (text rest line behind : List ℕ) (stage after : Stage) (number : ℕ) → HasRead text stage rest number → IsSplit rest line behind → ReadsOn stage line after → HasRead text after behind (number + 1)
reads_more text rest line behind stage after number read split on =
    let next = step stage after on.next read.is on.is on.leads in
    let ls = lines_to stage in
    let bytes : rest ≡ ended on.next ++ behind = split.stands ∙ ap (λ t. t ++ 10 ∷ behind) on.stands ∙ sym (append_assoc (line_bytes on.next) (10 ∷ []) behind) in
    let text_is : text ≡ lines_text (ls ++ on.next ∷ []) ++ behind =
    read.stands ∙ ap (λ t. lines_text ls ++ t) bytes ∙ sym (append_assoc (lines_text ls) (ended on.next) behind) ∙ ap (λ t. t ++ behind) (sym (lines_push ls on.next)) in record {
      is = next.0;
      stands = text_is ∙ ap (λ xs. lines_text xs ++ behind) (sym next.1);
      number_is = omega (arith, read.number_is, ap length next.1, length-push ls on.next);
    }

-- lines aren't more than bytes
pub few_lines : (text rest : List ℕ) (stage : Stage) (number : ℕ) → HasRead text stage rest number → number ≤ length text + 1
few_lines text rest stage number read =
    omega (arith, read.number_is, ap length read.stands, length-append (lines_text (lines_to stage)) rest, count_lines (lines_to stage))

-- ---- no line more

-- the line that stands there is the only one
pub stuck_there : {E : Type 0} (stage : Stage) (line : List ℕ) (l : Line) (r : Result (Option Stage) E) → IsLine l × (line ≡ line_bytes l) → IfOk r (λ o. o ≡ stage_after stage l) → IfOk r (λ o. IfNone o (IsStuck stage line))
stuck_there stage line l (Ok None) is none = λ next can stands.
    let same : next ≡ l = lines_differ next l can is.0 (sym stands ∙ is.1) in ap (stage_after stage) same ∙ sym none
stuck_there stage line l (Ok (Some after)) is none = tt
stuck_there stage line l (Err e) is none = tt

pub faulty_line : (text rest line behind : List ℕ) (stage : Stage) (number : ℕ) → HasRead text stage rest number → IsSplit rest line behind → IsStuck stage line → IsFirstFaulty text number
faulty_line text rest line behind stage number read split no_next = record {
  before = lines_to stage;
  rest = rest;
  number = read.number_is;
  stands = read.stands;
  begins = begins stage read.is;
  stuck = λ next more e b.
      let can = next_is (lines_to stage) next b in
      let parts = split_once line (line_bytes next) behind more split.one (is_one_line next can) (sym split.stands ∙ e ∙ append_assoc (line_bytes next) (10 ∷ []) more) in
      stuck stage next read.is (no_next next can parts.0) b;
  unfinished = λ file none. let size = ap length (sym split.stands ∙ none) in omega (arith, size, length-append line (10 ∷ behind));
}

pub no_line : (text rest : List ℕ) (stage : Stage) (number : ℕ) → HasRead text stage rest number → IsOneLine rest
    → ((v : Version) (raw : RawValue) → stage ≡ End v raw → rest ≢ []) → IsFirstFaulty text number
no_line text rest stage number read one open_end = record {
  before = lines_to stage;
  rest = rest;
  number = read.number_is;
  stands = read.stands;
  begins = begins stage read.is;
  stuck = λ next more e b. no_ten rest (line_bytes next) more one (e ∙ append_assoc (line_bytes next) (10 ∷ []) more);
  unfinished = λ file. open_end file.v file.raw (ended_there stage read.is file);
}

pub whole_file : (text rest : List ℕ) (v : Version) (raw : RawValue) (stage : Stage) (number : ℕ) → HasRead text stage rest number → stage ≡ End v raw → rest ≡ [] → Spells text raw
whole_file text rest v raw stage number read e none =
    let is : IsStage (End v raw) = subst IsStage e read.is in
    record { v = v; suite = is.0; spellable = is.1; stands = read.stands ∙ ap (λ t. lines_text (lines_to stage) ++ t) none ∙ append-nil (lines_text (lines_to stage)) ∙ ap (λ s. lines_text (lines_to s)) e }
