-- What is written of the chart of a protocol.
use Rattle.std.proofs.Common.{◌≡◌, ℕ, true, List, Option, refl, ap, sym, subst, inl, inr, ◌∙◌}
use Rattle.anb_syntax.specs.Grammar.{Narration}
use Rattle.anb_read.specs.declared.refusal.ReadNo.{ReadNo}
use Rattle.anb_protocol.specs.Protocols.{ProtocolValue}
use Rattle.anb_read.specs.Laws.{NarrationsAreUnique, RefusalsAreUnique, NoneIsBoth}
use Rattle.anb_status.specs.declared.status.Status.{Status}
use Rattle.anb_status.specs.declared.status.Status.TheVariants.{ChildFault, ChildSilent, FileFault, Unreached, WriteFault, NoMemory}
use Rattle.anb_command.specs.Fetches.{Files, IfTold}
use Rattle.anb_command.specs.Files.{FileIs, ProtocolIs}
use Rattle.anb_command.specs.declared.limits.TheConstants.{NARRATION_LIMIT}
use Rattle.anb_choice.specs.Laws.{ChoicesAreUnique, NoneIsBoth as NoChoiceIsRefused}
use Rattle.anb_status.specs.Statuses.{is_fault}
use Rattle.anb_command.specs.Steps.{Answer, AnswersWith, refused, given, HasOneAnswer, InTurn, IsFailure}
use Rattle.anb_command.specs.Writing.{Writes, WritesLess, IsWriting, IsWritingOne, IsWritten}
use Rattle.anb_base.proofs.Moving.{put_nothing}
use Rattle.anb_command.proofs.Chains.{first_refused, told_map}
use Rattle.anb_command.proofs.Failing.{IsFailure-map}
use Rattle.anb_command.proofs.Ones.{IsQuiet, RefusesQuietly, file_one, file_quiet, is_one, is_quiet, not_both, one_settled, protocol_one, protocol_quiet, quiet_as, same_refusal, then_one, then_quiet}
use Rattle.anb_command.proofs.Written.{completes_text, refusal, the_one, told_refusal, written}
use Rattle.anb_chart_commands.specs.ReportCommands.{ChartOf, ChartText, ChoiceIs, CompletesChart, OneIs, Told, ToldInFile, ToldIs, branched, chart_of, one}

-- ---- one text

module _ (text : List ℕ) (w now : Option (List ℕ)) where
  pub writes_one : (s : Status) → IsWritten text s w now → IsWritingOne (AnswersWith text) s w now
  writes_one s is = the_one (AnswersWith text) (is_one text) w now s (written (AnswersWith text) (one_settled (AnswersWith text) (is_one text)) w now text s refl is)

-- memory is wanting before it is written
pub writes_none : (text : List ℕ) (w : Option (List ℕ)) → IsWritingOne (AnswersWith text) NoMemory w w
writes_none text w =
    the_one (AnswersWith text) (is_one text) w w NoMemory (refusal (AnswersWith text) (one_settled (AnswersWith text) (is_one text)) w w NoMemory (λ file. ⊥) (is_quiet text) tt (put_nothing w))

-- ---- behind a step that gives something

module _ {A : Type 0} (First : Answer A → Type 0) (Next : A → Answer (List ℕ) → Type 0) (a : A) (first : First (given a)) where
  there : (s : Status) (out : List ℕ) → Writes (Next a) s out → Writes (InTurn First Next) s out
  there s out (inl (due, is)) = inl (inr (a, first, due), is)
  there s out (inr (due, is)) = inr (inr (a, first, due), is)

  less : (s : Status) (out : List ℕ) → WritesLess (Next a) s out → WritesLess (InTurn First Next) s out
  less WriteFault out (text, due, part) = (text, inr (a, first, due), part)
  less NoMemory out (inl none) = inl none
  less NoMemory out (inr (text, due, part)) = inr (text, inr (a, first, due), part)
  less (Unreached place) out ((text, due), none) = ((text, inr (a, first, due)), none)
  less (FileFault name) out none = none
  less (ChildFault child) out none = none
  less (ChildSilent child seconds) out none = none
  less _ out never = absurd never

module _ {A : Type 0} (First : Answer A → Type 0) (Next : A → Answer (List ℕ) → Type 0) (one : HasOneAnswer (InTurn First Next)) (s : Status) where
  same_status : (t : Status) (o out : List ℕ) → Writes (InTurn First Next) s o → Writes (InTurn First Next) t out → s ≡ t
  same_status t o out (inl (due, is)) (inl (other, js)) = same_refusal s t (one (refused s) (refused t) due other)
  same_status t o out (inl (due, is)) (inr (other, js)) = not_both s out (one (refused s) (given out) due other)
  same_status t o out (inr (due, is)) (inl (other, js)) = not_both t o (one (refused t) (given o) other due)
  same_status t o out (inr (due, is)) (inr (other, js)) = is ∙ sym js

  pub writing_then : (a : A) → First (given a) → (w now : Option (List ℕ)) → IsWriting (Next a) s w now → IsWriting (InTurn First Next) s w now
  writing_then a first w now writing = record {
    is = λ quiet. let o = writing.is quiet in (o.0, there First Next a first s o.0 o.1, o.2);
    only = λ quiet t out other. let o = writing.is quiet in same_status t o.0 out (there First Next a first s o.0 o.1) other;
    cut_short = λ fault. let o = writing.cut_short fault in (o.0, less First Next a first s o.0 o.1, o.2);
  }

-- ---- `chart`

told_one : NarrationsAreUnique → RefusalsAreUnique → NoneIsBoth → ChoicesAreUnique → NoChoiceIsRefused → (x : List ℕ) → HasOneAnswer (ToldIs x)
told_one narrations refusals none choices no_choice x = is where
  choice_one : (why : ReadNo) → HasOneAnswer (ChoiceIs x why)
  choice_one why (refused s) (refused t) a b = ap refused (a.0 ∙ sym b.0)
  choice_one why (refused s) (given (one p)) a b = absurd b
  choice_one why (refused s) (given (branched c)) a b = absurd (no_choice x c a.1.0 b.0 b.1 a.1.1)
  choice_one why (given (one p)) t a b = absurd a
  choice_one why (given (branched c)) (refused t) a b = absurd (no_choice x c b.1.0 a.0 a.1 b.1.1)
  choice_one why (given (branched c)) (given (one p)) a b = absurd b
  choice_one why (given (branched c)) (given (branched d)) a b = ap (λ z. given (branched z)) (choices x c d a.0 b.0)

  narration_told : (n : Narration) → HasOneAnswer (OneIs n)
  narration_told n = then_one (ProtocolIs n) (λ p. AnswersWith (one p)) (protocol_one n) (λ p. is_one (one p))

  is : HasOneAnswer (ToldIs x)
  is s t (inl (n, told, a)) (inl (m, also, b)) = narration_told n s t a (subst (λ (z : Narration). OneIs z t) (narrations x m n also told) b)
  is s t (inl (n, told, a)) (inr (why, unread, b)) = absurd (none x n why told unread)
  is s t (inr (why, unread, a)) (inl (n, told, b)) = absurd (none x n why told unread)
  is s t (inr (why, unread, a)) (inr (other, also, b)) = choice_one why s t a (subst (λ (z : ReadNo). ChoiceIs x z t) (refusals x other why also unread) b)

told_quiet : (x : List ℕ) → RefusesQuietly (ToldIs x)
told_quiet x = record { each = by } where
  by : (s : Status) → ToldIs x (refused s) → IsQuiet s
  by s (inl (n, told, a)) = (then_quiet (protocol_quiet n) (λ (p : ProtocolValue). is_quiet (one p))).each s a
  by s (inr (why, unread, a)) = quiet_as s _ a.0 (refl, refl)

chart_quiet : (narration : List ℕ) (files : Files) → RefusesQuietly (ChartText files narration)
chart_quiet narration files = then_quiet (then_quiet (file_quiet files narration NARRATION_LIMIT) told_quiet) (λ (t : Told). is_quiet (chart_of t))

module _ (narrations : NarrationsAreUnique) (refusals : RefusalsAreUnique) (none : NoneIsBoth) (choices : ChoicesAreUnique) (no_choice : NoChoiceIsRefused)
    (told : Option Files) (narration : List ℕ) where
  chart_one : (files : Files) → HasOneAnswer (ChartText files narration)
  chart_one files =
      then_one (ToldInFile files narration) ChartOf
      (then_one (FileIs files narration NARRATION_LIMIT) ToldIs (file_one files narration NARRATION_LIMIT) (told_one narrations refusals none choices no_choice)) (λ t. is_one (chart_of t))

  as_one : (w now : Option (List ℕ)) (s : Status) → IfTold told (λ files. IsWriting (ChartText files narration) s w now) → IfTold told (λ files. IsWritingOne (ChartText files narration) s w now)
  as_one w now s is = told_map told (λ files writing. the_one (ChartText files narration) (chart_one files) w now s writing) is

  pub writes_chart : (w now : Option (List ℕ)) (t : Told) (s : Status) → IfTold told (λ files. ToldInFile files narration (given t)) → IsWritingOne (ChartOf t) s w now
      → IfTold told (λ files. IsWritingOne (ChartText files narration) s w now)
  writes_chart w now t s first is =
      as_one w now s (told_map told (λ files f. writing_then (ToldInFile files narration) ChartOf (chart_one files) s t f w now is.writes) first)

  pub refuses_chart : (w : Option (List ℕ)) (s : Status) (P : List ℕ → Type 0) → IsFailure s P (IfTold told (λ files. ToldInFile files narration (refused s)))
      → IfTold told (λ files. IsWritingOne (ChartText files narration) s w w)
  refuses_chart w s P fails =
      let refusal = IsFailure-map s P P _ _ (λ file at. at) (first_refused (λ files. ToldInFile files narration) ChartOf told s) fails in
      as_one w w s (told_refusal (λ files. ChartText files narration) (λ files. one_settled (ChartText files narration) (chart_one files)) (chart_quiet narration) told w s P refusal)

-- where nothing failed
pub completes_chart : (told : Option Files) (narration : List ℕ) (w now : Option (List ℕ)) (s : Status) → IfTold told (λ files. IsWritingOne (ChartText files narration) s w now)
    → (is_fault s ≡ true → s ≡ NoMemory) → CompletesChart narration told s
completes_chart told narration w now s does only_memory = told_map told (λ files one. completes_text (ChartText files narration) w now s one.writes only_memory) does
