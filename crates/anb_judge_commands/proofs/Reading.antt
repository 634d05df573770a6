-- What is asked of `judge` is one, its refusals come before the wire is reached, and what the files give.
use Rattle.std.proofs.Common.{◌≡◌, ◌≤◌, ◌<◌, ℕ, List, [], ◌∷◌, ◌⊎◌, length, drop, get_or, cond, ◌+◌, Option, Some, None, Bool, true, false, refl, ap, sym, ◌∙◌, subst, inl, inr, All, arith}
use Rattle.std.specs.List.{position_from}
use Rattle.std.proofs.lemmas.Bool.Decides.{nat_tests}
use Rattle.std.proofs.lemmas.List.Elements.{All-nil, All-cons}
use Rattle.anb_lemmas.proofs.Lists.{drop_next}
use Rattle.anb_base.specs.declared.TheConstants.{ARRIVAL}
use Rattle.anb_honest.specs.Joint.{is_long}
use Rattle.anb_judge.specs.Verdicts.{Judged, line_bytes}
use Rattle.anb_read.specs.Laws.{NarrationsAreUnique, RefusalsAreUnique, NoneIsBoth}
use Rattle.anb_protocol.specs.Texts.{known_names, known_texts}
use Rattle.anb_transcript.specs.Texts.{ReadsOne}
use Rattle.anb_transcript.specs.declared.transcript.TranscriptLine.{TranscriptLine}
use Rattle.anb_values.specs.Fit.{FitIsUnique}
use Rattle.anb_values.specs.declared.fitted.Fitted.{Fitted}
use Rattle.anb_values.specs.declared.refusal.ValuesNo.TheVariants.{Long}
use Rattle.anb_status.specs.declared.status.Status.{Status}
use Rattle.anb_status.specs.declared.status.Status.TheVariants.{BadTranscript, BadValues, NoMemory}
use Rattle.anb_command.specs.Fetches.{Files, IfTold, IsOneOf}
use Rattle.anb_command.specs.Files.{TranscriptInFile, ValuesInFile}
use Rattle.anb_command.specs.Roles.{Part, PartInFile}
use Rattle.anb_command.specs.Steps.{Answer, refused, given, HasOneAnswer, IsFailure}
use Rattle.anb_command.proofs.Chains.{told_map}
use Rattle.anb_command.proofs.Ones.{RefusesQuietly, is_one, is_quiet, part_one, part_quiet, quiet_as, then_one, then_quiet, values_in_file_one, values_in_file_quiet}
use Rattle.anb_command.proofs.Preparing.{told_both}
use Rattle.anb_command.proofs.Transcripts.{transcript_in_file_one, transcript_in_file_quiet}
use Rattle.anb_values_commands.specs.RoleValuesCommand.{first_long}
use Rattle.anb_judge_commands.specs.JudgeCommand.{InitialInFile, InitialIs, IsReadToJudge, JudgementIs, LinesAre, LinesInFile, initial_of, long_line}
use Rattle.anb_judge_commands.specs.Tasks.{judged_by}

-- ---- one answer

same_some : {A : Type 0} (x y : A) → ◌≡◌ {A = Option A} (Some x) (Some y) → x ≡ y
same_some x y e = cc

some_none : {A P : Type 0} (o : Option A) (x : A) → o ≡ None → o ≡ Some x → P
some_none o x none some = let never : ◌≡◌ {A = Option _} None (Some x) = sym none ∙ some in absurd (cc)

initial_one : (part : Part) (values : List (List ℕ)) → HasOneAnswer (InitialIs part values)
initial_one part values (refused s) (refused t) (l, is, x) (m, js, y) = ap refused (is ∙ ap (λ k. BadValues (Long k)) (same_some l m (sym x ∙ y)) ∙ sym js)
initial_one part values (refused s) (given t) (l, is, x) (none, y) = some_none _ l none x
initial_one part values (given t) (refused s) (none, x) (l, is, y) = some_none _ l none y
initial_one part values (given t) (given u) (none, x) (also, y) = ap given (x ∙ sym y)

initial_quiet : (part : Part) (values : List (List ℕ)) → RefusesQuietly (InitialIs part values)
initial_quiet part values = record { each = λ s why. quiet_as s _ why.1 (refl, refl) }

lines_one : (lines : List TranscriptLine) → HasOneAnswer (LinesAre lines)
lines_one lines (refused s) (refused t) (n, is, x) (m, js, y) = ap refused (is ∙ ap BadTranscript (same_some n m (sym x ∙ y)) ∙ sym js)
lines_one lines (refused s) (given t) (n, is, x) (none, y) = some_none _ n none x
lines_one lines (given t) (refused s) (none, x) (n, is, y) = some_none _ n none y
lines_one lines (given t) (given u) (none, x) (also, y) = ap given (x ∙ sym y)

lines_quiet : (lines : List TranscriptLine) → RefusesQuietly (LinesAre lines)
lines_quiet lines = record { each = λ s why. quiet_as s _ why.1 (refl, refl) }

module _ (narration name values transcript : List ℕ) where
  pub judgement_one : NarrationsAreUnique → RefusalsAreUnique → NoneIsBoth → FitIsUnique → ReadsOne → (files : Files) → HasOneAnswer (JudgementIs narration name values transcript files)
  judgement_one narrations refusals none fits reads files =
      then_one (PartInFile files narration name) _ (part_one narrations refusals none files narration name) (λ part.
      then_one (InitialInFile files values part) _ (then_one (ValuesInFile files values (known_names part.protocol)) _ (values_in_file_one fits files values (known_names part.protocol)) (λ fitted. initial_one part fitted.values)) (λ initial.
      then_one (LinesInFile files transcript) _ (then_one (TranscriptInFile files transcript) LinesAre (transcript_in_file_one files transcript reads) lines_one) (λ lines.
      is_one (judged_by part.protocol part.role initial lines))))

  pub judgement_quiet : (files : Files) → RefusesQuietly (JudgementIs narration name values transcript files)
  judgement_quiet files =
      then_quiet (part_quiet files narration name) (λ (part : Part).
      then_quiet (then_quiet (values_in_file_quiet files values (known_names part.protocol)) (λ (fitted : Fitted). initial_quiet part fitted.values)) (λ (initial : List (List ℕ)).
      then_quiet (then_quiet (transcript_in_file_quiet files transcript) lines_quiet) (λ (lines : List TranscriptLine). is_quiet _)))

  -- ---- the steps

  module _ (told : Option Files) where
    abbrev Due : Answer Judged → Type 0
    Due answer = IfTold told (λ files. JudgementIs narration name values transcript files answer)

    abbrev IsRead : List ℕ → Type 0
    IsRead file = IfTold told (λ files. IsReadToJudge narration name values transcript files file)

    pub narration_read : (file : List ℕ) → file ≡ narration → IsRead file
    narration_read file is = by told where
      by : (t : Option Files) → IfTold t (λ files. IsReadToJudge narration name values transcript files file)
      by None = tt
      by (Some files) = inl is

    pub part_refused : (s : Status) → IfTold told (λ files. PartInFile files narration name (refused s)) → Due (refused s)
    part_refused s first = told_map told (λ files is. inl (s, is, refl)) first

    module _ (part : Part) (first : IfTold told (λ files. PartInFile files narration name (given part))) where
      pub values_read : (file : List ℕ) → file ≡ values → IsRead file
      values_read file is = told_map told (λ files f. inr (inl (is, (part, f)))) first

      pub initial_refused : (s : Status) → IfTold told (λ files. InitialInFile files values part (refused s)) → Due (refused s)
      initial_refused s next = told_both told (λ files f is. inr (part, f, inl (s, is, refl))) first next

      module _ (initial : List (List ℕ)) (second : IfTold told (λ files. InitialInFile files values part (given initial))) where
        pub transcript_read : (file : List ℕ) → file ≡ transcript → IsRead file
        transcript_read file is = told_both told (λ files f n. inr (inr (is, (part, initial, f, n)))) first second

        abbrev Both : Files → Type 0
        Both files = PartInFile files narration name (given part) × InitialInFile files values part (given initial)

        both : IfTold told Both
        both = told_both told (λ files f n. (f, n)) first second

        pub lines_refused : (s : Status) → IfTold told (λ files. LinesInFile files transcript (refused s)) → Due (refused s)
        lines_refused s third = told_both told (λ files (b : Both files) is. inr (part, b.0, inr (initial, b.1, inl (s, is, refl)))) both third

        pub task_given : (lines : List TranscriptLine) → IfTold told (λ files. LinesInFile files transcript (given lines)) → Due (given (judged_by part.protocol part.role initial lines))
        task_given lines third = told_both told (λ files (b : Both files) is. inr (part, b.0, inr (initial, b.1, inr (lines, is, refl)))) both third

-- ---- two steps of one file

module _ (told : Option Files) (part : Part) (values : List ℕ) where
  pub values_refused : (s : Status) → IfTold told (λ files. ValuesInFile files values (known_names part.protocol) (refused s)) → IfTold told (λ files. InitialInFile files values part (refused s))
  values_refused s first = told_map told (λ files is. inl (s, is, refl)) first

  pub initial_answers : (fitted : Fitted) (answer : Answer (List (List ℕ))) → IfTold told (λ files. ValuesInFile files values (known_names part.protocol) (given fitted)) → InitialIs part fitted.values answer
      → IfTold told (λ files. InitialInFile files values part answer)
  initial_answers fitted answer first is = told_map told (λ files f. inr (fitted, f, is)) first

module _ (told : Option Files) (transcript : List ℕ) where
  pub text_refused : (s : Status) → IfTold told (λ files. TranscriptInFile files transcript (refused s)) → IfTold told (λ files. LinesInFile files transcript (refused s))
  text_refused s first = told_map told (λ files is. inl (s, is, refl)) first

  pub lines_answer : (lines : List TranscriptLine) (answer : Answer (List TranscriptLine)) → IfTold told (λ files. TranscriptInFile files transcript (given lines)) → LinesAre lines answer
      → IfTold told (λ files. LinesInFile files transcript answer)
  lines_answer lines answer first is = told_map told (λ files f. inr (lines, f, is)) first

-- ---- long values

-- the status of a value that is too long
pub long_refused : (part : Part) (values labels initial : List (List ℕ)) (label : List ℕ) (s : Status) → labels ≡ known_texts part.protocol part.role → initial ≡ initial_of part values
    → first_long labels initial ≡ Some label → (s ≡ BadValues (Long label)) ⊎ (s ≡ NoMemory) → IsFailure s (λ _. ⊥) (InitialIs part values (refused s))
long_refused part values labels initial label s ls vs long (inl is) =
    subst (λ (t : Status). IsFailure t (λ _. ⊥) (InitialIs part values (refused t))) (sym is)
    (label, refl, ap (λ l. first_long l (initial_of part values)) (sym ls) ∙ ap (first_long labels) (sym vs) ∙ long)
long_refused part values labels initial label s ls vs long (inr is) = subst (λ (t : Status). IsFailure t (λ _. ⊥) (InitialIs part values (refused t))) (sym is) tt

pub initial_given : (part : Part) (values labels initial : List (List ℕ)) → labels ≡ known_texts part.protocol part.role → initial ≡ initial_of part values → first_long labels initial ≡ None → InitialIs part values (given initial)
initial_given part values labels initial ls vs none =
    (ap (λ l. first_long l (initial_of part values)) (sym ls) ∙ ap (first_long labels) (sym vs) ∙ none, vs)

-- ---- long lines

abbrev pub long_from : ℕ → List TranscriptLine → Option ℕ
long_from n lines = position_from (λ line. is_long (line_bytes line)) n lines

next_if : (n : ℕ) (o : Option ℕ) (b : Bool) (value : List ℕ) → is_long value ≡ b → cond b (Some n) o ≡ None → (length value ≤ ARRIVAL) × (o ≡ None)
next_if n o true value e none = cc
next_if n o false value e none = (grind (arith, nat_tests, e), none)

-- where none is too long, all are short
pub none_is_long : (n : ℕ) (lines : List TranscriptLine) → long_from n lines ≡ None → All (λ line. length (line_bytes line) ≤ ARRIVAL) lines
none_is_long n [] none = All-nil (λ (line : TranscriptLine). length (line_bytes line) ≤ ARRIVAL)
none_is_long n (l ∷ ls) none =
    let parts = next_if n (long_from (n + 1) ls) (is_long (line_bytes l)) (line_bytes l) refl none in
    All-cons (λ (line : TranscriptLine). length (line_bytes line) ≤ ARRIVAL) l ls parts.0 (none_is_long (n + 1) ls parts.1)

module _ (lines : List TranscriptLine) (i : ℕ) (line : TranscriptLine) (within : i < length lines) (there : line ≡ get_or lines i line) where
  pub past_short : length (line_bytes line) ≤ ARRIVAL → long_from (i + 1) (drop i lines) ≡ long_from (i + 1 + 1) (drop (i + 1) lines)
  past_short short =
      let fine : is_long (line_bytes line) ≡ false = grind (arith, nat_tests, short) in
      ap (long_from (i + 1)) (drop_next lines i line within there) ∙ ap (λ b. cond b (Some (i + 1)) (long_from (i + 1 + 1) (drop (i + 1) lines))) fine

  pub at_long : ARRIVAL < length (line_bytes line) → long_from (i + 1) (drop i lines) ≡ Some (i + 1)
  at_long long =
      let far : is_long (line_bytes line) ≡ true = grind (arith, nat_tests, long) in
      ap (long_from (i + 1)) (drop_next lines i line within there) ∙ ap (λ b. cond b (Some (i + 1)) (long_from (i + 1 + 1) (drop (i + 1) lines))) far
