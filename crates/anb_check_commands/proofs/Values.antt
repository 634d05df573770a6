-- From a verdict on values to what `check` does with them.
use Rattle.std.proofs.Common.{◌≡◌, ◌⊎◌, ◌≤◌, ℕ, Bool, true, false, List, [], ◌∷◌, take, Option, Some, None, Ok, Err, refl, ap, sym, ◌∙◌, subst, inl, inr}
use Rattle.anb_base.specs.Moves.{Put, Rose}
use Rattle.anb_base.specs.Places.{line_of}
use Rattle.anb_base.specs.Wires.{WireState}
use Rattle.anb_base.specs.declared.place.Place.TheVariants.{Stdio}
use Rattle.anb_base.proofs.Moving.{Rose-later, put_nothing}
use Rattle.anb_read.specs.Laws.{NarrationsAreUnique, RefusalsAreUnique, NoneIsBoth}
use Rattle.anb_protocol.specs.Texts.{known_texts}
use Rattle.anb_values.specs.Fit.{FitIsUnique, Outcome}
use Rattle.anb_values.specs.declared.refusal.ValuesNo.{ValuesNo}
use Rattle.anb_command.specs.declared.limits.TheConstants.{VALUES_LIMIT}
use Rattle.anb_status.specs.declared.status.Status.{Status}
use Rattle.anb_status.specs.declared.status.Status.TheVariants.{BadValues, Done, FileFault, FileLong, Unreached, WriteFault, NoMemory}
use Rattle.anb_status.specs.Statuses.{IsEarly, Phase, after_reach, is_fault}
use Rattle.anb_command.specs.Fetches.{Files, IfTold, IsOneOf}
use Rattle.anb_command.specs.Files.{FileIs, HasFile, HasLonger}
use Rattle.anb_command.specs.Phases.{values_phase}
use Rattle.anb_command.specs.Reaches.{Reaches}
use Rattle.anb_command.specs.Roles.{Part, PartInFile}
use Rattle.anb_command.specs.Steps.{HasOneAnswer, IsFailure, refused, given}
use Rattle.anb_command.specs.Touches.{Touches}
use Rattle.anb_command.specs.Writing.{IsWritten}
use Rattle.anb_command.proofs.Causes.{early_reaches}
use Rattle.anb_command.proofs.Chains.{told_map}
use Rattle.anb_command.proofs.Failing.{IsFailure-map}
use Rattle.anb_command.proofs.Ones.{RefusesQuietly, file_one, file_quiet, is_one, is_quiet, not_both, part_one, part_quiet, same_given, same_refusal, then_one, then_quiet}
use Rattle.anb_command.proofs.Preparing.{told_both}
use Rattle.anb_command.proofs.Written.{faulty}
use Rattle.anb_check_commands.specs.CheckValues.{CompletesCheckValues, Finds, HasStatus, IsFinding, IsReadToCheck, IsValuesVerdict, ValuesText, ValuesTextIs, values_text}
use Rattle.anb_check_commands.specs.Telling.{IsBeforeValues, IsLastOfValues, IsTold, ended_by}

-- ---- when a status comes

pub early_values : (s : Status) (r : Option (List ℕ)) → IsEarly s → IsBeforeValues s → Reaches (Some Stdio) (values_phase s) r r
early_values (BadValues why) r early before = absurd before
early_values s r early before = early_reaches Stdio s r early

pub last_reaches : (s : Status) (old new : Option (List ℕ)) → IsLastOfValues s → Put old new (line_of Stdio) → Reaches (Some Stdio) (values_phase s) old new
last_reaches s old new last put = subst (λ (p : Phase). Reaches (Some Stdio) p old new) (sym last.late) put

pub last_touches : (s : Status) (S T : WireState) → IsLastOfValues s → Touches false after_reach S T → Touches false (values_phase s) S T
last_touches s S T last touches = subst (λ (p : Phase). Touches false p S T) (sym last.late) touches

-- ---- the steps

module _ (narration name values : List ℕ) (told : Option Files) where
  pub narration_read : (file : List ℕ) → file ≡ narration → IfTold told (λ files. IsReadToCheck files narration name values file)
  narration_read file is = by told where
    by : (t : Option Files) → IfTold t (λ files. IsReadToCheck files narration name values file)
    by None = tt
    by (Some files) = inl is

  pub part_refused : (s : Status) → IfTold told (λ files. PartInFile files narration name (refused s)) → IfTold told (λ files. ValuesTextIs files narration name values (refused s))
  part_refused s first = told_map told (λ files is. inl (s, is, refl)) first

  module _ (part : Part) (first : IfTold told (λ files. PartInFile files narration name (given part))) where
    pub values_read : (file : List ℕ) → file ≡ values → IfTold told (λ files. IsReadToCheck files narration name values file)
    values_read file is = told_map told (λ files f. inr (is, (part, f))) first

    pub file_refused : (s : Status) → IfTold told (λ files. FileIs files values VALUES_LIMIT (refused s)) → IfTold told (λ files. ValuesTextIs files narration name values (refused s))
    file_refused s next = told_both told (λ files f is. inr (part, f, inl (s, is, refl))) first next

    pub text_given : (text : List ℕ) → IfTold told (λ files. HasFile files values VALUES_LIMIT text)
        → IfTold told (λ files. ValuesTextIs files narration name values (given (values_text (known_texts part.protocol part.role) text)))
    text_given text next = told_both told (λ files f is. inr (part, f, inr (text, is, refl))) first next

  -- ---- their refusals

  module _ (faults faults_now : List ℕ → ℕ) where
    abbrev Fails : Status → Type 0
    Fails s = IsFailure s (λ file. IsOneOf (narration ∷ values ∷ []) file × Rose (faults file) (faults_now file) × IfTold told (λ files. IsReadToCheck files narration name values file))
        (IfTold told (λ files. ValuesTextIs files narration name values (refused s)))

    pub part_fails : (s : Status) → IsFailure s (λ file. (file ≡ narration) × Rose (faults file) (faults_now file)) (IfTold told (λ files. PartInFile files narration name (refused s))) → Fails s
    part_fails s fails = IsFailure-map s _ _ _ _ (λ file at. (inl at.0, at.1, narration_read file at.0)) (λ due. part_refused s due) fails

    pub text_fails : (between : List ℕ → ℕ) (part : Part) → IfTold told (λ files. PartInFile files narration name (given part)) → ((file : List ℕ) → faults file ≤ between file)
        → (s : Status) → IsFailure s (λ file. (file ≡ values) × Rose (between file) (faults_now file)) ((s ≡ FileLong values) × IfTold told (λ files. HasLonger files values VALUES_LIMIT)) → Fails s
    text_fails between part first later s fails =
        IsFailure-map s _ _ _ _ (λ file at. (inr (inl at.0), Rose-later _ _ _ (later file) at.1, values_read part first file at.0))
        (λ is. file_refused part first s (told_map told (λ files longer. (is.0, longer)) is.1)) fails

-- ---- one status

module _ (fits : FitIsUnique) (asked : ValuesText) where
  same_no : (why other : ValuesNo) → ◌≡◌ {A = Outcome} (Err why) (Err other) → why ≡ other
  same_no why other e = cc

  same_end : (s t : Status) → HasStatus asked s → HasStatus asked t → s ≡ t
  same_end s t (inl (why, is, f)) (inl (other, js, g)) = is ∙ ap BadValues (same_no why other (fits asked.text asked.names (Err why) (Err other) f g)) ∙ sym js
  same_end s t (inl (why, is, f)) (inr (fitted, g, done)) = absurd (let never : ◌≡◌ {A = Outcome} (Err why) (Ok fitted) = fits asked.text asked.names (Err why) (Ok fitted) f g in cc)
  same_end s t (inr (fitted, f, done)) (inl (why, js, g)) = absurd (let never : ◌≡◌ {A = Outcome} (Err why) (Ok fitted) = fits asked.text asked.names (Err why) (Ok fitted) g f in cc)
  same_end s t (inr (fitted, f, done)) (inr (other, g, also)) = done ∙ sym also

module _ (narrations : NarrationsAreUnique) (refusals : RefusalsAreUnique) (none : NoneIsBoth) (fits : FitIsUnique) (narration name values : List ℕ) where
  module _ (files : Files) where
    Asks : HasOneAnswer (ValuesTextIs files narration name values)
    Asks =
        then_one (PartInFile files narration name) _ (part_one narrations refusals none files narration name) (λ part.
        then_one (FileIs files values VALUES_LIMIT) _ (file_one files values VALUES_LIMIT) (λ text. is_one (values_text (known_texts part.protocol part.role) text)))

    quiet : RefusesQuietly (ValuesTextIs files narration name values)
    quiet = then_quiet (part_quiet files narration name) (λ (part : Part). then_quiet (file_quiet files values VALUES_LIMIT) (λ (text : List ℕ). is_quiet _))

    same_found : (s t : Status) (out other : List ℕ) → Finds files narration name values s out → Finds files narration name values t other → s ≡ t
    same_found s t out other (inl (due, is)) (inl (also, js)) = same_refusal s t (Asks (refused s) (refused t) due also)
    same_found s t out other (inl (due, is)) (inr (asked, f, on)) = not_both s asked (Asks (refused s) (given asked) due f)
    same_found s t out other (inr (asked, f, on)) (inl (also, js)) = not_both t asked (Asks (refused t) (given asked) also f)
    same_found s t out other (inr (asked, f, on)) (inr (others, g, also)) =
        let same : asked ≡ others = same_given asked others (Asks (given asked) (given others) f g) in
        same_end fits asked s t on.ends (subst (λ (a : ValuesText). HasStatus a t) (sym same) also.ends)

    module _ (w now : Option (List ℕ)) where
      concluded : (s : Status) (out : List ℕ) → is_fault s ≡ false → Finds files narration name values s out → Put w now out → IsFinding files narration name values s w now
      concluded s out calm finds put = record {
        is = λ _. (out, finds, put);
        only = λ _ t other also. same_found s t out other finds also;
        cut_short = λ fault. faulty (sym fault ∙ calm);
      }

      unmoved : now ≡ w → Put w now []
      unmoved e = subst (λ (v : Option (List ℕ)). Put w v []) (sym e) (put_nothing w)

      module _ (asked : ValuesText) (asks : ValuesTextIs files narration name values (given asked)) (status : Status) (said : List ℕ) (last : IsLastOfValues status) (on : IsValuesVerdict values asked status said) where
        by_writing : (writing : Status) → IsWritten said writing w now → IsFinding files narration name values (ended_by status writing) w now
        by_writing Done put = concluded status said last.calm (inr (asked, asks, on)) put
        by_writing WriteFault (n, within, put) = record { is = faulty; only = faulty; cut_short = λ _. (take n said, (asked, status, said, asks, on, (n, refl)), put) }
        by_writing (Unreached at) same = record { is = faulty; only = faulty; cut_short = λ _. ([], ((asked, asks), refl), unmoved same) }
        by_writing _ never = absurd never

        finding : (result : Status) → IsTold status said result w now → IsFinding files narration name values result w now
        finding result told = subst (λ (t : Status). IsFinding files narration name values t w now) (sym told.ends) (by_writing told.writing told.writes)

    no_memory : (w : Option (List ℕ)) → IsFinding files narration name values NoMemory w w
    no_memory w = record { is = faulty; only = faulty; cut_short = λ _. ([], refl, put_nothing w) }

    refusing : (w : Option (List ℕ)) (s : Status) → IsFailure s (λ file. IsReadToCheck files narration name values file) (ValuesTextIs files narration name values (refused s)) → IsFinding files narration name values s w w
    refusing w (FileFault file) fails = record { is = faulty; only = faulty; cut_short = λ _. ([], (refl, fails), put_nothing w) }
    refusing w NoMemory fails = no_memory w
    refusing w s fails = concluded w w s [] (quiet.each s fails).0 (inl (fails, refl)) (put_nothing w)

  module _ (told : Option Files) where
    pub does_found : (w now : Option (List ℕ)) (asked : ValuesText) (status : Status) (said : List ℕ) (result : Status) → IfTold told (λ files. ValuesTextIs files narration name values (given asked))
        → IsValuesVerdict values asked status said → IsLastOfValues status → IsTold status said result w now → IfTold told (λ files. IsFinding files narration name values result w now)
    does_found w now asked status said result asks on last is = told_map told (λ files f. finding files w now asked f status said last on result is) asks

    pub does_want : (w : Option (List ℕ)) (asked : ValuesText) → IfTold told (λ files. ValuesTextIs files narration name values (given asked)) → IfTold told (λ files. IsFinding files narration name values NoMemory w w)
    does_want w asked asks = told_map told (λ files f. no_memory files w) asks

  pub does_refused : (told : Option Files) (w : Option (List ℕ)) (s : Status)
      → IsFailure s (λ file. IfTold told (λ files. IsReadToCheck files narration name values file)) (IfTold told (λ files. ValuesTextIs files narration name values (refused s)))
      → IfTold told (λ files. IsFinding files narration name values s w w)
  does_refused None w s fails = tt
  does_refused (Some files) w s fails = refusing files w s fails

-- where nothing failed
pub completes_values : (narration name values : List ℕ) (told : Option Files) (w now : Option (List ℕ)) (s : Status) → IfTold told (λ files. IsFinding files narration name values s w now) → (is_fault s ≡ true → s ≡ NoMemory)
    → CompletesCheckValues narration name values told s
completes_values narration name values told w now s does only_memory = told_map told (λ files finds. by files finds (is_fault s) refl) does where
  by : (files : Files) → IsFinding files narration name values s w now → (b : Bool) → is_fault s ≡ b → ((out : List ℕ) × Finds files narration name values s out) ⊎ (s ≡ NoMemory)
  by files finds true fault = inr (only_memory fault)
  by files finds false calm = let is = finds.is calm in inl (is.0, is.1)
