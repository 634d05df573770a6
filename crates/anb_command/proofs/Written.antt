-- What is written of a text that is due.
use Rattle.std.proofs.Common.{◌≡◌, ◌⊎◌, ℕ, Bool, true, false, List, [], take, Option, Some, None, refl, ap, sym, ◌∙◌, subst, inl, inr}
use Rattle.anb_base.specs.Moves.{Put}
use Rattle.anb_base.proofs.Moving.{put_nothing}
use Rattle.anb_status.specs.declared.status.Status.{Status}
use Rattle.anb_status.specs.declared.status.Status.TheVariants.{Done, FileFault, Unreached, WriteFault, NoMemory}
use Rattle.anb_command.specs.Fetches.{Files, IfTold}
use Rattle.anb_status.specs.Statuses.{is_fault}
use Rattle.anb_command.specs.Steps.{Answer, refused, given, HasOneAnswer, IsFailure}
use Rattle.anb_command.specs.Writing.{CompletesText, Writes, IsWriting, IsWritingOne, IsWritten}
use Rattle.anb_command.proofs.Chains.{told_map}
use Rattle.anb_command.proofs.Ones.{IsSettled, RefusesQuietly, same_given, not_both}

-- no status is a fault and none
pub faulty : {P : Type 0} → true ≡ false → P
faulty never = absurd (cc)

module _ (Due : Answer (List ℕ) → Type 0) (settled : IsSettled Due) (w now : Option (List ℕ)) where
  -- the status of a refusal, with nothing written
  quiet_refusal : (s : Status) → Due (refused s) → is_fault s ≡ false → Put w now [] → IsWriting Due s w now
  quiet_refusal s due quiet put = record {
    is = λ _. ([], inl (due, refl), put);
    only = λ _. only;
    cut_short = λ fault. faulty (sym fault ∙ quiet);
  } where
    only : (t : Status) (out : List ℕ) → Writes Due t out → s ≡ t
    only t out (inl (other, is)) = settled.refuses s t due other
    only t out (inr (other, is)) = absurd (settled.apart s out due other)

  pub refusal : (s : Status) (P : List ℕ → Type 0) → RefusesQuietly Due → IsFailure s P (Due (refused s)) → Put w now [] → IsWriting Due s w now
  refusal (FileFault name) P quiet fails put = record { is = faulty; only = faulty; cut_short = λ _. ([], refl, put) }
  refusal NoMemory P quiet fails put = record { is = faulty; only = faulty; cut_short = λ _. ([], inl refl, put) }
  refusal s P quiet due put = quiet_refusal s due (quiet.each s due).0 put

  -- what comes of writing a text that is due
  pub written : (text : List ℕ) (s : Status) → Due (given text) → IsWritten text s w now → IsWriting Due s w now
  written text Done due put = record { is = λ _. (text, inr (due, refl), put); only = λ _. only; cut_short = λ fault. faulty (sym fault) } where
    only : (t : Status) (out : List ℕ) → Writes Due t out → Done ≡ t
    only t out (inl (other, is)) = absurd (settled.apart t text other due)
    only t out (inr (other, is)) = sym is
  written text WriteFault due (n, within, put) = record { is = faulty; only = faulty; cut_short = λ _. (take n text, (text, due, (n, refl)), put) }
  written text (Unreached at) due same = record { is = faulty; only = faulty; cut_short = λ _. ([], ((text, due), refl), rw same (put_nothing w)) }
  written text _ due never = absurd never

-- where no refusal is due and no fault came, it is written
pub completes_text : (Due : Answer (List ℕ) → Type 0) (w now : Option (List ℕ)) (s : Status) → IsWriting Due s w now → (is_fault s ≡ true → s ≡ NoMemory) → CompletesText Due s
completes_text Due w now s writes only_memory none = by (is_fault s) refl where
  from : (out : List ℕ) → Writes Due s out → (s ≡ Done) ⊎ (s ≡ NoMemory)
  from out (inl (due, is)) = absurd (none s due)
  from out (inr (due, is)) = inl is

  by : (b : Bool) → is_fault s ≡ b → (s ≡ Done) ⊎ (s ≡ NoMemory)
  by true fault = inr (only_memory fault)
  by false quiet = let outcome = writes.is quiet in from outcome.0 outcome.1

-- where one answer is due
pub the_one : (Due : Answer (List ℕ) → Type 0) → HasOneAnswer Due → (w now : Option (List ℕ)) (s : Status) → IsWriting Due s w now → IsWritingOne Due s w now
the_one Due one w now s writes = record { writes = writes; only = λ quiet t out. same t out (writes.is quiet) } where
  same : (t : Status) (out : List ℕ) → ((o : List ℕ) × Writes Due s o × Put w now o) → Writes Due t out → Put w now out
  same t out (o, inl (due, is), put) (inl (other, js)) = subst (λ (x : List ℕ). Put w now x) (is ∙ sym js) put
  same t out (o, inl (due, is), put) (inr (other, js)) = not_both s out (one (refused s) (given out) due other)
  same t out (o, inr (due, is), put) (inl (other, js)) = not_both t o (one (refused t) (given o) other due)
  same t out (o, inr (due, is), put) (inr (other, js)) = subst (λ (x : List ℕ). Put w now x) (same_given o out (one (given o) (given out) due other)) put

-- ---- commands whose text comes of files

module _ (Due : Files → Answer (List ℕ) → Type 0) (settled : (files : Files) → IsSettled (Due files)) (quiet : (files : Files) → RefusesQuietly (Due files)) (told : Option Files) where
  pub told_written : (w now : Option (List ℕ)) (text : List ℕ) (s : Status) → IfTold told (λ files. Due files (given text)) → IsWritten text s w now
      → IfTold told (λ files. IsWriting (Due files) s w now)
  told_written w now text s due is = told_map told (λ files d. written (Due files) (settled files) w now text s d is) due

  pub told_refusal : (w : Option (List ℕ)) (s : Status) (P : List ℕ → Type 0) → IsFailure s P (IfTold told (λ files. Due files (refused s)))
      → IfTold told (λ files. IsWriting (Due files) s w w)
  told_refusal w s P fails = by told fails where
    by : (t : Option Files) → IsFailure s P (IfTold t (λ files. Due files (refused s))) → IfTold t (λ files. IsWriting (Due files) s w w)
    by None f = tt
    by (Some files) f = refusal (Due files) (settled files) w w s P (quiet files) f (put_nothing w)
