-- What is told of a command that makes a recording, where nothing failed.
use Rattle.std.proofs.Common.{◌≡◌, ◌≢◌, ℕ, Bool, true, false, List, refl, sym, subst, inl, inr}
use Rattle.anb_base.specs.Wires.{WireState}
use Rattle.anb_store.specs.Stores.{StoreState}
use Rattle.anb_status.specs.Statuses.{before_reach, is_fault, phase_of}
use Rattle.anb_status.specs.declared.status.Status.{Status}
use Rattle.anb_status.specs.declared.status.Status.TheVariants.{NoMemory}
use Rattle.anb_command.specs.Causes.{DidNotRise}
use Rattle.anb_recorded.specs.Outcomes.{CompletesInFolder, IsMissing, IsTaken, told_as}
use Rattle.anb_recorded.specs.declared.ended.Missing.{Missing}
use Rattle.anb_recorded.specs.declared.ended.Missing.TheVariants as missing
use Rattle.anb_recorded.proofs.Telling.{calm_memory}

module _ (S T : WireState) (IsMine : List ℕ → Type 0) (store store_now : StoreState) (end : Status) (missed : Missing) (why : IsMissing IsMine store store_now S T end missed)
    (calm : DidNotRise store.faults store_now.faults) (only : is_fault end ≡ true → end ≡ NoMemory) where
  -- a file was there, nothing is missing, or memory was wanting
  pub by_what_is_missing : (P : Type 0) → (IsTaken S T IsMine store store_now (told_as end missed) → P) → (missed ≡ missing.Nothing → told_as end missed ≡ end → P)
      → (told_as end missed ≡ NoMemory → P) → P
  by_what_is_missing P taken whole wanting = of missed why taken whole wanting where
    of : (m : Missing) → IsMissing IsMine store store_now S T end m → (IsTaken S T IsMine store store_now (told_as end m) → P) → (m ≡ missing.Nothing → told_as end m ≡ end → P)
        → (told_as end m ≡ NoMemory → P) → P
    of missing.Nothing is taken whole wanting = whole refl refl
    of (missing.There name) is taken whole wanting = taken (name, refl, is.0, is.1, is.3, is.4)
    of (missing.Unwritten name) is taken whole wanting = fault (is_fault end) refl where
      fault : (b : Bool) → is_fault end ≡ b → P
      fault true e = wanting (rw e (only e))
      fault false e = absurd (calm ((is (calm_memory end e)).1))
    of missing.NoMemory is taken whole wanting = fault (is_fault end) refl where
      fault : (b : Bool) → is_fault end ≡ b → P
      fault true e = wanting (rw e (only e))
      fault false e = wanting (rw e refl)

  pub completes_in_folder : (Does Has Completes : Status → Type 0) → Does end → ((phase_of end ≡ before_reach → ⊥) → end ≢ NoMemory → missed ≡ missing.Nothing → Has end)
      → Completes end → Completes NoMemory → CompletesInFolder S T IsMine store store_now (told_as end missed) Does Has Completes
  completes_in_folder Does Has Completes does has completes wants =
      by_what_is_missing (CompletesInFolder S T IsMine store store_now (told_as end missed) Does Has Completes) (λ taken. inl taken)
      (λ nothing same. inr (record {
        ends = inl (subst Does (sym same) does);
        completes = subst Completes (sym same) completes;
        recorded = λ late some. subst Has (sym same) (has (λ early. late (subst (λ (s : Status). phase_of s ≡ before_reach) (sym same) early)) (λ none. some (subst (λ (s : Status). s ≡ NoMemory) (sym same) none)) nothing);
      }))
      (λ none. inr (record { ends = inr none; completes = subst Completes (sym none) wants; recorded = λ late some. absurd (some none) }))
