-- What is asked of `enact`, and when it completes.
use Rattle.std.proofs.Common.{◌≡◌, ◌⊎◌, ℕ, Bool, true, false, List, Option, Some, None, refl, ap, ◌∙◌, subst, inl, inr}
use Rattle.anb_base.specs.Bytes.{IsBytes}
use Rattle.anb_base.specs.Wires.{WireState}
use Rattle.anb_base.specs.declared.TheConstants.{ARRIVAL}
use Rattle.anb_code.specs.CodeValue.{CodeValue}
use Rattle.anb_frame.specs.Cuts.{Tail, Cut}
use Rattle.anb_machine.specs.ByteRuns.{run_bytes}
use Rattle.anb_plays.specs.Plays.{Played, done}
use Rattle.anb_status.specs.declared.status.Status.{Status}
use Rattle.anb_status.specs.declared.status.Status.TheVariants.{Done, NoMemory}
use Rattle.anb_command.specs.Errands.{Errand, ErrandOf}
use Rattle.anb_command.specs.Fetches.{Files, IfTold}
use Rattle.anb_command.specs.Files.{CodeInFile}
use Rattle.anb_command.specs.Outcomes.{IsOutcome, Outcome, status_at}
use Rattle.anb_command.specs.Prepared.{IsReady}
use Rattle.anb_status.specs.Statuses.{is_fault}
use Rattle.anb_command.specs.Steps.{Answer, refused, given, HasOneAnswer}
use Rattle.anb_command.proofs.Chains.{told_map}
use Rattle.anb_command.proofs.Ones.{same_given, not_both}
use Rattle.anb_command.proofs.Preparing.{told_both}
use Rattle.anb_role_commands.specs.EnactCommand.{CompletesEnact, DoesEnact, ErrandIs, IsReadFor, RunOf}

module _ (told : Option Files) (code values : List ℕ) (host_seed : Option (List ℕ)) where
  pub code_refused : (s : Status) → IfTold told (λ files. CodeInFile files code (refused s)) → IfTold told (λ files. ErrandIs files code values host_seed (refused s))
  code_refused s first = told_map told (λ files f. inl (s, f, refl)) first

  pub errand_answers : (loaded : CodeValue) (answer : Answer Errand) → IfTold told (λ files. CodeInFile files code (given loaded)) → IfTold told (λ files. ErrandOf files values host_seed loaded answer)
      → IfTold told (λ files. ErrandIs files code values host_seed answer)
  errand_answers loaded answer first next = told_both told (λ files f n. inr (loaded, f, n)) first next

  pub code_read : (file : List ℕ) → file ≡ code → IfTold told (λ files. IsReadFor files code values file)
  code_read file is = by told where
    by : (t : Option Files) → IfTold t (λ files. IsReadFor files code values file)
    by None = tt
    by (Some files) = inl is

  pub values_read : (loaded : CodeValue) (file : List ℕ) → IfTold told (λ files. CodeInFile files code (given loaded)) → file ≡ values → IfTold told (λ files. IsReadFor files code values file)
  values_read loaded file first is = told_map told (λ files f. inr (is, (loaded, f))) first

-- ---- a run

pub errand_ready : (told : Option Files) (code values : List ℕ) (host_seed : Option (List ℕ)) (errand : Errand) → IfTold told (λ files. ErrandIs files code values host_seed (given errand))
    → IfTold told (λ files. IsReady RunOf (ErrandIs files code values host_seed) (run_bytes errand.code errand.initial errand.seed 0))
errand_ready told code values host_seed errand asks = told_map told (λ files is. record { asked = errand; asks = is; comes = λ arrivals bytes p. (λ same. same, λ same. same) }) asks

-- ---- where nothing failed

module _ (Prepares : Answer Errand → Type 0) (one : HasOneAnswer Prepares) (left : List ℕ) (arrivals : List (List ℕ)) (tail : Tail) (s : Status) (now written written_now : Option (List ℕ)) where
  is_done : (errand : Errand) → Prepares (given errand) → (run_bytes errand.code errand.initial errand.seed 0 arrivals).end ≡ done
      → (out rest : List ℕ) → Outcome RunOf Prepares left arrivals tail s out rest → s ≡ Done
  is_done errand asks ends out rest (inl refusal) = not_both s errand (one (refused s) (given errand) refusal.refuses asks)
  is_done errand asks ends out rest (inr (other, also, played)) =
      let same : other ≡ errand = same_given other errand (one (given other) (given errand) also asks) in
      let is : played.play ≡ run_bytes errand.code errand.initial errand.seed 0 arrivals = subst (λ (e : Errand). played.play ≡ run_bytes e.code e.initial e.seed 0 arrivals) same played.plays in
      played.status_is ∙ ap (λ (p : Played (List ℕ)). status_at p.end tail) is ∙ ap (λ e. status_at e tail) ends

  ends_done : IsOutcome RunOf Prepares left arrivals tail s now written written_now → (is_fault s ≡ true → s ≡ NoMemory) → (errand : Errand) → Prepares (given errand)
      → (run_bytes errand.code errand.initial errand.seed 0 arrivals).end ≡ done → (s ≡ Done) ⊎ (s ≡ NoMemory)
  ends_done outcome only_memory errand asks ends = by (is_fault s) refl where
    by : (b : Bool) → is_fault s ≡ b → (s ≡ Done) ⊎ (s ≡ NoMemory)
    by true fault = inr (only_memory fault)
    by false quiet = let o = outcome.is quiet in inl (is_done errand asks ends o.0 o.1 o.2)

module _ (code values : List ℕ) (host_seed : Option (List ℕ)) (one : (files : Files) → HasOneAnswer (ErrandIs files code values host_seed)) where
  completes_over : (files : Files) (left now written written_now : Option (List ℕ)) (s : Status)
      → IfTold left (λ input. (arrivals : List (List ℕ)) (tail : Tail) → IsBytes input → Cut ARRIVAL input arrivals tail
      → IsOutcome RunOf (ErrandIs files code values host_seed) input arrivals tail s now written written_now)
      → (is_fault s ≡ true → s ≡ NoMemory)
      → IfTold left (λ input. (errand : Errand) (arrivals : List (List ℕ)) (tail : Tail)
      → IsBytes input → Cut ARRIVAL input arrivals tail → ErrandIs files code values host_seed (given errand)
      → (run_bytes errand.code errand.initial errand.seed 0 arrivals).end ≡ done → (s ≡ Done) ⊎ (s ≡ NoMemory))
  completes_over files None now written written_now s outcome only_memory = tt
  completes_over files (Some left) now written written_now s outcome only_memory = λ errand arrivals tail bytes cut asks ends.
      ends_done (ErrandIs files code values host_seed) (one files) left arrivals tail s now written written_now (outcome arrivals tail bytes cut) only_memory errand asks ends

  pub completes_enact : (told : Option Files) (old new : WireState) (s : Status) → DoesEnact code values told host_seed old new s → (is_fault s ≡ true → s ≡ NoMemory)
      → CompletesEnact code values told host_seed old new s
  completes_enact told old new s does only_memory =
      told_map told (λ files outcome. completes_over files old.left new.left old.written new.written s outcome only_memory) does.outcome
