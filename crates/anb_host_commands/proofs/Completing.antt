-- Serving an input of whole frames is done.
use Rattle.std.proofs.Common.{◌≡◌, ◌⊎◌, ℕ, ◌<◌, ◌≤◌, cond, Bool, true, false, List, [], length, Option, Some, None, refl, ap, sym, ◌∙◌, inl, inr, arith}
use Rattle.std.proofs.lemmas.List.{drop_all, take_all}
use Rattle.anb_lemmas.proofs.Numbers.{is_below}
use Rattle.anb_base.specs.Bytes.{IsBytes}
use Rattle.anb_base.specs.Wires.{WireState}
use Rattle.anb_host.specs.declared.event.HostEvent.{HostEvent}
use Rattle.anb_host.specs.HostFrames.{Tail, End, HostFrames}
use Rattle.anb_status.specs.declared.status.Status.{Status}
use Rattle.anb_status.specs.declared.status.Status.TheVariants.{Done, Spent, NoMemory}
use Rattle.anb_command.specs.Fetches.{Files, IfTold}
use Rattle.anb_status.specs.Statuses.{is_fault}
use Rattle.anb_command.specs.Steps.{Answer, refused, given, HasOneAnswer}
use Rattle.anb_command.proofs.Chains.{told_map}
use Rattle.anb_command.proofs.Ones.{not_both}
use Rattle.anb_role_commands.specs.Jobs.{Job, JobIs}
use Rattle.anb_host_commands.specs.declared.hosting.TheConstants.{FRAMES}
use Rattle.anb_host_commands.specs.HostCommand.{CompletesHost, DoesHost, IsServing, handled, read_of_input, sizes, status_of_input}
use Rattle.anb_host_commands.proofs.Sizes.{frames_size}

module _ (Asks : Answer Job → Type 0) (one : HasOneAnswer Asks) (left : List ℕ) (S T : WireState) (s : Status) (only_memory : is_fault s ≡ true → s ≡ NoMemory) where
  completes_over : (job : Job) (events : List HostEvent) → Asks (given job) → HostFrames left events End → length events < FRAMES → IsServing Asks left events End S T s
      → ((s ≡ Done) × (T.left ≡ Some [])) ⊎ (s ≡ NoMemory)
  completes_over job events asks frames few serving = by (is_fault s) refl where
    below : status_of_input events End ≡ Done
    below = ap (λ b. cond b Done (Spent FRAMES)) (is_below (length events) FRAMES few)

    all_read : length left ≤ read_of_input events End
    all_read =
        let size : length left ≡ sizes (handled events) = frames_size left events frames ∙ ap sizes (sym (take_all FRAMES events (omega (arith, few)))) in
        omega (arith, size)

    by : (b : Bool) → is_fault s ≡ b → ((s ≡ Done) × (T.left ≡ Some [])) ⊎ (s ≡ NoMemory)
    by true fault = inr (only_memory fault)
    by false quiet =
        let o = serving.is quiet in
        elim o.2 [
          | inl r ↦ not_both s job (one (refused s) (given job) r.refuses asks)
          | inr played ↦ let served = played.2 in inl (served.status_is ∙ below, o.4 ∙ ap Some (served.leaves ∙ drop_all (read_of_input events End) left all_read))
        ]

module _ (narration name values : List ℕ) (host_seed : Option (List ℕ)) (one : (files : Files) → HasOneAnswer (JobIs files narration name values host_seed)) where
  abbrev Asks : Files → Answer Job → Type 0
  Asks files = JobIs files narration name values host_seed

  completes_input : (files : Files) (before : Option (List ℕ)) (S T : WireState) (s : Status) → (is_fault s ≡ true → s ≡ NoMemory)
      → IfTold before (λ left. (events : List HostEvent) (tail : Tail) → IsBytes left → HostFrames left events tail → IsServing (Asks files) left events tail S T s)
      → IfTold before (λ left. (job : Job) (events : List HostEvent) → IsBytes left → Asks files (given job) → HostFrames left events End → length events < FRAMES
      → ((s ≡ Done) × (T.left ≡ Some [])) ⊎ (s ≡ NoMemory))
  completes_input files None S T s only_memory outcome = tt
  completes_input files (Some left) S T s only_memory outcome = λ job events bytes asks frames few.
      completes_over (Asks files) (one files) left S T s only_memory job events asks frames few (outcome events End bytes frames)

  pub completes_host : (told : Option Files) (S T : WireState) (s : Status) → DoesHost narration name values told host_seed S T s → (is_fault s ≡ true → s ≡ NoMemory)
      → CompletesHost narration name values told host_seed S T s
  completes_host told S T s does only_memory = told_map told (λ files outcome. completes_input files S.left S T s only_memory outcome) does.outcome
