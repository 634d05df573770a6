-- What is answered after a run over the wire, and where there is nothing to run.
use Rattle.std.proofs.Common.{◌≡◌, ℕ, false, List, [], Option, Some, None, refl, ap, sym, ◌∙◌, subst, inl, inr}
use Rattle.anb_base.specs.Bytes.{IsBytes}
use Rattle.anb_base.specs.Moves.{Put}
use Rattle.anb_base.specs.Wires.{WireState}
use Rattle.anb_base.specs.declared.TheConstants.{ARRIVAL}
use Rattle.anb_base.proofs.Moving.{put_nothing}
use Rattle.anb_frame.specs.Cuts.{Tail, Cut, CutLeft}
use Rattle.anb_plays.specs.Plays.{Played}
use Rattle.anb_session.specs.Sessions.{IsPrompt}
use Rattle.anb_status.specs.declared.status.Status.{Status}
use Rattle.anb_status.specs.declared.status.Status.TheVariants.{FileFault, NoMemory}
use Rattle.anb_command.specs.Fetches.{Files, IfTold}
use Rattle.anb_command.specs.Refusing.{IsRefusing}
use Rattle.anb_command.specs.Outcomes.{IsInTime, IsOutcome, Outcome, RunsOver}
use Rattle.anb_command.specs.Prepared.{IsReady, RunsOn, RunsTo}
use Rattle.anb_status.specs.Statuses.{OnFileFault, before_reach, is_fault, phase_of}
use Rattle.anb_command.specs.Steps.{Answer, refused, given, HasOneAnswer, IsFailure}
use Rattle.anb_command.proofs.Chains.{told_map}
use Rattle.anb_command.proofs.Ones.{RefusesQuietly, same_refusal, not_both}
use Rattle.anb_command.proofs.Runs.{comes}
use Rattle.anb_command.proofs.Written.{faulty}

-- where nothing is run
module _ {A : Type 0} (IsRunOf : A → List (List ℕ) → Played (List ℕ) → Type 0) (Prepares : Answer A → Type 0) (one : HasOneAnswer Prepares) (quiet : RefusesQuietly Prepares) (Reads : List ℕ → Type 0) where
  quiet_refusal : (s : Status) (left : List ℕ) (arrivals : List (List ℕ)) (tail : Tail) (w : Option (List ℕ)) → Prepares (refused s) → is_fault s ≡ false
      → IsOutcome IsRunOf Prepares left arrivals tail s (Some left) w w
  quiet_refusal s left arrivals tail w asks quiet_s = record {
    is = λ _. ([], left, inl (record { refuses = asks; writes = refl; leaves = refl }), put_nothing w, refl);
    only = λ _. only;
    cut_short = λ fault. faulty (sym fault ∙ quiet_s);
  } where
    only : (t : Status) (out rest : List ℕ) → Outcome IsRunOf Prepares left arrivals tail t out rest → (s ≡ t) × Put w w out × (Some left ≡ Some rest)
    only t out rest (inl is) =
        (same_refusal s t (one (refused s) (refused t) asks is.refuses), subst (λ (o : List ℕ). Put w w o) (sym is.writes) (put_nothing w), ap Some (sym is.leaves))
    only t out rest (inr (a, other, played)) = not_both s a (one (refused s) (given a) asks other)

  pub nothing_run : (s : Status) (P : List ℕ → Type 0) (left : List ℕ) (arrivals : List (List ℕ)) (tail : Tail) (w : Option (List ℕ)) → IsFailure s P (Prepares (refused s))
      → IsOutcome IsRunOf Prepares left arrivals tail s (Some left) w w
  nothing_run (FileFault name) P left arrivals tail w fails = record { is = faulty; only = faulty; cut_short = λ _. ([], (refl, refl), put_nothing w) }
  nothing_run NoMemory P left arrivals tail w fails = record { is = faulty; only = faulty; cut_short = λ _. ([], inl (refl, refl), put_nothing w) }
  nothing_run s P left arrivals tail w asks = quiet_refusal s left arrivals tail w asks (quiet.each s asks).0

  pub refusing : (s : Status) → IsFailure s Reads (Prepares (refused s)) → IsRefusing Prepares Reads s
  refusing (FileFault name) reads = record { is = λ _ never. faulty never; only = λ _ _. tt; file = reads }
  refusing NoMemory fails = record { is = λ _ never. faulty never; only = λ _ _. tt; file = tt }
  refusing s asks = record { is = λ _ _. asks; only = λ t other. same_refusal s t (one (refused s) (refused t) asks other); file = tt }

  late_file : (s : Status) → (phase_of s ≡ before_reach → ⊥) → OnFileFault s Reads
  late_file (FileFault name) late = absurd (late refl)
  late_file _ late = tt

  pub late : (s : Status) (a : A) → Prepares (given a) → (phase_of s ≡ before_reach → ⊥) → IsRefusing Prepares Reads s
  late s a asks not_early = record {
    is = λ early _. absurd (not_early early);
    only = λ t other. not_both t a (one (refused t) (given a) other asks);
    file = late_file s not_early;
  }

-- ---- a command that runs a thing over the wire

module _ {A : Type 0} (IsRunOf : A → List (List ℕ) → Played (List ℕ) → Type 0) (Prepares : Files → Answer A → Type 0) (Reads : Files → List ℕ → Type 0)
    (one : (files : Files) → HasOneAnswer (Prepares files)) (quiet : (files : Files) → RefusesQuietly (Prepares files)) where
  -- what comes of a run
  module _ (s : Status) (R : List (List ℕ) → Played (List ℕ)) (not_early : phase_of s ≡ before_reach → ⊥) where
    over_input : (files : Files) → IsReady IsRunOf (Prepares files) R → (left now written written_now : Option (List ℕ))
        → ((arrivals : List (List ℕ)) (tail : Tail) → CutLeft ARRIVAL left arrivals tail → RunsTo R arrivals tail left now written written_now s)
        → IfTold left (λ (input : List ℕ). (arrivals : List (List ℕ)) (tail : Tail) → IsBytes input → Cut ARRIVAL input arrivals tail
        → IsOutcome IsRunOf (Prepares files) input arrivals tail s now written written_now)
    over_input files ready None now written written_now runs = tt
    over_input files ready (Some left) now written written_now runs = λ arrivals tail bytes cut.
        comes IsRunOf (Prepares files) (one files) R ready left arrivals tail bytes cut now written written_now s (runs arrivals tail cut)

    in_time : (files : Files) → IsReady IsRunOf (Prepares files) R → (S T : WireState) → IsPrompt R S T → IsInTime IsRunOf (Prepares files) S T
    in_time files ready S T prompt = inr (
      ready.asked,
      ready.asks,
      record { run = R; comes = λ arrivals bytes. (ready.comes arrivals bytes (R arrivals)).1 refl; prompt = prompt },
    )

    pub runs_over : (told : Option Files) (S T : WireState) → IfTold told (λ files. IsReady IsRunOf (Prepares files) R) → RunsOn R S T s → IsPrompt R S T → RunsOver IsRunOf Prepares Reads told S T s
    runs_over told S T ready runs prompt = record {
      in_time = told_map told (λ files (r : IsReady IsRunOf (Prepares files) R). in_time files r S T prompt) ready;
      refuses = told_map told (λ files (r : IsReady IsRunOf (Prepares files) R). late IsRunOf (Prepares files) (one files) (quiet files) (Reads files) s r.asked r.asks not_early) ready;
      outcome = told_map told (λ files (r : IsReady IsRunOf (Prepares files) R). over_input files r S.left T.left S.written T.written runs) ready;
    }

  -- and of a refusal
  module _ (s : Status) (P : List ℕ → Type 0) where
    over_none : (files : Files) → IsFailure s P (Prepares files (refused s)) → (left written : Option (List ℕ))
        → IfTold left (λ (input : List ℕ). (arrivals : List (List ℕ)) (tail : Tail) → IsBytes input → Cut ARRIVAL input arrivals tail
        → IsOutcome IsRunOf (Prepares files) input arrivals tail s left written written)
    over_none files fails None written = tt
    over_none files fails (Some left) written = λ arrivals tail bytes cut. nothing_run IsRunOf (Prepares files) (one files) (quiet files) (Reads files) s P left arrivals tail written fails

  pub refuses_over : (told : Option Files) (S : WireState) (s : Status) → IsFailure s (λ file. IfTold told (λ files. Reads files file)) (IfTold told (λ files. Prepares files (refused s)))
      → RunsOver IsRunOf Prepares Reads told S S s
  refuses_over None S s fails = record { refuses = tt; outcome = tt; in_time = tt }
  refuses_over (Some files) S s fails = record {
    refuses = refusing IsRunOf (Prepares files) (one files) (quiet files) (Reads files) s fails;
    outcome = over_none s (λ file. Reads files file) files fails S.left S.written;
    in_time = inl (refl, refl);
  }
