-- What `probe` comes to.
use Rattle.std.proofs.Common.{◌≡◌, ◌⊎◌, ℕ, cond, List, length, Bool, true, false, Option, Some, None, refl, ap, sym, ◌∙◌, subst, inl, inr}
use Rattle.std.specs.Prelude.{◌==◌, count_by}
use Rattle.anb_base.specs.Wires.{WireState}
use Rattle.anb_base.specs.declared.place.Place.TheVariants.{Stdio}
use Rattle.anb_partner.specs.Trials.{Trial}
use Rattle.anb_plays.specs.Plays.{Played}
use Rattle.anb_status.specs.declared.status.Status.{Status}
use Rattle.anb_status.specs.declared.status.Status.TheVariants.{CasesNotOk, ChildFault, ChildSilent, Done, FileFault, NoMemory, ReadFault, Unreached, Unwritten, WriteFault}
use Rattle.anb_status.specs.Statuses.{IsEarly, Phase, after_reach, at_reach, before_reach, is_fault, phase_of}
use Rattle.anb_verdict.specs.declared.verdict.Verdict.{Verdict}
use Rattle.anb_command.specs.Causes.{HasCause, NoneRose}
use Rattle.anb_command.specs.Fetches.{Files, IfTold}
use Rattle.anb_command.specs.Steps.{Answer, refused, given, HasOneAnswer, IsFailure}
use Rattle.anb_command.proofs.Answering.{refusing}
use Rattle.anb_command.proofs.Chains.{told_map}
use Rattle.anb_command.proofs.Ones.{not_both, same_given}
use Rattle.anb_probe_commands.specs.Plays.{verdicts_of}
use Rattle.anb_probe_commands.specs.Playing.{OverTrials, TaskComesTo}
use Rattle.anb_probe_commands.specs.ProbeCommand.{Agenda, ComesTo, CompletesProbe, DoesProbe, HasProbeCause, IsBeyond, IsIdle, IsProbed, IsReported, RefusesHonest, StartFailed, Suit, agenda_of, probe_phase}
use Rattle.anb_probe_commands.specs.Probings.{IsReadToProbe, Probing, ProbingIs}
use Rattle.anb_probe_commands.specs.Reports.{is_failed, status_for}
use Rattle.anb_probe_commands.specs.Words.{Probed, Trying}
use Rattle.anb_probe_commands.proofs.Reading.{probing_quiet}

-- nothing is run over a wire
abbrev NoRun : Probing → List (List ℕ) → Played (List ℕ) → Type 0
NoRun q arrivals p = Unit {0}

-- ---- when a status comes

pub status_late : (vs : List Verdict) → probe_phase (status_for vs) ≡ after_reach
status_late vs = by (count_by is_failed vs == 0) where
  by : (b : Bool) → probe_phase (cond b Done (CasesNotOk (count_by is_failed vs) (length vs))) ≡ after_reach
  by true = refl
  by false = refl

module _ (q : Probing) (trying : Trying) (g : Agenda) (name : List ℕ) (old new : ℕ → Trial) (S T : WireState) where
  late_end : (s : Status) → IsReported q trying g name old new S.written T.written s ⊎ IsBeyond q trying g name old new S.written T.written s → probe_phase s ≡ after_reach
  late_end s (inl r) = ap probe_phase r.is ∙ status_late (verdicts_of r.ends)
  late_end s (inr b) = ap probe_phase b.is

  pub never_early : (P : Type 0) (s : Status) (phase : Phase) → phase ≡ before_reach → probe_phase s ≡ phase → ComesTo q trying g name old new S.written T.written s → P
  never_early P WriteFault phase is e c = let never : after_reach ≡ before_reach = e ∙ is in absurd (cc)
  never_early P NoMemory phase is e c = let never = e ∙ is in absurd (cc)
  never_early P (ChildFault child) phase is e c = let never : after_reach ≡ before_reach = e ∙ is in absurd (cc)
  never_early P (Unreached place) phase is e c = let never : at_reach ≡ before_reach = e ∙ is in absurd (cc)
  never_early P s phase is e c = let never : after_reach ≡ before_reach = sym (late_end s c) ∙ e ∙ is in absurd (cc)

  unreached_idle : (s : Status) → probe_phase s ≡ at_reach → ComesTo q trying g name old new S.written T.written s → (new ≡ old) × (T.written ≡ S.written)
  unreached_idle WriteFault e c = absurd (cc)
  unreached_idle NoMemory e c = absurd (cc)
  unreached_idle (ChildFault child) e c = absurd (cc)
  unreached_idle (Unreached place) e c = c
  unreached_idle s e c = let never : after_reach ≡ at_reach = sym (late_end s c) ∙ e in absurd (cc)

module _ (asked : Probed) (host_seed : Option (List ℕ)) (one : (files : Files) → HasOneAnswer (ProbingIs files asked.narration asked.role asked.values host_seed)) where
  abbrev Prepares : Files → Answer Probing → Type 0
  Prepares files = ProbingIs files asked.narration asked.role asked.values host_seed

  abbrev Reads : Files → List ℕ → Type 0
  Reads files = IsReadToProbe files asked.narration asked.role asked.values

  -- ---- a refusal of the files

  early_of : (s : Status) → IsEarly s → (phase_of s ≡ before_reach) ⊎ (s ≡ NoMemory)
  early_of s (inl early) = inl early.0
  early_of s (inr none) = inr none

  pub does_refused : (told : Option Files) (old : ℕ → Trial) (S : WireState) (s : Status) → IsEarly s → IsFailure s (λ file. IfTold told (λ files. Reads files file)) (IfTold told (λ files. Prepares files (refused s)))
      → DoesProbe asked told host_seed old old S S s
  does_refused None old S s early fails = record {
    probes = tt;
    idle = λ _. record { children = refl; unwritten = refl };
    unreached = λ _. record { children = refl; unwritten = refl };
  }
  does_refused (Some files) old S s early fails = record {
    probes = inl (record {
      refuses = refusing NoRun (Prepares files) (one files) (probing_quiet asked.narration asked.role asked.values host_seed files) (Reads files) s fails;
      early = early_of s early;
      idle = record { children = refl; unwritten = refl };
    });
    idle = λ _. record { children = refl; unwritten = refl };
    unreached = λ _. record { children = refl; unwritten = refl };
  }

  -- ---- a task

  module _ (told : Option Files) (q : Probing) (old new : ℕ → Trial) (S T : WireState) where
    idle_as : (s : Status) → probe_phase s ≡ before_reach → TaskComesTo q asked.trying asked.role old new S T s → IsIdle asked told host_seed old new S T
    idle_as s e (inl (r, same, wire)) = record { children = same; unwritten = ap (λ (w : WireState). w.written) wire }
    idle_as s e (inr (suit, c)) = never_early q asked.trying (agenda_of suit) asked.role old new S T (IsIdle asked told host_seed old new S T) s before_reach refl e c

    unreached_as : (s : Status) → probe_phase s ≡ at_reach → TaskComesTo q asked.trying asked.role old new S T s → IsIdle asked told host_seed old new S T
    unreached_as s e (inl (r, same, wire)) = record { children = same; unwritten = ap (λ (w : WireState). w.written) wire }
    unreached_as s e (inr (suit, c)) = let idle = unreached_idle q asked.trying (agenda_of suit) asked.role old new S T s e c in record { children = idle.0; unwritten = idle.1 }

    probed_as : (files : Files) (s : Status) → Prepares files (given q) → TaskComesTo q asked.trying asked.role old new S T s → IsProbed asked told host_seed old new S T files s
    probed_as files s asks (inl (r, same, wire)) =
        inr (inl (record { q = q; asks = asks; refuses = r; idle = record { children = same; unwritten = ap (λ (w : WireState). w.written) wire } }))
    probed_as files s asks (inr (suit, c)) = inr (inr (record { q = q; asks = asks; suit = suit; comes = c }))

    pub does_task : (s : Status) → IfTold told (λ files. Prepares files (given q)) → TaskComesTo q asked.trying asked.role old new S T s → DoesProbe asked told host_seed old new S T s
    does_task s asks comes = record {
      probes = told_map told (λ files a. probed_as files s a comes) asks;
      idle = λ e. idle_as s e comes;
      unreached = λ e. unreached_as s e comes;
    }

  -- ---- where nothing failed

  module _ (told : Option Files) (old new : ℕ → Trial) (S T : WireState) (s : Status) (only_memory : is_fault s ≡ true → s ≡ NoMemory) where
    Completed : Probing → Type 0
    Completed q =
        RefusesHonest q asked.trying s
        ⊎ (((suit : Suit q asked.trying)
        × (IsReported q asked.trying (agenda_of suit) asked.role old new S.written T.written s
        ⊎ IsBeyond q asked.trying (agenda_of suit) asked.role old new S.written T.written s))
        ⊎ (s ≡ NoMemory))

    ended : (q : Probing) (suit : Suit q asked.trying) (t : Status) → s ≡ t → ComesTo q asked.trying (agenda_of suit) asked.role old new S.written T.written t → Completed q
    unfolding Completed
    ended q suit WriteFault is c = inr (inr (only_memory (ap is_fault is)))
    ended q suit NoMemory is c = inr (inr is)
    ended q suit (ChildFault child) is c = inr (inr (only_memory (ap is_fault is)))
    ended q suit (Unreached place) is c = inr (inr (only_memory (ap is_fault is)))
    ended q suit t is c =
        inr (inl (suit, subst (λ (u : Status). IsReported q asked.trying (agenda_of suit) asked.role old new S.written T.written u ⊎ IsBeyond q asked.trying (agenda_of suit) asked.role old new S.written T.written u) (sym is) c))

    pub completes : DoesProbe asked told host_seed old new S T s → CompletesProbe asked told host_seed old new S T s
    unfolding Completed
    completes does = told_map told by does.probes where
      quiet_early : (files : Files) (q : Probing) (b : Bool) → is_fault s ≡ b → phase_of s ≡ before_reach → (phase_of s ≡ before_reach → is_fault s ≡ false → Prepares files (refused s)) → Prepares files (given q) → Completed q
      quiet_early files q true fault early is asks = inr (inr (only_memory fault))
      quiet_early files q false calm early is asks = not_both s q (one files (refused s) (given q) (is early calm) asks)

      refused_early : (files : Files) (q : Probing) → (phase_of s ≡ before_reach) ⊎ (s ≡ NoMemory) → (phase_of s ≡ before_reach → is_fault s ≡ false → Prepares files (refused s)) → Prepares files (given q) → Completed q
      refused_early files q (inl early) is asks = quiet_early files q (is_fault s) refl early is asks
      refused_early files q (inr none) is asks = inr (inr none)

      same : (files : Files) (r q : Probing) → Prepares files (given r) → Prepares files (given q) → r ≡ q
      same files r q a b = same_given r q (one files (given r) (given q) a b)

      refused_late : (q : Probing) → RefusesHonest q asked.trying s ⊎ (s ≡ NoMemory) → Completed q
      refused_late q (inl r) = inl r
      refused_late q (inr none) = inr (inr none)

      by : (files : Files) → IsProbed asked told host_seed old new S T files s → (q : Probing) → Prepares files (given q) → Completed q
      by files (inl r) q asks = refused_early files q r.early r.refuses.is asks
      by files (inr (inl r)) q asks = subst Completed (same files r.q q r.asks asks) (refused_late r.q r.refuses)
      by files (inr (inr r)) q asks = subst Completed (same files r.q q r.asks asks) (ended r.q r.suit s refl r.comes)

-- ---- causes

module _ (names : List (List ℕ)) (faults faults_now : List ℕ → ℕ) (old new : ℕ → Trial) (S T : WireState) where
  -- those of a task are those of the command
  pub task_cause : (s : Status) → OverTrials old new S T s → HasProbeCause names faults faults_now old new S T s
  task_cause (ChildFault name) over = over.cause
  task_cause (FileFault file) over = absurd over.cause
  task_cause _ over = over.cause

  pub early_probe : (s : Status) → IsEarly s → HasCause names (Some Stdio) faults faults_now S T s → HasProbeCause names faults faults_now old new S T s
  early_probe (ChildFault name) (inl early) cause = absurd early.1
  early_probe (ChildFault name) (inr never) cause = absurd (cc)
  early_probe _ early cause = cause

  pub only_memory : NoneRose names faults faults_now S T → (StartFailed old new → ⊥) → (s : Status) → HasProbeCause names faults faults_now old new S T s → is_fault s ≡ true → s ≡ NoMemory
  only_memory none calm (FileFault file) cause fault = absurd (none.files file cause.0 cause.1)
  only_memory none calm (Unreached at) cause fault = absurd (none.reaches cause.1)
  only_memory none calm WriteFault cause fault = absurd (none.writes cause)
  only_memory none calm (ChildFault name) cause fault = absurd (calm cause)
  only_memory none calm NoMemory cause fault = refl
  only_memory none calm ReadFault cause fault = absurd (none.reads cause)
  only_memory none calm (ChildSilent role seconds) cause fault = absurd cause
  only_memory none calm (Unwritten file) cause fault = absurd cause
  only_memory none calm _ cause fault = absurd (cc)

-- the phase of an early status is that of all commands
pub early_phase : (s : Status) → IsEarly s → probe_phase s ≡ phase_of s
early_phase (ChildFault name) (inl early) = absurd early.1
early_phase (ChildFault name) (inr never) = absurd (cc)
early_phase _ early = refl
