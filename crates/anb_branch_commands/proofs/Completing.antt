-- A role that hears all it waits for in the arm that is taken, and where everything agrees, is done.
use Rattle.std.proofs.Common.{◌≡◌, ℕ, ◌+◌, ◌<◌, Bool, true, false, List, [], ◌∷◌, ◌++◌, length, map, Option, Some, None, refl, ap, sym, ◌∙◌, subst, length-append, arith}
use Rattle.std.specs.Prelude.{slice_get, if◌then◌else◌}
use Rattle.std.specs.Option.{option_map_or}
use Rattle.std.specs.List.{list_any}
use Rattle.std.specs.Str.{bytes_eq}
use Rattle.std.proofs.lemmas.List.{get_or_append_left}
use Rattle.std.proofs.lemmas.Option.{slice_get-get_or}
use Rattle.anb_index.specs.Places.{among}
use Rattle.anb_lemmas.proofs.Each.{each_got}
use Rattle.anb_base.specs.Wires.{WireState}
use Rattle.anb_base.specs.declared.TheConstants.{ARRIVAL}
use Rattle.anb_frame.specs.Cuts.{HasCut}
use Rattle.anb_seal.specs.Streams.{draw_of}
use Rattle.anb_term.specs.Tree.{Tree}
use Rattle.anb_term.specs.Value.{Meaning}
use Rattle.anb_plays.specs.Plans.{Event, known, recv}
use Rattle.anb_protocol.specs.Plans.{PlanEvent, to_know, to_make, to_send, to_receive}
use Rattle.anb_protocol.specs.Plays.{IsPlay, event_of, events_of, meaning_of}
use Rattle.anb_protocol.specs.Protocols.{ProtocolValue, role_number}
use Rattle.anb_choice.specs.Lawful.{BranchedValue, IsLawful, is_free, plan_named, roles_in, stem_part}
use Rattle.anb_branch.specs.Taken.{IsTold, count_receives, place_begun, place_taken, receives_in, stem_receives}
use Rattle.anb_branch.proofs.Agreeing.{HasStem, Sees, first_arm, sees_each, split_plan}
use Rattle.anb_status.specs.declared.status.Status.{Status}
use Rattle.anb_status.specs.declared.status.Status.TheVariants.{NoMemory}
use Rattle.anb_command.specs.Fetches.{Files}
use Rattle.anb_status.specs.Statuses.{is_fault}
use Rattle.anb_command.specs.Steps.{given, HasOneAnswer}
use Rattle.anb_role_commands.specs.Completions.{AgreesAfterEach}
use Rattle.anb_role_commands.proofs.Completing.{HearsEnough, completes_run, play_finishes}
use Rattle.anb_branch_commands.specs.BranchCommand.{BranchPlayOf, CompletesBranch, DoesBranch, HearsArm}
use Rattle.anb_branch_commands.specs.BranchJobs.{BranchJob, BranchJobIs, IsReadToBranch}
use Rattle.anb_branch_commands.proofs.Preparing.{job_seated}

-- ---- the arm is heard

-- where all agrees up to a receive behind some events, more is heard than these events receive
more_heard : {A : Type 0} (m : Meaning A) (draw : ℕ → A) (events : List PlanEvent) (t : Tree) (es : List Event) (frame : List Tree) (vs : List A) (i : ℕ) (heard : List A)
    → AgreesAfterEach m draw (map event_of events ++ (recv t ∷ es)) frame vs i heard → count_receives events < length heard
more_heard m draw [] t es frame vs i [] never = absurd never
more_heard m draw [] t es frame vs i (x ∷ heard) agrees = omega arith
more_heard m draw (to_know u ∷ events) t es frame vs i heard agrees = more_heard m draw events t es frame vs i heard agrees
more_heard m draw (to_make u ∷ events) t es frame vs i heard agrees = more_heard m draw events t es (frame ++ u ∷ []) (vs ++ draw i ∷ []) (i + 1) heard agrees
more_heard m draw (to_send k u ∷ events) t es frame vs i heard agrees = more_heard m draw events t es frame vs i heard agrees
more_heard m draw (to_receive k u ∷ events) t es frame vs i [] never = absurd never
more_heard m draw (to_receive k u ∷ events) t es frame vs i (x ∷ heard) agrees =
    let more = more_heard m draw events t es (frame ++ u ∷ []) (vs ++ x ∷ []) i heard agrees.1 in
    omega (arith, more)

same_arrival : (heard more : List (List ℕ)) (k : ℕ) → k < length heard → slice_get (heard ++ more) k ≡ slice_get heard k
same_arrival heard more k within =
    slice_get-get_or (heard ++ more) k [] (omega (arith, within, length-append heard more)) ∙ ap Some (get_or_append_left heard more [] k within) ∙ sym (slice_get-get_or heard k [] within)

module _ (job : BranchJob) (left later : List ℕ) (hears : HearsArm job left later) (lawful : IsLawful job.branched) (is_role : among (roles_in job.branched) job.role ≡ true) where
  abbrev b : BranchedValue
  b = job.branched

  heard_past_choice : (place : ℕ) → slice_get b.arms place ≡ Some hears.arm → bytes_eq job.role b.chooser ≡ false → list_any (is_free b.stem job.role) b.arms ≡ true
      → stem_receives b job.role < length hears.hears.heard
  heard_past_choice place at other free =
      let arm = hears.arm in
      let sees = each_got (Sees b.stem job.role) b.arms place arm (sees_each b job.role lawful is_role other free) at in
      let first = first_arm b job.role lawful is_role in
      let stem = each_got (HasStem b.stem job.role first.one) b.arms place arm first.stems at in
      let part = stem_part b.stem (plan_named arm job.role) in
      let agrees = hears.hears.agrees.1 in
      let more = more_heard (meaning_of arm) (draw_of job.seed 0) part sees.message (map event_of sees.after) (known (events_of arm (role_number arm.roles job.role))) job.initial 0 hears.hears.heard
      (subst (λ (es : List Event). AgreesAfterEach (meaning_of arm) (draw_of job.seed 0) es (known (events_of arm (role_number arm.roles job.role))) job.initial 0 hears.hears.heard) (split_plan b.stem job.role arm sees) agrees) in
      omega (arith, more, ap count_receives stem.part, ap (λ o. option_map_or (receives_in b.stem job.role) o 0) first.at)

  -- whatever else arrives, the same arm is taken
  same_taken : (told : Option ℕ) → told ≡ job.told → IsTold b job.role told → (more : List (List ℕ)) → place_taken b job.role told (hears.hears.heard ++ more) ≡ place_taken b job.role told hears.hears.heard
  same_taken (Some number) is may more = refl
  same_taken None is other more = by (list_any (is_free b.stem job.role) b.arms) refl where
    heard : List (List ℕ)
    heard = hears.hears.heard

    taken_at : slice_get b.arms (place_taken b job.role None heard) ≡ Some hears.arm
    taken_at = subst (λ (o : Option ℕ). slice_get b.arms (place_taken b job.role o heard) ≡ Some hears.arm) (sym is) hears.taken

    by : (free : Bool) → list_any (is_free b.stem job.role) b.arms ≡ free
        → (if free then option_map_or (place_begun b job.role) (slice_get (heard ++ more) (stem_receives b job.role)) 0 else 0)
        ≡ (if free then option_map_or (place_begun b job.role) (slice_get heard (stem_receives b job.role)) 0 else 0)
    by true free = ap (λ o. option_map_or (place_begun b job.role) o 0) (same_arrival heard more (stem_receives b job.role) (heard_past_choice (place_taken b job.role None heard) taken_at other free))
    by false bound = refl

  hears_enough : IsTold b job.role job.told → HearsEnough BranchPlayOf job left later
  hears_enough may = record {
    heard = hears.hears.heard;
    short = hears.hears.short;
    is = hears.hears.is;
    finishes = λ more p plays.
        let same : Some plays.arm ≡ Some hears.arm = sym plays.taken ∙ ap (λ (place : ℕ). slice_get b.arms place) (same_taken job.told refl may more) ∙ hears.taken in
        let arm_is : plays.arm ≡ hears.arm = cc in
        let play : IsPlay hears.arm (role_number hears.arm.roles job.role) job.initial job.seed 0 (hears.hears.heard ++ more) p =
        subst (λ (arm : ProtocolValue). IsPlay arm (role_number arm.roles job.role) job.initial job.seed 0 (hears.hears.heard ++ more) p) arm_is plays.plays in
        play_finishes (meaning_of hears.arm) (draw_of job.seed 0) (events_of hears.arm (role_number hears.arm.roles job.role)) job.initial hears.hears.heard more p hears.hears.agrees play;
  }

-- ---- the command

module _ (narration role values : List ℕ) (arm : Option ℕ) (host_seed : Option (List ℕ)) (one : (files : Files) → HasOneAnswer (BranchJobIs files narration role values arm host_seed)) (exists : HasCut ARRIVAL) where
  enough : (files : Files) (job : BranchJob) (left later : List ℕ) → BranchJobIs files narration role values arm host_seed (given job) → HearsArm job left later → HearsEnough BranchPlayOf job left later
  enough files job left later asks hears =
      let seated = job_seated files narration role values arm host_seed job asks in
      hears_enough job left later hears seated.lawful seated.is_role seated.may

  pub completes_branch : (told : Option Files) (old new : WireState) (s : Status) → DoesBranch narration role values arm told host_seed old new s → (is_fault s ≡ true → s ≡ NoMemory)
      → CompletesBranch narration role values arm told host_seed old new s
  completes_branch told old new s does only_memory =
      completes_run BranchPlayOf exists HearsArm (λ files. BranchJobIs files narration role values arm host_seed) one enough (λ files. IsReadToBranch files narration role values arm) told old new s does only_memory
