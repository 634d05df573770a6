-- From the end of a rehearsal to what the command does.
use Rattle.std.proofs.Common.{◌≡◌, ◌⊎◌, ℕ, Bool, true, false, List, [], take, length, Option, Some, None, refl, ap, sym, ◌∙◌, subst, inl, inr}
use Rattle.anb_base.specs.Moves.{Put, PutPrefix}
use Rattle.anb_base.specs.Wires.{WireState}
use Rattle.anb_base.proofs.Moving.{put_nothing}
use Rattle.anb_outcomes.specs.declared.rehearsals.Report.{Report}
use Rattle.anb_honest.specs.declared.report.RehearseEnd.{RehearseEnd}
use Rattle.anb_honest.specs.declared.report.RehearseEnd.TheVariants as ended
use Rattle.anb_honest.specs.Honest.{AreHonest, honest_end}
use Rattle.anb_honest.specs.Joint.{is_complete}
use Rattle.anb_protocol.specs.Schedules.{IsComplete, taken}
use Rattle.anb_status.specs.declared.status.Status.{Status}
use Rattle.anb_status.specs.declared.status.Status.TheVariants.{Done, FileFault, Unreached, ReadFault, WriteFault, NotAll, ChildFault, ChildSilent, Unwritten, NoMemory}
use Rattle.anb_command.specs.Fetches.{Files, IfTold}
use Rattle.anb_status.specs.Statuses.{before_reach, is_fault, phase_of}
use Rattle.anb_command.specs.Steps.{Answer, refused, given, HasOneAnswer, IsFailure}
use Rattle.anb_command.proofs.Answering.{late, refusing}
use Rattle.anb_command.proofs.Chains.{told_map}
use Rattle.anb_command.proofs.Ones.{RefusesQuietly, not_both, same_given, same_refusal}
use Rattle.anb_command.proofs.Written.{faulty}
use Rattle.anb_rehearse_commands.specs.Rehearsals.{IsReadToRehearse, Rehearsal, RehearsalIs}
use Rattle.anb_rehearse_commands.specs.RehearseCommand.{CompletesRehearse, DoesRehearse, IsRehearsed, IsRehearsing, Outcome, RolesPlay, Tells, WritesPart, cast_of}
use Rattle.anb_rehearse_commands.specs.Telling.{IsRehearsedTo}
use Rattle.anb_rehearse_commands.proofs.Ended.{tells_done, tells_not_all, tells_one}

-- a fault is neither done nor a role that isn't
never_done : {P : Type 0} (s : Status) → is_fault s ≡ true → s ≡ Done → P
never_done s fault e = let never : true ≡ false = sym fault ∙ ap is_fault e in absurd (cc)

never_part : {P : Type 0} (s : Status) (report : Report) → is_fault s ≡ true → s ≡ NotAll report → P
never_part s report fault e = let never : true ≡ false = sym fault ∙ ap is_fault e in absurd (cc)

-- what comes of a rehearsal that is asked for
module _ (Asks : Answer Rehearsal → Type 0) (one : HasOneAnswer Asks) (r : Rehearsal) (asks : Asks (given r)) (w now : Option (List ℕ)) where
  abbrev honest : (ℕ → List ℕ) → Type 0
  honest atoms = AreHonest (cast_of r) atoms

  abbrev end_by : (ℕ → List ℕ) → RehearseEnd
  end_by atoms = honest_end (cast_of r) atoms r.turns

  rehearsed : (atoms : ℕ → List ℕ) → honest atoms → (s : Status) (out : List ℕ) → Tells (end_by atoms) s out → IsRehearsed r s out
  rehearsed atoms h s out tells = record { atoms = atoms; honest = h; tells = tells }

  same : (other : Rehearsal) → Asks (given other) → other ≡ r
  same other also = same_given other r (one (given other) (given r) also asks)

  complete : Bool
  complete = is_complete (cast_of r) (taken r.setting.protocol r.turns) (length r.setting.protocol.roles)

  -- without a fault
  module _ (s : Status) (quiet : is_fault s ≡ false) (o : IsRehearsedTo r s w now)
      (told : (atoms : ℕ → List ℕ) → honest atoms → (out : List ℕ) × Tells (end_by atoms) s out × Put w now out) where
    only : (t : Status) (out : List ℕ) → Outcome Asks t out → (s ≡ t) × Put w now out
    only t out (inl (refuses, is)) = not_both t r (one (refused t) (given r) refuses asks)
    only t out (inr (other, also, done)) =
        let here : IsRehearsed r t out = subst (λ (x : Rehearsal). IsRehearsed x t out) (same other also) done in
        let mine = told here.atoms here.honest in
        let parts = tells_one (end_by here.atoms) s t mine.0 out mine.1 here.tells in
        (parts.0, subst (λ (x : List ℕ). Put w now x) parts.1 mine.2)

    is_all : s ≡ Done → IsComplete r.setting.protocol r.turns
    is_all e =
        let mine = told o.some.0 o.some.1 in
        let done : Tells (end_by o.some.0) Done mine.0 = subst (λ (t : Status). Tells (end_by o.some.0) t mine.0) e mine.1 in
        (o.tested (cast_of r) r.turns).0 (tells_done (cast_of r) o.some.0 r.turns mine.0 done)

    is_not_all : (report : Report) → s ≡ NotAll report → IsComplete r.setting.protocol r.turns → ⊥
    is_not_all report e all =
        let mine = told o.some.0 o.some.1 in
        let part : Tells (end_by o.some.0) (NotAll report) mine.0 = subst (λ (t : Status). Tells (end_by o.some.0) t mine.0) e mine.1 in
        let never : true ≡ false = sym ((o.tested (cast_of r) r.turns).1 all) ∙ tells_not_all (cast_of r) o.some.0 r.turns report mine.0 part in
        absurd (cc)

    concluded : IsRehearsing Asks s w now
    concluded = record {
      is = λ _. (let mine = told o.some.0 o.some.1 in (mine.0, inr (r, asks, rehearsed o.some.0 o.some.1 s mine.0 mine.1), mine.2));
      only = λ _. only;
      cut_short = λ fault. faulty (sym fault ∙ quiet);
      plays = λ _ other also atoms. subst (λ (x : Rehearsal). AreHonest (cast_of x) atoms → RolesPlay x atoms) (sym (same other also)) (o.plays atoms);
      all = λ other also e. subst (λ (x : Rehearsal). IsComplete x.setting.protocol x.turns) (sym (same other also)) (is_all e);
      not_all = λ other also report e. subst (λ (x : Rehearsal). IsComplete x.setting.protocol x.turns → ⊥) (sym (same other also)) (is_not_all report e);
    }

  -- with one

  part_of : (o : (atoms : ℕ → List ℕ) × honest atoms) → ((s : Status) × (out : List ℕ) × Tells (end_by o.0) s out × PutPrefix w now out) → (out : List ℕ) × WritesPart Asks out × Put w now out
  part_of o (s, out, tells, (n, within, put)) = (take n out, (r, asks, (s, out, rehearsed o.0 o.1 s out tells, (n, refl))), put)

  unmoved : now ≡ w → Put w now []
  unmoved e = subst (λ (x : Option (List ℕ)). Put w x []) (sym e) (put_nothing w)

  pub comes : (s : Status) → IsRehearsedTo r s w now → IsRehearsing Asks s w now
  comes (FileFault name) o = absurd (o.told o.some.0 o.some.1)
  comes ReadFault o = absurd (o.told o.some.0 o.some.1)
  comes (ChildFault role) o = absurd (o.told o.some.0 o.some.1)
  comes (ChildSilent role seconds) o = absurd (o.told o.some.0 o.some.1)
  comes (Unwritten file) o = absurd (o.told o.some.0 o.some.1)
  comes (Unreached place) o = record {
    is = faulty;
    only = faulty;
    cut_short = λ _. ([], ((r, asks), refl), unmoved (o.told o.some.0 o.some.1));
    plays = faulty;
    all = λ other also. never_done (Unreached place) refl;
    not_all = λ other also report. never_part (Unreached place) report refl;
  }
  comes WriteFault o = record {
    is = faulty;
    only = faulty;
    cut_short = λ _. part_of o.some (o.told o.some.0 o.some.1);
    plays = faulty;
    all = λ other also. never_done WriteFault refl;
    not_all = λ other also report. never_part WriteFault report refl;
  }
  comes NoMemory o = record {
    is = faulty;
    only = faulty;
    cut_short = λ _. by (o.told o.some.0 o.some.1);
    plays = faulty;
    all = λ other also. never_done NoMemory refl;
    not_all = λ other also report. never_part NoMemory report refl;
  } where
    by : (now ≡ w) ⊎ ((s : Status) × (out : List ℕ) × Tells (end_by o.some.0) s out × PutPrefix w now out) → (out : List ℕ) × ((out ≡ []) ⊎ WritesPart Asks out) × Put w now out
    by (inl e) = ([], inl refl, unmoved e)
    by (inr part) = let p = part_of o.some part in (p.0, inr p.1, p.2)
  comes s o = concluded s refl o (λ atoms h. o.told atoms h)

-- where nothing is rehearsed
module _ (Asks : Answer Rehearsal → Type 0) (one : HasOneAnswer Asks) (quiet : RefusesQuietly Asks) (w : Option (List ℕ)) where
  not_asked : {P : Type 0} (s : Status) (r : Rehearsal) → Asks (refused s) → Asks (given r) → P
  not_asked s r refuses asks = not_both s r (one (refused s) (given r) refuses asks)

  quiet_refusal : (s : Status) → Asks (refused s) → is_fault s ≡ false → IsRehearsing Asks s w w
  quiet_refusal s asks quiet_s = record {
    is = λ _. ([], inl (asks, refl), put_nothing w);
    only = λ _. only;
    cut_short = λ fault. faulty (sym fault ∙ quiet_s);
    plays = λ _ other also. not_asked s other asks also;
    all = λ other also. not_asked s other asks also;
    not_all = λ other also. not_asked s other asks also;
  } where
    only : (t : Status) (out : List ℕ) → Outcome Asks t out → (s ≡ t) × Put w w out
    only t out (inl (refuses, is)) =
        (same_refusal s t (one (refused s) (refused t) asks refuses), subst (λ (x : List ℕ). Put w w x) (sym is) (put_nothing w))
    only t out (inr (other, also, done)) = not_asked s other asks also

  pub nothing_rehearsed : (s : Status) (P : List ℕ → Type 0) → IsFailure s P (Asks (refused s)) → IsRehearsing Asks s w w
  nothing_rehearsed (FileFault name) P fails = record {
    is = faulty;
    only = faulty;
    cut_short = λ _. ([], refl, put_nothing w);
    plays = faulty;
    all = λ other also. never_done (FileFault name) refl;
    not_all = λ other also report. never_part (FileFault name) report refl;
  }
  nothing_rehearsed NoMemory P fails = record {
    is = faulty;
    only = faulty;
    cut_short = λ _. ([], inl refl, put_nothing w);
    plays = faulty;
    all = λ other also. never_done NoMemory refl;
    not_all = λ other also report. never_part NoMemory report refl;
  }
  nothing_rehearsed s P asks = quiet_refusal s asks (quiet.each s asks).0

-- ---- the command

module _ (narration values schedule : List ℕ) (host_seed : Option (List ℕ)) where
  abbrev Asks : Files → Answer Rehearsal → Type 0
  Asks files = RehearsalIs files narration values schedule host_seed

  abbrev Reads : Files → List ℕ → Type 0
  Reads files = IsReadToRehearse files narration values schedule host_seed

  module _ (one : (files : Files) → HasOneAnswer (Asks files)) (quiet : (files : Files) → RefusesQuietly (Asks files)) (told : Option Files) where
    pub does_rehearsed : (S T : WireState) (s : Status) (r : Rehearsal) → (phase_of s ≡ before_reach → ⊥) → IfTold told (λ files. Asks files (given r)) → IsRehearsedTo r s S.written T.written
        → DoesRehearse narration values schedule told host_seed S T s
    does_rehearsed S T s r not_early asks o = record {
      refuses = told_map told (λ files a. late (λ x arrivals p. Unit {0}) (Asks files) (one files) (quiet files) (Reads files) s r a not_early) asks;
      outcome = told_map told (λ files a. comes (Asks files) (one files) r a S.written T.written s o) asks;
    }

    pub does_refused : (S : WireState) (s : Status) → IsFailure s (λ file. IfTold told (λ files. Reads files file)) (IfTold told (λ files. Asks files (refused s)))
        → DoesRehearse narration values schedule told host_seed S S s
    does_refused S s fails = by told fails where
      by : (t : Option Files) → IsFailure s (λ file. IfTold t (λ files. Reads files file)) (IfTold t (λ files. Asks files (refused s))) → DoesRehearse narration values schedule t host_seed S S s
      by None f = record { refuses = tt; outcome = tt }
      by (Some files) f = record {
        refuses = refusing (λ x arrivals p. Unit {0}) (Asks files) (one files) (quiet files) (Reads files) s f;
        outcome = nothing_rehearsed (Asks files) (one files) (quiet files) S.written s (λ file. Reads files file) f;
      }

    pub completes : (S T : WireState) (s : Status) → DoesRehearse narration values schedule told host_seed S T s → (is_fault s ≡ true → s ≡ NoMemory)
        → CompletesRehearse narration values schedule told host_seed S T s
    completes S T s does only_memory = told_map told (λ files o r asks. by files o r asks (is_fault s) refl) does.outcome where
      by : (files : Files) → IsRehearsing (Asks files) s S.written T.written → (r : Rehearsal) → Asks files (given r) → (b : Bool) → is_fault s ≡ b
          → ((out : List ℕ) × IsRehearsed r s out) ⊎ (s ≡ NoMemory)
      by files o r asks true fault = inr (only_memory fault)
      by files o r asks false calm = from (o.is calm) where
        from : ((out : List ℕ) × Outcome (Asks files) s out × Put S.written T.written out) → ((out : List ℕ) × IsRehearsed r s out) ⊎ (s ≡ NoMemory)
        from (out, inl (refuses, is), put) = not_both s r (one files (refused s) (given r) refuses asks)
        from (out, inr (other, also, done), put) = inl (out, subst (λ (x : Rehearsal). IsRehearsed x s out) (same_given other r (one files (given other) (given r) also asks)) done)
