-- What goes on on a wire, one step after another.
use Rattle.std.proofs.Common.{◌≡◌, ℕ, ◌<◌, ◌⊎◌, List, Bool, true, false, Option, Some, refl, ap, sym, ◌∙◌, subst, inl, inr, arith}
use Rattle.std.proofs.Math.Path.{fun_ext}
use Rattle.anb_base.specs.Moves.{Rose, Put, PutPrefix}
use Rattle.anb_base.specs.Places.{line_of}
use Rattle.anb_base.specs.Wires.{WireState}
use Rattle.anb_base.specs.declared.place.Place.{Place}
use Rattle.anb_frame.specs.Cuts.{CutLeft}
use Rattle.anb_base.specs.declared.TheConstants.{ARRIVAL}
use Rattle.anb_base.proofs.Moving.{put_nothing}
use Rattle.anb_plays.specs.Plays.{Played}
use Rattle.anb_status.specs.declared.status.Status.{Status}
use Rattle.anb_status.specs.declared.status.Status.TheVariants.{Done, Usage, FileFault, Unreached, ReadFault, WriteFault, ChildFault, ChildSilent, Unwritten, NoMemory}
use Rattle.anb_command.specs.Causes.{HasWireCause}
use Rattle.anb_command.specs.OverWire.{DidNotReach, HasReached, OnlyWrites, OverWire, StaysReached}
use Rattle.anb_command.specs.Prepared.{RunsOn, RunsTo}
use Rattle.anb_command.specs.Reaches.{Reaches}
use Rattle.anb_command.specs.Reported.{TellsWireFaults}
use Rattle.anb_status.specs.Statuses.{Phase, before_reach, at_reach, after_reach, at_any_time, phase_of}
use Rattle.anb_command.specs.Touches.{Touches}
use Rattle.anb_command.proofs.Reported.{nothing_failed, writing_told}

-- what holds of all that two wires tell holds of their states
pub by_parts : (P : WireState → WireState → Type 0) (old new old_parts new_parts : WireState) → old ≡ old_parts → new ≡ new_parts → P old_parts new_parts → P old new
by_parts P old new old_parts new_parts e d p = subst (λ (x : WireState). P x new) (sym e) (subst (λ (y : WireState). P old_parts y) (sym d) p)

-- a wire that wasn't touched
pub untouched : (reading : Bool) (phase : Phase) (S : WireState) → Touches reading phase S S
untouched reading phase S = record {
  before = λ _. refl;
  unreached = λ _. refl;
  unread = λ _. refl;
  untaken = λ _. refl;
  unread_faults = λ _. refl;
  missed = λ rose. absurd (omega (arith, rose));
  reads = omega arith;
  writes = omega arith;
  reaches = omega arith;
}

pub no_memory : (place : Place) (reading : Bool) (S : WireState) → OverWire place reading NoMemory S S
no_memory place reading S = record { cause = tt; told = nothing_failed S S NoMemory refl refl refl; reached = inl refl; touches = untouched reading at_any_time S }

-- ---- a place that isn't reached

module _ (place : Place) (S T : WireState) (tried : DidNotReach S T) where
  touched_at_reach : (reading : Bool) → Touches reading at_reach S T
  touched_at_reach reading =
      let reads : T.read_faults ≡ S.read_faults = ap (λ (w : WireState). w.read_faults) tried.same in
      let writes : T.write_faults ≡ S.write_faults = ap (λ (w : WireState). w.write_faults) tried.same in
      record {
        before = λ is. absurd (cc);
        unreached = λ _. tried.same;
        missed = λ _. refl;
        unread = λ _. ap (λ (w : WireState). w.left) tried.same;
        untaken = λ _. ap (λ (w : WireState). w.taken_at) tried.same;
        unread_faults = λ _. reads;
        reads = omega (arith, reads);
        writes = omega (arith, writes);
        reaches = tried.never_falls;
      }

  pub not_reached : (reading : Bool) → OverWire place reading (Unreached place) S T
  not_reached reading = record {
    cause = (refl, tried.cause);
    told = record {
      reads = λ rose. absurd (let same = ap (λ (w : WireState). w.read_faults) tried.same in omega (arith, same, rose));
      writes = λ rose. absurd (let same = ap (λ (w : WireState). w.write_faults) tried.same in omega (arith, same, rose));
      reaches = λ rose. (place, refl);
    };
    reached = ap (λ (w : WireState). w.reached) tried.same;
    touches = touched_at_reach reading;
  }

  pub left_unreached : T.left ≡ S.left
  left_unreached = ap (λ (w : WireState). w.left) tried.same

  pub taken_unreached : T.taken_at ≡ S.taken_at
  taken_unreached = ap (λ (w : WireState). w.taken_at) tried.same

  pub written_unreached : T.written ≡ S.written
  written_unreached = ap (λ (w : WireState). w.written) tried.same

-- ---- a place that is reached, and what goes on there

-- a cause behind the reach is one of the whole
cause_from : (S T U : WireState) (place : Place) (s : Status) → (phase_of s ≡ at_reach → ⊥) → T.read_faults ≡ S.read_faults → T.write_faults ≡ S.write_faults
    → HasWireCause (Some place) T U s → HasWireCause (Some place) S U s
cause_from S T U place (Unreached at) not_at reads writes cause = absurd (not_at refl)
cause_from S T U place ReadFault not_at reads writes cause = subst (λ (n : ℕ). Rose n U.read_faults) reads cause
cause_from S T U place WriteFault not_at reads writes cause = subst (λ (n : ℕ). Rose n U.write_faults) writes cause
cause_from S T U place (FileFault file) not_at reads writes cause = cause
cause_from S T U place (ChildFault role) not_at reads writes cause = cause
cause_from S T U place (ChildSilent role seconds) not_at reads writes cause = cause
cause_from S T U place (Unwritten file) not_at reads writes cause = cause
cause_from S T U place Usage not_at reads writes cause = cause
cause_from S T U place _ not_at reads writes cause = tt

module _ (place : Place) (S T : WireState) (at_place : HasReached place S T) where
  same_reach_faults : T.reach_faults ≡ S.reach_faults
  same_reach_faults = ap (λ (w : WireState). w.reach_faults) at_place.same

  same_left : T.left ≡ S.left
  same_left = ap (λ (w : WireState). w.left) at_place.same

  same_taken : T.taken_at ≡ S.taken_at
  same_taken = ap (λ (w : WireState). w.taken_at) at_place.same

  same_read_faults : T.read_faults ≡ S.read_faults
  same_read_faults = ap (λ (w : WireState). w.read_faults) at_place.same

  same_written : T.written ≡ S.written
  same_written = ap (λ (w : WireState). w.written) at_place.same

  same_write_faults : T.write_faults ≡ S.write_faults
  same_write_faults = ap (λ (w : WireState). w.write_faults) at_place.same

  -- a fault behind the reach is told of the whole
  told_from : (U : WireState) (s : Status) → TellsWireFaults T U s → TellsWireFaults S U s
  told_from U s told = record {
    reads = λ rose. told.reads (omega (arith, same_read_faults, rose));
    writes = λ rose. told.writes (omega (arith, same_write_faults, rose));
    reaches = λ rose. told.reaches (omega (arith, same_reach_faults, rose));
  }

  -- a text is written

  module _ (U : WireState) (writes : OnlyWrites T U) where
    written_touches : (phase : Phase) → (phase ≡ before_reach → ⊥) → (phase ≡ at_reach → ⊥) → Touches false phase S U
    written_touches phase not_before not_at =
        let read : U.read_faults ≡ S.read_faults = ap (λ (w : WireState). w.read_faults) writes.same ∙ same_read_faults in
        let reach : U.reach_faults ≡ S.reach_faults = ap (λ (w : WireState). w.reach_faults) writes.same ∙ same_reach_faults in
        record {
          missed = λ rose. absurd (omega (arith, reach, rose));
          before = λ is. absurd (not_before is);
          unreached = λ is. absurd (not_at is);
          unread = λ _. ap (λ (w : WireState). w.left) writes.same ∙ same_left;
          untaken = λ _. ap (λ (w : WireState). w.taken_at) writes.same ∙ same_taken;
          unread_faults = λ _. read;
          reads = omega (arith, read);
          writes = omega (arith, same_write_faults, writes.never_falls);
          reaches = omega (arith, reach);
        }

    written_told : (s : Status) → (T.write_faults < U.write_faults → s ≡ WriteFault) → TellsWireFaults S U s
    written_told s writing = told_from U s (writing_told T U s writes writing)

    told : Put S.reached U.reached (line_of place)
    told = subst (λ (r : Option (List ℕ)). Put S.reached r (line_of place)) (sym (ap (λ (w : WireState). w.reached) writes.same)) at_place.told

    pub text_done : U.write_faults ≡ T.write_faults → OverWire place false Done S U
    text_done quiet = record { cause = tt; told = written_told Done (λ rose. absurd (omega (arith, quiet, rose))); reached = told; touches = written_touches after_reach (λ is. absurd (cc)) (λ is. absurd (cc)) }

    pub text_failed : Rose T.write_faults U.write_faults → OverWire place false WriteFault S U
    text_failed rose = record {
      cause = subst (λ (n : ℕ). Rose n U.write_faults) same_write_faults rose;
      told = written_told WriteFault (λ _. refl);
      reached = told;
      touches = written_touches after_reach (λ is. absurd (cc)) (λ is. absurd (cc));
    }

    pub text_wanting : U.write_faults ≡ T.write_faults → OverWire place false NoMemory S U
    text_wanting quiet = record { cause = tt; told = written_told NoMemory (λ rose. absurd (omega (arith, quiet, rose))); reached = inr told; touches = written_touches at_any_time (λ is. absurd (cc)) (λ is. absurd (cc)) }

    pub text_put : (text : List ℕ) → Put T.written U.written text → Put S.written U.written text
    text_put text put = subst (λ (w : Option (List ℕ)). Put w U.written text) same_written put

    pub text_prefix : (text : List ℕ) → PutPrefix T.written U.written text → PutPrefix S.written U.written text
    text_prefix text put = subst (λ (w : Option (List ℕ)). PutPrefix w U.written text) same_written put

  -- a code is run

  module _ (U : WireState) (stays : StaysReached T U) (s : Status) (after : (phase_of s ≡ after_reach) ⊎ (s ≡ NoMemory)) where
    pub not_before : phase_of s ≡ before_reach → ⊥
    not_before is = elim after [
      | inl late ↦ let never : before_reach ≡ after_reach = sym is ∙ late in cc
      | inr none ↦ let never : before_reach ≡ at_any_time = sym is ∙ ap phase_of none in cc
    ]

    not_at : phase_of s ≡ at_reach → ⊥
    not_at is = elim after [
      | inl late ↦ let never : at_reach ≡ after_reach = sym is ∙ late in cc
      | inr none ↦ let never : at_reach ≡ at_any_time = sym is ∙ ap phase_of none in cc
    ]

    run_told : Put S.reached U.reached (line_of place)
    run_told = subst (λ (r : Option (List ℕ)). Put S.reached r (line_of place)) (sym stays.reached) at_place.told

    run_reaches : Reaches (Some place) (phase_of s) S.reached U.reached
    run_reaches = elim after [
      | inl late ↦ subst (λ (p : Phase). Reaches (Some place) p S.reached U.reached) (sym late) run_told
      | inr none ↦ subst (λ (t : Status). Reaches (Some place) (phase_of t) S.reached U.reached) (sym none) (inr run_told)
    ]

    run_touches : Touches true (phase_of s) S U
    run_touches = record {
      missed = λ rose. absurd (omega (arith, stays.reach_faults, same_reach_faults, rose));
      before = λ is. absurd (not_before is);
      unreached = λ is. absurd (not_at is);
      unread = λ is. absurd (cc);
      untaken = λ is. absurd (cc);
      unread_faults = λ is. absurd (cc);
      reads = omega (arith, same_read_faults, stays.reads);
      writes = omega (arith, same_write_faults, stays.writes);
      reaches = omega (arith, stays.reach_faults, same_reach_faults);
    }

    pub ran : HasWireCause (Some place) T U s → TellsWireFaults T U s → OverWire place true s S U
    ran cause told = record { cause = cause_from S T U place s not_at same_read_faults same_write_faults cause; told = told_from U s told; reached = run_reaches; touches = run_touches }

  -- nothing goes on there

  stays_there : StaysReached T T
  stays_there = record { reached = refl; reach_faults = refl; reads = omega arith; writes = omega arith }

  pub only_reached : (s : Status) → (phase_of s ≡ after_reach) ⊎ (s ≡ NoMemory) → HasWireCause (Some place) T T s → OverWire place false s S T
  only_reached s after cause = record {
    cause = cause_from S T T place s (not_at T stays_there s after) same_read_faults same_write_faults cause;
    told = nothing_failed S T s same_read_faults same_write_faults same_reach_faults;
    reached = run_reaches T stays_there s after;
    touches = record {
      missed = λ rose. absurd (omega (arith, same_reach_faults, rose));
      before = λ is. absurd (not_before T stays_there s after is);
      unreached = λ is. absurd (not_at T stays_there s after is);
      unread = λ _. same_left;
      untaken = λ _. same_taken;
      unread_faults = λ _. same_read_faults;
      reads = omega (arith, same_read_faults);
      writes = omega (arith, same_write_faults);
      reaches = omega (arith, same_reach_faults);
    };
  }

  pub runs_after : (R R' : List (List ℕ) → Played (List ℕ)) → ((arrivals : List (List ℕ)) → R arrivals ≡ R' arrivals) → (U : WireState) (s : Status) → RunsOn R T U s → RunsOn R' S U s
  runs_after R R' same U s runs arrivals tail cut =
      let there : RunsTo R arrivals tail T.left U.left T.written U.written s = runs arrivals tail (subst (λ (l : Option (List ℕ)). CutLeft ARRIVAL l arrivals tail) (sym same_left) cut) in
      let here : RunsTo R arrivals tail S.left U.left T.written U.written s = subst (λ (l : Option (List ℕ)). RunsTo R arrivals tail l U.left T.written U.written s) same_left there in
      let also : RunsTo R arrivals tail S.left U.left S.written U.written s = subst (λ (v : Option (List ℕ)). RunsTo R arrivals tail S.left U.left v U.written s) same_written here in
      subst (λ (Q : List (List ℕ) → Played (List ℕ)). RunsTo Q arrivals tail S.left U.left S.written U.written s) (fun_ext same) also

pub runs_nowhere : (R : List (List ℕ) → Played (List ℕ)) (S : WireState) → RunsOn R S S NoMemory
runs_nowhere R S arrivals tail cut = (0, put_nothing S.written)
