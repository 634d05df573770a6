-- What goes on on a wire that is reached, step after step.
use Rattle.std.proofs.Common.{◌≡◌, ◌⊎◌, ℕ, List, [], ◌++◌, length, Option, Some, refl, ap, sym, ◌∙◌, subst, inl, inr, arith}
use Rattle.std.proofs.Math.Path.{fun_ext}
use Rattle.std.specs.Prelude.{IfSome}
use Rattle.anb_role_commands.specs.Playing.{play_by}
use Rattle.anb_base.specs.Moves.{Rose, Put, Took}
use Rattle.anb_base.specs.Wires.{WireState}
use Rattle.anb_base.specs.declared.TheConstants.{ARRIVAL}
use Rattle.anb_base.specs.declared.place.Place.{Place}
use Rattle.anb_base.proofs.Moving.{Rose-later, put_nothing}
use Rattle.anb_code.specs.CodeValue.{CodeValue}
use Rattle.anb_frame.specs.Cuts.{Tail, CutLeft}
use Rattle.anb_frame.specs.Frames.{frames}
use Rattle.anb_park.specs.Lives.{IsParked, LiveValue, Stands, WaitsAgain}
use Rattle.anb_park.specs.Records.{Parked, after}
use Rattle.anb_plays.specs.Runs.{without_place}
use Rattle.anb_plays.specs.Plays.{Run}
use Rattle.anb_session.specs.Sessions.{IsPrompt, Runs, due_at}
use Rattle.anb_session.specs.declared.PlayEnd.{PlayEnd}
use Rattle.anb_session.specs.declared.PlayEnd.TheVariants as ends
use Rattle.anb_status.specs.declared.status.Status.{Status}
use Rattle.anb_status.specs.declared.status.Status.TheVariants as ended
use Rattle.anb_command.specs.Causes.{HasWireCause}
use Rattle.anb_command.specs.OverWire.{HasReached, OnlyWrites, StaysReached}
use Rattle.anb_status.specs.Statuses.{after_reach, phase_of}
use Rattle.anb_park_commands.specs.declared.ended.RecordWay.{RecordWay}
use Rattle.anb_park_commands.specs.Going.{IsKept, ParksOn, ParksTo, Writes, begun, ended_so, plays_on}
use Rattle.anb_park_commands.proofs.Written.{kept_to, parks_to}

-- ---- the end of a session that isn't parked

pub after_of : (e : PlayEnd) → (phase_of (ended_so e) ≡ after_reach) ⊎ (ended_so e ≡ ended.NoMemory)
after_of ends.NoMemory = inr refl
after_of _ = inl refl

pub cause_of : (e : PlayEnd) (place : Place) (S T : WireState) → (e ≡ ends.ReadFault → Rose S.read_faults T.read_faults) → (e ≡ ends.WriteFault → Rose S.write_faults T.write_faults)
    → HasWireCause (Some place) S T (ended_so e)
cause_of ends.ReadFault place S T reads writes = reads refl
cause_of ends.WriteFault place S T reads writes = writes refl
cause_of _ place S T reads writes = tt

pub never_parked : (e : PlayEnd) (event : ℕ) → ended_so e ≡ ended.Parked event → ⊥
never_parked ends.Done event never = absurd (cc)
never_parked (ends.Stopped halt) event never = absurd (cc)
never_parked (ends.Waiting e) event never = absurd (cc)
never_parked (ends.Truncated have need) event never = absurd (cc)
never_parked (ends.TooLarge len) event never = absurd (cc)
never_parked ends.ReadFault event never = absurd (cc)
never_parked ends.WriteFault event never = absurd (cc)
never_parked ends.NoMemory event never = absurd (cc)

-- ---- a play, and then the record

module _ (S T U : WireState) (stays : StaysReached S T) (writes : OnlyWrites T U) where
  pub stays_writing : StaysReached S U
  stays_writing =
      let reads : U.read_faults ≡ T.read_faults = ap (λ (w : WireState). w.read_faults) writes.same in
      record {
        reached = ap (λ (w : WireState). w.reached) writes.same ∙ stays.reached;
        reach_faults = ap (λ (w : WireState). w.reach_faults) writes.same ∙ stays.reach_faults;
        reads = omega (arith, reads, stays.reads);
        writes = omega (arith, stays.writes, writes.never_falls);
      }

  pub cause_further : (place : Place) (s : Status) → HasWireCause (Some place) T U s → HasWireCause (Some place) S U s
  cause_further place (ended.Unreached at) cause = (cause.0, Rose-later S.reach_faults T.reach_faults U.reach_faults (omega (arith, stays.reach_faults)) cause.1)
  cause_further place ended.ReadFault cause = Rose-later S.read_faults T.read_faults U.read_faults stays.reads cause
  cause_further place ended.WriteFault cause = Rose-later S.write_faults T.write_faults U.write_faults stays.writes cause
  cause_further place (ended.FileFault file) cause = cause
  cause_further place (ended.ChildFault role) cause = cause
  cause_further place (ended.ChildSilent role seconds) cause = cause
  cause_further place (ended.Unwritten file) cause = cause
  cause_further place ended.Usage cause = cause
  cause_further place _ cause = tt

-- nothing is taken where only something is written
pub prompt_writing : (R : Run) (S T U : WireState) → OnlyWrites T U → IsPrompt R S T → IsPrompt R S U
prompt_writing R S T U writes p = record {
  whole = p.whole;
  rest = p.rest;
  tail = p.tail;
  fits = p.fits;
  ends = p.ends;
  took = subst (λ (l : Option (List ℕ)). Took S.left l (frames p.whole ++ p.rest)) (sym (ap (λ (w : WireState). w.left) writes.same)) p.took;
  in_time = subst (λ (t : Option (List ℕ)). IfSome S.written (λ text. Put S.taken_at t (due_at R (length text) [] p.whole (length p.rest)))) (sym (ap (λ (w : WireState). w.taken_at) writes.same)) p.in_time;
  awaited = p.awaited;
  awaits = p.awaits;
}

module _ (way : RecordWay) (R : Run) (saved : List (List ℕ) → List ℕ) (S T : WireState) where
  abbrev pub RunsSo : PlayEnd → Type 0
  RunsSo end = (arrivals : List (List ℕ)) (tail : Tail) → CutLeft ARRIVAL S.left arrivals tail → Runs R arrivals tail S.left T.left S.written T.written end

  pub parks_ended : (end : PlayEnd) → ((e : ℕ) → end ≡ ends.Waiting e → ⊥) → RunsSo end → ParksOn way (λ heard. without_place (R heard)) saved S T (ended_so end)
  parks_ended end other runs arrivals tail cut = parks_to way R saved arrivals tail S.left T.left S.written T.written end other (runs arrivals tail cut)

  pub parks_waiting : (event : ℕ) (U : WireState) → OnlyWrites T U → RunsSo (ends.Waiting event) → (s : Status)
      → ((arrivals : List (List ℕ)) (tail : Tail) → CutLeft ARRIVAL S.left arrivals tail → Writes way (saved arrivals) event T U s)
      → ParksOn way (λ heard. without_place (R heard)) saved S U s
  parks_waiting event U writes runs s wrote arrivals tail cut =
      let (is, put, reads) = runs arrivals tail cut in
      let left : U.left ≡ T.left = ap (λ (w : WireState). w.left) writes.same in
      subst (λ (l : Option (List ℕ)). ParksTo way (λ heard. without_place (R heard)) saved arrivals tail S.left l S.written U.written s) (sym left)
      (kept_to way R saved arrivals event S.left T.left S T U put tail is reads s (wrote arrivals tail cut))

-- it waits again with all that was left, where that is told
pub parked_after : (code : CodeValue) (s : Parked) (left : Option (List ℕ)) (live : LiveValue) → WaitsAgain code s left live → (arrivals : List (List ℕ)) (tail : Tail) → CutLeft ARRIVAL left arrivals tail → IsParked code (after s arrivals) live
parked_after code s left live again arrivals tail cut = subst (λ (l : List (List ℕ)). IsParked code (after s l) live) (sym (again.all arrivals tail cut)) again.parked

-- ---- behind the reach of a place

pub parks_after : (way : RecordWay) (R : Run) (saved : List (List ℕ) → List ℕ) (place : Place) (S T U : WireState) → HasReached place S T → (s : Status) → ParksOn way R saved T U s → ParksOn way R saved S U s
parks_after way R saved place S T U reached s parks arrivals tail cut =
    let left : T.left ≡ S.left = ap (λ (w : WireState). w.left) reached.same in
    let written : T.written ≡ S.written = ap (λ (w : WireState). w.written) reached.same in
    subst (λ (v : Option (List ℕ)). ParksTo way R saved arrivals tail S.left U.left v U.written s) written
    (subst (λ (l : Option (List ℕ)). ParksTo way R saved arrivals tail l U.left T.written U.written s) left (parks arrivals tail (subst (λ (l : Option (List ℕ)). CutLeft ARRIVAL l arrivals tail) (sym left) cut)))

pub parks_nowhere : (way : RecordWay) (R : Run) (saved : List (List ℕ) → List ℕ) (S : WireState) → ParksOn way R saved S S ended.NoMemory
parks_nowhere way R saved S arrivals tail cut = (0, put_nothing S.written)

pub kept_after : (code : CodeValue) (s : Parked) (place : Place) (S T : WireState) → HasReached place S T → (status : Status) → IsKept code s T.left status → IsKept code s S.left status
kept_after code s place S T reached status kept = subst (λ (l : Option (List ℕ)). IsKept code s l status) (ap (λ (w : WireState). w.left) reached.same) kept

-- ---- a new session

module _ (code : CodeValue) (id seed : List ℕ) (initial : List (List ℕ)) (live : LiveValue) (stands : Stands code (begun id seed initial) [] live) where
  pub same_run : plays_on live ≡ play_by code initial seed
  same_run = fun_ext (λ more. ap without_place (sym (stands.comes more)))

  pub parks_begun : (way : RecordWay) (saved : List (List ℕ) → List ℕ) (S T : WireState) (s : Status) → ParksOn way (plays_on live) saved S T s → ParksOn way (play_by code initial seed) saved S T s
  parks_begun way saved S T s parks = subst (λ (R : Run). ParksOn way R saved S T s) same_run parks

  pub prompt_begun : (S T : WireState) → IsPrompt (plays_on live) S T → IsPrompt (play_by code initial seed) S T
  prompt_begun S T prompt = subst (λ (R : Run). IsPrompt R S T) same_run prompt
