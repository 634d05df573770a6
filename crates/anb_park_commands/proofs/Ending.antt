-- From what a session gives over a wire to the outcome.
use Rattle.std.proofs.Common.{◌≡◌, ℕ, false, List, [], take, Option, Some, refl, ap, sym, ◌∙◌, subst, inl, inr}
use Rattle.anb_base.specs.Bytes.{IsBytes}
use Rattle.anb_base.specs.Moves.{Put}
use Rattle.anb_base.specs.declared.TheConstants.{ARRIVAL}
use Rattle.anb_base.proofs.Moving.{put_nothing}
use Rattle.anb_frame.specs.Frames.{frames}
use Rattle.anb_frame.specs.Cuts.{Tail, End, Short, Long, Cut}
use Rattle.anb_plays.specs.Plays as plays
use Rattle.anb_plays.specs.Plays.{Played}
use Rattle.anb_session.specs.Sessions.{Reads}
use Rattle.anb_status.specs.declared.status.Status.{Status}
use Rattle.anb_status.specs.declared.status.Status.TheVariants.{FileFault, Unreached, Parked, ReadFault, WriteFault, NoMemory}
use Rattle.anb_command.specs.Outcomes.{LeavesAt}
use Rattle.anb_status.specs.Statuses.{is_fault}
use Rattle.anb_command.specs.Steps.{Answer, refused, given, HasOneAnswer, IsFailure}
use Rattle.anb_command.proofs.Cutting.{bytes_in_cut, bytes_taken}
use Rattle.anb_command.proofs.Ones.{RefusesQuietly, not_both, same_given, same_refusal}
use Rattle.anb_command.proofs.Runs.{leaves_once, reads_leaves}
use Rattle.anb_command.proofs.Written.{faulty}
use Rattle.anb_park_commands.specs.declared.ended.RecordWay.{RecordWay}
use Rattle.anb_park_commands.specs.Going.{ParksTo}
use Rattle.anb_park_commands.specs.Parking.{IsOutcome, Outcome, due, record_after, status_at}
use Rattle.anb_park_commands.specs.Sessions.{RoleSession}
use Rattle.anb_park_commands.proofs.Ready.{IsReady}

ends_quietly : (x : plays.End) (tail : Tail) → is_fault (status_at x tail) ≡ false
ends_quietly plays.done tail = refl
ends_quietly (plays.stopped e at) tail = refl
ends_quietly (plays.waiting e) End = refl
ends_quietly (plays.waiting e) (Short have need) = refl
ends_quietly (plays.waiting e) (Long len) = refl

-- it is parked where it waits before the input's end
pub parked_waits : (x : plays.End) (tail : Tail) (event : ℕ) → Parked event ≡ status_at x tail → (x ≡ plays.waiting event) × (tail ≡ End)
parked_waits plays.done tail event is = absurd (cc)
parked_waits (plays.stopped e at) tail event is = absurd (cc)
parked_waits (plays.waiting e) End event is = let same : event ≡ e = cc in (ap plays.waiting (sym same), refl)
parked_waits (plays.waiting e) (Short have need) event is = absurd (cc)
parked_waits (plays.waiting e) (Long len) event is = absurd (cc)

module _ (way : RecordWay) (Comes : RoleSession → List (List ℕ) → Played (List ℕ) → Type 0) (Prepares : Answer RoleSession → Type 0) (one : HasOneAnswer Prepares) where
  -- a session over an input with this cut
  module _ (R : List (List ℕ) → Played (List ℕ)) (records : List (List ℕ) → List ℕ) (Kept : List (List ℕ) → Type 0) (ready : IsReady Comes Prepares R records Kept)
      (left : List ℕ) (arrivals : List (List ℕ)) (tail : Tail) (bytes : IsBytes left) (is_cut : Cut ARRIVAL left arrivals tail) (now written written_now : Option (List ℕ)) where
    it_comes : Comes ready.asked arrivals (R arrivals)
    it_comes = (ready.comes arrivals (bytes_in_cut left arrivals tail bytes is_cut) (R arrivals)).1 refl

    -- what is due is told by the session alone
    due_is : due way (R arrivals) tail (record_after ready.asked arrivals) ≡ due way (R arrivals) tail (records arrivals)
    due_is = ap (due way (R arrivals) tail) (ready.records_are arrivals)

    abbrev Out : Status → Type 0
    Out s = IsOutcome way Comes Prepares left arrivals tail s now written written_now

    concluded : (status : Status) → (status ≡ status_at (R arrivals).end tail) → Put written written_now (frames (due way (R arrivals) tail (records arrivals)))
        → Reads (R arrivals).end arrivals (R arrivals).left tail (Some left) now → Out status
    concluded status ends put reads =
        let leaves = reads_leaves (R arrivals).end left arrivals (R arrivals).left tail now reads in
        let quiet : is_fault status ≡ false = ap is_fault ends ∙ ends_quietly (R arrivals).end tail in
        record {
          is = λ _. (
            frames (due way (R arrivals) tail (records arrivals)),
            leaves.0,
            inr (ready.asked, ready.asks, record { play = R arrivals; plays = it_comes; status_is = ends; writes = ap frames (sym due_is); leaves = leaves.2 }),
            put,
            leaves.1,
          );
          only = λ _. only leaves.0 leaves.1 leaves.2;
          cut_short = λ fault. faulty (sym fault ∙ quiet);
        } where
          only : (rest : List ℕ) → now ≡ Some rest → LeavesAt (R arrivals).end left arrivals (R arrivals).left tail rest
              → (s : Status) (out other : List ℕ) → Outcome way Comes Prepares left arrivals tail s out other → (status ≡ s) × Put written written_now out × (now ≡ Some other)
          only rest now_is leaves s out other (inl refusal) = not_both s ready.asked (one (refused s) (given ready.asked) refusal.refuses ready.asks)
          only rest now_is leaves s out other (inr (asked, asks, played)) =
              let is_asked : asked ≡ ready.asked = same_given asked ready.asked (one (given asked) (given ready.asked) asks ready.asks) in
              let plays_it : Comes ready.asked arrivals played.play = subst (λ (a : RoleSession). Comes a arrivals played.play) is_asked played.plays in
              let is : played.play ≡ R arrivals = (ready.comes arrivals (bytes_in_cut left arrivals tail bytes is_cut) played.play).0 plays_it in
              let wrote : out ≡ frames (due way (R arrivals) tail (records arrivals)) =
              played.writes ∙ ap (λ (p : Played (List ℕ)). frames (due way p tail (record_after asked arrivals))) is ∙ ap (λ (a : RoleSession). frames (due way (R arrivals) tail (record_after a arrivals))) is_asked ∙ ap frames due_is in (
                ends ∙ sym (ap (λ (p : Played (List ℕ)). status_at p.end tail) is) ∙ sym played.status_is,
                subst (λ (o : List ℕ). Put written written_now o) (sym wrote) put,
                now_is ∙ ap Some (leaves_once (R arrivals).end left arrivals (R arrivals).left tail rest other leaves
                    (subst (λ (p : Played (List ℕ)). LeavesAt p.end left arrivals p.left tail other) is played.leaves)),
              )

    -- what comes of a session over the wire
    pub comes : (status : Status) → ParksTo way R records arrivals tail (Some left) now written written_now status → IsOutcome way Comes Prepares left arrivals tail status now written written_now
    comes (Unreached at) (same, unwritten) = record {
      is = faulty;
      only = faulty;
      cut_short = λ _. ([], ((ready.asked, ready.asks), refl, same), subst (λ (w : Option (List ℕ)). Put written w []) (sym unwritten) (put_nothing written));
    }
    comes WriteFault (n, within, put) = record {
      is = faulty;
      only = faulty;
      cut_short = λ _. (take n (frames (due way (R arrivals) tail (records arrivals))), (ready.asked, ready.asks, (R arrivals, it_comes, (n, ap (λ ds. take n (frames ds)) (sym due_is)))), put);
    }
    comes ReadFault (taken, whole, part, e, took, cut, waits, put) = record {
      is = faulty;
      only = faulty;
      cut_short = λ _. (
        frames (R whole).sent,
        (
          ready.asked,
          ready.asks,
          (
            taken,
            whole,
            part,
            took,
            cut,
            (R whole, (ready.comes whole (bytes_in_cut taken whole part (bytes_taken left now taken bytes took) cut) (R whole)).1 refl, (e, waits), refl),
          ),
        ),
        put,
      );
    }
    comes NoMemory (k, put) = record {
      is = faulty;
      only = faulty;
      cut_short = λ _. (frames (take k (due way (R arrivals) tail (records arrivals))), inr (ready.asked, ready.asks, (R arrivals, it_comes, (k, ap (λ ds. frames (take k ds)) (sym due_is)))), put);
    }
    comes status ran = concluded status ran.0 ran.1 ran.2

  -- ---- where there is none

  module _ (quiet : RefusesQuietly Prepares) (left : List ℕ) (arrivals : List (List ℕ)) (tail : Tail) (w : Option (List ℕ)) where
    quiet_refusal : (s : Status) → Prepares (refused s) → is_fault s ≡ false → IsOutcome way Comes Prepares left arrivals tail s (Some left) w w
    quiet_refusal s asks quiet_s = record {
      is = λ _. ([], left, inl (record { refuses = asks; writes = refl; leaves = refl }), put_nothing w, refl);
      only = λ _. only;
      cut_short = λ fault. faulty (sym fault ∙ quiet_s);
    } where
      only : (t : Status) (out rest : List ℕ) → Outcome way Comes Prepares left arrivals tail t out rest → (s ≡ t) × Put w w out × (Some left ≡ Some rest)
      only t out rest (inl is) =
          (same_refusal s t (one (refused s) (refused t) asks is.refuses), subst (λ (o : List ℕ). Put w w o) (sym is.writes) (put_nothing w), ap Some (sym is.leaves))
      only t out rest (inr (a, other, played)) = not_both s a (one (refused s) (given a) asks other)

    pub nothing_played : (s : Status) (P : List ℕ → Type 0) → IsFailure s P (Prepares (refused s)) → IsOutcome way Comes Prepares left arrivals tail s (Some left) w w
    nothing_played (FileFault name) P fails = record { is = faulty; only = faulty; cut_short = λ _. ([], (refl, refl), put_nothing w) }
    nothing_played NoMemory P fails = record { is = faulty; only = faulty; cut_short = λ _. ([], inl (refl, refl), put_nothing w) }
    nothing_played s P asks = quiet_refusal s asks (quiet.each s asks).0
