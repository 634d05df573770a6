-- From a run over a wire to the outcome of a play.
use Rattle.std.proofs.Common.{◌≡◌, ℕ, false, List, [], ◌++◌, take, Option, Some, None, refl, ap, sym, ◌∙◌, subst, inl, inr, append_assoc}
use Rattle.std.proofs.lemmas.List.{append_cancel_left, append_cancel_right}
use Rattle.anb_base.specs.Bytes.{IsBytes}
use Rattle.anb_base.specs.Moves.{Put, PutPrefix}
use Rattle.anb_base.specs.declared.TheConstants.{ARRIVAL}
use Rattle.anb_base.proofs.Moving.{put_nothing}
use Rattle.anb_frame.specs.Frames.{frames, length_bytes}
use Rattle.anb_frame.specs.Cuts.{Tail, End, Short, Long, Cut}
use Rattle.anb_plays.specs.Plays as plays
use Rattle.anb_plays.specs.Plays.{Played}
use Rattle.anb_plays.specs.Runs.{no_place, without_place}
use Rattle.anb_machine.specs.declared.turn.Halt.{Halt}
use Rattle.anb_session.specs.Sessions.{Runs, Concludes, Reads, end_at}
use Rattle.anb_session.specs.declared.PlayEnd.{PlayEnd}
use Rattle.anb_session.specs.declared.PlayEnd.TheVariants as ends
use Rattle.anb_status.specs.declared.status.Status.{Status}
use Rattle.anb_status.specs.declared.status.Status.TheVariants.{Unreached, Stopped, ReadFault, WriteFault, NoMemory}
use Rattle.anb_command.specs.Outcomes.{status_at, LeavesAt, Outcome, IsOutcome}
use Rattle.anb_command.specs.Prepared.{IsReady, RunsTo, status_of}
use Rattle.anb_status.specs.Statuses.{is_fault}
use Rattle.anb_command.specs.Steps.{Answer, refused, given, HasOneAnswer}
use Rattle.anb_command.proofs.Cutting.{bytes_in_cut, bytes_taken}
use Rattle.anb_command.proofs.Ones.{same_given, not_both}
use Rattle.anb_command.proofs.Written.{faulty}

-- a play over a wire ends with the status of its end
status_of_end : (e : plays.End) (tail : Tail) → status_of (end_at e tail) ≡ status_at e tail
status_of_end plays.done tail = refl
status_of_end (plays.stopped e at) tail = refl
status_of_end (plays.waiting e) End = refl
status_of_end (plays.waiting e) (Short have need) = refl
status_of_end (plays.waiting e) (Long len) = refl

is_quiet : (e : plays.End) (tail : Tail) → is_fault (status_at e tail) ≡ false
is_quiet plays.done tail = refl
is_quiet (plays.stopped e at) tail = refl
is_quiet (plays.waiting e) End = refl
is_quiet (plays.waiting e) (Short have need) = refl
is_quiet (plays.waiting e) (Long len) = refl

-- where two functions give the same runs, what comes of the one over a wire comes of the other
module _ (R S : List (List ℕ) → Played (List ℕ)) (same : (arrivals : List (List ℕ)) → R arrivals ≡ S arrivals)
    (arrivals : List (List ℕ)) (tail : Tail) (left now written written_now : Option (List ℕ)) where
  concludes : (end : PlayEnd) → Concludes R arrivals tail left now written written_now end
      → (status_of end ≡ status_at (S arrivals).end tail) × Put written written_now (frames (S arrivals).sent) × Reads (S arrivals).end arrivals (S arrivals).left tail left now
  concludes end (is, put, reads) =
      subst (λ (p : Played (List ℕ)). (status_of end ≡ status_at p.end tail) × Put written written_now (frames p.sent) × Reads p.end arrivals p.left tail left now) (same arrivals)
      (ap status_of is ∙ status_of_end (R arrivals).end tail, put, reads)

  pub runs_to : (end : PlayEnd) → Runs R arrivals tail left now written written_now end → RunsTo S arrivals tail left now written written_now (status_of end)
  runs_to ends.Done is = concludes ends.Done is
  runs_to (ends.Stopped halt) is = concludes (ends.Stopped halt) is
  runs_to (ends.Waiting e) is = concludes (ends.Waiting e) is
  runs_to (ends.Truncated have need) is = concludes (ends.Truncated have need) is
  runs_to (ends.TooLarge len) is = concludes (ends.TooLarge len) is
  runs_to ends.WriteFault is = subst (λ (p : Played (List ℕ)). PutPrefix written written_now (frames p.sent)) (same arrivals) is
  runs_to ends.ReadFault (taken, whole, part, e, took, cut, waits, put) =
      (taken, whole, part, e, took, cut, subst (λ (p : Played (List ℕ)). p.end ≡ plays.waiting e) (same whole) waits, subst (λ (p : Played (List ℕ)). Put written written_now (frames p.sent)) (same whole) put)
  runs_to ends.NoMemory (k, put) = (k, subst (λ (p : Played (List ℕ)). Put written written_now (frames (take k p.sent))) (same arrivals) put)

-- ---- from what was read to what is left

-- what is left is one
pub leaves_once : (end : plays.End) (left : List ℕ) (arrivals unused : List (List ℕ)) (tail : Tail) (one other : List ℕ)
    → LeavesAt end left arrivals unused tail one → LeavesAt end left arrivals unused tail other → one ≡ other
leaves_once (plays.waiting e) left arrivals unused End one other p q = p ∙ sym q
leaves_once (plays.waiting e) left arrivals unused (Short have need) one other p q = p ∙ sym q
leaves_once (plays.waiting e) left arrivals unused (Long len) one other p q = append_cancel_left (length_bytes len) one other (append_cancel_left (frames arrivals) _ _ (sym p ∙ q))
leaves_once (plays.stopped e at) left arrivals unused tail one other (used, is, leaves) (used', is', leaves') =
    let same : used ≡ used' = append_cancel_right used used' unused (sym is ∙ is') in
    append_cancel_left (frames used) one other (sym leaves ∙ leaves' ∙ ap (λ (u : List (List ℕ)). frames u ++ other) (sym same))
leaves_once plays.done left arrivals unused tail one other (used, is, leaves) (used', is', leaves') =
    let same : used ≡ used' = append_cancel_right used used' unused (sym is ∙ is') in
    append_cancel_left (frames used) one other (sym leaves ∙ leaves' ∙ ap (λ (u : List (List ℕ)). frames u ++ other) (sym same))

-- what was read of an input that is told leaves the rest
pub reads_leaves : (end : plays.End) (left : List ℕ) (arrivals unused : List (List ℕ)) (tail : Tail) (now : Option (List ℕ)) → Reads end arrivals unused tail (Some left) now
    → (rest : List ℕ) × (now ≡ Some rest) × LeavesAt end left arrivals unused tail rest
reads_leaves (plays.waiting e) left arrivals unused End None (taken, took, at_end) = absurd took
reads_leaves (plays.waiting e) left arrivals unused End (Some rest) (taken, took, at_end) = (rest, refl, at_end)
reads_leaves (plays.waiting e) left arrivals unused (Short have need) None (taken, took, at_end) = absurd took
reads_leaves (plays.waiting e) left arrivals unused (Short have need) (Some rest) (taken, took, at_end) = (rest, refl, at_end)
reads_leaves (plays.waiting e) left arrivals unused (Long len) None took = absurd took
reads_leaves (plays.waiting e) left arrivals unused (Long len) (Some rest) took = (rest, refl, took ∙ append_assoc (frames arrivals) (length_bytes len) rest)
reads_leaves (plays.stopped e at) left arrivals unused tail None (used, is, took) = absurd took
reads_leaves (plays.stopped e at) left arrivals unused tail (Some rest) (used, is, took) = (rest, refl, (used, is, took))
reads_leaves plays.done left arrivals unused tail None (used, is, took) = absurd took
reads_leaves plays.done left arrivals unused tail (Some rest) (used, is, took) = (rest, refl, (used, is, took))

-- ---- a play tells no instruction

end_untold : (halt : Halt) (e : plays.End) (tail : Tail) → Stopped halt ≡ status_at e tail → Stopped (record { event = halt.event; at = 0 }) ≡ status_at (no_place e) tail
end_untold halt plays.done tail never = absurd (cc)
end_untold halt (plays.stopped e at) tail is =
    let same : halt ≡ record { event = e; at = at } = cc in
    ap (λ (h : Halt). Stopped (record { event = h.event; at = 0 })) same
end_untold halt (plays.waiting e) End never = absurd (cc)
end_untold halt (plays.waiting e) (Short have need) never = absurd (cc)
end_untold halt (plays.waiting e) (Long len) never = absurd (cc)

end_kept : (s : Status) (e : plays.End) (tail : Tail) → ((halt : Halt) → s ≡ Stopped halt → ⊥) → s ≡ status_at e tail → s ≡ status_at (no_place e) tail
end_kept s plays.done tail other is = is
end_kept s (plays.stopped e at) tail other is = absurd (other (record { event = e; at = at }) is)
end_kept s (plays.waiting e) tail other is = is

pub reads_untold : (e : plays.End) (arrivals unused : List (List ℕ)) (tail : Tail) (left now : Option (List ℕ)) → Reads e arrivals unused tail left now → Reads (no_place e) arrivals unused tail left now
reads_untold plays.done arrivals unused tail left now reads = reads
reads_untold (plays.stopped e at) arrivals unused tail left now reads = reads
reads_untold (plays.waiting e) arrivals unused tail left now reads = reads

module _ (R : List (List ℕ) → Played (List ℕ)) (arrivals : List (List ℕ)) (tail : Tail) (left now written written_now : Option (List ℕ)) where
  abbrev untold : List (List ℕ) → Played (List ℕ)
  untold heard = without_place (R heard)

  pub stops_untold : (halt : Halt) → RunsTo R arrivals tail left now written written_now (Stopped halt) → RunsTo untold arrivals tail left now written written_now (Stopped (record { event = halt.event; at = 0 }))
  stops_untold halt (is, put, reads) = (end_untold halt (R arrivals).end tail is, put, reads_untold (R arrivals).end arrivals (R arrivals).left tail left now reads)

  pub ends_untold : (s : Status) → ((halt : Halt) → s ≡ Stopped halt → ⊥) → RunsTo R arrivals tail left now written written_now s → RunsTo untold arrivals tail left now written written_now s
  ends_untold (Unreached at) other ran = ran
  ends_untold WriteFault other ran = ran
  ends_untold ReadFault other (taken, whole, part, e, took, cut, waits, put) = (taken, whole, part, e, took, cut, ap no_place waits, put)
  ends_untold NoMemory other ran = ran
  ends_untold s other ran = (end_kept s (R arrivals).end tail other ran.0, ran.1, reads_untold (R arrivals).end arrivals (R arrivals).left tail left now ran.2)

-- ---- the outcome

module _ {A : Type 0} (IsRunOf : A → List (List ℕ) → Played (List ℕ) → Type 0) (Prepares : Answer A → Type 0) (one : HasOneAnswer Prepares) (R : List (List ℕ) → Played (List ℕ)) (ready : IsReady IsRunOf Prepares R)
    (left : List ℕ) (arrivals : List (List ℕ)) (tail : Tail) (bytes : IsBytes left) (is_cut : Cut ARRIVAL left arrivals tail) (now written written_now : Option (List ℕ)) where
  it_comes : IsRunOf ready.asked arrivals (R arrivals)
  it_comes = (ready.comes arrivals (bytes_in_cut left arrivals tail bytes is_cut) (R arrivals)).1 refl

  -- a run to its end
  concluded : (status : Status) → (status ≡ status_at (R arrivals).end tail) → Put written written_now (frames (R arrivals).sent)
      → Reads (R arrivals).end arrivals (R arrivals).left tail (Some left) now → IsOutcome IsRunOf Prepares left arrivals tail status now written written_now
  concluded status ends put reads =
      let leaves = reads_leaves (R arrivals).end left arrivals (R arrivals).left tail now reads in
      let quiet : is_fault status ≡ false = ap is_fault ends ∙ is_quiet (R arrivals).end tail in
      record {
        is = λ _. (
          frames (R arrivals).sent,
          leaves.0,
          inr (ready.asked, ready.asks, record { play = R arrivals; plays = it_comes; status_is = ends; writes = refl; leaves = leaves.2 }),
          put,
          leaves.1,
        );
        only = λ _. only leaves.0 leaves.1 leaves.2;
        cut_short = λ fault. faulty (sym fault ∙ quiet);
      } where
        only : (rest : List ℕ) → now ≡ Some rest → LeavesAt (R arrivals).end left arrivals (R arrivals).left tail rest
            → (s : Status) (out other : List ℕ) → Outcome IsRunOf Prepares left arrivals tail s out other → (status ≡ s) × Put written written_now out × (now ≡ Some other)
        only rest now_is leaves s out other (inl refusal) = not_both s ready.asked (one (refused s) (given ready.asked) refusal.refuses ready.asks)
        only rest now_is leaves s out other (inr (asked, asks, played)) =
            let is_asked : asked ≡ ready.asked = same_given asked ready.asked (one (given asked) (given ready.asked) asks ready.asks) in
            let plays_it : IsRunOf ready.asked arrivals played.play = subst (λ (a : A). IsRunOf a arrivals played.play) is_asked played.plays in
            let is : played.play ≡ R arrivals = (ready.comes arrivals (bytes_in_cut left arrivals tail bytes is_cut) played.play).0 plays_it in (
              ends ∙ sym (ap (λ (p : Played (List ℕ)). status_at p.end tail) is) ∙ sym played.status_is,
              subst (λ (o : List ℕ). Put written written_now o) (sym (played.writes ∙ ap (λ (p : Played (List ℕ)). frames p.sent) is)) put,
              now_is ∙ ap Some (leaves_once (R arrivals).end left arrivals (R arrivals).left tail rest other leaves
                  (subst (λ (p : Played (List ℕ)). LeavesAt p.end left arrivals p.left tail other) is played.leaves)),
            )

  -- what comes of a run over the wire
  pub comes : (status : Status) → RunsTo R arrivals tail (Some left) now written written_now status → IsOutcome IsRunOf Prepares left arrivals tail status now written written_now
  comes (Unreached at) (same, unwritten) = record {
    is = faulty;
    only = faulty;
    cut_short = λ _. ([], ((ready.asked, ready.asks), refl, same), subst (λ (w : Option (List ℕ)). Put written w []) (sym unwritten) (put_nothing written));
  }
  comes WriteFault (n, within, put) = record {
    is = faulty;
    only = faulty;
    cut_short = λ _. (take n (frames (R arrivals).sent), (ready.asked, ready.asks, (R arrivals, it_comes, (n, refl))), put);
  }
  comes ReadFault (taken, whole, part, e, took, cut, waits, put) = record {
    is = faulty;
    only = faulty;
    cut_short = λ _. (
      frames (R whole).sent,
      (
        ready.asked,
        ready.asks,
        (
          taken,
          whole,
          part,
          took,
          cut,
          (R whole, (ready.comes whole (bytes_in_cut taken whole part (bytes_taken left now taken bytes took) cut) (R whole)).1 refl, (e, waits), refl),
        ),
      ),
      put,
    );
  }
  comes NoMemory (k, put) = record {
    is = faulty;
    only = faulty;
    cut_short = λ _. (frames (take k (R arrivals).sent), inr (ready.asked, ready.asks, (R arrivals, it_comes, (k, refl))), put);
  }
  comes status ran = concluded status ran.0 ran.1 ran.2
