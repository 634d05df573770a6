-- What comes of a run, from what comes of it after a turn.
use Rattle.std.proofs.Common.{◌≡◌, ℕ, ◌≤◌, suc, List, [], ◌∷◌, ◌++◌, length, take, Option, Err, refl, sym, ap, subst, append_assoc}
use Rattle.std.proofs.lemmas.List.Elements.{All-nil}
use Rattle.anb_base.specs.Moves.{Took, Put, PutPrefix}
use Rattle.anb_base.specs.declared.TheConstants.{ARRIVAL}
use Rattle.anb_base.proofs.Joined.{Took-joined, Put-joined}
use Rattle.anb_base.proofs.Moving.{put_nothing, took_nothing, put_further, put_within}
use Rattle.anb_frame.specs.Frames.{frame, frames, length_bytes, IsPart}
use Rattle.anb_frame.specs.Cuts.{Tail, Short, Long, CutLeft}
use Rattle.anb_frame.specs.Cuts.{End as Whole}
use Rattle.anb_frame.specs.Answers.{Takes}
use Rattle.anb_frame.specs.declared.FrameNo.{FrameNo}
use Rattle.anb_frame.specs.declared.FrameNo.TheVariants.{Failed}
use Rattle.anb_frame.proofs.Cuts.{cut_of_part}
use Rattle.anb_plays.specs.Plays.{Played, says, ends, stopped, waiting, done}
use Rattle.anb_plays.specs.Plays.{End as RunEnd}
use Rattle.anb_session.specs.declared.PlayEnd.{PlayEnd}
use Rattle.anb_session.specs.declared.PlayEnd.TheVariants.{Done, Stopped, Waiting, Truncated, TooLarge, ReadFault, WriteFault, NoMemory}
use Rattle.anb_session.specs.Sessions.{TookAll, Reads, Concludes, Runs}
use Rattle.anb_session.specs.Turns.{Ends, EndsSending, EndsWaiting, Receives, Continues}
use Rattle.anb_session.proofs.Written.{cut_further}

-- ---- a message before it

module _ (R R' : List (List ℕ) → Played (List ℕ)) (b : List ℕ) (comes : (xs : List (List ℕ)) → R xs ≡ says b (R' xs)) (tail : Tail) (left now written mid written_now : Option (List ℕ)) (put : Put written mid (frame b)) where
  concludes_saying : (arrivals : List (List ℕ)) (end : PlayEnd) → Concludes R' arrivals tail left now mid written_now end → Concludes R arrivals tail left now written written_now end
  concludes_saying arrivals end h = rw (comes arrivals) (h.0, Put-joined written mid written_now (frame b) (frames (R' arrivals).sent) put h.1, h.2)

  runs_saying : (arrivals : List (List ℕ)) (end : PlayEnd) → Runs R' arrivals tail left now mid written_now end → Runs R arrivals tail left now written written_now end
  runs_saying arrivals WriteFault h = rw (comes arrivals) (put_further written mid written_now (frame b) (frames (R' arrivals).sent) put h)
  runs_saying arrivals ReadFault (taken, whole, part, e, took, cut, waits, sent) =
      (taken, whole, part, e, took, cut, rw (comes whole) waits, rw (comes whole) (Put-joined written mid written_now (frame b) (frames (R' whole).sent) put sent))
  runs_saying arrivals NoMemory (k, sent) = (suc k, rw (comes arrivals) (Put-joined written mid written_now (frame b) (frames (take k (R' arrivals).sent)) put sent))
  runs_saying arrivals Done h = concludes_saying arrivals Done h
  runs_saying arrivals (Stopped halt) h = concludes_saying arrivals (Stopped halt) h
  runs_saying arrivals (Waiting e) h = concludes_saying arrivals (Waiting e) h
  runs_saying arrivals (Truncated have need) h = concludes_saying arrivals (Truncated have need) h
  runs_saying arrivals (TooLarge len) h = concludes_saying arrivals (TooLarge len) h

-- ---- an arrival before it

took_all_further : (b : List ℕ) (left mid now : Option (List ℕ)) → Took left mid (frame b) → TookAll mid now → TookAll left now
took_all_further b left mid now took h = (frame b ++ h.0, Took-joined left mid now (frame b) h.0 took h.1, h.2)

reads_used : (b : List ℕ) (left mid now : Option (List ℕ)) (arrivals unused : List (List ℕ)) → Took left mid (frame b)
    → (used : List (List ℕ)) × (arrivals ≡ used ++ unused) × Took mid now (frames used)
    → (used : List (List ℕ)) × (b ∷ arrivals ≡ used ++ unused) × Took left now (frames used)
reads_used b left mid now arrivals unused took h = (b ∷ h.0, ap (λ t. b ∷ t) h.1, Took-joined left mid now (frame b) (frames h.0) took h.2)

reads_further : (b : List ℕ) (left mid now : Option (List ℕ)) (end : RunEnd) (arrivals unused : List (List ℕ)) (tail : Tail) → Took left mid (frame b)
    → Reads end arrivals unused tail mid now → Reads end (b ∷ arrivals) unused tail left now
reads_further b left mid now (waiting e) arrivals unused Whole took h = took_all_further b left mid now took h
reads_further b left mid now (waiting e) arrivals unused (Short have need) took h = took_all_further b left mid now took h
reads_further b left mid now (waiting e) arrivals unused (Long len) took h =
    subst (Took left now) (sym (append_assoc (frame b) (frames arrivals) (length_bytes len))) (Took-joined left mid now (frame b) (frames arrivals ++ length_bytes len) took h)
reads_further b left mid now (stopped e at) arrivals unused tail took h = reads_used b left mid now arrivals unused took h
reads_further b left mid now done arrivals unused tail took h = reads_used b left mid now arrivals unused took h

module _ (R R' : List (List ℕ) → Played (List ℕ)) (b : List ℕ) (comes : (xs : List (List ℕ)) → R (b ∷ xs) ≡ R' xs) (tail : Tail) (left mid now written written_now : Option (List ℕ)) (took : Took left mid (frame b)) where
  concludes_receiving : (arrivals : List (List ℕ)) (end : PlayEnd) → Concludes R' arrivals tail mid now written written_now end → Concludes R (b ∷ arrivals) tail left now written written_now end
  concludes_receiving arrivals end h = rw (comes arrivals) (h.0, h.1, reads_further b left mid now (R' arrivals).end arrivals (R' arrivals).left tail took h.2)

  runs_receiving : length b ≤ ARRIVAL → (arrivals : List (List ℕ)) (end : PlayEnd) → Runs R' arrivals tail mid now written written_now end → Runs R (b ∷ arrivals) tail left now written written_now end
  runs_receiving fits arrivals WriteFault h = rw (comes arrivals) h
  runs_receiving fits arrivals ReadFault (taken, whole, part, e, more, cut, waits, sent) =
      (frame b ++ taken, b ∷ whole, part, e, Took-joined left mid now (frame b) taken took more, cut_further ARRIVAL b taken whole part fits cut, rw (comes whole) waits, rw (comes whole) sent)
  runs_receiving fits arrivals NoMemory (k, sent) = (k, rw (comes arrivals) sent)
  runs_receiving fits arrivals Done h = concludes_receiving arrivals Done h
  runs_receiving fits arrivals (Stopped halt) h = concludes_receiving arrivals (Stopped halt) h
  runs_receiving fits arrivals (Waiting e) h = concludes_receiving arrivals (Waiting e) h
  runs_receiving fits arrivals (Truncated have need) h = concludes_receiving arrivals (Truncated have need) h
  runs_receiving fits arrivals (TooLarge len) h = concludes_receiving arrivals (TooLarge len) h

-- ---- turns that go on

pub saying : (R R' : List (List ℕ) → Played (List ℕ)) (b : List ℕ) (left written written' : Option (List ℕ)) → ((xs : List (List ℕ)) → R xs ≡ says b (R' xs)) → Put written written' (frame b)
    → Continues R R' left left written written'
saying R R' b left written written' comes put = record {
  each = λ arrivals tail cut. (arrivals, cut, λ now written_now end. runs_saying R R' b comes tail left now written written' written_now put arrivals end);
}

pub receiving : (R R' : List (List ℕ) → Played (List ℕ)) (b : List ℕ) (left left' written : Option (List ℕ)) → ((xs : List (List ℕ)) → R (b ∷ xs) ≡ R' xs) → Receives b left left'
    → Continues R R' left left' written written
receiving R R' b left left' written comes receives = record { each = each } where
  each : (arrivals : List (List ℕ)) (tail : Tail) → CutLeft ARRIVAL left arrivals tail
      → (rest : List (List ℕ)) × CutLeft ARRIVAL left' rest tail
      × ((now written_now : Option (List ℕ)) (end : PlayEnd) → Runs R' rest tail left' now written written_now end → Runs R arrivals tail left now written written_now end)
  each arrivals tail cut =
      let first = receives.first arrivals tail cut in (
        first.0,
        first.2,
        λ now written_now end h.
            subst (λ (xs : List (List ℕ)). Runs R xs tail left now written written_now end) (sym first.1)
            (runs_receiving R R' b comes tail left left' now written written_now receives.took receives.fits first.0 end h),
      )

pub going_nowhere : (R : List (List ℕ) → Played (List ℕ)) (left written : Option (List ℕ)) → Continues R R left left written written
going_nowhere R left written = record { each = λ arrivals tail cut. (arrivals, cut, λ now written_now end h. h) }

pub continued : (R R' R'' : List (List ℕ) → Played (List ℕ)) (left left' left'' written written' written'' : Option (List ℕ))
    → Continues R R' left left' written written' → Continues R' R'' left' left'' written' written'' → Continues R R'' left left'' written written''
continued R R' R'' left left' left'' written written' written'' first second = record {
  each = λ arrivals tail cut.
      let f = first.each arrivals tail cut in
      let s = second.each f.0 tail f.1 in
      (s.0, s.1, λ now written_now end h. f.2 now written_now end (s.2 now written_now end h));
}

-- ---- turns that end it

pub ending : (R R' : List (List ℕ) → Played (List ℕ)) (left left' written written' now written_now : Option (List ℕ)) (end : PlayEnd)
    → Continues R R' left left' written written' → Ends R' left' now written' written_now end → Ends R left now written written_now end
ending R R' left left' written written' now written_now end first last arrivals tail cut =
    let f = first.each arrivals tail cut in f.2 now written_now end (last f.0 tail f.1)

pub is_done : (R : List (List ℕ) → Played (List ℕ)) (left written : Option (List ℕ)) → ((xs : List (List ℕ)) → R xs ≡ ends done xs) → Ends R left left written written Done
is_done R left written comes arrivals tail cut = rw (comes arrivals) (refl, put_nothing written, ([], refl, took_nothing left))

pub is_stopped : (R : List (List ℕ) → Played (List ℕ)) (left written : Option (List ℕ)) (e at : ℕ) → ((xs : List (List ℕ)) → R xs ≡ ends (stopped e at) xs)
    → Ends R left left written written (Stopped (record { event = e; at = at }))
is_stopped R left written e at comes arrivals tail cut = rw (comes arrivals) (refl, put_nothing written, ([], refl, took_nothing left))

pub write_fault : (b : List ℕ) (left now written written_now : Option (List ℕ)) → PutPrefix written written_now (frame b) → EndsSending b left now written written_now WriteFault
write_fault b left now written written_now put R sends arrivals tail cut =
    let s = sends arrivals in rw s.1 (put_within written written_now (frame b) (frames s.0) put)

pub read_fault : (event room n : ℕ) (left now taken_at taken_at_now written written_now : Option (List ℕ)) (buf : List ℕ) (fault : FrameNo) → room ≡ ARRIVAL → fault ≡ Failed → written_now ≡ written
    → Takes left now taken_at taken_at_now n room buf (Err fault) → EndsWaiting event left now written written_now ReadFault
read_fault event room n left now taken_at taken_at_now written written_now buf fault is fails same takes R waits arrivals tail cut =
    let (z, need, (took, stamped), part) = failed fault fails takes in
    let c = cut_of_part ARRIVAL [] z need (All-nil (λ b. length b ≤ ARRIVAL)) (subst (λ (n : ℕ). IsPart n z need) is part) in
    (z, [], c.0, event, took, c.1, ap (λ p. p.end) waits, rw (waits, same) (put_nothing written)) where
      failed : (fault : FrameNo) → fault ≡ Failed → Takes left now taken_at taken_at_now n room buf (Err fault) → Takes left now taken_at taken_at_now n room buf (Err Failed)
      failed fault fails takes = subst (λ (x : FrameNo). Takes left now taken_at taken_at_now n room buf (Err x)) fails takes
