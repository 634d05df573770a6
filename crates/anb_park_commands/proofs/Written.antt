-- What is written over a wire: the messages, and the record of a session that waits.
use Rattle.std.proofs.Common.{◌≡◌, ℕ, Bool, false, zero, suc, List, [], ◌∷◌, ◌++◌, length, take, if◌then◌else◌, Option, refl, ap, sym, ◌∙◌, subst}
use Rattle.std.proofs.lemmas.List.{append-nil, take_at}
use Rattle.std.proofs.lemmas.Grind.{flat_map-append}
use Rattle.anb_base.specs.Moves.{Put, PutPrefix}
use Rattle.anb_base.proofs.Joined.{Put-joined}
use Rattle.anb_base.specs.Wires.{WireState}
use Rattle.anb_base.proofs.Moving.{put_further, put_within}
use Rattle.anb_frame.specs.Frames.{frame, frames}
use Rattle.anb_frame.specs.Cuts.{Tail, End, Short, Long}
use Rattle.anb_plays.specs.Plays as plays
use Rattle.anb_plays.specs.Plays.{Played}
use Rattle.anb_plays.specs.Runs.{no_place, without_place}
use Rattle.anb_session.specs.Sessions.{Reads, Runs, end_at}
use Rattle.anb_session.specs.declared.PlayEnd.{PlayEnd}
use Rattle.anb_session.specs.declared.PlayEnd.TheVariants as ends
use Rattle.anb_status.specs.declared.status.Status.{Status}
use Rattle.anb_status.specs.declared.status.Status.TheVariants as ended
use Rattle.anb_command.proofs.Runs.{reads_untold}
use Rattle.anb_park_commands.specs.declared.ended.RecordWay.{RecordWay}
use Rattle.anb_park_commands.specs.declared.ended.RecordWay.TheVariants.{ByWire, ToFile}
use Rattle.anb_park_commands.specs.Going.{ParksTo, Writes, ended_so}
use Rattle.anb_park_commands.specs.Parking.{by_wire, due, is_parked, status_at}

-- what is due behind the messages
abbrev behind : RecordWay → plays.End → Tail → (saved : List ℕ) → List (List ℕ)
behind ByWire end tail saved = if is_parked end tail then saved ∷ [] else []
behind ToFile end tail saved = []

due_is : (way : RecordWay) (p : Played (List ℕ)) (tail : Tail) (saved : List ℕ) → due way p tail saved ≡ p.sent ++ behind way p.end tail saved
due_is ByWire p tail saved = refl
due_is ToFile p tail saved = sym (append-nil p.sent)

-- ---- the end of a play that isn't parked

module _ (way : RecordWay) (sent : List (List ℕ)) (left : List (List ℕ)) (saved : List ℕ) where
  abbrev of : plays.End → Played (List ℕ)
  of x = record { sent = sent; end = x; left = left }

  -- it has the status of its end, and nothing is due but its messages
  abbrev EndsSo : plays.End → Tail → PlayEnd → Type 0
  EndsSo x tail end = (ended_so end ≡ status_at (no_place x) tail) × (due way (without_place (of x)) tail saved ≡ sent)

  nothing_behind : (x : plays.End) (tail : Tail) → is_parked (no_place x) tail ≡ false → due way (without_place (of x)) tail saved ≡ sent
  nothing_behind x tail not_parked = by way where
    by : (w : RecordWay) → due w (without_place (of x)) tail saved ≡ sent
    by ByWire = ap (λ (b : Bool). sent ++ (if b then saved ∷ [] else [])) not_parked ∙ append-nil sent
    by ToFile = refl

  ends_so : (x : plays.End) (tail : Tail) → ((e : ℕ) → end_at x tail ≡ ends.Waiting e → ⊥) → EndsSo x tail (end_at x tail)
  ends_so plays.done tail other = (refl, nothing_behind plays.done tail refl)
  ends_so (plays.stopped e at) tail other = (refl, nothing_behind (plays.stopped e at) tail refl)
  ends_so (plays.waiting e) End other = absurd (other e refl)
  ends_so (plays.waiting e) (Short have need) other = (refl, nothing_behind (plays.waiting e) (Short have need) refl)
  ends_so (plays.waiting e) (Long len) other = (refl, nothing_behind (plays.waiting e) (Long len) refl)

-- the first of some, of those and others behind them
take_first : (k : ℕ) (xs ys : List (List ℕ)) → (n : ℕ) × (take k xs ≡ take n (xs ++ ys))
take_first k [] ys = (0, by k) where
  by : (n : ℕ) → take n [] ≡ take 0 ys
  by zero = refl
  by (suc n) = refl
take_first zero (x ∷ xs) ys = (0, refl)
take_first (suc k) (x ∷ xs) ys = let rest = take_first k xs ys in (suc rest.0, ap (λ t. x ∷ t) rest.1)

module _ (way : RecordWay) (R : List (List ℕ) → Played (List ℕ)) (saved : List (List ℕ) → List ℕ) (arrivals : List (List ℕ)) (tail : Tail) (left now written written_now : Option (List ℕ)) where
  abbrev untold : List (List ℕ) → Played (List ℕ)
  untold heard = without_place (R heard)

  abbrev To : Status → Type 0
  To s = ParksTo way untold saved arrivals tail left now written written_now s

  abbrev rest : List (List ℕ)
  rest = behind way (untold arrivals).end tail (saved arrivals)

  -- the messages and what is due behind them
  all_due : (R arrivals).sent ++ rest ≡ due way (untold arrivals) tail (saved arrivals)
  all_due = sym (due_is way (untold arrivals) tail (saved arrivals))

  -- a play to its end
  concluded : (end : PlayEnd) → ((e : ℕ) → end ≡ ends.Waiting e → ⊥) → end ≡ end_at (R arrivals).end tail → Put written written_now (frames (R arrivals).sent) → Reads (R arrivals).end arrivals (R arrivals).left tail left now
      → (ended_so end ≡ status_at (untold arrivals).end tail) × Put written written_now (frames (due way (untold arrivals) tail (saved arrivals))) × Reads (untold arrivals).end arrivals (untold arrivals).left tail left now
  concluded end other is put reads =
      let so = ends_so way (R arrivals).sent (R arrivals).left (saved arrivals) (R arrivals).end tail (λ e waits. other e (is ∙ waits)) in (
        ap ended_so is ∙ so.0,
        subst (λ (ds : List (List ℕ)). Put written written_now (frames ds)) (sym so.1) put,
        reads_untold (R arrivals).end arrivals (R arrivals).left tail left now reads,
      )

  pub parks_to : (end : PlayEnd) → ((e : ℕ) → end ≡ ends.Waiting e → ⊥) → Runs R arrivals tail left now written written_now end → To (ended_so end)
  parks_to ends.Done other (is, put, reads) = concluded ends.Done other is put reads
  parks_to (ends.Stopped halt) other (is, put, reads) = concluded (ends.Stopped halt) other is put reads
  parks_to (ends.Waiting e) other ran = absurd (other e refl)
  parks_to (ends.Truncated have need) other (is, put, reads) = concluded (ends.Truncated have need) other is put reads
  parks_to (ends.TooLarge len) other (is, put, reads) = concluded (ends.TooLarge len) other is put reads
  parks_to ends.ReadFault other (taken, whole, part, e, took, cut, waits, put) = (taken, whole, part, e, took, cut, ap no_place waits, put)
  parks_to ends.WriteFault other put =
      subst (λ (x : List ℕ). PutPrefix written written_now x) (sym (flat_map-append frame (R arrivals).sent rest) ∙ ap frames all_due) (put_within written written_now (frames (R arrivals).sent) (frames rest) put)
  parks_to ends.NoMemory other (k, put) =
      let n = take_first k (R arrivals).sent rest in
      (n.0, subst (λ (ds : List (List ℕ)). Put written written_now (frames ds)) (n.1 ∙ ap (take n.0) all_due) put)

-- ---- a play that waits

-- it waits where the input ended at a border
waits_whole : (x : plays.End) (tail : Tail) (event : ℕ) → ends.Waiting event ≡ end_at x tail → (x ≡ plays.waiting event) × (tail ≡ End)
waits_whole plays.done tail event never = absurd (cc)
waits_whole (plays.stopped e at) tail event never = absurd (cc)
waits_whole (plays.waiting e) End event is = (let same : event ≡ e = cc in ap plays.waiting (sym same), refl)
waits_whole (plays.waiting e) (Short have need) event never = absurd (cc)
waits_whole (plays.waiting e) (Long len) event never = absurd (cc)

module _ (way : RecordWay) (p : Played (List ℕ)) (saved : List ℕ) (event : ℕ) (arrivals : List (List ℕ)) (left now written between written_now : Option (List ℕ)) (waits : p.end ≡ plays.waiting event)
    (put : Put written between (frames p.sent)) (reads : Reads p.end arrivals p.left End left now) where
  abbrev told : Played (List ℕ)
  told = without_place p

  -- the record behind the messages, where it goes over the wire
  abbrev last : List (List ℕ)
  last = behind way (plays.waiting event) End saved

  due_then : due way told End saved ≡ p.sent ++ last
  due_then = due_is way told End saved ∙ ap (λ (x : plays.End). p.sent ++ behind way (no_place x) End saved) waits

  frames_last : frames last ≡ by_wire way saved
  frames_last = by way where
    by : (w : RecordWay) → frames (behind w (plays.waiting event) End saved) ≡ by_wire w saved
    by ByWire = append-nil (frame saved)
    by ToFile = refl

  frames_then : frames (due way told End saved) ≡ frames p.sent ++ by_wire way saved
  frames_then = ap frames due_then ∙ flat_map-append frame p.sent last ∙ ap (λ (x : List ℕ). frames p.sent ++ x) frames_last

  pub all_written : Put between written_now (by_wire way saved)
      → (ended.Parked event ≡ status_at told.end End) × Put written written_now (frames (due way told End saved)) × Reads told.end arrivals told.left End left now
  all_written written_last = (
    ap (λ (x : plays.End). status_at (no_place x) End) (sym waits),
    subst (λ (x : List ℕ). Put written written_now x) (sym frames_then) (Put-joined written between written_now (frames p.sent) (by_wire way saved) put written_last),
    reads_untold p.end arrivals p.left End left now reads,
  )

  pub part_written : PutPrefix between written_now (by_wire way saved) → PutPrefix written written_now (frames (due way told End saved))
  part_written part = subst (λ (x : List ℕ). PutPrefix written written_now x) (sym frames_then) (put_further written between written_now (frames p.sent) (by_wire way saved) put part)

  pub messages_written : written_now ≡ between → (k : ℕ) × Put written written_now (frames (take k (due way told End saved)))
  messages_written same =
      let first : take (length p.sent) (due way told End saved) ≡ p.sent = ap (take (length p.sent)) due_then ∙ take_at p.sent last (length p.sent) refl in
      (length p.sent, subst (λ (ds : List (List ℕ)). Put written written_now (frames ds)) (sym first) (subst (λ (w : Option (List ℕ)). Put written w (frames p.sent)) (sym same) put))

module _ (way : RecordWay) (R : List (List ℕ) → Played (List ℕ)) (saved : List (List ℕ) → List ℕ) (arrivals : List (List ℕ)) (event : ℕ) (left now : Option (List ℕ)) (S T U : WireState) (put : Put S.written T.written (frames (R arrivals).sent)) where
  by_status : (waits : (R arrivals).end ≡ plays.waiting event) → Reads (R arrivals).end arrivals (R arrivals).left End left now → (s : Status) → Writes way (saved arrivals) event T U s
      → ParksTo way (λ heard. without_place (R heard)) saved arrivals End left now S.written U.written s
  by_status waits reads (ended.Parked e) (same, last) =
      let all = all_written way (R arrivals) (saved arrivals) event arrivals left now S.written T.written U.written waits put reads last in
      (ap ended.Parked same ∙ all.0, all.1, all.2)
  by_status waits reads ended.WriteFault last = part_written way (R arrivals) (saved arrivals) event arrivals left now S.written T.written U.written waits put reads last
  by_status waits reads ended.NoMemory last = messages_written way (R arrivals) (saved arrivals) event arrivals left now S.written T.written U.written waits put reads last
  by_status waits reads _ never = absurd never

  pub kept_to : (tail : Tail) → ends.Waiting event ≡ end_at (R arrivals).end tail → Reads (R arrivals).end arrivals (R arrivals).left tail left now → (s : Status) → Writes way (saved arrivals) event T U s
      → ParksTo way (λ heard. without_place (R heard)) saved arrivals tail left now S.written U.written s
  kept_to tail is reads s wrote =
      let w = waits_whole (R arrivals).end tail event is in
      subst (λ (t : Tail). ParksTo way (λ heard. without_place (R heard)) saved arrivals t left now S.written U.written s) (sym w.1)
      (by_status w.0 (subst (λ (t : Tail). Reads (R arrivals).end arrivals (R arrivals).left t left now) w.1 reads) s wrote)
