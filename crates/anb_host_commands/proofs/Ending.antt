-- From the end of serving to the outcome.
use Rattle.std.proofs.Common.{◌≡◌, ℕ, zero, suc, ◌+◌, ◌<◌, ◌≤◌, cond, false, List, [], ◌∷◌, ◌++◌, length, take, drop, replicate, Option, Some, None, refl, ap, sym, ◌∙◌, subst, inl, inr, arith, length-append}
use Rattle.std.specs.Prelude.{IfSome}
use Rattle.std.proofs.lemmas.List.{take_all}
use Rattle.anb_plays.specs.Plays.{Run}
use Rattle.anb_lemmas.proofs.Numbers.{is_below, isnt_below}
use Rattle.anb_base.specs.Moves.{Put, Took}
use Rattle.anb_base.specs.Wires.{WireState}
use Rattle.anb_base.proofs.Moving.{put_nothing}
use Rattle.anb_host.specs.declared.event.HostEvent.{HostEvent}
use Rattle.anb_host.specs.declared.serving.HostEnd.{HostEnd}
use Rattle.anb_host.specs.declared.serving.HostEnd.TheVariants as ends
use Rattle.anb_host.specs.Alone.{IsToldAlone, SendsOn}
use Rattle.anb_host.specs.HostFrames.{Tail, End, Part, Bad, HostFrames, out}
use Rattle.anb_host.specs.Own.{told}
use Rattle.anb_host.proofs.Alone.{are_alone}
use Rattle.anb_host.specs.Serving.{Answers, IsBehind, Reads, Serves, stamps}
use Rattle.anb_status.specs.declared.status.Status.{Status}
use Rattle.anb_status.specs.declared.status.Status.TheVariants.{FileFault, Spent, NoMemory}
use Rattle.anb_status.specs.Statuses.{is_fault}
use Rattle.anb_command.specs.Steps.{Answer, refused, given, HasOneAnswer, IsFailure}
use Rattle.anb_command.proofs.Ones.{RefusesQuietly, not_both, same_given, same_refusal}
use Rattle.anb_command.proofs.Written.{faulty}
use Rattle.anb_role_commands.specs.Jobs.{Job}
use Rattle.anb_host_commands.specs.declared.hosting.TheConstants.{FRAMES}
use Rattle.anb_host_commands.specs.HostCommand.{ArePlays, IsInTime, IsServing, Outcome, Takes, TakesInTime, handled, read_of_input, read_of_tail, sizes, status_before, status_of_input}
use Rattle.anb_host_commands.specs.Serving.{IsIdle, status_of}
use Rattle.anb_host_commands.proofs.Alike.{Alike, AreBytes, HaveBytes, same_alone, same_stamps, same_told}
use Rattle.anb_host_commands.proofs.Sizes.{bad_above, frames_size, take_bytes, took_rest}

some_map : {A : Type 0} (o : Option A) (P Q : A → Type 0) → ((x : A) → P x → Q x) → IfSome o P → IfSome o Q
some_map None P Q f p = tt
some_map (Some x) P Q f p = f x p

take_short : {A : Type 0} (k : ℕ) (xs : List A) → length (take k xs) ≤ k
take_short zero xs = omega arith
take_short (suc k) [] = omega arith
take_short (suc k) (x ∷ xs) = let rest = take_short k xs in omega (arith, rest)

-- what comes of a job whose sessions are these
module _ (Asks : Answer Job → Type 0) (one : HasOneAnswer Asks) (job : Job) (asks : Asks (given job)) (R plays : ℕ → Run) (are : ArePlays job plays)
    (alike : (others : ℕ → Run) → ArePlays job others → (s : ℕ) (arrivals : List (List ℕ)) → AreBytes arrivals → Alike (R s arrivals) (others s arrivals))
    (grows : (s : ℕ) → SendsOn (R s)) (left : List ℕ) (events : List HostEvent) (tail : Tail) (frames : HostFrames left events tail) (have : HaveBytes events) (S T : WireState) (is_left : S.left ≡ Some left) where
  -- the first k events are told the same
  told_by : (others : ℕ → Run) → ArePlays job others → (k : ℕ) → told R [] (take k events) ≡ told others [] (take k events)
  told_by others each k = same_told R others (alike others each) [] (take k events) tt (take_bytes k events have)

  -- and each session is told what its play, alone, sends
  alone_by : (others : ℕ → Run) → ArePlays job others → (session : ℕ) → session < 1024 → IsToldAlone others session (handled events)
  alone_by others each session below =
      same_alone R others (alike others each) session (handled events) (take_bytes FRAMES events have) (are_alone R session (handled events) below (grows session))

  abbrev due_by : (k : ℕ) → List ℕ
  due_by k = out (told plays [] (take k events))

  abbrev taken : (before : Option (List ℕ)) → S.left ≡ before → (k : ℕ) (z : List ℕ) → Reads R [] events tail FRAMES S T k z → Takes job before T.left (take k events) z
  taken before is k z r = record {
    plays = plays;
    are = are;
    frames = r.0.0;
    are_frames = r.0.2;
    took = subst (λ (o : Option (List ℕ)). Took o T.left (r.0.0 ++ z)) is r.0.1;
  }

  in_time : (k : ℕ) (z : List ℕ) → IsBehind z → Reads R [] events tail FRAMES S T k z → (other : Job) → Asks (given other) → IsInTime other S T
  in_time k z behind r other asked = inr (subst (λ (j : Job). TakesInTime j S T) (same_given job other (one (given job) (given other) asks asked)) here) where
    here : TakesInTime job S T
    here = record {
      some = take k events;
      z = z;
      behind = behind;
      takes = taken S.left refl k z r;
      in_time = some_map S.written _ _ (λ written put. subst (λ (ns : List ℕ). Put S.taken_at T.taken_at ns)
          (ap (λ ns. ns ++ replicate (length z) (length written + length (out (told R [] (take k events))))) (same_stamps R plays (alike plays are) [] (length written) (take k events) tt (take_bytes k events have))
          ∙ ap (λ ns. stamps plays [] (length written) (take k events) ++ replicate (length z) (length written + length (out ns))) (told_by plays are k)) put) r.1;
    }

  -- ---- without a fault

  module _ (s : Status) (k : ℕ) (z : List ℕ) (behind : IsBehind z) (quiet : is_fault s ≡ false) (status_is : s ≡ status_of_input events tail) (all : take k events ≡ handled events)
      (size : sizes (take k events) + length z ≡ read_of_input events tail) (reads : Reads R [] events tail FRAMES S T k z) (answers : Answers R [] events tail FRAMES S T k) where
    put : (others : ℕ → Run) → ArePlays job others → Put S.written T.written (out (told others [] (handled events)))
    put others each = subst (λ (ns : List HostEvent). Put S.written T.written (out (told others [] ns))) all
        (subst (λ ns. Put S.written T.written (out ns)) (told_by others each k) answers)

    rest : T.left ≡ Some (drop (read_of_input events tail) left)
    rest =
        let t = taken (Some left) is_left k z reads in
        took_rest left T.left (t.frames ++ z) t.took
        ∙ ap (λ n. Some (drop n left)) (length-append t.frames z ∙ ap (λ n. n + length z) (frames_size t.frames (take k events) t.are_frames) ∙ size)

    only : (t : Status) (wrote after : List ℕ) → Outcome Asks left events tail t wrote after → (s ≡ t) × Put S.written T.written wrote × (T.left ≡ Some after)
    only t wrote after (inl r) = not_both t job (one (refused t) (given job) r.refuses asks)
    only t wrote after (inr (other, asked, served)) =
        let each : ArePlays job served.plays = subst (λ (j : Job). ArePlays j served.plays) (same_given other job (one (given other) (given job) asked asks)) served.are in (
          status_is ∙ sym served.status_is,
          subst (λ (w : List ℕ). Put S.written T.written w) (sym served.writes) (put served.plays each),
          rest ∙ ap Some (sym served.leaves),
        )

    concluded : IsServing Asks left events tail S T s
    concluded = record {
      is = λ _. (
        out (told plays [] (handled events)),
        drop (read_of_input events tail) left,
        inr (job, asks, record { plays = plays; are = are; status_is = status_is; writes = refl; leaves = refl }),
        put plays are,
        rest,
      );
      only = λ _. only;
      alone = λ _ other asked others each. alone_by others (subst (λ (j : Job). ArePlays j others) (same_given other job (one (given other) (given job) asked asks)) each);
      cut_short = λ fault. faulty (sym fault ∙ quiet);
      in_time = in_time k z behind reads;
    }

  before_tail : (due : Tail) (z : List ℕ) → IsBehind z → is_fault (status_before due) ≡ false → length z ≡ read_of_tail due → tail ≡ due → length events < FRAMES
      → Reads R [] events tail FRAMES S T (length events) z → Answers R [] events tail FRAMES S T (length events) → IsServing Asks left events tail S T (status_before due)
  before_tail due z behind quiet long tail_is few reads answers =
      let below = is_below (length events) FRAMES few in
      let all : take (length events) events ≡ events = take_all (length events) events (omega arith) in
      let handles : handled events ≡ events = take_all FRAMES events (omega (arith, few)) in
      concluded (status_before due) (length events) z behind quiet
      (ap status_before (sym tail_is) ∙ ap (λ b. cond b (status_before tail) (Spent FRAMES)) (sym below))
      (all ∙ sym handles)
      (ap (λ (ns : List HostEvent). sizes ns + length z) (all ∙ sym handles) ∙ ap (λ n. sizes (handled events) + n) (long ∙ ap read_of_tail (sym tail_is) ∙ ap (λ b. cond b (read_of_tail tail) 0) (sym below)))
      reads answers

  all_handled : FRAMES ≤ length events → Reads R [] events tail FRAMES S T FRAMES [] → Answers R [] events tail FRAMES S T FRAMES → IsServing Asks left events tail S T (Spent FRAMES)
  all_handled many reads answers =
      let over = isnt_below (length events) FRAMES many in
      concluded (Spent FRAMES) FRAMES [] (inl (inl refl)) refl (ap (λ b. cond b (status_before tail) (Spent FRAMES)) (sym over)) refl
      (ap (λ b. sizes (handled events) + cond b (read_of_tail tail) 0) (sym over)) reads answers

  -- ---- with one

  part_of : (k n : ℕ) → Put S.written T.written (take n (out (told R [] (take k events)))) → Put S.written T.written (take n (due_by k))
  part_of k n part = subst (λ ns. Put S.written T.written (take n (out ns))) (told_by plays are k) part

  pub ends_so : (end : HostEnd) → Serves R [] events tail FRAMES S T end → IsServing Asks left events tail S T (status_of end)
  ends_so ends.Ended (tail_is, few, reads, answers) = before_tail End [] (inl (inl refl)) refl refl tail_is few reads answers
  ends_so (ends.Truncated have_ need) (z, ending, (tail_is, few, reads, answers)) = before_tail (Part have_ need) z (inl (inr (need, ending.1))) refl ending.0 tail_is few reads answers
  ends_so (ends.BadKind kind) (tail_is, few, reads, answers) = before_tail (Bad kind) (kind ∷ []) (inr (kind, refl, bad_above left events kind (subst (λ (t : Tail). HostFrames left events t) tail_is frames))) refl refl tail_is few reads answers
  ends_so (ends.Spent n) (is, many, reads, answers) = subst (λ (m : ℕ). IsServing Asks left events tail S T (Spent m)) (sym is) (all_handled many reads answers)
  ends_so ends.ReadFault (k, z, small, begun, reads, answers) = record {
    is = λ never. faulty never;
    only = λ never. faulty never;
    alone = λ never. faulty never;
    cut_short = λ _. (
      due_by k,
      (job, asks, (take k events, z, begun, taken (Some left) is_left k z reads, (let short = take_short k events in omega (arith, short, small)), refl)),
      subst (λ ns. Put S.written T.written (out ns)) (told_by plays are k) answers,
    );
    in_time = in_time k z (inl begun) reads;
  }
  ends_so ends.WriteFault (k, within, reads, (n, some, part)) = record {
    is = λ never. faulty never;
    only = λ never. faulty never;
    alone = λ never. faulty never;
    cut_short = λ _. (
      take n (due_by k),
      (job, asks, (take k events, taken (Some left) is_left k [] reads, (let short = take_short k events in omega (arith, short, within)), (n, refl))),
      part_of k n part,
    );
    in_time = in_time k [] (inl (inl refl)) reads;
  }
  ends_so ends.NoMemory (k, z, within, begun, reads, (n, some, part)) = record {
    is = λ never. faulty never;
    only = λ never. faulty never;
    alone = λ never. faulty never;
    cut_short = λ _. (
      take n (due_by k),
      inr (job, asks, (take k events, z, begun, taken (Some left) is_left k z reads, (let short = take_short k events in omega (arith, short, within)), (n, refl))),
      part_of k n part,
    );
    in_time = in_time k z (inl begun) reads;
  }

  -- where nothing is done

  idle_put : (s : Status) → IsIdle S T s → Put S.written T.written []
  idle_put s idle = subst (λ (w : Option (List ℕ)). Put S.written w []) (sym idle.written) (put_nothing S.written)

  pub idles : (s : Status) → IsIdle S T s → IsServing Asks left events tail S T s
  idles s idle = elim idle.because [
    | inl (place, is) ↦ subst (λ (t : Status). IsServing Asks left events tail S T t) (sym is) record {
      is = λ never. faulty never;
      only = λ never. faulty never;
      alone = λ never. faulty never;
      cut_short = λ _. ([], ((job, asks), refl, idle.left ∙ is_left), idle_put s idle);
      in_time = λ _ _. inl (idle.left, idle.taken_at);
    }
    | inr is ↦ subst (λ (t : Status). IsServing Asks left events tail S T t) (sym is) record {
      is = λ never. faulty never;
      only = λ never. faulty never;
      alone = λ never. faulty never;
      cut_short = λ _. ([], inl (refl, idle.left ∙ is_left), idle_put s idle);
      in_time = λ _ _. inl (idle.left, idle.taken_at);
    }
  ]

-- where there is nothing to serve
module _ (Asks : Answer Job → Type 0) (one : HasOneAnswer Asks) (quiet : RefusesQuietly Asks) (left : List ℕ) (events : List HostEvent) (tail : Tail) (S : WireState) (is_left : S.left ≡ Some left) where
  quiet_refusal : (s : Status) → Asks (refused s) → is_fault s ≡ false → IsServing Asks left events tail S S s
  quiet_refusal s asks quiet_s = record {
    is = λ _. ([], left, inl (record { refuses = asks; writes = refl; leaves = refl }), put_nothing S.written, is_left);
    only = λ _. only;
    alone = λ _ other asked others each session below. not_both s other (one (refused s) (given other) asks asked);
    cut_short = λ fault. faulty (sym fault ∙ quiet_s);
    in_time = λ _ _. inl (refl, refl);
  } where
    only : (t : Status) (wrote rest : List ℕ) → Outcome Asks left events tail t wrote rest → (s ≡ t) × Put S.written S.written wrote × (S.left ≡ Some rest)
    only t wrote rest (inl r) = (
      same_refusal s t (one (refused s) (refused t) asks r.refuses),
      subst (λ (w : List ℕ). Put S.written S.written w) (sym r.writes) (put_nothing S.written),
      is_left ∙ ap Some (sym r.leaves),
    )
    only t wrote rest (inr (other, asked, served)) = not_both s other (one (refused s) (given other) asks asked)

  pub nothing_served : (s : Status) (P : List ℕ → Type 0) → IsFailure s P (Asks (refused s)) → IsServing Asks left events tail S S s
  nothing_served (FileFault name) P fails = record {
    is = λ never. faulty never;
    only = λ never. faulty never;
    alone = λ never. faulty never;
    cut_short = λ _. ([], (refl, is_left), put_nothing S.written);
    in_time = λ _ _. inl (refl, refl);
  }
  nothing_served NoMemory P fails = record {
    is = λ never. faulty never;
    only = λ never. faulty never;
    alone = λ never. faulty never;
    cut_short = λ _. ([], inl (refl, is_left), put_nothing S.written);
    in_time = λ _ _. inl (refl, refl);
  }
  nothing_served s P asks = quiet_refusal s asks (quiet.each s asks).0
