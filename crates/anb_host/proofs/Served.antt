-- From single frames to the end of serving.
use Rattle.std.proofs.Common.{◌≡◌, ◌+◌, ◌<◌, inl, inr, ℕ, List, [], ◌∷◌, ◌++◌, length, take, replicate, Option, Some, None, IfSome, refl, sym, ap, ◌∙◌, subst, arith, append_assoc, length-append}
use Rattle.std.proofs.lemmas.List.{append-nil, take_at}
use Rattle.anb_base.specs.Moves.{Took, Put, PutPrefix, AtEnd, Stamped}
use Rattle.anb_base.specs.Wires.{WireState}
use Rattle.anb_base.proofs.Joined.{Took-joined, Put-joined}
use Rattle.anb_base.proofs.Moving.{put_nothing, took_nothing, put_further}
use Rattle.anb_frame.specs.Frames.{length_bytes}
use Rattle.anb_frame.proofs.Lengths.{length-length_bytes}
use Rattle.anb_plays.specs.Plays.{Played}
use Rattle.anb_host.specs.declared.event.HostEvent.{HostEvent}
use Rattle.anb_host.specs.declared.event.HostEvent.TheVariants.{Start, Arrive, Oversize}
use Rattle.anb_host.specs.declared.serving.HostEnd.{HostEnd}
use Rattle.anb_host.specs.declared.serving.HostEnd.TheVariants.{Ended, Truncated, BadKind, ReadFault, WriteFault, Spent, NoMemory}
use Rattle.anb_host.specs.HostFrames.{Tail, End, Part, Bad, Ends, IsFrame, HostFrames, FramesLeft, out}
use Rattle.anb_host.specs.Hosts.{HostValue, plays_of, StandsFor}
use Rattle.anb_host.specs.Own.{answer, told}
use Rattle.anb_host.specs.Serving.{size_of, stamps, FollowsAfter, IsBehind, Serves, StandsAfter}
use Rattle.anb_host.specs.Turns.{TakesOf, GoesOn, FailsAnswering, FailsIn, EndsAt}
use Rattle.anb_host.specs.Runs.{TookFrames, Done, Handled}
use Rattle.anb_host.proofs.Pieces.{header_long}
use Rattle.anb_host.proofs.Reading.{ends_at, left_goes_on}
use Rattle.anb_host.proofs.Writing.{out-append, put_none}

some_of : {A : Type 0} (o : Option A) (P : A → Type 0) → ((x : A) → P x) → IfSome o P
some_of None P f = tt
some_of (Some x) P f = f x

-- a frame has the size of its event
pub size_is : (z : List ℕ) (e : HostEvent) → IsFrame z e → length z ≡ size_of e
size_is z (Start s) (small, is) = ap length is ∙ omega (arith, length-length_bytes s)
size_is z (Arrive s b) (small, fits, is) = ap length is ∙ omega (arith, length-append (length_bytes s) (length_bytes (length b) ++ b), length-append (length_bytes (length b)) b, length-length_bytes s, length-length_bytes (length b))
size_is z (Oversize s len) (body, small, above, fits, long, is) = ap length is ∙ omega (arith, header_long s len body, long)

-- one frame more behind others
frames_last : (frames z : List ℕ) (events : List HostEvent) (x : HostEvent) → HostFrames frames events End → IsFrame z x → HostFrames (frames ++ z) (events ++ x ∷ []) End
frames_last frames z [] x h f = (z, [], ap (λ l. l ++ z) h ∙ sym (append-nil z), f, refl)
frames_last frames z (e ∷ events) x (y, rest, is, g, h) f = (y, rest ++ z, ap (λ l. l ++ z) is ∙ append_assoc y rest z, g, frames_last rest z events x h f)

module _ (plays : ℕ → List (List ℕ) → Played (List ℕ)) where
  told-last : (past events : List HostEvent) (x : HostEvent) → told plays past (events ++ x ∷ []) ≡ told plays past events ++ answer plays (past ++ events) x
  told-last past [] x = append-nil (answer plays past x) ∙ ap (λ es. answer plays es x) (sym (append-nil past))
  told-last past (e ∷ events) x =
      ap (λ l. answer plays past e ++ l) (told-last (past ++ e ∷ []) events x ∙ ap (λ es. told plays (past ++ e ∷ []) events ++ answer plays es x) (append_assoc past (e ∷ []) events))
      ∙ sym (append_assoc (answer plays past e) (told plays (past ++ e ∷ []) events) (answer plays (past ++ e ∷ events) x))

  out-last : (past events : List HostEvent) (x : HostEvent) → out (told plays past (events ++ x ∷ [])) ≡ out (told plays past events) ++ out (answer plays (past ++ events) x)
  out-last past events x = ap out (told-last past events x) ∙ out-append (told plays past events) (answer plays (past ++ events) x)

  stamps-last : (past events : List HostEvent) (x : HostEvent) (w : ℕ) → stamps plays past w (events ++ x ∷ []) ≡ stamps plays past w events ++ replicate (size_of x) (w + length (out (told plays past events)))
  stamps-last past [] x w = append-nil (replicate (size_of x) w) ∙ ap (replicate (size_of x)) (omega arith)
  stamps-last past (e ∷ events) x w =
      let n : ℕ = length (out (answer plays past e)) in
      let m : ℕ = length (out (told plays (past ++ e ∷ []) events)) in
      let all : length (out (told plays past (e ∷ events))) ≡ n + m = ap length (out-append (answer plays past e) (told plays (past ++ e ∷ []) events)) ∙ length-append (out (answer plays past e)) (out (told plays (past ++ e ∷ []) events)) in
      let sum : (w + n) + m ≡ w + length (out (told plays past (e ∷ events))) = omega (arith, all) in
      ap (λ l. replicate (size_of e) w ++ l) (stamps-last (past ++ e ∷ []) events x (w + n) ∙ ap (λ k. stamps plays (past ++ e ∷ []) (w + n) events ++ replicate (size_of x) k) sum)
      ∙ sym (append_assoc (replicate (size_of e) w) (stamps plays (past ++ e ∷ []) (w + n) events) (replicate (size_of x) (w + length (out (told plays past (e ∷ events))))))

  -- ---- what was taken and written so far, and further

  module _ (past : List HostEvent) (old new next : WireState) where
    -- how many bytes are written when all these events are answered
    written_now : (events : List HostEvent) (w : List ℕ) → Put (Some w) new.written (out (told plays past events)) → new.written ≡ Some (w ++ out (told plays past events))
    written_now events w p = p

    stamped_now : (events : List HostEvent) (z : List ℕ) (written : Option (List ℕ)) → written ≡ old.written → Put old.written new.written (out (told plays past events)) → TakesOf new next z
        → IfSome written (λ w. Put old.taken_at new.taken_at (stamps plays past (length w) events ++ []))
        → IfSome written (λ w. Put old.taken_at next.taken_at (stamps plays past (length w) events ++ replicate (length z) (length w + length (out (told plays past events)))))
    stamped_now events z None is put takes before = tt
    stamped_now events z (Some w) is put takes before =
        let told_now : new.written ≡ Some (w ++ out (told plays past events)) = subst (λ o. Put o new.written (out (told plays past events))) (sym is) put in
        let more : Stamped new.taken_at next.taken_at (length (w ++ out (told plays past events))) (length z) = subst (λ o. IfSome o (λ v. Stamped new.taken_at next.taken_at (length v) (length z))) told_now takes.1 in
        let joined = Put-joined old.taken_at new.taken_at next.taken_at (stamps plays past (length w) events ++ []) (replicate (length z) (length (w ++ out (told plays past events)))) before more in
        subst (Put old.taken_at next.taken_at) (ap (λ l. l ++ replicate (length z) (length (w ++ out (told plays past events)))) (append-nil (stamps plays past (length w) events))
        ∙ ap (λ n. stamps plays past (length w) events ++ replicate (length z) n) (length-append w (out (told plays past events)))) joined

    took_further : (events : List HostEvent) (z : List ℕ) → TookFrames plays past events old new [] → Put old.written new.written (out (told plays past events)) → TakesOf new next z → TookFrames plays past events old next z
    took_further events z ((frames, took, h), at) put takes = (
      (frames, subst (λ l. Took old.left next.left (l ++ z)) (append-nil frames) (Took-joined old.left new.left next.left (frames ++ []) z took takes.0), h),
      stamped_now events z old.written refl put takes at,
    )

  -- the bytes behind are a whole frame
  took_frame : (past : List HostEvent) (old new : WireState) (events : List HostEvent) (x : HostEvent) (z : List ℕ) → IsFrame z x → TookFrames plays past events old new z → TookFrames plays past (events ++ x ∷ []) old new []
  took_frame past old new events x z f ((frames, took, h), at) =
      ((frames ++ z, subst (Took old.left new.left) (sym (append-nil (frames ++ z))) took, frames_last frames z events x h f), by old.written at) where
        by : (written : Option (List ℕ))
            → IfSome written (λ w. Put old.taken_at new.taken_at (stamps plays past (length w) events ++ replicate (length z) (length w + length (out (told plays past events)))))
            → IfSome written (λ w. Put old.taken_at new.taken_at (stamps plays past (length w) (events ++ x ∷ []) ++ []))
        by None at = tt
        by (Some w) at =
            subst (Put old.taken_at new.taken_at)
            (ap (λ n. stamps plays past (length w) events ++ replicate n (length w + length (out (told plays past events)))) (size_is z x f) ∙ sym (stamps-last past events x (length w)) ∙ sym (append-nil (stamps plays past (length w) (events ++ x ∷ [])))) at

-- ---- the loop

pub handled_none : (Then : List HostEvent → Type 0) → Then [] → (h : HostValue) (s : WireState) → Handled Then h h s s 0
handled_none Then then h s = record {
  plays = refl;
  some = [];
  followed = then;
  same = λ past events tail st left. refl;
  each = λ past events tail st left. record {
    front = [];
    rest = events;
    whole = refl;
    many = refl;
    stands = subst (StandsFor h) (sym (append-nil past)) st;
    left = left;
    took = (([], took_nothing s.left, refl), some_of s.written (λ w. Put s.taken_at s.taken_at []) (λ w. put_nothing s.taken_at));
    answered = put_nothing s.written;
  };
}

module _ (First : List HostEvent → Type 0) (h now : HostValue) (old new next : WireState) (k : ℕ) (so_far : Handled First h now old new k) where
  abbrev so : (past events : List HostEvent) (tail : Tail) → StandsFor h past → FramesLeft old.left events tail → Done (plays_of h) now old new k past events tail
  so past events tail st left = so_far.each past events tail st left

  -- an event more was taken
  module _ (past events : List HostEvent) (tail : Tail) (st : StandsFor h past) (left : FramesLeft old.left events tail) (x : HostEvent) (z : List ℕ) (f : IsFrame z x) (takes : TakesOf new next z) where
    abbrev d : Done (plays_of h) now old new k past events tail
    d = so past events tail st left

    taken : TookFrames (plays_of h) past (d.front ++ x ∷ []) old next []
    taken = took_frame (plays_of h) past old next d.front x z f (took_further (plays_of h) past old new next d.front z d.took d.answered takes)

    following : (others : List HostEvent) × (d.rest ≡ x ∷ others) × FramesLeft next.left others tail
    following = left_goes_on new.left next.left z x d.rest tail takes.0 f d.left

    whole_now : events ≡ (d.front ++ x ∷ []) ++ following.0
    whole_now = d.whole ∙ ap (λ l. d.front ++ l) following.1 ∙ sym (append_assoc d.front (x ∷ []) following.0)

    many_now : length (d.front ++ x ∷ []) ≡ k + 1
    many_now = omega (arith, length-append d.front (x ∷ []), d.many)

  pub handled_further : (Then All : List HostEvent → Type 0) → ((some more : List HostEvent) → First some → Then more → All (some ++ more)) → (now' : HostValue) → GoesOn Then now now' new next → Handled All h now' old next (k + 1)
  handled_further Then All both now' go = record {
    plays = go.plays ∙ so_far.plays;
    some = so_far.some ++ go.event ∷ [];
    followed = both so_far.some (go.event ∷ []) so_far.followed go.followed;
    same = λ past events tail st left. ap (λ (l : List HostEvent). l ++ go.event ∷ []) (so_far.same past events tail st left);
    each = λ past events tail st left.
        let x = go.event in
        let e = so past events tail st left in
        let put : Put new.written next.written (out (answer (plays_of h) (past ++ e.front) x)) = subst (λ p. Put new.written next.written (out (answer p (past ++ e.front) x))) so_far.plays (go.answers (past ++ e.front) e.stands) in
        record {
          front = e.front ++ x ∷ [];
          rest = (following past events tail st left x go.taken go.is_frame go.takes).0;
          whole = whole_now past events tail st left x go.taken go.is_frame go.takes;
          many = many_now past events tail st left x go.taken go.is_frame go.takes;
          stands = subst (StandsFor now') (append_assoc past e.front (x ∷ [])) (go.stands (past ++ e.front) e.stands);
          left = (following past events tail st left x go.taken go.is_frame go.takes).2;
          took = taken past events tail st left x go.taken go.is_frame go.takes;
          answered = subst (Put old.written next.written) (sym (out-last (plays_of h) past e.front x)) (Put-joined old.written new.written next.written (out (told (plays_of h) past e.front)) (out (answer (plays_of h) (past ++ e.front) x)) e.answered put);
        };
  }

  -- ---- its end

  module _ (budget : ℕ) (within : k < budget) (past events : List HostEvent) (tail : Tail) (st : StandsFor h past) (left : FramesLeft old.left events tail) where
    abbrev done : Done (plays_of h) now old new k past events tail
    done = so past events tail st left

    first_k : (front rest : List HostEvent) (n : ℕ) → events ≡ front ++ rest → length front ≡ n → front ≡ take n events
    first_k front rest n whole many = sym (ap (take n) whole ∙ take_at front rest n many)

    all_of : done.rest ≡ [] → done.front ≡ take (length events) events
    all_of e =
        let same : events ≡ done.front = done.whole ∙ ap (λ l. done.front ++ l) e ∙ append-nil done.front in
        first_k done.front [] (length events) (same ∙ sym (append-nil done.front)) (ap length (sym same))

    fewer : done.rest ≡ [] → length events < budget
    fewer e = let size : length events ≡ length done.front = ap length (done.whole ∙ ap (λ l. done.front ++ l) e ∙ append-nil done.front) in omega (arith, size, done.many, within)

    -- nothing more came, and nothing was written
    module _ (same : next.written ≡ new.written) (z : List ℕ) (takes : TakesOf new next z) where
      took_so : TookFrames (plays_of h) past done.front old next z
      took_so = took_further (plays_of h) past old new next done.front z done.took done.answered takes

      wrote_so : Put old.written next.written (out (told (plays_of h) past done.front))
      wrote_so = subst (λ w. Put old.written w (out (told (plays_of h) past done.front))) (sym same) done.answered

      -- with all that came
      concluded : (due : Tail) → (done.rest ≡ []) × (tail ≡ due)
          → (tail ≡ due) × (length events < budget) × TookFrames (plays_of h) past (take (length events) events) old next z × Put old.written next.written (out (told (plays_of h) past (take (length events) events)))
      concluded due (none, is) =
          (is, fewer none, subst (λ es. TookFrames (plays_of h) past es old next z) (all_of none) took_so, subst (λ es. Put old.written next.written (out (told (plays_of h) past es))) (all_of none) wrote_so)

      front_is : done.front ≡ take k events
      front_is = first_k done.front done.rest k done.whole done.many

      in_between : TookFrames (plays_of h) past (take k events) old next z × Put old.written next.written (out (told (plays_of h) past (take k events)))
      in_between = (subst (λ es. TookFrames (plays_of h) past es old next z) front_is took_so, subst (λ es. Put old.written next.written (out (told (plays_of h) past es))) front_is wrote_so)

    -- an event more was taken
    one_more : (fail : FailsIn now new next) → done.front ++ fail.event ∷ [] ≡ take (k + 1) events
    one_more fail =
        let x = fail.event in
        first_k (done.front ++ x ∷ []) (following past events tail st left x fail.taken fail.is_frame fail.takes).0 (k + 1) (whole_now past events tail st left x fail.taken fail.is_frame fail.takes) (many_now past events tail st left x fail.taken fail.is_frame fail.takes)

    -- and its answer is written in part
    failed : FailsIn now new next → TookFrames (plays_of h) past (take (k + 1) events) old next [] × PutPrefix old.written next.written (out (told (plays_of h) past (take (k + 1) events)))
    failed fail =
        let x = fail.event in
        let front = done.front ++ x ∷ [] in
        let is : front ≡ take (k + 1) events = one_more fail in
        let part : PutPrefix new.written next.written (out (answer (plays_of h) (past ++ done.front) x)) = subst (λ p. PutPrefix new.written next.written (out (answer p (past ++ done.front) x))) so_far.plays (fail.answers (past ++ done.front) done.stands) in
        let whole : PutPrefix old.written next.written (out (told (plays_of h) past front)) =
        subst (PutPrefix old.written next.written) (sym (out-last (plays_of h) past done.front x)) (put_further old.written new.written next.written (out (told (plays_of h) past done.front)) (out (answer (plays_of h) (past ++ done.front) x)) done.answered part) in (
          subst (λ es. TookFrames (plays_of h) past es old next []) is (taken past events tail st left x fail.taken fail.is_frame fail.takes),
          subst (λ es. PutPrefix old.written next.written (out (told (plays_of h) past es))) is whole,
        )

    put_all : (x : List ℕ) → Put old.written next.written x → PutPrefix old.written next.written x
    put_all x p = subst (PutPrefix old.written next.written) (append-nil x) (put_further old.written next.written next.written x [] p (put_none next.written []))

    left_ends : (a b : Option (List ℕ)) (z : List ℕ) (t : Tail) (rest : List HostEvent) → Took a b z → AtEnd b → Ends z t → FramesLeft a rest tail → (rest ≡ []) × (tail ≡ t)
    left_ends None b z t rest took at e l = absurd l
    left_ends (Some x) None z t rest took at e l = absurd took
    left_ends (Some x) (Some y) z t rest took at e l = ends_at x t rest tail (subst (λ w. Ends w t) (sym (took ∙ ap (λ r. z ++ r) at ∙ append-nil z)) e) l

    left_bad : (a b : Option (List ℕ)) (kind : ℕ) (rest : List HostEvent) → Took a b (kind ∷ []) → 1 < kind → FramesLeft a rest tail → (rest ≡ []) × (tail ≡ Bad kind)
    left_bad None b kind rest took above l = absurd l
    left_bad (Some x) None kind rest took above l = absurd took
    left_bad (Some x) (Some y) kind rest took above l = ends_at x (Bad kind) rest tail (y, took, above) l

    pub served : (Then : List HostEvent → Type 0) (now' : HostValue) (end : HostEnd) → EndsAt Then now now' new next end → Serves (plays_of h) past events tail budget old next end
    served Then now' Ended (is_same, (same, (z, takes, (none, at))), then) =
        concluded same [] (subst (TakesOf new next) none takes) End (left_ends new.left next.left z End done.rest takes.0 at none done.left)
    served Then now' (Truncated have need) (is_same, (same, (z, takes, (at, long, part))), then) =
        (z, (long, part), concluded same z takes (Part have need) (left_ends new.left next.left z (Part have need) done.rest takes.0 at (long, part) done.left))
    served Then now' (BadKind kind) (is_same, (same, (z, takes, (is, above))), then) =
        let t = subst (TakesOf new next) is takes in
        concluded same (kind ∷ []) t (Bad kind) (left_bad new.left next.left kind done.rest t.0 above done.left)
    served Then now' ReadFault (is_same, (same, (z, takes, begun)), then) = let b = in_between same z takes in (k, z, within, begun, b.0, b.1)
    served Then now' WriteFault fail = let f = failed fail.fails in (k + 1, omega (arith, within), f.0, f.1)
    served Then now' (Spent n) (is_same, (same, (z, takes, says)), then) = absurd says
    served Then now' NoMemory e = elim e [
      | inl (same, (z, takes, begun)) ↦ let b = in_between same z takes in (k, z, omega (arith, within), begun, b.0, put_all (out (told (plays_of h) past (take k events))) b.1)
      | inr fail ↦ let f = failed fail in (k + 1, [], omega (arith, within), inl refl, f.0, f.1)
    ]

    -- what the host stands for then
    stands_before : (now' : HostValue) → now' ≡ now → StandsFor now' (past ++ take k events)
    stands_before now' is = subst (λ (v : HostValue). StandsFor v (past ++ take k events)) (sym is)
        (subst (λ es. StandsFor now (past ++ es)) (first_k done.front done.rest k done.whole done.many) done.stands)

    stands_so : (now' : HostValue) (z : List ℕ) → IsBehind z → (now' ≡ now) → next.written ≡ new.written → TakesOf new next z → StandsAfter (plays_of h) past events tail budget old next now'
    stands_so now' z behind is same takes = (k, z, omega (arith, within), behind, (in_between same z takes).0, stands_before now' is)

    pub stands_after : (Then : List HostEvent → Type 0) (now' : HostValue) (end : HostEnd) → EndsAt Then now now' new next end → (end ≡ NoMemory → ⊥) → StandsAfter (plays_of h) past events tail budget old next now'
    stands_after Then now' Ended (is_same, (same, (z, takes, (none, at))), then) other = stands_so now' z (inl (inl none)) is_same same takes
    stands_after Then now' (Truncated have need) (is_same, (same, (z, takes, (at, long, part))), then) other = stands_so now' z (inl (inr (need, part))) is_same same takes
    stands_after Then now' (BadKind kind) (is_same, (same, (z, takes, (is, above))), then) other = stands_so now' z (inr (kind, is, above)) is_same same takes
    stands_after Then now' ReadFault (is_same, (same, (z, takes, begun)), then) other = stands_so now' z (inl begun) is_same same takes
    stands_after Then now' WriteFault fail other =
        let x = fail.fails.event in
        let is : done.front ++ x ∷ [] ≡ take (k + 1) events = one_more fail.fails in
        let stands = subst (StandsFor now') (append_assoc past done.front (x ∷ [])) (fail.stands (past ++ done.front) done.stands) in
        (k + 1, [], omega (arith, within), inl (inl refl), (failed fail.fails).0, subst (λ es. StandsFor now' (past ++ es)) is stands)
    stands_after Then now' (Spent n) (is_same, (same, (z, takes, says)), then) other = absurd says
    stands_after Then now' NoMemory e other = absurd (other refl)

  -- ---- what is so of the events that were answered

  module _ (budget : ℕ) (within : k < budget) (Then All : List HostEvent → Type 0) (both : (some more : List HostEvent) → First some → Then more → All (some ++ more)) where
    -- nothing more was taken
    follows_so : (z : List ℕ) → IsBehind z → next.written ≡ new.written → TakesOf new next z → Then [] → FollowsAfter h budget old next All
    follows_so z behind same takes then = record {
      some = so_far.some;
      followed = subst All (append-nil so_far.some) (both so_far.some [] so_far.followed then);
      are = λ past events tail st left. (
        k,
        z,
        omega (arith, within),
        behind,
        (in_between budget within past events tail st left same z takes).0,
        sym (so_far.same past events tail st left) ∙ front_is budget within past events tail st left same z takes,
      );
    }

    -- an event more was
    follows_one : (now' : HostValue) → FailsAnswering Then now now' new next → FollowsAfter h budget old next All
    follows_one now' fail = record {
      some = so_far.some ++ fail.fails.event ∷ [];
      followed = both so_far.some (fail.fails.event ∷ []) so_far.followed fail.followed;
      are = λ past events tail st left. (
        k + 1,
        [],
        omega (arith, within),
        inl (inl refl),
        (failed budget within past events tail st left fail.fails).0,
        ap (λ (l : List HostEvent). l ++ fail.fails.event ∷ []) (sym (so_far.same past events tail st left)) ∙ one_more budget within past events tail st left fail.fails,
      );
    }

    pub follows_after : (now' : HostValue) (end : HostEnd) → EndsAt Then now now' new next end → (end ≡ NoMemory → ⊥) → FollowsAfter h budget old next All
    follows_after now' Ended (is_same, (same, (z, takes, (none, at))), then) other = follows_so z (inl (inl none)) same takes then
    follows_after now' (Truncated have need) (is_same, (same, (z, takes, (at, long, part))), then) other = follows_so z (inl (inr (need, part))) same takes then
    follows_after now' (BadKind kind) (is_same, (same, (z, takes, (is, above))), then) other = follows_so z (inr (kind, is, above)) same takes then
    follows_after now' ReadFault (is_same, (same, (z, takes, begun)), then) other = follows_so z (inl begun) same takes then
    follows_after now' WriteFault fail other = follows_one now' fail
    follows_after now' (Spent n) (is_same, (same, (z, takes, says)), then) other = absurd says
    follows_after now' NoMemory e other = absurd (other refl)

-- nothing is read or written where memory was wanting before
pub nothing_served : (plays : ℕ → List (List ℕ) → Played (List ℕ)) (past events : List HostEvent) (tail : Tail) (budget : ℕ) (s : WireState) → Serves plays past events tail budget s s NoMemory
nothing_served plays past events tail budget s = (
  0,
  [],
  omega arith,
  inl refl,
  (([], took_nothing s.left, refl), some_of s.written (λ w. Put s.taken_at s.taken_at []) (λ w. put_nothing s.taken_at)),
  put_none s.written [],
)

-- the budget is spent
pub stands_spent : (Then : List HostEvent → Type 0) (h now : HostValue) (old new : WireState) (budget : ℕ) → Handled Then h now old new budget → (past events : List HostEvent) (tail : Tail) → StandsFor h past → FramesLeft old.left events tail
    → StandsAfter (plays_of h) past events tail budget old new now
stands_spent Then h now old new budget so_far past events tail st left =
    let e = so_far.each past events tail st left in
    let is : e.front ≡ take budget events = sym (ap (take budget) e.whole ∙ take_at e.front e.rest budget e.many) in (
      budget,
      [],
      omega arith,
      inl (inl refl),
      subst (λ es. TookFrames (plays_of h) past es old new []) is e.took,
      subst (λ es. StandsFor now (past ++ es)) is e.stands,
    )

pub spent : (Then : List HostEvent → Type 0) (h now : HostValue) (old new : WireState) (budget : ℕ) → Handled Then h now old new budget → (past events : List HostEvent) (tail : Tail) → StandsFor h past → FramesLeft old.left events tail
    → Serves (plays_of h) past events tail budget old new (Spent budget)
spent Then h now old new budget so_far past events tail st left =
    let e = so_far.each past events tail st left in
    let is : e.front ≡ take budget events = sym (ap (take budget) e.whole ∙ take_at e.front e.rest budget e.many) in (
      refl,
      omega (arith, ap length e.whole, length-append e.front e.rest, e.many),
      subst (λ es. TookFrames (plays_of h) past es old new []) is e.took,
      subst (λ es. Put old.written new.written (out (told (plays_of h) past es))) is e.answered,
    )

pub follows_spent : (Then : List HostEvent → Type 0) (h now : HostValue) (old new : WireState) (budget : ℕ) → Handled Then h now old new budget → FollowsAfter h budget old new Then
follows_spent Then h now old new budget so_far = record {
  some = so_far.some;
  followed = so_far.followed;
  are = λ past events tail st left.
      let e = so_far.each past events tail st left in
      let is : e.front ≡ take budget events = sym (ap (take budget) e.whole ∙ take_at e.front e.rest budget e.many) in (
        budget,
        [],
        omega arith,
        inl (inl refl),
        subst (λ es. TookFrames (plays_of h) past es old new []) is e.took,
        sym (so_far.same past events tail st left) ∙ is,
      );
}
