-- Verdicts are exact.
use Rattle.std.proofs.Common.{◌≡◌, ℕ, zero, suc, ◌+◌, ◌≤◌, ◌<◌, ◌&&◌, List, [], ◌∷◌, ◌++◌, length, map, take, drop, Bool, true, false, Option, Some, None, slice_get, IsTrue, refl, sym, ap, ◌∙◌, subst, inl, inr, ◌⊎◌, arith}
use Rattle.std.specs.Prelude.{nat_le, nat_lt, if◌then◌else◌}
use Rattle.std.specs.List.{AllByRecursion}
use Rattle.std.specs.Option.{option_map_or}
use Rattle.std.proofs.lemmas.List.{length-map}
use Rattle.anb_base.specs.Bytes.{IsBytes}
use Rattle.anb_lemmas.proofs.Bools.{first_of_and, last_of_and, never_both}
use Rattle.anb_lemmas.proofs.Numbers.{below_or_not}
use Rattle.anb_term.specs.Tree.{Tree}
use Rattle.anb_term.specs.Value.{Meaning}
use Rattle.anb_term.specs.Agree.{Agree}
use Rattle.anb_algebra.specs.ByteMeaning.{has_operator}
use Rattle.anb_plays.specs.Plans.{Event, know, fresh, send, recv, known, Sendable}
use Rattle.anb_plays.specs.Plays.{End, stopped, waiting, done, Played, ends, Walk, Play}
use Rattle.anb_protocol.specs.Laws.{KnowsFirst}
use Rattle.anb_protocol.specs.Plays.{meaning_of}
use Rattle.anb_machine.specs.declared.turn.Halt.{Halt}
use Rattle.anb_transcript.specs.Replays.{arrivals_of, messages_of}
use Rattle.anb_transcript.specs.declared.transcript.TranscriptLine.{TranscriptLine}
use Rattle.anb_transcript.specs.declared.transcript.TranscriptLine.TheVariants.{In, Out}
use Rattle.anb_transcript.specs.declared.following.Due.TheVariants.{Send, Receive, End as Over}
use Rattle.anb_transcript.specs.declared.following.ReplayEnd.{ReplayEnd}
use Rattle.anb_transcript.specs.declared.following.ReplayEnd.TheVariants.{Follows, Differs, Short, Stopped, NoMemory}
use Rattle.anb_judge.specs.Laws.{ObservedAreConversations}
use Rattle.anb_judge.specs.Observed.{observed, hears, says_in, over, IsConversation, IsObserved, MadeIsSeen}
use Rattle.anb_judge.specs.Verdicts.{Judged, Judges, IsBegun, IsOfRole, due_at, in_place, is_said, line_bytes, own_plan, refused_at, sides, up_to, verdict}
use Rattle.anb_judge.proofs.Begun.{cut_known, placed_within}
use Rattle.anb_judge.proofs.Observing.{known_observed, not_stopped}
use Rattle.anb_judge.proofs.SeenPlays.{values}
use Rattle.anb_verdict.specs.declared.seen.Seen.{Seen}
use Rattle.anb_verdict.specs.declared.verdict.Verdict.{Verdict}
use Rattle.anb_verdict.specs.Laws.{CanBeTold, NamesAreTold, StopsAreKnown}
use Rattle.anb_verdict.specs.Verdicts.{IsKnown, IsRoles, IsVerdict, MayEnd, came_behind, is_good, next_said, stops_when_due, verdict_at, verdict_of}
use Rattle.anb_verdict.proofs.Over.{Placed, begun_lines, done_lines, ending, heard_lines, placed_to, said_lines, stop_lines, take_map, whole_plan}
use Rattle.anb_verdict.proofs.Ahead.{nothing_more, quiet_says, seen_to, stop_play, stop_within, stops_next}
use Rattle.anb_verdict.proofs.Tests.{at_over_good, at_over_may, at_stop_good, at_stop_may, due_stops, le_tested, may_be_done, may_end, may_end_done, may_stop, never_short, never_waiting, not_due}

abbrev Text : Type 0
Text = List ℕ

over_is : (q : Played Text) (xs : List Text) → q.sent ≡ xs → q.end ≡ done → q.left ≡ [] → q ≡ over xs
over_is q xs s n l = ap (λ ys. record { sent = ys; end = q.end; left = q.left }) s ∙ ap (λ y. record { sent = xs; end = y; left = q.left }) n ∙ ap (λ ys. record { sent = xs; end = done; left = ys }) l

no_lines : {X : Type 0} (xs : List X) → length xs ≡ 0 → xs ≡ []
no_lines [] none = refl
no_lines (x ∷ xs) none = absurd (omega (arith, none))

all_dropped : {X : Type 0} (xs : List X) → drop 0 xs ≡ xs
all_dropped [] = refl
all_dropped (x ∷ xs) = refl

-- what is at its place, where it's said and where it's heard
heard_not_said : (ss : List Bool) (n : ℕ) → suc n ≤ length ss → is_said ss (suc n) ≡ false → slice_get ss n ≡ Some false
heard_not_said [] n within is = absurd (omega (arith, within))
heard_not_said (s ∷ ss) zero within is = ap Some is
heard_not_said (s ∷ ss) (suc n) within is = heard_not_said ss n (omega (arith, within)) is

none_said : (ss : List Bool) → is_said ss (suc (length ss)) ≡ false
none_said [] = refl
none_said (s ∷ ss) = none_said ss

abbrev some_draw : ℕ → Text
some_draw i = []

module _ (J : Judged) where
  abbrev m : Meaning Text
  m = meaning_of J.protocol

  abbrev plan : List Event
  plan = own_plan J

  abbrev lines : List TranscriptLine
  lines = J.lines

  abbrev ss : List Bool
  ss = sides plan

  module _ (first : KnowsFirst plan) (placed : Placed plan lines) where
    -- ---- the first lines

    begun : (n : ℕ) → n ≤ length lines → (draw : ℕ → Text) → ((i : ℕ) → IsTrue (m.is_value (draw i))) → Agree m (known plan) J.initial
        → Walk m draw (up_to n plan) (known plan) J.initial 0 0 (arrivals_of (take n lines)) (over (messages_of (take n lines))) → IsBegun J n
    begun n few draw drawn agree walk = record {
      count = few;
      placed = ap (take n) placed ∙ take_map line_bytes n lines;
      conversation = record { draw = draw; drawn = drawn; play = play };
    } where
      play : Play m draw (up_to n plan) J.initial (hears (up_to n plan) (map line_bytes (take n lines))) (over (says_in (up_to n plan) (map line_bytes (take n lines))))
      play =
          let here = placed_to n plan lines placed few in
          let cut = cut_known n plan first in
          let heard = heard_lines (up_to n plan) (take n lines) here in
          let said = said_lines (up_to n plan) (take n lines) here in
          let on = subst (λ xs. Walk m draw (up_to n plan) (known plan) J.initial 0 0 xs (over (messages_of (take n lines)))) (sym heard) walk in
          let all = subst (λ xs. Walk m draw (up_to n plan) (known plan) J.initial 0 0 (hears (up_to n plan) (map line_bytes (take n lines))) (over xs)) (sym said) on in
          inl (
            subst (λ F. Agree m F J.initial) (sym cut) agree,
            subst (λ F. Walk m draw (up_to n plan) F J.initial 0 0 (hears (up_to n plan) (map line_bytes (take n lines))) (over (says_in (up_to n plan) (map line_bytes (take n lines))))) (sym cut) all,
          )

    roles_begun : (S : Seen) (roles : IsRoles J S) (n : ℕ) → n ≤ length lines → ((f at : ℕ) → roles.played.end ≡ stopped f at → n < f) → IsBegun J n
    roles_begun S roles n few stop = by roles.play where
      by : Play m roles.draw plan J.initial (arrivals_of lines) roles.played → IsBegun J n
      by (inl h) = begun n few roles.draw roles.drawn h.0
          (begun_lines m roles.draw plan (known plan) J.initial 0 0 n lines roles.played placed few h.1 (λ f at is. omega (arith, stop f at is)) roles.says)
      by (inr h) = let late = stop 0 0 (ending roles.played (stopped 0 0) (arrivals_of lines) h.1) in absurd (omega (arith, late))

    -- ---- where for some draws it is what the role does

    of_role : (S : Seen) (roles : IsRoles J S) → roles.played.end ≡ done → IsOfRole J
    of_role S roles is = by roles.play where
      by : Play m roles.draw plan J.initial (arrivals_of lines) roles.played → IsOfRole J
      by (inr h) = let w = ending roles.played (stopped 0 0) (arrivals_of lines) h.1 in absurd (cc)
      by (inl h) =
          let r = done_lines m roles.draw plan (known plan) J.initial 0 0 lines roles.played placed h.1 is roles.says in
          let whole = over_is roles.played (messages_of lines) (sym roles.says) is r.1 in
          let played = subst (λ q. Play m roles.draw plan J.initial (arrivals_of lines) q) whole roles.play in
          let heard = subst (λ xs. Play m roles.draw plan J.initial xs (over (messages_of lines))) (sym (heard_lines plan lines placed)) played in
          let said = subst (λ xs. Play m roles.draw plan J.initial (hears plan (map line_bytes lines)) (over xs)) (sym (said_lines plan lines placed)) heard in
          record { count = r.0; placed = placed; conversation = record { draw = roles.draw; drawn = roles.drawn; play = said } }

    module _ (S : Seen) (stops : (event : ℕ) → S.due ≡ Some event → IsBegun J event → ⊥) (refuses : S.refused ≡ true → IsBegun J (length lines) → ⊥) (end : ReplayEnd) (judges : Judges J end) where
      unrefused : (b : Bool) → S.refused ≡ b → IsBegun J (length lines) → b ≡ false
      unrefused true is there = absurd (refuses is there)
      unrefused false is there = refl

      over_good : (roles : IsRoles J S) → roles.played.end ≡ done → is_good (verdict_of ss end lines S) ≡ true
      over_good roles is =
          let follows = judges.all (of_role S roles is) in
          let never : (f at : ℕ) → roles.played.end ≡ stopped f at → ⊥ = λ f at it. not_both f at (sym is ∙ it) in
          let goes : (n : ℕ) → n ≤ length lines → IsBegun J n = λ n few. roles_begun S roles n few (λ f at it. absurd (never f at it)) in
          let due = ap (stops_when_due S.due (length lines)) follows ∙ not_due S.due (length lines) (λ n it few. stops n it (goes n few)) in
          let so = unrefused S.refused refl (goes (length lines) (omega arith)) in
          subst (λ x. is_good (verdict_at ss lines S x) ≡ true) (sym due)
          (at_over_good S.refused S.more S.loose S.ended (length lines) so roles.no_more (roles.whole is) (may_be_done ss S.ended (subst (λ x. MayEnd ss x S.ended) is roles.ends))) where
            not_both : (f at : ℕ) → done ≡ stopped f at → ⊥
            not_both f at it = cc

      stop_good : (roles : IsRoles J S) (event at : ℕ) → roles.played.end ≡ stopped event at → S.due ≡ Some event → is_good (verdict_of ss end lines S) ≡ true
      stop_good roles event at is due = by roles.play where
        good : event ≤ length lines → messages_of (drop event lines) ≡ [] → is_good (verdict_of ss end lines S) ≡ true
        good within quiet =
            let behind : (n : ℕ) → refused_at end ≡ Some n → event ≤ n = λ n it. not_before n it (below_or_not n event) in
            let stop = ap (λ o. stops_when_due o (length lines) end) due ∙ due_stops event (length lines) end within behind in
            let none : came_behind event lines S.more ≡ 0 = omega (arith, ap length quiet, roles.no_more) in
            subst (λ x. is_good (verdict_at ss lines S x) ≡ true) (sym stop)
            (at_stop_good (came_behind event lines S.more) (next_said ss event) event S.reached S.ended none (may_stop ss event at S.ended (subst (λ x. MayEnd ss x S.ended) is roles.ends))) where
              not_before : (n : ℕ) → refused_at end ≡ Some n → (n < event) ⊎ (event ≤ n) → event ≤ n
              not_before n it (inr most) = most
              not_before n it (inl less) =
                  absurd (judges.none n it (roles_begun S roles n (omega (arith, less, within)) (λ f by stop. omega (arith, less, same f by (sym is ∙ stop))))) where
                    same : (f by : ℕ) → stopped event at ≡ stopped f by → event ≡ f
                    same f by e = cc

        by : Play m roles.draw plan J.initial (arrivals_of lines) roles.played → is_good (verdict_of ss end lines S) ≡ true
        by (inl h) =
            let s = stop_lines m roles.draw plan (known plan) J.initial 0 0 lines roles.played event at placed h.1 is roles.says in
            let here : event ≡ suc s.n = omega (arith, s.at) in
            good (omega (arith, here, s.within)) (ap (λ n. messages_of (drop n lines)) here ∙ s.quiet)
        by (inr h) = at_start (sym is ∙ ending roles.played (stopped 0 0) (arrivals_of lines) h.1) where
          at_start : stopped event at ≡ stopped 0 0 → is_good (verdict_of ss end lines S) ≡ true
          at_start e =
              let here : event ≡ 0 = cc in
              good (omega (arith, here)) (ap (λ n. messages_of (drop n lines)) here ∙ ap messages_of (all_dropped lines) ∙ roles.says ∙ ap (λ (q : Played Text). q.sent) h.1)

      pub right : (roles : IsRoles J S) → StopsAreKnown J S roles → is_good (verdict_of ss end lines S) ≡ true
      right roles due = by roles.played.end refl where
        by : (x : End) → roles.played.end ≡ x → is_good (verdict_of ss end lines S) ≡ true
        by done is = over_good roles is
        by (waiting e) is = never_waiting ss e S.ended (subst (λ x. MayEnd ss x S.ended) is roles.ends)
        by (stopped e at) is = stop_good roles e at is (due e at is)

    -- ---- where nothing is said against it

    module _ (S : Seen) (begins : AllByRecursion IsBytes J.initial) (bytes : AllByRecursion IsBytes (map line_bytes lines)) (hears_due : (event : ℕ) → S.due ≡ Some event → is_said ss event ≡ false)
        (stops : (event : ℕ) → S.due ≡ Some event → IsBegun J event → ⊥) (end : ReplayEnd) (judges : Judges J end) (law : ObservedAreConversations m) (told : NamesAreTold J) where
      over_roles : end ≡ Follows → S.more ≡ 0 → S.loose ≡ false → MayEnd ss done S.ended → IsRoles J S
      over_roles follows none whole may =
          let t = told (length ss) (none_said ss) in
          let has = has_operator J.protocol.formats in
          let of = judges.only (subst (λ es. Sendable has es) (whole_plan plan) t.sends) (subst (λ es. MadeIsSeen has es) (whole_plan plan) t.made) follows in
          let c = of.conversation in
          let heard = subst (λ xs. Play m c.draw plan J.initial xs (over (says_in plan (map line_bytes lines)))) (heard_lines plan lines placed) c.play in
          let said = subst (λ xs. Play m c.draw plan J.initial (arrivals_of lines) (over xs)) (said_lines plan lines placed) heard in
          record { draw = c.draw; drawn = c.drawn; played = over (messages_of lines); play = said; says = refl; no_more = none; whole = λ is. whole; ends = may }

      -- a stop that the verdict rests on
      record IsStop (e : ℕ) : Type 0 where
        heard : is_said ss e ≡ false
        within : e ≤ length lines
        never : IsBegun J e → ⊥
        late : (f at : ℕ) → judges.played.end ≡ stopped f at → e ≤ f

      placed_long : length (in_place ss lines) ≡ length lines
      placed_long = ap length placed ∙ length-map lines line_bytes

      first_bytes : (n : ℕ) → AllByRecursion IsBytes (map line_bytes (take n lines))
      first_bytes n = subst (AllByRecursion IsBytes) (take_map line_bytes n lines) (each_taken n (map line_bytes lines) bytes) where
        each_taken : (n : ℕ) (xs : List Text) → AllByRecursion IsBytes xs → AllByRecursion IsBytes (take n xs)
        each_taken zero [] all = tt
        each_taken zero (x ∷ xs) all = tt
        each_taken (suc n) [] all = tt
        each_taken (suc n) (x ∷ xs) all = (all.0, each_taken n xs all.1)

      seen_before : (n : ℕ) → IsStop (suc n) → IsObserved m (up_to n plan) J.initial (map line_bytes (take n lines))
      seen_before n stop d = by (judges.seen d) where
        cut : known (observed (up_to n plan)) ≡ known (observed plan)
        cut = known_observed (up_to n plan) ∙ cut_known n plan first ∙ sym (known_observed plan)

        by : Play m d (observed plan) J.initial (in_place ss lines) judges.played → Play m d (observed (up_to n plan)) J.initial (map line_bytes (take n lines)) (over [])
        by (inr h) = let late = stop.late 0 0 (ending judges.played (stopped 0 0) (in_place ss lines) h.1) in absurd (omega (arith, late))
        by (inl h) =
            let within = stop.within in
            let short = placed_within ss lines in
            let walk = seen_to m d plan (known (observed plan)) J.initial 0 0 n (in_place ss lines) judges.played (omega (arith, within, short, placed_long)) (omega (arith, within, placed_long))
            (λ f at is. omega (arith, stop.late f at is)) h.1 in
            let here = subst (λ xs. Walk m d (observed (up_to n plan)) (known (observed plan)) J.initial 0 0 xs (over [])) (ap (take n) placed ∙ take_map line_bytes n lines) walk in
            inl (subst (λ F. Agree m F J.initial) (sym cut) h.0, subst (λ F. Walk m d (observed (up_to n plan)) F J.initial 0 0 (map line_bytes (take n lines)) (over [])) (sym cut) here)

      -- the first lines as a conversation, and then the stop
      conversed : (n : ℕ) → IsStop (suc n) → messages_of (drop (suc n) lines) ≡ [] → S.more ≡ 0 → MayEnd ss (stopped (suc n) 0) S.ended → IsConversation m (up_to n plan) J.initial (map line_bytes (take n lines)) → IsRoles J S
      conversed n stop quiet none may c = by c.play where
        here : Placed (up_to n plan) (take n lines)
        here = let within = stop.within in placed_to n plan lines placed (omega (arith, within))

        by : Play m c.draw (up_to n plan) J.initial (hears (up_to n plan) (map line_bytes (take n lines))) (over (says_in (up_to n plan) (map line_bytes (take n lines)))) → IsRoles J S
        by (inr h) = not_stopped 0 (hears (up_to n plan) (map line_bytes (take n lines))) (says_in (up_to n plan) (map line_bytes (take n lines))) (over (says_in (up_to n plan) (map line_bytes (take n lines)))) refl h.1
        by (inl h) =
            let within = stop.within in
            let short = placed_within ss lines in
            let cut = cut_known n plan first in
            let agree = subst (λ F. Agree m F J.initial) cut h.0 in
            let known_first = subst (λ F. Walk m c.draw (up_to n plan) F J.initial 0 0 (hears (up_to n plan) (map line_bytes (take n lines))) (over (says_in (up_to n plan) (map line_bytes (take n lines))))) cut h.1 in
            let heard = subst (λ xs. Walk m c.draw (up_to n plan) (known plan) J.initial 0 0 xs (over (says_in (up_to n plan) (map line_bytes (take n lines))))) (heard_lines (up_to n plan) (take n lines) here) known_first in
            let said = subst (λ xs. Walk m c.draw (up_to n plan) (known plan) J.initial 0 0 (arrivals_of (take n lines)) (over xs)) (said_lines (up_to n plan) (take n lines) here) heard in
            let place = heard_not_said ss n (omega (arith, within, short, placed_long)) stop.heard in
            let go = stops_next m c.draw plan (known plan) J.initial 0 0 n lines placed place within said (λ w. stop.never (begun (suc n) within c.draw c.drawn agree w)) in
            let same : suc n ≡ 0 + suc n = omega arith in
            record {
              draw = c.draw;
              drawn = c.drawn;
              played = stop_play 0 n lines;
              play = inl (agree, go);
              says = quiet_says plan lines n placed place within quiet;
              no_more = none;
              whole = λ is. absurd (not_done is);
              ends = subst (λ k. MayEnd ss (stopped k 0) S.ended) same may;
            } where
              not_done : stopped (0 + suc n) 0 ≡ done → ⊥
              not_done is = cc

      stop_roles : (e : ℕ) → IsStop e → messages_of (drop e lines) ≡ [] → S.more ≡ 0 → MayEnd ss (stopped e 0) S.ended → IsRoles J S
      stop_roles zero stop quiet none may =
          record {
            draw = some_draw;
            drawn = λ i. refl;
            played = ends (stopped 0 0) (arrivals_of lines);
            play = inr (λ agree. stop.never (begun 0 (omega arith) some_draw (λ i. refl) agree nothing), refl);
            says = sym (ap messages_of (all_dropped lines)) ∙ quiet;
            no_more = none;
            whole = λ is. absurd (not_done is);
            ends = may;
          } where
            not_done : stopped 0 0 ≡ done → ⊥
            not_done is = cc

            none_first : (ls : List TranscriptLine) → [] ≡ take 0 ls
            none_first [] = refl
            none_first (l ∷ ls) = refl

            nothing : Walk m some_draw (up_to 0 plan) (known plan) J.initial 0 0 (arrivals_of (take 0 lines)) (over (messages_of (take 0 lines)))
            nothing = subst (λ ls. Walk m some_draw (up_to 0 plan) (known plan) J.initial 0 0 (arrivals_of ls) (over (messages_of ls))) (none_first lines) (nothing_more m some_draw plan (known plan) J.initial 0 0)
      stop_roles (suc n) stop quiet none may =
          let t = told n stop.heard in
          conversed n stop quiet none may (law (up_to n plan) J.initial (map line_bytes (take n lines)) [] refl t.sends t.made (values J.initial begins) (values (map line_bytes (take n lines)) (first_bytes n)) (seen_before n stop))

      -- where it's judged to stop
      judged_stop : (halt : Halt) (e : ℕ) → end ≡ Stopped halt e → IsStop e
      judged_stop halt e is = by judges.played.end refl where
        at_event : (f at : ℕ) → judges.played.end ≡ stopped f at → f ≡ e → is_said ss f ≡ false → IsStop e
        at_event f at ended same said = record {
          heard = subst (λ k. is_said ss k ≡ false) same said;
          within = subst (λ k. k ≤ length lines) same (fits (judges.seen some_draw));
          never = λ b. judges.none e (ap refused_at is) b;
          late = λ g by other. omega (arith, same, one f at g by (sym ended ∙ other));
        } where
          one : (f at g by : ℕ) → stopped f at ≡ stopped g by → f ≡ g
          one f at g by e = cc

          fits : Play m some_draw (observed plan) J.initial (in_place ss lines) judges.played → f ≤ length lines
          fits (inl h) = let w = stop_within m some_draw plan (known (observed plan)) J.initial 0 0 (in_place ss lines) judges.played f at ended h.1 in omega (arith, w, placed_long)
          fits (inr h) = let z = one f at 0 0 (sym ended ∙ ending judges.played (stopped 0 0) (in_place ss lines) h.1) in omega (arith, z)

        said_or : (b : Bool) (f at : ℕ) → judges.played.end ≡ stopped f at → is_said ss f ≡ b → (if b then Differs f (due_at ss f) else Stopped (record { event = f; at = 0 }) f) ≡ Stopped halt e → IsStop e
        said_or true f at ended said it = absurd (cc)
        said_or false f at ended said it = at_event f at ended (cc) said

        waits : (b : Bool) (f : ℕ) → (if b then Differs f (due_at ss f) else Short f) ≡ Stopped halt e → IsStop e
        waits true f it = absurd (cc)
        waits false f it = absurd (cc)

        is_done : (b : Bool) → (if b then Differs (length ss + 1) Over else Follows) ≡ Stopped halt e → IsStop e
        is_done true it = absurd (cc)
        is_done false it = absurd (cc)

        by : (x : End) → judges.played.end ≡ x → IsStop e
        by (stopped f at) ended = said_or (is_said ss f) f at ended refl (sym (ap (verdict ss (length lines)) ended) ∙ sym judges.is ∙ is)
        by (waiting f) ended = waits (nat_le f (length lines)) f (sym (ap (verdict ss (length lines)) ended) ∙ sym judges.is ∙ is)
        by done ended = is_done (nat_lt (length ss) (length lines)) (sym (ap (verdict ss (length lines)) ended) ∙ sym judges.is ∙ is)

      stop_of : (o : Option ℕ) → S.due ≡ o → (halt : Halt) (e : ℕ) → stops_when_due o (length lines) end ≡ Stopped halt e → IsStop e
      stop_of None due halt e is = judged_stop halt e is
      stop_of (Some d) due halt e is = by (nat_le d (length lines) && option_map_or (λ n. nat_le d n) (refused_at end) true) refl is where
        refused_stop : (b : Bool) (f : ℕ) → refused_at (if b then Differs f (due_at ss f) else Stopped (record { event = f; at = 0 }) f) ≡ Some f
        refused_stop true f = refl
        refused_stop false f = refl

        by : (b : Bool) → (nat_le d (length lines) && option_map_or (λ n. nat_le d n) (refused_at end) true) ≡ b → (if b then Stopped (record { event = d; at = 0 }) d else end) ≡ Stopped halt e → IsStop e
        by false it is = judged_stop halt e is
        by true it is = subst IsStop (cc) known where
          known : IsStop d
          known = record {
            heard = hears_due d due;
            within = le_tested d (length lines) (first_of_and (nat_le d (length lines)) (option_map_or (λ n. nat_le d n) (refused_at end) true) it);
            never = stops d due;
            late = λ f at ended. le_tested d f
                (subst (λ o. option_map_or (λ n. nat_le d n) o true ≡ true) (ap refused_at (judges.is ∙ ap (verdict ss (length lines)) ended) ∙ refused_stop (is_said ss f) f)
                (last_of_and (nat_le d (length lines)) (option_map_or (λ n. nat_le d n) (refused_at end) true) it));
          }

      was_over : (o : Option ℕ) → stops_when_due o (length lines) end ≡ Follows → end ≡ Follows
      was_over None is = is
      was_over (Some d) is = by (nat_le d (length lines) && option_map_or (λ n. nat_le d n) (refused_at end) true) is where
        by : (b : Bool) → (if b then Stopped (record { event = d; at = 0 }) d else end) ≡ Follows → end ≡ Follows
        by true is = absurd (cc)
        by false is = is

      pub exact : is_good (verdict_of ss end lines S) ≡ true → IsRoles J S
      exact good = by (stops_when_due S.due (length lines) end) refl good where
        by : (x : ReplayEnd) → stops_when_due S.due (length lines) end ≡ x → is_good (verdict_at ss lines S x) ≡ true → IsRoles J S
        by (Stopped halt e) is good =
            let t = at_stop_may (came_behind e lines S.more) (next_said ss e) e S.reached S.ended good in
            stop_roles e (stop_of S.due refl halt e is) (no_lines (messages_of (drop e lines)) (omega (arith, t.0))) (omega (arith, t.0)) (may_end ss e 0 S.ended t.1)
        by (Differs n (Send b)) is good = absurd (cc)
        by (Differs n Receive) is good = absurd (cc)
        by (Differs n Over) is good = absurd (cc)
        by (Short e) is good = never_short S.refused (is_said ss e) S.ended e (length lines) good
        by Follows is good =
            let t = at_over_may S.refused S.more S.loose S.ended (length lines) good in over_roles (was_over S.due is) t.0 t.1 (may_end_done ss S.ended t.2)
        by NoMemory is good = absurd (cc)
