-- From who sees the role to the role's own play: up to a stop, and over it.
use Rattle.std.proofs.Common.{◌≡◌, ℕ, zero, suc, ◌+◌, ◌≤◌, ◌<◌, List, [], ◌∷◌, ◌++◌, length, map, take, drop, Bool, true, false, Option, Some, None, slice_get, refl, sym, ap, ◌∙◌, subst, inl, inr, arith}
use Rattle.anb_term.specs.Tree.{Tree}
use Rattle.anb_term.specs.Value.{Meaning}
use Rattle.anb_plays.specs.Plans.{Event, know, fresh, send, recv}
use Rattle.anb_plays.specs.Plays.{End, stopped, waiting, done, Played, ends, says, Walk}
use Rattle.anb_transcript.specs.Replays.{arrivals_of, messages_of}
use Rattle.anb_transcript.specs.declared.transcript.TranscriptLine.{TranscriptLine}
use Rattle.anb_transcript.specs.declared.transcript.TranscriptLine.TheVariants.{In, Out}
use Rattle.anb_judge.specs.Observed.{observed, over}
use Rattle.anb_judge.specs.Verdicts.{sides, up_to}
use Rattle.anb_judge.proofs.Observing.{not_stopped, said_first}
use Rattle.anb_verdict.proofs.Over.{Placed, ending}

abbrev Text : Type 0
Text = List ℕ

-- what the role does that says so much, and stops behind k messages at the n-th of these lines
abbrev pub stop_play : (k n : ℕ) → List TranscriptLine → Played Text
stop_play k n lines = record { sent = messages_of (take n lines); end = stopped (k + suc n) 0; left = arrivals_of (drop (suc n) lines) }

module _ (m : Meaning Text) (draw : ℕ → Text) where
  -- ---- who sees it

  one_seen : (t : Tree) (es : List Event) (G : List Tree) (ws : List Text) (e j n : ℕ) (xs : List Text) (p : Played Text)
      → ((H : List Tree) (us : List Text) (ys : List Text) → n ≤ length ys → Walk m draw (observed es) H us (e + 1) j ys p → Walk m draw (observed (up_to n es)) H us (e + 1) j (take n ys) (over []))
      → suc n ≤ length xs → ((f at : ℕ) → p.end ≡ stopped f at → e + suc n < f) → Walk m draw (recv t ∷ observed es) G ws e j xs p
      → Walk m draw (recv t ∷ observed (up_to n es)) G ws e j (take (suc n) xs) (over [])
  one_seen t es G ws e j n [] p on few stop walk = absurd (omega (arith, few))
  one_seen t es G ws e j n (x ∷ xs) p on few stop (inl h) = inl (h.0, on (G ++ t ∷ []) (ws ++ x ∷ []) xs (omega (arith, few)) h.1)
  one_seen t es G ws e j n (x ∷ xs) p on few stop (inr h) = let late = stop (e + 1) 0 (ending p (stopped (e + 1) 0) xs h.1) in absurd (omega (arith, late))

  none_taken : (xs : List Text) → ◌≡◌ {A = Played Text} (over []) (ends done (take 0 xs))
  none_taken [] = refl
  none_taken (x ∷ xs) = refl

  -- it goes on over the first n lines, where it isn't stopped there
  pub seen_to : (es : List Event) (G : List Tree) (ws : List Text) (e j n : ℕ) (xs : List Text) (p : Played Text) → n ≤ length (sides es) → n ≤ length xs
      → ((f at : ℕ) → p.end ≡ stopped f at → e + n < f) → Walk m draw (observed es) G ws e j xs p → Walk m draw (observed (up_to n es)) G ws e j (take n xs) (over [])
  seen_to [] G ws e j zero xs p short few stop walk = none_taken xs
  seen_to [] G ws e j (suc n) xs p short few stop walk = absurd (omega (arith, short))
  seen_to (know t ∷ es) G ws e j n xs p short few stop walk = seen_to es G ws e j n xs p short few stop walk
  seen_to (fresh t ∷ es) G ws e j n xs p short few stop walk = seen_to es G ws e j n xs p short few stop walk
  seen_to (send t ∷ es) G ws e j zero xs p short few stop walk = none_taken xs
  seen_to (recv t ∷ es) G ws e j zero xs p short few stop walk = none_taken xs
  seen_to (send t ∷ es) G ws e j (suc n) xs p short few stop walk =
      one_seen t es G ws e j n xs p (λ H us ys l w. seen_to es H us (e + 1) j n ys p (omega (arith, short)) l (λ f at is. omega (arith, stop f at is)) w) few stop walk
  seen_to (recv t ∷ es) G ws e j (suc n) xs p short few stop walk =
      one_seen t es G ws e j n xs p (λ H us ys l w. seen_to es H us (e + 1) j n ys p (omega (arith, short)) l (λ f at is. omega (arith, stop f at is)) w) few stop walk

  -- where it stops there was a line
  one_stop : (t : Tree) (es : List Event) (G : List Tree) (ws : List Text) (e j : ℕ) (xs : List Text) (p : Played Text) (f at : ℕ)
      → ((H : List Tree) (us : List Text) (ys : List Text) → Walk m draw (observed es) H us (e + 1) j ys p → f ≤ e + 1 + length ys) → p.end ≡ stopped f at → Walk m draw (recv t ∷ observed es) G ws e j xs p → f ≤ e + length xs
  one_stop t es G ws e j [] p f at on is walk = let w = ending p (waiting (e + 1)) [] walk in absurd (cc)
  one_stop t es G ws e j (x ∷ xs) p f at on is (inl h) = omega (arith, on (G ++ t ∷ []) (ws ++ x ∷ []) xs h.1)
  one_stop t es G ws e j (x ∷ xs) p f at on is (inr h) = same (sym is ∙ ending p (stopped (e + 1) 0) xs h.1) where
    same : stopped f at ≡ stopped (e + 1) 0 → f ≤ e + length (x ∷ xs)
    same is = let here : f ≡ e + 1 = cc in omega (arith, here)

  pub stop_within : (es : List Event) (G : List Tree) (ws : List Text) (e j : ℕ) (xs : List Text) (p : Played Text) (f at : ℕ) → p.end ≡ stopped f at → Walk m draw (observed es) G ws e j xs p → f ≤ e + length xs
  stop_within [] G ws e j xs p f at is walk = let w = ending p done xs walk in absurd (cc)
  stop_within (know t ∷ es) G ws e j xs p f at is walk = stop_within es G ws e j xs p f at is walk
  stop_within (fresh t ∷ es) G ws e j xs p f at is walk = stop_within es G ws e j xs p f at is walk
  stop_within (send t ∷ es) G ws e j xs p f at is walk = one_stop t es G ws e j xs p f at (λ H us ys w. stop_within es H us (e + 1) j ys p f at is w) is walk
  stop_within (recv t ∷ es) G ws e j xs p f at is walk = one_stop t es G ws e j xs p f at (λ H us ys w. stop_within es H us (e + 1) j ys p f at is w) is walk

  -- ---- the role

  pub nothing_more : (es : List Event) (F : List Tree) (vs : List Text) (k i : ℕ) → Walk m draw (up_to 0 es) F vs k i [] (over [])
  nothing_more [] F vs k i = refl
  nothing_more (know t ∷ es) F vs k i = nothing_more es F vs k i
  nothing_more (fresh t ∷ es) F vs k i = nothing_more es (F ++ t ∷ []) (vs ++ draw i ∷ []) k (i + 1)
  nothing_more (send t ∷ es) F vs k i = refl
  nothing_more (recv t ∷ es) F vs k i = refl

  stop_here : (k : ℕ) (b : Text) (ls : List TranscriptLine) → stop_play k 0 (In b ∷ ls) ≡ ends (stopped (k + 1) 0) (arrivals_of ls)
  stop_here k b [] = refl
  stop_here k b (l ∷ ls) = refl

  stop_on : (k n : ℕ) (l : TranscriptLine) (ls : List TranscriptLine) → (k + 1) + suc n ≡ k + suc (suc n)
  stop_on k n l ls = omega arith

  -- It goes on over the first n lines, and with one more it doesn't: it stops there.
  pub stops_next : (es : List Event) (F : List Tree) (vs : List Text) (k i n : ℕ) (lines : List TranscriptLine) → Placed es lines → slice_get (sides es) n ≡ Some false → suc n ≤ length lines
      → Walk m draw (up_to n es) F vs k i (arrivals_of (take n lines)) (over (messages_of (take n lines)))
      → (Walk m draw (up_to (suc n) es) F vs k i (arrivals_of (take (suc n) lines)) (over (messages_of (take (suc n) lines))) → ⊥)
      → Walk m draw es F vs k i (arrivals_of lines) (stop_play k n lines)
  stops_next [] F vs k i n lines placed hears few begun never = absurd (cc)
  stops_next (know t ∷ es) F vs k i n lines placed hears few begun never = stops_next es F vs k i n lines placed hears few begun never
  stops_next (fresh t ∷ es) F vs k i n lines placed hears few begun never = stops_next es (F ++ t ∷ []) (vs ++ draw i ∷ []) k (i + 1) n lines placed hears few begun never
  stops_next (send t ∷ es) F vs k i n [] placed hears few begun never = absurd (omega (arith, few))
  stops_next (recv t ∷ es) F vs k i n [] placed hears few begun never = absurd (omega (arith, few))
  stops_next (send t ∷ es) F vs k i n (In b ∷ ls) placed hears few begun never = absurd (cc)
  stops_next (recv t ∷ es) F vs k i n (Out b ∷ ls) placed hears few begun never = absurd (cc)
  stops_next (send t ∷ es) F vs k i zero (Out b ∷ ls) placed hears few begun never = absurd (cc)
  stops_next (send t ∷ es) F vs k i (suc n) (Out b ∷ ls) placed hears few begun never =
      let s = said_first begun.0 b begun.1 (messages_of (take n ls)) (sym begun.4) in
      let given = begun.2 in
      let here = subst (λ q. Walk m draw (up_to n es) F vs (k + 1) i (arrivals_of (take n ls)) q) s.1 begun.3 in
      let on = stops_next es F vs (k + 1) i n ls (cc) hears (omega (arith, few)) here
      (λ w. never (begun.0, over (messages_of (take (suc n) ls)), given, w, ap (λ x. over (x ∷ messages_of (take (suc n) ls))) (sym s.0))) in (
        begun.0,
        stop_play (k + 1) n ls,
        given,
        on,
        ap (λ x. record { sent = x ∷ messages_of (take n ls); end = stopped (k + suc (suc n)) 0; left = arrivals_of (drop (suc n) ls) }) (sym s.0)
            ∙ ap (λ e. record { sent = begun.0 ∷ messages_of (take n ls); end = stopped e 0; left = arrivals_of (drop (suc n) ls) }) (sym (stop_on k n (Out b) ls)),
      )
  stops_next (recv t ∷ es) F vs k i zero (In b ∷ ls) placed hears few begun never = inr (
    λ agree. never (inl (agree, nothing_on ls)),
    stop_here k b ls,
  ) where
    nothing_on : (ls : List TranscriptLine) → Walk m draw (up_to 0 es) (F ++ t ∷ []) (vs ++ b ∷ []) (k + 1) i (arrivals_of (take 0 ls)) (over (messages_of (take 0 ls)))
    nothing_on [] = nothing_more es (F ++ t ∷ []) (vs ++ b ∷ []) (k + 1) i
    nothing_on (l ∷ ls) = nothing_more es (F ++ t ∷ []) (vs ++ b ∷ []) (k + 1) i
  stops_next (recv t ∷ es) F vs k i (suc n) (In b ∷ ls) placed hears few (inr h) never = not_stopped (k + 1) (arrivals_of (take n ls)) (messages_of (take n ls)) (over (messages_of (take n ls))) refl h.1
  stops_next (recv t ∷ es) F vs k i (suc n) (In b ∷ ls) placed hears few (inl h) never =
      let on = stops_next es (F ++ t ∷ []) (vs ++ b ∷ []) (k + 1) i n ls (cc) hears (omega (arith, few)) h.1 (λ w. never (inl (h.0, w))) in
      inl (h.0, subst (λ e. Walk m draw es (F ++ t ∷ []) (vs ++ b ∷ []) (k + 1) i (arrivals_of ls) (record { sent = messages_of (take n ls); end = stopped e 0; left = arrivals_of (drop (suc n) ls) })) (stop_on k n (In b) ls) on)

-- where it says nothing behind a line that it hears, it says all before
pub quiet_says : (es : List Event) (lines : List TranscriptLine) (n : ℕ) → Placed es lines → slice_get (sides es) n ≡ Some false → suc n ≤ length lines
    → messages_of (drop (suc n) lines) ≡ [] → messages_of lines ≡ messages_of (take n lines)
quiet_says [] lines n placed hears few quiet = absurd (cc)
quiet_says (know t ∷ es) lines n placed hears few quiet = quiet_says es lines n placed hears few quiet
quiet_says (fresh t ∷ es) lines n placed hears few quiet = quiet_says es lines n placed hears few quiet
quiet_says (send t ∷ es) [] n placed hears few quiet = absurd (omega (arith, few))
quiet_says (recv t ∷ es) [] n placed hears few quiet = absurd (omega (arith, few))
quiet_says (send t ∷ es) (In b ∷ ls) n placed hears few quiet = absurd (cc)
quiet_says (recv t ∷ es) (Out b ∷ ls) n placed hears few quiet = absurd (cc)
quiet_says (send t ∷ es) (Out b ∷ ls) zero placed hears few quiet = absurd (cc)
quiet_says (send t ∷ es) (Out b ∷ ls) (suc n) placed hears few quiet = ap (λ l. b ∷ l) (quiet_says es ls n (cc) hears (omega (arith, few)) quiet)
quiet_says (recv t ∷ es) (In b ∷ []) zero placed hears few quiet = refl
quiet_says (recv t ∷ es) (In b ∷ (l ∷ ls)) zero placed hears few quiet = quiet
quiet_says (recv t ∷ es) (In b ∷ ls) (suc n) placed hears few quiet = quiet_says es ls n (cc) hears (omega (arith, few)) quiet
