-- Where for some draws the first lines are what a role hears and says, it says so much over whatever else it hears, and doesn't stop there.
use Rattle.std.proofs.Common.{◌≡◌, ℕ, zero, suc, ◌+◌, ◌<◌, ◌≤◌, List, [], ◌∷◌, ◌++◌, map, take, false, Some, refl, sym, ap, ◌∙◌, subst, inl, inr, arith}
use Rattle.std.specs.Prelude.{slice_get}
use Rattle.anb_term.specs.Agree.{Agree}
use Rattle.anb_term.specs.Tree.{Tree}
use Rattle.anb_term.specs.Value.{Meaning, value}
use Rattle.anb_plays.specs.Plans.{Event, know, fresh, send, recv, known}
use Rattle.anb_plays.specs.Plays.{End, stopped, waiting, done, Played, ends, says, Walk, Play}
use Rattle.anb_protocol.specs.Laws.{KnowsFirst}
use Rattle.anb_transcript.specs.declared.transcript.TranscriptLine.{TranscriptLine}
use Rattle.anb_transcript.specs.declared.transcript.TranscriptLine.TheVariants.{In, Out}
use Rattle.anb_transcript.specs.Replays.{arrivals_of, messages_of}
use Rattle.anb_judge.specs.Observed.{hears, over, says_in}
use Rattle.anb_judge.specs.Verdicts.{is_said, line_bytes, sides, up_to}
use Rattle.anb_judge.proofs.Begun.{cut_known}
use Rattle.anb_tries.proofs.Along.{Fits}
use Rattle.anb_tries.proofs.Stopping.{same_event, stops_later}
use Rattle.anb_dues.proofs.Firsts.{Text}

-- ---- where a play ends

pub ended : {X : Type 0} (p : Played Text) (x y : End) (arrivals : List Text) → (x ≡ y → X) → p.end ≡ x → p ≡ ends y arrivals → X
ended p x y arrivals f end is = f (sym end ∙ ap (λ (q : Played Text). q.end) is)

-- what is behind the first message
abbrev others : List Text → List Text
others [] = []
others (x ∷ xs) = xs

abbrev behind : Played Text → Played Text
behind p = record p { sent = others p.sent }

over_waits : (sent : List Text) (e : ℕ) (xs : List Text) → over sent ≡ ends (waiting e) xs → ⊥
over_waits sent e xs is = (let never : done ≡ waiting e = ap (λ (q : Played Text). q.end) is in cc)

over_stops : (sent : List Text) (e at : ℕ) (xs : List Text) → over sent ≡ ends (stopped e at) xs → ⊥
over_stops sent e at xs is = (let never : done ≡ stopped e at = ap (λ (q : Played Text). q.end) is in cc)

module _ (m : Meaning Text) (d : ℕ → Text) where
  -- a play stops where it hears something
  abbrev Hears : List Event → (e f : ℕ) → Type 0
  Hears es e f = (k : ℕ) × (f ≡ e + suc k) × (slice_get (sides es) k ≡ Some false)

  stops_hearing : (es : List Event) (F : List Tree) (vs : List Text) (e i : ℕ) (xs : List Text) (p : Played Text) (f at : ℕ) → p.end ≡ stopped f at → Walk m d es F vs e i xs p → Hears es e f
  stops_hearing [] F vs e i xs p f at end walk = ended p (stopped f at) done xs (λ never. absurd (cc)) end walk
  stops_hearing (know t ∷ es) F vs e i xs p f at end walk = stops_hearing es F vs e i xs p f at end walk
  stops_hearing (fresh t ∷ es) F vs e i xs p f at end walk = stops_hearing es (F ++ t ∷ []) (vs ++ d i ∷ []) e (i + 1) xs p f at end walk
  stops_hearing (send t ∷ es) F vs e i xs p f at end walk =
      let h = stops_hearing es F vs (e + 1) i xs walk.1 f at (sym (ap (λ (q : Played Text). q.end) walk.4) ∙ end) walk.3 in
      (suc h.0, omega (arith, h.1), h.2)
  stops_hearing (recv t ∷ es) F vs e i [] p f at end walk = ended p (stopped f at) (waiting (e + 1)) [] (λ never. absurd (cc)) end walk
  stops_hearing (recv t ∷ es) F vs e i (x ∷ xs) p f at end (inl h) =
      let g = stops_hearing es (F ++ t ∷ []) (vs ++ x ∷ []) (e + 1) i xs p f at end h.1 in
      (suc g.0, omega (arith, g.1), g.2)
  stops_hearing (recv t ∷ es) F vs e i (x ∷ xs) p f at end (inr h) =
      ended p (stopped f at) (stopped (e + 1) 0) xs (λ is. (0, (let s = same_event f at (e + 1) 0 is in omega (arith, s)), refl)) end h.1

  heard_there : (es : List Event) (f : ℕ) → Hears es 0 f → is_said (sides es) f ≡ false
  heard_there es zero h = refl
  heard_there es (suc f) h =
      let same : h.0 ≡ f = omega (arith, h.1) in
      let there : slice_get (sides es) f ≡ Some false = subst (λ k. slice_get (sides es) k ≡ Some false) same h.2 in
      rw there refl

  pub play_hears : (plan : List Event) (init xs : List Text) (p : Played Text) (f at : ℕ) → p.end ≡ stopped f at → Play m d plan init xs p → is_said (sides plan) f ≡ false
  play_hears plan init xs p f at end (inl h) = heard_there plan f (stops_hearing plan (known plan) init 0 0 xs p f at end h.1)
  play_hears plan init xs p zero at end (inr h) = refl
  play_hears plan init xs p (suc f) at end (inr h) = ended p (stopped (suc f) at) (stopped 0 0) xs (λ is. absurd (let s = same_event (suc f) at 0 0 is in omega (arith, s))) end h.1

  -- ---- the first lines

  -- it says these messages first, and doesn't stop at the first n events
  pub record Goes (n e : ℕ) (messages : List Text) (p : Played Text) : Type 0 where
    pub rest : List Text
    pub sent : p.sent ≡ messages ++ rest
    pub later : (f at : ℕ) → p.end ≡ stopped f at → e + n < f

  begins : (es : List Event) (F : List Tree) (vs : List Text) (e i : ℕ) (xs : List Text) (p : Played Text) → Walk m d es F vs e i xs p → Goes 0 e [] p
  begins es F vs e i xs p walk = record {
    rest = p.sent;
    sent = refl;
    later = λ f at end. (let l = stops_later m d es F vs e i xs p f at end walk in omega (arith, l));
  }

  goes_said : (n e : ℕ) (b c : Text) (messages : List Text) (p q : Played Text) → p ≡ says b q → b ≡ c → Goes n (e + 1) messages q → Goes (suc n) e (c ∷ messages) p
  goes_said n e b c messages p q is same g = record {
    rest = g.rest;
    sent = ap (λ (r : Played Text). r.sent) is ∙ ap (λ x. x ∷ q.sent) same ∙ ap (λ l. c ∷ l) g.sent;
    later = λ f at end. (let l = g.later f at (sym (ap (λ (r : Played Text). r.end) is) ∙ end) in omega (arith, l));
  }

  goes_heard : (n e : ℕ) (messages : List Text) (p : Played Text) → Goes n (e + 1) messages p → Goes (suc n) e messages p
  goes_heard n e messages p g = record { rest = g.rest; sent = g.sent; later = λ f at end. (let l = g.later f at end in omega (arith, l)) }

  goes_none : (k e : ℕ) (xs : List Text) (p : Played Text) → p ≡ ends done xs → Goes k e [] p
  goes_none k e xs p is = record { rest = p.sent; sent = refl; later = λ f at end. ended p (stopped f at) done xs (λ never. absurd (cc)) end is }

  abbrev Begun : List Event → ℕ → List Tree → List Text → (e i : ℕ) → List TranscriptLine → Type 0
  Begun es n F vs e i ls = Walk m d (up_to n es) F vs e i (hears (up_to n es) (map line_bytes (take n ls))) (over (says_in (up_to n es) (map line_bytes (take n ls))))

  goes : (es : List Event) (n k : ℕ) (F : List Tree) (vs : List Text) (e i : ℕ) (ls : List TranscriptLine) (ys : List Text) (p : Played Text) → k ≤ n → Fits (sides es) ls → Begun es n F vs e i ls
      → Walk m d es F vs e i (arrivals_of (take k ls) ++ ys) p → Goes k e (messages_of (take k ls)) p
  goes [] n zero F vs e i ls ys p few fits begun walk = begins [] F vs e i ys p walk
  goes [] n (suc k) F vs e i [] ys p few fits begun walk = goes_none (suc k) e ys p walk
  goes [] n (suc k) F vs e i (l ∷ ls) ys p few fits begun walk = absurd (cc)
  goes (know t ∷ es) n k F vs e i ls ys p few fits begun walk = goes es n k F vs e i ls ys p few fits begun walk
  goes (fresh t ∷ es) n k F vs e i ls ys p few fits begun walk = goes es n k (F ++ t ∷ []) (vs ++ d i ∷ []) e (i + 1) ls ys p few fits begun walk
  goes (send t ∷ es) n zero F vs e i ls ys p few fits begun walk = begins (send t ∷ es) F vs e i ys p walk
  goes (send t ∷ es) zero (suc k) F vs e i ls ys p few fits begun walk = absurd (omega (arith, few))
  goes (send t ∷ es) (suc n) (suc k) F vs e i [] ys p few fits begun walk =
      absurd (let never : [] ≡ begun.0 ∷ begun.1.sent = ap (λ (q : Played Text). q.sent) begun.4 in cc)
  goes (send t ∷ es) (suc n) (suc k) F vs e i (In c ∷ ls) ys p few fits begun walk = absurd (cc)
  goes (send t ∷ es) (suc n) (suc k) F vs e i (Out c ∷ ls) ys p few fits begun walk =
      let bs = map line_bytes (take n ls) in
      let said : c ∷ says_in (up_to n es) bs ≡ begun.0 ∷ begun.1.sent = ap (λ (q : Played Text). q.sent) begun.4 in
      let first : begun.0 ≡ c = cc in
      let next : over (says_in (up_to n es) bs) ≡ begun.1 = ap behind begun.4 in
      let on = subst (λ (q : Played Text). Walk m d (up_to n es) F vs (e + 1) i (hears (up_to n es) bs) q) (sym next) begun.3 in
      let recipe = begun.2.0 in
      let one : value m vs recipe.0 ≡ Some begun.0 = begun.2.1 recipe.0 recipe.1 in
      let other : value m vs recipe.0 ≡ Some walk.0 = walk.2.1 recipe.0 recipe.1 in
      let same : walk.0 ≡ c = cc in
      goes_said k e walk.0 c (messages_of (take k ls)) p walk.1 walk.4 same (goes es n k F vs (e + 1) i ls ys walk.1 (omega (arith, few)) (cc) on walk.3)
  goes (recv t ∷ es) n zero F vs e i ls ys p few fits begun walk = begins (recv t ∷ es) F vs e i ys p walk
  goes (recv t ∷ es) zero (suc k) F vs e i ls ys p few fits begun walk = absurd (omega (arith, few))
  goes (recv t ∷ es) (suc n) (suc k) F vs e i [] ys p few fits begun walk = absurd (over_waits [] (e + 1) [] begun)
  goes (recv t ∷ es) (suc n) (suc k) F vs e i (Out c ∷ ls) ys p few fits begun walk = absurd (cc)
  goes (recv t ∷ es) (suc n) (suc k) F vs e i (In c ∷ ls) ys p few fits (inr b) walk =
      absurd (over_stops (says_in (up_to n es) (map line_bytes (take n ls))) (e + 1) 0 (hears (up_to n es) (map line_bytes (take n ls))) b.1)
  goes (recv t ∷ es) (suc n) (suc k) F vs e i (In c ∷ ls) ys p few fits (inl b) (inr h) = absurd (h.0 b.0)
  goes (recv t ∷ es) (suc n) (suc k) F vs e i (In c ∷ ls) ys p few fits (inl b) (inl h) =
      goes_heard k e (messages_of (take k ls)) p (goes es n k (F ++ t ∷ []) (vs ++ c ∷ []) (e + 1) i ls ys p (omega (arith, few)) (cc) b.1 h.1)

  pub begun_goes : (plan : List Event) (first : KnowsFirst plan) (init : List Text) (n k : ℕ) (ls : List TranscriptLine) (ys : List Text) (p : Played Text) → k ≤ n → Fits (sides plan) ls
      → Play m d (up_to n plan) init (hears (up_to n plan) (map line_bytes (take n ls))) (over (says_in (up_to n plan) (map line_bytes (take n ls))))
      → Play m d plan init (arrivals_of (take k ls) ++ ys) p → Goes k 0 (messages_of (take k ls)) p
  begun_goes plan first init n k ls ys p few fits (inr b) play =
      absurd (over_stops (says_in (up_to n plan) (map line_bytes (take n ls))) 0 0 (hears (up_to n plan) (map line_bytes (take n ls))) b.1)
  begun_goes plan first init n k ls ys p few fits (inl b) (inr h) = absurd (h.0 (subst (λ G. Agree m G init) (cut_known n plan first) b.0))
  begun_goes plan first init n k ls ys p few fits (inl b) (inl h) =
      goes plan n k (known plan) init 0 0 ls ys p few fits (subst (λ G. Begun plan n G init 0 0 ls) (cut_known n plan first) b.1) h.1
