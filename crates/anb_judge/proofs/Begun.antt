-- No draws allow the lines up to one that is refused.
use Rattle.std.proofs.Common.{◌≡◌, ℕ, zero, suc, ◌+◌, ◌≤◌, ◌<◌, List, [], ◌∷◌, ◌++◌, length, map, Bool, true, false, cond, Option, Some, None, refl, sym, ap, ◌∙◌, subst, inl, inr, arith}
use Rattle.std.specs.Prelude.{nat_le, nat_lt}
use Rattle.anb_term.specs.Tree.{Tree}
use Rattle.anb_term.specs.Agree.{Agree}
use Rattle.anb_term.specs.Value.{Meaning}
use Rattle.anb_plays.specs.Plans.{Event, know, fresh, send, recv, known, IsFreshAfter, FreshIsNew}
use Rattle.anb_plays.specs.Plays.{End, stopped, waiting, done, Played, ends, Walk, Play}
use Rattle.anb_plays.specs.Honest.{heard}
use Rattle.anb_protocol.specs.Laws.{KnowsFirst}
use Rattle.anb_transcript.specs.declared.transcript.TranscriptLine.{TranscriptLine}
use Rattle.anb_transcript.specs.declared.transcript.TranscriptLine.TheVariants.{In, Out}
use Rattle.anb_transcript.specs.declared.following.ReplayEnd.{ReplayEnd}
use Rattle.anb_transcript.specs.declared.following.ReplayEnd.TheVariants as replayed
use Rattle.anb_judge.specs.Observed.{observed, over}
use Rattle.anb_judge.specs.Verdicts.{in_place, is_said, refused_at, sides, up_to, verdict}
use Rattle.anb_judge.proofs.Observing.{known_observed, not_stopped}

-- ---- a plan that is cut

cut_new : (n : ℕ) (F : List Tree) (es : List Event) → IsFreshAfter F es → IsFreshAfter F (up_to n es)
cut_new n F [] new = tt
cut_new n F (know t ∷ es) new = cut_new n F es new
cut_new n F (fresh t ∷ es) new = (new.0, cut_new n (F ++ t ∷ []) es new.1)
cut_new zero F (send t ∷ es) new = tt
cut_new zero F (recv t ∷ es) new = tt
cut_new (suc n) F (send t ∷ es) new = cut_new n F es new
cut_new (suc n) F (recv t ∷ es) new = cut_new n (F ++ t ∷ []) es new

cut_unknown : (n : ℕ) (es : List Event) → known es ≡ [] → known (up_to n es) ≡ []
cut_unknown n [] none = refl
cut_unknown n (know t ∷ es) none = cc
cut_unknown n (fresh t ∷ es) none = cut_unknown n es none
cut_unknown zero (send t ∷ es) none = refl
cut_unknown zero (recv t ∷ es) none = refl
cut_unknown (suc n) (send t ∷ es) none = cut_unknown n es none
cut_unknown (suc n) (recv t ∷ es) none = cut_unknown n es none

cut_knows : (n : ℕ) (ts : List Tree) (es : List Event) → known es ≡ [] → known (up_to n (map know ts ++ es)) ≡ known (map know ts ++ es)
cut_knows n [] es none = cut_unknown n es none ∙ sym none
cut_knows n (t ∷ ts) es none = ap (λ l. t ∷ l) (cut_knows n ts es none)

pub cut_known : (n : ℕ) (plan : List Event) → KnowsFirst plan → known (up_to n plan) ≡ known plan
cut_known n plan (ts, rest, is, none) = ap (λ l. known (up_to n l)) is ∙ cut_knows n ts rest none ∙ ap known (sym is)

pub cut_is_new : (n : ℕ) (plan : List Event) → KnowsFirst plan → FreshIsNew plan → FreshIsNew (up_to n plan)
cut_is_new n plan first new = subst (λ F. IsFreshAfter F (up_to n plan)) (sym (cut_known n plan first)) (cut_new n (known plan) plan new)

pub cut_heard : (n : ℕ) (es : List Event) → n ≤ length (sides es) → length (heard (observed (up_to n es))) ≡ n
cut_heard zero [] few = refl
cut_heard (suc n) [] few = absurd (omega (arith, few))
cut_heard n (know t ∷ es) few = cut_heard n es few
cut_heard n (fresh t ∷ es) few = cut_heard n es few
cut_heard zero (send t ∷ es) few = refl
cut_heard zero (recv t ∷ es) few = refl
cut_heard (suc n) (send t ∷ es) few = ap suc (cut_heard n es (omega (arith, few)))
cut_heard (suc n) (recv t ∷ es) few = ap suc (cut_heard n es (omega (arith, few)))

pub placed_within : (ss : List Bool) (lines : List TranscriptLine) → length (in_place ss lines) ≤ length ss
placed_within [] lines = omega arith
placed_within (true ∷ ss) [] = omega arith
placed_within (false ∷ ss) [] = omega arith
placed_within (true ∷ ss) (Out b ∷ lines) = omega (arith, placed_within ss lines)
placed_within (false ∷ ss) (In b ∷ lines) = omega (arith, placed_within ss lines)
placed_within (true ∷ ss) (In b ∷ lines) = omega arith
placed_within (false ∷ ss) (Out b ∷ lines) = omega arith

-- ---- where a play ends

module _ {A : Type 0} where
  ended : {X : Type 0} (p : Played A) (x y : End) (arrivals : List A) → (x ≡ y → X) → p.end ≡ x → p ≡ ends y arrivals → X
  ended p x y arrivals f end is = f (sym end ∙ ap (λ (q : Played A). q.end) is)

same_stop : (e f at : ℕ) → stopped f at ≡ stopped e 0 → f ≡ e
same_stop e f at is = cc

same_wait : (e f : ℕ) → waiting f ≡ waiting e → f ≡ e
same_wait e f is = cc

module _ {A : Type 0} (m : Meaning A) (d : ℕ → A) where
  stops_heard : (t : Tree) (es : List Event) (G : List Tree) (ws : List A) (e j : ℕ) (xs : List A) (p : Played A) (f at : ℕ)
      → ((F : List Tree) (vs : List A) (k : ℕ) (ys : List A) → Walk m d (observed es) F vs k j ys p → k < f) → Walk m d (recv t ∷ observed es) G ws e j xs p → p.end ≡ stopped f at → e < f
  stops_heard t es G ws e j [] p f at later walk end = ended p (stopped f at) (waiting (e + 1)) [] (λ never. absurd (cc)) end walk
  stops_heard t es G ws e j (x ∷ xs) p f at later (inl h) end = omega (arith, later (G ++ t ∷ []) (ws ++ x ∷ []) (e + 1) xs h.1)
  stops_heard t es G ws e j (x ∷ xs) p f at later (inr h) end = ended p (stopped f at) (stopped (e + 1) 0) xs (λ is. omega (arith, same_stop (e + 1) f at is)) end h.1

  stops_later : (es : List Event) (G : List Tree) (ws : List A) (e j : ℕ) (xs : List A) (p : Played A) (f at : ℕ) → p.end ≡ stopped f at → Walk m d (observed es) G ws e j xs p → e < f
  stops_later [] G ws e j xs p f at end walk = ended p (stopped f at) done xs (λ never. absurd (cc)) end walk
  stops_later (know t ∷ es) G ws e j xs p f at end walk = stops_later es G ws e j xs p f at end walk
  stops_later (fresh t ∷ es) G ws e j xs p f at end walk = stops_later es G ws e j xs p f at end walk
  stops_later (send t ∷ es) G ws e j xs p f at end walk = stops_heard t es G ws e j xs p f at (λ F vs k ys w. stops_later es F vs k j ys p f at end w) walk end
  stops_later (recv t ∷ es) G ws e j xs p f at end walk = stops_heard t es G ws e j xs p f at (λ F vs k ys w. stops_later es F vs k j ys p f at end w) walk end

  waits_heard : (t : Tree) (es : List Event) (G : List Tree) (ws : List A) (e j : ℕ) (xs : List A) (p : Played A) (f : ℕ)
      → ((F : List Tree) (vs : List A) (k : ℕ) (ys : List A) → Walk m d (observed es) F vs k j ys p → f ≡ k + length ys + 1)
      → Walk m d (recv t ∷ observed es) G ws e j xs p → p.end ≡ waiting f → f ≡ e + length xs + 1
  waits_heard t es G ws e j [] p f later walk end = ended p (waiting f) (waiting (e + 1)) [] (λ is. omega (arith, same_wait (e + 1) f is)) end walk
  waits_heard t es G ws e j (x ∷ xs) p f later (inl h) end = omega (arith, later (G ++ t ∷ []) (ws ++ x ∷ []) (e + 1) xs h.1)
  waits_heard t es G ws e j (x ∷ xs) p f later (inr h) end = ended p (waiting f) (stopped (e + 1) 0) xs (λ never. absurd (cc)) end h.1

  waits_at : (es : List Event) (G : List Tree) (ws : List A) (e j : ℕ) (xs : List A) (p : Played A) (f : ℕ) → p.end ≡ waiting f → Walk m d (observed es) G ws e j xs p → f ≡ e + length xs + 1
  waits_at [] G ws e j xs p f end walk = ended p (waiting f) done xs (λ never. absurd (cc)) end walk
  waits_at (know t ∷ es) G ws e j xs p f end walk = waits_at es G ws e j xs p f end walk
  waits_at (fresh t ∷ es) G ws e j xs p f end walk = waits_at es G ws e j xs p f end walk
  waits_at (send t ∷ es) G ws e j xs p f end walk = waits_heard t es G ws e j xs p f (λ F vs k ys w. waits_at es F vs k j ys p f end w) walk end
  waits_at (recv t ∷ es) G ws e j xs p f end walk = waits_heard t es G ws e j xs p f (λ F vs k ys w. waits_at es F vs k j ys p f end w) walk end

  -- where the first n go on in the plan that is cut, the whole one isn't stopped at them
  goes_heard : (t : Tree) (es : List Event) (G : List Tree) (ws : List A) (e j n : ℕ) (xs ys : List A) (p : Played A) (f at : ℕ)
      → ((F : List Tree) (vs : List A) (k : ℕ) (zs : List A) → length zs ≡ n → Walk m d (observed (up_to n es)) F vs k j zs (over []) → Walk m d (observed es) F vs k j (zs ++ ys) p → k + n < f)
      → length xs ≡ suc n → Walk m d (recv t ∷ observed (up_to n es)) G ws e j xs (over []) → Walk m d (recv t ∷ observed es) G ws e j (xs ++ ys) p → p.end ≡ stopped f at → e + suc n < f
  goes_heard t es G ws e j n [] ys p f at later long begun walk end = absurd (omega (arith, long))
  goes_heard t es G ws e j n (x ∷ xs) ys p f at later long (inr b) walk end = not_stopped (e + 1) xs [] (over []) refl b.1
  goes_heard t es G ws e j n (x ∷ xs) ys p f at later long (inl b) (inl h) end = omega (arith, later (G ++ t ∷ []) (ws ++ x ∷ []) (e + 1) xs (omega (arith, long)) b.1 h.1)
  goes_heard t es G ws e j n (x ∷ xs) ys p f at later long (inl b) (inr h) end = absurd (h.0 b.0)

  goes_on : (es : List Event) (G : List Tree) (ws : List A) (e j n : ℕ) (xs ys : List A) (p : Played A) (f at : ℕ) → p.end ≡ stopped f at → length xs ≡ n
      → Walk m d (observed (up_to n es)) G ws e j xs (over []) → Walk m d (observed es) G ws e j (xs ++ ys) p → e + n < f
  goes_on [] G ws e j n xs ys p f at end long begun walk = ended p (stopped f at) done (xs ++ ys) (λ never. absurd (cc)) end walk
  goes_on (know t ∷ es) G ws e j n xs ys p f at end long begun walk = goes_on es G ws e j n xs ys p f at end long begun walk
  goes_on (fresh t ∷ es) G ws e j n xs ys p f at end long begun walk = goes_on es G ws e j n xs ys p f at end long begun walk
  goes_on (send t ∷ es) G ws e j zero xs ys p f at end long begun walk = omega (arith, stops_later (send t ∷ es) G ws e j (xs ++ ys) p f at end walk)
  goes_on (recv t ∷ es) G ws e j zero xs ys p f at end long begun walk = omega (arith, stops_later (recv t ∷ es) G ws e j (xs ++ ys) p f at end walk)
  goes_on (send t ∷ es) G ws e j (suc n) xs ys p f at end long begun walk =
      goes_heard t es G ws e j n xs ys p f at (λ F vs k zs l b w. goes_on es F vs k j n zs ys p f at end l b w) long begun walk end
  goes_on (recv t ∷ es) G ws e j (suc n) xs ys p f at end long begun walk =
      goes_heard t es G ws e j n xs ys p f at (λ F vs k zs l b w. goes_on es F vs k j n zs ys p f at end l b w) long begun walk end

  module _ (plan : List Event) (first : KnowsFirst plan) (init : List A) where
    same_known : (n : ℕ) → known (observed (up_to n plan)) ≡ known (observed plan)
    same_known n = known_observed (up_to n plan) ∙ cut_known n plan first ∙ sym (known_observed plan)

    pub not_within : (n : ℕ) (xs ys : List A) (p : Played A) (at : ℕ) → length xs ≡ n → Play m d (observed (up_to n plan)) init xs (over []) → Play m d (observed plan) init (xs ++ ys) p → p.end ≡ stopped n at → ⊥
    not_within n xs ys p at long (inr b) play end = not_stopped 0 xs [] (over []) refl b.1
    not_within n xs ys p at long (inl b) (inr h) end = h.0 (subst (λ G. Agree m G init) (same_known n) b.0)
    not_within n xs ys p at long (inl b) (inl h) end =
        let begun = subst (λ G. Walk m d (observed (up_to n plan)) G init 0 0 xs (over [])) (same_known n) b.1 in
        let late = goes_on plan (known (observed plan)) init 0 0 n xs ys p n at end long begun h.1 in omega (arith, late)

    pub waits_behind : (xs : List A) (p : Played A) (f : ℕ) → Play m d (observed plan) init xs p → p.end ≡ waiting f → f ≡ length xs + 1
    waits_behind xs p f (inl h) end = omega (arith, waits_at plan (known (observed plan)) init 0 0 xs p f end h.1)
    waits_behind xs p f (inr h) end = ended p (waiting f) (stopped 0 0) xs (λ never. absurd (cc)) end h.1

-- ---- the line that is refused

abbrev pub IsAt : List Bool → ℕ → End → Type 0
IsAt ss n (stopped e at) = n ≡ e
IsAt ss n (waiting e) = n ≡ e
IsAt ss n done = n ≡ length ss + 1

same_at : (n k : ℕ) → ◌≡◌ {A = Option ℕ} (Some k) (Some n) → n ≡ k
same_at n k is = cc

not_at : {X : Type 0} (n : ℕ) → ◌≡◌ {A = Option ℕ} None (Some n) → X
not_at n never = absurd (cc)

by_test : {X : Type 0} (b : Bool) (x y : ReplayEnd) (o : Option ℕ) → (refused_at x ≡ o → X) → (refused_at y ≡ o → X) → refused_at (cond b x y) ≡ o → X
by_test true x y o f g is = f is
by_test false x y o f g is = g is

pub refused_end : (ss : List Bool) (lines : ℕ) (x : End) (n : ℕ) → refused_at (verdict ss lines x) ≡ Some n → IsAt ss n x
refused_end ss lines (stopped e at) n is = by_test (is_said ss e) _ _ (Some n) (same_at n e) (same_at n e) is
refused_end ss lines (waiting e) n is = by_test (nat_le e lines) _ _ (Some n) (same_at n e) (not_at n) is
refused_end ss lines done n is = by_test (nat_lt (length ss) lines) _ _ (Some n) (same_at n (length ss + 1)) (not_at n) is
