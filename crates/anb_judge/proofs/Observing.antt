-- Who sees a role goes on over its conversation.
use Rattle.std.proofs.Common.{◌≡◌, ℕ, ◌+◌, List, [], ◌∷◌, ◌++◌, length, IsTrue, Some, refl, sym, ap, ◌∙◌, subst, inl, inr, arith, length-append}
use Rattle.std.proofs.lemmas.List.Elements.{All-from_recursion, recursion_from_All}
use Rattle.anb_lemmas.proofs.Each.{each_in_both}
use Rattle.anb_term.specs.Tree.{Tree}
use Rattle.anb_term.specs.Value.{Meaning, label}
use Rattle.anb_term.specs.Lawful.{AreValues}
use Rattle.anb_term.specs.Agree.{Agree}
use Rattle.anb_term.specs.Statements.{NewAtomAgrees}
use Rattle.anb_term.proofs.Values.{Valued}
use Rattle.anb_term.proofs.Frames.{one_more}
use Rattle.anb_plays.specs.Plans.{Event, know, fresh, send, recv, known, IsFreshAfter}
use Rattle.anb_plays.specs.Plays.{Played, says, done, stopped, ends, Walk, Play}
use Rattle.anb_plays.specs.Honest.{heard}
use Rattle.anb_plays.proofs.Growing.{still_agrees}
use Rattle.anb_judge.specs.Observed.{observed, hears, says_in, over, IsConversation, IsObserved}
use Rattle.anb_judge.specs.Laws.{ConversationsAreObserved}
use Rattle.anb_judge.proofs.Seeing.{Seen, agree_seen, seen_more, seen_and, seen_itself}

-- what a message is, and the rest, where a play that says it first is over
pub said_first : {A : Type 0} (b x : A) (q : Played A) (xs : List A) → says b q ≡ over (x ∷ xs) → (b ≡ x) × (q ≡ over xs)
said_first b x q xs e =
    let s : b ∷ q.sent ≡ x ∷ xs = ap (λ (p : Played _). p.sent) e in
    let n : q.end ≡ done = ap (λ (p : Played _). p.end) e in
    let l : q.left ≡ [] = ap (λ (p : Played _). p.left) e in
    let b1 : b ≡ x = cc in
    let s1 : q.sent ≡ xs = cc in
    (b1, is q xs s1 n l) where
      is : {A : Type 0} (q : Played A) (xs : List A) → q.sent ≡ xs → q.end ≡ done → q.left ≡ [] → q ≡ over xs
      is q xs s n l = ap (λ ys. record { sent = ys; end = q.end; left = q.left }) s ∙ ap (λ y. record { sent = xs; end = y; left = q.left }) n ∙ ap (λ ys. record { sent = xs; end = done; left = ys }) l

pub not_stopped : {A : Type 0} {X : Type 0} (e : ℕ) (arrivals xs : List A) (p : Played A) → p ≡ over xs → p ≡ ends (stopped e 0) arrivals → X
not_stopped e arrivals xs p h k =
    let s : done ≡ stopped e 0 = sym (ap (λ (q : Played _). q.end) h) ∙ ap (λ (q : Played _). q.end) k in cc

module _ {A : Type 0} (m : Meaning A) (new_atom : NewAtomAgrees m) (draw : ℕ → A) (drawn : (i : ℕ) → IsTrue (m.is_value (draw i))) (other : ℕ → A) where
  valued_more : (vs : List A) (x : A) → Valued m vs → IsTrue (m.is_value x) → Valued m (vs ++ x ∷ [])
  valued_more vs x are vx = each_in_both (λ y. IsTrue (m.is_value y)) vs (x ∷ []) are (vx, tt)

  at_end : (F : List Tree) (vs : List A) (t : Tree) (x : A) → length vs ≡ length F → Seen m (F ++ t ∷ []) (vs ++ x ∷ []) (t ∷ []) (x ∷ [])
  at_end F vs t x long = seen_itself m F vs (t ∷ []) (x ∷ []) long refl

  seen_from : (es : List Event) (F : List Tree) (vs : List A) (G : List Tree) (ws : List A) (e i j : ℕ) (lines : List A) (p : Played A)
      → Walk m draw es F vs e i (hears es lines) p → p ≡ over (says_in es lines) → IsFreshAfter F es → Valued m vs → Valued m lines → length lines ≡ length (heard (observed es))
      → Agree m F vs → Seen m F vs G ws → Walk m other (observed es) G ws e j lines (over [])
  seen_from [] F vs G ws e i j [] p walk is new vv vl long agree seen = refl
  seen_from [] F vs G ws e i j (x ∷ lines) p walk is new vv vl long agree seen = absurd (omega (arith, long))
  seen_from (know t ∷ es) F vs G ws e i j lines p walk is new vv vl long agree seen = seen_from es F vs G ws e i j lines p walk is new vv vl long agree seen
  seen_from (fresh t ∷ es) F vs G ws e i j lines p walk is new vv vl long agree seen =
      seen_from es (F ++ t ∷ []) (vs ++ draw i ∷ []) G ws e (i + 1) j lines p walk is new.1 (valued_more vs (draw i) vv (drawn i)) vl long
      (still_agrees m new_atom F vs t (draw i) new.0.0 new.0.1 new.0.2 (All-from_recursion (λ y. IsTrue (m.is_value y)) vs vv) (drawn i) agree)
      (seen_more m F (t ∷ []) vs (draw i ∷ []) G ws seen)
  seen_from (send t ∷ es) F vs G ws e i j [] p walk is new vv vl long agree seen = absurd (omega (arith, long))
  seen_from (send t ∷ es) F vs G ws e i j (x ∷ lines) p walk is new vv vl long agree seen =
      let b = walk.0 in
      let q = walk.1 in
      let given = walk.2 in
      let s = said_first b x q (says_in es lines) (sym walk.4 ∙ is) in
      let now = seen_and m F vs G ws t x given.0.0 given.0.1 (given.1 given.0.0 given.0.1 ∙ ap Some s.0) seen in
      inl (
        agree_seen m F vs (G ++ t ∷ []) (ws ++ x ∷ []) now agree,
        seen_from es F vs (G ++ t ∷ []) (ws ++ x ∷ []) (e + 1) i j lines q walk.3 s.1 new vv vl.1 (omega (arith, long)) agree now,
      )
  seen_from (recv t ∷ es) F vs G ws e i j [] p walk is new vv vl long agree seen = absurd (omega (arith, long))
  seen_from (recv t ∷ es) F vs G ws e i j (x ∷ lines) p (inr h) is new vv vl long agree seen = not_stopped (e + 1) (hears es lines) (says_in es lines) p is h.1
  seen_from (recv t ∷ es) F vs G ws e i j (x ∷ lines) p (inl h) is new vv vl long agree seen =
      let last = at_end F vs t x agree.long in
      let now = seen_and m (F ++ t ∷ []) (vs ++ x ∷ []) G ws t x last.0 last.1 last.2 (seen_more m F (t ∷ []) vs (x ∷ []) G ws seen) in
      inl (
        agree_seen m (F ++ t ∷ []) (vs ++ x ∷ []) (G ++ t ∷ []) (ws ++ x ∷ []) now h.0,
        seen_from es (F ++ t ∷ []) (vs ++ x ∷ []) (G ++ t ∷ []) (ws ++ x ∷ []) (e + 1) i j lines p h.1 is new (valued_more vs x vv vl.0) vl.1 (omega (arith, long)) h.0 now,
      )

pub known_observed : (es : List Event) → known (observed es) ≡ known es
known_observed [] = refl
known_observed (know t ∷ es) = ap (λ l. t ∷ l) (known_observed es)
known_observed (fresh t ∷ es) = known_observed es
known_observed (send t ∷ es) = known_observed es
known_observed (recv t ∷ es) = known_observed es

pub conversations_are_observed : {A : Type 0} (m : Meaning A) → NewAtomAgrees m → ConversationsAreObserved m
conversations_are_observed {A} m new_atom plan init lines new vi vl long c other = by c.play where
  valued : (xs : List A) → AreValues m xs → Valued m xs
  valued xs are = recursion_from_All (λ y. IsTrue (m.is_value y)) xs are

  by : Play m c.draw plan init (hears plan lines) (over (says_in plan lines)) → Play m other (observed plan) init lines (over [])
  by (inr h) = not_stopped 0 (hears plan lines) (says_in plan lines) (over (says_in plan lines)) refl h.1
  by (inl h) =
      let G = known (observed plan) in
      let same : known plan ≡ G = sym (known_observed plan) in
      let agree : Agree m G init = subst (λ l. Agree m l init) same h.0 in
      let itself = seen_itself m [] [] (known plan) init refl h.0.long in
      let walk = seen_from m new_atom c.draw c.drawn other plan (known plan) init (known plan) init 0 0 0 lines (over (says_in plan lines)) h.1 refl new (valued init vi) (valued lines vl) long h.0 itself in
      inl (agree, subst (λ l. Walk m other (observed plan) l init 0 0 lines (over [])) same walk)
