-- Runs of a code and of the same code without some checks.
use Rattle.std.proofs.Common.{◌≡◌, ℕ, ◌+◌, ◌<◌, ◌≤◌, List, [], ◌∷◌, ◌++◌, Bool, true, false, cond, Option, Some, None, refl, sym, ap, ◌∙◌, subst, arith}
use Rattle.std.specs.Prelude.{◌==◌, ◌&&◌}
use Rattle.std.proofs.lemmas.Bool.{eqb-true}
use Rattle.std.proofs.lemmas.List.{append-nil}
use Rattle.anb_term.specs.Value.{Meaning, RecipeTree, label, value}
use Rattle.anb_term.specs.Demand.{alike, all_hold}
use Rattle.anb_plays.specs.Plays.{Played, stopped, waiting, done, ends}
use Rattle.anb_plays.specs.Codes.{Act, takes, draws, receives, sends, works, make, undo, equal, at_register, writes, demands}
use Rattle.anb_plays.specs.Runs.{says_if, run_from}
use Rattle.anb_probe.specs.Cases.{IsOver, without, Sides, both_sides, sides, compared_from}

module _ {A : Type 0} where
  pub says_over : (o : Option A) (p : Played A) → IsOver p → IsOver (says_if o p)
  says_over None p h = h
  says_over (Some b) p h = record { end = h.end; used = h.used }

  pub over_said : (o : Option A) (p : Played A) → IsOver (says_if o p) → IsOver p
  over_said None p h = h
  over_said (Some b) p h = record { end = h.end; used = h.used }

  -- a run that says something more ends as it did
  pub end_said : (o : Option A) (p : Played A) → (says_if o p).end ≡ p.end
  end_said None p = refl
  end_said (Some b) p = refl

  -- a run that waits is not over
  pub not_waiting : {X : Type 0} (e : ℕ) (left : List A) → IsOver (ends (waiting e) left) → X
  not_waiting e left h = let w : waiting e ≡ done = h.end in cc

  pub over_went : (b : Bool) (p : Played A) (e at : ℕ) (left : List A) → IsOver (cond b p (ends (stopped e at) left)) → (b ≡ true) × IsOver p
  over_went true p e at left h = (refl, h)
  over_went false p e at left h = let w : stopped e at ≡ done = h.end in absurd (cc)

  pub goes : (b : Bool) (p : Played A) (e at : ℕ) (left : List A) → b ≡ true → IsOver p → IsOver (cond b p (ends (stopped e at) left))
  goes true p e at left h over = over
  goes false p e at left h over = absurd (cc)

pub without_none : (k : ℕ) (acts : List Act) → without (λ n. false) k acts ≡ acts
without_none k [] = refl
without_none k (takes ∷ acts) = ap (λ l. takes ∷ l) (without_none (k + 1) acts)
without_none k (draws ∷ acts) = ap (λ l. draws ∷ l) (without_none (k + 1) acts)
without_none k (receives ∷ acts) = ap (λ l. receives ∷ l) (without_none (k + 1) acts)
without_none k (sends r ∷ acts) = ap (λ l. sends r ∷ l) (without_none (k + 1) acts)
without_none k (works (make o ns) ∷ acts) = ap (λ l. works (make o ns) ∷ l) (without_none (k + 1) acts)
without_none k (works (undo o ks n) ∷ acts) = ap (λ l. works (undo o ks n) ∷ l) (without_none (k + 1) acts)
without_none k (works (equal a b) ∷ acts) = ap (λ l. works (equal a b) ∷ l) (without_none (k + 1) acts)

module _ {A : Type 0} (m : Meaning A) (draw : ℕ → A) where
  -- where a run is over, it is without more checks
  module _ (p q : ℕ → Bool) where
    more_equal : (b c : Bool) → (b ≡ true → c ≡ true) → (x y : ℕ) (P Q : List Act) (regs : List RecipeTree) (vs : List A) (e at at' i : ℕ) (arrivals : List A)
        → ((at at' : ℕ) → IsOver (run_from m draw P regs vs e at i arrivals) → IsOver (run_from m draw Q regs vs e at' i arrivals))
        → IsOver (run_from m draw (cond b [] (works (equal x y) ∷ []) ++ P) regs vs e at i arrivals) → IsOver (run_from m draw (cond c [] (works (equal x y) ∷ []) ++ Q) regs vs e at' i arrivals)
    more_equal true true f x y P Q regs vs e at at' i arrivals ih h = ih at at' h
    more_equal true false f x y P Q regs vs e at at' i arrivals ih h = absurd (let w = f refl in cc)
    more_equal false true f x y P Q regs vs e at at' i arrivals ih h =
        let g = over_went (all_hold m vs (demands regs (equal x y))) (run_from m draw P (regs ++ []) vs e (at + 1) i arrivals) e (at + 1) arrivals h in
        ih (at + 1) at' (subst (λ l. IsOver (run_from m draw P l vs e (at + 1) i arrivals)) (append-nil regs) g.1)
    more_equal false false f x y P Q regs vs e at at' i arrivals ih h =
        let g = over_went (all_hold m vs (demands regs (equal x y))) (run_from m draw P (regs ++ []) vs e (at + 1) i arrivals) e (at + 1) arrivals h in
        let r = ih (at + 1) (at' + 1) (subst (λ l. IsOver (run_from m draw P l vs e (at + 1) i arrivals)) (append-nil regs) g.1) in
        goes (all_hold m vs (demands regs (equal x y))) (run_from m draw Q (regs ++ []) vs e (at' + 1) i arrivals) e (at' + 1) arrivals g.0
        (subst (λ l. IsOver (run_from m draw Q l vs e (at' + 1) i arrivals)) (sym (append-nil regs)) r)

    pub over_more : (acts : List Act) (k : ℕ) → ((n : ℕ) → k < n → p n ≡ true → q n ≡ true) → (regs : List RecipeTree) (vs : List A) (e at at' i : ℕ) (arrivals : List A)
        → IsOver (run_from m draw (without p k acts) regs vs e at i arrivals) → IsOver (run_from m draw (without q k acts) regs vs e at' i arrivals)
    over_more [] k f regs vs e at at' i arrivals h = h
    over_more (takes ∷ acts) k f regs vs e at at' i arrivals h = over_more acts (k + 1) (λ n l. f n (omega arith)) (regs ++ label _ ∷ []) vs e (at + 1) (at' + 1) i arrivals h
    over_more (draws ∷ acts) k f regs vs e at at' i arrivals h = over_more acts (k + 1) (λ n l. f n (omega arith)) (regs ++ label _ ∷ []) (vs ++ draw i ∷ []) e (at + 1) (at' + 1) (i + 1) arrivals h
    over_more (receives ∷ acts) k f regs vs e at at' i [] h = not_waiting (e + 1) [] h
    over_more (receives ∷ acts) k f regs vs e at at' i (x ∷ arrivals) h = over_more acts (k + 1) (λ n l. f n (omega arith)) (regs ++ label _ ∷ []) (vs ++ x ∷ []) (e + 1) (at + 1) (at' + 1) i arrivals h
    over_more (sends r ∷ acts) k f regs vs e at at' i arrivals h =
        says_over (value m vs (at_register regs r)) _ (over_more acts (k + 1) (λ n l. f n (omega arith)) regs vs (e + 1) (at + 1) (at' + 1) i arrivals (over_said (value m vs (at_register regs r)) _ h))
    over_more (works (make o ns) ∷ acts) k f regs vs e at at' i arrivals h =
        over_more acts (k + 1) (λ n l. f n (omega arith)) (regs ++ writes regs (make o ns)) vs e (at + 1) (at' + 1) i arrivals h
    over_more (works (undo o ks r) ∷ acts) k f regs vs e at at' i arrivals h =
        let g = over_went (all_hold m vs (demands regs (undo o ks r))) _ e (at + 1) arrivals h in
        goes (all_hold m vs (demands regs (undo o ks r))) _ e (at' + 1) arrivals g.0
        (over_more acts (k + 1) (λ n l. f n (omega arith)) (regs ++ writes regs (undo o ks r)) vs e (at + 1) (at' + 1) i arrivals g.1)
    over_more (works (equal x y) ∷ acts) k f regs vs e at at' i arrivals h =
        more_equal (p (k + 1)) (q (k + 1)) (f (k + 1) (omega arith)) x y (without p (k + 1) acts) (without q (k + 1) acts) regs vs e at at' i arrivals
        (λ at at'. over_more acts (k + 1) (λ n l. f n (omega arith)) regs vs e at at' i arrivals) h

  -- ---- a check that was left out, at its place
  module _ (check : ℕ) where
    abbrev drops : ℕ → Bool
    drops n = n == check

    -- behind it nothing was left out
    behind : (acts : List Act) (k : ℕ) → check ≤ k → (regs : List RecipeTree) (vs : List A) (e at at' i : ℕ) (arrivals : List A)
        → IsOver (run_from m draw (without drops k acts) regs vs e at i arrivals) → IsOver (run_from m draw acts regs vs e at' i arrivals)
    behind acts k l regs vs e at at' i arrivals h =
        subst (λ (c : List Act). IsOver (run_from m draw c regs vs e at' i arrivals)) (without_none k acts)
        (over_more drops (λ n. false) acts k (λ n g t. absurd (let s : n ≡ check = eqb-true n check t in omega arith)) regs vs e at at' i arrivals h)

    pub record Told (s : Sides A) (p : Played A) : Type 0 where
      pub same : m.same s.one s.other ≡ true → IsOver p
      pub differ : m.same s.one s.other ≡ false → (event : ℕ) × (p.end ≡ stopped event check)

    told_said : (s : Sides A) (o : Option A) (p : Played A) → Told s p → Told s (says_if o p)
    told_said s o p t = record {
      same = λ h. says_over o p (t.same h);
      differ = λ h. (let d = t.differ h in (d.0, end_said o p ∙ d.1));
    }

    both_are : (x y : Option A) (s : Sides A) → both_sides x y ≡ Some s → alike m x y ≡ m.same s.one s.other
    both_are None y s e = cc
    both_are (Some x) None s e = cc
    both_are (Some x) (Some y) s e =
        let r : record { one = x; other = y } ≡ s = cc in
        ap (λ (z : Sides A). m.same z.one z.other) r

    one_demand : (b : Bool) → (b && true) ≡ b
    one_demand true = refl
    one_demand false = refl

    here : (b : Bool) (s : Sides A) (p : Played A) (e at : ℕ) (left : List A) → b ≡ m.same s.one s.other → at ≡ check → IsOver p → Told s (cond (b && true) p (ends (stopped e at) left))
    here true s p e at left is n over = record { same = λ h. over; differ = λ h. absurd (let w = is ∙ h in cc) }
    here false s p e at left is n over = record { same = λ h. absurd (let w = is ∙ h in cc); differ = λ h. (e, ap (stopped e) n) }

    on_hold : (b : Bool) (s : Sides A) (p : Played A) (o : Option (Sides A)) (e at : ℕ) (left : List A) → (o ≡ Some s → Told s p) → cond b o None ≡ Some s → Told s (cond b p (ends (stopped e at) left))
    on_hold true s p o e at left f h = f h
    on_hold false s p o e at left f h = cc

    past : (b : Bool) (o p : Option (Sides A)) (s : Sides A) (T : Type 0) → (b ≡ true → o ≡ Some s → T) → (b ≡ false → p ≡ Some s → T) → cond b o p ≡ Some s → T
    past true o p s T f g e = f refl e
    past false o p s T f g e = g refl e

    at_equal : (b : Bool) (x y : ℕ) (acts : List Act) (k : ℕ) (regs : List RecipeTree) (vs : List A) (e at i : ℕ) (arrivals : List A) (s : Sides A) → (k + 1 == check) ≡ b
        → (IsOver (run_from m draw (without drops (k + 1) acts) (regs ++ []) vs e (at + 1) i arrivals) → compared_from m draw check acts (regs ++ []) vs (k + 1) i arrivals ≡ Some s → Told s (run_from m draw acts (regs ++ []) vs e (k + 1) i arrivals))
        → IsOver (run_from m draw (cond b [] (works (equal x y) ∷ []) ++ without drops (k + 1) acts) regs vs e at i arrivals)
        → cond b (sides m vs regs (equal x y)) (cond (all_hold m vs (demands regs (equal x y))) (compared_from m draw check acts (regs ++ []) vs (k + 1) i arrivals) None) ≡ Some s
        → Told s (cond (all_hold m vs (demands regs (equal x y))) (run_from m draw acts (regs ++ []) vs e (k + 1) i arrivals) (ends (stopped e (k + 1)) arrivals))
    at_equal true x y acts k regs vs e at i arrivals s n ih h c =
        let is : k + 1 ≡ check = eqb-true (k + 1) check n in
        let over = behind acts (k + 1) (omega (arith, is)) regs vs e at (k + 1) i arrivals h in
        let one = value m vs (at_register regs x) in
        let other = value m vs (at_register regs y) in
        here (alike m one other) s (run_from m draw acts (regs ++ []) vs e (k + 1) i arrivals) e (k + 1) arrivals (both_are one other s c) is
        (subst (λ l. IsOver (run_from m draw acts l vs e (k + 1) i arrivals)) (sym (append-nil regs)) over)
    at_equal false x y acts k regs vs e at i arrivals s n ih h c =
        let holds = all_hold m vs (demands regs (equal x y)) in
        let g = over_went holds (run_from m draw (without drops (k + 1) acts) (regs ++ []) vs e (at + 1) i arrivals) e (at + 1) arrivals h in
        on_hold holds s (run_from m draw acts (regs ++ []) vs e (k + 1) i arrivals) (compared_from m draw check acts (regs ++ []) vs (k + 1) i arrivals) e (k + 1) arrivals (ih g.1) c

    pub at_check : (acts : List Act) (k : ℕ) (regs : List RecipeTree) (vs : List A) (e at i : ℕ) (arrivals : List A) (s : Sides A)
        → IsOver (run_from m draw (without drops k acts) regs vs e at i arrivals) → compared_from m draw check acts regs vs k i arrivals ≡ Some s
        → Told s (run_from m draw acts regs vs e k i arrivals)
    at_check [] k regs vs e at i arrivals s h c = cc
    at_check (takes ∷ acts) k regs vs e at i arrivals s h c = at_check acts (k + 1) (regs ++ label _ ∷ []) vs e (at + 1) i arrivals s h c
    at_check (draws ∷ acts) k regs vs e at i arrivals s h c = at_check acts (k + 1) (regs ++ label _ ∷ []) (vs ++ draw i ∷ []) e (at + 1) (i + 1) arrivals s h c
    at_check (receives ∷ acts) k regs vs e at i [] s h c = cc
    at_check (receives ∷ acts) k regs vs e at i (x ∷ arrivals) s h c = at_check acts (k + 1) (regs ++ label _ ∷ []) (vs ++ x ∷ []) (e + 1) (at + 1) i arrivals s h c
    at_check (sends r ∷ acts) k regs vs e at i arrivals s h c =
        let o = value m vs (at_register regs r) in
        told_said s o _ (at_check acts (k + 1) regs vs (e + 1) (at + 1) i arrivals s (over_said o _ h) c)
    at_check (works (make o ns) ∷ acts) k regs vs e at i arrivals s h c =
        past (k + 1 == check) None _ s _ (λ b n. cc) (λ b n. at_check acts (k + 1) (regs ++ writes regs (make o ns)) vs e (at + 1) i arrivals s h n) c
    at_check (works (undo o ks r) ∷ acts) k regs vs e at i arrivals s h c =
        let holds = all_hold m vs (demands regs (undo o ks r)) in
        let more = regs ++ writes regs (undo o ks r) in
        let g = over_went holds _ e (at + 1) arrivals h in
        past (k + 1 == check) None _ s _ (λ b n. cc)
        (λ b n. on_hold holds s _ (compared_from m draw check acts more vs (k + 1) i arrivals) e (k + 1) arrivals (λ x. at_check acts (k + 1) more vs e (at + 1) i arrivals s g.1 x) n) c
    at_check (works (equal x y) ∷ acts) k regs vs e at i arrivals s h c =
        at_equal (k + 1 == check) x y acts k regs vs e at i arrivals s refl
        (λ over found. at_check acts (k + 1) (regs ++ []) vs e (at + 1) i arrivals s over found) h c
