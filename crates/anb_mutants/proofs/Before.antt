-- What a code sends, it sends first where it lacks checks.
use Rattle.std.proofs.Common.{◌≡◌, ℕ, ◌+◌, List, [], ◌∷◌, ◌++◌, Bool, true, false, cond, Option, Some, None, refl, sym, ap, subst, append-nil}
use Rattle.anb_term.specs.Value.{Meaning, RecipeTree, value}
use Rattle.anb_term.specs.Demand.{all_hold}
use Rattle.anb_plays.specs.Codes.{Act, takes, draws, receives, sends, works, make, undo, equal, at_register, writes, demands}
use Rattle.anb_plays.specs.Plays.{Played, stopped, ends}
use Rattle.anb_plays.specs.Runs.{says_if, run_from}
use Rattle.anb_probe.specs.Cases.{without}

-- it sends these first
abbrev pub Begins : {A : Type 0} → Played A → List A → Type 0
Begins {A} p sent = (more : List A) × (p.sent ≡ sent ++ more)

module _ {A : Type 0} where
  said_more : (o : Option A) (p q : Played A) → Begins p q.sent → Begins (says_if o p) (says_if o q).sent
  said_more None p q h = h
  said_more (Some x) p q h = (h.0, ap (λ l. x ∷ l) h.1)

  -- where both go on or stop
  both_demand : (b : Bool) (p q : Played A) (e at at' : ℕ) (left : List A) → Begins p q.sent → Begins (cond b p (ends (stopped e at) left)) (cond b q (ends (stopped e at') left)).sent
  both_demand true p q e at at' left h = h
  both_demand false p q e at at' left h = ([], refl)

  -- where one may stop
  one_demand : (b : Bool) (p q : Played A) (e at : ℕ) (left : List A) → Begins p q.sent → Begins p (cond b q (ends (stopped e at) left)).sent
  one_demand true p q e at left h = h
  one_demand false p q e at left h = (p.sent, refl)

module _ {A : Type 0} (m : Meaning A) (draw : ℕ → A) (drops : ℕ → Bool) where
  at_equal : (b : Bool) (x y : ℕ) (P acts : List Act) (regs : List RecipeTree) (vs : List A) (e at at' i : ℕ) (arrivals : List A)
      → ((at : ℕ) → Begins (run_from m draw P regs vs e at i arrivals) (run_from m draw acts regs vs e (at' + 1) i arrivals).sent)
      → Begins (run_from m draw (cond b [] (works (equal x y) ∷ []) ++ P) regs vs e at i arrivals) (run_from m draw (works (equal x y) ∷ acts) regs vs e at' i arrivals).sent
  at_equal true x y P acts regs vs e at at' i arrivals ih =
      let holds = all_hold m vs (demands regs (equal x y)) in
      let on = subst (λ l. Begins (run_from m draw P regs vs e at i arrivals) (run_from m draw acts l vs e (at' + 1) i arrivals).sent) (sym (append-nil regs)) (ih at) in
      one_demand holds (run_from m draw P regs vs e at i arrivals) (run_from m draw acts (regs ++ []) vs e (at' + 1) i arrivals) e (at' + 1) arrivals on
  at_equal false x y P acts regs vs e at at' i arrivals ih =
      let holds = all_hold m vs (demands regs (equal x y)) in
      let on = subst (λ l. Begins (run_from m draw P l vs e (at + 1) i arrivals) (run_from m draw acts l vs e (at' + 1) i arrivals).sent) (sym (append-nil regs)) (ih (at + 1)) in
      both_demand holds (run_from m draw P (regs ++ []) vs e (at + 1) i arrivals) (run_from m draw acts (regs ++ []) vs e (at' + 1) i arrivals) e (at + 1) (at' + 1) arrivals on

  pub less_begins : (acts : List Act) (k : ℕ) (regs : List RecipeTree) (vs : List A) (e at at' i : ℕ) (arrivals : List A) → Begins (run_from m draw (without drops k acts) regs vs e at i arrivals) (run_from m draw acts regs vs e at' i arrivals).sent
  less_begins [] k regs vs e at at' i arrivals = ([], refl)
  less_begins (takes ∷ acts) k regs vs e at at' i arrivals = less_begins acts (k + 1) _ vs e (at + 1) (at' + 1) i arrivals
  less_begins (draws ∷ acts) k regs vs e at at' i arrivals = less_begins acts (k + 1) _ _ e (at + 1) (at' + 1) (i + 1) arrivals
  less_begins (receives ∷ acts) k regs vs e at at' i [] = ([], refl)
  less_begins (receives ∷ acts) k regs vs e at at' i (x ∷ arrivals) = less_begins acts (k + 1) _ _ (e + 1) (at + 1) (at' + 1) i arrivals
  less_begins (sends r ∷ acts) k regs vs e at at' i arrivals =
      said_more (value m vs (at_register regs r)) (run_from m draw (without drops (k + 1) acts) regs vs (e + 1) (at + 1) i arrivals) (run_from m draw acts regs vs (e + 1) (at' + 1) i arrivals) (less_begins acts (k + 1) regs vs (e + 1) (at + 1) (at' + 1) i arrivals)
  less_begins (works (make o ns) ∷ acts) k regs vs e at at' i arrivals =
      both_demand (all_hold m vs (demands regs (make o ns))) (run_from m draw (without drops (k + 1) acts) (regs ++ writes regs (make o ns)) vs e (at + 1) i arrivals) (run_from m draw acts (regs ++ writes regs (make o ns)) vs e (at' + 1) i arrivals) e (at + 1) (at' + 1) arrivals
      (less_begins acts (k + 1) (regs ++ writes regs (make o ns)) vs e (at + 1) (at' + 1) i arrivals)
  less_begins (works (undo o ks n) ∷ acts) k regs vs e at at' i arrivals =
      both_demand (all_hold m vs (demands regs (undo o ks n))) (run_from m draw (without drops (k + 1) acts) (regs ++ writes regs (undo o ks n)) vs e (at + 1) i arrivals) (run_from m draw acts (regs ++ writes regs (undo o ks n)) vs e (at' + 1) i arrivals) e (at + 1) (at' + 1) arrivals
      (less_begins acts (k + 1) (regs ++ writes regs (undo o ks n)) vs e (at + 1) (at' + 1) i arrivals)
  less_begins (works (equal x y) ∷ acts) k regs vs e at at' i arrivals = at_equal (drops (k + 1)) x y (without drops (k + 1) acts) acts regs vs e at at' i arrivals (λ at. less_begins acts (k + 1) regs vs e at (at' + 1) i arrivals)
