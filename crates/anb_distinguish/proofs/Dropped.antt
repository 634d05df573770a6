-- A code less a check: its equations are the code's but for one.
use Rattle.std.proofs.Common.{◌≡◌, ℕ, suc, ◌+◌, List, [], ◌∷◌, ◌++◌, Bool, true, false, cond, Some, refl, sym, ap, ◌∙◌, subst, arith}
use Rattle.std.specs.Prelude.{slice_get, ◌==◌}
use Rattle.std.specs.List.{AllByRecursion}
use Rattle.std.proofs.lemmas.Bool.{eqb-true}
use Rattle.anb_term.specs.declared.term.Op.{Op}
use Rattle.anb_term.specs.Tree.{Tree}
use Rattle.anb_plays.specs.Codes.{Act, takes, draws, receives, sends, works, make, undo, equal}
use Rattle.anb_plays.specs.Exec.{count_written, IsReady, IsVerified, NoTakes, HasTakes}
use Rattle.anb_unify.specs.Equations.{Solves}
use Rattle.anb_probe.specs.Cases.{without}
use Rattle.anb_distinguish.specs.Equations.{equations_from, received_from, CanUndoAll}

no_more : (n : ℕ) → n + 0 ≡ n
no_more n = omega arith

module _ (check : ℕ) where
  abbrev pub drops : ℕ → Bool
  drops n = n == check

  module _ (names : ℕ) (put : ℕ → Tree) (draw : ℕ → Tree) (a b : ℕ) (same : put (names + a) ≡ put (names + b)) where
    -- the check compares these two
    IsHere : ℕ → List Act → Type 0
    IsHere k acts = (j : ℕ) → k + suc j ≡ check → slice_get acts j ≡ Some (works (equal a b))

    next : (k : ℕ) (act : Act) (acts : List Act) → IsHere k (act ∷ acts) → IsHere (k + 1) acts
    unfolding IsHere
    next k act acts h j e = h (suc j) (omega (arith, e))

    here : (k x y : ℕ) (acts : List Act) → IsHere k (works (equal x y) ∷ acts) → (k + 1 == check) ≡ true → put (names + x) ≡ put (names + y)
    unfolding IsHere
    here k x y acts h t =
        let n : k + 1 ≡ check = eqb-true (k + 1) check t in
        let e : Some (works (equal x y)) ≡ Some (works (equal a b)) = h 0 (omega (arith, n)) in
        let p : x ≡ a = cc in
        let q : y ≡ b = cc in
        ap (λ z. put (names + z)) p ∙ same ∙ ap (λ z. put (names + z)) (sym q)

    solved_equal : (t : Bool) (x y : ℕ) (P acts : List Act) (n i : ℕ) → (t ≡ true → put (names + x) ≡ put (names + y))
        → ((n : ℕ) → AllByRecursion (Solves names put) (equations_from names draw P n i) → AllByRecursion (Solves names put) (equations_from names draw acts n i))
        → AllByRecursion (Solves names put) (equations_from names draw (cond t [] (works (equal x y) ∷ []) ++ P) n i) → AllByRecursion (Solves names put) (equations_from names draw (works (equal x y) ∷ acts) n i)
    solved_equal true x y P acts n i f ih s = (f refl, subst (λ k. AllByRecursion (Solves names put) (equations_from names draw acts k i)) (sym (no_more n)) (ih n s))
    solved_equal false x y P acts n i f ih s = (s.0, ih (n + 0) s.1)

    solved_less : (acts : List Act) (k n i : ℕ) → IsHere k acts → AllByRecursion (Solves names put) (equations_from names draw (without drops k acts) n i) → AllByRecursion (Solves names put) (equations_from names draw acts n i)
    solved_less [] k n i h s = tt
    solved_less (takes ∷ acts) k n i h s = solved_less acts (k + 1) n i (next k takes acts h) s
    solved_less (draws ∷ acts) k n i h s = (s.0, solved_less acts (k + 1) (n + 1) (i + 1) (next k draws acts h) s.1)
    solved_less (receives ∷ acts) k n i h s = solved_less acts (k + 1) (n + 1) i (next k receives acts h) s
    solved_less (sends r ∷ acts) k n i h s = solved_less acts (k + 1) n i (next k (sends r) acts h) s
    solved_less (works (make o rs) ∷ acts) k n i h s = (s.0, solved_less acts (k + 1) (n + 1) i (next k (works (make o rs)) acts h) s.1)
    solved_less (works (undo o ks r) ∷ acts) k n i h s = (s.0, solved_less acts (k + 1) (n + count_written (undo o ks r)) i (next k (works (undo o ks r)) acts h) s.1)
    solved_less (works (equal x y) ∷ acts) k n i h s =
        solved_equal (k + 1 == check) x y (without drops (k + 1) acts) acts n i (here k x y acts h) (λ n. solved_less acts (k + 1) n i (next k (works (equal x y)) acts h)) s

    pub solved_with : (code : List Act) (n i at : ℕ) → check ≡ at + 1 → slice_get code at ≡ Some (works (equal a b)) → AllByRecursion (Solves names put) (equations_from names draw (without drops 0 code) n i) → AllByRecursion (Solves names put) (equations_from names draw code n i)
    unfolding IsHere
    solved_with code n i at is e s = solved_less code 0 n i (λ j g. (let z : at ≡ j = omega (arith, is, g) in subst (λ k. slice_get code k ≡ Some (works (equal a b))) z e)) s

  received_equal : (t : Bool) (x y : ℕ) (P acts : List Act) (n : ℕ) → ((n : ℕ) → received_from P n ≡ received_from acts n) → received_from (cond t [] (works (equal x y) ∷ []) ++ P) n ≡ received_from acts (n + 0)
  received_equal true x y P acts n ih = ih n ∙ ap (received_from acts) (sym (no_more n))
  received_equal false x y P acts n ih = ih (n + 0)

  pub received_less : (acts : List Act) (k n : ℕ) → received_from (without drops k acts) n ≡ received_from acts n
  received_less [] k n = refl
  received_less (takes ∷ acts) k n = received_less acts (k + 1) n
  received_less (draws ∷ acts) k n = received_less acts (k + 1) (n + 1)
  received_less (receives ∷ acts) k n = ap (λ l. n ∷ l) (received_less acts (k + 1) (n + 1))
  received_less (sends r ∷ acts) k n = received_less acts (k + 1) n
  received_less (works (make o rs) ∷ acts) k n = received_less acts (k + 1) (n + 1)
  received_less (works (undo o ks r) ∷ acts) k n = received_less acts (k + 1) (n + count_written (undo o ks r))
  received_less (works (equal x y) ∷ acts) k n = received_equal (k + 1 == check) x y (without drops (k + 1) acts) acts n (λ n. received_less acts (k + 1) n)

  can_equal : (t : Bool) (x y : ℕ) (P : List Act) → CanUndoAll P → CanUndoAll (cond t [] (works (equal x y) ∷ []) ++ P)
  can_equal true x y P c = c
  can_equal false x y P c = (tt, c)

  pub can_less : (acts : List Act) (k : ℕ) → CanUndoAll acts → CanUndoAll (without drops k acts)
  can_less [] k c = tt
  can_less (takes ∷ acts) k c = can_less acts (k + 1) c
  can_less (draws ∷ acts) k c = can_less acts (k + 1) c
  can_less (receives ∷ acts) k c = can_less acts (k + 1) c
  can_less (sends r ∷ acts) k c = can_less acts (k + 1) c
  can_less (works (make o rs) ∷ acts) k c = (c.0, can_less acts (k + 1) c.1)
  can_less (works (undo o ks r) ∷ acts) k c = (c.0, can_less acts (k + 1) c.1)
  can_less (works (equal x y) ∷ acts) k c = can_equal (k + 1 == check) x y (without drops (k + 1) acts) (can_less acts (k + 1) c.1)

  module _ (has : Op → Bool) where
    verified_equal : (t : Bool) (x y : ℕ) (P : List Act) (n : ℕ) → IsReady has n (equal x y) → IsVerified has P n → IsVerified has (cond t [] (works (equal x y) ∷ []) ++ P) n
    verified_equal true x y P n r v = v
    verified_equal false x y P n r v = (r, subst (IsVerified has P) (sym (no_more n)) v)

    verified_less : (acts : List Act) (k n : ℕ) → IsVerified has acts n → IsVerified has (without drops k acts) n
    verified_less [] k n v = tt
    verified_less (takes ∷ acts) k n v = verified_less acts (k + 1) n v
    verified_less (draws ∷ acts) k n v = verified_less acts (k + 1) (n + 1) v
    verified_less (receives ∷ acts) k n v = verified_less acts (k + 1) (n + 1) v
    verified_less (sends r ∷ acts) k n v = (v.0, verified_less acts (k + 1) n v.1)
    verified_less (works (make o rs) ∷ acts) k n v = (v.0, verified_less acts (k + 1) (n + 1) v.1)
    verified_less (works (undo o ks r) ∷ acts) k n v = (v.0, verified_less acts (k + 1) (n + count_written (undo o ks r)) v.1)
    verified_less (works (equal x y) ∷ acts) k n v =
        verified_equal (k + 1 == check) x y (without drops (k + 1) acts) n v.0 (verified_less acts (k + 1) n (subst (IsVerified has acts) (no_more n) v.1))

    none_equal : (t : Bool) (x y : ℕ) (P : List Act) → NoTakes has P → NoTakes has (cond t [] (works (equal x y) ∷ []) ++ P)
    none_equal true x y P h = h
    none_equal false x y P h = h

    none_less : (acts : List Act) (k : ℕ) → NoTakes has acts → NoTakes has (without drops k acts)
    none_less [] k h = tt
    none_less (takes ∷ acts) k h = absurd h
    none_less (draws ∷ acts) k h = none_less acts (k + 1) h
    none_less (receives ∷ acts) k h = none_less acts (k + 1) h
    none_less (sends r ∷ acts) k h = none_less acts (k + 1) h
    none_less (works (make o rs) ∷ acts) k h = none_less acts (k + 1) h
    none_less (works (undo o ks r) ∷ acts) k h = none_less acts (k + 1) h
    none_less (works (equal x y) ∷ acts) k h = none_equal (k + 1 == check) x y (without drops (k + 1) acts) (none_less acts (k + 1) h)

    -- where no act takes, the takes are over
    took : (acts : List Act) (k n : ℕ) → k ≡ n → IsVerified has acts n → NoTakes has acts → HasTakes has acts k n
    took [] k n e v h = (e, v, h)
    took (takes ∷ acts) k n e v h = absurd h
    took (draws ∷ acts) k n e v h = (e, v, h)
    took (receives ∷ acts) k n e v h = (e, v, h)
    took (sends r ∷ acts) k n e v h = (e, v, h)
    took (works w ∷ acts) k n e v h = (e, v, h)

    pub taking_less : (acts : List Act) (at k n : ℕ) → HasTakes has acts k n → HasTakes has (without drops at acts) k n
    taking_less [] at k n h = h
    taking_less (takes ∷ acts) at k n h = taking_less acts (at + 1) (suc k) n h
    taking_less (draws ∷ acts) at k n h = took (without drops at (draws ∷ acts)) k n h.0 (verified_less (draws ∷ acts) at n h.1) (none_less (draws ∷ acts) at h.2)
    taking_less (receives ∷ acts) at k n h = took (without drops at (receives ∷ acts)) k n h.0 (verified_less (receives ∷ acts) at n h.1) (none_less (receives ∷ acts) at h.2)
    taking_less (sends r ∷ acts) at k n h = took (without drops at (sends r ∷ acts)) k n h.0 (verified_less (sends r ∷ acts) at n h.1) (none_less (sends r ∷ acts) at h.2)
    taking_less (works w ∷ acts) at k n h = took (without drops at (works w ∷ acts)) k n h.0 (verified_less (works w ∷ acts) at n h.1) (none_less (works w ∷ acts) at h.2)
