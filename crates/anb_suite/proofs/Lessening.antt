-- A code less a check: what holds of each equation of the code holds of each of its own.
use Rattle.std.proofs.Common.{◌≡◌, ℕ, zero, suc, ◌+◌, List, [], ◌∷◌, ◌++◌, Bool, true, false, cond, Some, refl, sym, ap, ◌∙◌, subst, arith}
use Rattle.std.specs.Prelude.{slice_get, ◌==◌}
use Rattle.std.specs.List.{AllByRecursion}
use Rattle.anb_term.specs.Tree.{Tree}
use Rattle.anb_plays.specs.Codes.{Act, takes, draws, receives, sends, works, make, undo, equal}
use Rattle.anb_plays.specs.Exec.{count_written}
use Rattle.anb_unify.specs.Equations.{EquationValue, Solves}
use Rattle.anb_probe.specs.Cases.{without}
use Rattle.anb_distinguish.specs.Equations.{equations_from}
use Rattle.anb_suite.specs.Walks.{sent_in}

no_more : (n : ℕ) → n + 0 ≡ n
no_more n = omega arith

module _ (check : ℕ) where
  abbrev drops : ℕ → Bool
  drops n = n == check

  module _ (P : EquationValue → Type 0) (N : ℕ) (draw : ℕ → Tree) where
    each_equal : (t : Bool) (x y : ℕ) (acts lacking : List Act) (n i : ℕ) → ((k : ℕ) → AllByRecursion P (equations_from N draw acts k i) → AllByRecursion P (equations_from N draw lacking k i))
        → AllByRecursion P (equations_from N draw (works (equal x y) ∷ acts) n i) → AllByRecursion P (equations_from N draw (cond t [] (works (equal x y) ∷ []) ++ lacking) n i)
    each_equal true x y acts lacking n i ih s = ih n (subst (λ k. AllByRecursion P (equations_from N draw acts k i)) (no_more n) s.1)
    each_equal false x y acts lacking n i ih s = (s.0, ih (n + 0) s.1)

    pub each_less : (acts : List Act) (k n i : ℕ) → AllByRecursion P (equations_from N draw acts n i) → AllByRecursion P (equations_from N draw (without drops k acts) n i)
    each_less [] k n i s = tt
    each_less (takes ∷ acts) k n i s = each_less acts (k + 1) n i s
    each_less (draws ∷ acts) k n i s = (s.0, each_less acts (k + 1) (n + 1) (i + 1) s.1)
    each_less (receives ∷ acts) k n i s = each_less acts (k + 1) (n + 1) i s
    each_less (sends r ∷ acts) k n i s = each_less acts (k + 1) n i s
    each_less (works (make o rs) ∷ acts) k n i s = (s.0, each_less acts (k + 1) (n + 1) i s.1)
    each_less (works (undo o ks r) ∷ acts) k n i s = (s.0, each_less acts (k + 1) (n + count_written (undo o ks r)) i s.1)
    each_less (works (equal x y) ∷ acts) k n i s = each_equal (k + 1 == check) x y acts (without drops (k + 1) acts) n i (λ m. each_less acts (k + 1) m i) s

  sent_equal : (t : Bool) (x y : ℕ) (acts lacking : List Act) → sent_in lacking ≡ sent_in acts → sent_in (cond t [] (works (equal x y) ∷ []) ++ lacking) ≡ sent_in acts
  sent_equal true x y acts lacking ih = ih
  sent_equal false x y acts lacking ih = ih

  pub sent_less : (acts : List Act) (k : ℕ) → sent_in (without drops k acts) ≡ sent_in acts
  sent_less [] k = refl
  sent_less (takes ∷ acts) k = sent_less acts (k + 1)
  sent_less (draws ∷ acts) k = sent_less acts (k + 1)
  sent_less (receives ∷ acts) k = sent_less acts (k + 1)
  sent_less (sends r ∷ acts) k = ap (λ l. r ∷ l) (sent_less acts (k + 1))
  sent_less (works (make o rs) ∷ acts) k = sent_less acts (k + 1)
  sent_less (works (undo o ks r) ∷ acts) k = sent_less acts (k + 1)
  sent_less (works (equal x y) ∷ acts) k = sent_equal (k + 1 == check) x y acts (without drops (k + 1) acts) (sent_less acts (k + 1))

-- a solution of all has one term at both sides of a check
module _ (N : ℕ) (put : ℕ → Tree) (draw : ℕ → Tree) where
  pub sides_same : (acts : List Act) (n i j a b : ℕ) → AllByRecursion (Solves N put) (equations_from N draw acts n i) → slice_get acts j ≡ Some (works (equal a b)) → put (N + a) ≡ put (N + b)
  sides_same [] n i j a b s e = cc
  sides_same (takes ∷ acts) n i zero a b s e = cc
  sides_same (takes ∷ acts) n i (suc j) a b s e = sides_same acts n i j a b s e
  sides_same (draws ∷ acts) n i zero a b s e = cc
  sides_same (draws ∷ acts) n i (suc j) a b s e = sides_same acts (n + 1) (i + 1) j a b s.1 e
  sides_same (receives ∷ acts) n i zero a b s e = cc
  sides_same (receives ∷ acts) n i (suc j) a b s e = sides_same acts (n + 1) i j a b s e
  sides_same (sends r ∷ acts) n i zero a b s e = cc
  sides_same (sends r ∷ acts) n i (suc j) a b s e = sides_same acts n i j a b s e
  sides_same (works w ∷ acts) n i (suc j) a b s e = sides_same acts (n + count_written w) i j a b s.1 e
  sides_same (works (make o rs) ∷ acts) n i zero a b s e = cc
  sides_same (works (undo o ks r) ∷ acts) n i zero a b s e = cc
  sides_same (works (equal x y) ∷ acts) n i zero a b s e =
      let p : x ≡ a = cc in
      let q : y ≡ b = cc in
      ap (λ k. put (N + k)) (sym p) ∙ s.0 ∙ ap (λ k. put (N + k)) q
