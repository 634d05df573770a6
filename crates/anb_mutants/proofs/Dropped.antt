-- A code that lacks checks takes what the code takes, and reads registers that were written.
use Rattle.std.proofs.Common.{◌≡◌, ℕ, suc, ◌+◌, List, [], ◌∷◌, ◌++◌, Bool, true, false, cond, sym, subst, arith}
use Rattle.anb_term.specs.declared.term.Op.{Op}
use Rattle.anb_plays.specs.Codes.{Act, takes, draws, receives, sends, works, make, undo, equal}
use Rattle.anb_plays.specs.Exec.{count_written, IsReady, IsVerified, NoTakes, HasTakes}
use Rattle.anb_probe.specs.Cases.{without}

module _ (has : Op → Bool) (drops : ℕ → Bool) where
  no_more : (n : ℕ) → n + 0 ≡ n
  no_more n = omega arith

  verified_equal : (t : Bool) (x y : ℕ) (P : List Act) (n : ℕ) → IsReady has n (equal x y) → IsVerified has P n → IsVerified has (cond t [] (works (equal x y) ∷ []) ++ P) n
  verified_equal true x y P n r v = v
  verified_equal false x y P n r v = (r, subst (IsVerified has P) (sym (no_more n)) v)

  verified_without : (acts : List Act) (k n : ℕ) → IsVerified has acts n → IsVerified has (without drops k acts) n
  verified_without [] k n v = tt
  verified_without (takes ∷ acts) k n v = verified_without acts (k + 1) n v
  verified_without (draws ∷ acts) k n v = verified_without acts (k + 1) (n + 1) v
  verified_without (receives ∷ acts) k n v = verified_without acts (k + 1) (n + 1) v
  verified_without (sends r ∷ acts) k n v = (v.0, verified_without acts (k + 1) n v.1)
  verified_without (works (make o rs) ∷ acts) k n v = (v.0, verified_without acts (k + 1) (n + 1) v.1)
  verified_without (works (undo o ks r) ∷ acts) k n v = (v.0, verified_without acts (k + 1) (n + count_written (undo o ks r)) v.1)
  verified_without (works (equal x y) ∷ acts) k n v =
      verified_equal (drops (k + 1)) x y (without drops (k + 1) acts) n v.0 (verified_without acts (k + 1) n (subst (IsVerified has acts) (no_more n) v.1))

  none_equal : (t : Bool) (x y : ℕ) (P : List Act) → NoTakes has P → NoTakes has (cond t [] (works (equal x y) ∷ []) ++ P)
  none_equal true x y P h = h
  none_equal false x y P h = h

  none_without : (acts : List Act) (k : ℕ) → NoTakes has acts → NoTakes has (without drops k acts)
  none_without [] k h = tt
  none_without (takes ∷ acts) k h = absurd h
  none_without (draws ∷ acts) k h = none_without acts (k + 1) h
  none_without (receives ∷ acts) k h = none_without acts (k + 1) h
  none_without (sends r ∷ acts) k h = none_without acts (k + 1) h
  none_without (works (make o rs) ∷ acts) k h = none_without acts (k + 1) h
  none_without (works (undo o ks r) ∷ acts) k h = none_without acts (k + 1) h
  none_without (works (equal x y) ∷ acts) k h = none_equal (drops (k + 1)) x y (without drops (k + 1) acts) (none_without acts (k + 1) h)

  -- where no act takes, the takes are over
  took : (acts : List Act) (k n : ℕ) → k ≡ n → IsVerified has acts n → NoTakes has acts → HasTakes has acts k n
  took [] k n e v h = (e, v, h)
  took (takes ∷ acts) k n e v h = absurd h
  took (draws ∷ acts) k n e v h = (e, v, h)
  took (receives ∷ acts) k n e v h = (e, v, h)
  took (sends r ∷ acts) k n e v h = (e, v, h)
  took (works w ∷ acts) k n e v h = (e, v, h)

  pub taking_without : (acts : List Act) (at k n : ℕ) → HasTakes has acts k n → HasTakes has (without drops at acts) k n
  taking_without [] at k n h = h
  taking_without (takes ∷ acts) at k n h = taking_without acts (at + 1) (suc k) n h
  taking_without (draws ∷ acts) at k n h = took (without drops at (draws ∷ acts)) k n h.0 (verified_without (draws ∷ acts) at n h.1) (none_without (draws ∷ acts) at h.2)
  taking_without (receives ∷ acts) at k n h = took (without drops at (receives ∷ acts)) k n h.0 (verified_without (receives ∷ acts) at n h.1) (none_without (receives ∷ acts) at h.2)
  taking_without (sends r ∷ acts) at k n h = took (without drops at (sends r ∷ acts)) k n h.0 (verified_without (sends r ∷ acts) at n h.1) (none_without (sends r ∷ acts) at h.2)
  taking_without (works w ∷ acts) at k n h = took (without drops at (works w ∷ acts)) k n h.0 (verified_without (works w ∷ acts) at n h.1) (none_without (works w ∷ acts) at h.2)
