-- Acts of which each names registers that were written, taken apart.
use Rattle.std.proofs.Common.{◌≡◌, ℕ, ◌+◌, ◌-◌, List, [], ◌∷◌, ◌++◌, take, drop, Bool, Some, sym, subst, arith, take-append-drop}
use Rattle.std.specs.Prelude.{slice_get}
use Rattle.anb_lemmas.proofs.Lists.{drop_at_got}
use Rattle.anb_term.specs.declared.term.Op.{Op}
use Rattle.anb_term.specs.Operator.{arity, keys}
use Rattle.anb_plays.specs.Codes.{Act, takes, draws, receives, sends, works, undo}
use Rattle.anb_plays.specs.Exec.{IsVerified}
use Rattle.anb_machine.specs.Standing.{registers_of, registers_in}

module _ (has : Op → Bool) where
  -- the first one, and the others
  pub ready_first : (act : Act) (acts : List Act) (n : ℕ) → IsVerified has (act ∷ acts) n → IsVerified has (act ∷ []) n × IsVerified has acts (n + registers_of act)
  ready_first takes acts n h = (tt, let z : n ≡ n + 0 = omega arith in subst (IsVerified has acts) z h)
  ready_first draws acts n h = (tt, h)
  ready_first receives acts n h = (tt, h)
  ready_first (sends r) acts n h = ((h.0, tt), let z : n ≡ n + 0 = omega arith in subst (IsVerified has acts) z h.1)
  ready_first (works w) acts n h = ((h.0, tt), h.1)

  ready_more : (act : Act) (acts : List Act) (n : ℕ) → IsVerified has (act ∷ []) n → IsVerified has acts (n + registers_of act) → IsVerified has (act ∷ acts) n
  ready_more takes acts n one h = let z : n + 0 ≡ n = omega arith in subst (IsVerified has acts) z h
  ready_more draws acts n one h = h
  ready_more receives acts n one h = h
  ready_more (sends r) acts n one h = (one.0, let z : n + 0 ≡ n = omega arith in subst (IsVerified has acts) z h)
  ready_more (works w) acts n one h = (one.0, h)

  ready_parts : (xs ys : List Act) (n : ℕ) → IsVerified has (xs ++ ys) n → IsVerified has xs n × IsVerified has ys (n + registers_in xs)
  ready_parts [] ys n h = (tt, let z : n ≡ n + 0 = omega arith in subst (IsVerified has ys) z h)
  ready_parts (x ∷ xs) ys n h =
      let f = ready_first x (xs ++ ys) n h in
      let r = ready_parts xs ys (n + registers_of x) f.1 in
      let z : n + registers_of x + registers_in xs ≡ n + (registers_of x + registers_in xs) = omega arith in
      (ready_more x xs n f.0 r.0, subst (IsVerified has ys) z r.1)

  pub ready_before : (acts : List Act) (k n : ℕ) → IsVerified has acts n → IsVerified has (take k acts) n
  ready_before acts k n h = (ready_parts (take k acts) (drop k acts) n (subst (λ l. IsVerified has l n) (sym (take-append-drop k acts)) h)).0

  pub ready_behind : (acts : List Act) (k n : ℕ) → IsVerified has acts n → IsVerified has (drop k acts) (n + registers_in (take k acts))
  ready_behind acts k n h = (ready_parts (take k acts) (drop k acts) n (subst (λ l. IsVerified has l n) (sym (take-append-drop k acts)) h)).1

  -- behind an opening, with as many registers more as it writes
  pub ready_on : (acts : List Act) (at n many : ℕ) (o : Op) (ks : List ℕ) (r : ℕ) → slice_get acts at ≡ Some (works (undo o ks r)) → many ≡ arity o - keys o → IsVerified has (drop at acts) n → IsVerified has (drop (at + 1) acts) (n + many)
  ready_on acts at n many o ks r here writes h =
      let all : IsVerified has (works (undo o ks r) ∷ drop (at + 1) acts) n = subst (λ l. IsVerified has l n) (drop_at_got acts at (works (undo o ks r)) here) h in
      subst (λ k. IsVerified has (drop (at + 1) acts) (n + k)) (sym writes) all.1
