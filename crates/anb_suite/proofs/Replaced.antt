-- What holds of acts holds of them as they read one register for another behind some of them.
use Rattle.std.proofs.Common.{◌≡◌, ℕ, zero, suc, ◌+◌, ◌-◌, ◌<◌, ◌≤◌, List, [], ◌∷◌, ◌++◌, length, map, drop, Bool, true, false, cond, Some, refl, sym, ap, ◌∙◌, subst, inl, inr, arith}
use Rattle.std.specs.Prelude.{slice_get, nat_lt, ◌==◌}
use Rattle.std.specs.List.{All, AllByRecursion, range_with_len}
use Rattle.std.proofs.lemmas.Bool.{eqb-true, le-ltb, lt-ltb}
use Rattle.std.proofs.lemmas.List.{length-map}
use Rattle.std.proofs.lemmas.List.Elements.{All-from_recursion, recursion_from_All}
use Rattle.anb_lemmas.proofs.Lists.{drop_at_got}
use Rattle.anb_lemmas.proofs.Numbers.{below_or_not}
use Rattle.anb_term.specs.declared.term.Op.{Op}
use Rattle.anb_term.specs.Operator.{arity, keys}
use Rattle.anb_term.specs.Tree.{Tree, leaf, node, trees_of}
use Rattle.anb_term.proofs.Lists.{map-append, slice_get-map}
use Rattle.anb_plays.specs.Codes.{Act, takes, draws, receives, sends, works, Work, make, undo, equal}
use Rattle.anb_plays.specs.Exec.{count_written, IsReady, IsVerified, NoTakes, HasTakes}
use Rattle.anb_unify.specs.Substitutions.{put_in}
use Rattle.anb_unify.specs.Equations.{AreVariables, EquationValue, Solves, atoms_of}
use Rattle.anb_unify.proofs.Putting.{put_node}
use Rattle.anb_distinguish.specs.Equations.{CanUndo, CanUndoAll, equations_from, received_from, registers}
use Rattle.anb_distinguish.specs.Finding.{IsCheck}
use Rattle.anb_suite.specs.declared.reading.Reading.{Reading}
use Rattle.anb_suite.specs.declared.reading.Reading.TheVariants.{Both, First, Second}
use Rattle.anb_suite.specs.Reading.{act_for, read_behind, read_by, read_for, work_for}
use Rattle.anb_suite.specs.Walks.{act_at, gone_by, sent_in, used_by}

pub left_acts : (acts : List Act) (i : ℕ) (x : Act) → slice_get acts i ≡ Some x → drop i acts ≡ x ∷ drop (i + 1) acts
left_acts acts i x e = drop_at_got acts i x e

-- ---- a register that is read for itself

read_itself : (g r : ℕ) → read_for g g r ≡ r
read_itself g r = by (r == g) refl where
  by : (b : Bool) → (r == g) ≡ b → cond b g r ≡ r
  by true e = sym (eqb-true r g e)
  by false e = refl

each_itself : (g : ℕ) (rs : List ℕ) → map (read_for g g) rs ≡ rs
each_itself g [] = refl
each_itself g (r ∷ rs) = ap (λ k. k ∷ map (read_for g g) rs) (read_itself g r) ∙ ap (λ l. r ∷ l) (each_itself g rs)

act_itself : (g : ℕ) (act : Act) → act_for g g act ≡ act
act_itself g takes = refl
act_itself g draws = refl
act_itself g receives = refl
act_itself g (sends r) = ap sends (read_itself g r)
act_itself g (works (make o rs)) = ap (λ l. works (make o l)) (each_itself g rs)
act_itself g (works (undo o ks r)) = ap (λ l. works (undo o l (read_for g g r))) (each_itself g ks) ∙ ap (λ k. works (undo o ks k)) (read_itself g r)
act_itself g (works (equal a b)) = ap (λ k. works (equal k (read_for g g b))) (read_itself g a) ∙ ap (λ k. works (equal a k)) (read_itself g b)

behind_itself : (n g : ℕ) (acts : List Act) → read_behind n g g acts ≡ acts
behind_itself zero g [] = refl
behind_itself zero g (x ∷ acts) = ap (λ y. y ∷ map (act_for g g) acts) (act_itself g x) ∙ ap (λ l. x ∷ l) (behind_itself zero g acts)
behind_itself (suc n) g [] = refl
behind_itself (suc n) g (x ∷ acts) = ap (λ l. x ∷ l) (behind_itself n g acts)

-- so all codes are read behind
pub reads_so : (reading : Reading) (check a b : ℕ) (acts : List Act) → read_behind check (gone_by reading a b) (used_by reading a b) acts ≡ read_by reading check a b acts
reads_so Both check a b acts = behind_itself check a acts
reads_so First check a b acts = refl
reads_so Second check a b acts = refl

-- ---- an act at its place

module _ (gone used : ℕ) where
  abbrev read : ℕ → ℕ
  read = read_for gone used

  abbrev all_for : List Act → List Act
  all_for = map (act_for gone used)

  got_before : (n i : ℕ) (acts : List Act) (x : Act) → i < n → slice_get acts i ≡ Some x → slice_get (read_behind n gone used acts) i ≡ Some x
  got_before zero i acts x l e = absurd (omega (arith, l))
  got_before (suc n) i [] x l e = cc
  got_before (suc n) zero (y ∷ acts) x l e = e
  got_before (suc n) (suc i) (y ∷ acts) x l e = got_before n i acts x (omega (arith, l)) e

  got_after : (n i : ℕ) (acts : List Act) (x : Act) → n ≤ i → slice_get acts i ≡ Some x → slice_get (read_behind n gone used acts) i ≡ Some (act_for gone used x)
  got_after zero i acts x l e = slice_get-map (act_for gone used) acts i x e
  got_after (suc n) i [] x l e = cc
  got_after (suc n) zero (y ∷ acts) x l e = absurd (omega (arith, l))
  got_after (suc n) (suc i) (y ∷ acts) x l e = got_after n i acts x (omega (arith, l)) e

  pub got_at : (n i : ℕ) (acts : List Act) (x : Act) → slice_get acts i ≡ Some x → slice_get (read_behind n gone used acts) i ≡ Some (act_at n gone used i x)
  got_at n i acts x e = elim (below_or_not i n) [
    | inl l ↦ got_before n i acts x l e ∙ ap (λ (t : Bool). Some (cond t x (act_for gone used x))) (sym (lt-ltb i n l))
    | inr l ↦ got_after n i acts x l e ∙ ap (λ (t : Bool). Some (cond t x (act_for gone used x))) (sym (le-ltb i n l))
  ]

  -- the last act before is as it was
  pub check_behind : (check a b : ℕ) (acts : List Act) → IsCheck acts check a b → IsCheck (read_behind check gone used acts) check a b
  check_behind check a b acts is = record { at = is.at; counts = is.counts; here = got_before check is.at acts (works (equal a b)) (omega (arith, is.counts)) is.here }

  ended_for : (i : ℕ) (acts : List Act) → drop i acts ≡ [] → drop i (all_for acts) ≡ []
  ended_for zero acts e = ap all_for e
  ended_for (suc i) [] e = refl
  ended_for (suc i) (x ∷ acts) e = ended_for i acts e

  pub ended_behind : (n i : ℕ) (acts : List Act) → drop i acts ≡ [] → drop i (read_behind n gone used acts) ≡ []
  ended_behind zero i acts e = ended_for i acts e
  ended_behind (suc n) i [] e = e
  ended_behind (suc n) zero (x ∷ acts) e = cc
  ended_behind (suc n) (suc i) (x ∷ acts) e = ended_behind n i acts e

  -- ---- what comes, what is sent

  received_for : (acts : List Act) (n : ℕ) → received_from (all_for acts) n ≡ received_from acts n
  received_for [] n = refl
  received_for (takes ∷ acts) n = received_for acts n
  received_for (draws ∷ acts) n = received_for acts (n + 1)
  received_for (receives ∷ acts) n = ap (λ l. n ∷ l) (received_for acts (n + 1))
  received_for (sends r ∷ acts) n = received_for acts n
  received_for (works (make o rs) ∷ acts) n = received_for acts (n + 1)
  received_for (works (undo o ks r) ∷ acts) n = received_for acts (n + (arity o - keys o))
  received_for (works (equal a b) ∷ acts) n = received_for acts (n + 0)

  pub received_behind : (k : ℕ) (acts : List Act) (n : ℕ) → received_from (read_behind k gone used acts) n ≡ received_from acts n
  received_behind zero acts n = received_for acts n
  received_behind (suc k) [] n = refl
  received_behind (suc k) (takes ∷ acts) n = received_behind k acts n
  received_behind (suc k) (draws ∷ acts) n = received_behind k acts (n + 1)
  received_behind (suc k) (receives ∷ acts) n = ap (λ l. n ∷ l) (received_behind k acts (n + 1))
  received_behind (suc k) (sends r ∷ acts) n = received_behind k acts n
  received_behind (suc k) (works w ∷ acts) n = received_behind k acts (n + count_written w)

  module _ (m : ℕ) (small : used < m) where
    read_within : (r : ℕ) → r < m → read r < m
    read_within r l = by (r == gone) where
      by : (b : Bool) → cond b used r < m
      by true = small
      by false = l

    sent_for : (acts : List Act) → AreVariables m (sent_in acts) → AreVariables m (sent_in (all_for acts))
    sent_for [] h = tt
    sent_for (takes ∷ acts) h = sent_for acts h
    sent_for (draws ∷ acts) h = sent_for acts h
    sent_for (receives ∷ acts) h = sent_for acts h
    sent_for (sends r ∷ acts) h = (read_within r h.0, sent_for acts h.1)
    sent_for (works w ∷ acts) h = sent_for acts h

    pub sent_behind : (k : ℕ) (acts : List Act) → AreVariables m (sent_in acts) → AreVariables m (sent_in (read_behind k gone used acts))
    sent_behind zero acts h = sent_for acts h
    sent_behind (suc k) [] h = tt
    sent_behind (suc k) (takes ∷ acts) h = sent_behind k acts h
    sent_behind (suc k) (draws ∷ acts) h = sent_behind k acts h
    sent_behind (suc k) (receives ∷ acts) h = sent_behind k acts h
    sent_behind (suc k) (sends r ∷ acts) h = (h.0, sent_behind k acts h.1)
    sent_behind (suc k) (works w ∷ acts) h = sent_behind k acts h

    -- ---- equations are of registers that were written

    module _ (N : ℕ) (draw : ℕ → Tree) where
      abbrev Within : List Act → ℕ → ℕ → Type 0
      Within acts n i = AllByRecursion (λ (q : EquationValue). q.variable < m) (equations_from N draw acts n i)

      within_for : (acts : List Act) (n i : ℕ) → Within acts n i → Within (all_for acts) n i
      within_for [] n i h = tt
      within_for (takes ∷ acts) n i h = within_for acts n i h
      within_for (draws ∷ acts) n i h = (h.0, within_for acts (n + 1) (i + 1) h.1)
      within_for (receives ∷ acts) n i h = within_for acts (n + 1) i h
      within_for (sends r ∷ acts) n i h = within_for acts n i h
      within_for (works (make o rs) ∷ acts) n i h = (h.0, within_for acts (n + 1) i h.1)
      within_for (works (undo o ks r) ∷ acts) n i h = (read_within r h.0, within_for acts (n + (arity o - keys o)) i h.1)
      within_for (works (equal a b) ∷ acts) n i h = (read_within a h.0, within_for acts (n + 0) i h.1)

      pub within_behind : (k : ℕ) (acts : List Act) (n i : ℕ) → Within acts n i → Within (read_behind k gone used acts) n i
      within_behind zero acts n i h = within_for acts n i h
      within_behind (suc k) [] n i h = tt
      within_behind (suc k) (takes ∷ acts) n i h = within_behind k acts n i h
      within_behind (suc k) (draws ∷ acts) n i h = (h.0, within_behind k acts (n + 1) (i + 1) h.1)
      within_behind (suc k) (receives ∷ acts) n i h = within_behind k acts (n + 1) i h
      within_behind (suc k) (sends r ∷ acts) n i h = within_behind k acts n i h
      within_behind (suc k) (works w ∷ acts) n i h = (h.0, within_behind k acts (n + count_written w) i h.1)

  -- ---- a solution with one term at both registers

  module _ (N : ℕ) (put : ℕ → Tree) (draw : ℕ → Tree) (same : put (N + gone) ≡ put (N + used)) where
    put_read : (r : ℕ) → put (N + read r) ≡ put (N + r)
    put_read r = by (r == gone) refl where
      by : (b : Bool) → (r == gone) ≡ b → put (N + cond b used r) ≡ put (N + r)
      by true e = sym same ∙ ap (λ k. put (N + k)) (sym (eqb-true r gone e))
      by false e = refl

    put_each : (rs : List ℕ) → map (put_in put) (registers N (map read rs)) ≡ map (put_in put) (registers N rs)
    put_each [] = refl
    put_each (r ∷ rs) = ap (λ t. t ∷ map (put_in put) (registers N (map read rs))) (put_read r) ∙ ap (λ l. put (N + r) ∷ l) (put_each rs)

    put_made : (o : Op) (rs : List ℕ) → put_in put (node o (trees_of (registers N (map read rs)))) ≡ put_in put (node o (trees_of (registers N rs)))
    put_made o rs = put_node put o (registers N (map read rs)) ∙ ap (λ l. node o (trees_of l)) (put_each rs) ∙ sym (put_node put o (registers N rs))

    put_undone : (o : Op) (ks more : List ℕ) → put_in put (node o (trees_of (registers N (map read ks) ++ registers N more))) ≡ put_in put (node o (trees_of (registers N ks ++ registers N more)))
    put_undone o ks more =
        put_node put o (registers N (map read ks) ++ registers N more)
        ∙ ap (λ l. node o (trees_of l)) (map-append (put_in put) (registers N (map read ks)) (registers N more) ∙ ap (λ l. l ++ map (put_in put) (registers N more)) (put_each ks) ∙ sym (map-append (put_in put) (registers N ks) (registers N more)))
        ∙ sym (put_node put o (registers N ks ++ registers N more))

    abbrev Solved : List Act → ℕ → ℕ → Type 0
    Solved acts n i = AllByRecursion (Solves N put) (equations_from N draw acts n i)

    solved_for : (acts : List Act) (n i : ℕ) → Solved acts n i → Solved (all_for acts) n i
    solved_for [] n i h = tt
    solved_for (takes ∷ acts) n i h = solved_for acts n i h
    solved_for (draws ∷ acts) n i h = (h.0, solved_for acts (n + 1) (i + 1) h.1)
    solved_for (receives ∷ acts) n i h = solved_for acts (n + 1) i h
    solved_for (sends r ∷ acts) n i h = solved_for acts n i h
    solved_for (works (make o rs) ∷ acts) n i h = (h.0 ∙ sym (put_made o rs), solved_for acts (n + 1) i h.1)
    solved_for (works (undo o ks r) ∷ acts) n i h = (put_read r ∙ h.0 ∙ sym (put_undone o ks (range_with_len n (arity o - keys o))), solved_for acts (n + (arity o - keys o)) i h.1)
    solved_for (works (equal a b) ∷ acts) n i h = (put_read a ∙ h.0 ∙ sym (put_read b), solved_for acts (n + 0) i h.1)

    pub solved_behind : (k : ℕ) (acts : List Act) (n i : ℕ) → Solved acts n i → Solved (read_behind k gone used acts) n i
    solved_behind zero acts n i h = solved_for acts n i h
    solved_behind (suc k) [] n i h = tt
    solved_behind (suc k) (takes ∷ acts) n i h = solved_behind k acts n i h
    solved_behind (suc k) (draws ∷ acts) n i h = (h.0, solved_behind k acts (n + 1) (i + 1) h.1)
    solved_behind (suc k) (receives ∷ acts) n i h = solved_behind k acts (n + 1) i h
    solved_behind (suc k) (sends r ∷ acts) n i h = solved_behind k acts n i h
    solved_behind (suc k) (works w ∷ acts) n i h = (h.0, solved_behind k acts (n + count_written w) i h.1)

  -- ---- what can be undone, and is written before it's read

  can_for : (acts : List Act) → CanUndoAll acts → CanUndoAll (all_for acts)
  can_for [] h = tt
  can_for (takes ∷ acts) h = can_for acts h
  can_for (draws ∷ acts) h = can_for acts h
  can_for (receives ∷ acts) h = can_for acts h
  can_for (sends r ∷ acts) h = can_for acts h
  can_for (works (make o rs) ∷ acts) h = (tt, can_for acts h.1)
  can_for (works (undo o ks r) ∷ acts) h = (h.0, can_for acts h.1)
  can_for (works (equal a b) ∷ acts) h = (tt, can_for acts h.1)

  pub can_behind : (k : ℕ) (acts : List Act) → CanUndoAll acts → CanUndoAll (read_behind k gone used acts)
  can_behind zero acts h = can_for acts h
  can_behind (suc k) [] h = tt
  can_behind (suc k) (takes ∷ acts) h = can_behind k acts h
  can_behind (suc k) (draws ∷ acts) h = can_behind k acts h
  can_behind (suc k) (receives ∷ acts) h = can_behind k acts h
  can_behind (suc k) (sends r ∷ acts) h = can_behind k acts h
  can_behind (suc k) (works w ∷ acts) h = (h.0, can_behind k acts h.1)

  module _ (has : Op → Bool) where
    each_read : (n : ℕ) → used < n → (rs : List ℕ) → AllByRecursion (λ k. k < n) rs → AllByRecursion (λ k. k < n) (map read rs)
    each_read n small [] h = tt
    each_read n small (r ∷ rs) h = (read_within n small r h.0, each_read n small rs h.1)

    all_read : (n : ℕ) → used < n → (rs : List ℕ) → All (λ k. k < n) rs → All (λ k. k < n) (map read rs)
    all_read n small rs h = All-from_recursion (λ k. k < n) (map read rs) (each_read n small rs (recursion_from_All (λ k. k < n) rs h))

    ready_for : (n : ℕ) (w : Work) → used < n → IsReady has n w → IsReady has n (work_for gone used w)
    ready_for n (make o rs) small h = (h.0, length-map rs read ∙ h.1, all_read n small rs h.2)
    ready_for n (undo o ks r) small h = (h.0, length-map ks read ∙ h.1, all_read n small ks h.2, read_within n small r h.3)
    ready_for n (equal a b) small h = (read_within n small a h.0, read_within n small b h.1)

    written_for : (w : Work) → count_written (work_for gone used w) ≡ count_written w
    written_for (make o rs) = refl
    written_for (undo o ks r) = refl
    written_for (equal a b) = refl

    verified_for : (acts : List Act) (n : ℕ) → used < n → IsVerified has acts n → IsVerified has (all_for acts) n
    verified_for [] n small h = tt
    verified_for (takes ∷ acts) n small h = verified_for acts n small h
    verified_for (draws ∷ acts) n small h = verified_for acts (n + 1) (omega (arith, small)) h
    verified_for (receives ∷ acts) n small h = verified_for acts (n + 1) (omega (arith, small)) h
    verified_for (sends r ∷ acts) n small h = (read_within n small r h.0, verified_for acts n small h.1)
    verified_for (works w ∷ acts) n small h =
        (ready_for n w small h.0, subst (λ k. IsVerified has (all_for acts) (n + k)) (sym (written_for w)) (verified_for acts (n + count_written w) (omega (arith, small)) h.1))

    -- behind a check that compares the register
    module _ (a b : ℕ) (is : (n : ℕ) → a < n → b < n → used < n) where
      verified_behind : (acts : List Act) (j n : ℕ) → slice_get acts j ≡ Some (works (equal a b)) → IsVerified has acts n → IsVerified has (read_behind (suc j) gone used acts) n
      verified_behind [] j n e h = cc
      verified_behind (takes ∷ acts) zero n e h = cc
      verified_behind (takes ∷ acts) (suc j) n e h = verified_behind acts j n e h
      verified_behind (draws ∷ acts) zero n e h = cc
      verified_behind (draws ∷ acts) (suc j) n e h = verified_behind acts j (n + 1) e h
      verified_behind (receives ∷ acts) zero n e h = cc
      verified_behind (receives ∷ acts) (suc j) n e h = verified_behind acts j (n + 1) e h
      verified_behind (sends r ∷ acts) zero n e h = cc
      verified_behind (sends r ∷ acts) (suc j) n e h = (h.0, verified_behind acts j n e h.1)
      verified_behind (works w ∷ acts) (suc j) n e h = (h.0, verified_behind acts j (n + count_written w) e h.1)
      verified_behind (works (make o rs) ∷ acts) zero n e h = cc
      verified_behind (works (undo o ks r) ∷ acts) zero n e h = cc
      verified_behind (works (equal x y) ∷ acts) zero n e h =
          let p : x ≡ a = cc in
          let q : y ≡ b = cc in
          let small : used < n = is n (subst (λ k. k < n) p h.0.0) (subst (λ k. k < n) q h.0.1) in
          (h.0, verified_for acts (n + 0) (omega (arith, small)) h.1)

      none_for : (acts : List Act) → NoTakes has acts → NoTakes has (all_for acts)
      none_for [] h = tt
      none_for (takes ∷ acts) h = absurd h
      none_for (draws ∷ acts) h = none_for acts h
      none_for (receives ∷ acts) h = none_for acts h
      none_for (sends r ∷ acts) h = none_for acts h
      none_for (works w ∷ acts) h = none_for acts h

      none_behind : (k : ℕ) (acts : List Act) → NoTakes has acts → NoTakes has (read_behind k gone used acts)
      none_behind zero acts h = none_for acts h
      none_behind (suc k) [] h = tt
      none_behind (suc k) (takes ∷ acts) h = absurd h
      none_behind (suc k) (draws ∷ acts) h = none_behind k acts h
      none_behind (suc k) (receives ∷ acts) h = none_behind k acts h
      none_behind (suc k) (sends r ∷ acts) h = none_behind k acts h
      none_behind (suc k) (works w ∷ acts) h = none_behind k acts h

      taking_behind : (acts : List Act) (j k n : ℕ) → slice_get acts j ≡ Some (works (equal a b)) → HasTakes has acts k n → HasTakes has (read_behind (suc j) gone used acts) k n
      taking_behind [] j k n e h = cc
      taking_behind (takes ∷ acts) zero k n e h = cc
      taking_behind (takes ∷ acts) (suc j) k n e h = taking_behind acts j (suc k) n e h
      taking_behind (draws ∷ acts) j k n e h = (h.0, verified_behind (draws ∷ acts) j n e h.1, none_behind (suc j) (draws ∷ acts) h.2)
      taking_behind (receives ∷ acts) j k n e h = (h.0, verified_behind (receives ∷ acts) j n e h.1, none_behind (suc j) (receives ∷ acts) h.2)
      taking_behind (sends r ∷ acts) j k n e h = (h.0, verified_behind (sends r ∷ acts) j n e h.1, none_behind (suc j) (sends r ∷ acts) h.2)
      taking_behind (works w ∷ acts) j k n e h = (h.0, verified_behind (works w ∷ acts) j n e h.1, none_behind (suc j) (works w ∷ acts) h.2)

-- ---- a code as it is read

pub check_by : (reading : Reading) (check a b : ℕ) (acts : List Act) → IsCheck acts check a b → IsCheck (read_by reading check a b acts) check a b
check_by Both check a b acts is = is
check_by First check a b acts is = check_behind b a check a b acts is
check_by Second check a b acts is = check_behind a b check a b acts is

pub can_by : (reading : Reading) (check a b : ℕ) (acts : List Act) → CanUndoAll acts → CanUndoAll (read_by reading check a b acts)
can_by Both check a b acts h = h
can_by First check a b acts h = can_behind b a check acts h
can_by Second check a b acts h = can_behind a b check acts h

pub taking_by : (has : Op → Bool) (reading : Reading) (check a b : ℕ) (acts : List Act) (n : ℕ) → IsCheck acts check a b → HasTakes has acts 0 n → HasTakes has (read_by reading check a b acts) 0 n
taking_by has Both check a b acts n is h = h
taking_by has First check a b acts n is h =
    let z : suc is.at ≡ check = omega (arith, is.counts) in
    subst (λ k. HasTakes has (read_behind k b a acts) 0 n) z (taking_behind b a has a b (λ m l r. l) acts is.at 0 n is.here h)
taking_by has Second check a b acts n is h =
    let z : suc is.at ≡ check = omega (arith, is.counts) in
    subst (λ k. HasTakes has (read_behind k a b acts) 0 n) z (taking_behind a b has a b (λ m l r. r) acts is.at 0 n is.here h)

pub received_by : (reading : Reading) (check a b : ℕ) (acts : List Act) (n : ℕ) → received_from (read_by reading check a b acts) n ≡ received_from acts n
received_by Both check a b acts n = refl
received_by First check a b acts n = received_behind b a check acts n
received_by Second check a b acts n = received_behind a b check acts n

pub sent_by : (reading : Reading) (check a b : ℕ) (acts : List Act) (m : ℕ) → a < m → b < m → AreVariables m (sent_in acts) → AreVariables m (sent_in (read_by reading check a b acts))
sent_by Both check a b acts m l r h = h
sent_by First check a b acts m l r h = sent_behind b a m l check acts h
sent_by Second check a b acts m l r h = sent_behind a b m r check acts h

module _ (N : ℕ) (draw : ℕ → Tree) where
  pub within_by : (reading : Reading) (check a b : ℕ) (acts : List Act) (m n i : ℕ) → a < m → b < m → AllByRecursion (λ (q : EquationValue). q.variable < m) (equations_from N draw acts n i)
      → AllByRecursion (λ (q : EquationValue). q.variable < m) (equations_from N draw (read_by reading check a b acts) n i)
  within_by Both check a b acts m n i l r h = h
  within_by First check a b acts m n i l r h = within_behind b a m l N draw check acts n i h
  within_by Second check a b acts m n i l r h = within_behind a b m r N draw check acts n i h

  pub solved_by : (put : ℕ → Tree) (reading : Reading) (check a b : ℕ) (acts : List Act) (n i : ℕ) → put (N + a) ≡ put (N + b) → AllByRecursion (Solves N put) (equations_from N draw acts n i)
      → AllByRecursion (Solves N put) (equations_from N draw (read_by reading check a b acts) n i)
  solved_by put Both check a b acts n i same h = h
  solved_by put First check a b acts n i same h = solved_behind b a N put draw (sym same) check acts n i h
  solved_by put Second check a b acts n i same h = solved_behind a b N put draw same check acts n i h
