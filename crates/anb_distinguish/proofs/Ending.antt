-- Where a code goes on to its end, the terms of its registers solve its equations.
use Rattle.std.proofs.Common.{◌≡◌, ℕ, suc, ◌+◌, ◌-◌, ◌<◌, List, [], ◌∷◌, ◌++◌, length, map, Bool, true, false, cond, Option, Some, None, refl, sym, ap, ◌∙◌, subst, arith, length-append}
use Rattle.std.specs.Prelude.{slice_get}
use Rattle.std.specs.List.{AllByRecursion, range_with_len}
use Rattle.std.proofs.lemmas.List.Elements.{recursion_from_All}
use Rattle.anb_lemmas.proofs.Lists.{get_last}
use Rattle.anb_term.specs.declared.term.Op.{Op}
use Rattle.anb_term.specs.Operator.{arity, keys}
use Rattle.anb_term.specs.Tree.{Tree, node, trees_of, tree_eqb}
use Rattle.anb_term.specs.TreeSame.{tree_same}
use Rattle.anb_term.specs.Value.{Meaning}
use Rattle.anb_term.specs.Lawful.{picked}
use Rattle.anb_term.specs.Demand.{alike}
use Rattle.anb_term.specs.FreeAlgebra.{parts_of, terms_over}
use Rattle.anb_term.specs.FreeLawful.{parts_are}
use Rattle.anb_term.proofs.Steps.{bound}
use Rattle.anb_term.proofs.Lists.{slice_get-append}
use Rattle.anb_plays.specs.Plays.{Played, stopped, done, ends}
use Rattle.anb_plays.specs.Codes.{Act, takes, draws, receives, sends, works, Work, make, undo, equal}
use Rattle.anb_plays.specs.Exec.{on_written, worked, exec, count_written, IsReady, IsVerified}
use Rattle.anb_unify.specs.Substitutions.{IsNamed}
use Rattle.anb_unify.specs.Equations.{Solves, atoms_of}
use Rattle.anb_unify.proofs.Putting.{named_stays}
use Rattle.anb_unify.proofs.Steps.{ranged}
use Rattle.anb_probe.specs.Cases.{IsOver}
use Rattle.anb_probe.proofs.Dropping.{over_said, not_waiting}
use Rattle.anb_distinguish.specs.Equations.{work_equation, equations_from, received_from, assigned}
use Rattle.anb_distinguish.proofs.Registers.{Holds, HoldsFrom, made_is, undone_is, picked_long, assigned_keeps, assigned_at}

-- what was written, where a run went on
went : (o : Option (List Tree)) (next : List Tree → Played Tree) (e at : ℕ) (left : List Tree) → IsOver (on_written o next (ends (stopped e at) left)) → (ws : List Tree) × (o ≡ Some ws) × IsOver (next ws)
went None next e at left over = let w : stopped e at ≡ done = over.end in absurd (cc)
went (Some ws) next e at left over = (ws, refl, over)

-- two that are alike
alike_both : (has : Op → Bool) (x y : Option Tree) (ws : List Tree) → cond (alike (terms_over has) x y) (Some []) None ≡ Some ws → (t : Tree) × (u : Tree) × (x ≡ Some t) × (y ≡ Some u) × (t ≡ u) × (ws ≡ [])
alike_both has None y ws e = cc
alike_both has (Some t) None ws e = cc
alike_both has (Some t) (Some u) ws e = by_test (tree_eqb t u) refl e
  where
    by_test : (b : Bool) → tree_eqb t u ≡ b → cond b (Some []) None ≡ Some ws → (x : Tree) × (y : Tree) × (Some t ≡ Some x) × (Some u ≡ Some y) × (x ≡ y) × (ws ≡ [])
    by_test true s g = let z : [] ≡ ws = cc in (t, u, refl, refl, tree_same t u s, sym z)
    by_test false s g = cc

module _ (has : Op → Bool) (names : ℕ) where
  abbrev m : Meaning Tree
  m = terms_over has

  pub count_is : (w : Work) (table ws : List Tree) (n : ℕ) → length table ≡ n → IsReady has n w → worked m table w ≡ Some ws → length ws ≡ count_written w
  count_is (make o rs) table ws n long ready e = let z : node o (trees_of (picked table rs)) ∷ [] ≡ ws = cc in ap length (sym z)
  count_is (undo o ks r) table ws n long ready e =
      let b = bound (parts_of o (picked table ks)) (slice_get table r) ws e in
      let p = parts_are o (picked table ks) b.0 ws b.2 in
      let below = subst (λ l. AllByRecursion (λ k. k < l) ks) (sym long) (recursion_from_All (λ k. k < n) ks ready.2) in
      omega (arith, p.2, length-append (picked table ks) ws, picked_long table ks below, ready.1)
  count_is (equal a b) table ws n long ready e = let s = alike_both has (slice_get table a) (slice_get table b) ws e in ap length s.5

  pub work_solved : (put : ℕ → Tree) (w : Work) (table ws : List Tree) (n : ℕ) → length table ≡ n → Holds names put table → HoldsFrom names put n ws → IsReady has n w → worked m table w ≡ Some ws → Solves names put (work_equation names n w)
  work_solved put (make o rs) table ws n long h g ready e =
      let below = subst (λ l. AllByRecursion (λ k. k < l) rs) (sym long) (recursion_from_All (λ k. k < n) rs ready.2) in
      let z : node o (trees_of (picked table rs)) ∷ [] ≡ ws = cc in
      let first : slice_get ws 0 ≡ Some (node o (trees_of (picked table rs))) = ap (λ l. slice_get l 0) (sym z) in
      let zero_more : n ≡ n + 0 = omega arith in
      ap (λ k. put (names + k)) zero_more ∙ g 0 (node o (trees_of (picked table rs))) first ∙ sym (made_is names put table h o rs below)
  work_solved put (undo o ks r) table ws n long h g ready e =
      let b = bound (parts_of o (picked table ks)) (slice_get table r) ws e in
      let p = parts_are o (picked table ks) b.0 ws b.2 in
      let below = subst (λ l. AllByRecursion (λ k. k < l) ks) (sym long) (recursion_from_All (λ k. k < n) ks ready.2) in
      let count : length ws ≡ arity o - keys o = count_is (undo o ks r) table ws n long ready e in
      let row : map (λ k. put (names + k)) (range_with_len n (arity o - keys o)) ≡ ws = ranged (λ k. put (names + k)) n (arity o - keys o) ws count g in
      h r b.0 b.1 ∙ p.1 ∙ ap (λ l. node o (trees_of (picked table ks ++ l))) (sym row) ∙ sym (undone_is names put table h o ks n (arity o - keys o) below)
  work_solved put (equal a b) table ws n long h g ready e =
      let s = alike_both has (slice_get table a) (slice_get table b) ws e in
      h a s.0 s.2 ∙ s.4 ∙ sym (h b s.1 s.3)

  module _ (draw : ℕ → Tree) (named : (i : ℕ) → IsNamed names (draw i)) where
    -- the terms of all registers at the end, of which the first ones are known
    pub record Ended (acts : List Act) (table : List Tree) (n i : ℕ) (arrivals : List Tree) : Type 0 where
      pub whole : List Tree
      pub front : (k : ℕ) (t : Tree) → slice_get table k ≡ Some t → slice_get whole k ≡ Some t
      pub solves : AllByRecursion (Solves names (assigned names whole)) (equations_from names draw acts n i)
      pub came : arrivals ≡ map (assigned names whole) (atoms_of names (received_from acts n))

    holds_whole : (whole table : List Tree) → ((k : ℕ) (t : Tree) → slice_get table k ≡ Some t → slice_get whole k ≡ Some t) → Holds names (assigned names whole) table
    holds_whole whole table front k t e = assigned_at names whole k t (front k t e)

    last_at : (table : List Tree) (n : ℕ) (t : Tree) → length table ≡ n → slice_get (table ++ t ∷ []) n ≡ Some t
    last_at table n t long = subst (λ k. slice_get (table ++ t ∷ []) k ≡ Some t) long (get_last table t)

    back_at : (table ws : List Tree) (j : ℕ) (t : Tree) → slice_get ws j ≡ Some t → slice_get (table ++ ws) (length table + j) ≡ Some t
    back_at [] ws j t e = let z : j ≡ 0 + j = omega arith in subst (λ k. slice_get ws k ≡ Some t) z e
    back_at (x ∷ table) ws j t e = let z : suc (length table + j) ≡ suc (length table) + j = omega arith in subst (λ k. slice_get (x ∷ (table ++ ws)) k ≡ Some t) z (back_at table ws j t e)

    pub ended : (acts : List Act) (n i e at : ℕ) (table arrivals : List Tree) → length table ≡ n → IsVerified has acts n → IsOver (exec m draw acts table e at i arrivals) → Ended acts table n i arrivals
    ended [] n i e at table arrivals long verified over = record { whole = table; front = λ k t h. h; solves = tt; came = over.used }
    ended (takes ∷ acts) n i e at table arrivals long verified over = let r = ended acts n i e (at + 1) table arrivals long verified over in record { whole = r.whole; front = r.front; solves = r.solves; came = r.came }
    ended (draws ∷ acts) n i e at table arrivals long verified over =
        let r = ended acts (n + 1) (i + 1) e (at + 1) (table ++ draw i ∷ []) arrivals (length-append table (draw i ∷ []) ∙ ap (λ l. l + 1) long) verified over in
        let put = assigned names r.whole in
        record {
          whole = r.whole;
          front = λ k t h. r.front k t (slice_get-append table (draw i ∷ []) k t h);
          solves = (assigned_at names r.whole n (draw i) (r.front n (draw i) (last_at table n (draw i) long)) ∙ sym (named_stays names put (assigned_keeps names r.whole) (draw i) (named i)), r.solves);
          came = r.came;
        }
    ended (receives ∷ acts) n i e at table [] long verified over = not_waiting (e + 1) [] over
    ended (receives ∷ acts) n i e at table (x ∷ arrivals) long verified over =
        let r = ended acts (n + 1) i (e + 1) (at + 1) (table ++ x ∷ []) arrivals (length-append table (x ∷ []) ∙ ap (λ l. l + 1) long) verified over in
        let put = assigned names r.whole in
        let first : put (names + n) ≡ x = assigned_at names r.whole n x (r.front n x (last_at table n x long)) in
        record {
          whole = r.whole;
          front = λ k t h. r.front k t (slice_get-append table (x ∷ []) k t h);
          solves = r.solves;
          came = ap (λ t. t ∷ arrivals) (sym first) ∙ ap (λ l. put (names + n) ∷ l) r.came;
        }
    ended (sends s ∷ acts) n i e at table arrivals long verified over =
        let r = ended acts n i (e + 1) (at + 1) table arrivals long verified.1 (over_said (slice_get table s) _ over) in
        record { whole = r.whole; front = r.front; solves = r.solves; came = r.came }
    ended (works w ∷ acts) n i e at table arrivals long verified over =
        let k = went (worked m table w) (λ ws. exec m draw acts (table ++ ws) e (at + 1) i arrivals) e (at + 1) arrivals over in
        let count = count_is w table k.0 n long verified.0 k.1 in
        let r = ended acts (n + count_written w) i e (at + 1) (table ++ k.0) arrivals (length-append table k.0 ∙ ap (λ l. l + length k.0) long ∙ ap (λ l. n + l) count) verified.1 k.2 in
        let put = assigned names r.whole in
        let front : (j : ℕ) (t : Tree) → slice_get table j ≡ Some t → slice_get r.whole j ≡ Some t = λ j t h. r.front j t (slice_get-append table k.0 j t h) in
        record {
          whole = r.whole;
          front = front;
          solves = (
            work_solved put w table k.0 n long (holds_whole r.whole table front)
                (λ j t h. assigned_at names r.whole (n + j) t (r.front (n + j) t (subst (λ l. slice_get (table ++ k.0) (l + j) ≡ Some t) long (back_at table k.0 j t h)))) verified.0 k.1,
            r.solves,
          );
          came = r.came;
        }
