-- A code goes on over a solution of its equations.
use Rattle.std.proofs.Common.{◌≡◌, ℕ, ◌+◌, ◌-◌, ◌<◌, List, [], ◌∷◌, ◌++◌, length, map, Bool, true, Option, Some, refl, sym, ap, ◌∙◌, subst, arith, length-append}
use Rattle.std.specs.Prelude.{slice_get}
use Rattle.std.specs.List.{AllByRecursion, range_with_len}
use Rattle.std.proofs.lemmas.List.Elements.{recursion_from_All}
use Rattle.anb_lemmas.proofs.Lists.{got_within}
use Rattle.anb_term.specs.declared.term.Op.{Op}
use Rattle.anb_term.specs.Operator.{arity, keys}
use Rattle.anb_term.specs.Tree.{Tree, node, trees_of, tree_eqb}
use Rattle.anb_term.specs.TreeSame.{tree_itself}
use Rattle.anb_term.specs.Value.{Meaning}
use Rattle.anb_term.specs.Lawful.{picked}
use Rattle.anb_term.specs.FreeAlgebra.{parts_of, terms_over}
use Rattle.anb_term.specs.FreeLawful.{parts_of_built}
use Rattle.anb_term.proofs.Lists.{slice_get-there, keys_fit}
use Rattle.anb_plays.specs.Plays.{Played}
use Rattle.anb_plays.specs.Codes.{Act, takes, draws, receives, sends, works, Work, make, undo, equal}
use Rattle.anb_plays.specs.Exec.{on_written, worked, exec, count_written, IsReady, IsVerified}
use Rattle.anb_unify.specs.Substitutions.{KeepsNames, IsNamed}
use Rattle.anb_unify.specs.Equations.{Solves, atoms_of}
use Rattle.anb_unify.proofs.Putting.{named_stays}
use Rattle.anb_unify.proofs.Steps.{ranged_gets, ranged_long}
use Rattle.anb_probe.specs.Cases.{IsOver}
use Rattle.anb_probe.proofs.Dropping.{says_over}
use Rattle.anb_distinguish.specs.Equations.{work_equation, equations_from, received_from, CanUndo, CanUndoAll}
use Rattle.anb_distinguish.proofs.Registers.{Holds, HoldsFrom, holds_one, holds_more, made_is, undone_is, picked_long}

module _ (has : Op → Bool) (names : ℕ) (put : ℕ → Tree) (keeps : KeepsNames names put) where
  abbrev m : Meaning Tree
  m = terms_over has

  -- what a work writes
  pub record Worked (table : List Tree) (n : ℕ) (w : Work) : Type 0 where
    pub written : List Tree
    pub is : worked m table w ≡ Some written
    pub long : length written ≡ count_written w
    pub holds : HoldsFrom names put n written

  ranged_holds : (n c : ℕ) → HoldsFrom names put n (map (λ r. put (names + r)) (range_with_len n c))
  ranged_holds n c j t e =
      let within : j < c = omega (arith, got_within (map (λ r. put (names + r)) (range_with_len n c)) j t e, ranged_long (λ r. put (names + r)) n c) in
      let at = ranged_gets (λ r. put (names + r)) n c j within in
      (cc)

  opened : (table : List Tree) (o : Op) (ks : List ℕ) (r : ℕ) (ps : List Tree) (v : Tree) → slice_get table r ≡ Some v → parts_of o (picked table ks) v ≡ Some ps → worked m table (undo o ks r) ≡ Some ps
  opened table o ks r ps v at e = rw at e

  compared : (table : List Tree) (a b : ℕ) (t u : Tree) → slice_get table a ≡ Some t → slice_get table b ≡ Some u → t ≡ u → worked m table (equal a b) ≡ Some []
  compared table a b t u at_a at_b e = let s : tree_eqb t u ≡ true = ap (tree_eqb t) (sym e) ∙ tree_itself t in rw (at_a, at_b, s) refl

  pub work_on : (w : Work) (table : List Tree) (n : ℕ) → length table ≡ n → Holds names put table → IsReady has n w → CanUndo w → Solves names put (work_equation names n w) → Worked table n w
  work_on (make o rs) table n long h ready can solved =
      let all = recursion_from_All (λ k. k < n) rs ready.2 in
      let below = subst (λ l. AllByRecursion (λ k. k < l) rs) (sym long) all in
      record {
        written = node o (trees_of (picked table rs)) ∷ [];
        is = refl;
        long = refl;
        holds = holds_one names put n (node o (trees_of (picked table rs))) (solved ∙ made_is names put table h o rs below);
      }
  work_on (undo o ks r) table n long h ready can solved =
      let all = recursion_from_All (λ k. k < n) ks ready.2 in
      let below = subst (λ l. AllByRecursion (λ k. k < l) ks) (sym long) all in
      let c : ℕ = arity o - keys o in
      let ps = map (λ k. put (names + k)) (range_with_len n c) in
      let v = slice_get-there table r (omega (arith, ready.3, long)) in
      let few : length (picked table ks) ≡ keys o = picked_long table ks below ∙ ready.1 in
      let many : length ps ≡ c = ranged_long (λ k. put (names + k)) n c in
      let is : v.0 ≡ node o (trees_of (picked table ks ++ ps)) = sym (h r v.0 v.1) ∙ solved ∙ undone_is names put table h o ks n c below in
      let built = parts_of_built o (picked table ks) ps can few (omega (arith, length-append (picked table ks) ps, few, many, keys_fit o)) in
      record {
        written = ps;
        is = opened table o ks r ps v.0 v.1 (ap (parts_of o (picked table ks)) is ∙ built);
        long = many;
        holds = ranged_holds n c;
      }
  work_on (equal a b) table n long h ready can solved =
      let t = slice_get-there table a (omega (arith, ready.0, long)) in
      let u = slice_get-there table b (omega (arith, ready.1, long)) in
      record {
        written = [];
        is = compared table a b t.0 u.0 t.1 u.1 (sym (h a t.0 t.1) ∙ solved ∙ h b u.0 u.1);
        long = refl;
        holds = λ j x e. cc;
      }

  on_with : (o : Option (List Tree)) (ws : List Tree) (next : List Tree → Played Tree) (stop : Played Tree) → o ≡ Some ws → IsOver (next ws) → IsOver (on_written o next stop)
  on_with o ws next stop e over = subst (λ x. IsOver (on_written x next stop)) (sym e) over

  module _ (draw : ℕ → Tree) (named : (i : ℕ) → IsNamed names (draw i)) where
    pub goes_on : (acts : List Act) (n i e at : ℕ) (table : List Tree) → length table ≡ n → Holds names put table → IsVerified has acts n → CanUndoAll acts → AllByRecursion (Solves names put) (equations_from names draw acts n i)
        → IsOver (exec m draw acts table e at i (map put (atoms_of names (received_from acts n))))
    goes_on [] n i e at table long h verified can solved = record { end = refl; used = refl }
    goes_on (takes ∷ acts) n i e at table long h verified can solved = goes_on acts n i e (at + 1) table long h verified can solved
    goes_on (draws ∷ acts) n i e at table long h verified can solved =
        let here = holds_one names put n (draw i) (solved.0 ∙ named_stays names put keeps (draw i) (named i)) in
        goes_on acts (n + 1) (i + 1) e (at + 1) (table ++ draw i ∷ []) (length-append table (draw i ∷ []) ∙ ap (λ l. l + 1) long) (holds_more names put table (draw i ∷ []) n long h here) verified can solved.1
    goes_on (receives ∷ acts) n i e at table long h verified can solved =
        let x = put (names + n) in
        goes_on acts (n + 1) i (e + 1) (at + 1) (table ++ x ∷ []) (length-append table (x ∷ []) ∙ ap (λ l. l + 1) long) (holds_more names put table (x ∷ []) n long h (holds_one names put n x refl)) verified can solved
    goes_on (sends r ∷ acts) n i e at table long h verified can solved =
        says_over (slice_get table r) _ (goes_on acts n i (e + 1) (at + 1) table long h verified.1 can solved)
    goes_on (works w ∷ acts) n i e at table long h verified can solved =
        let k = work_on w table n long h verified.0 can.0 solved.0 in
        on_with (worked m table w) k.written _ _ k.is
        (goes_on acts (n + count_written w) i e (at + 1) (table ++ k.written) (length-append table k.written ∙ ap (λ l. l + length k.written) long ∙ ap (λ l. n + l) k.long)
        (holds_more names put table k.written n long h k.holds) verified.1 can.1 solved.1)
