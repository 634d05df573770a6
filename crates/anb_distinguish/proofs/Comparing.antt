-- What a check compares, where the terms of registers solve all other equations.
use Rattle.std.proofs.Common.{◌≡◌, ℕ, zero, suc, ◌+◌, ◌-◌, ◌<◌, ◌≤◌, List, [], ◌∷◌, ◌++◌, length, map, take, Bool, true, false, cond, Option, Some, None, refl, sym, ap, ◌∙◌, subst, arith, ◌⊎◌, ⊎_elim, length-append}
use Rattle.std.specs.Prelude.{slice_get, ◌==◌}
use Rattle.std.specs.List.{AllByRecursion}
use Rattle.std.proofs.lemmas.Bool.{eqb-true, eqb-false, cases_eq}
use Rattle.std.proofs.lemmas.List.{take_all}
use Rattle.anb_lemmas.proofs.Lists.{get_last, take_suc_got}
use Rattle.anb_term.specs.declared.term.Op.{Op}
use Rattle.anb_term.specs.Tree.{Tree}
use Rattle.anb_term.specs.Value.{Meaning, RecipeTree, label, recipe_trees, value, values}
use Rattle.anb_term.specs.Demand.{all_hold}
use Rattle.anb_term.specs.FreeAlgebra.{terms_over}
use Rattle.anb_term.specs.FreeLawful.{free_lawful}
use Rattle.anb_term.proofs.Lists.{slice_get-there}
use Rattle.anb_term.proofs.Frames.{values_more}
use Rattle.anb_plays.specs.Codes.{Act, takes, draws, receives, sends, works, Work, make, undo, equal, at_register, writes, demands}
use Rattle.anb_plays.specs.Exec.{count_written, IsReady, IsVerified, NoTakes, HasTakes}
use Rattle.anb_plays.proofs.Registers.{values_join, register, work}
use Rattle.anb_unify.specs.Substitutions.{KeepsNames, IsNamed}
use Rattle.anb_unify.specs.Equations.{Solves, atoms_of}
use Rattle.anb_unify.proofs.Putting.{named_stays}
use Rattle.anb_probe.specs.Cases.{Sides, both_sides, sides, without, compared_from, compared}
use Rattle.anb_distinguish.specs.Equations.{work_equation, equations_from, received_from, CanUndo, CanUndoAll}
use Rattle.anb_distinguish.proofs.Registers.{Holds, HoldsFrom, holds_one, holds_more}
use Rattle.anb_distinguish.proofs.GoingOn.{work_on}
use Rattle.anb_distinguish.proofs.Dropped.{drops}

-- the recipes of the first labels
firsts : ℕ → List RecipeTree
firsts zero = []
firsts (suc k) = firsts k ++ label k ∷ []

firsts_long : (k : ℕ) → length (firsts k) ≡ k
unfolding firsts
firsts_long zero = refl
firsts_long (suc k) = omega (arith, length-append (firsts k) (label k ∷ []), firsts_long k)

module _ (has : Op → Bool) (names : ℕ) (put : ℕ → Tree) (keeps : KeepsNames names put) (draw : ℕ → Tree) (named : (i : ℕ) → IsNamed names (draw i)) (check a b : ℕ) where
  abbrev m : Meaning Tree
  m = terms_over has

  -- the check is one of these acts
  record IsAmong (k : ℕ) (acts : List Act) : Type 0 where
    ahead : k < check
    here : (j : ℕ) → k + suc j ≡ check → slice_get acts j ≡ Some (works (equal a b))

  never : {X : Type 0} (k : ℕ) → IsAmong k [] → X
  never k h =
      let j : ℕ = check - suc k in
      let e : slice_get [] j ≡ Some (works (equal a b)) = h.here j (omega (arith, h.ahead)) in
      absurd (cc)

  next : (k : ℕ) (act : Act) (acts : List Act) → IsAmong k (act ∷ acts) → (k + 1 ≡ check → ⊥) → IsAmong (k + 1) acts
  next k act acts h apart = record { ahead = ⊎_elim (λ e. absurd (apart e)) (λ f. omega (arith, h.ahead, f)) (ahead_or (k + 1) check); here = λ j e. h.here (suc j) (omega (arith, e)) }
    where
      ahead_or : (x y : ℕ) → (x ≡ y) ⊎ (x ≡ y → ⊥)
      ahead_or x y = cases_eq x y

  first : (k : ℕ) (act : Act) (acts : List Act) → IsAmong k (act ∷ acts) → k + 1 ≡ check → act ≡ works (equal a b)
  first k act acts h e = let f : Some act ≡ Some (works (equal a b)) = h.here 0 (omega (arith, e)) in (let g : act ≡ works (equal a b) = cc in g)

  the_sides : Sides Tree
  the_sides = record { one = put (names + a); other = put (names + b) }

  -- what both registers hold
  sides_are : (regs : List RecipeTree) (vs table : List Tree) (n : ℕ) → values m vs (recipe_trees regs) ≡ Some table → length table ≡ n → Holds names put table → IsReady has n (equal a b) → sides m vs regs (equal a b) ≡ Some the_sides
  unfolding the_sides
  sides_are regs vs table n same long h ready =
      let x = slice_get-there table a (omega (arith, ready.0, long)) in
      let y = slice_get-there table b (omega (arith, ready.1, long)) in
      let p = register m vs regs table a x.0 same x.1 ∙ ap Some (sym (h a x.0 x.1)) in
      let q = register m vs regs table b y.0 same y.1 ∙ ap Some (sym (h b y.0 y.1)) in
      ap (λ o. both_sides o (value m vs (at_register regs b))) p ∙ ap (both_sides (Some (put (names + a)))) q

  labelled : (regs : List RecipeTree) (vs table : List Tree) (x : Tree) → values m vs (recipe_trees regs) ≡ Some table → values m (vs ++ x ∷ []) (recipe_trees (regs ++ label (length vs) ∷ [])) ≡ Some (table ++ x ∷ [])
  labelled regs vs table x e =
      values_join m (vs ++ x ∷ []) regs (label (length vs) ∷ []) table (x ∷ []) (values_more m vs (x ∷ []) (recipe_trees regs) table e) (rw (get_last vs x) refl)

  -- the demand of a work holds, and these are written
  record Stepped (regs : List RecipeTree) (vs table : List Tree) (n : ℕ) (w : Work) : Type 0 where
    written : List Tree
    hold : all_hold m vs (demands regs w) ≡ true
    valued : values m vs (recipe_trees (regs ++ writes regs w)) ≡ Some (table ++ written)
    long : length written ≡ count_written w
    holds : HoldsFrom names put n written

  stepped : (regs : List RecipeTree) (vs table : List Tree) (n : ℕ) (w : Work) → values m vs (recipe_trees regs) ≡ Some table → length table ≡ n → Holds names put table → IsReady has n w → CanUndo w → Solves names put (work_equation names n w) → Stepped regs vs table n w
  stepped regs vs table n w same long h ready can solved =
      let k = work_on has names put keeps w table n long h ready can solved in
      ⊎_elim (λ (f, g). absurd (let e = k.is in cc))
      (λ (ws, hold, is, valued, count).
      let s : k.written ≡ ws = (let e = k.is in cc) in
      record {
        written = ws;
        hold = hold;
        valued = values_join m vs regs (writes regs w) table ws same valued;
        long = count;
        holds = subst (HoldsFrom names put n) s k.holds;
      })
      (work m vs (free_lawful has) regs table same w (subst (λ l. IsReady has l w) (sym long) ready))

  by_number : (t : Bool) (A B : Option (Sides Tree)) → (t ≡ true → A ≡ Some the_sides) → (t ≡ false → B ≡ Some the_sides) → cond t A B ≡ Some the_sides
  by_number true A B f g = f refl
  by_number false A B f g = g refl

  kept : (x y : ℕ) (P : List Act) (n i : ℕ) (t : Bool) → t ≡ false → AllByRecursion (Solves names put) (equations_from names draw (cond t [] (works (equal x y) ∷ []) ++ P) n i) → AllByRecursion (Solves names put) (equations_from names draw (works (equal x y) ∷ P) n i)
  kept x y P n i true e s = cc
  kept x y P n i false e s = s

  found : (acts : List Act) (k n i : ℕ) (regs : List RecipeTree) (vs table : List Tree) → values m vs (recipe_trees regs) ≡ Some table → length table ≡ n → Holds names put table → IsVerified has acts n → CanUndoAll acts → NoTakes has acts → IsAmong k acts
      → AllByRecursion (Solves names put) (equations_from names draw (without (drops check) k acts) n i) → compared_from m draw check acts regs vs k i (map put (atoms_of names (received_from acts n))) ≡ Some the_sides
  found [] k n i regs vs table same long h verified can none among s = never k among
  found (takes ∷ acts) k n i regs vs table same long h verified can none among s = absurd none
  found (draws ∷ acts) k n i regs vs table same long h verified can none among s =
      let here = holds_one names put n (draw i) (s.0 ∙ named_stays names put keeps (draw i) (named i)) in
      found acts (k + 1) (n + 1) (i + 1) (regs ++ label (length vs) ∷ []) (vs ++ draw i ∷ []) (table ++ draw i ∷ []) (labelled regs vs table (draw i) same) (length-append table (draw i ∷ []) ∙ ap (λ l. l + 1) long)
      (holds_more names put table (draw i ∷ []) n long h here) verified can none (next k draws acts among (λ e. let f = first k draws acts among e in cc)) s.1
  found (receives ∷ acts) k n i regs vs table same long h verified can none among s =
      let x = put (names + n) in
      found acts (k + 1) (n + 1) i (regs ++ label (length vs) ∷ []) (vs ++ x ∷ []) (table ++ x ∷ []) (labelled regs vs table x same) (length-append table (x ∷ []) ∙ ap (λ l. l + 1) long)
      (holds_more names put table (x ∷ []) n long h (holds_one names put n x refl)) verified can none (next k receives acts among (λ e. let f = first k receives acts among e in cc)) s
  found (sends r ∷ acts) k n i regs vs table same long h verified can none among s =
      found acts (k + 1) n i regs vs table same long h verified.1 can none (next k (sends r) acts among (λ e. let f = first k (sends r) acts among e in cc)) s
  found (works (make o rs) ∷ acts) k n i regs vs table same long h verified can none among s =
      let st = stepped regs vs table n (make o rs) same long h verified.0 can.0 s.0 in
      by_number (k + 1 == check) _ _ (λ t. let f = first k (works (make o rs)) acts among (eqb-true (k + 1) check t) in absurd (cc))
      (λ t. ap (λ c. cond c (compared_from m draw check acts (regs ++ writes regs (make o rs)) vs (k + 1) i (map put (atoms_of names (received_from acts (n + 1))))) None) st.hold
      ∙ found acts (k + 1) (n + 1) i (regs ++ writes regs (make o rs)) vs (table ++ st.written) st.valued (length-append table st.written ∙ ap (λ l. l + length st.written) long ∙ ap (λ l. n + l) st.long)
      (holds_more names put table st.written n long h st.holds) verified.1 can.1 none (next k (works (make o rs)) acts among (eqb-false (k + 1) check t)) s.1)
  found (works (undo o ks r) ∷ acts) k n i regs vs table same long h verified can none among s =
      let st = stepped regs vs table n (undo o ks r) same long h verified.0 can.0 s.0 in
      by_number (k + 1 == check) _ _ (λ t. let f = first k (works (undo o ks r)) acts among (eqb-true (k + 1) check t) in absurd (cc))
      (λ t. ap (λ c. cond c (compared_from m draw check acts (regs ++ writes regs (undo o ks r)) vs (k + 1) i (map put (atoms_of names (received_from acts (n + count_written (undo o ks r)))))) None) st.hold
      ∙ found acts (k + 1) (n + count_written (undo o ks r)) i (regs ++ writes regs (undo o ks r)) vs (table ++ st.written) st.valued (length-append table st.written ∙ ap (λ l. l + length st.written) long ∙ ap (λ l. n + l) st.long)
      (holds_more names put table st.written n long h st.holds) verified.1 can.1 none (next k (works (undo o ks r)) acts among (eqb-false (k + 1) check t)) s.1)
  found (works (equal x y) ∷ acts) k n i regs vs table same long h verified can none among s =
      by_number (k + 1 == check) _ _
      (λ t.
      let f = first k (works (equal x y)) acts among (eqb-true (k + 1) check t) in
      let g : equal x y ≡ equal a b = cc in
      ap (sides m vs regs) g ∙ sides_are regs vs table n same long h (subst (IsReady has n) g verified.0))
      (λ t.
      let z = kept x y (without (drops check) (k + 1) acts) n i (k + 1 == check) t s in
      let st = stepped regs vs table n (equal x y) same long h verified.0 can.0 z.0 in
      ap (λ c. cond c (compared_from m draw check acts (regs ++ writes regs (equal x y)) vs (k + 1) i (map put (atoms_of names (received_from acts (n + 0))))) None) st.hold
      ∙ found acts (k + 1) (n + 0) i (regs ++ writes regs (equal x y)) vs (table ++ st.written) st.valued (length-append table st.written ∙ ap (λ l. l + length st.written) long ∙ ap (λ l. n + l) st.long)
      (holds_more names put table st.written n long h st.holds) verified.1 can.1 none (next k (works (equal x y)) acts among (eqb-false (k + 1) check t)) z.1)

  firsts_valued : (vs : List Tree) (k : ℕ) → k ≤ length vs → values m vs (recipe_trees (firsts k)) ≡ Some (take k vs)
  unfolding firsts
  firsts_valued vs zero h = refl
  firsts_valued vs (suc k) h =
      let x = slice_get-there vs k (omega arith) in
      values_join m vs (firsts k) (label k ∷ []) (take k vs) (x.0 ∷ []) (firsts_valued vs k (omega arith)) (rw x.1 refl) ∙ ap Some (sym (take_suc_got vs k x.0 x.1))

  module _ (init : List Tree) (h : Holds names put init) where
    begun : (acts : List Act) (k c : ℕ) → c ≡ length init → IsVerified has acts (length init) → NoTakes has acts → CanUndoAll acts → IsAmong k acts
        → AllByRecursion (Solves names put) (equations_from names draw (without (drops check) k acts) (length init) 0) → compared_from m draw check acts (firsts c) init k 0 (map put (atoms_of names (received_from acts (length init)))) ≡ Some the_sides
    begun acts k c n verified none can among s =
        found acts k (length init) 0 (firsts c) init init (firsts_valued init c (omega (arith, n)) ∙ ap Some (take_all c init (omega (arith, n)))) refl h verified can none among s

    starts : (acts : List Act) (k c : ℕ) → HasTakes has acts c (length init) → CanUndoAll acts → IsAmong k acts
        → AllByRecursion (Solves names put) (equations_from names draw (without (drops check) k acts) (length init) 0) → compared_from m draw check acts (firsts c) init k 0 (map put (atoms_of names (received_from acts (length init)))) ≡ Some the_sides
    unfolding firsts
    starts (takes ∷ acts) k c t can among s =
        let ih = starts acts (k + 1) (suc c) t can (next k takes acts among (λ e. let f = first k takes acts among e in cc)) s in
        subst (λ n. compared_from m draw check acts (firsts c ++ label n ∷ []) init (k + 1) 0 (map put (atoms_of names (received_from acts (length init)))) ≡ Some the_sides) (sym (firsts_long c)) ih
    starts acts k c t can among s = begun acts k c t.0 t.1 t.2 can among s

    pub finds : (code : List Act) (at : ℕ) → HasTakes has code 0 (length init) → CanUndoAll code → check ≡ at + 1 → slice_get code at ≡ Some (works (equal a b))
        → AllByRecursion (Solves names put) (equations_from names draw (without (drops check) 0 code) (length init) 0)
        → compared m draw check code init (map put (atoms_of names (received_from code (length init)))) ≡ Some (record { one = put (names + a); other = put (names + b) })
    unfolding firsts the_sides
    finds code at t can is here s =
        starts code 0 0 t can (record { ahead = omega (arith, is); here = λ j e. (let z : at ≡ j = omega (arith, is, e) in subst (λ k. slice_get code k ≡ Some (works (equal a b))) z here) }) s
