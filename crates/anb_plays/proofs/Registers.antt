-- Registers' recipes and their values, and what a work does to both.
use Rattle.std.proofs.Common.{◌≡◌, ℕ, zero, suc, ◌-◌, ◌<◌, ◌≤◌, List, [], ◌∷◌, ◌++◌, length, take, Bool, true, false, ◌&&◌, Option, Some, None, refl, sym, ap, ◌∙◌, subst, inl, inr, ◌⊎◌, arith, length-append}
use Rattle.std.specs.Prelude.{slice_get}
use Rattle.std.specs.List.{AllByRecursion}
use Rattle.std.proofs.lemmas.Bool.{eq-eqb}
use Rattle.std.proofs.lemmas.List.{take_all}
use Rattle.std.proofs.lemmas.List.Elements.{recursion_from_All}
use Rattle.anb_lemmas.proofs.Lists.{take_suc_got}
use Rattle.anb_term.specs.declared.term.Op.{Op}
use Rattle.anb_term.specs.Operator.{arity, keys}
use Rattle.anb_term.specs.Lawful.{Lawful, picked}
use Rattle.anb_term.specs.Value.{Meaning, RecipeTree, part, RecipeTrees, recipe_trees, value, values}
use Rattle.anb_term.specs.Demand.{opens, equals, holds, all_hold}
use Rattle.anb_term.proofs.Lists.{slice_get-there, cons_of_both}
use Rattle.anb_term.proofs.Steps.{consed, part_is}
use Rattle.anb_term.proofs.Values.{counted}
use Rattle.anb_plays.specs.Codes.{Work, make, undo, equal, at_register, at_registers, parts, writes, demands}
use Rattle.anb_plays.specs.Exec.{worked, IsReady, count_written}

one_true : (b c : Bool) → b ≡ c → (b && true) ≡ c
one_true true c e = e
one_true false c e = e

module _ {A : Type 0} (m : Meaning A) (vs : List A) where
  pub values_join : (rs qs : List RecipeTree) (xs ys : List A) → values m vs (recipe_trees rs) ≡ Some xs → values m vs (recipe_trees qs) ≡ Some ys → values m vs (recipe_trees (rs ++ qs)) ≡ Some (xs ++ ys)
  values_join [] qs xs ys e f = let s : [] ≡ xs = cc in subst (λ l. values m vs (recipe_trees qs) ≡ Some (l ++ ys)) s f
  values_join (r ∷ rs) qs xs ys e f =
      let c = consed (value m vs r) (values m vs (recipe_trees rs)) xs e in
      let ih = values_join rs qs c.1 ys c.3 f in
      cons_of_both (value m vs r) (values m vs (recipe_trees (rs ++ qs))) c.0 (c.1 ++ ys) c.2 ih ∙ ap (λ l. Some (l ++ ys)) (sym c.4)

  -- a register's recipe has the register's value
  pub register : (regs : List RecipeTree) (table : List A) (n : ℕ) (x : A) → values m vs (recipe_trees regs) ≡ Some table → slice_get table n ≡ Some x → value m vs (at_register regs n) ≡ Some x
  register [] table n x e at = let s : [] ≡ table = cc in let f : slice_get [] n ≡ Some x = subst (λ l. slice_get l n ≡ Some x) (sym s) at in cc
  register (r ∷ rs) table zero x e at =
      let c = consed (value m vs r) (values m vs (recipe_trees rs)) table e in
      let f : slice_get (c.0 ∷ c.1) 0 ≡ Some x = subst (λ l. slice_get l 0 ≡ Some x) c.4 at in
      c.2 ∙ f
  register (r ∷ rs) table (suc n) x e at =
      let c = consed (value m vs r) (values m vs (recipe_trees rs)) table e in
      let f : slice_get (c.0 ∷ c.1) (suc n) ≡ Some x = subst (λ l. slice_get l (suc n) ≡ Some x) c.4 at in
      register rs c.1 n x c.3 f

  pub registers : (regs : List RecipeTree) (table : List A) (ns : List ℕ) → values m vs (recipe_trees regs) ≡ Some table → AllByRecursion (λ n. n < length table) ns
      → (values m vs (at_registers regs ns) ≡ Some (picked table ns)) × (length (picked table ns) ≡ length ns)
  registers regs table [] e h = (refl, refl)
  registers regs table (n ∷ ns) e h =
      let x = slice_get-there table n h.0 in
      let ih = registers regs table ns e h.1 in
      let r = register regs table n x.0 e x.1 in
      (rw (r, ih.0, x.1) refl, rw x.1 (ap suc ih.1))

  pub part_values : (n : ℕ) (o : Op) (ks : RecipeTrees) (r : RecipeTree) (kv qs : List A) (v : A) → n ≤ length qs → values m vs ks ≡ Some kv → value m vs r ≡ Some v → m.has o ≡ true → length kv ≡ keys o
      → m.undone o kv v ≡ Some qs → values m vs (recipe_trees (parts n o ks r)) ≡ Some (take n qs)
  part_values zero o ks r kv qs v l ek er h n u = refl
  part_values (suc j) o ks r kv qs v l ek er h n u =
      let ih = part_values j o ks r kv qs v (omega arith) ek er h n u in
      let q = slice_get-there qs j (omega arith) in
      let p : value m vs (part o j ks r) ≡ Some q.0 = rw (ek, er) (part_is m o j kv qs v q.0 h n u q.1) in
      values_join (parts j o ks r) (part o j ks r ∷ []) (take j qs) (q.0 ∷ []) ih (rw p refl) ∙ ap Some (sym (take_suc_got qs j q.0 q.1))

  -- the demand fails, and nothing is written
  abbrev pub Fails : List RecipeTree → List A → Work → Type 0
  Fails regs table w = (all_hold m vs (demands regs w) ≡ false) × (worked m table w ≡ None)

  -- the demand is true, and what is written are the values of the recipes that are written
  abbrev pub Works : List RecipeTree → List A → Work → Type 0
  Works regs table w = (ws : List A) × (all_hold m vs (demands regs w) ≡ true) × (worked m table w ≡ Some ws) × (values m vs (recipe_trees (writes regs w)) ≡ Some ws) × (length ws ≡ count_written w)

  module _ (lawful : Lawful m) (regs : List RecipeTree) (table : List A) (same : values m vs (recipe_trees regs) ≡ Some table) where
    undo_case : (o : Op) (ks : List ℕ) (n : ℕ) (v : A) → slice_get table n ≡ Some v → IsReady m.has (length table) (undo o ks n) → (u : Option (List A)) → m.undone o (picked table ks) v ≡ u
        → Fails regs table (undo o ks n) ⊎ Works regs table (undo o ks n)
    undo_case o ks n v at ready None e =
        let k = registers regs table ks same (recursion_from_All (λ i. i < length table) ks ready.2) in
        let r = register regs table n v same at in
        let no : holds m vs (opens o (at_registers regs ks) (at_register regs n)) ≡ false = rw (k.0, r, ready.0, eq-eqb (length (picked table ks)) (keys o) (k.1 ∙ ready.1), e) refl in
        inl (one_true _ false no, rw (at, e) refl)
    undo_case o ks n v at ready (Some qs) e =
        let k = registers regs table ks same (recursion_from_All (λ i. i < length table) ks ready.2) in
        let r = register regs table n v same at in
        let long : length (picked table ks) ≡ keys o = k.1 ∙ ready.1 in
        let yes : holds m vs (opens o (at_registers regs ks) (at_register regs n)) ≡ true = rw (k.0, r, ready.0, eq-eqb (length (picked table ks)) (keys o) long, e) refl in
        let count : length qs ≡ arity o - keys o = omega (arith, counted m lawful o (picked table ks) qs v ready.0 long e, length-append (picked table ks) qs) in
        let p = part_values (arity o - keys o) o (at_registers regs ks) (at_register regs n) (picked table ks) qs v (omega arith) k.0 r ready.0 long e in
        inr (qs, one_true _ true yes, rw (at, e) refl, p ∙ ap Some (take_all (arity o - keys o) qs (omega arith)), count)

    equal_case : (a b : ℕ) (x y : A) → slice_get table a ≡ Some x → slice_get table b ≡ Some y → (t : Bool) → m.same x y ≡ t → Fails regs table (equal a b) ⊎ Works regs table (equal a b)
    equal_case a b x y ea eb false e =
        let no : holds m vs (equals (at_register regs a) (at_register regs b)) ≡ false = rw (register regs table a x same ea, register regs table b y same eb) e in
        inl (one_true _ false no, rw (ea, eb, e) refl)
    equal_case a b x y ea eb true e =
        let yes : holds m vs (equals (at_register regs a) (at_register regs b)) ≡ true = rw (register regs table a x same ea, register regs table b y same eb) e in
        inr ([], one_true _ true yes, rw (ea, eb, e) refl, refl, refl)

    -- one of the two
    pub work : (w : Work) → IsReady m.has (length table) w → Fails regs table w ⊎ Works regs table w
    work (make o ns) ready =
        let k = registers regs table ns same (recursion_from_All (λ i. i < length table) ns ready.2) in
        inr (m.built o (picked table ns) ∷ [], refl, refl, rw (k.0, ready.0, eq-eqb (length (picked table ns)) (arity o) (k.1 ∙ ready.1)) refl, refl)
    work (undo o ks n) ready = let v = slice_get-there table n ready.3 in undo_case o ks n v.0 v.1 ready (m.undone o (picked table ks) v.0) refl
    work (equal a b) ready =
        let x = slice_get-there table a ready.0 in
        let y = slice_get-there table b ready.1 in
        equal_case a b x.0 y.0 x.1 y.1 (m.same x.0 y.0) refl

pub length-parts : (n : ℕ) (o : Op) (ks : RecipeTrees) (r : RecipeTree) → length (parts n o ks r) ≡ n
length-parts zero o ks r = refl
length-parts (suc n) o ks r = omega (arith, length-append (parts n o ks r) (part o n ks r ∷ []), length-parts n o ks r)
