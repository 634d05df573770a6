-- The solutions of a role's equations are what it takes.
use Rattle.std.proofs.Common.{◌≡◌, ℕ, zero, suc, ◌+◌, ◌-◌, ◌<◌, List, [], ◌∷◌, ◌++◌, length, map, take, drop, Bool, true, cond, IsTrue, Option, Some, refl, sym, ap, ◌∙◌, subst, arith, inl, inr, ⊎_elim, length-append, length-drop, length-take-le}
use Rattle.std.specs.Prelude.{slice_get, unwrap_or, nat_lt, ◌==◌}
use Rattle.std.specs.List.{AllByRecursion, range_with_len}
use Rattle.std.proofs.lemmas.Bool.{eq-eqb, le-ltb, lt-ltb, and_parts}
use Rattle.std.proofs.lemmas.List.{length-map}
use Rattle.std.proofs.lemmas.List.Elements.{All-from_recursion}
use Rattle.anb_lemmas.proofs.Lists.{got_within}
use Rattle.anb_lemmas.proofs.Each.{each_got}
use Rattle.anb_lemmas.proofs.Options.{mapped_from}
use Rattle.anb_term.specs.declared.term.Op.{Op}
use Rattle.anb_term.specs.Operator.{arity, keys, undoable}
use Rattle.anb_term.specs.Tree.{Tree, leaf, node, Trees, none, more, trees_of, list_of, IsFormed, AreFormed}
use Rattle.anb_term.specs.TreeSame.{list_of-trees_of, tree_itself, tree_same}
use Rattle.anb_term.specs.View.{tree_of, term_of}
use Rattle.anb_term.specs.Value.{Meaning, RecipeTree, RecipeTrees, label, build, part, value, values, build_if}
use Rattle.anb_term.specs.FreeAlgebra.{parts_of, terms, terms_over}
use Rattle.anb_term.specs.FreeLawful.{parts_are, parts_of_built, free_lawful}
use Rattle.anb_term.specs.Agree.{Agree}
use Rattle.anb_term.specs.Demand.{holds, all_hold, opens, equals}
use Rattle.anb_term.proofs.Steps.{bound, consed, guarded, part_is}
use Rattle.anb_term.proofs.Values.{part_parts}
use Rattle.anb_term.proofs.Demands.{alike_are}
use Rattle.anb_term.proofs.Lists.{map-append, slice_get-map, slice_get-there, formed_items, formed_take, keys_fit}
use Rattle.anb_close.specs.declared.entry.Entry.{Entry}
use Rattle.anb_close.specs.declared.entry.Origin.{Origin}
use Rattle.anb_close.specs.declared.entry.Origin.TheVariants.{Label, Part}
use Rattle.anb_close.specs.Entries.{rows, terms_of, labels_of, IsKnown}
use Rattle.anb_close.specs.Recipes.{recipe_for, recipes}
use Rattle.anb_close.specs.Rows.{place, made_for, mades_for, rows_of, made_recipe, mades_recipes}
use Rattle.anb_close.specs.MadeView.{made_tree}
use Rattle.anb_close.proofs.Rows.{optional, both_some, built_some, place_at, row_term, mades_length, length_rows}
use Rattle.anb_close.proofs.Finding.{rows_length}
use Rattle.anb_close.proofs.Growing.{formed_at}
use Rattle.anb_close.proofs.Closing.{opened_row}
use Rattle.anb_close.proofs.Sound.{sound, formed_all}
use Rattle.anb_close.proofs.Origins.{recipe_at, each_part}
use Rattle.anb_basis.specs.declared.check.Check.{Check}
use Rattle.anb_basis.specs.declared.check.Check.TheVariants.{Open, Equal}
use Rattle.anb_basis.specs.Checks.{entry_recipe, demand_of, demands_of, IsComparedWith, Fits, AreAll, AllFit, trues}
use Rattle.anb_basis.proofs.Exact.{enough, in_terms}
use Rattle.anb_plays.specs.Honest.{honest_all}
use Rattle.anb_unify.specs.Substitutions.{put_in, KeepsNames, AreNamed}
use Rattle.anb_accept.specs.Equations.{over_entries, entries_from, equation_of, own_equations, equations_of, heard_variables}
use Rattle.anb_unify.specs.Equations.{EquationValue, Solves, IsSolution}
use Rattle.anb_unify.proofs.Putting.{put_twice, put_each, put_node, map_put_twice}
use Rattle.anb_unify.proofs.Steps.{ranged, ranged_gets, ranged_long}
use Rattle.anb_accept.proofs.Filling.{filled, label_values, label_value, label_values_long, values_held, own_solved}

pub both_hold : {A : Type 0} (P : A → Type 0) (xs ys : List A) → AllByRecursion P xs → AllByRecursion P ys → AllByRecursion P (xs ++ ys)
both_hold P [] ys h g = g
both_hold P (x ∷ xs) ys h g = (h.0, both_hold P xs ys h.1 g)

pub either_holds : {A : Type 0} (P : A → Type 0) (xs ys : List A) → AllByRecursion P (xs ++ ys) → AllByRecursion P xs × AllByRecursion P ys
either_holds P [] ys h = (tt, h)
either_holds P (x ∷ xs) ys h = let r = either_holds P xs ys h.1 in ((h.0, r.0), r.1)

map_twice : (f : Tree → Tree) (g : ℕ → Tree) (ns : List ℕ) → map f (map g ns) ≡ map (λ n. f (g n)) ns
map_twice f g [] = refl
map_twice f g (n ∷ ns) = ap (λ l. f (g n) ∷ l) (map_twice f g ns)

module _ (has : Op → Bool) (names : ℕ) where
  abbrev m : Meaning Tree
  m = terms_over has

  -- the term of a composition, where `ent` gives those of the entries
  module _ (ent : ℕ → Tree) (vs : List Tree) (rcs : List RecipeTree) where
    module _ (leaves : (i : ℕ) (b : Tree) → value m vs (unwrap_or (slice_get rcs i) (label 0)) ≡ Some b → b ≡ ent i) where
      mutual
        made_is : (mk b : Tree) → value m vs (made_recipe rcs mk) ≡ Some b → b ≡ put_in ent mk
        made_is (leaf i) b e = leaves i b e
        made_is (node o ms) b e =
            let x = bound (build_if m o) (values m vs (mades_recipes rcs ms)) b e in
            let g = guarded (has o) (length x.0 == arity o) (Some (node o (trees_of x.0))) b x.2 in
            let s : node o (trees_of x.0) ≡ b = (let q = g.2 in cc) in
            sym s ∙ ap (λ l. node o (trees_of l)) (mades_are ms x.0 x.1)

        mades_are : (ms : Trees) (bs : List Tree) → values m vs (mades_recipes rcs ms) ≡ Some bs → bs ≡ honest_all terms ent ms
        mades_are none bs e = let s : [] ≡ bs = cc in sym s
        mades_are (more mk ms) bs e =
            let c = consed (value m vs (made_recipe rcs mk)) (values m vs (mades_recipes rcs ms)) bs e in
            c.4 ∙ ap (λ x. x ∷ c.1) (made_is mk c.0 c.2) ∙ ap (λ l. put_in ent mk ∷ l) (mades_are ms c.1 c.3)

    module _ (rs : List (Option Tree)) (stands : (t : Tree) (i : ℕ) → place rs t ≡ Some i → value m vs (unwrap_or (slice_get rcs i) (label 0)) ≡ Some (ent i)) where
      built_value : (o : Op) (ms : Trees) (n : ℕ) → IsTrue (has o) → n ≡ arity o → length (honest_all terms ent ms) ≡ n → values m vs (mades_recipes rcs ms) ≡ Some (honest_all terms ent ms)
          → value m vs (build o (mades_recipes rcs ms)) ≡ Some (put_in ent (node o ms))
      built_value o ms n h l c e = rw (e, h, eq-eqb (length (honest_all terms ent ms)) (arity o) (c ∙ l))

      length_mades : (ts ms : Trees) → mades_for rs ts ≡ Some ms → length (honest_all terms ent ms) ≡ length (list_of ts)
      length_mades none ms e = let s : none ≡ ms = cc in ap (λ x. length (honest_all terms ent x)) (sym s)
      length_mades (more t ts) ms e = let h = both_some (made_for rs t) (mades_for rs ts) ms e in ap (λ x. length (honest_all terms ent x)) (sym h.4) ∙ ap suc (length_mades ts h.1 h.3)

      mutual
        made_value : (t mk : Tree) → IsFormed has t → made_for rs t ≡ Some mk → value m vs (made_recipe rcs mk) ≡ Some (put_in ent mk)
        made_value (leaf n) mk f e = let h = mapped_from leaf (place rs (leaf n)) mk e in subst (λ x. value m vs (made_recipe rcs x) ≡ Some (put_in ent x)) h.2 (stands (leaf n) h.0 h.1)
        made_value (node o ts) mk f e =
            ⊎_elim (λ (i, p). let s : leaf i ≡ mk = (let q = rw p at e in cc) in subst (λ x. value m vs (made_recipe rcs x) ≡ Some (put_in ent x)) s (stands (node o ts) i p))
            (λ p.
            let h = built_some o (length (list_of ts) == arity o) (mades_for rs ts) mk (rw p at e) in
            subst (λ x. value m vs (made_recipe rcs x) ≡ Some (put_in ent x)) h.3
            (built_value o h.1 (length (list_of ts)) f.0 f.1 (length_mades ts h.1 h.2) (mades_value ts h.1 f.2 h.2)))
            (optional (place rs (node o ts)))

        mades_value : (ts ms : Trees) → AreFormed has ts → mades_for rs ts ≡ Some ms → values m vs (mades_recipes rcs ms) ≡ Some (honest_all terms ent ms)
        mades_value none ms f e = let s : none ≡ ms = cc in subst (λ x. values m vs (mades_recipes rcs x) ≡ Some (honest_all terms ent x)) s refl
        mades_value (more t ts) ms f e =
            let h = both_some (made_for rs t) (mades_for rs ts) ms e in
            let a = made_value t h.0 f.0 h.2 in
            let b = mades_value ts h.1 f.1 h.3 in
            subst (λ x. values m vs (mades_recipes rcs x) ≡ Some (honest_all terms ent x)) h.4 (rw (a, b))

  module _ (es : List Entry) (cs : List Check) (known : IsKnown es) (formed : AreFormed has (trees_of (labels_of es))) where
    terms_formed : AreFormed has (trees_of (terms_of es))
    terms_formed = formed_all has [] es tt known.follow formed

    pub gives : (k : ℕ) (t : Tree) → slice_get (terms_of es) k ≡ Some t → value m (labels_of es) (entry_recipe es k) ≡ Some t
    gives k t at = (sound has es known.follow terms_formed).gives k t at

    -- the opening that an entry is a part of
    record Opening (k : ℕ) (o : Op) (j : ℕ) (ks : List Tree) (i : ℕ) : Type 0 where
      first : ℕ
      counts : k ≡ first + j
      within : j < arity o - keys o
      can : IsTrue (undoable o)
      in_has : IsTrue (has o)
      earlier : i < first
      few_keys : length ks ≡ keys o
      front : List Tree
      front_long : length front ≡ first
      key_terms : List Tree
      keys_formed : AreFormed has (trees_of key_terms)
      keys_made : mades_for (rows_of front) (trees_of key_terms) ≡ Some (trees_of ks)
      parts : (b : ℕ) → b < arity o - keys o → (e : Entry) × (slice_get es (first + b) ≡ Some e) × (e.origin ≡ Part o b ks i)

    opening : (k : ℕ) (e : Entry) (o : Op) (j : ℕ) (ks : List Tree) (i : ℕ) → slice_get es k ≡ Some e → e.origin ≡ Part o j ks i → Opening k o j ks i
    opening k e o j ks i at is =
        let p = known.parted k e o j ks i at is in
        let q = p.opened in
        let row = opened_row es i p.first q in
        let own = row_term (terms_of es) i (node q.op q.operands) row in
        let f = formed_at has (terms_of es) i (node q.op q.operands) terms_formed own in
        let kts = take (keys q.op) (list_of q.operands) in
        let n : length (drop (keys q.op) (list_of q.operands)) ≡ arity q.op - keys q.op = omega (arith, length-drop (keys q.op) (list_of q.operands), f.1) in
        let few : length q.keys_made ≡ keys q.op =
        ap length (sym (list_of-trees_of q.keys_made)) ∙ mades_length (rows q.front) (trees_of kts) (trees_of q.keys_made) q.made ∙ ap length (list_of-trees_of kts) ∙ length-take-le (keys q.op) (list_of q.operands) (omega (arith, keys_fit q.op, f.1)) in
        let P : Op → List Tree → Type 0 = λ o ks. Opening k o j ks i in
        let all : Opening k q.op j q.keys_made i = record {
          first = p.first;
          counts = p.counts;
          within = omega (arith, p.within, n);
          can = q.can;
          in_has = f.0;
          earlier = omega (arith, got_within (rows q.front) i _ q.own, rows_length q.front, q.at);
          few_keys = few;
          front = terms_of q.front;
          front_long = length-map q.front (λ (y : Entry). tree_of y.term) ∙ q.at;
          key_terms = kts;
          keys_formed = formed_take has (keys q.op) (list_of q.operands) (formed_items has q.operands f.2);
          keys_made = q.made;
          parts = λ b h.
              let t = slice_get-there (drop (keys q.op) (list_of q.operands)) b (omega (arith, h, n)) in
              let z : 0 + b ≡ b = omega arith in
              (record { origin = Part q.op (0 + b) q.keys_made i; term = term_of t.0 }, each_part es i p.first q b t.0 t.1, ap (λ x. Part q.op x q.keys_made i) z);
        } in
        subst (λ x. P x ks) p.op_is (subst (λ x. P q.op x) p.keys_are all)

    part_recipe : (k : ℕ) (e : Entry) (o : Op) (j : ℕ) (ks : List Tree) (i : ℕ) → slice_get es k ≡ Some e → e.origin ≡ Part o j ks i → entry_recipe es k ≡ part o j (mades_recipes (recipes es) (trees_of ks)) (entry_recipe es i)
    part_recipe k e o j ks i at is = recipe_at es known k e at ∙ ap (recipe_for (recipes es)) is

    label_recipe : (k : ℕ) (e : Entry) (n : ℕ) → slice_get es k ≡ Some e → e.origin ≡ Label n → entry_recipe es k ≡ label n
    label_recipe k e n at is = recipe_at es known k e at ∙ ap (recipe_for (recipes es)) is

    part_value : (vs : List Tree) (o : Op) (j : ℕ) (rs : RecipeTrees) (r : RecipeTree) (kv : List Tree) (v : Tree) (ps : List Tree) (b : Tree) → has o ≡ true → length kv ≡ keys o → values m vs rs ≡ Some kv → value m vs r ≡ Some v
        → parts_of o kv v ≡ Some ps → slice_get ps j ≡ Some b → value m vs (part o j rs r) ≡ Some b
    part_value vs o j rs r kv v ps b h n a c u at = rw (a, c) (part_is m o j kv ps v b h n u at)

    -- ---- what a role takes solves its equations

    module _ (vs : List Tree) (agree : Agree m (labels_of es) vs) (fits : AllFit es cs) where
      worth : (k : ℕ) (t : Tree) → slice_get (terms_of es) k ≡ Some t → (b : Tree) × (value m vs (entry_recipe es k) ≡ Some b)
      worth k t at = let h = agree.one (entry_recipe es k) (entry_recipe es k) t (gives k t at) (gives k t at) in (h.0, h.1)

      pub worths : ℕ → Tree
      worths n = cond (nat_lt n names) (leaf n) (unwrap_or (value m vs (entry_recipe es (n - names))) (leaf 0))

      pub worths_keep : KeepsNames names worths
      unfolding worths
      worths_keep n h = rw (lt-ltb n names h)

      pub worths_entry : (k : ℕ) (b : Tree) → value m vs (entry_recipe es k) ≡ Some b → worths (names + k) ≡ b
      unfolding worths
      worths_entry k b e =
          let z : names + k - names ≡ k = omega arith in
          rw (le-ltb (names + k) names (omega arith), z, e)

      ent : ℕ → Tree
      ent i = worths (names + i)

      leaves : (i : ℕ) (b : Tree) → value m vs (unwrap_or (slice_get (recipes es) i) (label 0)) ≡ Some b → b ≡ worths (names + i)
      leaves i b e = sym (worths_entry i b e)

      over : (mk b : Tree) → value m vs (made_recipe (recipes es) mk) ≡ Some b → put_in worths (over_entries names mk) ≡ b
      over mk b e = put_twice worths (λ i. leaf (names + i)) mk ∙ sym (made_is (λ i. worths (names + i)) vs (recipes es) leaves mk b e)

      opens_solved : (x : EquationValue) (f : ℕ) (e : Entry) (o : Op) (ks : List Tree) (i : ℕ) → slice_get es f ≡ Some e → e.origin ≡ Part o 0 ks i
          → worths (names + i) ≡ put_in worths (node o (trees_of (map (over_entries names) ks ++ entries_from names f (arity o - keys o))))
      opens_solved x f e o ks i at is =
          let rs = mades_recipes (recipes es) (trees_of ks) in
          let op = opening f e o 0 ks i at is in
          let f_is : op.first ≡ f = omega (arith, op.counts) in
          let w = worth f (tree_of e.term) (slice_get-map (λ (y : Entry). tree_of y.term) es f e at) in
          let p = part_parts m vs o 0 rs (entry_recipe es i) w.0 (ap (value m vs) (sym (part_recipe f e o 0 ks i at is)) ∙ w.1) in
          let kv = p.0 in
          let ps = p.2 in
          let are = parts_are o kv p.1 ps p.7 in
          let keys_are : map (put_in worths) (map (over_entries names) ks) ≡ kv =
          map_put_twice worths (λ i. leaf (names + i)) ks ∙ sym (put_each (λ i. worths (names + i)) ks) ∙ sym (mades_are (λ i. worths (names + i)) vs (recipes es) leaves (trees_of ks) kv p.5) in
          let long : length ps ≡ arity o - keys o = omega (arith, are.2, length-append kv ps, p.4) in
          let parts_here : map (put_in worths) (entries_from names f (arity o - keys o)) ≡ ps =
          map_twice (put_in worths) (λ j. leaf (names + (f + j))) (range_with_len 0 (arity o - keys o)) ∙
          ranged (λ j. worths (names + (f + j))) 0 (arity o - keys o) ps long (λ j y at_j.
          let z : 0 + j ≡ j = omega arith in
          let q = op.parts j (omega (arith, got_within ps j y at_j, long)) in
          let at_f : slice_get es (f + j) ≡ Some q.0 = ap (λ n. slice_get es (n + j)) (sym f_is) ∙ q.1 in
          let v = ap (value m vs) (part_recipe (f + j) q.0 o j ks i at_f q.2) ∙ part_value vs o j rs (entry_recipe es i) kv p.1 ps y p.3 p.4 p.5 p.6 p.7 at_j in
          ap (λ n. worths (names + (f + n))) z ∙ worths_entry (f + j) y v) in
          let both : map (put_in worths) (map (over_entries names) ks ++ entries_from names f (arity o - keys o)) ≡ kv ++ ps =
          map-append (put_in worths) (map (over_entries names) ks) (entries_from names f (arity o - keys o)) ∙ ap (λ l. l ++ map (put_in worths) (entries_from names f (arity o - keys o))) keys_are ∙ ap (λ l. kv ++ l) parts_here in
          worths_entry i p.1 p.6 ∙ are.1 ∙ ap (λ l. node o (trees_of l)) (sym both) ∙ sym (put_node worths o (map (over_entries names) ks ++ entries_from names f (arity o - keys o)))

      equal_solved : (i : ℕ) (w : Tree) → holds m (labels_of es) (equals (entry_recipe es i) (made_recipe (recipes es) w)) ≡ true → worths (names + i) ≡ put_in worths (over_entries names w)
      equal_solved i w h =
          let a = alike_are m (value m (labels_of es) (entry_recipe es i)) (value m (labels_of es) (made_recipe (recipes es) w)) h in
          let b = agree.one (entry_recipe es i) (made_recipe (recipes es) w) a.0 a.2 (a.3 ∙ ap Some (sym (tree_same a.0 a.1 a.4))) in
          worths_entry i b.0 b.1 ∙ sym (over w b.0 b.2)

      check_solved : (c : Check) → Fits es c → Solves names worths (equation_of names c)
      check_solved (Open x) (e, at, is) = opens_solved (equation_of names (Open x)) x.first e x.op x.keys x.of at is
      check_solved (Equal i w) fit =
          let one : AllFit es (Equal i w ∷ []) = λ k c e. only k c e in
          let h = in_terms m es (Equal i w ∷ []) known one formed in
          equal_solved i (made_tree w) (and_parts (holds m (labels_of es) (demand_of es (Equal i w))) true h).0
        where
          only : (k : ℕ) (c : Check) → slice_get (Equal i w ∷ []) k ≡ Some c → Fits es c
          only zero c e = let s : Equal i w ≡ c = cc in subst (Fits es) s fit
          only (suc k) c e = cc

      checks_solved : (ds : List Check) → ((k : ℕ) (c : Check) → slice_get ds k ≡ Some c → Fits es c) → AllByRecursion (Solves names worths) (map (equation_of names) ds)
      checks_solved [] h = tt
      checks_solved (d ∷ ds) h = (check_solved d (h 0 d refl), checks_solved ds (λ k. h (suc k)))

      labels_held : (k n : ℕ) (e : Entry) → slice_get es k ≡ Some e → e.origin ≡ Label n → slice_get vs n ≡ Some (worths (names + k))
      labels_held k n e at is =
          let w = worth k (tree_of e.term) (slice_get-map (λ (y : Entry). tree_of y.term) es k e at) in
          let here : slice_get vs n ≡ Some w.0 = sym (ap (value m vs) (label_recipe k e n at is)) ∙ w.1 in
          here ∙ ap Some (sym (worths_entry k w.0 w.1))

      -- the values of entries solve all equations, and what is heard is what came
      pub worths_solve : (H : List Bool) (xs : List Tree) → length H ≡ length (labels_of es) → AreNamed names (trees_of (labels_of es)) → trues H ≡ length xs → vs ≡ filled (labels_of es) H xs
          → IsSolution names (equations_of names H es cs) worths × (map worths (heard_variables names H 0 es) ≡ xs)
      worths_solve H xs long named count is =
          let held = values_held names worths vs es known.follow agree.long labels_held in
          let own = own_solved names H es known.follow long named worths worths_keep xs count (held ∙ is) in
          (record { keeps = worths_keep; solves = both_hold (Solves names worths) (own_equations H 0 es) (map (equation_of names) cs) own.0 (checks_solved cs fits) }, own.1)

    -- ---- what solves its equations is taken

    module _ (put : ℕ → Tree) (all : AreAll es cs) (fits : AllFit es cs) (solved : AllByRecursion (Solves names put) (map (equation_of names) cs)) where
      vals : List Tree
      vals = label_values names put 0 es

      ent_of : ℕ → Tree
      ent_of i = put (names + i)

      over_is : (mk : Tree) → put_in put (over_entries names mk) ≡ put_in (λ i. put (names + i)) mk
      over_is mk = put_twice put (λ i. leaf (names + i)) mk

      -- an opening, as its equation says
      record Opened (f : ℕ) (o : Op) (ks : List Tree) (i : ℕ) : Type 0 where
        parts_here : List Tree
        whole : put (names + i) ≡ node o (trees_of (honest_all terms (λ i. put (names + i)) (trees_of ks) ++ parts_here))
        at : (j : ℕ) → j < arity o - keys o → slice_get parts_here j ≡ Some (put (names + (f + j)))
        long : length parts_here ≡ arity o - keys o
        keys_long : length (honest_all terms (λ i. put (names + i)) (trees_of ks)) ≡ length ks

      opened_by : (c f : ℕ) (o : Op) (ks : List Tree) (i : ℕ) → slice_get cs c ≡ Some (Open (record { op = o; keys = ks; of = i; first = f })) → Opened f o ks i
      opened_by c f o ks i at =
          let q = each_got (Solves names put) (map (equation_of names) cs) c _ solved (slice_get-map (equation_of names) cs c _ at) in
          let n = arity o - keys o in
          let ps = map (λ j. put (names + (f + j))) (range_with_len 0 n) in
          let e = put_each (λ i. put (names + i)) ks in
          let keys_are : map (put_in put) (map (over_entries names) ks) ≡ honest_all terms (λ i. put (names + i)) (trees_of ks) = map_put_twice put (λ i. leaf (names + i)) ks ∙ sym e in
          let parts_are : map (put_in put) (entries_from names f n) ≡ ps = map_twice (put_in put) (λ j. leaf (names + (f + j))) (range_with_len 0 n) in
          let both : map (put_in put) (map (over_entries names) ks ++ entries_from names f n) ≡ honest_all terms (λ i. put (names + i)) (trees_of ks) ++ ps =
          map-append (put_in put) (map (over_entries names) ks) (entries_from names f n) ∙ ap (λ l. l ++ map (put_in put) (entries_from names f n)) keys_are ∙ ap (λ l. honest_all terms (λ i. put (names + i)) (trees_of ks) ++ l) parts_are in
          record {
            parts_here = ps;
            whole = q ∙ put_node put o (map (over_entries names) ks ++ entries_from names f n) ∙ ap (λ l. node o (trees_of l)) both;
            at = λ j h. (let z : f + (0 + j) ≡ f + j = omega arith in ranged_gets (λ j. put (names + (f + j))) 0 n j h ∙ ap (λ x. Some (put (names + x))) z);
            long = ranged_long (λ j. put (names + (f + j))) 0 n;
            keys_long = ap length e ∙ length-map ks (put_in (λ i. put (names + i)));
          }

      Held : ℕ → Type 0
      Held k = value m vals (entry_recipe es k) ≡ Some (put (names + k))

      key_values : (k : ℕ) (o : Op) (j : ℕ) (ks : List Tree) (i : ℕ) (op : Opening k o j ks i) → ((n : ℕ) → n < op.first → value m vals (entry_recipe es n) ≡ Some (put (names + n)))
          → values m vals (mades_recipes (recipes es) (trees_of ks)) ≡ Some (honest_all terms (λ i. put (names + i)) (trees_of ks))
      key_values k o j ks i op before =
          mades_value (λ i. put (names + i)) vals (recipes es) (rows_of op.front)
          (λ t n p. before n (omega (arith, got_within (rows_of op.front) n (Some t) (place_at (rows_of op.front) t n p), length_rows [] op.front, op.front_long)))
          (trees_of op.key_terms) (trees_of ks) op.keys_formed op.keys_made

      undone_there : (o : Op) (kv ps : List Tree) (v : Tree) → IsTrue (undoable o) → length kv ≡ keys o → length ps ≡ arity o - keys o → v ≡ node o (trees_of (kv ++ ps)) → parts_of o kv v ≡ Some ps
      undone_there o kv ps v can n l is = ap (parts_of o kv) is ∙ parts_of_built o kv ps can n (omega (arith, n, l, length-append kv ps, keys_fit o))

      held_origin : (k : ℕ) (e : Entry) (x : Origin) → slice_get es k ≡ Some e → e.origin ≡ x → ((n : ℕ) → n < k → value m vals (entry_recipe es n) ≡ Some (put (names + n))) → value m vals (entry_recipe es k) ≡ Some (put (names + k))
      unfolding vals
      held_origin k e (Label n) at is before = ap (value m vals) (label_recipe k e n at is) ∙ label_value names put es k n e known.follow at is
      held_origin k e (Part o j ks i) at is before =
          let op = opening k e o j ks i at is in
          let z : op.first + 0 ≡ op.first = omega arith in
          let first = op.parts 0 (omega (arith, op.within)) in
          let c = all.opens op.first first.0 o ks i (ap (slice_get es) (sym z) ∙ first.1) first.2 in
          let q = opened_by c.0 op.first o ks i c.1 in
          let kv = honest_all terms (λ i. put (names + i)) (trees_of ks) in
          let n : length kv ≡ keys o = q.keys_long ∙ op.few_keys in
          let vk = key_values k o j ks i op (λ n h. before n (omega (arith, h, op.counts))) in
          let vi = before i (omega (arith, op.earlier, op.counts)) in
          ap (value m vals) (part_recipe k e o j ks i at is)
          ∙ part_value vals o j (mades_recipes (recipes es) (trees_of ks)) (entry_recipe es i) kv (put (names + i)) q.parts_here (put (names + (op.first + j))) op.in_has n vk vi (undone_there o kv q.parts_here (put (names + i)) op.can n q.long q.whole) (q.at j op.within)
          ∙ ap (λ x. Some (put (names + x))) (sym op.counts)

      held_below : (b k : ℕ) → k < b → k < length es → value m vals (entry_recipe es k) ≡ Some (put (names + k))
      held_below zero k h l = absurd (omega arith)
      held_below (suc b) k h l = let e = slice_get-there es k l in held_origin k e.0 e.0.origin e.1 refl (λ n g. held_below b n (omega arith) (omega arith))

      held : (k : ℕ) → k < length es → value m vals (entry_recipe es k) ≡ Some (put (names + k))
      held k l = held_below (suc k) k (omega arith) l

      stood : (t : Tree) (i : ℕ) → place (rows es) t ≡ Some i → value m vals (unwrap_or (slice_get (recipes es) i) (label 0)) ≡ Some (put (names + i))
      stood t i p = held i (omega (arith, got_within (rows es) i (Some t) (place_at (rows es) t i p), rows_length es))

      compared_value : (i : ℕ) (w : Tree) → IsComparedWith es i w → (i < length es) × (value m vals (made_recipe (recipes es) w) ≡ Some (put_in (λ i. put (names + i)) w))
      compared_value i w (inl (t, row, at, made)) = (
        omega (arith, got_within (terms_of es) i t at, length-map es (λ (y : Entry). tree_of y.term)),
        made_value (λ i. put (names + i)) vals (recipes es) (rows es) stood t w (formed_at has (terms_of es) i t terms_formed at) made,
      )
      compared_value i w (inr (o, us, ms, row, u, made, is)) =
          let at = row_term (terms_of es) i (node o us) row in
          let f = formed_at has (terms_of es) i (node o us) terms_formed at in (
            omega (arith, got_within (terms_of es) i (node o us) at, length-map es (λ (y : Entry). tree_of y.term)),
            subst (λ x. value m vals (made_recipe (recipes es) x) ≡ Some (put_in (λ i. put (names + i)) x)) is
                (built_value (λ i. put (names + i)) vals (recipes es) (rows es) stood o ms (length (list_of us)) f.0 f.1 (length_mades (λ i. put (names + i)) vals (recipes es) (rows es) stood us ms made) (mades_value (λ i. put (names + i)) vals (recipes es) (rows es) stood us ms f.2 made)),
          )

      opens_hold : (f : ℕ) (e : Entry) (o : Op) (ks : List Tree) (i : ℕ) → slice_get es f ≡ Some e → e.origin ≡ Part o 0 ks i → holds m vals (opens o (mades_recipes (recipes es) (trees_of ks)) (entry_recipe es i)) ≡ true
      opens_hold f e o ks i at is =
          let op = opening f e o 0 ks i at is in
          let within = got_within es f e at in
          let c = all.opens f e o ks i at is in
          let q = opened_by c.0 f o ks i c.1 in
          let kv = honest_all terms (λ i. put (names + i)) (trees_of ks) in
          let n : length kv ≡ keys o = q.keys_long ∙ op.few_keys in
          let vk = key_values f o 0 ks i op (λ n h. held n (omega (arith, h, op.counts, within))) in
          let vi = held i (omega (arith, op.earlier, op.counts, within)) in
          let u = undone_there o kv q.parts_here (put (names + i)) op.can n q.long q.whole in
          undoes (mades_recipes (recipes es) (trees_of ks)) (entry_recipe es i) o kv (put (names + i)) q.parts_here op.in_has n vk vi u
        where
          undoes : (rs : RecipeTrees) (r : RecipeTree) (o : Op) (kv : List Tree) (v : Tree) (ps : List Tree) → has o ≡ true → length kv ≡ keys o → values m vals rs ≡ Some kv → value m vals r ≡ Some v → parts_of o kv v ≡ Some ps → holds m vals (opens o rs r) ≡ true
          undoes rs r o kv v ps h n a b u = rw (a, b, h, eq-eqb (length kv) (keys o) n, u) refl

      alike_hold : (r s : RecipeTree) (v : Tree) → value m vals r ≡ Some v → value m vals s ≡ Some v → holds m vals (equals r s) ≡ true
      alike_hold r s v a b = rw (a, b) (tree_itself v)

      check_holds : (c : Check) → Fits es c → Solves names put (equation_of names c) → holds m vals (demand_of es c) ≡ true
      check_holds (Open x) (e, at, is) solves = opens_hold x.first e x.op x.keys x.of at is
      check_holds (Equal i w) fit solves =
          let v = compared_value i (made_tree w) fit in
          alike_hold (entry_recipe es i) (made_recipe (recipes es) (made_tree w)) (put (names + i)) (held i v.0) (v.1 ∙ ap Some (sym (over_is (made_tree w)) ∙ sym solves))

      checks_hold : (ds : List Check) → ((k : ℕ) (c : Check) → slice_get ds k ≡ Some c → Fits es c) → AllByRecursion (Solves names put) (map (equation_of names) ds) → all_hold m vals (demands_of es ds) ≡ true
      checks_hold [] h s = refl
      checks_hold (d ∷ ds) h s = rw (check_holds d (h 0 d refl) s.0) (checks_hold ds (λ k. h (suc k)) s.1)

      all_values : (xs : List Tree) → AllByRecursion (λ x. IsTrue (m.is_value x)) xs
      all_values [] = tt
      all_values (x ∷ xs) = (refl, all_values xs)

      pub solution_agrees : Agree m (labels_of es) (label_values names put 0 es)
      unfolding vals
      solution_agrees =
          enough m es cs known (free_lawful has) all formed vals (label_values_long names put es) (All-from_recursion (λ x. IsTrue (m.is_value x)) vals (all_values vals)) (checks_hold cs fits solved)
