-- Where all checks hold, the entries' values are those of the chosen compositions.
use Rattle.std.proofs.Common.{◌≡◌, ℕ, zero, suc, ◌+◌, ◌<◌, ◌≤◌, List, [], ◌∷◌, ◌++◌, length, map, take, drop, Bool, true, false, ◌&&◌, cond, IsTrue, Option, Some, None, refl, sym, ap, ◌∙◌, subst, arith, inl, inr, ⊎_elim, length-append, length-drop, length-take-le, take-append-drop, option_map}
use Rattle.std.specs.Prelude.{slice_get, option_and_then, ◌==◌}
use Rattle.std.specs.List.{All, AllByRecursion}
use Rattle.std.proofs.Math.Dec.{ltb}
use Rattle.std.proofs.lemmas.Bool.{eq-eqb, eqb-true, ltb-true, ltb-false, and_parts}
use Rattle.std.proofs.lemmas.List.{length-map, append-nil}
use Rattle.std.proofs.lemmas.List.Elements.{All-from_recursion, recursion_from_All}
use Rattle.std.proofs.lemmas.Option.{cond_some}
use Rattle.anb_lemmas.proofs.Options.{mapped_from}
use Rattle.anb_lemmas.proofs.Each.{each_got}
use Rattle.anb_lemmas.proofs.Lists.{got_within}
use Rattle.anb_term.specs.declared.term.Op.{Op}
use Rattle.anb_term.specs.declared.term.Op.TheVariants.{Hash, Mac, Seal, Wrap, Format}
use Rattle.anb_term.specs.Tree.{Tree, leaf, node, Trees, none, more, trees_of, list_of, tree_eqb, IsFormed, AreFormed}
use Rattle.anb_term.specs.View.{term_of, tree_of}
use Rattle.anb_term.specs.TreeSame.{list_of-trees_of, trees_of-list_of, tree_of-term_of}
use Rattle.anb_term.specs.Value.{Meaning, RecipeTree, RecipeTrees, label, build, part, value, values, build_if, part_if}
use Rattle.anb_term.specs.Operator.{arity, keys, undoable}
use Rattle.anb_term.specs.Lawful.{Lawful, AreValues}
use Rattle.anb_term.specs.FreeAlgebra.{terms}
use Rattle.anb_term.specs.Composes.{Among, Composes}
use Rattle.anb_close.specs.Rows.{place, made_for, mades_for, seen, made_recipe, mades_recipes}
use Rattle.anb_basis.specs.Chosen.{terms_in, found, chosen, Checked}
use Rattle.anb_term.specs.Agree.{Agree}
use Rattle.anb_close.proofs.Rows.{optional, both_some, built_some, place_at, place_own, row_term, made_worth, mades_worth, composes_made, compose_mades, entry_made, mades_length, row_not_none, row_among, place_among}
use Rattle.anb_term.proofs.Steps.{bound, consed}
use Rattle.anb_term.proofs.Lists.{all_take, slice_get-map, map-append, slice_get-last, slice_get-there, keys_fit, formed_items, formed_take}
use Rattle.anb_close.proofs.Composing.{from_all}
use Rattle.anb_basis.proofs.Chosen.{all_chosen}
use Rattle.anb_basis.proofs.Enough.{enough}
use Rattle.anb_close.specs.declared.entry.Entry.{Entry}
use Rattle.anb_close.specs.declared.entry.Origin.{Origin}
use Rattle.anb_close.specs.declared.entry.Origin.TheVariants.{Label, Part}
use Rattle.anb_close.specs.Entries.{rows, terms_of, labels_of, IsOpened, IsKnown, keys_for, Follow, OriginFits, part_entries, is_label}
use Rattle.anb_close.specs.Recipes.{recipe_for, recipes}
use Rattle.anb_close.proofs.Finding.{rows_length}
use Rattle.anb_close.proofs.Growing.{formed_at, formed_drop, keys_later, labels_append}
use Rattle.anb_close.proofs.Closing.{opened_row, entries_compose}
use Rattle.anb_close.proofs.Sound.{sound}
use Rattle.anb_close.proofs.Origins.{recipe_at, first_part, each_part}
use Rattle.anb_basis.specs.declared.check.Check.{Check}
use Rattle.anb_basis.specs.Checks.{entry_recipe, AreAll}
use Rattle.anb_basis.proofs.Meeting.{IsUndone, AllMeet}

-- the terms that stand somewhere, with values
abbrev pairs : {A : Type 0} → List (Option Tree) → List A → List (Tree × A)
pairs [] vs = []
pairs (r ∷ rs) [] = []
pairs (None ∷ rs) (v ∷ vs) = pairs rs vs
pairs (Some t ∷ rs) (v ∷ vs) = (t, v) ∷ pairs rs vs

pairs_terms : {A : Type 0} (rs : List (Option Tree)) (vs : List A) → length rs ≡ length vs → terms_in (pairs rs vs) ≡ seen rs
pairs_terms [] vs n = refl
pairs_terms (None ∷ rs) [] n = absurd (omega arith)
pairs_terms (Some t ∷ rs) [] n = absurd (omega arith)
pairs_terms (None ∷ rs) (v ∷ vs) n = pairs_terms rs vs (omega arith)
pairs_terms (Some t ∷ rs) (v ∷ vs) n = ap (λ l. t ∷ l) (pairs_terms rs vs (omega arith))

found_step : {A : Type 0} (b : Bool) (v x : A) (vs : List A) (o : Option A) (p : Option ℕ) (i : ℕ) → ((j : ℕ) → p ≡ Some j → slice_get vs j ≡ Some x → o ≡ Some x) → cond b (Some 0) (option_map suc p) ≡ Some i → slice_get (v ∷ vs) i ≡ Some x → cond b (Some v) o ≡ Some x
found_step true v x vs o p i h e at = let z : 0 ≡ i = cc in subst (λ n. slice_get (v ∷ vs) n ≡ Some x) (sym z) at
found_step false v x vs o p i h e at = let q = mapped_from suc p i e in h q.0 q.1 (subst (λ n. slice_get (v ∷ vs) n ≡ Some x) (sym q.2) at)

found_place : {A : Type 0} (rs : List (Option Tree)) (vs : List A) (t : Tree) (i : ℕ) (x : A) → length rs ≡ length vs → place rs t ≡ Some i → slice_get vs i ≡ Some x → found (pairs rs vs) t ≡ Some x
found_place [] vs t i x n p at = cc
found_place (None ∷ rs) [] t i x n p at = cc
found_place (Some u ∷ rs) [] t i x n p at = cc
found_place (None ∷ rs) (v ∷ vs) t i x n p at = let q = mapped_from suc (place rs t) i p in found_place rs vs t q.0 x (omega arith) q.1 (subst (λ n. slice_get (v ∷ vs) n ≡ Some x) (sym q.2) at)
found_place (Some u ∷ rs) (v ∷ vs) t i x n p at =
    let l : length rs ≡ length vs = omega arith in
    found_step (tree_eqb u t) v x vs (found (pairs rs vs) t) (place rs t) i (λ j q e. found_place rs vs t j x l q e) p at

none_step : {A : Type 0} (b : Bool) (v : A) (o : Option A) (p : Option ℕ) → (p ≡ None → o ≡ None) → cond b (Some 0) (option_map suc p) ≡ None → cond b (Some v) o ≡ None
none_step true v o p h e = cc
none_step false v o None h e = h refl
none_step false v o (Some i) h e = cc

unmapped : (o : Option ℕ) → option_map suc o ≡ None → o ≡ None
unmapped None e = refl
unmapped (Some i) e = cc

found_none : {A : Type 0} (rs : List (Option Tree)) (vs : List A) (t : Tree) → length rs ≡ length vs → place rs t ≡ None → found (pairs rs vs) t ≡ None
found_none [] vs t n p = refl
found_none (None ∷ rs) [] t n p = refl
found_none (Some u ∷ rs) [] t n p = refl
found_none (None ∷ rs) (v ∷ vs) t n p = found_none rs vs t (omega arith) (unmapped (place rs t) p)
found_none (Some u ∷ rs) (v ∷ vs) t n p = let l : length rs ≡ length vs = omega arith in none_step (tree_eqb u t) v (found (pairs rs vs) t) (place rs t) (found_none rs vs t l) p

at_all : {A : Type 0} (P : A → Type 0) (xs : List A) (i : ℕ) (x : A) → All P xs → slice_get xs i ≡ Some x → P x
at_all P xs i x h e = each_got P xs i x (recursion_from_All P xs h) e

chosen_found : {A : Type 0} (m : Meaning A) (d : A) (es : List (Tree × A)) (t : Tree) (x : A) → found es t ≡ Some x → chosen m d es t ≡ x
chosen_found m d es (leaf n) x e = rw e
chosen_found m d es (node o ts) x e = rw e

chosen_built : {A : Type 0} (m : Meaning A) (d : A) (es : List (Tree × A)) (o : Op) (ts : Trees) → found es (node o ts) ≡ None → chosen m d es (node o ts) ≡ m.built o (map (chosen m d es) (list_of ts))
chosen_built m d es o ts e = rw e (ap (m.built o) (all_chosen m d es ts))

same_list : {A B : Type 0} (g : B → A) (xs : List A) (ys : List B) → length xs ≡ length ys → ((j : ℕ) (y : B) → slice_get ys j ≡ Some y → slice_get xs j ≡ Some (g y)) → xs ≡ map g ys
same_list g [] [] n h = refl
same_list g [] (y ∷ ys) n h = absurd (omega arith)
same_list g (x ∷ xs) [] n h = absurd (omega arith)
same_list g (x ∷ xs) (y ∷ ys) n h =
    let a : x ≡ g y = (let e = h 0 y refl in cc) in
    let l : length xs ≡ length ys = omega arith in
    let b = same_list g xs ys l (λ j. h (suc j)) in cc

empty_trees : (us : Trees) → length (list_of us) ≡ 0 → us ≡ none
empty_trees none n = refl
empty_trees (more u us) n = absurd (omega arith)

-- an operator without parts takes no operands
bare : (o : Op) → IsTrue (undoable o) → arity o ≤ keys o → arity o ≡ 0
bare Hash u h = cc
bare Mac u h = cc
bare Seal u h = absurd (omega arith)
bare Wrap u h = absurd (omega arith)
bare (Format i a) u h = omega arith

-- the entry of a label
abbrev LabelEntry : List Entry → List Entry → ℕ → Tree → Type 0
LabelEntry before es n t = (k : ℕ) × (e : Entry) × (slice_get es k ≡ Some e) × (e.origin ≡ Label (length (labels_of before) + n)) × (tree_of e.term ≡ t)

label_last : (before : List Entry) (x : Entry) (b : Bool) → is_label x.origin ≡ b → labels_of (before ++ x ∷ []) ≡ labels_of before ++ cond b (tree_of x.term ∷ []) []
label_last before x b is = labels_append before (x ∷ []) ∙ ap (λ c. labels_of before ++ cond c (tree_of x.term ∷ []) []) is

label_step : (o : Origin) (before es : List Entry) (x : Entry) (n : ℕ) (t : Tree) → x.origin ≡ o → OriginFits (terms_of before) (length (labels_of before)) o (tree_of x.term)
    → slice_get (cond (is_label o) (tree_of x.term ∷ labels_of es) (labels_of es)) n ≡ Some t → ((n : ℕ) → slice_get (labels_of es) n ≡ Some t → LabelEntry (before ++ x ∷ []) es n t) → LabelEntry before (x ∷ es) n t
label_step (Label m) before es x zero t is fits e next =
    let n : length (labels_of before) ≡ length (labels_of before) + 0 = omega arith in
    (0, x, refl, is ∙ ap Label (fits ∙ n), let s : tree_of x.term ≡ t = cc in s)
label_step (Label m) before es x (suc n) t is fits e next =
    let h = next n e in
    let l = label_last before x true (ap is_label is) in
    let c : length (labels_of (before ++ x ∷ [])) + n ≡ length (labels_of before) + suc n = omega (arith, ap length l, length-append (labels_of before) (tree_of x.term ∷ [])) in
    (suc h.0, h.1, h.2, h.3 ∙ ap Label c, h.4)
label_step (Part o j ks i) before es x n t is fits e next =
    let h = next n e in
    let l = label_last before x false (ap is_label is) in
    let c : length (labels_of (before ++ x ∷ [])) + n ≡ length (labels_of before) + n = omega (arith, ap length l, ap length (append-nil (labels_of before))) in
    (suc h.0, h.1, h.2, h.3 ∙ ap Label c, h.4)

label_entry : (before es : List Entry) → Follow before es → (n : ℕ) (t : Tree) → slice_get (labels_of es) n ≡ Some t → LabelEntry before es n t
label_entry before [] f n t e = cc
label_entry before (x ∷ es) f n t e = label_step x.origin before es x n t refl f.0 e (λ k at. label_entry (before ++ x ∷ []) es f.1 k t at)

-- entry k is part j of an entry that was opened
record PartHere (es : List Entry) (k : ℕ) (e : Entry) (i f : ℕ) (o : IsOpened es i f) (j : ℕ) : Type 0 where
  term : Tree
  here : slice_get (drop (keys o.op) (list_of o.operands)) j ≡ Some term
  is : tree_of e.term ≡ term
  origin : e.origin ≡ Part o.op j o.keys_made i
  earlier : i < k
  later : f ≤ k
  within : j < length (drop (keys o.op) (list_of o.operands))

part_here : (es : List Entry) (k : ℕ) (e : Entry) (i f : ℕ) (o : IsOpened es i f) (j : ℕ) → slice_get es k ≡ Some e → k ≡ f + j → j < length (drop (keys o.op) (list_of o.operands)) → PartHere es k e i f o (0 + j)
part_here es k e i f o j at is h =
    let z : 0 + j ≡ j = omega arith in
    let t = slice_get-there (drop (keys o.op) (list_of o.operands)) j h in
    let p = each_part es i f o j t.0 t.1 in
    let q : slice_get es (f + j) ≡ Some e = ap (slice_get es) (sym is) ∙ at in
    let same : record { origin = Part o.op (0 + j) o.keys_made i; term = term_of t.0 } ≡ e = cc in
    record {
      term = t.0;
      here = ap (slice_get (drop (keys o.op) (list_of o.operands))) z ∙ t.1;
      is = ap (λ (y : Entry). tree_of y.term) (sym same) ∙ tree_of-term_of t.0;
      origin = ap (λ (y : Entry). y.origin) (sym same);
      earlier = omega (arith, got_within (rows o.front) i _ o.own, rows_length o.front, o.at);
      later = omega arith;
      within = omega arith;
    }

module _ {A : Type 0} (m : Meaning A) (lawful : Lawful m) (vs : List A) (are_values : AreValues m vs) where
  abbrev IsGood : A → Type 0
  IsGood v = IsTrue (m.is_value v)

  -- what a chosen composition is worth is a value, where the entries' are
  module _ (rs : List (Option Tree)) (rcs : List RecipeTree) (good : (t : Tree) (i : ℕ) → place rs t ≡ Some i → (v : A) → value m vs (made_recipe rcs (leaf i)) ≡ Some v → IsGood v) where
    built_good : (o : Op) (xs : List A) (v : A) → AllByRecursion IsGood xs → build_if m o xs ≡ Some v → IsGood v
    built_good o xs v h e =
        let c = cond_some (m.has o && (length xs == arity o)) (m.built o xs) v e in
        let d = and_parts (m.has o) (length xs == arity o) c.0 in
        subst IsGood c.1 (lawful.builds o xs d.0 (eqb-true _ _ d.1) (All-from_recursion IsGood xs h))

    mutual
      made_good : (t mk : Tree) → made_for rs t ≡ Some mk → (v : A) → value m vs (made_recipe rcs mk) ≡ Some v → IsGood v
      made_good (leaf n) mk e v h = let p = mapped_from leaf (place rs (leaf n)) mk e in good (leaf n) p.0 p.1 v (subst (λ x. value m vs (made_recipe rcs x) ≡ Some v) (sym p.2) h)
      made_good (node o ts) mk e v h =
          ⊎_elim (λ (i, p). let s : leaf i ≡ mk = (let q = rw p at e in cc) in good (node o ts) i p v (subst (λ x. value m vs (made_recipe rcs x) ≡ Some v) (sym s) h))
          (λ p.
          let q = built_some o (length (list_of ts) == arity o) (mades_for rs ts) mk (rw p at e) in
          let b = bound (build_if m o) (values m vs (mades_recipes rcs q.1)) v (subst (λ x. value m vs (made_recipe rcs x) ≡ Some v) (sym q.3) h) in
          built_good o b.0 v (mades_good ts q.1 q.2 b.0 b.1) b.2)
          (optional (place rs (node o ts)))

      mades_good : (ts ms : Trees) → mades_for rs ts ≡ Some ms → (xs : List A) → values m vs (mades_recipes rcs ms) ≡ Some xs → AllByRecursion IsGood xs
      mades_good none ms e xs h =
          let s : none ≡ ms = cc in
          let z : ◌≡◌ {A = Option (List A)} (Some []) (Some xs) = subst (λ x. values m vs (mades_recipes rcs x) ≡ Some xs) (sym s) h in
          let n : [] ≡ xs = cc in subst (AllByRecursion IsGood) n tt
      mades_good (more t ts) ms e xs h =
          let q = both_some (made_for rs t) (mades_for rs ts) ms e in
          let c = consed (value m vs (made_recipe rcs q.0)) (values m vs (mades_recipes rcs q.1)) xs (subst (λ x. values m vs (mades_recipes rcs x) ≡ Some xs) (sym q.4) h) in
          subst (AllByRecursion IsGood) (sym c.4) (made_good t q.0 q.2 c.0 c.2, mades_good ts q.1 q.3 c.1 c.3)

  values_count : (rcs : List RecipeTree) (ms : Trees) (xs : List A) → values m vs (mades_recipes rcs ms) ≡ Some xs → length xs ≡ length (list_of ms)
  values_count rcs none xs h = let n : [] ≡ xs = cc in sym (ap length n)
  values_count rcs (more x ms) xs h = let c = consed (value m vs (made_recipe rcs x)) (values m vs (mades_recipes rcs ms)) xs h in ap length c.4 ∙ ap suc (values_count rcs ms c.1 c.3)

  module _ (es : List Entry) (cs : List Check) (known : IsKnown es) (all : AreAll es cs) (long : length vs ≡ length (labels_of es)) (labels_formed : AreFormed m.has (trees_of (labels_of es))) (hold : AllMeet m vs es cs) where
    -- what is known of an entry's value
    record Worth (k : ℕ) : Type 0 where
      worth : A
      is : value m vs (entry_recipe es k) ≡ Some worth
      good : IsGood worth
      formed : (t : Tree) → slice_get (terms_of es) k ≡ Some t → IsFormed m.has t

    -- the check of an opening
    undone : (i f : ℕ) (o : IsOpened es i f) → IsUndone m vs o.op (mades_recipes (recipes es) (trees_of o.keys_made)) (entry_recipe es i)
    undone i f o =
        let p = first_part es i f o in
        let c = all.opens f p.0 o.op o.keys_made i p.1 p.2 in
        hold c.0 _ c.1

    opened_key_count : (i f : ℕ) (o : IsOpened es i f) (xs : List A) → length (list_of o.operands) ≡ arity o.op → values m vs (mades_recipes (recipes es) (trees_of o.keys_made)) ≡ Some xs → length xs ≡ keys o.op
    opened_key_count i f o xs n h =
        let kv = take (keys o.op) (list_of o.operands) in
        values_count (recipes es) (trees_of o.keys_made) xs h ∙ mades_length (rows o.front) (trees_of kv) (trees_of o.keys_made) o.made ∙ ap length (list_of-trees_of kv) ∙ length-take-le (keys o.op) (list_of o.operands) (omega (arith, keys_fit o.op))

    -- the parts of an opening
    record Opening (i f : ℕ) (o : IsOpened es i f) : Type 0 where
      keys_of : List A
      of : A
      parts : List A
      have_keys : values m vs (mades_recipes (recipes es) (trees_of o.keys_made)) ≡ Some keys_of
      has_of : value m vs (entry_recipe es i) ≡ Some of
      undoes : m.undone o.op keys_of of ≡ Some parts
      key_count : length keys_of ≡ keys o.op
      builds : m.built o.op (keys_of ++ parts) ≡ of
      count : length (keys_of ++ parts) ≡ arity o.op
      good : AllByRecursion IsGood parts

    opening : (i f : ℕ) (o : IsOpened es i f) → IsFormed m.has (node o.op o.operands) → ((v : A) → value m vs (entry_recipe es i) ≡ Some v → IsGood v)
        → ((t : Tree) (j : ℕ) → place (rows o.front) t ≡ Some j → (v : A) → value m vs (made_recipe (recipes es) (leaf j)) ≡ Some v → IsGood v) → Opening i f o
    opening i f o formed good_of good_keys =
        let u = undone i f o in
        let n = opened_key_count i f o u.keys_are formed.1 u.have_keys in
        let gk = mades_good (rows o.front) (recipes es) good_keys (trees_of (take (keys o.op) (list_of o.operands))) (trees_of o.keys_made) o.made u.keys_are u.have_keys in
        let l = lawful.undoes o.op u.keys_are u.parts u.of o.can formed.0 n (All-from_recursion IsGood u.keys_are gk) (good_of u.of u.has_of) u.undoes in
        record {
          keys_of = u.keys_are;
          of = u.of;
          parts = u.parts;
          have_keys = u.have_keys;
          has_of = u.has_of;
          undoes = u.undoes;
          key_count = n;
          builds = l.0;
          count = l.1;
          good = recursion_from_All IsGood u.parts l.2;
        }

    label_value : (k n : ℕ) (t : Tree) → entry_recipe es k ≡ label n → slice_get (terms_of es) k ≡ Some t → slice_get (labels_of es) n ≡ Some t
    label_value k n t is at = ap (value terms (labels_of es)) (sym is) ∙ (sound (λ o. true) es known.follow known.formed).gives k t at

    part_value : (o : Op) (j : ℕ) (rs : RecipeTrees) (r : RecipeTree) (kv : List A) (v : A) → values m vs rs ≡ Some kv → value m vs r ≡ Some v → value m vs (part o j rs r) ≡ part_if m o j kv v
    part_value o j rs r kv v e f = rw (e, f)

    part_given : (o : Op) (j : ℕ) (kv : List A) (v : A) (ps : List A) (w : A) → IsTrue (m.has o) → length kv ≡ keys o → m.undone o kv v ≡ Some ps → slice_get ps j ≡ Some w → part_if m o j kv v ≡ Some w
    part_given o j kv v ps w has n u at = rw (has, eq-eqb (length kv) (keys o) n, u) at

    -- the value of a part
    by_part : (k : ℕ) (e : Entry) (i f : ℕ) (o : IsOpened es i f) (j : ℕ) → slice_get es k ≡ Some e → PartHere es k e i f o j → ((i : ℕ) → i < k → Worth i) → Worth k
    by_part k e i f o j at h before =
        let w = before i h.earlier in
        let own = row_term (terms_of es) i (node o.op o.operands) (opened_row es i f o) in
        let formed = w.formed (node o.op o.operands) own in
        let x = opening i f o formed (λ v e. let wi = w.is in let s : w.worth ≡ v = cc in subst IsGood s w.good)
        (λ t n q v e. let wn = before n (omega (arith, got_within (rows o.front) n (Some t) (place_at (rows o.front) t n q), rows_length o.front, o.at, h.later)) in let wi = wn.is in let s : wn.worth ≡ v = cc in subst IsGood s wn.good) in
        let v = slice_get-there x.parts j (omega (arith, x.count, x.key_count, formed.1, length-append x.keys_of x.parts, length-drop (keys o.op) (list_of o.operands), h.within)) in
        let r : entry_recipe es k ≡ part o.op j (mades_recipes (recipes es) (trees_of o.keys_made)) (entry_recipe es i) = recipe_at es known k e at ∙ ap (recipe_for (recipes es)) h.origin in
        record {
          worth = v.0;
          is = ap (value m vs) r ∙ part_value o.op j (mades_recipes (recipes es) (trees_of o.keys_made)) (entry_recipe es i) x.keys_of x.of x.have_keys x.has_of ∙ part_given o.op j x.keys_of x.of x.parts v.0 formed.0 x.key_count x.undoes v.1;
          good = each_got IsGood x.parts j v.0 x.good v.1;
          formed = λ t at_t.
              let same : h.term ≡ t = (let a = slice_get-map (λ (y : Entry). tree_of y.term) es k e at in let b = h.is in cc) in
              subst (IsFormed m.has) same (formed_at m.has (drop (keys o.op) (list_of o.operands)) j h.term (formed_drop m.has (keys o.op) (list_of o.operands) (formed_items m.has o.operands formed.2)) h.here);
        }

    -- an entry's value, where those of the entries before it are known
    by_origin : (k : ℕ) (e : Entry) (x : Origin) → slice_get es k ≡ Some e → e.origin ≡ x → ((i : ℕ) → i < k → Worth i) → Worth k
    by_origin k e (Label n) at is before =
        let at_term = slice_get-map (λ (y : Entry). tree_of y.term) es k e at in
        let r : entry_recipe es k ≡ label n = recipe_at es known k e at ∙ ap (recipe_for (recipes es)) is in
        let l = label_value k n (tree_of e.term) r at_term in
        let v = slice_get-there vs n (omega (arith, got_within (labels_of es) n (tree_of e.term) l)) in
        record {
          worth = v.0;
          is = ap (value m vs) r ∙ v.1;
          good = at_all IsGood vs n v.0 are_values v.1;
          formed = λ t at_t. let s : tree_of e.term ≡ t = cc in subst (IsFormed m.has) s (formed_at m.has (labels_of es) n (tree_of e.term) labels_formed l);
        }
    by_origin k e (Part o j ks i) at is before =
        let p = known.parted k e o j ks i at is in
        by_part k e i p.first p.opened (0 + j) at (part_here es k e i p.first p.opened j at p.counts p.within) before

    worth_at : (n k : ℕ) → k < n → k < length es → Worth k
    worth_at zero k h l = absurd (omega arith)
    worth_at (suc n) k h l = let e = slice_get-there es k l in by_origin k e.0 e.0.origin e.1 refl (λ i b. worth_at n i (omega arith) (omega arith))

    collect : (n : ℕ) → ((k : ℕ) → k < n → Worth k) → (xs : List A) × (length xs ≡ n) × ((k : ℕ) (v : A) → slice_get xs k ≡ Some v → (value m vs (entry_recipe es k) ≡ Some v) × IsGood v)
    collect zero h = ([], refl, λ k v e. cc)
    collect (suc n) h =
        let r = collect n (λ k l. h k (omega arith)) in
        let w = h n (omega arith) in (
          r.0 ++ w.worth ∷ [],
          omega (arith, length-append r.0 (w.worth ∷ []), r.1),
          λ k v e. ⊎_elim (λ old. r.2 k v old)
              (λ (a, b).
              let n_is : k ≡ n = omega (arith, a, r.1) in
              (ap (λ x. value m vs (entry_recipe es x)) n_is ∙ w.is ∙ ap Some b, subst IsGood b w.good))
              (slice_get-last r.0 w.worth v k e),
        )

    module _ (vals : List A) (count : length vals ≡ length es) (each : (k : ℕ) (v : A) → slice_get vals k ≡ Some v → (value m vs (entry_recipe es k) ≡ Some v) × IsGood v) (formed : (k : ℕ) (t : Tree) → slice_get (terms_of es) k ≡ Some t → IsFormed m.has t) where
      abbrev d : A
      d = m.built Hash []

      abbrev ps : List (Tree × A)
      ps = pairs (rows es) vals

      abbrev ch : Tree → A
      ch t = chosen m d ps t

      stood : length (rows es) ≡ length vals
      stood = omega (arith, rows_length es, count)

      value_at : (i : ℕ) (v : A) → i < length es → value m vs (entry_recipe es i) ≡ Some v → (slice_get vals i ≡ Some v) × IsGood v
      value_at i v h e =
          let x = slice_get-there vals i (omega (arith, count)) in
          let y = each i x.0 x.1 in
          let s : x.0 ≡ v = (let z = y.0 in cc) in
          (x.1 ∙ ap Some s, subst IsGood s y.1)

      stands : (t : Tree) (i : ℕ) → place (rows es) t ≡ Some i → value m vs (made_recipe (recipes es) (leaf i)) ≡ Some (ch t)
      stands t i p =
          let x = slice_get-there vals i (omega (arith, got_within (rows es) i (Some t) (place_at (rows es) t i p), stood)) in
          (each i x.0 x.1).0 ∙ ap Some (sym (chosen_found m d ps t x.0 (found_place (rows es) vals t i x.0 stood p x.1)))

      builds : (o : Op) (ts : Trees) → place (rows es) (node o ts) ≡ None → ch (node o ts) ≡ m.built o (map (chosen m d ps) (list_of ts))
      builds o ts p = chosen_built m d ps o ts (found_none (rows es) vals (node o ts) stood p)

      worth_made : (t mk : Tree) → IsFormed m.has t → made_for (rows es) t ≡ Some mk → value m vs (made_recipe (recipes es) mk) ≡ Some (ch t)
      worth_made t mk f e = made_worth m vs (rows es) (recipes es) (chosen m d ps) stands builds t mk f e

      worths_made : (ts ms : Trees) → AreFormed m.has ts → mades_for (rows es) ts ≡ Some ms → values m vs (mades_recipes (recipes es) ms) ≡ Some (map (chosen m d ps) (list_of ts))
      worths_made ts ms f e = mades_worth m vs (rows es) (recipes es) (chosen m d ps) stands builds ts ms f e

      by_row : (r : Option Tree) (k : ℕ) (t : Tree) (v : A) → slice_get (rows es) k ≡ Some r → slice_get (terms_of es) k ≡ Some t → slice_get vals k ≡ Some v → v ≡ ch t
      by_row None k t v row at e =
          let mk = entry_made [] (terms_of es) k t at in
          let q = all.equals k mk.0 (inl (t, row, at, mk.1)) in
          let h = hold q.0 _ q.2 in
          let a = (each k v e).0 in
          let b = worth_made t mk.0 (formed k t at) mk.1 in
          let c : value m vs (made_recipe (recipes es) mk.0) ≡ Some h.0 = subst (λ x. value m vs (made_recipe (recipes es) x) ≡ Some h.0) q.3 h.2 in
          let x : h.0 ≡ ch t = cc in
          let y : v ≡ h.0 = (let z = h.1 in cc) in
          y ∙ x
      by_row (Some u) k t v row at e =
          let own = row_term (terms_of es) k u row in
          let s : u ≡ t = cc in
          let p = place_own (terms_of es) k t (row ∙ ap (λ x. Some (Some x)) s) in
          let a = (each k v e).0 in
          let b = stands t k p in
          cc

      worth_chosen : (k : ℕ) (t : Tree) (v : A) → slice_get (terms_of es) k ≡ Some t → slice_get vals k ≡ Some v → v ≡ ch t
      worth_chosen k t v at e = let r = slice_get-there (rows es) k (omega (arith, got_within vals k v e, stood)) in by_row r.0 k t v r.1 at e

      -- an entry that was opened, by values
      record Undone (i f : ℕ) (o : IsOpened es i f) (x : A) : Type 0 where
        undoes : m.undone o.op (map (chosen m d ps) (take (keys o.op) (list_of o.operands))) x ≡ Some (map (chosen m d ps) (drop (keys o.op) (list_of o.operands)))
        builds_back : x ≡ m.built o.op (map (chosen m d ps) (list_of o.operands))

      good_entry : (j : ℕ) (v : A) → j < length es → value m vs (entry_recipe es j) ≡ Some v → IsGood v
      good_entry j v h e = (value_at j v h e).1

      undone_is : (i f : ℕ) (o : IsOpened es i f) (x : A) → slice_get vals i ≡ Some x → Undone i f o x
      undone_is i f o x at =
          let ks = take (keys o.op) (list_of o.operands) in
          let ts = drop (keys o.op) (list_of o.operands) in
          let g = chosen m d ps in
          let row = opened_row es i f o in
          let term_at = row_term (terms_of es) i (node o.op o.operands) row in
          let fm = formed i (node o.op o.operands) term_at in
          let fl = formed_items m.has o.operands fm.2 in
          let front_long : length o.front ≤ length es = omega (arith, ap length o.lies, length-append o.front (part_entries o.op o.keys_made i 0 ts ++ o.back)) in
          let p = opening i f o fm (λ v e. good_entry i v (omega (arith, got_within vals i x at, count)) e)
          (λ t n q v e. good_entry n v (omega (arith, got_within (rows o.front) n (Some t) (place_at (rows o.front) t n q), rows_length o.front)) e) in
          let later : keys_for es o.op o.operands ≡ Some (trees_of o.keys_made) = ap (λ l. keys_for l o.op o.operands) o.lies ∙ keys_later o.front (part_entries o.op o.keys_made i 0 ts ++ o.back) o.op o.operands (trees_of o.keys_made) o.made in
          let worths = worths_made (trees_of ks) (trees_of o.keys_made) (formed_take m.has (keys o.op) (list_of o.operands) fl) later ∙ ap (λ l. Some (map g l)) (list_of-trees_of ks) in
          let kv : p.keys_of ≡ map g ks = (let a = p.have_keys in cc) in
          let of : p.of ≡ x = (let a = p.has_of in let b = (each i x at).0 in cc) in
          let long : length p.parts ≡ length ts = omega (arith, p.count, p.key_count, fm.1, length-append p.keys_of p.parts, length-drop (keys o.op) (list_of o.operands)) in
          let parts : p.parts ≡ map g ts = same_list g p.parts ts long (λ j t e.
          let entry = each_part es i f o j t e in
          let w = slice_get-there p.parts j (omega (arith, got_within ts j t e, long)) in
          let k = f + j in
          let r : entry_recipe es k ≡ part o.op (0 + j) (mades_recipes (recipes es) (trees_of o.keys_made)) (entry_recipe es i) = recipe_at es known k _ entry in
          let z : 0 + j ≡ j = omega arith in
          let worth : value m vs (entry_recipe es k) ≡ Some w.0 = ap (value m vs) r ∙ part_value o.op (0 + j) (mades_recipes (recipes es) (trees_of o.keys_made)) (entry_recipe es i) p.keys_of p.of p.have_keys p.has_of
          ∙ part_given o.op (0 + j) p.keys_of p.of p.parts w.0 fm.0 p.key_count p.undoes (ap (slice_get p.parts) z ∙ w.1) in
          let here = slice_get-map (λ (y : Entry). tree_of y.term) es k _ entry ∙ ap Some (tree_of-term_of t) in
          let v = value_at k w.0 (got_within es k _ entry) worth in
          w.1 ∙ ap Some (worth_chosen k t w.0 here v.0)) in
          let split : map g (list_of o.operands) ≡ map g ks ++ map g ts = ap (map g) (sym (take-append-drop (keys o.op) (list_of o.operands))) ∙ map-append g ks ts in
          record {
            undoes = ap (λ l. m.undone o.op l x) (sym kv) ∙ ap (m.undone o.op p.keys_of) (sym of) ∙ p.undoes ∙ ap Some parts;
            builds_back = sym of ∙ sym p.builds ∙ ap (λ l. m.built o.op (l ++ p.parts)) kv ∙ ap (λ l. m.built o.op (map g ks ++ l)) parts ∙ ap (m.built o.op) (sym split);
          }

      same_terms : terms_in ps ≡ seen (rows es)
      same_terms = pairs_terms (rows es) vals stood

      found_some : (t : Tree) (x : A) → found ps t ≡ Some x → (i : ℕ) × (place (rows es) t ≡ Some i) × (slice_get vals i ≡ Some x)
      found_some t x e =
          ⊎_elim
          (λ (i, p).
          let y = slice_get-there vals i (omega (arith, got_within (rows es) i (Some t) (place_at (rows es) t i p), stood)) in
          let f = found_place (rows es) vals t i y.0 stood p y.1 in
          let s : y.0 ≡ x = cc in
          (i, p, y.1 ∙ ap Some s))
          (λ p. let f = found_none (rows es) vals t stood p in absurd (let no : ⊥ = cc in no))
          (optional (place (rows es) t))

      compose_keys : (ts : List Tree) → AllByRecursion (Composes (terms_in ps)) ts → (ms : Trees) × (mades_for (rows es) (trees_of ts) ≡ Some ms)
      compose_keys ts h = compose_mades (rows es) (trees_of ts) (from_all (seen (rows es)) ts (subst (λ l. AllByRecursion (Composes l) ts) same_terms h))

      -- with keys that compose, it was opened
      record WasOpened (i : ℕ) (o : Op) (us : Trees) : Type 0 where
        first : ℕ
        opened : IsOpened es i first
        op_is : opened.op ≡ o
        operands_are : opened.operands ≡ us

      was_opened : (b : Bool) (i : ℕ) (o : Op) (us : Trees) → ltb (keys o) (length (list_of us)) ≡ b → slice_get (rows es) i ≡ Some (Some (node o us)) → IsTrue (undoable o) → AllByRecursion (Composes (terms_in ps)) (take (keys o) (list_of us)) → WasOpened i o us
      was_opened true i o us is row u h =
          let ms = compose_keys (take (keys o) (list_of us)) h in
          let x = known.opened i o us ms.0 row u (ltb-true _ _ is) ms.1 in
          let r = opened_row es i x.0 x.1 in
          record { first = x.0; opened = x.1; op_is = cc; operands_are = cc }
      was_opened false i o us is row u h =
          let t = row_term (terms_of es) i (node o us) row in
          let n = (formed i (node o us) t).1 in
          let z = bare o u (omega (arith, ltb-false _ _ is)) in
          let e = empty_trees us (omega arith) in
          absurd (row_not_none [] (terms_of es) (λ k p at y. cc) i o (row ∙ ap (λ l. Some (Some (node o l))) e) z)

      built_value : (o : Op) (xs : List A) → IsTrue (m.has o) → length xs ≡ arity o → build_if m o xs ≡ Some (m.built o xs)
      built_value o xs h n = rw (h, eq-eqb (length xs) (arity o) n)

      equal_by : (b : Bool) (o : Op) (ts : Trees) (x : A) → undoable o ≡ b → (i : ℕ) → slice_get (rows es) i ≡ Some (Some (node o ts)) → slice_get vals i ≡ Some x → AllByRecursion (Composes (terms_in ps)) (list_of ts) → x ≡ m.built o (map (chosen m d ps) (list_of ts))
      equal_by true o ts x u i row at h =
          let w = was_opened (ltb (keys o) (length (list_of ts))) i o ts refl row u (all_take (Composes (terms_in ps)) (keys o) (list_of ts) h) in
          let y = undone_is i w.first w.opened x at in
          let P : Op → Trees → Type 0 = λ p us. x ≡ m.built p (map (chosen m d ps) (list_of us)) in
          subst (P o) w.operands_are (subst (λ p. P p w.opened.operands) w.op_is y.builds_back)
      equal_by false o ts x u i row at h =
          let ms = compose_keys (list_of ts) h in
          let made : mades_for (rows es) ts ≡ Some ms.0 = ap (mades_for (rows es)) (sym (trees_of-list_of ts)) ∙ ms.1 in
          let q = all.equals i (node o ms.0) (inr (o, ts, ms.0, row, u, made, refl)) in
          let y = hold q.0 _ q.2 in
          let f = formed i (node o ts) (row_term (terms_of es) i (node o ts) row) in
          let a = (each i x at).0 in
          let s : y.0 ≡ x = (let z = y.1 in cc) in
          let worths = worths_made ts ms.0 f.2 made in
          let b : value m vs (build o (mades_recipes (recipes es) ms.0)) ≡ Some y.0 = subst (λ l. value m vs (made_recipe (recipes es) l) ≡ Some y.0) q.3 y.2 in
          let c : value m vs (build o (mades_recipes (recipes es) ms.0)) ≡ Some (m.built o (map (chosen m d ps) (list_of ts))) =
          ap (option_and_then (build_if m o)) worths ∙ built_value o (map (chosen m d ps) (list_of ts)) f.0 (length-map (list_of ts) (chosen m d ps) ∙ f.1) in
          let e : y.0 ≡ m.built o (map (chosen m d ps) (list_of ts)) = cc in
          sym s ∙ e

      checked : Checked m d (labels_of es) vs ps
      checked = record {
        formed = λ t a. let r = row_among (rows es) t (subst (λ l. Among l t) same_terms a) in formed r.0 t (row_term (terms_of es) r.0 t r.1);
        are_values = λ t f c.
            let mk = composes_made (rows es) t (subst (λ l. Composes l t) same_terms c) in
            made_good (rows es) (recipes es) (λ u i p v e. good_entry i v (omega (arith, got_within (rows es) i (Some u) (place_at (rows es) u i p), rows_length es)) e) t mk.0 mk.1 (ch t) (worth_made t mk.0 f mk.1);
        labels = λ n t e.
            let k = label_entry [] es known.follow n t e in
            let at = slice_get-map (λ (y : Entry). tree_of y.term) es k.0 k.1 k.2 ∙ ap Some k.4 in
            let z : 0 + n ≡ n = omega arith in
            let r : entry_recipe es k.0 ≡ label n = recipe_at es known k.0 k.1 k.2 ∙ ap (recipe_for (recipes es)) (k.3 ∙ ap Label z) in
            let x = slice_get-there vals k.0 (omega (arith, got_within es k.0 k.1 k.2, count)) in
            let v = (each k.0 x.0 x.1).0 in (
              formed k.0 t at,
              subst (λ l. Composes l t) (sym same_terms) (each_got (Composes (seen (rows es))) (terms_of es) k.0 t (entries_compose (terms_of es)) at),
              ap (value m vs) (sym r) ∙ v ∙ ap Some (worth_chosen k.0 t x.0 at x.1),
            );
        equal = λ o ts x f n h.
            let i = found_some (node o ts) x f in
            equal_by (undoable o) o ts x refl i.0 (place_at (rows es) (node o ts) i.0 i.1) i.2 h ∙ ap (m.built o) (sym (all_chosen m d ps ts));
        opened = λ o ts x f u h.
            let i = found_some (node o ts) x f in
            let row = place_at (rows es) (node o ts) i.0 i.1 in
            let w = was_opened (ltb (keys o) (length (list_of ts))) i.0 o ts refl row u h in
            let y = undone_is i.0 w.first w.opened x i.2 in
            let P : Op → Trees → Type 0 = λ p us. m.undone p (map (chosen m d ps) (take (keys p) (list_of us))) x ≡ Some (map (chosen m d ps) (drop (keys p) (list_of us))) in
            inr (
              subst (λ l. AllByRecursion (Composes l) (drop (keys o) (list_of ts))) (sym same_terms) (known.closed o ts (place_among (rows es) (node o ts) i.0 i.1) u (subst (λ l. AllByRecursion (Composes l) (take (keys o) (list_of ts))) same_terms h)),
              subst (P o) w.operands_are (subst (λ p. P p w.opened.operands) w.op_is y.undoes),
            );
      }

    pub agree : Agree m (labels_of es) vs
    agree =
        let c = collect (length es) (λ k h. worth_at (suc k) k (omega arith) h) in
        let fs = λ (k : ℕ) (t : Tree) (at : slice_get (terms_of es) k ≡ Some t). let h : k < length es = omega (arith, got_within (terms_of es) k t at, length-map es (λ (y : Entry). tree_of y.term)) in (worth_at (suc k) k (omega arith) h).formed t at in
        enough m lawful (labels_of es) vs (pairs (rows es) c.0) (m.built Hash []) long (checked c.0 c.1 c.2 fs)
