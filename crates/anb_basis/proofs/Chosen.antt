-- The checks give the three facts, and what was chosen stays chosen.
use Rattle.std.proofs.Common.{◌≡◌, List, [], ◌∷◌, ◌++◌, length, map, take, drop, Bool, true, false, cond, IsTrue, Some, None, refl, sym, ap, ◌∙◌, subst, inl, inr, ◌⊎◌, ⊎_elim, arith, take-append-drop, length-take-le}
use Rattle.std.proofs.lemmas.List.{length-map}
use Rattle.std.specs.Prelude.{unwrap_or}
use Rattle.std.specs.List.{AllByRecursion}
use Rattle.anb_term.specs.declared.term.Op.{Op}
use Rattle.anb_term.specs.Tree.{Tree, leaf, node, Trees, none, more, trees_of, list_of, tree_eqb, IsFormed, AreFormed}
use Rattle.anb_term.specs.TreeSame.{list_of-trees_of, tree_itself}
use Rattle.anb_term.specs.Value.{Meaning}
use Rattle.anb_term.specs.Operator.{arity, keys, undoable}
use Rattle.anb_term.specs.Composes.{Among, Composes, ComposeAll}
use Rattle.anb_basis.specs.Facts.{ThreeFacts}
use Rattle.anb_basis.specs.Chosen.{terms_in, found, chosen, chosen_all, Checked}
use Rattle.anb_term.proofs.Lists.{all_drop, all_take, map-append, keys_fit, each_formed, tree_differs}

-- whether a term is an entry
Whether : {A : Type 0} → List (Tree × A) → Tree → Type 0
Whether {A} es t = ((x : A) × (found es t ≡ Some x)) ⊎ ((found es t ≡ None) × (Among (terms_in es) t → ⊥))

apart : (x y : Tree) → tree_eqb x y ≡ false → x ≡ y → ⊥
apart x y f e = let s : tree_eqb x x ≡ false = subst (λ z. tree_eqb x z ≡ false) (sym e) f in let t = tree_itself x in cc

further : {A : Type 0} (b : Bool) (e : Tree × A) (es : List (Tree × A)) (t : Tree) → tree_eqb e.0 t ≡ b → Whether es t → Whether (e ∷ es) t
unfolding Whether
further true e es t is w = inl (e.1, rw is)
further false e es t is (inl w) = inl (w.0, rw is w.1)
further false e es t is (inr w) = inr (rw is w.0, ⊎_elim (apart e.0 t is) w.1)

found_cases : {A : Type 0} (es : List (Tree × A)) (t : Tree) → Whether es t
unfolding Whether
found_cases [] t = inr (refl, λ h. h)
found_cases (e ∷ es) t = further (tree_eqb e.0 t) e es t refl (found_cases es t)

found_stays : {A : Type 0} (es : List (Tree × A)) (e : Tree × A) (t : Tree) → tree_eqb e.0 t ≡ false → found (es ++ e ∷ []) t ≡ found es t
found_stays [] e t f = rw f
found_stays (x ∷ es) e t f = ap (cond (tree_eqb x.0 t) (Some x.1)) (found_stays es e t f)

to_list : (es : List Tree) (ts : Trees) → ComposeAll es ts → AllByRecursion (Composes es) (list_of ts)
to_list es none h = tt
to_list es (more t ts) h = (h.0, to_list es ts h.1)

to_trees : (es ts : List Tree) → AllByRecursion (Composes es) ts → ComposeAll es (trees_of ts)
to_trees es [] h = tt
to_trees es (t ∷ ts) h = (h.0, to_trees es ts h.1)

formed_trees : (has : Op → Bool) (us : List Tree) → AllByRecursion (IsFormed has) us → AreFormed has (trees_of us)
formed_trees has [] a = tt
formed_trees has (u ∷ us) a = (a.0, formed_trees has us a.1)

module _ {A : Type 0} (m : Meaning A) (d : A) where
  pub all_chosen : (es : List (Tree × A)) (ts : Trees) → chosen_all m d es ts ≡ map (chosen m d es) (list_of ts)
  all_chosen es none = refl
  all_chosen es (more t ts) = ap (λ l. chosen m d es t ∷ l) (all_chosen es ts)

  -- a further entry that did not compose changes nothing of what was chosen
  module _ (es : List (Tree × A)) (e : Tree × A) (new : Composes (terms_in es) e.0 → ⊥) where
    other : (t : Tree) → Composes (terms_in es) t → found (es ++ e ∷ []) t ≡ found es t
    other t h = found_stays es e t (tree_differs (tree_eqb e.0 t) e.0 t refl (λ s. new (subst (Composes (terms_in es)) (sym s) h)))

    same_when_found : (t : Tree) (x y : A) → Among (terms_in es) t → Whether es t → unwrap_or (found es t) x ≡ unwrap_or (found es t) y
    unfolding Whether
    same_when_found t x y here (inl w) = rw w.1
    same_when_found t x y here (inr w) = absurd (w.1 here)

    mutual
      pub stays : (t : Tree) → Composes (terms_in es) t → chosen m d (es ++ e ∷ []) t ≡ chosen m d es t
      stays (leaf n) h = ap (λ o. unwrap_or o d) (other (leaf n) h)
      stays (node o ts) (inl here) = ap (λ f. unwrap_or f (m.built o (chosen_all m d (es ++ e ∷ []) ts))) (other (node o ts) (inl here)) ∙ same_when_found (node o ts) _ _ here (found_cases es (node o ts))
      stays (node o ts) (inr all) = ap (λ f. unwrap_or f (m.built o (chosen_all m d (es ++ e ∷ []) ts))) (other (node o ts) (inr all)) ∙ ap (λ l. unwrap_or (found es (node o ts)) (m.built o l)) (all_stay ts all.1)

      pub all_stay : (ts : Trees) → ComposeAll (terms_in es) ts → chosen_all m d (es ++ e ∷ []) ts ≡ chosen_all m d es ts
      all_stay none h = refl
      all_stay (more t ts) h = cc (stays t h.0, all_stay ts h.1)

  -- the checks are enough, where undoing gives the parts of what was built
  module _ (law : (o : Op) (ks ps : List A) → IsTrue (m.has o) → IsTrue (undoable o) → length (ks ++ ps) ≡ arity o → length ks ≡ keys o → AllByRecursion (λ x. IsTrue (m.is_value x)) ks → AllByRecursion (λ x. IsTrue (m.is_value x)) ps → m.undone o ks (m.built o (ks ++ ps)) ≡ Some ps)
      (frame : List Tree) (vs : List A) (es : List (Tree × A)) (c : Checked m d frame vs es) where
    P : Tree → Type 0
    P t = IsFormed m.has t × Composes (terms_in es) t

    valued : (ts : List Tree) → AllByRecursion (IsFormed m.has) ts → AllByRecursion (Composes (terms_in es)) ts → AllByRecursion (λ x. IsTrue (m.is_value x)) (map (chosen m d es) ts)
    valued [] f h = tt
    valued (t ∷ ts) f h = (c.are_values t f.0 h.0, valued ts f.1 h.1)

    by_operands : (o : Op) (ts : Trees) → length (list_of ts) ≡ arity o → AllByRecursion (Composes (terms_in es)) (list_of ts) → Whether es (node o ts) → chosen m d es (node o ts) ≡ m.built o (map (chosen m d es) (list_of ts))
    unfolding Whether
    by_operands o ts n all (inl w) = rw w.1 (c.equal o ts w.0 w.1 n all ∙ ap (m.built o) (all_chosen es ts))
    by_operands o ts n all (inr w) = rw w.0 (ap (m.built o) (all_chosen es ts))

    Opens : Op → Trees → Type 0
    Opens o ts = AllByRecursion (Composes (terms_in es)) (drop (keys o) (list_of ts))
        × (m.undone o (map (chosen m d es) (take (keys o) (list_of ts))) (chosen m d es (node o ts)) ≡ Some (map (chosen m d es) (drop (keys o) (list_of ts))))

    -- a term whose operands compose
    whole : (o : Op) (ts : Trees) → IsTrue (m.has o) → IsTrue (undoable o) → AllByRecursion (IsFormed m.has) (list_of ts) → length (list_of ts) ≡ arity o → AllByRecursion (Composes (terms_in es)) (list_of ts) → Opens o ts
    unfolding Opens
    whole o ts h u formed n all =
        let xs = list_of ts in
        let f = chosen m d es in
        let ks = map f (take (keys o) xs) in
        let ps = map f (drop (keys o) xs) in
        let split : map f xs ≡ ks ++ ps = ap (map f) (sym (take-append-drop (keys o) xs)) ∙ map-append f (take (keys o) xs) (drop (keys o) xs) in
        let count : length ks ≡ keys o = length-map (take (keys o) xs) f ∙ length-take-le (keys o) xs (omega (arith, keys_fit o)) in
        let long : length (ks ++ ps) ≡ arity o = sym (ap length split) ∙ length-map xs f ∙ n in (
          all_drop (Composes (terms_in es)) (keys o) xs all,
          ap (m.undone o ks) (by_operands o ts n all (found_cases es (node o ts)) ∙ ap (m.built o) split)
              ∙ law o ks ps h u long count
              (valued (take (keys o) xs) (all_take (IsFormed m.has) (keys o) xs formed) (all_take (Composes (terms_in es)) (keys o) xs all))
              (valued (drop (keys o) xs) (all_drop (IsFormed m.has) (keys o) xs formed) (all_drop (Composes (terms_in es)) (keys o) xs all)),
        )

    entry : (o : Op) (ts : Trees) → IsTrue (m.has o) → IsTrue (undoable o) → AllByRecursion (IsFormed m.has) (list_of ts) → Composes (terms_in es) (node o ts) → AllByRecursion (Composes (terms_in es)) (take (keys o) (list_of ts)) → Whether es (node o ts) → Opens o ts
    unfolding Whether Opens
    entry o ts h u formed p hk (inl w) = ⊎_elim (λ a. whole o ts h u formed a.1 a.0) (λ b. (b.0, rw w.1 b.1)) (c.opened o ts w.0 w.1 u hk)
    entry o ts h u formed p hk (inr w) = ⊎_elim (λ here. absurd (w.1 here)) (λ a. whole o ts h u formed a.0 (to_list (terms_in es) ts a.1)) p

    firsts : (ts : List Tree) → AllByRecursion P ts → AllByRecursion (IsFormed m.has) ts
    unfolding P
    firsts [] h = tt
    firsts (t ∷ ts) h = (h.0.0, firsts ts h.1)

    seconds : (ts : List Tree) → AllByRecursion P ts → AllByRecursion (Composes (terms_in es)) ts
    unfolding P
    seconds [] h = tt
    seconds (t ∷ ts) h = (h.0.1, seconds ts h.1)

    pairs : (ts : List Tree) → AllByRecursion (IsFormed m.has) ts → AllByRecursion (Composes (terms_in es)) ts → AllByRecursion P ts
    unfolding P
    pairs [] f h = tt
    pairs (t ∷ ts) f h = ((f.0, h.0), pairs ts f.1 h.1)

    pub facts : ThreeFacts m frame vs (λ t. IsFormed m.has t × Composes (terms_in es) t) (chosen m d es)
    unfolding Opens P
    facts = record {
      labels = λ n t e. let l = c.labels n t e in ((l.0, l.1), l.2);
      builds = λ o ts h n all.
          let same = list_of-trees_of ts in
          let count : length (list_of (trees_of ts)) ≡ arity o = ap length same ∙ n in
          let formed = firsts ts all in
          let composed = seconds ts all in
          let all' = subst (AllByRecursion (Composes (terms_in es))) (sym same) composed in
          (((h, count, formed_trees m.has ts formed), inr (count, to_trees (terms_in es) ts composed)), by_operands o (trees_of ts) count all' (found_cases es (node o (trees_of ts))) ∙ ap (λ l. m.built o (map (chosen m d es) l)) same);
      opens = λ o ts h u p hk.
          let formed = each_formed m.has ts p.0.2 in
          let e = entry o ts h u formed p.1 (seconds (take (keys o) (list_of ts)) hk) (found_cases es (node o ts)) in
          (pairs (drop (keys o) (list_of ts)) (all_drop (IsFormed m.has) (keys o) (list_of ts) formed) e.0, e.1);
    }
