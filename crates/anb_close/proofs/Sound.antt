-- Each entry's recipe gives its term, and a term without a chosen composition has no recipe.
use Rattle.std.proofs.Common.{◌≡◌, ℕ, zero, suc, ◌<◌, List, [], ◌∷◌, ◌++◌, length, map, take, drop, Bool, true, false, cond, IsTrue, Some, None, refl, sym, ap, ◌∙◌, subst, arith, ⊎_elim, append_assoc, length-append, length-drop, length-take-le}
use Rattle.std.specs.Prelude.{slice_get, unwrap_or}
use Rattle.std.specs.List.{AllByRecursion}
use Rattle.std.proofs.lemmas.Bool.{eq-eqb}
use Rattle.std.proofs.lemmas.List.{length-map, append-nil}
use Rattle.anb_lemmas.proofs.Lists.{got_within}
use Rattle.anb_term.specs.declared.term.Op.{Op}
use Rattle.anb_term.specs.Tree.{Tree, leaf, node, Trees, trees_of, list_of, IsFormed, AreFormed}
use Rattle.anb_term.specs.TreeSame.{op_itself, trees_itself, list_of-trees_of, trees_of-list_of}
use Rattle.anb_term.specs.Value.{RecipeTree, RecipeTrees, label, part, value, values, part_if}
use Rattle.anb_term.specs.Operator.{arity, keys, undoable}
use Rattle.anb_term.specs.FreeAlgebra.{terms_over, parts_of}
use Rattle.anb_term.specs.Composes.{Composes}
use Rattle.anb_close.specs.Rows.{place, made_for, mades_for, seen, made_recipe, mades_recipes}
use Rattle.anb_close.proofs.Rows.{place_at, row_term, made_worth, mades_worth, composes_made}
use Rattle.anb_close.proofs.Composing.{composes}
use Rattle.anb_close.proofs.Wider.{wider}
use Rattle.anb_close.specs.declared.entry.Entry.{Entry}
use Rattle.anb_close.specs.declared.entry.Origin.{Origin}
use Rattle.anb_close.specs.declared.entry.Origin.TheVariants.{Label, Part}
use Rattle.anb_close.specs.Entries.{rows, terms_of, labels_of, is_label, OriginFits, Follow, IsKnown}
use Rattle.anb_close.specs.Recipes.{recipe_for, recipes_from, recipes}
use Rattle.anb_close.proofs.Growing.{labels_append, terms_append, formed_at, formed_drop, formed_append, formed_front}
use Rattle.anb_term.proofs.Lists.{slice_get-last, formed_items, formed_take}
use Rattle.anb_close.proofs.Closing.{entries_compose}
use Rattle.anb_term.specs.View.{tree_of}
use Rattle.anb_term.specs.Agree.{HasRecipe}

module _ (has : Op → Bool) where
  -- the entries before have recipes that give their terms
  pub record Sound (labels : List Tree) (es : List Entry) (rcs : List RecipeTree) : Type 0 where
    pub long : length rcs ≡ length es
    pub gives : (i : ℕ) (t : Tree) → slice_get (terms_of es) i ≡ Some t → value (terms_over has) labels (unwrap_or (slice_get rcs i) (label 0)) ≡ Some t

  undone : (o : Op) (us : Trees) (ks : List Tree) → IsTrue (undoable o) → length (list_of us) ≡ arity o → ks ≡ take (keys o) (list_of us) → parts_of o ks (node o us) ≡ Some (drop (keys o) (list_of us))
  undone o us ks can whole is = rw (can, op_itself o, eq-eqb (length (list_of us)) (arity o) whole, is, trees_itself (trees_of (take (keys o) (list_of us))))

  part_given : (o : Op) (j : ℕ) (us : Trees) (ks : List Tree) (t : Tree) → IsTrue (has o) → IsTrue (undoable o) → length (list_of us) ≡ arity o → ks ≡ take (keys o) (list_of us) → length ks ≡ keys o → slice_get (drop (keys o) (list_of us)) j ≡ Some t → part_if (terms_over has) o j ks (node o us) ≡ Some t
  part_given o j us ks t h can whole is n at = rw (h, eq-eqb (length ks) (keys o) n, undone o us ks can whole is) at

  map_itself : (xs : List Tree) → map (λ (t : Tree). t) xs ≡ xs
  map_itself [] = refl
  map_itself (x ∷ xs) = ap (λ l. x ∷ l) (map_itself xs)

  itself_built : (o : Op) (ts : Trees) → node o ts ≡ node o (trees_of (map (λ (t : Tree). t) (list_of ts)))
  itself_built o ts = ap (node o) (sym (ap trees_of (map_itself (list_of ts)) ∙ trees_of-list_of ts))

  -- chosen compositions over sound entries
  module _ (labels : List Tree) (es : List Entry) (rcs : List RecipeTree) (sound : Sound labels es rcs) where
    stands_for : (t : Tree) (i : ℕ) → place (rows es) t ≡ Some i → value (terms_over has) labels (made_recipe rcs (leaf i)) ≡ Some t
    stands_for t i p = sound.gives i t (row_term (terms_of es) i t (place_at (rows es) t i p))

    pub made_gives : (t m : Tree) → IsFormed has t → made_for (rows es) t ≡ Some m → value (terms_over has) labels (made_recipe rcs m) ≡ Some t
    made_gives t m f e = made_worth (terms_over has) labels (rows es) rcs (λ t. t) stands_for (λ o ts p. itself_built o ts) t m f e

    pub mades_give : (ts ms : Trees) → AreFormed has ts → mades_for (rows es) ts ≡ Some ms → values (terms_over has) labels (mades_recipes rcs ms) ≡ Some (list_of ts)
    mades_give ts ms f e = mades_worth (terms_over has) labels (rows es) rcs (λ t. t) stands_for (λ o ts p. itself_built o ts) ts ms f e ∙ ap Some (map_itself (list_of ts))

    formed_keys : (i : ℕ) (o : Op) (us : Trees) → AreFormed has (trees_of (terms_of es)) → slice_get (terms_of es) i ≡ Some (node o us) → AreFormed has (trees_of (take (keys o) (list_of us)))
    formed_keys i o us f at = formed_take has (keys o) (list_of us) (formed_items has us (formed_at has (terms_of es) i (node o us) f at).2)

    part_value : (o : Op) (j : ℕ) (rs : RecipeTrees) (r : RecipeTree) (kv : List Tree) (v : Tree) → values (terms_over has) labels rs ≡ Some kv → value (terms_over has) labels r ≡ Some v → value (terms_over has) labels (part o j rs r) ≡ part_if (terms_over has) o j kv v
    part_value o j rs r kv v e f = rw (e, f)

    origin_gives : (x : Origin) (t : Tree) → AreFormed has (trees_of (terms_of es)) → OriginFits (terms_of es) (length (labels_of es)) x t → (is_label x ≡ true → slice_get labels (length (labels_of es)) ≡ Some t)
        → value (terms_over has) labels (recipe_for rcs x) ≡ Some t
    origin_gives (Label n) t f fits lab = subst (λ k. slice_get labels k ≡ Some t) (sym fits) (lab refl)
    origin_gives (Part o j ks i) t f fits lab =
        let us = fits.0 in
        let kv = take (keys o) (list_of us) in
        let e = mades_give (trees_of kv) (trees_of ks) (formed_keys i o us f fits.1) fits.3 ∙ ap Some (list_of-trees_of kv) in
        let long : length kv ≡ keys o = length-take-le (keys o) (list_of us) (omega (arith, got_within (drop (keys o) (list_of us)) j t fits.4, length-drop (keys o) (list_of us))) in
        part_value o j (mades_recipes rcs (trees_of ks)) (unwrap_or (slice_get rcs i) (label 0)) kv (node o us) e (sound.gives i (node o us) fits.1) ∙ part_given o j us kv t (formed_at has (terms_of es) i (node o us) f fits.1).0 fits.2 (formed_at has (terms_of es) i (node o us) f fits.1).1 refl long fits.4

  at_seam : {A : Type 0} (xs ys : List A) (y : A) → slice_get (xs ++ y ∷ ys) (length xs) ≡ Some y
  at_seam [] ys y = refl
  at_seam (x ∷ xs) ys y = at_seam xs ys y

  still_at : (rcs : List RecipeTree) (r : RecipeTree) (i : ℕ) → i < length rcs → unwrap_or (slice_get (rcs ++ r ∷ []) i) (label 0) ≡ unwrap_or (slice_get rcs i) (label 0)
  still_at [] r i h = absurd (omega arith)
  still_at (x ∷ rcs) r zero h = refl
  still_at (x ∷ rcs) r (suc i) h = still_at rcs r i (omega arith)

  sound_more : (labels : List Tree) (es : List Entry) (e : Entry) (rcs : List RecipeTree) (r : RecipeTree) → Sound labels es rcs → value (terms_over has) labels r ≡ Some (tree_of e.term) → Sound labels (es ++ e ∷ []) (rcs ++ r ∷ [])
  sound_more labels es e rcs r s v = record {
    long = omega (arith, length-append rcs (r ∷ []), length-append es (e ∷ []), s.long);
    gives = λ i t at.
        ⊎_elim
        (λ h. let within : i < length rcs = omega (arith, got_within (terms_of es) i t h, length-map es (λ (x : Entry). tree_of x.term), s.long) in rw (still_at rcs r i within) (s.gives i t h))
        (λ (a, b).
        let n : i ≡ length rcs = omega (arith, a, length-map es (λ (x : Entry). tree_of x.term), s.long) in
        let here : slice_get (rcs ++ r ∷ []) i ≡ Some r = ap (slice_get (rcs ++ r ∷ [])) n ∙ at_seam rcs [] r in
        ap (λ o. value (terms_over has) labels (unwrap_or o (label 0))) here ∙ v ∙ ap Some b)
        (slice_get-last (terms_of es) (tree_of e.term) t i (rw (terms_append es (e ∷ [])) at at));
  }

  label_here : (es later : List Entry) (e : Entry) → is_label e.origin ≡ true → slice_get (labels_of (es ++ e ∷ later)) (length (labels_of es)) ≡ Some (tree_of e.term)
  label_here es later e is = rw (labels_append es (e ∷ later), is) (at_seam (labels_of es) (labels_of later) (tree_of e.term))

  sound_all : (es later : List Entry) (rcs : List RecipeTree) → Sound (labels_of (es ++ later)) es rcs → Follow es later → AreFormed has (trees_of (terms_of (es ++ later))) → Sound (labels_of (es ++ later)) (es ++ later) (recipes_from rcs later)
  sound_all es [] rcs s f formed = subst (λ l. Sound (labels_of (es ++ [])) l rcs) (sym (append-nil es)) s
  sound_all es (e ∷ later) rcs s f formed =
      let same = append_assoc es (e ∷ []) later in
      let front = formed_front has (terms_of es) (terms_of (e ∷ later)) (rw (terms_append es (e ∷ later)) at formed) in
      let v = origin_gives (labels_of (es ++ e ∷ later)) es rcs s e.origin (tree_of e.term) front f.0 (label_here es later e) in
      let next = sound_more (labels_of (es ++ e ∷ later)) es e rcs (recipe_for rcs e.origin) s v in
      let P : List Entry → Type 0 = λ l. Sound (labels_of l) l (recipes_from (rcs ++ recipe_for rcs e.origin ∷ []) later) in
      let Q : List Entry → Type 0 = λ l. Sound (labels_of l) (es ++ e ∷ []) (rcs ++ recipe_for rcs e.origin ∷ []) in
      let R : List Entry → Type 0 = λ l. AreFormed has (trees_of (terms_of l)) in
      subst P same (sound_all (es ++ e ∷ []) later (rcs ++ recipe_for rcs e.origin ∷ []) (subst Q (sym same) next) f.1 (subst R (sym same) formed))

  pub sound : (es : List Entry) → Follow [] es → AreFormed has (trees_of (terms_of es)) → Sound (labels_of es) es (recipes es)
  sound es follow formed = sound_all [] es [] (record { long = refl; gives = λ i t e. cc }) follow formed

all_labels : (P : Tree → Type 0) (es : List Entry) → AllByRecursion P (terms_of es) → AllByRecursion P (labels_of es)
all_labels P [] h = tt
all_labels P (e ∷ es) h = either P (tree_of e.term ∷ labels_of es) (labels_of es) (is_label e.origin) (h.0, all_labels P es h.1) (all_labels P es h.1)
  where
    either : {A : Type 0} (P : A → Type 0) (xs ys : List A) (b : Bool) → AllByRecursion P xs → AllByRecursion P ys → AllByRecursion P (cond b xs ys)
    either P xs ys true x y = x
    either P xs ys false x y = y

-- without a chosen composition there is no recipe, whichever operators there are
pub no_recipe : (has : Op → Bool) (es : List Entry) (t : Tree) → IsKnown es → made_for (rows es) t ≡ None → HasRecipe has (labels_of es) t → ⊥
no_recipe has es t k none (r, e) =
    let v = wider has (labels_of es) r t e in
    let c = composes (seen (rows es)) (labels_of es) k.closed (all_labels (Composes (seen (rows es))) es (entries_compose (terms_of es))) r t v in
    let m = composes_made (rows es) t c in
    let some = m.1 in cc

-- entries are over the operators that their labels are over
formed_origin : (has : Op → Bool) (o : Origin) (before later : List Entry) (e : Entry) → AreFormed has (trees_of (terms_of before)) → OriginFits (terms_of before) (length (labels_of before)) o (tree_of e.term)
    → AreFormed has (trees_of (cond (is_label o) (tree_of e.term ∷ labels_of later) (labels_of later))) → IsFormed has (tree_of e.term) × AreFormed has (trees_of (labels_of later))
formed_origin has (Label n) before later e f fits ls = (ls.0, ls.1)
formed_origin has (Part o j ks i) before later e f fits ls =
    let us = fits.0 in
    (formed_at has (drop (keys o) (list_of us)) j (tree_of e.term) (formed_drop has (keys o) (list_of us) (formed_items has us (formed_at has (terms_of before) i (node o us) f fits.1).2)) fits.4, ls)

pub formed_all : (has : Op → Bool) (before later : List Entry) → AreFormed has (trees_of (terms_of before)) → Follow before later → AreFormed has (trees_of (labels_of later)) → AreFormed has (trees_of (terms_of (before ++ later)))
formed_all has before [] f fl ls = subst (λ l. AreFormed has (trees_of (terms_of l))) (sym (append-nil before)) f
formed_all has before (e ∷ later) f fl ls =
    let h = formed_origin has e.origin before later e f fl.0 ls in
    let g : AreFormed has (trees_of (terms_of (before ++ e ∷ []))) = rw (terms_append before (e ∷ [])) (formed_append has (terms_of before) (tree_of e.term ∷ []) f (h.0, tt)) in
    subst (λ l. AreFormed has (trees_of (terms_of l))) (append_assoc before (e ∷ []) later) (formed_all has (before ++ e ∷ []) later g fl.1 h.1)

-- a chosen composition is a recipe, over the operators of the labels and the term
pub some_recipe : (has : Op → Bool) (es : List Entry) (t m : Tree) → IsKnown es → AreFormed has (trees_of (labels_of es)) → IsFormed has t → made_for (rows es) t ≡ Some m
    → value (terms_over has) (labels_of es) (made_recipe (recipes es) m) ≡ Some t
some_recipe has es t m k labels f e = made_gives has (labels_of es) es (recipes es) (sound has es k.follow (formed_all has [] es tt k.follow labels)) t m f e
