-- Each entry's recipe is its origin written out.
use Rattle.std.proofs.Common.{◌≡◌, ℕ, zero, suc, ◌+◌, ◌<◌, List, [], ◌∷◌, ◌++◌, length, take, drop, Some, refl, sym, ap, ◌∙◌, arith, append_assoc, length-append, length-drop}
use Rattle.std.specs.Prelude.{slice_get, unwrap_or}
use Rattle.std.proofs.lemmas.List.{length-map, append-nil}
use Rattle.anb_lemmas.proofs.Lists.{got_within}
use Rattle.anb_term.specs.declared.term.Op.{Op}
use Rattle.anb_term.specs.Tree.{Tree, trees_of, list_of}
use Rattle.anb_term.specs.Value.{RecipeTree, label}
use Rattle.anb_term.specs.Operator.{keys}
use Rattle.anb_term.specs.View.{tree_of, term_of}
use Rattle.anb_close.proofs.Rows.{mades_recipes_more}
use Rattle.anb_close.specs.declared.entry.Entry.{Entry}
use Rattle.anb_close.specs.declared.entry.Origin.{Origin}
use Rattle.anb_close.specs.declared.entry.Origin.TheVariants.{Label, Part}
use Rattle.anb_close.specs.Entries.{rows, terms_of, labels_of, OriginFits, Follow, part_entries, IsOpened, IsKnown}
use Rattle.anb_close.specs.Recipes.{recipe_for, recipes_from, recipes}
use Rattle.anb_close.proofs.Finding.{rows_length}
use Rattle.anb_term.proofs.Lists.{slice_get-append}

recipes_more : (rcs : List RecipeTree) (es : List Entry) → (xs : List RecipeTree) × (recipes_from rcs es ≡ rcs ++ xs)
recipes_more rcs [] = ([], sym (append-nil rcs))
recipes_more rcs (e ∷ es) =
    let r = recipe_for rcs e.origin in
    let h = recipes_more (rcs ++ r ∷ []) es in
    (r ∷ h.0, h.1 ∙ append_assoc rcs (r ∷ []) h.0)

recipes_append : (rcs : List RecipeTree) (es fs : List Entry) → recipes_from rcs (es ++ fs) ≡ recipes_from (recipes_from rcs es) fs
recipes_append rcs [] fs = refl
recipes_append rcs (e ∷ es) fs = recipes_append (rcs ++ recipe_for rcs e.origin ∷ []) es fs

-- entries that come later change no recipe
pub recipes_stay : (es later : List Entry) → (xs : List RecipeTree) × (recipes (es ++ later) ≡ recipes es ++ xs)
recipes_stay es later = let h = recipes_more (recipes es) later in (h.0, recipes_append [] es later ∙ h.1)

pub recipes_length : (rcs : List RecipeTree) (es : List Entry) → length (recipes_from rcs es) ≡ length rcs + length es
recipes_length rcs [] = omega arith
recipes_length rcs (e ∷ es) = omega (arith, recipes_length (rcs ++ recipe_for rcs e.origin ∷ []) es, length-append rcs (recipe_for rcs e.origin ∷ []))

front_at : (xs ys : List RecipeTree) (i : ℕ) → i < length xs → unwrap_or (slice_get (xs ++ ys) i) (label 0) ≡ unwrap_or (slice_get xs i) (label 0)
front_at [] ys i h = absurd (omega arith)
front_at (x ∷ xs) ys zero h = refl
front_at (x ∷ xs) ys (suc i) h = front_at xs ys i (omega arith)

recipe_more : (before : List Entry) (rcs later : List RecipeTree) (n : ℕ) (x : Origin) (t : Tree) → length rcs ≡ length before → OriginFits (terms_of before) n x t → recipe_for (rcs ++ later) x ≡ recipe_for rcs x
recipe_more before rcs later n (Label k) t long fits = refl
recipe_more before rcs later n (Part o j ks i) t long fits =
    let a = mades_recipes_more (rows before) rcs later (long ∙ sym (rows_length before)) (trees_of (take (keys o) (list_of fits.0))) (trees_of ks) fits.3 in
    let b = front_at rcs later i (omega (arith, got_within (terms_of before) i _ fits.1, length-map before (λ (e : Entry). tree_of e.term))) in
    cc

seam_at : (xs ys : List RecipeTree) (y : RecipeTree) (n : ℕ) → n ≡ length xs → unwrap_or (slice_get ((xs ++ y ∷ []) ++ ys) n) (label 0) ≡ y
seam_at [] ys y n e = rw e
seam_at (x ∷ xs) ys y n e = rw e (seam_at xs ys y (length xs) refl)

recipe_at_from : (before es : List Entry) (rcs : List RecipeTree) → length rcs ≡ length before → Follow before es → (k : ℕ) (e : Entry) → slice_get es k ≡ Some e
    → unwrap_or (slice_get (recipes_from rcs es) (length before + k)) (label 0) ≡ recipe_for (recipes_from rcs es) e.origin
recipe_at_from before [] rcs long f k e at = cc
recipe_at_from before (x ∷ es) rcs long f zero e at =
    let s : x ≡ e = cc in
    let r = recipe_for rcs x.origin in
    let p = recipes_more (rcs ++ r ∷ []) es in
    let n : length before + 0 ≡ length rcs = omega arith in
    let a : recipe_for ((rcs ++ r ∷ []) ++ p.0) x.origin ≡ r = ap (λ l. recipe_for l x.origin) (append_assoc rcs (r ∷ []) p.0) ∙ recipe_more before rcs (r ∷ p.0) (length (labels_of before)) x.origin (tree_of x.term) long f.0 in
    ap (λ l. unwrap_or (slice_get l (length before + 0)) (label 0)) p.1 ∙ seam_at rcs p.0 r (length before + 0) n ∙ sym a ∙ ap (λ l. recipe_for l x.origin) (sym p.1) ∙ ap (λ (y : Entry). recipe_for (recipes_from (rcs ++ r ∷ []) es) y.origin) s
recipe_at_from before (x ∷ es) rcs long f (suc k) e at =
    let r = recipe_for rcs x.origin in
    let n : length (before ++ x ∷ []) + k ≡ length before + suc k = omega (arith, length-append before (x ∷ [])) in
    let l : length (rcs ++ r ∷ []) ≡ length (before ++ x ∷ []) = omega (arith, length-append before (x ∷ []), length-append rcs (r ∷ [])) in
    ap (λ i. unwrap_or (slice_get (recipes_from (rcs ++ r ∷ []) es) i) (label 0)) (sym n) ∙ recipe_at_from (before ++ x ∷ []) es (rcs ++ r ∷ []) l f.1 k e at

pub recipe_at : (es : List Entry) → IsKnown es → (k : ℕ) (e : Entry) → slice_get es k ≡ Some e → unwrap_or (slice_get (recipes es) k) (label 0) ≡ recipe_for (recipes es) e.origin
recipe_at es known k e at = let n : 0 + k ≡ k = omega arith in ap (λ i. unwrap_or (slice_get (recipes es) i) (label 0)) (sym n) ∙ recipe_at_from [] es [] refl known.follow k e at

-- the first part of an entry that was opened
seam_entry : (xs ys : List Entry) (y : Entry) → slice_get (xs ++ y ∷ ys) (length xs) ≡ Some y
seam_entry [] ys y = refl
seam_entry (x ∷ xs) ys y = seam_entry xs ys y

first_of : (o : Op) (ks : List Tree) (i : ℕ) (ps : List Tree) (front back : List Entry) → 0 < length ps → (e : Entry) × (slice_get (front ++ (part_entries o ks i 0 ps ++ back)) (length front) ≡ Some e) × (e.origin ≡ Part o 0 ks i)
first_of o ks i [] front back h = absurd (omega arith)
first_of o ks i (p ∷ ps) front back h = (_, seam_entry front _ _, refl)

pub first_part : (es : List Entry) (i f : ℕ) (o : IsOpened es i f) → (e : Entry) × (slice_get es f ≡ Some e) × (e.origin ≡ Part o.op 0 o.keys_made i)
first_part es i f o =
    let ps = drop (keys o.op) (list_of o.operands) in
    let h = first_of o.op o.keys_made i ps o.front o.back (omega (arith, length-drop (keys o.op) (list_of o.operands), o.some_part)) in
    (h.0, ap (λ l. slice_get l f) o.lies ∙ ap (slice_get (o.front ++ (part_entries o.op o.keys_made i 0 ps ++ o.back))) (sym o.at) ∙ h.1, h.2)

-- each part of an entry that was opened
block_at : (front ys back : List Entry) (j : ℕ) (y : Entry) → slice_get ys j ≡ Some y → slice_get (front ++ (ys ++ back)) (length front + j) ≡ Some y
block_at [] ys back j y e = let z : 0 + j ≡ j = omega arith in rw z (slice_get-append ys back j y e)
block_at (x ∷ front) ys back j y e = let n : suc (length front) + j ≡ suc (length front + j) = omega arith in rw n (block_at front ys back j y e)

part_of : (o : Op) (ks : List Tree) (i j : ℕ) (ps : List Tree) (b : ℕ) (t : Tree) → slice_get ps b ≡ Some t → slice_get (part_entries o ks i j ps) b ≡ Some (record { origin = Part o (j + b) ks i; term = term_of t })
part_of o ks i j [] b t e = cc
part_of o ks i j (p ∷ ps) zero t e = let s : p ≡ t = cc in let n : j + 0 ≡ j = omega arith in rw (n, s)
part_of o ks i j (p ∷ ps) (suc b) t e = let n : j + suc b ≡ j + 1 + b = omega arith in rw n (part_of o ks i (j + 1) ps b t e)

pub each_part : (es : List Entry) (i f : ℕ) (o : IsOpened es i f) (j : ℕ) (t : Tree) → slice_get (drop (keys o.op) (list_of o.operands)) j ≡ Some t
    → slice_get es (f + j) ≡ Some (record { origin = Part o.op (0 + j) o.keys_made i; term = term_of t })
each_part es i f o j t e =
    let ps = part_entries o.op o.keys_made i 0 (drop (keys o.op) (list_of o.operands)) in
    ap (λ l. slice_get l (f + j)) o.lies ∙ ap (λ n. slice_get (o.front ++ (ps ++ o.back)) (n + j)) (sym o.at) ∙ block_at o.front ps o.back j _ (part_of o.op o.keys_made i 0 (drop (keys o.op) (list_of o.operands)) j t e)
