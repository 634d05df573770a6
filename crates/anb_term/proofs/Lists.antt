-- Lemmas on lists: what stands at a place, after other lists, maps and writes; parts of lists; what holds of each.
use Rattle.std.proofs.Common.{◌≡◌, ℕ, zero, suc, ◌<◌, ◌≤◌, List, [], ◌∷◌, ◌++◌, length, map, get_or, take, drop, set, Some, refl, ap, sym, subst, arith, inl, inr, ◌⊎◌, Option, true, None, ◌∙◌, ◌+◌, Bool, false}
use Rattle.std.specs.Prelude.{slice_get}
use Rattle.std.specs.List.{AllByRecursion}
use Rattle.std.proofs.lemmas.List.{drop_more}
use Rattle.std.proofs.lemmas.Bool.{and_parts}
use Rattle.anb_lemmas.proofs.Lists.{map_drop_next}
pub use Rattle.anb_term.specs.FreeLawful.{map-append}
use Rattle.anb_term.specs.Value.{cons_both, Meaning, RecipeTree, recipe_trees, value, values}
use Rattle.anb_term.specs.Demand.{is_there, Demand, all_hold, holds}
use Rattle.anb_term.specs.declared.term.Term.{Term}
use Rattle.anb_term.specs.View.{tree_of, term_of}
use Rattle.anb_term.specs.TreeSame.{term_of-tree_of, tree_same}
use Rattle.anb_term.specs.declared.term.Op.TheVariants.{Hash, Mac, Seal, Wrap, Format}
use Rattle.anb_term.specs.declared.term.Op.{Op}
use Rattle.anb_term.specs.Operator.{arity, keys}
use Rattle.anb_term.specs.Tree.{Tree, leaf, node, tree_size, trees_size, trees_of, Trees, none, more, list_of, AreFormed, IsFormed, tree_eqb}
use Rattle.anb_term.specs.Lawful.{picked}
use Rattle.anb_term.proofs.Steps.{consed}

pub slice_get-append : {A : Type 0} (xs ys : List A) (n : ℕ) (x : A) → slice_get xs n ≡ Some x → slice_get (xs ++ ys) n ≡ Some x
slice_get-append [] ys n x e = cc
slice_get-append (z ∷ xs) ys zero x e = e
slice_get-append (z ∷ xs) ys (suc n) x e = slice_get-append xs ys n x e

pub slice_get-map : {A B : Type 0} (f : A → B) (xs : List A) (j : ℕ) (x : A) → slice_get xs j ≡ Some x → slice_get (map f xs) j ≡ Some (f x)
slice_get-map f [] j x e = cc
slice_get-map f (y ∷ ys) zero x e = let s : y ≡ x = cc in ap (λ z. Some (f z)) s
slice_get-map f (y ∷ ys) (suc j) x e = slice_get-map f ys j x e

-- something stands at each place within
pub slice_get-there : {A : Type 0} (xs : List A) (i : ℕ) → i < length xs → (x : A) × (slice_get xs i ≡ Some x)
slice_get-there [] i h = absurd (omega arith)
slice_get-there (x ∷ xs) zero h = (x, refl)
slice_get-there (x ∷ xs) (suc i) h = slice_get-there xs i (omega arith)

-- after one more, it stood there before or is the new one
pub slice_get-last : {A : Type 0} (xs : List A) (y x : A) (i : ℕ) → slice_get (xs ++ y ∷ []) i ≡ Some x → (slice_get xs i ≡ Some x) ⊎ ((i ≡ length xs) × (y ≡ x))
slice_get-last [] y x zero e = inr (refl, let s : y ≡ x = cc in s)
slice_get-last [] y x (suc i) e = cc
slice_get-last (z ∷ xs) y x zero e = inl e
slice_get-last (z ∷ xs) y x (suc i) e = step (slice_get-last xs y x i e) where
  step : (slice_get xs i ≡ Some x) ⊎ ((i ≡ length xs) × (y ≡ x)) → (slice_get xs i ≡ Some x) ⊎ ((suc i ≡ suc (length xs)) × (y ≡ x))
  step (inl h) = inl h
  step (inr h) = inr (ap suc h.0, h.1)

-- what is read by place is what stands there
pub slice_get-at : {A : Type 0} (xs : List A) (i : ℕ) (x : A) → i < length xs → x ≡ get_or xs i x → slice_get xs i ≡ Some x
slice_get-at [] i x h e = absurd (omega arith)
slice_get-at (y ∷ xs) zero x h e = ap Some (sym e)
slice_get-at (y ∷ xs) (suc i) x h e = slice_get-at xs i x (omega arith) e

pub map-drop : {A B : Type 0} (f : A → B) (n : ℕ) (xs : List A) → map f (drop n xs) ≡ drop n (map f xs)
map-drop f zero xs = refl
map-drop f (suc n) [] = refl
map-drop f (suc n) (x ∷ xs) = map-drop f n xs

pub map-take : {A B : Type 0} (f : A → B) (n : ℕ) (xs : List A) → map f (take n xs) ≡ take n (map f xs)
map-take f zero xs = refl
map-take f (suc n) [] = refl
map-take f (suc n) (x ∷ xs) = ap (λ l. f x ∷ l) (map-take f n xs)

pub take-front : {A : Type 0} (xs ys : List A) (n : ℕ) → n ≤ length xs → take n (xs ++ ys) ≡ take n xs
take-front xs ys zero h = refl
take-front [] ys (suc n) h = absurd (omega arith)
take-front (x ∷ xs) ys (suc n) h = ap (λ l. x ∷ l) (take-front xs ys n (omega arith))

pub take-take : {A : Type 0} (xs : List A) (b n : ℕ) → b ≤ n → take b (take n xs) ≡ take b xs
take-take xs zero n h = refl
take-take xs (suc b) zero h = absurd (omega arith)
take-take [] (suc b) (suc n) h = refl
take-take (x ∷ xs) (suc b) (suc n) h = ap (λ l. x ∷ l) (take-take xs b n (omega arith))

-- one write
pub set-other : {A : Type 0} (xs : List A) (i k : ℕ) (v x : A) → slice_get xs k ≡ Some x → (i ≡ k → ⊥) → slice_get (set xs i v) k ≡ Some x
set-other [] i k v x e h = cc
set-other (y ∷ xs) zero zero v x e h = absurd (h refl)
set-other (y ∷ xs) zero (suc k) v x e h = e
set-other (y ∷ xs) (suc i) zero v x e h = e
set-other (y ∷ xs) (suc i) (suc k) v x e h = set-other xs i k v x e (λ s. h (ap suc s))

pub set-same : {A : Type 0} (xs : List A) (i : ℕ) (v x : A) → slice_get xs i ≡ Some x → slice_get (set xs i v) i ≡ Some v
set-same [] i v x e = cc
set-same (y ∷ xs) zero v x e = refl
set-same (y ∷ xs) (suc i) v x e = set-same xs i v x e

pub set-at : {A : Type 0} (xs : List A) (i k : ℕ) (v x : A) → slice_get (set xs i v) k ≡ Some x → ((k ≡ i) × (x ≡ v)) ⊎ (slice_get xs k ≡ Some x)
set-at [] i k v x e = cc
set-at (y ∷ xs) zero zero v x e = inl (refl, let s : x ≡ v = cc in s)
set-at (y ∷ xs) zero (suc k) v x e = inr e
set-at (y ∷ xs) (suc i) zero v x e = inr e
set-at (y ∷ xs) (suc i) (suc k) v x e = step (set-at xs i k v x e) where
  step : ((k ≡ i) × (x ≡ v)) ⊎ (slice_get xs k ≡ Some x) → ((suc k ≡ suc i) × (x ≡ v)) ⊎ (slice_get xs k ≡ Some x)
  step (inl h) = inl (ap suc h.0, h.1)
  step (inr h) = inr h

pub all_drop : {A : Type 0} (P : A → Type 0) (n : ℕ) (xs : List A) → AllByRecursion P xs → AllByRecursion P (drop n xs)
all_drop P zero xs h = h
all_drop P (suc n) [] h = h
all_drop P (suc n) (x ∷ xs) h = all_drop P n xs h.1

pub all_take : {A : Type 0} (P : A → Type 0) (n : ℕ) (xs : List A) → AllByRecursion P xs → AllByRecursion P (take n xs)
all_take P zero xs h = tt
all_take P (suc n) [] h = h
all_take P (suc n) (x ∷ xs) h = (h.0, all_take P n xs h.1)

pub cons_of_both : {A : Type 0} (a : Option A) (b : Option (List A)) (x : A) (xs : List A) → a ≡ Some x → b ≡ Some xs → cons_both a b ≡ Some (x ∷ xs)
cons_of_both a b x xs e f = rw (e, f)

pub is_there_some : {A : Type 0} (o : Option A) → is_there o ≡ true → (x : A) × (o ≡ Some x)
is_there_some None e = cc
is_there_some (Some x) e = (x, refl)

pub one_term : (x y : Term) → tree_of x ≡ tree_of y → x ≡ y
one_term x y e = sym (term_of-tree_of x) ∙ ap term_of e ∙ term_of-tree_of y

pub keys_fit : (o : Op) → keys o ≤ arity o
keys_fit Hash = omega arith
keys_fit Mac = omega arith
keys_fit Seal = omega arith
keys_fit Wrap = omega arith
keys_fit (Format i a) = omega arith

pub size_some : (t : Tree) → 1 ≤ tree_size t
size_some (leaf n) = omega arith
size_some (node o ts) = omega arith

pub one_size : (xs : List Term) (i : ℕ) (x : Term) → i < length xs → x ≡ get_or xs i x → tree_size (tree_of x) ≤ trees_size (trees_of (map tree_of xs))
one_size [] i x h e = absurd (omega arith)
one_size (y ∷ ys) zero x h e = let s = ap (λ z. tree_size (tree_of z)) e in omega arith
one_size (y ∷ ys) (suc i) x h e = omega (arith, one_size ys i x (omega arith) e)

pub split_at : (xs : List Term) (i : ℕ) (x : Term) → i < length xs → x ≡ get_or xs i x → map tree_of (drop i xs) ≡ tree_of x ∷ map tree_of (drop (i + 1) xs)
split_at xs i x h e = ap (map tree_of) (drop_more xs i x h) ∙ ap (λ y. tree_of y ∷ map tree_of (drop (i + 1) xs)) (sym e)

pub formed_items : (has : Op → Bool) (us : Trees) → AreFormed has us → AreFormed has (trees_of (list_of us))
formed_items has none a = tt
formed_items has (more u us) a = (a.0, formed_items has us a.1)

pub formed_take : (has : Op → Bool) (n : ℕ) (xs : List Tree) → AreFormed has (trees_of xs) → AreFormed has (trees_of (take n xs))
formed_take has zero xs a = tt
formed_take has (suc n) [] a = a
formed_take has (suc n) (x ∷ xs) a = (a.0, formed_take has n xs a.1)

pub each_formed : (has : Op → Bool) (us : Trees) → AreFormed has us → AllByRecursion (IsFormed has) (list_of us)
each_formed has none a = tt
each_formed has (more u us) a = (a.0, each_formed has us a.1)

pub formed_next : (has : Op → Bool) (ts : List Term) (i : ℕ) (t : Term) → i < length ts → t ≡ get_or ts i t → AreFormed has (trees_of (map tree_of (drop i ts)))
    → IsFormed has (tree_of t) × AreFormed has (trees_of (map tree_of (drop (i + 1) ts)))
formed_next has ts i t h e a = let P : List Tree → Type 0 = λ us. AreFormed has (trees_of us) in subst P (map_drop_next tree_of ts i t h e) a

pub tree_differs : (b : Bool) (x y : Tree) → tree_eqb x y ≡ b → (x ≡ y → ⊥) → tree_eqb x y ≡ false
tree_differs true x y e h = absurd (h (tree_same x y e))
tree_differs false x y e h = e

pub picked_length : {A : Type 0} (table : List A) (ns : List ℕ) → AllByRecursion (λ n. n < length table) ns → length (picked table ns) ≡ length ns
picked_length table [] h = refl
picked_length table (n ∷ ns) h = let x = slice_get-there table n h.0 in rw x.1 (ap suc (picked_length table ns h.1))

pub values_length : {A : Type 0} (m : Meaning A) (frame : List A) (rs : List RecipeTree) (xs : List A) → values m frame (recipe_trees rs) ≡ Some xs → length xs ≡ length rs
values_length m frame [] xs e = let s : [] ≡ xs = cc in ap length (sym s)
values_length m frame (r ∷ rs) xs e = let c = consed (value m frame r) (values m frame (recipe_trees rs)) xs e in ap length c.4 ∙ ap suc (values_length m frame rs c.1 c.3)

pub hold_split : {A : Type 0} (m : Meaning A) (vs : List A) (ds es : List Demand) → all_hold m vs (ds ++ es) ≡ true → (all_hold m vs ds ≡ true) × (all_hold m vs es ≡ true)
hold_split m vs [] es h = (refl, h)
hold_split m vs (d ∷ ds) es h =
    let b = and_parts (holds m vs d) (all_hold m vs (ds ++ es)) h in
    let c = hold_split m vs ds es b.1 in
    (rw (b.0, c.0) refl, c.1)
