-- Terms in lists.
use Rattle.std.proofs.Common.{◌≡◌, ℕ, zero, suc, ◌+◌, ◌<◌, List, [], ◌∷◌, ◌++◌, length, map, get_or, take, drop, Some, ap, sym, ◌∙◌, arith}
use Rattle.std.specs.Prelude.{slice_get}
use Rattle.std.specs.List.{All, AllByRecursion as ByRecursion}
use Rattle.std.proofs.lemmas.List.{drop_more, take_more}
use Rattle.std.proofs.lemmas.List.Elements.{recursion_from_All, filter_map-append}
use Rattle.std.proofs.lemmas.Option.{slice_get-get_or}
use Rattle.anb_term.specs.declared.term.Term.{Term}
use Rattle.anb_term.specs.View.{tree_of, term_of}
use Rattle.anb_term.specs.TreeSame.{trees_terms}
use Rattle.anb_term.proofs.Lists.{map-drop, map-take, one_term}
use Rattle.anb_term.specs.Lawful.{picked}

pub terms_at : (xs ys : List Term) (i : ℕ) (x y : Term) → i < length xs → x ≡ get_or xs i x → y ≡ get_or ys i y → map tree_of xs ≡ map tree_of ys → x ≡ y
terms_at [] ys i x y h ex ey e = absurd (omega arith)
terms_at (a ∷ xs) [] i x y h ex ey e = cc
terms_at (a ∷ xs) (b ∷ ys) zero x y h ex ey e = let s : tree_of a ≡ tree_of b = cc in ex ∙ one_term a b s ∙ sym ey
terms_at (a ∷ xs) (b ∷ ys) (suc i) x y h ex ey e = let s : map tree_of xs ≡ map tree_of ys = cc in terms_at xs ys i x y (omega arith) ex ey s

pub picked_drop : (table : List Term) (at : List ℕ) (i : ℕ) (x : Term) → i < length at → slice_get table (get_or at i 0) ≡ Some x → picked table (drop i at) ≡ x ∷ picked table (drop (i + 1) at)
picked_drop table at i x h e = rw (drop_more at i 0 h, e)

pub one_list : (xs ys : List Term) → map tree_of xs ≡ map tree_of ys → xs ≡ ys
one_list xs ys e = sym (trees_terms xs) ∙ ap (map term_of) e ∙ trees_terms ys

pub drop_terms : (n : ℕ) (xs : List Term) → map term_of (drop n (map tree_of xs)) ≡ drop n xs
drop_terms n xs = ap (map term_of) (sym (map-drop tree_of n xs)) ∙ trees_terms (drop n xs)

pub picks_more : (table items : List Term) (by : List ℕ) (k : ℕ) (x : Term) → k < length by → k < length items → slice_get table (get_or by k 0) ≡ Some x → x ≡ get_or items k x
    → picked table (take k by) ≡ take k items → picked table (take (k + 1) by) ≡ take (k + 1) items
picks_more table items by k x hb hi at is before =
    ap (picked table) (take_more by k 0 hb) ∙ filter_map-append (slice_get table) (take k by) (get_or by k 0 ∷ [])
    ∙ rw (before, at) (ap (λ y. take k items ++ y ∷ []) is ∙ sym (take_more items k x hi))

picks_at : (table items : List Term) (by : List ℕ) (k : ℕ) (x y : Term) → ByRecursion (λ i. i < length table) by → k < length by → slice_get table (get_or by k 0) ≡ Some x → y ≡ get_or items k y → k < length items
    → picked table by ≡ take (length by) items → y ≡ x
picks_at table items [] k x y all h at is hi e = absurd (omega arith)
picks_at table [] (b ∷ by) k x y all h at is hi e = absurd (omega arith)
picks_at table (a ∷ items) (b ∷ by) zero x y all h at is hi e = let s : x ∷ picked table by ≡ a ∷ take (length by) items = rw at at e in cc
picks_at table (a ∷ items) (b ∷ by) (suc k) x y all h at is hi e =
    let z = slice_get-get_or table b x all.0 in
    let s : get_or table b x ∷ picked table by ≡ a ∷ take (length by) items = rw z at e in
    let t : picked table by ≡ take (length by) items = cc in
    picks_at table items by k x y all.1 (omega arith) at is (omega arith) t

pub picks_differ : (table items : List Term) (by : List ℕ) (k : ℕ) (x y : Term) → All (λ i. i < length table) by → k < length by → slice_get table (get_or by k 0) ≡ Some x → y ≡ get_or items k y → k < length items
    → map tree_of (picked table by) ≡ take (length by) (map tree_of items) → y ≡ x
picks_differ table items by k x y within h at is hi e =
    picks_at table items by k x y (recursion_from_All (λ i. i < length table) by within) h at is hi (one_list _ _ (e ∙ sym (map-take tree_of (length by) items)))
