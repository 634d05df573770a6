-- Flags of terms by number.
use Rattle.std.proofs.Common.{◌≡◌, ℕ, zero, suc, ◌+◌, ◌<◌, ◌≤◌, List, [], ◌∷◌, ◌++◌, length, map, take, drop, get_or, set, Bool, true, false, ◌&&◌, ◌||◌, Some, refl, sym, ap, ◌∙◌, subst, arith, length-append, length-take-le, take-append-drop}
use Rattle.std.specs.Prelude.{slice_get, unwrap_or, ◌==◌, not, replicate}
use Rattle.std.specs.List.{list_any, list_all}
use Rattle.std.proofs.lemmas.List.{drop_more, take_more, map_more, length-map}
use Rattle.std.proofs.lemmas.Option.{slice_get-get_or}
use Rattle.anb_lemmas.proofs.Bools.{or_true, or_assoc, or_without}
use Rattle.anb_lemmas.proofs.Lists.{got_within}
use Rattle.anb_term.specs.Operator.{arity, keys, undoable}
use Rattle.anb_term.specs.Tree.{Tree, leaf, node, Trees, none, more, trees_of, list_of, tree_eqb}
use Rattle.anb_term.specs.TreeSame.{list_of-trees_of, tree_itself}
use Rattle.anb_term.proofs.Lists.{slice_get-there, slice_get-map, tree_differs}
use Rattle.anb_intern.specs.declared.node.NodeId.{NodeId}
use Rattle.anb_intern.specs.declared.node.Node.{Node}
use Rattle.anb_intern.specs.declared.node.Node.TheVariants.{Atom, Apply}
use Rattle.anb_intern.specs.Nodes.{operands_at, tree_at, AreUnder, IsOver, AreDistinct}
use Rattle.anb_intern.proofs.Nodes.{operands_stay, under_take, under_drop, under_more, over_more, operands_long, operands_take}
use Rattle.anb_intern.proofs.Putting.{under_at, operands_last}
use Rattle.anb_reason.specs.Decided.{is_among, composes, all_compose, parts_in}
use Rattle.anb_reason.specs.Flags.{flag_at, all_flagged, is_built, is_parted}

any_last : {A : Type 0} (f : A → Bool) (xs : List A) (x : A) → list_any f (xs ++ x ∷ []) ≡ (list_any f xs || f x)
any_last f [] x = or_false (f x) where
  or_false : (b : Bool) → (b || false) ≡ b
  or_false true = refl
  or_false false = refl
any_last f (y ∷ xs) x = ap (λ b. f y || b) (any_last f xs x) ∙ sym (or_assoc (f y) (list_any f xs) (f x))

pub among_last : (S : List Tree) (x : Tree) → is_among (S ++ x ∷ []) x ≡ true
among_last S x = any_last (λ e. tree_eqb e x) S x ∙ ap (λ b. is_among S x || b) (tree_itself x) ∙ or_true (is_among S x)

pub among_other : (S : List Tree) (x t : Tree) → (x ≡ t → ⊥) → is_among (S ++ x ∷ []) t ≡ is_among S t
among_other S x t h = any_last (λ e. tree_eqb e t) S x ∙ or_without (is_among S t) (tree_eqb x t) (tree_differs (tree_eqb x t) x t refl h)

none_changes : (S : List Tree) (x : Tree) (ts : List Tree) → ((j : ℕ) → slice_get ts j ≡ Some x → ⊥) → map (is_among S) ts ≡ map (is_among (S ++ x ∷ [])) ts
none_changes S x [] h = refl
none_changes S x (t ∷ ts) h = let a = among_other S x t (λ s. h 0 (ap Some (sym s))) in let b = none_changes S x ts (λ j. h (suc j)) in cc

-- one more mark
pub mark_next : (S : List Tree) (x : Tree) (ts : List Tree) (n : ℕ) → slice_get ts n ≡ Some x → ((j : ℕ) → slice_get ts j ≡ Some x → j ≡ n) → set (map (is_among S) ts) n true ≡ map (is_among (S ++ x ∷ [])) ts
mark_next S x [] n e one = cc
mark_next S x (t ∷ ts) zero e one =
    let s : t ≡ x = cc in
    let a : is_among (S ++ x ∷ []) t ≡ true = ap (is_among (S ++ x ∷ [])) s ∙ among_last S x in
    let b = none_changes S x ts (λ j f. let k = one (suc j) f in cc) in cc
mark_next S x (t ∷ ts) (suc n) e one =
    let a = among_other S x t (λ s. let k = one 0 (ap Some (sym s)) in cc) in
    let b = mark_next S x ts n e (λ j f. let k = one (suc j) f in omega (arith, k)) in cc

pub no_marks : (ts : List Tree) → replicate (length ts) false ≡ map (is_among []) ts
no_marks [] = refl
no_marks (t ∷ ts) = ap (λ l. false ∷ l) (no_marks ts)

-- the flags of operands
pub flags_are : (P : Tree → Bool) (ts : List Tree) (flags : List Bool) → flags ≡ map P ts → (ids : List NodeId) → AreUnder (length ts) ids → all_flagged flags ids ≡ list_all P (operands_at ts ids)
flags_are P ts flags is [] u = refl
flags_are P ts flags is (i ∷ ids) u =
    let there = slice_get-there ts i.0 u.0 in
    let a : flag_at flags i ≡ P there.0 = ap (λ l. unwrap_or (slice_get l i.0) false) is ∙ ap (λ o. unwrap_or o false) (slice_get-map P ts i.0 there.0 there.1) in
    let b : unwrap_or (slice_get ts i.0) (leaf 0) ≡ there.0 = ap (λ o. unwrap_or o (leaf 0)) there.1 in
    let c = flags_are P ts flags is ids u.1 in
    ap (λ x. x && all_flagged flags ids) a ∙ ap (λ x. P there.0 && x) c ∙ ap (λ t. P t && list_all P (operands_at ts ids)) (sym b)

pub all_listed : (S : List Tree) (ts : Trees) → all_compose S ts ≡ list_all (composes S) (list_of ts)
all_listed S none = refl
all_listed S (more t ts) = ap (λ b. composes S t && b) (all_listed S ts)

-- a node's term composes where it is marked, or is built from what composes
pub composes_at : (S ts : List Tree) (flags : List Bool) (k : Node) → flags ≡ map (composes S) ts → IsOver (length ts) k → (is_among S (tree_at ts k) || is_built flags k) ≡ composes S (tree_at ts k)
composes_at S ts flags (Atom n) is u = or_without (is_among S (leaf n)) false refl
composes_at S ts flags (Apply o ids) is u =
    let us = operands_at ts ids.items in
    let a : (length ids.items == arity o) ≡ (length (list_of (trees_of us)) == arity o) = ap (λ n. n == arity o) (sym (ap length (list_of-trees_of us) ∙ operands_long ts ids.items)) in
    let b : all_flagged flags ids.items ≡ all_compose S (trees_of us) = flags_are (composes S) ts flags is ids.items u ∙ ap (list_all (composes S)) (sym (list_of-trees_of us)) ∙ sym (all_listed S (trees_of us)) in
    ap (λ x. is_among S (node o (trees_of us)) || (x && all_flagged flags ids.items)) a ∙ ap (λ x. is_among S (node o (trees_of us)) || ((length (list_of (trees_of us)) == arity o) && x)) b

-- a node's operands are the same among the first terms
pub tree_at_front : (ts : List Tree) (n : ℕ) (k : Node) → n ≤ length ts → IsOver n k → tree_at (take n ts) k ≡ tree_at ts k
tree_at_front ts n (Atom m) h u = refl
tree_at_front ts n (Apply o ids) h u = ap (λ us. node o (trees_of us)) (front ids.items u) where
  front : (is : List NodeId) → AreUnder n is → operands_at (take n ts) is ≡ operands_at ts is
  front is u =
      let long : n ≡ length (take n ts) = omega (arith, length_front ts n h) in
      sym (operands_stay (take n ts) (drop n ts) is (subst (λ m. AreUnder m is) long u)) ∙ ap (λ l. operands_at l is) (take-append-drop n ts) where
        length_front : (xs : List Tree) (m : ℕ) → m ≤ length xs → length (take m xs) ≡ m
        length_front xs zero h = refl
        length_front [] (suc m) h = absurd (omega (arith, h))
        length_front (x ∷ xs) (suc m) h = ap suc (length_front xs m (omega (arith, h)))

pub operands_drop : (ts : List Tree) (n : ℕ) (ids : List NodeId) → operands_at ts (drop n ids) ≡ drop n (operands_at ts ids)
operands_drop ts zero ids = refl
operands_drop ts (suc n) [] = refl
operands_drop ts (suc n) (i ∷ ids) = operands_drop ts n ids

-- whether a node is parted is whether its term is
pub parted_is : (S ts : List Tree) (marks composing : List Bool) (k : Node) → marks ≡ map (is_among S) ts → composing ≡ map (composes S) ts → IsOver (length ts) k → is_parted marks composing k ≡ parts_in S (tree_at ts k)
parted_is S ts marks composing (Atom n) m c u = refl
parted_is S ts marks composing (Apply o ids) m c u =
    let us = operands_at ts ids.items in
    let same = list_of-trees_of us in
    let a : all_flagged composing (take (keys o) ids.items) ≡ list_all (composes S) (take (keys o) (list_of (trees_of us))) =
    flags_are (composes S) ts composing c (take (keys o) ids.items) (under_take (length ts) (keys o) ids.items u) ∙ ap (list_all (composes S)) (operands_take ts (keys o) ids.items ∙ ap (take (keys o)) (sym same)) in
    let b : all_flagged marks (drop (keys o) ids.items) ≡ list_all (is_among S) (drop (keys o) (list_of (trees_of us))) =
    flags_are (is_among S) ts marks m (drop (keys o) ids.items) (under_drop (length ts) (keys o) ids.items u) ∙ ap (list_all (is_among S)) (operands_drop ts (keys o) ids.items ∙ ap (drop (keys o)) (sym same)) in
    ap (λ x. not (undoable o && x) || all_flagged marks (drop (keys o) ids.items)) a ∙ ap (λ x. not (undoable o && list_all (composes S) (take (keys o) (list_of (trees_of us)))) || x) b

-- the flags of the numbers from a place on
flag_step : (fs : List Bool) (ids : List NodeId) (i : ℕ) (d : NodeId) (e : Bool) → i < length ids → (get_or ids i d).0 < length fs → all_flagged fs (drop i ids) ≡ (get_or fs (get_or ids i d).0 e && all_flagged fs (drop (i + 1) ids))
flag_step fs ids i d e h k =
    let id = get_or ids i d in
    ap (all_flagged fs) (drop_more ids i d h) ∙ ap (λ o. unwrap_or o false && all_flagged fs (drop (i + 1) ids)) (slice_get-get_or fs id.0 e k)

pub flag_stops : (fs : List Bool) (ids : List NodeId) (i : ℕ) (d : NodeId) (e : Bool) → i < length ids → (get_or ids i d).0 < length fs → get_or fs (get_or ids i d).0 e ≡ false → all_flagged fs (drop i ids) ≡ false
flag_stops fs ids i d e h k off = flag_step fs ids i d e h k ∙ ap (λ x. x && all_flagged fs (drop (i + 1) ids)) off

pub flag_goes : (fs : List Bool) (ids : List NodeId) (i : ℕ) (d : NodeId) (e : Bool) → i < length ids → (get_or ids i d).0 < length fs → get_or fs (get_or ids i d).0 e ≡ true → all_flagged fs (drop i ids) ≡ all_flagged fs (drop (i + 1) ids)
flag_goes fs ids i d e h k on = flag_step fs ids i d e h k ∙ ap (λ x. x && all_flagged fs (drop (i + 1) ids)) on

-- a further number is marked
pub mark_step : (ts : List Tree) (flags : List Bool) (ids : List NodeId) (i : ℕ) (d : NodeId) → AreDistinct ts → AreUnder (length ts) ids → i < length ids
    → flags ≡ map (is_among (operands_at ts (take i ids))) ts → set flags (get_or ids i d).0 true ≡ map (is_among (operands_at ts (take (i + 1) ids))) ts
mark_step ts flags ids i d distinct under h is =
    let id = get_or ids i d in
    let there = slice_get-there ts id.0 (under_at (length ts) ids i d under h) in
    let own : unwrap_or (slice_get ts id.0) (leaf 0) ≡ there.0 = ap (λ o. unwrap_or o (leaf 0)) there.1 in
    let more : operands_at ts (take (i + 1) ids) ≡ operands_at ts (take i ids) ++ there.0 ∷ [] =
    ap (operands_at ts) (take_more ids i d h) ∙ operands_last ts (take i ids) id ∙ ap (λ t. operands_at ts (take i ids) ++ t ∷ []) own in
    ap (λ l. set l id.0 true) is ∙ mark_next (operands_at ts (take i ids)) there.0 ts id.0 there.1 (λ j e. distinct j id.0 there.0 e there.1)
    ∙ ap (λ S. map (is_among S) ts) (sym more)

-- the flag of a further number
pub composing_next : (S ts : List Tree) (marks flags : List Bool) (n : ℕ) (k : Node) (b : Bool) → n < length ts → marks ≡ map (is_among S) ts → flags ≡ map (composes S) (take n ts)
    → slice_get ts n ≡ Some (tree_at ts k) → IsOver n k → b ≡ (get_or marks n false || is_built flags k) → flags ++ b ∷ [] ≡ map (composes S) (take (n + 1) ts)
composing_next S ts marks flags n k b h mark is at over own =
    let t = tree_at ts k in
    let here : get_or ts n t ≡ t = (let e = slice_get-get_or ts n t h in cc) in
    let long : length marks ≡ length ts = ap length mark ∙ length-map ts (is_among S) in
    let m : get_or marks n false ≡ is_among S t = (let e = slice_get-get_or marks n false (omega (arith, h, long)) in let f = ap (λ l. slice_get l n) mark ∙ slice_get-map (is_among S) ts n t at in cc) in
    let front : tree_at (take n ts) k ≡ t = tree_at_front ts n k (omega (arith, h)) over in
    let flagged : length flags ≡ length (take n ts) = ap length is ∙ length-map (take n ts) (composes S) in
    let count : n ≤ length (take n ts) = omega (arith, h, length-take-le n ts (omega (arith, h))) in
    let c = composes_at S (take n ts) flags k is (over_more n (length (take n ts)) k count over) in
    let value : b ≡ composes S t = own ∙ ap (λ x. x || is_built flags k) m ∙ ap (λ u. is_among S u || is_built flags k) (sym front) ∙ c ∙ ap (composes S) front in
    ap (λ l. l ++ b ∷ []) is ∙ ap (λ x. map (composes S) (take n ts) ++ x ∷ []) (value ∙ ap (composes S) (sym here)) ∙ sym (map_more (composes S) ts n t h)

-- a test of the terms of the numbers from a place on
pub test_step : (P : Tree → Bool) (ts : List Tree) (ids : List NodeId) (i : ℕ) (d : NodeId) (t : Tree) → i < length ids → slice_get ts (get_or ids i d).0 ≡ Some t
    → list_all P (operands_at ts (drop i ids)) ≡ (P t && list_all P (operands_at ts (drop (i + 1) ids)))
test_step P ts ids i d t h at =
    ap (λ l. list_all P (operands_at ts l)) (drop_more ids i d h) ∙ ap (λ o. P (unwrap_or o (leaf 0)) && list_all P (operands_at ts (drop (i + 1) ids))) at

-- numbers stand for the same terms in a pool that has grown
pub kept : (p q m : List Tree) (ids : List NodeId) → q ≡ p ++ m → AreUnder (length p) ids → AreUnder (length q) ids × (operands_at q ids ≡ operands_at p ids)
kept p q m ids is under =
    (under_more (length p) (length q) ids (omega (arith, ap length is, length-append p m)) under, ap (λ l. operands_at l ids) is ∙ operands_stay p m ids under)

-- the flag of a number
pub flag_of : (P : Tree → Bool) (ts : List Tree) (flags : List Bool) (n : ℕ) (t : Tree) (d : Bool) → flags ≡ map P ts → slice_get ts n ≡ Some t → get_or flags n d ≡ P t
flag_of P ts flags n t d is at =
    let f : slice_get flags n ≡ Some (P t) = ap (λ l. slice_get l n) is ∙ slice_get-map P ts n t at in
    let e = slice_get-get_or flags n d (got_within flags n (P t) f) in cc

-- a list and labels, by their numbers in a pool
pub record Pooled (frame list p : List Tree) (held labels : List NodeId) : Type 0 where
  pub held_under : AreUnder (length p) held
  pub held_are : operands_at p held ≡ list
  pub labels_under : AreUnder (length p) labels
  pub labels_are : operands_at p labels ≡ frame

pub pooled : (frame list p1 p2 p3 m2 m3 : List Tree) (held labels : List NodeId) → p2 ≡ p1 ++ m2 → p3 ≡ p2 ++ m3 → AreUnder (length p1) held → operands_at p1 held ≡ list
    → AreUnder (length p2) labels → operands_at p2 labels ≡ frame → Pooled frame list p3 held labels
pooled frame list p1 p2 p3 m2 m3 held labels two three hu hs lu ls =
    let a = kept p1 p2 m2 held two hu in
    let b = kept p2 p3 m3 held three a.0 in
    let d = kept p2 p3 m3 labels three lu in
    record { held_under = b.0; held_are = b.1 ∙ a.1 ∙ hs; labels_under = d.0; labels_are = d.1 ∙ ls }

module _ (frame list p : List Tree) (held labels : List NodeId) (q : Pooled frame list p held labels) (marks : List Bool) where
  pub marks_are : (ids : List NodeId) → ids ≡ held → marks ≡ map (is_among (operands_at p ids)) p → marks ≡ map (is_among list) p
  marks_are ids same is = is ∙ ap (λ S. map (is_among S) p) (ap (operands_at p) same ∙ q.held_are)

  pub labels_flagged : (b : Bool) (ms : List Bool) (ids : List NodeId) → marks ≡ map (is_among list) p → ms ≡ marks → ids ≡ labels → b ≡ all_flagged ms ids → list_all (is_among list) frame ≡ b
  labels_flagged b ms ids is s r e =
      let f = flags_are (is_among list) p marks is labels q.labels_under in
      sym (e ∙ ap (λ l. all_flagged l ids) s ∙ ap (all_flagged marks) r ∙ f ∙ ap (list_all (is_among list)) q.labels_are)
