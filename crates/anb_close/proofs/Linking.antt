-- The terms of a pool that each term is an operand of.
use Rattle.std.proofs.Common.{◌≡◌, ℕ, zero, suc, ◌+◌, ◌<◌, ◌≤◌, List, [], ◌∷◌, ◌++◌, length, get_or, Some, Vec, Global, refl, sym, ap, ◌∙◌, subst, arith, inl, inr, ◌⊎◌, ⊎_elim}
use Rattle.std.specs.Prelude.{slice_get, unwrap_or}
use Rattle.std.specs.List.{AllByRecursion}
use Rattle.std.proofs.Math.ListN.{set}
use Rattle.anb_lemmas.proofs.Numbers.{below_or_last}
use Rattle.anb_term.specs.declared.term.Op.{Op}
use Rattle.anb_term.specs.Tree.{Tree, leaf, node, Trees, trees_of, list_of}
use Rattle.anb_term.specs.TreeSame.{list_of-trees_of}
use Rattle.anb_term.proofs.Lists.{slice_get-append, slice_get-there}
use Rattle.anb_intern.specs.declared.node.NodeId.{NodeId}
use Rattle.anb_intern.specs.declared.node.Node.{Node}
use Rattle.anb_intern.specs.declared.node.Node.TheVariants.{Atom, Apply}
use Rattle.anb_intern.specs.Nodes.{operands_at, tree_at, AreUnder, IsOver, AreDistinct, AreBefore, Below}
use Rattle.anb_intern.proofs.Nodes.{operands_stay, under_more}
use Rattle.anb_close.specs.Listed.{IsListed}
use Rattle.anb_close.specs.Parents.{list_at, ListsStay, IsLinked, IsNode, AreLinked}
use Rattle.anb_close.proofs.Indexing.{front_get}

pub listed_more : (ks later : List ℕ) (n : ℕ) → IsListed ks n → IsListed (ks ++ later) n
listed_more ks later n (i, e) = (i, slice_get-append ks later i n e)

pub listed_last : (ks : List ℕ) (n : ℕ) → IsListed (ks ++ n ∷ []) n
listed_last [] n = (0, refl)
listed_last (k ∷ ks) n = let m = listed_last ks n in (suc m.0, m.1)

pub listed_behind : (ks later : List ℕ) (n : ℕ) → IsListed later n → IsListed (ks ++ later) n
listed_behind [] later n m = m
listed_behind (k ∷ ks) later n m = let l = listed_behind ks later n m in (suc l.0, l.1)

-- one list is written
list_set : (ps : List (Vec ℕ Global)) (i w : ℕ) (v d : Vec ℕ Global) → i < length ps → (list_at (set ps i v) w ≡ list_at ps w) ⊎ ((w ≡ i) × (list_at (set ps i v) w ≡ v.items) × (list_at ps w ≡ (get_or ps i d).items))
list_set [] i w v d h = absurd (omega arith)
list_set (p ∷ ps) zero zero v d h = inr (refl, refl, refl)
list_set (p ∷ ps) zero (suc w) v d h = inl refl
list_set (p ∷ ps) (suc i) zero v d h = inl refl
list_set (p ∷ ps) (suc i) (suc w) v d h = ⊎_elim (λ a. inl a) (λ (a, b, c). inr (ap suc a, b, c)) (list_set ps i w v d (omega arith))

pub set_stays : (ps : List (Vec ℕ Global)) (i : ℕ) (x v : Vec ℕ Global) (later : List ℕ) → i < length ps → x ≡ get_or ps i x → v.items ≡ x.items ++ later → ListsStay ps (set ps i v)
set_stays ps i x v later h own is w n m = ⊎_elim
    (λ same. subst (λ l. IsListed l n) (sym same) m)
    (λ (at, new, old).
    let a : list_at ps w ≡ x.items = old ∙ ap (λ (y : Vec ℕ Global). y.items) (sym own) in
    subst (λ l. IsListed l n) (sym (new ∙ is)) (listed_more x.items later n (subst (λ l. IsListed l n) a m)))
    (list_set ps i w v x h)

list_own : (ps : List (Vec ℕ Global)) (i : ℕ) (v : Vec ℕ Global) → i < length ps → list_at (set ps i v) i ≡ v.items
list_own [] i v h = absurd (omega arith)
list_own (p ∷ ps) zero v h = refl
list_own (p ∷ ps) (suc i) v h = list_own ps i v (omega arith)

pub set_lists : (ps : List (Vec ℕ Global)) (i n : ℕ) (x v : Vec ℕ Global) → i < length ps → v.items ≡ x.items ++ n ∷ [] → IsListed (list_at (set ps i v) i) n
set_lists ps i n x v h is = subst (λ l. IsListed l n) (sym (list_own ps i v h ∙ is)) (listed_last x.items n)

pub list_here : (ps : List (Vec ℕ Global)) (i : ℕ) (x : Vec ℕ Global) → i < length ps → x ≡ get_or ps i x → x.items ≡ list_at ps i
list_here [] i x h e = absurd (omega arith)
list_here (p ∷ ps) zero x h e = ap (λ (y : Vec ℕ Global). y.items) e
list_here (p ∷ ps) (suc i) x h e = list_here ps i x (omega arith) e

pub list_past : (ps : List (Vec ℕ Global)) (i : ℕ) → length ps ≤ i → [] ≡ list_at ps i
list_past [] i h = refl
list_past (p ∷ ps) zero h = absurd (omega arith)
list_past (p ∷ ps) (suc i) h = list_past ps i (omega arith)

-- one more list
pub lists_more : (ps later : List (Vec ℕ Global)) → ListsStay ps (ps ++ later)
lists_more [] later w n (k, e) = cc
lists_more (p ∷ ps) later zero n m = m
lists_more (p ∷ ps) later (suc w) n m = lists_more ps later w n m

-- a number under one more of these
pub under_next : (ps ps' : List (Vec ℕ Global)) (ids : List NodeId) (n i : ℕ) (d : NodeId) → i < length ids → ((j : ℕ) (id : NodeId) → j < i → slice_get ids j ≡ Some id → IsListed (list_at ps id.0) n) → ListsStay ps ps'
    → IsListed (list_at ps' (get_or ids i d).0) n → (j : ℕ) (id : NodeId) → j < i + 1 → slice_get ids j ≡ Some id → IsListed (list_at ps' id.0) n
under_next ps ps' ids n i d h so_far stay new j id l at = ⊎_elim
    (λ a. stay id.0 n (so_far j id a at))
    (λ b. subst (λ (x : NodeId). IsListed (list_at ps' x.0) n) (got ids i d id h (subst (λ m. slice_get ids m ≡ Some id) b at)) new)
    (below_or_last j i l)
  where
    got : (ids : List NodeId) (i : ℕ) (d id : NodeId) → i < length ids → slice_get ids i ≡ Some id → get_or ids i d ≡ id
    got [] i d id h e = cc
    got (x ∷ ids) zero d id h e = cc
    got (x ∷ ids) (suc i) d id h e = got ids i d id (omega arith) e

-- equal operands have equal numbers
pub same_ids : (ts : List Tree) (m n : ℕ) (ids js : List NodeId) → AreDistinct ts → m ≤ length ts → n ≤ length ts → AreUnder m ids → AreUnder n js → operands_at ts ids ≡ operands_at ts js → ids ≡ js
same_ids ts m n [] [] distinct hm hn u v e = refl
same_ids ts m n [] (j ∷ js) distinct hm hn u v e = cc
same_ids ts m n (i ∷ ids) [] distinct hm hn u v e = cc
same_ids ts m n (i ∷ ids) (j ∷ js) distinct hm hn u v e =
    let a = slice_get-there ts i.0 (omega (arith, hm, u.0)) in
    let b = slice_get-there ts j.0 (omega (arith, hn, v.0)) in
    let s : unwrap_or (slice_get ts i.0) (leaf 0) ≡ unwrap_or (slice_get ts j.0) (leaf 0) = cc in
    let r : operands_at ts ids ≡ operands_at ts js = cc in
    let x : a.0 ≡ b.0 = sym (ap (λ o. unwrap_or o (leaf 0)) a.1) ∙ s ∙ ap (λ o. unwrap_or o (leaf 0)) b.1 in
    let z : i.0 ≡ j.0 = distinct i.0 j.0 a.0 a.1 (b.1 ∙ ap Some (sym x)) in
    let y : i ≡ j = ap (λ k. record { 0 = k }) z in
    cc (y, same_ids ts m n ids js distinct hm hn u.1 v.1 r)

-- one node more is linked
pub link_next : (ts : List Tree) (ps ps' : List (Vec ℕ Global)) (n : ℕ) (k : Node) → AreDistinct ts → n < length ts → slice_get ts n ≡ Some (tree_at ts k) → IsOver n k → ListsStay ps ps' → IsLinked ps' k n → AreLinked ts ps n → AreLinked ts ps' (n + 1)
link_next ts ps ps' n k distinct h at over stay linked before m o ids l (here, under) j id there = ⊎_elim
    (λ a. stay id.0 m (before m o ids a (here, under) j id there))
    (λ b.
    let here' : slice_get ts n ≡ Some (node o (trees_of (operands_at ts ids))) = subst (λ x. slice_get ts x ≡ Some (node o (trees_of (operands_at ts ids)))) b here in
    let under' : AreUnder n ids = subst (λ x. AreUnder x ids) b under in
    subst (λ x. IsListed (list_at ps' id.0) x) (sym b) (of_node k at over linked here' under'))
    (below_or_last m n l)
  where
    of_node : (k : Node) → slice_get ts n ≡ Some (tree_at ts k) → IsOver n k → IsLinked ps' k n → slice_get ts n ≡ Some (node o (trees_of (operands_at ts ids))) → AreUnder n ids → IsListed (list_at ps' id.0) n
    of_node (Atom x) at over linked here under = let s : leaf x ≡ node o (trees_of (operands_at ts ids)) = cc in cc
    of_node (Apply p js) at over linked here under =
        let s : trees_of (operands_at ts js.items) ≡ trees_of (operands_at ts ids) = cc in
        let r : operands_at ts js.items ≡ operands_at ts ids = sym (list_of-trees_of (operands_at ts js.items)) ∙ ap list_of s ∙ list_of-trees_of (operands_at ts ids) in
        let q = same_ids ts n n js.items ids distinct (omega (arith, h)) (omega (arith, h)) over under r in
        linked j id (subst (λ l. slice_get l j ≡ Some id) (sym q) there)

-- a longer pool's first nodes are those of before
pub node_before : (ts later : List Tree) (n : ℕ) (o : Op) (ids : List NodeId) → n < length ts → IsNode (ts ++ later) n o ids → IsNode ts n o ids
node_before ts later n o ids h (at, under) =
    let u = under_more n (length ts) ids (omega (arith, h)) under in
    (front_get ts later n _ h (at ∙ ap (λ l. Some (node o (trees_of l))) (operands_stay ts later ids u)), under)

pub linked_before : (ts ts' later : List Tree) (ps : List (Vec ℕ Global)) → ts' ≡ ts ++ later → AreLinked ts ps (length ts) → AreLinked ts' ps (length ts)
linked_before ts ts' later ps is linked n o ids h at = linked n o ids h (node_before ts later n o ids h (subst (λ l. IsNode l n o ids) is at))

pub linked_stay : (ts : List Tree) (ps ps' : List (Vec ℕ Global)) (m : ℕ) → ListsStay ps ps' → AreLinked ts ps m → AreLinked ts ps' m
linked_stay ts ps ps' m stay linked n o ids h at j id there = stay id.0 n (linked n o ids h at j id there)

-- each node has numbers of its operands
numbers_of : (ts : List Tree) (n : ℕ) (us : List Tree) → AllByRecursion (Below ts n) us → (ids : List NodeId) × AreUnder n ids × (operands_at ts ids ≡ us)
numbers_of ts n [] all = ([], tt, refl)
numbers_of ts n (u ∷ us) ((j, h, at), rest) =
    let m = numbers_of ts n us rest in
    (record { 0 = j } ∷ m.0, (h, m.1), let a = ap (λ o. unwrap_or o (leaf 0)) at in cc (a, m.2))

pub node_at : (ts : List Tree) (n : ℕ) (o : Op) (us : Trees) → AreBefore ts → slice_get ts n ≡ Some (node o us) → (ids : List NodeId) × IsNode ts n o ids × (operands_at ts ids ≡ list_of us)
node_at ts n o us before at =
    let m = numbers_of ts n (list_of us) (before n o us at) in
    (m.0, (at ∙ ap (λ l. Some (node o l)) (sym (back us) ∙ ap trees_of (sym m.2)), m.1), m.2)
  where
    back : (us : Trees) → trees_of (list_of us) ≡ us
    back Rattle.anb_term.specs.Tree.none = refl
    back (Rattle.anb_term.specs.Tree.more u us) = ap (Rattle.anb_term.specs.Tree.more u) (back us)
