-- Terms that are put in one after another.
use Rattle.std.proofs.Common.{◌≡◌, ℕ, zero, suc, ◌+◌, ◌<◌, ◌≤◌, List, [], ◌∷◌, ◌++◌, length, map, drop, get_or, Some, refl, sym, ap, ◌∙◌, subst, arith, append_assoc, length-append}
use Rattle.std.specs.Prelude.{slice_get, unwrap_or}
use Rattle.anb_term.specs.declared.term.Term.{Term}
use Rattle.std.specs.List.{AllByRecursion}
use Rattle.anb_lemmas.proofs.Lists.{got_within}
use Rattle.anb_term.specs.declared.term.Op.{Op}
use Rattle.anb_term.specs.TreeSame.{list_of-trees_of}
use Rattle.anb_term.specs.Tree.{Tree, leaf, node, tree_size, trees_size, trees_of}
use Rattle.anb_term.specs.View.{tree_of}
use Rattle.anb_term.proofs.Lists.{slice_get-there, split_at}
use Rattle.anb_intern.specs.declared.node.NodeId.{NodeId}
use Rattle.anb_intern.specs.Nodes.{operands_at, AreUnder, HasMore, Below, AreBefore}
use Rattle.anb_intern.proofs.Nodes.{operands_stay}

pub under_last : (m n : ℕ) (is : List NodeId) (i : NodeId) → m ≤ n → i.0 < n → AreUnder m is → AreUnder n (is ++ i ∷ [])
under_last m n [] i h l u = (l, tt)
under_last m n (j ∷ is) i h l u = (omega (arith, h, u.0), under_last m n is i h l u.1)

pub under_at : (n : ℕ) (is : List NodeId) (i : ℕ) (d : NodeId) → AreUnder n is → i < length is → (get_or is i d).0 < n
under_at n [] i d u h = absurd (omega arith)
under_at n (j ∷ is) zero d u h = u.0
under_at n (j ∷ is) (suc i) d u h = under_at n is i d u.1 (omega arith)

pub operands_last : (ts : List Tree) (is : List NodeId) (i : NodeId) → operands_at ts (is ++ i ∷ []) ≡ operands_at ts is ++ unwrap_or (slice_get ts i.0) (leaf 0) ∷ []
operands_last ts [] i = refl
operands_last ts (j ∷ is) i = ap (λ l. unwrap_or (slice_get ts j.0) (leaf 0) ∷ l) (operands_last ts is i)

pub record IsPutting (before now : List Tree) (ids : List NodeId) (xs : List Term) (i : ℕ) : Type 0 where
  pub more : List Tree
  pub is : now ≡ before ++ more
  pub count : length more + trees_size (trees_of (map tree_of (drop i xs))) ≤ trees_size (trees_of (map tree_of xs))
  pub under : AreUnder (length now) ids
  pub stored : operands_at now ids ++ map tree_of (drop i xs) ≡ map tree_of xs

module _ (before now : List Tree) (ids : List NodeId) (xs : List Term) (i : ℕ) (x : Term) (so_far : IsPutting before now ids xs i) (h : i < length xs) (own : x ≡ get_or xs i x) where
  -- what the next term needs
  pub next_fits : length now + tree_size (tree_of x) ≤ length before + trees_size (trees_of (map tree_of xs))
  next_fits = omega (arith, so_far.count, ap length so_far.is, length-append before so_far.more, ap (λ l. trees_size (trees_of l)) (split_at xs i x h own))

  pub put_next : (now' : List Tree) (ids' : List NodeId) (id : NodeId) → HasMore now (tree_size (tree_of x)) now' → slice_get now' id.0 ≡ Some (tree_of x) → ids' ≡ ids ++ id ∷ [] → IsPutting before now' ids' xs (i + 1)
  put_next now' ids' id p at is_ids =
      let split = split_at xs i x h own in
      let grown : length now ≤ length now' = omega (arith, ap length p.is, length-append now p.more) in
      let here : unwrap_or (slice_get now' id.0) (leaf 0) ≡ tree_of x = ap (λ o. unwrap_or o (leaf 0)) at in
      let old : operands_at now' ids ≡ operands_at now ids = ap (λ l. operands_at l ids) p.is ∙ operands_stay now p.more ids so_far.under in
      record {
        more = so_far.more ++ p.more;
        is = p.is ∙ ap (λ l. l ++ p.more) so_far.is ∙ append_assoc before so_far.more p.more;
        count = omega (arith, so_far.count, p.few, length-append so_far.more p.more, ap (λ l. trees_size (trees_of l)) split);
        under = subst (AreUnder (length now')) (sym is_ids) (under_last (length now) (length now') ids id grown (got_within now' id.0 (tree_of x) at) so_far.under);
        stored =
            ap (λ l. operands_at now' l ++ map tree_of (drop (i + 1) xs)) is_ids
            ∙ ap (λ l. l ++ map tree_of (drop (i + 1) xs)) (operands_last now' ids id)
            ∙ ap (λ t. (operands_at now' ids ++ t ∷ []) ++ map tree_of (drop (i + 1) xs)) here
            ∙ append_assoc (operands_at now' ids) (tree_of x ∷ []) (map tree_of (drop (i + 1) xs))
            ∙ ap (λ l. l ++ (tree_of x ∷ map tree_of (drop (i + 1) xs))) old
            ∙ ap (λ l. operands_at now ids ++ l) (sym split)
            ∙ so_far.stored;
      }

pub record IsFinding (now : List Tree) (ids : List NodeId) (xs : List Term) (i : ℕ) : Type 0 where
  pub under : AreUnder (length now) ids
  pub stored : operands_at now ids ++ map tree_of (drop i xs) ≡ map tree_of xs

-- each of a node's operands is there
operand_there : (ts : List Tree) (ids : List NodeId) (xs : List Term) (i : ℕ) (x : Term) → AreUnder (length ts) ids → operands_at ts ids ≡ map tree_of xs → i < length xs → x ≡ get_or xs i x
    → (n : ℕ) × (slice_get ts n ≡ Some (tree_of x))
operand_there ts [] [] i x u e h own = absurd (omega arith)
operand_there ts [] (y ∷ xs) i x u e h own = cc
operand_there ts (j ∷ ids) [] i x u e h own = absurd (omega arith)
operand_there ts (j ∷ ids) (y ∷ xs) zero x u e h own =
    let there = slice_get-there ts j.0 u.0 in
    let a : unwrap_or (slice_get ts j.0) (leaf 0) ≡ tree_of y = cc in
    (j.0, there.1 ∙ ap Some (sym (ap (λ o. unwrap_or o (leaf 0)) there.1) ∙ a ∙ ap tree_of (sym own)))
operand_there ts (j ∷ ids) (y ∷ xs) (suc i) x u e h own = let r : operands_at ts ids ≡ map tree_of xs = cc in operand_there ts ids xs i x u.1 r (omega arith) own

module _ (now : List Tree) (ids : List NodeId) (xs : List Term) (i : ℕ) (x : Term) (h : i < length xs) (own : x ≡ get_or xs i x) where
  pub find_none : ((n : ℕ) → slice_get now n ≡ Some (tree_of x) → ⊥) → (is : List NodeId) → AreUnder (length now) is → operands_at now is ≡ map tree_of xs → ⊥
  find_none none is u e = let p = operand_there now is xs i x u e h own in none p.0 p.1

  pub find_next : IsFinding now ids xs i → (id : NodeId) (ids' : List NodeId) → slice_get now id.0 ≡ Some (tree_of x) → ids' ≡ ids ++ id ∷ [] → IsFinding now ids' xs (i + 1)
  find_next so_far id ids' at is_ids = record {
    under = subst (AreUnder (length now)) (sym is_ids) (under_last (length now) (length now) ids id (omega arith) (got_within now id.0 (tree_of x) at) so_far.under);
    stored =
        ap (λ l. operands_at now l ++ map tree_of (drop (i + 1) xs)) is_ids
        ∙ ap (λ l. l ++ map tree_of (drop (i + 1) xs)) (operands_last now ids id)
        ∙ ap (λ t. (operands_at now ids ++ t ∷ []) ++ map tree_of (drop (i + 1) xs)) (ap (λ o. unwrap_or o (leaf 0)) at)
        ∙ append_assoc (operands_at now ids) (tree_of x ∷ []) (map tree_of (drop (i + 1) xs))
        ∙ ap (λ l. operands_at now ids ++ l) (sym (split_at xs i x h own))
        ∙ so_far.stored;
  }

-- a term whose operands are before has their numbers
numbered : (ts : List Tree) (i : ℕ) (us : List Tree) → i ≤ length ts → AllByRecursion (Below ts i) us → (ids : List NodeId) × AreUnder (length ts) ids × (operands_at ts ids ≡ us)
numbered ts i [] h all = ([], tt, refl)
numbered ts i (u ∷ us) h ((j, l, at), rest) =
    let r = numbered ts i us h rest in
    (record { 0 = j } ∷ r.0, (omega (arith, l, h), r.1), ap (λ t. t ∷ operands_at ts r.0) (ap (λ o. unwrap_or o (leaf 0)) at) ∙ ap (λ l. u ∷ l) r.2)

pub node_not : (ts : List Tree) (o : Op) (us : List Tree) (i : ℕ) → AreBefore ts → ((ids : List NodeId) → AreUnder (length ts) ids → operands_at ts ids ≡ us → ⊥) → slice_get ts i ≡ Some (node o (trees_of us)) → ⊥
node_not ts o us i before none at =
    let r = numbered ts i us (omega (arith, got_within ts i _ at)) (subst (AllByRecursion (Below ts i)) (list_of-trees_of us) (before i o (trees_of us) at)) in
    none r.0 r.1 r.2
