-- What is read of a term of a pool.
use Rattle.std.proofs.Common.{◌≡◌, ℕ, zero, suc, ◌+◌, ◌<◌, ◌≤◌, List, [], ◌∷◌, ◌++◌, length, map, take, get_or, Some, refl, sym, ap, ◌∙◌, subst, arith}
use Rattle.std.specs.Prelude.{slice_get}
use Rattle.std.proofs.lemmas.List.{length-map}
use Rattle.anb_lemmas.proofs.Lists.{got_within, take_got}
use Rattle.anb_term.specs.declared.term.Op.{Op}
use Rattle.anb_term.specs.declared.term.Term.{Term}
use Rattle.anb_term.specs.Tree.{Tree, leaf, node, Trees, none, more, trees_of, list_of}
use Rattle.anb_term.specs.View.{tree_of}
use Rattle.anb_term.proofs.Lists.{map-append}
use Rattle.anb_intern.specs.declared.node.NodeId.{NodeId}
use Rattle.anb_intern.specs.Nodes.{operands_at}
use Rattle.anb_unify.specs.Substitutions.{put_in}
use Rattle.anb_unify.specs.Reading.{root_with, read, read_all, Settles, Keeps}
use Rattle.anb_unify.proofs.Steps.{got, taken_all}
use Rattle.anb_unify.proofs.Settling.{read_leaf}
use Rattle.anb_unify.proofs.Unifying.{one_operator, operands_long}

module _ (names : ℕ) (ts : List Tree) (roots : List NodeId) (rep : Tree → Tree) (settled : Settles names ts roots rep) (i : ℕ) (t : Tree) (at : slice_get ts i ≡ Some t) where
  pub roots_within : i < length roots
  roots_within = let r = settled.at i t at in got_within roots i r.0 r.1

  pub root_is : (d : NodeId) → slice_get ts (get_or roots i d).0 ≡ Some (rep t)
  root_is d =
      let r = settled.at i t at in
      let s : r.0 ≡ get_or roots i d = (let a = got roots i d roots_within in let b = r.1 in cc) in
      subst (λ (y : NodeId). slice_get ts y.0 ≡ Some (rep t)) s r.2

  pub atom_read : (d : NodeId) (n : ℕ) (h : Tree) → slice_get ts (get_or roots i d).0 ≡ Some (leaf n) → leaf n ≡ read rep t h
  atom_read d n h e = let s : rep t ≡ leaf n = (let r = root_is d in cc) in sym (read_leaf rep t n h s)

  pub node_read : (d : NodeId) (o p : Op) (us : List Tree) (ps hs : Trees) → slice_get ts (get_or roots i d).0 ≡ Some (node o (trees_of us)) → ps ≡ read_all rep (trees_of us) hs → node o ps ≡ read rep t (node p hs)
  node_read d o p us ps hs e r =
      let s : rep t ≡ node o (trees_of us) = (let x = root_is d in cc) in
      ap (node o) r ∙ ap (λ x. root_with x (λ vs. read_all rep vs hs)) (sym s)

  module _ (put : ℕ → Tree) (kept : Keeps ts rep put) where
    root_put : (d : NodeId) (x h : Tree) → slice_get ts (get_or roots i d).0 ≡ Some x → put_in put t ≡ h → put_in put x ≡ h
    root_put d x h e is = let s : rep t ≡ x = (let r = root_is d in cc) in ap (put_in put) (sym s) ∙ sym (kept i t at) ∙ is

    pub operands_put : (d : NodeId) (o p : Op) (us : List Tree) (ws : Trees) → slice_get ts (get_or roots i d).0 ≡ Some (node o (trees_of us)) → put_in put t ≡ node p ws → map (put_in put) us ≡ list_of ws
    operands_put d o p us ws e is = let h = root_put d (node o (trees_of us)) (node p ws) e is in (one_operator put o o p us us ws h h).1

    pub never_atom : (d : NodeId) (o : Op) (us : List Tree) (n : ℕ) → slice_get ts (get_or roots i d).0 ≡ Some (node o (trees_of us)) → put_in put t ≡ leaf n → ⊥
    never_atom d o us n e is = let h = root_put d (node o (trees_of us)) (leaf n) e is in cc

-- one more
read_snoc : (rep : Tree → Tree) (xs ys zs : List Tree) (x y z : Tree) → length xs ≡ length ys → trees_of zs ≡ read_all rep (trees_of xs) (trees_of ys) → z ≡ read rep x y → trees_of (zs ++ z ∷ []) ≡ read_all rep (trees_of (xs ++ x ∷ [])) (trees_of (ys ++ y ∷ []))
read_snoc rep [] [] [] x y z n e s = ap (λ u. more u none) s
read_snoc rep [] [] (w ∷ zs) x y z n e s = cc
read_snoc rep [] (v ∷ ys) zs x y z n e s = absurd (omega arith)
read_snoc rep (u ∷ xs) [] zs x y z n e s = absurd (omega arith)
read_snoc rep (u ∷ xs) (v ∷ ys) [] x y z n e s = cc
read_snoc rep (u ∷ xs) (v ∷ ys) (w ∷ zs) x y z n e s =
    let a : w ≡ read rep u v = cc in
    let b : trees_of zs ≡ read_all rep (trees_of xs) (trees_of ys) = cc in
    ap (λ q. more q (trees_of (zs ++ z ∷ []))) a ∙ ap (more (read rep u v)) (read_snoc rep xs ys zs x y z (omega arith) b s)

taken_long : {A : Type 0} (xs : List A) (i : ℕ) → i ≤ length xs → length (take i xs) ≡ i
taken_long xs zero h = refl
taken_long [] (suc i) h = absurd (omega arith)
taken_long (x ∷ xs) (suc i) h = ap suc (taken_long xs i (omega arith))

pub read_more : (rep : Tree → Tree) (us : List Tree) (ns : List Term) (out out' : List Term) (p : Term) (i : ℕ) (u : Tree) (n : Term) → slice_get us i ≡ Some u → slice_get ns i ≡ Some n
    → trees_of (map tree_of out) ≡ read_all rep (trees_of (take i us)) (trees_of (map tree_of (take i ns))) → tree_of p ≡ read rep u (tree_of n) → out' ≡ out ++ p ∷ []
    → trees_of (map tree_of out') ≡ read_all rep (trees_of (take (i + 1) us)) (trees_of (map tree_of (take (i + 1) ns)))
read_more rep us ns out out' p i u n at_u at_n before e is =
    let a = take_got us i u at_u in
    let b = ap (map tree_of) (take_got ns i n at_n) ∙ map-append tree_of (take i ns) (n ∷ []) in
    let c = ap (map tree_of) is ∙ map-append tree_of out (p ∷ []) in
    let long : length (take i us) ≡ length (map tree_of (take i ns)) =
    taken_long us i (omega (arith, got_within us i u at_u)) ∙ sym (taken_long ns i (omega (arith, got_within ns i n at_n))) ∙ sym (length-map (take i ns) tree_of) in
    ap trees_of c ∙ read_snoc rep (take i us) (map tree_of (take i ns)) (map tree_of out) u (tree_of n) (tree_of p) long before e
    ∙ ap (λ l. read_all rep (trees_of l) (trees_of (map tree_of (take i ns) ++ tree_of n ∷ []))) (sym a) ∙ ap (λ l. read_all rep (trees_of (take (i + 1) us)) (trees_of l)) (sym b)

pub read_whole : (rep : Tree → Tree) (us : List Tree) (ns out : List Term) (i : ℕ) → length us ≡ length ns → length ns ≤ i → trees_of (map tree_of out) ≡ read_all rep (trees_of (take i us)) (trees_of (map tree_of (take i ns)))
    → trees_of (map tree_of out) ≡ read_all rep (trees_of us) (trees_of (map tree_of ns))
read_whole rep us ns out i long end e =
    e ∙ ap (λ l. read_all rep (trees_of l) (trees_of (map tree_of (take i ns)))) (taken_all us i (omega arith)) ∙ ap (λ l. read_all rep (trees_of us) (trees_of (map tree_of l))) (taken_all ns i end)

pub readable_many : (ts : List Tree) (put : ℕ → Tree) (ids : List NodeId) (ns : List Term) → map (put_in put) (operands_at ts ids) ≡ map tree_of ns → length ids ≡ length ns
readable_many ts put ids ns e = omega (arith, ap length e, length-map (operands_at ts ids) (put_in put), operands_long ts ids, length-map ns tree_of)
