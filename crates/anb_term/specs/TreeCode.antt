-- Trees told apart by numbers.
use Rattle.std.specs.Prelude.{◌≡◌, refl}
use Rattle.std.specs.Coded.{Coded}
use base.Stored.{Gv, gnil, gnum, gcons}
use Rattle.anb_term.specs.declared.term.Op.{Op}
use Rattle.anb_term.specs.declared.term.Op.TheVariants.{Hash, Mac, Seal, Wrap, Format}
use Rattle.anb_term.specs.Tree.{Tree, leaf, node, Trees, none, more}

abbrev pub op_code : Op → Gv
op_code Hash = gnum 0
op_code Mac = gnum 1
op_code Seal = gnum 2
op_code Wrap = gnum 3
op_code (Format i a) = gcons (gnum i) (gnum a)

pub op_apart : (o p : Op) → op_code o ≡ op_code p → o ≡ p
op_apart Hash Hash e = cc
op_apart Hash Mac e = cc
op_apart Hash Seal e = cc
op_apart Hash Wrap e = cc
op_apart Hash (Format j b) e = cc
op_apart Mac Hash e = cc
op_apart Mac Mac e = cc
op_apart Mac Seal e = cc
op_apart Mac Wrap e = cc
op_apart Mac (Format j b) e = cc
op_apart Seal Hash e = cc
op_apart Seal Mac e = cc
op_apart Seal Seal e = cc
op_apart Seal Wrap e = cc
op_apart Seal (Format j b) e = cc
op_apart Wrap Hash e = cc
op_apart Wrap Mac e = cc
op_apart Wrap Seal e = cc
op_apart Wrap Wrap e = cc
op_apart Wrap (Format j b) e = cc
op_apart (Format i a) Hash e = cc
op_apart (Format i a) Mac e = cc
op_apart (Format i a) Seal e = cc
op_apart (Format i a) Wrap e = cc
op_apart (Format i a) (Format j b) e = cc

abbrev mutual
  pub tree_code : Tree → Gv
  tree_code (leaf n) = gnum n
  tree_code (node o ts) = gcons (op_code o) (trees_code ts)

  pub trees_code : Trees → Gv
  trees_code none = gnil
  trees_code (more t ts) = gcons (tree_code t) (trees_code ts)

mutual
  pub tree_apart : (x y : Tree) → tree_code x ≡ tree_code y → x ≡ y
  tree_apart (leaf m) (leaf n) e = cc
  tree_apart (node o ts) (node p us) e = let a : op_code o ≡ op_code p = cc in let b : trees_code ts ≡ trees_code us = cc in cc (op_apart o p a, trees_apart ts us b)
  tree_apart (leaf m) (node p us) e = cc
  tree_apart (node o ts) (leaf n) e = cc

  pub trees_apart : (xs ys : Trees) → trees_code xs ≡ trees_code ys → xs ≡ ys
  trees_apart none none e = refl
  trees_apart (more t ts) (more u us) e = let a : tree_code t ≡ tree_code u = cc in let b : trees_code ts ≡ trees_code us = cc in cc (tree_apart t u a, trees_apart ts us b)
  trees_apart none (more u us) e = cc
  trees_apart (more t ts) none e = cc

abbrev pub coded_tree : Coded Tree
coded_tree = record { code = tree_code; inj = tree_apart }
