-- Whether two terms are one.
use Rattle.std.proofs.Common.{◌≡◌, Bool, true, false, IsTrue, refl, sym, ap, ◌∙◌}
use Rattle.anb_term.specs.declared.term.Term.{Term}
use Rattle.anb_term.specs.Tree.{tree_eqb}
use Rattle.anb_term.specs.TreeSame.{tree_same, tree_itself}
use Rattle.anb_term.specs.View.{tree_of}
use Rattle.anb_term.proofs.Lists.{one_term}

-- a test that tells whether two terms are one
pub told : (b : Bool) (x y : Term) → (IsTrue b → x ≡ y) → (x ≡ y → IsTrue b) → b ≡ tree_eqb (tree_of x) (tree_of y)
told true x y same is = sym (ap (λ z. tree_eqb (tree_of x) (tree_of z)) (sym (same refl)) ∙ tree_itself (tree_of x))
told false x y same is = differ (tree_eqb (tree_of x) (tree_of y)) refl
  where
    differ : (c : Bool) → tree_eqb (tree_of x) (tree_of y) ≡ c → false ≡ tree_eqb (tree_of x) (tree_of y)
    differ true e = let no : IsTrue false = is (one_term x y (tree_same (tree_of x) (tree_of y) e)) in cc
    differ false e = sym e
