-- For proofs alone: the test whether two sides differ in place.
use Rattle.std.specs.Prelude.{ℕ, zero, suc, ◌&&◌, ◌||◌, Bool, false}
use Rattle.anb_term.specs.Operator.{keys, undoable, op_eqb}
use Rattle.anb_term.specs.Tree.{Tree, Trees, leaf, node, none, more, tree_eqb}

module _ (spare : ℕ) (wrong : Tree) where
  -- one of both is the spare name, and the other one the term in whose place it stands
  abbrev pub is_spared : Tree → Tree → Bool
  is_spared one other = (tree_eqb one (leaf spare) && tree_eqb other wrong) || (tree_eqb one wrong && tree_eqb other (leaf spare))

  abbrev mutual
    pub differ : Tree → Tree → Bool
    differ (leaf m) other = is_spared (leaf m) other
    differ (node o ts) (leaf n) = is_spared (node o ts) (leaf n)
    differ (node o ts) (node q us) = op_eqb o q && undoable o && some_differ (keys o) ts us

    -- so many of both, the first ones, are the same, and two of the others differ in place
    pub some_differ : (keyed : ℕ) → Trees → Trees → Bool
    some_differ keyed none us = false
    some_differ keyed (more t ts) none = false
    some_differ zero (more t ts) (more u us) = differ t u || some_differ zero ts us
    some_differ (suc k) (more t ts) (more u us) = tree_eqb t u && some_differ k ts us
