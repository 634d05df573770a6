-- Building and undoing of terms: the free algebra.
use Rattle.std.specs.Prelude.{List, length, map, take, drop, Bool, true, ◌&&◌, ◌==◌, if◌then◌else◌, Option, Some, None, option_map}
use Rattle.anb_term.specs.declared.term.Op.{Op}
use Rattle.anb_term.specs.declared.term.Term.{Term}
use Rattle.anb_term.specs.declared.term.Term.TheVariants.{Node}
use Rattle.anb_term.specs.Operator.{arity, keys, undoable, op_eqb}
use Rattle.anb_term.specs.Tree.{Tree, leaf, node, trees_of, list_of, tree_eqb, trees_eqb}
use Rattle.anb_term.specs.Value.{Meaning}
use Rattle.anb_term.specs.View.{tree_of, term_of}

-- the parts of a term with this operator at its root, as many operands as it takes, and these keys
abbrev pub parts_of : Op → List Tree → Tree → Option (List Tree)
parts_of o ks (leaf n) = None
parts_of o ks (node p ts) =
    if undoable o && op_eqb o p && (length (list_of ts) == arity o) && trees_eqb (trees_of ks) (trees_of (take (keys o) (list_of ts)))
    then Some (drop (keys o) (list_of ts)) else None

-- the trees over some operators; the value of a recipe in them is its value in terms
abbrev pub terms_over : (Op → Bool) → Meaning Tree
terms_over has = record {
  is_value = λ t. true;
  has = has;
  built = λ o ts. node o (trees_of ts);
  undone = parts_of;
  same = tree_eqb;
}

-- over all operators
abbrev pub terms : Meaning Tree
terms = terms_over (λ o. true)

-- the same of `Term`
abbrev pub term_meaning : Meaning Term
term_meaning = record {
  is_value = λ t. true;
  has = λ o. true;
  built = λ o ts. Node o (map tree_of ts);
  undone = λ o ks v. option_map (map term_of) (parts_of o (map tree_of ks) (tree_of v));
  same = λ x y. tree_eqb (tree_of x) (tree_of y);
}
