-- Nodes that `==` finds equal are the same node.
use Rattle.std.proofs.Common.{◌≡◌, true, ◌&&◌, refl, List, [], ◌∷◌, rules, ap, sym, ◌∙◌}
use Rattle.std.specs.Cmp.Lexicographic.{pointwise}
use Rattle.std.proofs.lemmas.Bool.{and_from}
use Rattle.anb_lemmas.proofs.Bools.{last_of_and, first_of_and}
use Rattle.anb_term.specs.declared.term.Op.{Op}
use Rattle.anb_term.specs.contracts.term.OpPartialEq.TheImpl as op_eq
use Rattle.anb_intern.specs.declared.node.Node.{Node}
use Rattle.anb_intern.specs.declared.node.Node.TheVariants.{Atom, Apply}
use Rattle.anb_intern.specs.declared.node.NodeId.{NodeId}
use Rattle.anb_intern.specs.Pools.{view, apply}
use Rattle.anb_intern.specs.contracts.node.NodePartialEq.TheImpl.{eq-value}
use Rattle.anb_intern.specs.contracts.node.NodeIdPartialEq.TheImpl as id_eq

ids : (a b : NodeId) → id_eq.eq-value.it a b ≡ true → a ≡ b
ids a b e = search rules

ops : (a b : Op) → op_eq.eq-value.it a b ≡ true → a ≡ b
ops a b e = search rules

itself : (a : NodeId) → id_eq.eq-value.it a a ≡ true
itself a = search rules

op_itself : (a : Op) → op_eq.eq-value.it a a ≡ true
op_itself a = search rules

items : (is js : List NodeId) → pointwise id_eq.eq-value.it is js ≡ true → is ≡ js
items [] [] e = refl
items [] (j ∷ js) e = cc
items (i ∷ is) [] e = cc
items (i ∷ is) (j ∷ js) e = ap (λ a. a ∷ is) (ids i j (first_of_and (id_eq.eq-value.it i j) (pointwise id_eq.eq-value.it is js) e)) ∙ ap (λ l. j ∷ l) (items is js (last_of_and (id_eq.eq-value.it i j) (pointwise id_eq.eq-value.it is js) e))

all_themselves : (is : List NodeId) → pointwise id_eq.eq-value.it is is ≡ true
all_themselves [] = refl
all_themselves (i ∷ is) = rw (itself i) (all_themselves is)

pub eq_view : (a b : Node) → eq-value.it a b ≡ true → view a ≡ view b
eq_view (Atom m) (Atom n) e = search rules
eq_view (Atom m) (Apply p js) e = search rules
eq_view (Apply o is) (Atom n) e = search rules
eq_view (Apply o is) (Apply p js) e =
    let a = op_eq.eq-value.it o p in
    let b = pointwise id_eq.eq-value.it is.items js.items in
    let h : (a && b) ≡ true = e in
    ap (λ q. apply q is.items) (ops o p (first_of_and a b h)) ∙ ap (apply p) (items is.items js.items (last_of_and a b h))

pub view_eq : (a b : Node) → view a ≡ view b → eq-value.it a b ≡ true
view_eq (Atom m) (Atom n) e = search rules
view_eq (Atom m) (Apply p js) e = search rules
view_eq (Apply o is) (Atom n) e = search rules
view_eq (Apply o is) (Apply p js) e =
    let s : o ≡ p = cc in
    let t : is.items ≡ js.items = cc in
    let a : op_eq.eq-value.it o p ≡ true = ap (λ q. op_eq.eq-value.it o q) (sym s) ∙ op_itself o in
    let b : pointwise id_eq.eq-value.it is.items js.items ≡ true = ap (λ l. pointwise id_eq.eq-value.it is.items l) (sym t) ∙ all_themselves is.items in
    and_from (op_eq.eq-value.it o p) (pointwise id_eq.eq-value.it is.items js.items) a b
