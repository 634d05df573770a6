use Rattle.std.proofs.Common.{◌≡◌, ◌++◌, List, Some, None, length, drop, sym, ap, ◌∙◌, subst}
use Rattle.anb_term.specs.FreeAlgebra.{parts_of}
use Rattle.anb_intern.specs.declared.node.NodeId.{NodeId}
use Rattle.anb_intern.specs.declared.node.Node.{Node}
use Rattle.anb_intern.specs.Nodes.{operands_at, tree_at, IsOver, AreUnder}
use Rattle.anb_intern.proofs.Nodes.{under_drop}
use Rattle.anb_certify.specs.Numbered.{Opens}
use Rattle.anb_certify.proofs.Tabling.{parts_there, parts_not}
use Rattle.anb_certify.proofs.table.parts.Goals as goal

pub returns-then-not-opens : goal.returns-then-not-opens
returns-then-not-opens c =
    let o = c.args.op in
    let ks = c.args.keys.now in
    let ids = c.in-Apply.operands.items in
    let shut : Opens o ks c.in-Apply.built ids → ⊥ = λ h.
    let P : List NodeId → Type 0 = λ l. Opens o ks c.in-Apply.built l in
    let yes = c.opens.ensures.1 (subst P (sym c.deref.ensures.value) h) in
    let no = c.if-not-opens.true in cc in
    record {
      under = tt;
      parts = λ ts d u v.
          let N : Node → Type 0 = λ k. IsOver (length ts) k in
          let R : Node → Type 0 = λ k. parts_of o (operands_at ts ks) (tree_at ts k) ≡ None in
          subst R (sym c.in-Apply.is) (parts_not ts o ks c.in-Apply.built ids d (subst N c.in-Apply.is u) v shut);
    }

pub returns-clause-under : goal.returns-clause-under
returns-clause-under c n u =
    let N : Node → Type 0 = λ k. IsOver n k in
    let P : List NodeId → Type 0 = λ l. AreUnder n l in
    let is = c.in_ok-extend_from_slice.ensures.items ∙ ap (λ l. l ++ c.back.result.now) c.new-parts.ensures.items ∙ c.back.ensures ∙ ap (drop (length c.args.keys.now)) c.deref-2.ensures.value in
    subst P (sym is) (under_drop n (length c.args.keys.now) c.in-Apply.operands.items (subst N c.in-Apply.is u))

pub returns-clause-parts : goal.returns-clause-parts
returns-clause-parts c ts d u v =
    let o = c.args.op in
    let ks = c.args.keys.now in
    let ids = c.in-Apply.operands.items in
    let P : List NodeId → Type 0 = λ l. Opens o ks c.in-Apply.built l in
    let opens : Opens o ks c.in-Apply.built ids = subst P c.deref.ensures.value (c.opens.ensures.0 c.if-not-opens.false) in
    let is = c.in_ok-extend_from_slice.ensures.items ∙ ap (λ l. l ++ c.back.result.now) c.new-parts.ensures.items ∙ c.back.ensures ∙ ap (drop (length ks)) c.deref-2.ensures.value in
    let R : Node → Type 0 = λ k. parts_of o (operands_at ts ks) (tree_at ts k) ≡ Some (operands_at ts (drop (length ks) ids)) in
    subst R (sym c.in-Apply.is) (parts_there ts o ks c.in-Apply.built ids c.requires opens) ∙ ap (λ l. Some (operands_at ts l)) (sym is)
