use Rattle.std.proofs.Common.{◌≡◌, Some, None, sym, ap, ◌∙◌, subst, slice_get}
use Rattle.anb_term.specs.declared.term.Term.{Term}
use Rattle.anb_term.specs.View.{tree_of}
use Rattle.anb_protocol.specs.Texts.{IsTermOf}
use Rattle.anb_verdict.specs.Places.{operand}
use Rattle.anb_verdict.proofs.Parts.{operand_got, term_got}
use Rattle.anb_verdict.proofs.places.operand.Goals as goal

pub returns-in-Some-clause-some : goal.returns-in-Some-clause-some
returns-in-Some-clause-some c =
    let i = c.args.i in
    let u = tree_of c.in-Some.inner.now in
    let P : Term → Type 0 = λ x. operand i (tree_of x) ≡ Some u in
    subst P (sym c.in-Node.is) (operand_got c.in-Node.operands i (Some u) (ap (λ l. slice_get l i) (sym c.as_slice.ensures) ∙ c.in-Some.ensures.some))

pub returns-in-None-clause-none : goal.returns-in-None-clause-none
returns-in-None-clause-none c =
    let i = c.args.i in
    let P : Term → Type 0 = λ x. operand i (tree_of x) ≡ None in
    subst P (sym c.in-Node.is) (operand_got c.in-Node.operands i None (ap (λ l. slice_get l i) (sym c.as_slice.ensures) ∙ c.in-None.ensures.none))

pub returns-in-Some-clause-term : goal.returns-in-Some-clause-term
returns-in-Some-clause-term c = λ p is.
    let i = c.args.i in
    let u = tree_of c.in-Some.inner.now in
    let ours = subst (λ (x : Term). IsTermOf p (tree_of x)) c.in-Node.is is in
    term_got p c.in-Node.operands i u ours.2 (ap (λ l. slice_get l i) (sym c.as_slice.ensures) ∙ c.in-Some.ensures.some)
