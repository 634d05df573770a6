use Rattle.std.proofs.Common.{◌∙◌, ap, refl, List, arith, length}
use Rattle.anb_format.specs.declared.pieces.Piece.{Piece}
use Rattle.anb_format.specs.Formats.{head}
use Rattle.anb_format.proofs.ApartLemmas.{alike_from, alike_more, differ_apart, not_apart, not_apart_either}
use Rattle.anb_format.proofs.formats.apart.Goals as goal

pub loop-a-init : goal.loop-a-init
loop-a-init c = alike_from _ _ _ _
    (c.new-ours.ensures ∙ ap (λ (p : List Piece). head p) c.pieces.ensures.pieces)
    (c.new-theirs.ensures ∙ ap (λ (p : List Piece). head p) c.pieces-2.ensures.pieces)

pub loop-a-preserved : goal.loop-a-preserved
loop-a-preserved c = alike_more _ _ _ _ _ _ _ _ c.loop-a.invariant c.in-Some-Some.ensures c.in-Some-Some.ensures' c.if-a-b.false

pub loop-a-smaller : goal.loop-a-smaller
loop-a-smaller c = omega (arith, ap length c.in-Some-Some.ensures)

pub returns-then-a-b : goal.returns-then-a-b
returns-then-a-b c = (λ _. differ_apart _ _ _ _ _ _ _ _ c.loop-a.invariant c.in-Some-Some.ensures c.in-Some-Some.ensures' c.if-a-b.true, λ _. refl)

pub returns-in_default : goal.returns-in_default
returns-in_default c = (λ e. absurd (cc e), λ h. absurd (not_apart_either _ _ _ _ c.loop-a.invariant c.in_default.ensures' h))

pub returns-in_default-2 : goal.returns-in_default-2
returns-in_default-2 c = (λ e. absurd (cc e), λ h. absurd (not_apart _ _ _ _ c.loop-a.invariant (rw c.in_default.is-0 at c.next.ensures) h))
