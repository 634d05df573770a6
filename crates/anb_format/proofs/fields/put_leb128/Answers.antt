use Rattle.std.proofs.Common.{◌++◌, ◌∙◌, ℕ, List, ap, append_assoc, sym}
use Rattle.anb_format.proofs.Leb128.{leb128_large, leb128_small}
use Rattle.anb_format.proofs.fields.put_leb128.Goals as goal

pub loop-left-preserved : goal.loop-left-preserved
loop-left-preserved c =
    rw (c.in_ok-push.ensures.items, append_assoc)
    (ap (λ (t : List ℕ). c.loop-left.out.items ++ t) (sym (leb128_large c.loop-left.left c.loop-left-test.true)) ∙ c.loop-left.invariant)

pub returns : goal.returns
returns c =
    rw c.in_ok-push-2.ensures.items
    (ap (λ (t : List ℕ). c.loop-left.out.items ++ t) (sym (leb128_small c.loop-left.left c.loop-left-test.false)) ∙ c.loop-left.invariant)
