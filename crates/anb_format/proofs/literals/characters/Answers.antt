use Rattle.anb_format.proofs.Characters.{one_more, shorter}
use Rattle.anb_format.proofs.literals.characters.Goals as goal

pub loop-byte-preserved : goal.loop-byte-preserved
loop-byte-preserved c = rw c.in_ok-push.ensures.items (one_more _ _ _ _ _ c.loop-byte.invariant c.in-Some.ensures.some)

pub loop-byte-smaller : goal.loop-byte-smaller
loop-byte-smaller c = shorter _ _ _ c.in-Some.ensures.some
