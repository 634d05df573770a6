use Rattle.anb_close.proofs.Growing.{added_label}
use Rattle.anb_basis.proofs.basis.Basis.next.Goals as goal

pub take_back-requires : goal.take_back-requires
take_back-requires c = added_label _ _ _ c.in_ok-step.ensures.ok
