use Rattle.std.proofs.Common.{refl}
use Rattle.std.specs.Fmt.{digits}
use Rattle.anb_protocol.specs.Plans.{plan_of}
use Rattle.anb_explain.proofs.examples.ping_is_explained.Goals as goal

pub returns : goal.returns
unfolding plan_of digits
returns c = refl
