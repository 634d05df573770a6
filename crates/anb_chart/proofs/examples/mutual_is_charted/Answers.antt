use Rattle.std.proofs.Common.{refl}
use Rattle.std.specs.Fmt.{digits}
use Rattle.anb_chart.proofs.examples.mutual_is_charted.Goals as goal

pub returns : goal.returns
unfolding digits
returns c = refl
