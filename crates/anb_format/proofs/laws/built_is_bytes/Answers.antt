use Rattle.anb_format.proofs.Facts.{IsBytes-format_bytes}
use Rattle.anb_format.proofs.laws.built_is_bytes.Goals as goal

pub returns : goal.returns
returns c = λ pieces sound arguments. IsBytes-format_bytes pieces arguments sound
