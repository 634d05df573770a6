use Rattle.anb_format.proofs.ReadingLemmas.{parts_of-builds, parts_of-built}
use Rattle.anb_format.proofs.laws.parts_are_exact.Goals as goal

pub returns : goal.returns
returns c = λ pieces sound bytes arguments. (parts_of-builds pieces bytes arguments, parts_of-built pieces bytes arguments sound.rest_is_last)
