use Rattle.anb_format.proofs.ReadingLemmas.{parts_unique}
use Rattle.anb_format.proofs.laws.parts_are_unique.Goals as goal

pub returns : goal.returns
returns c = λ pieces sound bytes arguments others. parts_unique pieces bytes arguments others sound.rest_is_last
