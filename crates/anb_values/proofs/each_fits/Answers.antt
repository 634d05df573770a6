use Rattle.anb_values.proofs.EachFits.{each_fits}
use Rattle.anb_values.proofs.each_fits.Goals as goal

pub returns : goal.returns
returns c = each_fits
