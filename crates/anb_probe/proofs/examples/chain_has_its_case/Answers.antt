use Rattle.std.proofs.Common.{refl}
use Rattle.anb_probe.specs.Examples.{ChainHasItsCase}
use Rattle.anb_probe.proofs.examples.chain_has_its_case.Goals as goal

worked : ChainHasItsCase
worked = record {
  formed = ((refl, refl, ((refl, refl, (tt, tt)), tt)), ((refl, refl, ((refl, refl, (tt, tt)), tt)), ((refl, refl, (tt, tt)), (tt, tt))));
  narrated = refl;
  goes_on = record { end = refl; used = refl };
  finds = refl;
  stops = (1, refl);
}

pub returns : goal.returns
returns c = worked
