use Rattle.std.proofs.Common.{refl}
use Rattle.anb_probe.specs.Examples.{NsskHasItsCase}
use Rattle.anb_probe.proofs.examples.nssk_has_its_case.Goals as goal

worked : NsskHasItsCase
worked = record {
  formed = (tt, (tt, ((refl, refl, (tt, ((refl, refl, (tt, (tt, (tt, ((refl, refl, (tt, ((refl, refl, (tt, (tt, tt))), tt))), tt))))), tt))), ((refl, refl, (tt, ((refl, refl, (tt, tt)), tt))), tt))));
  narrated = refl;
  goes_on = record { end = refl; used = refl };
  finds = refl;
  stops = (2, refl);
}

pub returns : goal.returns
returns c = worked
