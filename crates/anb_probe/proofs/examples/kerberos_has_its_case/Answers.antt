use Rattle.std.proofs.Common.{refl}
use Rattle.anb_probe.specs.Examples.{KerberosHasItsCase}
use Rattle.anb_probe.proofs.examples.kerberos_has_its_case.Goals as goal

worked : KerberosHasItsCase
worked = record {
  formed = (tt, (tt, ((refl, refl, ((refl, refl, (tt, ((refl, refl, (tt, (tt, tt))), tt))), ((refl, refl, (tt, ((refl, refl, (tt, (tt, tt))), tt))), tt))), tt)));
  narrated = refl;
  goes_on = record { end = refl; used = refl };
  finds = refl;
  stops = (1, refl);
}

pub returns : goal.returns
returns c = worked
