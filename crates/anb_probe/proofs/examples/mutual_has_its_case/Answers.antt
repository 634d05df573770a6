use Rattle.std.proofs.Common.{refl, inl}
use Rattle.anb_probe.specs.Examples.{MutualHasItsCase, MutualIsInPlace}
use Rattle.anb_probe.proofs.examples.mutual_has_its_case.Goals as goal

worked : MutualHasItsCase
worked = record {
  formed = (tt, ((refl, refl, (tt, ((refl, refl, (tt, (tt, tt))), tt))), ((refl, refl, (tt, tt)), (tt, tt))));
  narrated = refl;
  goes_on = record { end = refl; used = refl };
  finds = refl;
  stops = (3, refl);
}

in_place : MutualIsInPlace
in_place = inl (refl, refl)

pub returns-clause-case : goal.returns-clause-case
returns-clause-case c = worked

pub returns-clause-in_place : goal.returns-clause-in_place
returns-clause-in_place c = in_place
