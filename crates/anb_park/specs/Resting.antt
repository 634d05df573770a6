-- What a session keeps beside its code.
use Rattle.std.specs.Prelude.{if◌then◌else◌}
use Rattle.anb_code.specs.CodeValue.{CodeValue}
use Rattle.anb_machine.specs.Resting as machine
use Rattle.anb_machine.specs.declared.turn.Last.TheVariants as last
use Rattle.anb_park.specs.declared.rest.LiveRest.{LiveRest}
use Rattle.anb_park.specs.Lives.{LiveValue}

-- what the session of this code was
abbrev pub session_of : CodeValue → LiveRest → LiveValue
session_of code rest = record {
  machine =
      if rest.failed
      then record (machine.machine_of code rest.machine) { last = last.NoMemory }
      else machine.machine_of code rest.machine;
  body = rest.body.items;
}

-- it was a session of this code
abbrev pub IsRestOf : CodeValue → LiveRest → Type 0
IsRestOf code rest = machine.IsRestOf code rest.machine
