-- What a machine keeps beside its code.
use Rattle.anb_code.specs.CodeValue.{CodeValue}
use Rattle.anb_machine.specs.declared.rest.Rest.{Rest}
use Rattle.anb_machine.specs.declared.state.RunState.{RunState}
use Rattle.anb_machine.specs.Machines.{MachineValue}
use Rattle.anb_machine.specs.Inside.{value_of, IsWhole}

-- the run of this code that goes on from there
abbrev pub run_of : CodeValue → Rest → RunState
run_of code rest = record {
  alloc = rest.alloc;
  code = record { ref_ptr = (0, 0); now = code };
  algebra = record { formats = code.formats; suite = code.suite };
  seed = rest.seed;
  session = rest.session;
  next = rest.next;
  event = rest.event;
  drawn = rest.drawn;
  registers = rest.registers;
}

-- what the machine of this code was
abbrev pub machine_of : CodeValue → Rest → MachineValue
machine_of code rest = value_of (run_of code rest) rest.last

-- it was a machine of this code
abbrev pub IsRestOf : CodeValue → Rest → Type 0
IsRestOf code rest = IsWhole (run_of code rest) rest.last
