-- A machine's value by what it keeps.
use Rattle.anb_machine.specs.declared.state.RunState.{RunState}
use Rattle.anb_machine.specs.declared.turn.Last.{Last}
use Rattle.anb_machine.specs.declared.turn.Last.TheVariants as last
use Rattle.anb_base.specs.declared.TheConstants.{ARRIVAL}
use Rattle.anb_code.specs.Registers.{register_widths}
use Rattle.anb_machine.specs.Machines.{MachineValue}
use Rattle.anb_machine.specs.Keeping.{IsLean, instrs_left}
use Rattle.anb_machine.specs.Standing.{IsKept, AtReceive, acts_left}

abbrev pub value_of : RunState → Last → MachineValue
value_of s what = record {
  code = s.code.now;
  formats = s.algebra.formats;
  suite = s.algebra.suite;
  seed = s.seed;
  session = s.session;
  instrs = instrs_left s;
  widths = register_widths ARRIVAL s.code.now.formats s.code.now.instrs;
  registers = s.registers.items;
  event = s.event;
  at = s.next;
  drawn = s.drawn;
  last = what;
}

-- after `Wants` it stands at a receive
abbrev pub StandsAfter : Last → RunState → Type 0
StandsAfter last.Wants s = AtReceive (acts_left s)
StandsAfter _ s = Unit {0}

pub record IsWhole (s : RunState) (what : Last) : Type 0 where
  pub kept : IsKept s
  pub lean : IsLean s
  pub stands : StandsAfter what s
