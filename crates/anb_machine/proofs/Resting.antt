-- A run under way reads nothing of where its code lies.
use Rattle.std.proofs.Common.{◌≡◌, sym, subst}
use Rattle.anb_machine.specs.declared.rest.Rest.{Rest}
use Rattle.anb_machine.specs.declared.state.RunState.{RunState}
use Rattle.anb_machine.specs.declared.turn.Last.{Last}
use Rattle.anb_machine.specs.declared.turn.Last.TheVariants as last
use Rattle.anb_machine.specs.Machines.{MachineValue}
use Rattle.anb_machine.specs.Inside.{IsWhole, StandsAfter, value_of}
use Rattle.anb_machine.specs.Resting.{IsRestOf, machine_of, run_of}

-- the same run, with its code anywhere
abbrev pub anywhere : RunState → RunState
anywhere s = record s { code = record { ref_ptr = (0, 0); now = s.code.now } }

stands_anywhere : (what : Last) (s : RunState) → StandsAfter what s → StandsAfter what (anywhere s)
stands_anywhere last.Wants s h = h
stands_anywhere _ s h = tt

stands_there : (what : Last) (s : RunState) → StandsAfter what (anywhere s) → StandsAfter what s
stands_there last.Wants s h = h
stands_there _ s h = tt

whole_anywhere : (s : RunState) (what : Last) → IsWhole s what → IsWhole (anywhere s) what
whole_anywhere s what w = record {
  kept = record { formats = w.kept.formats; suite = w.kept.suite; within = w.kept.within; few = w.kept.few; events = w.kept.events; draws = w.kept.draws; verified = w.kept.verified; room = w.kept.room };
  lean = record { widths = w.lean.widths; count = w.lean.count; live = w.lean.live; later = w.lean.later; narrow = w.lean.narrow };
  stands = stands_anywhere what s w.stands;
}

pub whole_there : (s : RunState) (what : Last) → IsWhole (anywhere s) what → IsWhole s what
whole_there s what w = record {
  kept = record { formats = w.kept.formats; suite = w.kept.suite; within = w.kept.within; few = w.kept.few; events = w.kept.events; draws = w.kept.draws; verified = w.kept.verified; room = w.kept.room };
  lean = record { widths = w.lean.widths; count = w.lean.count; live = w.lean.live; later = w.lean.later; narrow = w.lean.narrow };
  stands = stands_there what s w.stands;
}

abbrev pub rest_of : RunState → Last → Rest
rest_of s what = record {
  alloc = s.alloc;
  seed = s.seed;
  session = s.session;
  next = s.next;
  event = s.event;
  drawn = s.drawn;
  registers = s.registers;
  last = what;
}

there : (s : RunState) (what : Last) → IsWhole s what → anywhere s ≡ run_of s.code.now (rest_of s what)
there s what w = λ i. record (anywhere s) { algebra = record { formats = w.kept.formats i; suite = w.kept.suite i } }

pub rests : (s : RunState) (what : Last) (v : MachineValue) → value_of s what ≡ v → IsWhole s what → IsRestOf v.code (rest_of s what)
rests s what v is w =
    let P : MachineValue → Type 0 = λ v. IsRestOf v.code (rest_of s what) in
    subst P is (subst (λ r. IsWhole r what) (there s what w) (whole_anywhere s what w))

pub machine_is : (s : RunState) (what : Last) (v : MachineValue) → value_of s what ≡ v → IsWhole s what → machine_of v.code (rest_of s what) ≡ v
machine_is s what v is w =
    let P : MachineValue → Type 0 = λ v. machine_of v.code (rest_of s what) ≡ v in
    subst P is (λ i. value_of (sym (there s what w) i) what)
