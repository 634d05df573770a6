use Rattle.std.proofs.Common.{◌≡◌, ◌+◌, Some, refl, sym, inr}
use Rattle.std.specs.Prelude.{slice_get}
use Rattle.anb_code.specs.declared.instr.Instr.TheVariants.{Send}
use Rattle.anb_machine.specs.declared.state.RunState.{RunState}
use Rattle.anb_machine.proofs.Gone.{moves_nothing}
use Rattle.anb_machine.proofs.Lean.{register_narrow}
use Rattle.anb_machine.proofs.state.RunState.send.Goals as goal

pub returns-clause-gone : goal.returns-clause-gone
returns-clause-gone c =
    let s = c.args.self.now in
    let t : RunState = record s { next = s.next + 1; event = s.event + 1 } in
    inr (moves_nothing s t (Send c.args.register) c.requires.at refl refl (λ widths. refl))

pub returns-clause-narrow : goal.returns-clause-narrow
returns-clause-narrow c =
    let s = c.args.self.now in
    let is : slice_get s.registers.items c.args.register ≡ Some c.in-Ok.message = rw c.deref.ensures.value at (sym c.in-Ok.ensures) in
    register_narrow s c.requires.lean c.args.register c.in-Ok.message is
