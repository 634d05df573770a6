use Rattle.std.proofs.Common.{◌∙◌, true, refl, arith}
use Rattle.anb_machine.specs.declared.state.RunState.{RunState}
use Rattle.anb_machine.specs.Keeping.{IsLean}
use Rattle.anb_machine.proofs.Lean.{begins_lean, keeps, over_dropped}
use Rattle.anb_machine.proofs.Turns.{begins, runs}
use Rattle.anb_machine.proofs.machine.Machine.start.Goals as goal

pub invariant_of-result : goal.invariant_of-result
invariant_of-result c =
    let s : RunState = record { alloc = c.args.alloc; code = c.args.code; algebra = c.new.result; seed = c.args.seed.now; session = c.args.session; next = 0; event = 0; drawn = 0; registers = c.in_ok-registers.registers } in
    let code = c.args.code.now in
    let formats = c.new.ensures.formats ∙ c.formats.ensures.formats in
    let uses = c.last_uses.ensures in
    let table = c.in_ok-registers.ensures in
    let dropped = over_dropped code.formats code.instrs c.last_uses.result.now 0 (λ r. true) c.args.init.now c.in_ok-registers.registers.items uses table.values in
    record {
      kept = begins s c.formats.ensures.verified formats (c.new.ensures.suite ∙ c.suite.ensures) refl refl refl (dropped.count ∙ c.requires.count) (omega (arith, table.room, uses.count));
      lean = begins_lean s c.args.init.now c.formats.ensures.verified refl c.requires.count c.requires.short dropped;
      stands = tt;
    }

pub returns-clause-run : goal.returns-clause-run
returns-clause-run c =
    let s : RunState = record { alloc = c.args.alloc; code = c.args.code; algebra = c.new.result; seed = c.args.seed.now; session = c.args.session; next = 0; event = 0; drawn = 0; registers = c.in_ok-registers.registers } in
    let code = c.args.code.now in
    let formats = c.new.ensures.formats ∙ c.formats.ensures.formats in
    let dropped = over_dropped code.formats code.instrs c.last_uses.result.now 0 (λ r. true) c.args.init.now c.in_ok-registers.registers.items c.last_uses.ensures c.in_ok-registers.ensures.values in
    runs s c.args.init.now c.formats.ensures.verified formats (c.new.ensures.suite ∙ c.suite.ensures) refl refl refl dropped c.requires.count

pub returns-clause-keeps : goal.returns-clause-keeps
returns-clause-keeps c =
    let s : RunState = record { alloc = c.args.alloc; code = c.args.code; algebra = c.new.result; seed = c.args.seed.now; session = c.args.session; next = 0; event = 0; drawn = 0; registers = c.in_ok-registers.registers } in
    let is = invariant_of-result c in
    let lean : IsLean s = is.lean in
    keeps s lean
