use Rattle.std.proofs.Common.{◌≡◌, ◌∙◌, sym, subst}
use Rattle.anb_machine.specs.Inside.{IsWhole}
use Rattle.anb_machine.specs.Resting.{run_of}
use Rattle.anb_machine.specs.declared.state.RunState.{RunState}
use Rattle.anb_machine.proofs.Resting.{anywhere, whole_there}
use Rattle.anb_machine.proofs.rest.Rest.over.Goals as goal

pub invariant_of-result : goal.invariant_of-result
invariant_of-result c =
    let rest = c.args.self in
    let code = c.args.code.now in
    let formats = c.new.ensures.formats ∙ c.formats.ensures.formats in
    let suite = c.new.ensures.suite ∙ c.suite.ensures in
    let s : RunState = record { alloc = rest.alloc; code = c.args.code; algebra = c.new.result; seed = rest.seed; session = rest.session; next = rest.next; event = rest.event; drawn = rest.drawn; registers = rest.registers } in
    let is : anywhere s ≡ run_of code rest = λ i. record (run_of code rest) { algebra = record { formats = formats i; suite = suite i } } in
    whole_there s rest.last (subst (λ r. IsWhole r rest.last) (sym is) c.requires.rest)
