use Rattle.std.proofs.Common.{◌+◌, ◌∙◌, [], Some, refl, sym, ap, subst, arith, inr}
use Rattle.std.proofs.lemmas.List.{append-nil}
use Rattle.anb_code.specs.declared.instr.Instr.TheVariants.{Take, Fresh, Recv, Send}
use Rattle.anb_machine.specs.declared.state.RunState.{RunState}
use Rattle.anb_machine.specs.Standing.{AtReceive}
use Rattle.anb_machine.proofs.Gone.{moves_nothing}
use Rattle.anb_machine.proofs.Steps.{IsAfter, at_next, is_work, took}
use Rattle.anb_machine.proofs.state.RunState.act.Goals as goal

pub draw-requires-clause-next : goal.draw-requires-clause-next
draw-requires-clause-next c = at_next c.args.self.now Fresh (c.requires.at ∙ ap Some c.in-Fresh.is)

pub send-requires-clause-next : goal.send-requires-clause-next
send-requires-clause-next c = at_next c.args.self.now (Send c.in-Send.register) (c.requires.at ∙ ap Some c.in-Send.is)

pub work-requires : goal.work-requires
work-requires c =
    let s = c.args.self.now in
    let x = c.args.instr.now in
    let n = c.in_default in
    record { kept = c.requires.kept; next = at_next s x c.requires.at; works = is_work s.algebra.formats x n.not-Take n.not-Fresh n.not-Recv n.not-Send; at = c.requires.at; few = c.requires.few }

pub returns-in-Take-clause-kept : goal.returns-in-Take-clause-kept
returns-in-Take-clause-kept c =
    let s = c.args.self.now in
    let t : RunState = record s { next = s.next + 1 } in
    let after : IsAfter s t [] s.event s.drawn = record { same = record { algebra = refl; code = refl; seed = refl; session = refl }; next = refl; event = refl; drawn = refl; table = sym (append-nil s.registers.items); room = omega arith } in
    (took s t c.requires.kept (at_next s (Take c.in-Take.field-0) (c.requires.at ∙ ap Some c.in-Take.is)) after).0

pub returns-in-Take-clause-stepped : goal.returns-in-Take-clause-stepped
returns-in-Take-clause-stepped c =
    let s = c.args.self.now in
    let t : RunState = record s { next = s.next + 1 } in
    let after : IsAfter s t [] s.event s.drawn = record { same = record { algebra = refl; code = refl; seed = refl; session = refl }; next = refl; event = refl; drawn = refl; table = sym (append-nil s.registers.items); room = omega arith } in
    ((took s t c.requires.kept (at_next s (Take c.in-Take.field-0) (c.requires.at ∙ ap Some c.in-Take.is)) after).1, refl)

pub returns-in-Take-clause-gone : goal.returns-in-Take-clause-gone
returns-in-Take-clause-gone c =
    let s = c.args.self.now in
    let t : RunState = record s { next = s.next + 1 } in
    inr (moves_nothing s t (Take c.in-Take.field-0) (c.requires.at ∙ ap Some c.in-Take.is) refl refl (λ widths. refl))

pub returns-in-Recv-clause-stepped : goal.returns-in-Recv-clause-stepped
returns-in-Recv-clause-stepped c =
    let s = c.args.self.now in
    let next = at_next s Recv (c.requires.at ∙ ap Some c.in-Recv.is) in
    (λ arrivals. refl, subst AtReceive (sym next.acts) tt, refl, omega arith)
