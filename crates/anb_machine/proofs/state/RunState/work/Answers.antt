use Rattle.std.proofs.Common.{◌≡◌, ◌+◌, ◌∙◌, List, Bool, refl, sym, subst, inr}
use Rattle.anb_format.specs.Formats.{FormatValue}
use Rattle.anb_algebra.specs.ByteMeaning.{byte_meaning}
use Rattle.anb_machine.specs.Standing.{IsWorkDone}
use Rattle.anb_machine.specs.declared.state.RunState.{RunState}
use Rattle.anb_machine.proofs.Gone.{moves_work}
use Rattle.anb_machine.proofs.Steps.{did_work}
use Rattle.anb_code.specs.Meaning.{act_of}
use Rattle.anb_machine.proofs.state.RunState.work.Goals as goal

pub returns-in-Ok-true-clause-kept : goal.returns-in-Ok-true-clause-kept
returns-in-Ok-true-clause-kept c =
    let s = c.args.self.now in
    let formats : c.formats-formats.result.now ≡ s.algebra.formats = c.formats-formats.ensures.formats ∙ sym c.requires.kept.formats in
    let P : List FormatValue → Type 0 = λ f. IsWorkDone (byte_meaning s.algebra.formats s.algebra.suite) s.registers.items (act_of f c.args.instr.now) c.in-Ok-true.field-0 c.work.new.registers.items in
    let done = subst P formats c.in-Ok-true.ensures.done in
    (did_work s (record s { next = s.next + 1; registers = c.work.new.registers }) (act_of s.algebra.formats c.args.instr.now) c.in-Ok-true.field-0 c.requires.kept c.requires.next c.requires.works c.in-Ok-true.field-0-test
    done (record { algebra = refl; code = refl; seed = refl; session = refl }) refl refl refl c.work.ensures.capacity).0

pub returns-in-Ok-true-clause-gone : goal.returns-in-Ok-true-clause-gone
returns-in-Ok-true-clause-gone c =
    let s = c.args.self.now in
    let t : RunState = record s { next = s.next + 1; registers = c.work.new.registers } in
    let formats : c.formats-formats.result.now ≡ s.algebra.formats = c.formats-formats.ensures.formats ∙ sym c.requires.kept.formats in
    let P : List FormatValue → Type 0 = λ f. IsWorkDone (byte_meaning s.algebra.formats s.algebra.suite) s.registers.items (act_of f c.args.instr.now) c.in-Ok-true.field-0 c.work.new.registers.items in
    let W : Bool → Type 0 = λ went. IsWorkDone (byte_meaning s.algebra.formats s.algebra.suite) s.registers.items (act_of s.algebra.formats c.args.instr.now) went c.work.new.registers.items in
    let done = subst W c.in-Ok-true.field-0-test (subst P formats c.in-Ok-true.ensures.done) in
    inr (moves_work s t c.args.instr.now c.requires.at refl c.requires.kept c.requires.next c.requires.works done)
