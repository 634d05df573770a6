use Rattle.std.proofs.Common.{length}
use Rattle.anb_algebra.specs.ByteMeaning.{has_operator}
use Rattle.anb_code.specs.Meaning.{act_of}
use Rattle.anb_machine.proofs.Steps.{is_work}
use Rattle.anb_trace.specs.Tracing.{subject_in}
use Rattle.anb_trace.proofs.Doing.{step_works, work_ready}
use Rattle.anb_trace.proofs.steps.step.Goals as goal

pub returns-in_default : goal.returns-in_default
returns-in_default c =
    let code = c.args.subject.now.code.now in
    let old = c.args.standing.now in
    let x = c.args.instr.now in
    let n = c.in_default in
    let ready = work_ready (has_operator code.formats) (length old.registers.items) (act_of code.formats x) (is_work code.formats x n.not-Take n.not-Fresh n.not-Recv n.not-Send) c.requires.ready in
    let each = step_works (subject_in c.args.subject.now) c.args.seed.now c.args.session x c.args.first c.args.at old c.works.new.standing c.works.result c.requires.within ready c.works.ensures.told in
    record { tells = each.0; written = each.1; within = each.2 }
