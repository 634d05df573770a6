use Rattle.std.proofs.Common.{List, take, refl, ◌∙◌, subst, sym, arith}
use Rattle.std.proofs.lemmas.List.{take_more}
use Rattle.std.proofs.lemmas.Result.{err_from_is_err_and}
use Rattle.anb_base.specs.declared.TheConstants.{ARRIVAL, WIDE}
use Rattle.anb_code.specs.Table.{BeginsWith, instr_faults}
use Rattle.anb_code.specs.declared.refusal.CodeNo.{CodeNo}
use Rattle.anb_code.proofs.Rows.{passed_over, stopped_at}
use Rattle.anb_code.proofs.Steps.{nothing_known, written_within}
use Rattle.anb_code.proofs.checks.check_code.Goals as goal

pub check_instr-requires-clause-destinations : goal.check_instr-requires-clause-destinations
check_instr-requires-clause-destinations c =
    omega (arith, c.requires.destinations, written_within c.args.code.now c.loop-i.i c.index-code-i.result c.loop-i-test.true c.index-code-i.is)

pub loop-i-init : goal.loop-i-init
loop-i-init c = record { faults = refl; known = rw c.new-widths.ensures.items (nothing_known c.args.formats.now); takes = c.new-takes.ensures }

pub loop-i-preserved : goal.loop-i-preserved
loop-i-preserved c =
    let code = c.args.code.now in
    let instr = c.index-code-i.result in record {
      faults = sym (passed_over (instr_faults ARRIVAL WIDE c.args.formats.now) code c.loop-i.i instr c.loop-i-test.true c.index-code-i.is c.in_ok-check_instr.ensures.fine) ∙ c.loop-i.invariant.faults;
      known = rw (take_more code c.loop-i.i instr c.loop-i-test.true, ← c.index-code-i.is) c.in_ok-check_instr.ensures.known;
      takes = rw (take_more code c.loop-i.i instr c.loop-i-test.true, ← c.index-code-i.is) (c.in_ok-push.ensures (take c.loop-i.i code) c.loop-i.invariant.takes);
    }

pub returns-in_err-check_instr-clause-refused : goal.returns-in_err-check_instr-clause-refused
returns-in_err-check_instr-clause-refused c =
    let p = err_from_is_err_and c.from_residual.result c.from_residual.ensures.1 in
    let P = λ (faults : List CodeNo). BeginsWith faults c.in_err-check_instr.field-0.0 in
    rw (p.1, p.2) (λ other. subst P c.loop-i.invariant.faults
    (stopped_at (instr_faults ARRIVAL WIDE c.args.formats.now) c.args.code.now c.loop-i.i c.index-code-i.result c.in_err-check_instr.field-0.0 c.loop-i-test.true c.index-code-i.is (c.in_err-check_instr.ensures.refused other)))
