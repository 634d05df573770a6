use Rattle.std.proofs.Common.{◌≡◌, ◌==◌, true, length, refl, arith}
use Rattle.anb_text.proofs.Progress.{faulty_line, few_lines, no_line, reads_more}
use Rattle.anb_text.proofs.loading.read_code.Goals as goal
use Rattle.anb_text.proofs.loading.read_code.Goals.{in_default-stage-via-in-End+else-is_empty, in_default-stage-via-in_default-stage}

pub returns-in_default-2-clause-refused : goal.returns-in_default-2-clause-refused
returns-in_default-2-clause-refused c =
    faulty_line c.args.text.now _ _ _ _ _ c.loop-line.invariant c.in-Some.ensures.some (rw c.in_default-2.is at c.in_ok-after.ensures.none)

pub overflow_add-number : goal.overflow_add-number
overflow_add-number c = let few = few_lines c.args.text.now _ _ _ c.loop-line.invariant in omega (arith, few, c.requires)

pub loop-line-preserved : goal.loop-line-preserved
loop-line-preserved c =
    reads_more c.args.text.now _ _ _ _ _ _ c.loop-line.invariant c.in-Some.ensures.some (rw c.in-Some-2.is at c.in_ok-after.ensures.some)

pub returns-in_default-stage-clause-refused : goal.returns-in_default-stage-clause-refused
returns-in_default-stage-clause-refused c =
    no_line c.args.text.now _ _ _ c.loop-line.invariant c.in_default.ensures.none (elim c.in_default-stage.branch [
      | in_default-stage-via-in-End+else-is_empty w ↦ λ v raw e none. let empty : (length c.loop-line.rest.now == 0) ≡ true = rw none refl in cc (empty, w.is_empty.ensures, w.if-is_empty.false)
      | in_default-stage-via-in_default-stage w ↦ λ v raw e. absurd (w.in_default-stage.not-End v raw e)
    ])
