use Rattle.std.proofs.Common.{◌++◌, codes, map, refl}
use Rattle.anb_term.specs.View.{tree_of}
use Rattle.anb_protocol.specs.Views.{plan_event}
use Rattle.anb_text.proofs.Written.{due_as, last_part, not_all, one_part}
use Rattle.anb_explain.specs.Explained.{code_text, explained_by, line, plan_text}
use Rattle.anb_explain.proofs.explaining.write_parts.Goals as goal

pub returns-in-Err-clause-written : goal.returns-in-Err-clause-written
returns-in-Err-clause-written g c =
    let p = c.args.protocol.now in
    let code = c.args.code.now in
    let whole = explained_by p (map plan_event c.args.events.now) code (map tree_of c.args.terms.now) in
    let head = line (codes "role " ++ code.role) in
    not_all whole _ _ _ _ _ _ head _ (due_as whole _ _ _ refl) c.in-Err.no (c.in-Err.ensures.written head c.head_text.ensures)

pub returns-in-Err-write_plan-clause-written : goal.returns-in-Err-write_plan-clause-written
returns-in-Err-write_plan-clause-written g c =
    let p = c.args.protocol.now in
    let code = c.args.code.now in
    let plan = map plan_event c.args.events.now in
    let whole = explained_by p plan code (map tree_of c.args.terms.now) in
    let head = line (codes "role " ++ code.role) in
    let d1 = one_part whole _ _ _ _ _ _ head _ (due_as whole _ _ _ refl) c.in-Ok.field-0 (c.in-Ok.ensures.written head c.head_text.ensures) in
    not_all whole _ _ _ _ _ _ (plan_text p plan) _ d1 c.in-Err-write_plan.no c.in-Err-write_plan.ensures.written

pub returns-in-Err-write_bytes-clause-written : goal.returns-in-Err-write_bytes-clause-written
returns-in-Err-write_bytes-clause-written g c =
    let p = c.args.protocol.now in
    let code = c.args.code.now in
    let plan = map plan_event c.args.events.now in
    let whole = explained_by p plan code (map tree_of c.args.terms.now) in
    let head = line (codes "role " ++ code.role) in
    let d1 = one_part whole _ _ _ _ _ _ head _ (due_as whole _ _ _ refl) c.in-Ok.field-0 (c.in-Ok.ensures.written head c.head_text.ensures) in
    let d2 = one_part whole _ _ _ _ _ _ (plan_text p plan) _ d1 c.in-Ok-write_plan.field-0 c.in-Ok-write_plan.ensures.written in
    not_all whole _ _ _ _ _ _ (codes "code\n") _ d2 c.in-Err-write_bytes.no c.in-Err-write_bytes.ensures.written

pub returns-clause-written : goal.returns-clause-written
returns-clause-written g c =
    let p = c.args.protocol.now in
    let code = c.args.code.now in
    let plan = map plan_event c.args.events.now in
    let trees = map tree_of c.args.terms.now in
    let whole = explained_by p plan code trees in
    let head = line (codes "role " ++ code.role) in
    let d1 = one_part whole _ _ _ _ _ _ head _ (due_as whole _ _ _ refl) c.in-Ok.field-0 (c.in-Ok.ensures.written head c.head_text.ensures) in
    let d2 = one_part whole _ _ _ _ _ _ (plan_text p plan) _ d1 c.in-Ok-write_plan.field-0 c.in-Ok-write_plan.ensures.written in
    let d3 = one_part whole _ _ _ _ _ _ (codes "code\n") _ d2 c.in-Ok-write_bytes.field-0 c.in-Ok-write_bytes.ensures.written in
    last_part whole _ _ _ _ _ _ (code_text p trees code) d3 c.write_code.result c.write_code.ensures.written
