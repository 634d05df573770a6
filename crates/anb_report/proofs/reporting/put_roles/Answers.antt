use Rattle.std.proofs.Common.{◌+◌, ◌≤◌, [], ◌∷◌, ◌++◌, length, drop, sym, ap, ◌∙◌, arith, append_assoc}
use Rattle.anb_term.proofs.Lists.{slice_get-at}
use Rattle.anb_protocol.specs.Choices.{each_after}
use Rattle.anb_report.specs.Reporting.{role_after, role_report}
use Rattle.anb_report.proofs.Lines.{code_longer, role_first}
use Rattle.anb_report.proofs.reporting.put_roles.Goals as goal

pub overflow_cast-role : goal.overflow_cast-role
overflow_cast-role c =
    let few : length c.args.protocol.now.roles ≤ 32 = (c.protocols_hold.ensures c.args.protocol.now c.messages-actions.ensures.protocol).roles in
    omega (arith, few, c.requires.fit.count)

pub put_role-requires-clause-role : goal.put_role-requires-clause-role
put_role-requires-clause-role c = omega (arith, c.requires.fit.count)

pub put_role-requires-clause-fits : goal.put_role-requires-clause-fits
put_role-requires-clause-fits c =
    c.requires.fit.each c.loop-role.role c.index-codes-role.result (slice_get-at c.args.codes.now c.loop-role.role c.index-codes-role.result (omega arith) c.index-codes-role.is)

pub loop-role-preserved : goal.loop-role-preserved
loop-role-preserved c =
    let p = c.args.protocol.now in
    let codes = c.args.codes.now in
    let i = c.loop-role.role in
    let x = c.index-codes-role.result in
    let v = c.loop-role.invariant in
    let here = slice_get-at codes i x (omega arith) c.index-codes-role.is in
    let out = c.loop-role.out.items in
    let taken = c.args.taken.now in
    let t = c.index-taken-role.result in
    let there = slice_get-at taken i t (omega (arith, c.requires.fit.count, c.requires.taken)) c.index-taken-role.is in
    let later = each_after (role_after p taken) (v.before ++ x ∷ []) (drop (i + 1) codes) in
    record {
      before = v.before ++ x ∷ [];
      many = code_longer v.before x i v.many;
      due = ap (λ l. l ++ later) c.in_ok-put_role.ensures ∙ append_assoc out (role_report p i x t) later ∙ ap (λ l. out ++ l) (sym (role_first p taken codes i x t v.before here there v.many)) ∙ v.due;
    }
