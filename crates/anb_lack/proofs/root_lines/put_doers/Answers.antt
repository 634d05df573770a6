use Rattle.std.proofs.Common.{◌≡◌, Some, arith, sym, ◌∙◌}
use Rattle.anb_lemmas.proofs.Lists.{got_within}
use Rattle.anb_term.proofs.Lists.{slice_get-at}
use Rattle.anb_lack.proofs.Telling.{doer_next}
use Rattle.anb_lack.proofs.root_lines.put_doers.Goals as goal

pub index-requires : goal.index-requires
index-requires c =
    let role = c.loop-role.role in
    let row = c.index-rows-role.result in
    let column = c.requires.column in
    omega (arith, got_within row.items c.args.i (column.0 role) (column.1.each role row (slice_get-at c.args.rows.now role row (omega (arith, c.requires.long)) c.index-rows-role.is)), row.ok.0)

pub loop-role-preserved : goal.loop-role-preserved
loop-role-preserved c does is =
    let role = c.loop-role.role in
    let row = c.index-rows-role.result in
    let at = is.each role row (slice_get-at c.args.rows.now role row (omega (arith, c.requires.long)) c.index-rows-role.is) in
    let within = got_within row.items c.args.i (does role) at in
    let flag : does role ≡ c.index.result.now = (let got = slice_get-at row.items c.args.i c.index.result.now within c.index.ensures in let both : Some (does role) ≡ Some c.index.result.now = sym at ∙ got in cc) in
    doer_next does c.args.verb.now c.args.key.now c.args.names.now role c.index-names-role.result c.loop-role.out.items _ (omega arith) c.index-names-role.is c.index.result.now c.put_if.new.out.items flag c.in_ok-put_if.ensures (c.loop-role.invariant does is)
