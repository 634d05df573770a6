use Rattle.std.proofs.Common.{◌≡◌, ◌+◌, ℕ, [], length, ap, subst, arith}
use Rattle.anb_protocol.specs.Plays.{events_of}
use Rattle.std.proofs.Common.{drop}
use Rattle.anb_lemmas.proofs.Results.{on_ok_map}
use Rattle.anb_outcomes.specs.declared.certificates.CertifyNo.TheVariants.{Loose}
use Rattle.anb_certify.specs.Certified.{Refuses}
use Rattle.anb_certify.specs.Numbered.{value_of, IsLoose}
use Rattle.anb_certify.proofs.Ending.{starts, all_past, refused_by}
use Rattle.anb_certify.proofs.Results.{if_err}
use Rattle.anb_certify.proofs.Walking.{few_now, ends_well, ends_loose}
use Rattle.anb_certify.proofs.certifying.walk.Goals as goal

pub loop-i-init : goal.loop-i-init
loop-i-init c = record {
  table = c.new-table.ensures.table;
  at = starts c.args.p.now c.args.role c.args.code.now (value_of c.new-table.result) c.requires.framed c.verified_is_runnable.ensures c.instrs-count.ensures.verified c.new-table.ensures.terms c.new-table.ensures.did;
}

pub returns-clause-certified : goal.returns-clause-certified
returns-clause-certified c =
    let p = c.args.p.now in
    let role = c.args.role in
    let code = c.args.code.now in
    let v = value_of c.loop-i.table in
    let s = all_past p role code c.loop-i.i c.loop-i.next v (omega (arith, ap length c.instrs-count.ensures.instrs, c.loop-i-test.false)) c.loop-i.invariant.at in
    on_ok_map c.border.result (λ enough. (c.requires.framed, ends_well p role code (drop c.loop-i.next (events_of p role)) (c.loop-i.i + 1) v enough s)) c.border.ensures.enough

pub returns-clause-refused : goal.returns-clause-refused
returns-clause-refused c =
    let p = c.args.p.now in
    let role = c.args.role in
    let code = c.args.code.now in
    let v = value_of c.loop-i.table in
    let i = c.loop-i.i in
    let s = all_past p role code i c.loop-i.next v (omega (arith, ap length c.instrs-count.ensures.instrs, c.loop-i-test.false)) c.loop-i.invariant.at in
    let at : i + 1 ≡ length c.instrs-count.result.now + 1 = omega (arith, c.loop-i.auto.i-end, c.loop-i-test.false) in
    let loose : (r : ℕ) → IsLoose v.did v.terms r → Refuses p role code (Loose (length c.instrs-count.result.now + 1) r) = λ r l.
    subst (λ n. Refuses p role code (Loose n r)) at (ends_loose p role code (drop c.loop-i.next (events_of p role)) (i + 1) v r l s) in
    if_err c.border.result (λ e h. refused_by p role code (length c.instrs-count.result.now + 1) v loose e h) c.border.ensures.loose

pub border-requires-clause-few : goal.border-requires-clause-few
border-requires-clause-few c =
    let p = c.args.p.now in
    let role = c.args.role in
    let code = c.args.code.now in
    let v = value_of c.loop-i.table in
    let s = all_past p role code c.loop-i.i c.loop-i.next v (omega (arith, ap length c.instrs-count.ensures.instrs, c.loop-i-test.false)) c.loop-i.invariant.at in
    few_now p role code [] (drop c.loop-i.next (events_of p role)) (c.loop-i.i + 1) v s
