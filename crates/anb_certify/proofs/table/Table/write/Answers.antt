use Rattle.std.proofs.Common.{◌<◌, length, true, false, Some, sym, ap, ◌∙◌, subst, arith}
use Rattle.anb_intern.proofs.Nodes.{operands_long}
use Rattle.anb_plays.specs.Exec.{IsReady}
use Rattle.anb_certify.specs.declared.works.Job.{Job}
use Rattle.anb_certify.specs.Numbered.{IsWritten, value_of, terms_in}
use Rattle.anb_certify.specs.Works.{work_of}
use Rattle.anb_certify.proofs.Grouping.{get_here}
use Rattle.anb_certify.proofs.Tabling.{equal_terms, same_written, other_written}
use Rattle.anb_certify.proofs.table.Table.write.Goals as goal

pub index-requires : goal.index-requires
index-requires c =
    let s = c.args.self.now in
    let R : Job → Type 0 = λ j. IsReady c.requires.ready.0 (length (terms_in s)) (work_of j) in
    omega (arith, (subst R c.in-Equal.is c.requires.ready.1).0, operands_long s.pool s.ids.items, s.ids.ok.0)

pub index-requires-in-Equal : goal.index-requires-in-Equal
index-requires-in-Equal c =
    let s = c.args.self.now in
    let R : Job → Type 0 = λ j. IsReady c.requires.ready.0 (length (terms_in s)) (work_of j) in
    omega (arith, (subst R c.in-Equal.is c.requires.ready.1).1, operands_long s.pool s.ids.items, s.ids.ok.0)

pub returns-then-index-clause-written : goal.returns-then-index-clause-written
returns-then-index-clause-written c =
    let s = c.args.self.now in
    let a = c.in-Equal.a in
    let b = c.in-Equal.b in
    let R : Job → Type 0 = λ j. IsReady c.requires.ready.0 (length (terms_in s)) (work_of j) in
    let ready = subst R c.in-Equal.is c.requires.ready.1 in
    let la : a < length s.ids.items = omega (arith, ready.0, operands_long s.pool s.ids.items) in
    let lb : b < length s.ids.items = omega (arith, ready.1, operands_long s.pool s.ids.items) in
    let x = c.index.result.now in
    let y = c.index-in-Equal.result.now in
    let W : Job → Type 0 = λ j. IsWritten (value_of s) (work_of j) true (value_of s) in
    let terms = equal_terms s.pool s.ids.items c.requires.table.under c.len.ensures.distinct a b x y (get_here s.ids.items a x la ∙ ap Some (sym c.index.ensures)) (get_here s.ids.items b y lb ∙ ap Some (sym c.index-in-Equal.ensures)) in
    subst W (sym c.in-Equal.is) (same_written a b (value_of s) (terms.0 c.if-index.true))

pub returns-else-index-clause-written : goal.returns-else-index-clause-written
returns-else-index-clause-written c =
    let s = c.args.self.now in
    let a = c.in-Equal.a in
    let b = c.in-Equal.b in
    let R : Job → Type 0 = λ j. IsReady c.requires.ready.0 (length (terms_in s)) (work_of j) in
    let ready = subst R c.in-Equal.is c.requires.ready.1 in
    let la : a < length s.ids.items = omega (arith, ready.0, operands_long s.pool s.ids.items) in
    let lb : b < length s.ids.items = omega (arith, ready.1, operands_long s.pool s.ids.items) in
    let x = c.index.result.now in
    let y = c.index-in-Equal.result.now in
    let W : Job → Type 0 = λ j. IsWritten (value_of s) (work_of j) false (value_of s) in
    let terms = equal_terms s.pool s.ids.items c.requires.table.under c.len.ensures.distinct a b x y (get_here s.ids.items a x la ∙ ap Some (sym c.index.ensures)) (get_here s.ids.items b y lb ∙ ap Some (sym c.index-in-Equal.ensures)) in
    subst W (sym c.in-Equal.is) (other_written a b (value_of s) (terms.1 c.if-index.false))
