use Rattle.std.proofs.Common.{◌≡◌, Bool, true, false, map, sym, ◌∙◌, arith}
use Rattle.anb_term.specs.View.{tree_of}
use Rattle.anb_term.proofs.Lists.{slice_get-at}
use Rattle.anb_trace.proofs.Held.{held_behind, held_here, held_none, held_past, is_another, is_one}
use Rattle.anb_trace.proofs.differences.held.Goals as goal

pub returns-in_default-clause-none : goal.returns-in_default-clause-none
returns-in_default-clause-none c =
    sym c.loop-i.invariant ∙ held_past (map tree_of c.args.terms.now) c.args.registers.now (tree_of c.args.term.now) c.loop-i.i c.in_default.ensures.none

pub returns-then-same-clause-some : goal.returns-then-same-clause-some
returns-then-same-clause-some c =
    let known = c.in-Some.known.now in
    let term = c.args.term.now in
    let i = c.loop-i.i in
    let value = c.index-registers-i.result in
    sym c.loop-i.invariant
    ∙ held_here (map tree_of c.args.terms.now) c.args.registers.now (tree_of term) i (tree_of known) value c.in-Some.ensures.some
    (slice_get-at c.args.registers.now i value (omega arith) c.index-registers-i.is) (is_one known term (c.same.ensures.0 c.if-same.true))

pub loop-i-preserved : goal.loop-i-preserved
loop-i-preserved c =
    let known = c.in-Some.known.now in
    let term = c.args.term.now in
    let i = c.loop-i.i in
    let value = c.index-registers-i.result in
    sym (held_behind (map tree_of c.args.terms.now) c.args.registers.now (tree_of term) i (tree_of known) value c.in-Some.ensures.some
    (slice_get-at c.args.registers.now i value (omega arith) c.index-registers-i.is)
    (is_another known term (λ e. (let never : true ≡ false = sym (c.same.ensures.1 e) ∙ c.if-same.false in cc))))
    ∙ c.loop-i.invariant

pub returns-clause-none : goal.returns-clause-none
returns-clause-none c =
    sym c.loop-i.invariant ∙ held_none (map tree_of c.args.terms.now) c.args.registers.now (tree_of c.args.term.now) c.loop-i.i (omega arith)
