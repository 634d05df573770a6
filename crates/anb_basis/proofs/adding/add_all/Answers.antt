use Rattle.std.proofs.Common.{◌≡◌, length, ◌∙◌, sym, subst, arith}
use Rattle.anb_close.specs.Entries.{IsKnown, rows}
use Rattle.anb_basis.proofs.All.{given_later, marked_there, unmarked_there, rest_there}
use Rattle.anb_close.specs.Listed.{AreTouched}
use Rattle.anb_basis.specs.Checks.{OpensMarked, OpensUnmarked, RestMarked}
use Rattle.anb_basis.proofs.Listing.{rest_stays}
use Rattle.anb_basis.proofs.Ordering.{in_order}
use Rattle.anb_basis.proofs.adding.add_all.Goals as goal

pub add_opens-requires-clause-given : goal.add_opens-requires-clause-given
add_opens-requires-clause-given c =
    let b = c.requires.given in
    given_later b.0 c.entries-entries.result.now b.1.0 c.args.given.now.items c.args.marks.now.items c.extend.new.marks.items b.2.given (c.entries-entries.ensures.same ∙ b.1.1) c.in_ok-extend.ensures.ok

pub add_opens-requires-clause-marked : goal.add_opens-requires-clause-marked
add_opens-requires-clause-marked c =
    let b = c.requires.given in
    let known = subst IsKnown (sym c.entries-entries.ensures.same) c.entries-entries.ensures.known in
    let from_is : c.len-from.result ≡ length c.args.marks.now.items = omega (arith, c.len-from.ensures, c.args.marks.now.ok.0) in
    subst (OpensMarked c.entries-entries.result.now c.extend.new.marks.items) (sym from_is) (marked_there b.0 c.entries-entries.result.now b.1.0 c.args.given.now.items c.args.marks.now.items c.extend.new.marks.items b.2 known (c.entries-entries.ensures.same ∙ b.1.1) c.in_ok-extend.ensures.ok)

pub add_opens-requires-clause-fresh : goal.add_opens-requires-clause-fresh
add_opens-requires-clause-fresh c =
    let b = c.requires.given in
    let known = subst IsKnown (sym c.entries-entries.ensures.same) c.entries-entries.ensures.known in
    let from_is : c.len-from.result ≡ length c.args.marks.now.items = omega (arith, c.len-from.ensures, c.args.marks.now.ok.0) in
    subst (OpensUnmarked c.entries-entries.result.now c.extend.new.marks.items) (sym from_is) (unmarked_there b.0 c.entries-entries.result.now b.1.0 c.args.given.now.items c.args.marks.now.items c.extend.new.marks.items b.2 known (c.entries-entries.ensures.same ∙ b.1.1) c.in_ok-extend.ensures.ok)

pub add_equals-requires-clause-touched : goal.add_equals-requires-clause-touched
add_equals-requires-clause-touched c =
    let b = c.requires.given in
    let e = c.entries-entries.ensures.same in
    let known = subst IsKnown (sym e) c.entries-entries.ensures.known in
    let rest = rest_there b.0 c.entries-entries.result.now b.1.0 c.args.given.now.items c.args.marks.now.items c.extend.new.marks.items b.2 known (e ∙ b.1.1) c.in_ok-extend.ensures.ok c.args.touched.now (subst (λ es. AreTouched (rows b.0) (rows es) c.args.touched.now) (sym e) b.3) in
    let from_is : c.len-from.result ≡ length c.args.marks.now.items = omega (arith, c.len-from.ensures, c.args.marks.now.ok.0) in
    subst (λ n. RestMarked c.args.closure.now c.add_opens.new.marks.items n c.args.touched.now) (sym from_is) (rest_stays c.args.closure.now c.extend.new.marks.items c.add_opens.new.marks.items (length c.args.marks.now.items) c.args.touched.now c.in_ok-add_opens.ensures.stay (subst (λ es. RestMarked es c.extend.new.marks.items (length c.args.marks.now.items) c.args.touched.now) e rest))

pub returns-clause-order : goal.returns-clause-order
returns-clause-order c =
    let from_is : c.len-from.result ≡ length c.args.marks.now.items = omega (arith, c.len-from.ensures, c.args.marks.now.ok.0) in
    in_order _ _ _ _ _ _ _ from_is c.entries-entries.ensures.same c.in_ok-add_opens.ensures.listed c.in_ok-add_equals.ensures.compared
