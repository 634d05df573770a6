use Rattle.std.proofs.Common.{◌++◌, drop, arith, sym, ap, ◌∙◌}
use Rattle.std.proofs.lemmas.List.{append-nil}
use Rattle.anb_judge.proofs.SeenPlays.{behind_lines, behind_sides}
use Rattle.anb_judge.proofs.judging.in_place.Goals as goal

pub returns-clause-placed : goal.returns-clause-placed
returns-clause-placed c =
    let v = c.loop-i.invariant in
    let none = behind_lines (drop c.loop-i.i c.args.sides.now) c.args.lines.now c.loop-i.i (omega (arith, c.loop-i-test.false)) in
    sym (append-nil c.loop-i.arrivals.items) ∙ ap (λ l. c.loop-i.arrivals.items ++ l) (sym none) ∙ v.placed

pub returns-then-i-sides-clause-placed : goal.returns-then-i-sides-clause-placed
returns-then-i-sides-clause-placed c =
    let v = c.loop-i.invariant in
    let none = behind_sides c.args.sides.now (drop c.loop-i.i c.args.lines.now) c.loop-i.i (omega (arith, c.if-i-sides.true)) in
    sym (append-nil c.loop-i.arrivals.items) ∙ ap (λ l. c.loop-i.arrivals.items ++ l) (sym none) ∙ v.placed
