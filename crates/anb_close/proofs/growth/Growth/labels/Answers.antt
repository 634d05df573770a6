use Rattle.std.proofs.Common.{◌≡◌, ◌+◌, ◌-◌, [], length, drop, arith, ap, sym, subst}
use Rattle.std.specs.List.{AllByRecursion}
use Rattle.anb_close.specs.Entries.{IsPart, labels_of}
use Rattle.anb_close.proofs.Growing.{number_few, labels_are, no_labels}
use Rattle.anb_close.proofs.growth.Growth.labels.Goals as goal

pub overflow_add-result : goal.overflow_add-result
overflow_add-result c =
    let few = number_few c.args.self.now.entries.items (c.loop-at.at - 1) c.index.result.now c.in-Label.n c.requires.follow (omega (arith, c.loop-at.invariant.within)) c.index.ensures c.in-Label.is in
    omega (arith, c.requires.few, few)

pub returns-in-Label : goal.returns-in-Label
returns-in-Label c =
    let es = c.args.self.now.entries.items in
    let n : c.loop-at.at ≡ c.loop-at.at - 1 + 1 = omega arith in
    labels_are es (c.loop-at.at - 1) c.index.result.now c.in-Label.n c.requires.follow (omega (arith, c.loop-at.invariant.within)) c.index.ensures c.in-Label.is (subst (λ k. AllByRecursion IsPart (drop k es)) n c.loop-at.invariant.parts)

pub returns : goal.returns
returns c =
    let es = c.args.self.now.entries.items in
    let z : c.loop-at.at ≡ 0 = omega arith in
    let none : labels_of es ≡ [] = no_labels es (subst (λ n. AllByRecursion IsPart (drop n es)) z c.loop-at.invariant.parts) in
    sym (ap length none)
