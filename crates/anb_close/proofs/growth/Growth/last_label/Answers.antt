use Rattle.std.proofs.Common.{◌≡◌, [], length, drop, arith, ap, subst}
use Rattle.std.specs.List.{AllByRecursion}
use Rattle.anb_close.specs.Entries.{IsPart, labels_of}
use Rattle.anb_close.proofs.Growing.{no_labels}
use Rattle.anb_close.proofs.growth.Growth.last_label.Goals as goal

pub returns : goal.returns
returns c =
    let es = c.args.self.now.entries.items in
    let z : c.loop-at.at ≡ 0 = omega arith in
    let none : labels_of es ≡ [] = no_labels es (subst (λ n. AllByRecursion IsPart (drop n es)) z c.loop-at.invariant.parts) in
    absurd (omega (arith, ap length none, c.requires))
