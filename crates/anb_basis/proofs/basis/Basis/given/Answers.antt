use Rattle.std.proofs.Common.{◌≤◌, List, length, subst, arith}
use Rattle.anb_term.specs.Tree.{nodes}
use Rattle.anb_close.specs.declared.entry.Entry.{Entry}
use Rattle.anb_close.specs.Entries.{labels_of}
use Rattle.anb_basis.specs.declared.check.Check.{Check}
use Rattle.anb_basis.specs.Checks.{AreAll, AllFit}
use Rattle.anb_basis.proofs.All.{are_all}
use Rattle.anb_basis.proofs.Marks.{trues_few}
use Rattle.anb_basis.proofs.basis.Basis.given.Goals as goal

pub returns-clause-all : goal.returns-clause-all
returns-clause-all c =
    let P : List Entry × List Check → Type 0 = λ p. AreAll p.0 p.1 in
    subst P c.self.view_is (are_all c.self.inside.closure c.entries.ensures.known c.self.inside.given.items c.self.inside.marks.items c.self.invariant)

pub returns-clause-fit : goal.returns-clause-fit
returns-clause-fit c =
    let P : List Entry × List Check → Type 0 = λ p. AllFit p.0 p.1 in
    subst P c.self.view_is c.self.invariant.given.fits

pub returns-clause-few : goal.returns-clause-few
returns-clause-few c =
    let P : List Entry × List Check → Type 0 = λ p. length p.1 ≤ nodes (labels_of p.0) in
    let n : length c.self.inside.given.items ≤ nodes (labels_of c.self.inside.closure) =
    omega (arith, trues_few c.self.inside.marks.items, c.self.invariant.given.counted, c.self.invariant.given.long, c.entries.ensures.known.few) in
    subst P c.self.view_is n
