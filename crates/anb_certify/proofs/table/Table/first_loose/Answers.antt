use Rattle.std.proofs.Common.{ℕ, List, Option, map, length, ap, subst, arith}
use Rattle.std.specs.Prelude.{MatchOption}
use Rattle.anb_intern.specs.declared.node.NodeId.{NodeId}
use Rattle.anb_intern.specs.Nodes.{operands_at}
use Rattle.anb_intern.proofs.Nodes.{operands_long}
use Rattle.anb_certify.specs.declared.works.Done.{Done}
use Rattle.anb_certify.specs.Numbered.{AreGrouped, IsLoose}
use Rattle.anb_certify.specs.Progress.{found_in, HasFound}
use Rattle.anb_certify.specs.Tied.{AreEnough}
use Rattle.anb_certify.specs.Works.{did_of}
use Rattle.anb_certify.proofs.table.Table.first_loose.Goals as goal

pub returns-in_ok-settle_all-in-None-clause-loose : goal.returns-in_ok-settle_all-in-None-clause-loose
returns-in_ok-settle_all-in-None-clause-loose c =
    let s = c.args.self.now in
    let ids = s.ids.items in
    let done = s.done.items in
    let now = c.look.new.self in
    let F : List NodeId → List Done → Type 0 = λ l d. HasFound l (operands_at s.pool l) (map did_of d) (found_in now) in
    let G : List NodeId → List Done → Type 0 = λ l d. AreGrouped (operands_at s.pool l) (map did_of d) now.firsts.items in
    let E : List NodeId → List Done → Type 0 = λ l d. AreEnough (map did_of d) (operands_at s.pool l) in
    let M : Option ℕ → Type 0 = λ o. MatchOption o (E c.deref-3.result.now c.deref-4.result.now) (λ i. IsLoose (map did_of c.deref-4.result.now) (operands_at s.pool c.deref-3.result.now) i) in
    let found = subst (λ d. F ids d) c.deref-2.ensures.value (subst (λ l. F l c.deref-2.result.now) c.deref.ensures.value c.in_ok-look.ensures.found) in
    let grouped = subst (λ d. G ids d) c.deref-2.ensures.value (subst (λ l. G l c.deref-2.result.now) c.deref.ensures.value c.in_ok-look.ensures.grouped) in
    let enough = subst (λ d. E ids d) c.deref-4.ensures.value (subst (λ l. E l c.deref-4.result.now) c.deref-3.ensures.value (subst M c.in-None.is c.in_ok-r.ensures)) in
    let p = c.in_ok-settle_all-in-None.ensures ids (operands_at s.pool ids) (map did_of done) grouped enough found in
    (record { under = c.requires.table.under; progress = p }, enough)

pub look-requires-clause-few : goal.look-requires-clause-few
look-requires-clause-few c =
    omega (arith, c.requires.few, operands_long c.args.self.now.pool c.args.self.now.ids.items, ap length c.deref.ensures.value)

pub first_loose-requires-clause-few : goal.first_loose-requires-clause-few
first_loose-requires-clause-few c =
    omega (arith, c.requires.few, operands_long c.args.self.now.pool c.args.self.now.ids.items, ap length c.deref-3.ensures.value)
