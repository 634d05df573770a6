use Rattle.std.proofs.Common.{◌≡◌, ◌<◌, ℕ, length, Some, sym, ap, ◌∙◌, subst, arith, Option}
use Rattle.std.specs.Prelude.{slice_get, MatchOption}
use Rattle.anb_term.specs.View.{tree_of}
use Rattle.anb_term.proofs.Lists.{slice_get-there}
use Rattle.anb_intern.specs.declared.node.NodeId.{NodeId}
use Rattle.anb_intern.proofs.Nodes.{operands_long}
use Rattle.anb_certify.proofs.Grouping.{get_here}
use Rattle.anb_certify.proofs.Tabling.{has_term, no_term}
use Rattle.anb_certify.proofs.table.Table.holds.Goals as goal

pub index-requires : goal.index-requires
index-requires c = omega (arith, c.requires.there, operands_long c.args.self.now.pool c.args.self.now.ids.items, c.args.self.now.ids.ok.0)

pub returns-in-Some : goal.returns-in-Some
returns-in-Some c =
    let s = c.args.self.now in
    let t = tree_of c.args.term.now in
    let x = c.index.result.now in
    let M : Option NodeId → Type 0 = λ o. MatchOption o ((i : ℕ) → slice_get s.pool i ≡ Some t → ⊥) (λ (id : NodeId). slice_get s.pool id.0 ≡ Some t) in
    let stored = subst M c.in-Some.is c.in_ok-id.ensures in
    let below : c.args.r < length s.ids.items = omega (arith, c.requires.there, operands_long s.pool s.ids.items) in
    has_term s.pool s.ids.items c.requires.table.under c.len.ensures.distinct c.args.r x c.in-Some.id t (get_here s.ids.items c.args.r x below ∙ ap Some (sym c.index.ensures)) stored

pub returns-in-None : goal.returns-in-None
returns-in-None c =
    let s = c.args.self.now in
    let t = tree_of c.args.term.now in
    let M : Option NodeId → Type 0 = λ o. MatchOption o ((i : ℕ) → slice_get s.pool i ≡ Some t → ⊥) (λ (id : NodeId). slice_get s.pool id.0 ≡ Some t) in
    let none = subst M c.in-None.is c.in_ok-id.ensures in
    let below : c.args.r < length s.ids.items = omega (arith, c.requires.there, operands_long s.pool s.ids.items) in
    let x = slice_get-there s.ids.items c.args.r below in
    (λ h. cc, λ h. absurd (no_term s.pool s.ids.items c.requires.table.under c.len.ensures.distinct c.args.r x.0 t x.1 none h))
