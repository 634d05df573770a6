use Rattle.std.proofs.Common.{◌<◌, length, sym, ap, ◌∙◌, subst, arith, is_some, take}
use Rattle.std.specs.Prelude.{slice_get}
use Rattle.anb_term.specs.Tree.{trees_of, list_of}
use Rattle.anb_intern.specs.Nodes.{AreUnder}
use Rattle.anb_intern.proofs.Nodes.{operands_long}
use Rattle.anb_close.specs.Rows.{mades_for, rows_of}
use Rattle.anb_close.specs.Standings.{all_stand}
use Rattle.anb_close.proofs.Indexing.{number_under, no_operands, front_under, front_is}
use Rattle.anb_close.proofs.index.Index.composes.Goals as goal

pub index-requires : goal.index-requires
index-requires c = omega (arith, c.requires.within, operands_long c.self.inside.pool c.self.inside.numbers.items, ap (λ v. length v.0) c.self.view_is, c.self.inside.numbers.ok.0)

pub get-requires : goal.get-requires
get-requires c =
    let h : c.args.i < length c.self.inside.numbers.items = omega (arith, c.requires.within, operands_long c.self.inside.pool c.self.inside.numbers.items, ap (λ v. length v.0) c.self.view_is) in
    number_under (length c.self.inside.pool) c.self.inside.numbers.items c.args.i c.index.result.now c.self.invariant.0.under h c.index.ensures

pub all_stand-requires : goal.all_stand-requires
all_stand-requires c =
    let h : c.args.i < length c.self.inside.numbers.items = omega (arith, c.requires.within, operands_long c.self.inside.pool c.self.inside.numbers.items, ap (λ v. length v.0) c.self.view_is) in
    let ss = c.self.inside.standings.items in
    let u = front_under c.self.inside.pool c.self.inside.numbers.items ss c.self.invariant.0 c.args.i c.index.result.now h c.index.ensures c.get.result.now c.get.ensures.stands c.in-Apply.field-0 c.in-Apply.ids c.args.count c.in-Apply.is c.get.ensures.before in
    record { under = subst (λ l. AreUnder (length l) c.front.result.now) (sym c.deref-in-Apply.ensures.value) (subst (AreUnder (length ss)) (sym (c.front.ensures ∙ ap (take c.args.count) c.deref.ensures.value)) u) }

pub returns-in-Atom : goal.returns-in-Atom
returns-in-Atom c o us e =
    let h : c.args.i < length c.self.inside.numbers.items = omega (arith, c.requires.within, operands_long c.self.inside.pool c.self.inside.numbers.items, ap (λ v. length v.0) c.self.view_is) in
    absurd (no_operands c.self.inside.pool c.self.inside.numbers.items c.self.inside.standings.items c.self.invariant.0 c.args.i c.index.result.now h c.index.ensures c.get.result.now c.get.ensures.stands c.in-Atom.field-0 c.in-Atom.is o us (ap (λ v. slice_get v.0 c.args.i) c.self.view_is ∙ e))

pub returns-in-Apply : goal.returns-in-Apply
returns-in-Apply c o us e =
    let h : c.args.i < length c.self.inside.numbers.items = omega (arith, c.requires.within, operands_long c.self.inside.pool c.self.inside.numbers.items, ap (λ v. length v.0) c.self.view_is) in
    let ss = c.self.inside.standings.items in
    let here = ap (λ v. slice_get v.0 c.args.i) c.self.view_is ∙ e in
    c.all_stand.ensures ∙ ap (λ l. all_stand l c.front.result.now) c.deref-in-Apply.ensures.value ∙ ap (all_stand ss) (c.front.ensures ∙ ap (take c.args.count) c.deref.ensures.value)
    ∙ front_is c.self.inside.pool c.self.inside.numbers.items ss c.self.invariant.0 c.args.i c.index.result.now h c.index.ensures c.get.result.now c.get.ensures.stands c.in-Apply.field-0 c.in-Apply.ids c.args.count c.in-Apply.is c.get.ensures.before o us here
    ∙ ap (λ v. is_some (mades_for (rows_of v.0) (trees_of (take c.args.count (list_of us))))) c.self.view_is
