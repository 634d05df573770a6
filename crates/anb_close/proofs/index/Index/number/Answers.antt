use Rattle.std.proofs.Common.{◌≤◌, length, List, refl, sym, ap, ◌∙◌, subst, arith}
use Rattle.anb_term.specs.Tree.{Tree}
use Rattle.anb_intern.specs.Nodes.{operands_at}
use Rattle.anb_close.specs.Rows.{rows_of}
use Rattle.anb_close.specs.Standings.{IsIndexed}
use Rattle.anb_close.specs.Parents.{AreLinked}
use Rattle.anb_close.proofs.Indexing.{put_more, put_back, stay_more}
use Rattle.anb_close.proofs.Linking.{linked_before, linked_stay}
use Rattle.anb_close.proofs.index.Index.number.Goals as goal

pub invariant_of-self : goal.invariant_of-self
invariant_of-self c =
    let P : List Tree → Type 0 = λ ts. IsIndexed ts c.self.inside.numbers.items c.self.inside.standings.items × AreLinked ts c.self.inside.parents.items (length ts) × (length ts ≤ length c.self.inside.parents.items) in
    subst P (sym c.in_err-id.ensures.err) c.self.invariant

pub invariant_of-self-in-Ok : goal.invariant_of-self-in-Ok
invariant_of-self-in-Ok c =
    let ts = c.self.inside.pool in
    let ts' = c.put_term.new.self in
    let ids = c.self.inside.numbers.items in
    let ss = c.self.inside.standings.items in
    let m = c.in_ok-id.ensures.more in
    let e = c.in-Ok.ensures in
    let p = put_more ts ts' ids ss c.make_room.new.standings.items c.len-before.result (length ts') m.more c.self.invariant.0 m.is c.len.ensures.distinct c.len-before.ensures.count refl e.ok in (
      record { under = p.0; right = c.settle.ensures (rows_of (operands_at ts' ids)) p.1 },
      e.linked (subst (AreLinked ts' c.self.inside.parents.items) (sym c.len-before.ensures.count) (linked_before ts ts' m.more c.self.inside.parents.items m.is c.self.invariant.1)),
      e.long,
    )

pub returns-in-Ok-clause-same : goal.returns-in-Ok-clause-same
returns-in-Ok-clause-same c =
    let m = c.in_ok-id.ensures.more in
    stay_more c.self.inside.pool c.put_term.new.self m.more c.self.inside.numbers.items m.is c.self.invariant.0.under ∙ ap (λ v. v.0) c.self.view_is

pub invariant_of-self-2 : goal.invariant_of-self-2
invariant_of-self-2 c =
    let ts = c.self.inside.pool in
    let m = c.in_ok-id.ensures.more in
    let e = c.in-Err.ensures in
    let ps = c.make_room.new.parents.items in
    let back = put_back ts c.put_term.new.self c.cut.new.self m.more c.len-before.result m.is c.len-before.ensures.count c.cut.ensures in
    let P : List Tree → Type 0 = λ l. IsIndexed l c.self.inside.numbers.items c.make_room.new.standings.items × AreLinked l ps (length l) × (length l ≤ length ps) in
    subst P (sym back) (subst (IsIndexed ts c.self.inside.numbers.items) (sym e.err) c.self.invariant.0, linked_stay ts c.self.inside.parents.items ps (length ts) e.stay c.self.invariant.1, omega (arith, c.self.invariant.2, e.lists))
