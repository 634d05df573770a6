use Rattle.std.proofs.Common.{◌≤◌, length, take, ap, ◌∙◌, arith}
use Rattle.anb_intern.specs.Nodes.{operands_at}
use Rattle.anb_intern.proofs.Nodes.{operands_long}
use Rattle.anb_close.specs.Rows.{rows_of}
use Rattle.anb_close.proofs.Indexing.{right_places, cut_places, cut_under, cut_terms}
use Rattle.anb_close.proofs.index.Index.cut.Goals as goal

pub invariant_of-self : goal.invariant_of-self
invariant_of-self c =
    let ts = c.self.inside.pool in
    let ids = c.self.inside.numbers.items in
    let ids' = c.truncate.new.self.items in
    let ss = c.self.inside.standings.items in
    let ix = c.self.invariant.0 in
    let h : c.args.at ≤ length ids = omega (arith, c.requires.within, operands_long ts ids, ap (λ v. length v.0) c.self.view_is) in
    let p = cut_places ts ids ids' ss c.args.at h c.truncate.ensures.items (right_places (rows_of (operands_at ts ids)) ts ss ix.right) in
    (record { under = cut_under ts ids ids' c.args.at c.truncate.ensures.items ix.under; right = c.forget.ensures (rows_of (operands_at ts ids')) p }, c.self.invariant.1, c.self.invariant.2)

pub returns : goal.returns
returns c = cut_terms c.self.inside.pool c.self.inside.numbers.items c.truncate.new.self.items c.args.at c.truncate.ensures.items ∙ ap (λ v. take c.args.at v.0) c.self.view_is
