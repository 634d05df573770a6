use Rattle.std.proofs.Common.{◌≡◌, length, map, take, get_or, Some, refl, arith, sym, ◌∙◌, ap}
use Rattle.std.specs.Prelude.{slice_get}
use Rattle.std.proofs.lemmas.List.{length-map, take_all}
use Rattle.std.proofs.lemmas.Option.{slice_get_read}
use Rattle.anb_term.specs.View.{tree_of}
use Rattle.anb_term.specs.Lawful.{picked}
use Rattle.anb_term.proofs.Lists.{map-take}
use Rattle.anb_term.proofs.Picking.{picks_more, picks_differ}
use Rattle.anb_term.proofs.term.Terms.begin_with.Goals as goal

pub returns-then-not-same : goal.returns-then-not-same
returns-then-not-same c =
    let items = c.self.inside.items.items in
    let table = c.args.table.now in
    let x = c.index-table-at.result in
    let y = c.index.result.now in
    let j = get_or c.args.at.now c.loop-k.k 0 in
    let at : slice_get table j ≡ Some x = slice_get_read table (length table) j x refl (c.requires.within c.loop-k.k 0 (omega arith)) c.index-table-at.is in
    let long : length items ≡ length c.args.self.now = sym (length-map items tree_of) ∙ ap length c.self.view_is in (
      (λ h. cc),
      (λ e.
          let same = picks_differ table items c.args.at.now c.loop-k.k x y c.requires.within (omega arith) at c.index.ensures (omega arith) (e ∙ ap (take (length c.args.at.now)) (sym c.self.view_is)) in
          let yes = c.same.ensures.1 same in
          cc),
    )

pub loop-k-preserved : goal.loop-k-preserved
loop-k-preserved c =
    let items = c.self.inside.items.items in
    let table = c.args.table.now in
    let x = c.index-table-at.result in
    let j = get_or c.args.at.now c.loop-k.k 0 in
    let at : slice_get table j ≡ Some x = slice_get_read table (length table) j x refl (c.requires.within c.loop-k.k 0 (omega arith)) c.index-table-at.is in
    let long : length items ≡ length c.args.self.now = sym (length-map items tree_of) ∙ ap length c.self.view_is in
    let same : c.index.result.now ≡ x = c.same.ensures.0 c.if-not-same.false in
    let is : x ≡ get_or items c.loop-k.k x = rw same at c.index.ensures in
    picks_more table items c.args.at.now c.loop-k.k x (omega arith) (omega arith) at is c.loop-k.invariant

pub returns : goal.returns
returns c =
    let items = c.self.inside.items.items in
    let by = c.args.at.now in
    let k : c.loop-k.k ≡ length by = omega arith in
    let all : picked c.args.table.now by ≡ take (length by) items = ap (picked c.args.table.now) (sym (take_all (length by) by (omega arith)) ∙ ap (λ n. take n by) (sym k)) ∙ c.loop-k.invariant ∙ ap (λ n. take n items) k in
    ((λ h. ap (map tree_of) all ∙ map-take tree_of (length by) items ∙ ap (take (length by)) c.self.view_is), (λ e. refl))
