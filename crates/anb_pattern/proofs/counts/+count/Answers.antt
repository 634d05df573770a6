-- One term more is counted.
use Rattle.std.proofs.Common.{◌<◌, [], ◌∷◌, length, map, take, sym, ap, ◌∙◌, arith}
use Rattle.anb_lemmas.proofs.Lists.{item_at, take_got}
use Rattle.anb_term.specs.Tree.{trees_of}
use Rattle.anb_term.specs.View.{tree_of}
use Rattle.anb_term.proofs.Lists.{one_size, map-append}
use Rattle.std.proofs.lemmas.List.{take_all}
use Rattle.anb_pattern.specs.Variables.{count_in, count_in_all}
use Rattle.anb_pattern.proofs.Counting.{counted_none, counted_same, counted_on, count_snoc}
use Rattle.anb_pattern.proofs.counts.+count.Goals as goal

pub count_all-count-requires : goal.count_all-count-requires
count_all-count-requires t c =
    let one = one_size c.args.ts.now c.loop-t.t-index c.t-item.result (omega arith) c.t-item.is in omega (arith, one, c.decreases)

pub count_all-loop-t-init : goal.count_all-loop-t-init
count_all-loop-t-init t c = counted_none c.args.names c.args.counts.now.items

pub count_all-loop-t-preserved : goal.count_all-loop-t-preserved
count_all-loop-t-preserved t c =
    let ts = c.args.ts.now in
    let i = c.loop-t.t-index in
    let x = c.t-item.result in
    let within : i < length ts = omega arith in
    let more = ap (map tree_of) (take_got ts i x (item_at ts i x within c.t-item.is)) ∙ map-append tree_of (take i ts) (x ∷ []) in
    counted_same c.args.names _ _ c.args.counts.now.items c.count.new.counts.items (λ v. count_snoc v (map tree_of (take i ts)) (tree_of x) ∙ ap (λ l. count_in_all v (trees_of l)) (sym more))
    (counted_on c.args.names (λ v. count_in_all v (trees_of (map tree_of (take i ts)))) (λ v. count_in v (tree_of x)) c.args.counts.now.items c.loop-t.counts.items c.count.new.counts.items c.loop-t.invariant c.count.ensures)

pub count_all-returns : goal.count_all-returns
count_all-returns t c =
    let ts = c.args.ts.now in
    counted_same c.args.names _ _ c.args.counts.now.items c.loop-t.counts.items (λ v. ap (λ l. count_in_all v (trees_of (map tree_of l))) (take_all c.loop-t.t-index ts (omega arith))) c.loop-t.invariant
