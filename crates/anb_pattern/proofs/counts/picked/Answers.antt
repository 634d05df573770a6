-- One term more.
use Rattle.std.proofs.Common.{◌+◌, ◌<◌, ◌++◌, length, map, get_or, sym, ap, ◌∙◌, arith}
use Rattle.std.proofs.lemmas.List.{append-nil, drop_all}
use Rattle.std.proofs.lemmas.Option.{slice_get-get_or}
use Rattle.anb_term.specs.View.{tree_of}
use Rattle.anb_pattern.specs.Variables.{picked_from}
use Rattle.anb_pattern.specs.Counts.{stands}
use Rattle.anb_pattern.proofs.Counting.{picked_next, stands_as}
use Rattle.anb_pattern.proofs.counts.picked.Goals as goal

pub loop-i-preserved : goal.loop-i-preserved
loop-i-preserved c names patterns are =
    let once = c.args.once in
    let counts = c.args.counts.now in
    let ts = c.args.terms.now in
    let i = c.loop-i.i in
    let x = get_or counts i 0 in
    let within : i < length counts = omega (arith, c.requires) in
    let so = c.is_one.ensures ∙ stands_as names i x patterns counts once are within (slice_get-get_or counts i 0 within) in
    picked_next (stands patterns once) names i ts c.index-terms-i.result c.is_one.result (map tree_of c.loop-i.out.items) (map tree_of c.put_if.new.out.items) _ (omega arith) c.index-terms-i.is so c.in_ok-put_if.ensures (c.loop-i.invariant names patterns are)

pub returns : goal.returns
returns c names patterns are =
    let ts = c.args.terms.now in
    let out = map tree_of c.loop-i.out.items in
    let i = c.loop-i.i in
    sym (append-nil out) ∙ ap (λ l. out ++ picked_from (stands patterns c.args.once) (names + i) (map tree_of l)) (sym (drop_all i ts (omega arith))) ∙ c.loop-i.invariant names patterns are
