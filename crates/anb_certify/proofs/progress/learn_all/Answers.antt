use Rattle.std.proofs.Common.{map, sym, ◌∙◌, arith}
use Rattle.anb_lemmas.proofs.Lists.{got_within}
use Rattle.anb_term.proofs.Lists.{slice_get-at}
use Rattle.anb_certify.specs.Works.{did_of, work_of}
use Rattle.anb_certify.proofs.Grouping.{did_there}
use Rattle.anb_certify.proofs.progress.learn_all.Goals as goal

pub learn-requires-clause-told : goal.learn-requires-clause-told
learn-requires-clause-told c =
    let d = c.index-done-k.result in
    let g = c.requires.told.1 in
    let there = did_there c.args.done.now c.loop-k.k d (slice_get-at c.args.done.now c.loop-k.k d c.loop-k-test.true c.index-done-k.is) in
    (c.requires.told.0, sym g.long, g.told d.at (work_of d.job) there)

pub learn-requires-clause-below : goal.learn-requires-clause-below
learn-requires-clause-below c i f e = omega (arith, c.requires.told.1.least i f e, got_within c.args.firsts.now i f e)

pub settle-requires : goal.settle-requires
settle-requires c =
    let d = c.index-done-k.result in
    let g = c.requires.told.1 in
    let there = did_there c.args.done.now c.loop-k.k d (slice_get-at c.args.done.now c.loop-k.k d c.loop-k-test.true c.index-done-k.is) in
    (c.requires.told.0, d.at, sym g.long ∙ sym c.loop-k.invariant.flags_long, g.told d.at (work_of d.job) there)

pub loop-k-preserved : goal.loop-k-preserved
loop-k-preserved c =
    let d = c.index-done-k.result in
    let done = c.args.done.now in
    let inv = c.loop-k.invariant in
    let did = map did_of done in
    let there = did_there done c.loop-k.k d (slice_get-at done c.loop-k.k d c.loop-k-test.true c.index-done-k.is) in
    record {
      known_long = c.learn.ensures.long ∙ inv.known_long;
      known_kept = λ n h. c.learn.ensures.kept n (inv.known_kept n h);
      flags_long = c.settle.ensures.long ∙ inv.flags_long;
      flags_kept = λ n h. c.settle.ensures.kept n (inv.flags_kept n h);
      known = λ h. c.learn.ensures.have did there (inv.known h);
      settled = λ ts g h. c.settle.ensures.settled did ts c.args.firsts.now d.at g there (inv.settled ts g h);
    }
