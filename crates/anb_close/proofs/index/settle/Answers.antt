use Rattle.std.proofs.Common.{length, sym, ap, ◌∙◌, arith, None}
use Rattle.std.proofs.Math.ListN.{length-set}
use Rattle.anb_intern.proofs.Nodes.{over_more}
use Rattle.anb_close.specs.Standings.{standing, is_ready}
use Rattle.anb_close.proofs.Indexing.{settle_entry, settle_other, all_settled}
use Rattle.anb_close.proofs.index.settle.Goals as goal

pub loop-n-preserved-then-is_entry : goal.loop-n-preserved-then-is_entry
loop-n-preserved-then-is_entry c =
    let i = c.loop-n.invariant in
    record {
      long = i.long;
      step = λ rs h. settle_entry rs c.args.pool.now c.loop-n.standings.items c.loop-n.n (i.step rs h) (omega (arith, c.len-count.ensures.count)) c.index.result.now c.index.ensures (sym c.is_entry.ensures ∙ c.if-is_entry.true);
    }

pub is_ready-ready-requires : goal.is_ready-ready-requires
is_ready-ready-requires c = record {
  over = over_more c.loop-n.n (length c.deref.result.now) c.get.result.now (omega (arith, c.len-count.ensures.count, c.loop-n.invariant.long, ap length c.deref.ensures.value)) c.get.ensures.before;
}

pub loop-n-preserved : goal.loop-n-preserved
loop-n-preserved c =
    let i = c.loop-n.invariant in
    record {
      long = omega (arith, i.long, length-set c.loop-n.standings.items c.loop-n.n c.built_where.result);
      step = λ rs h. settle_other rs c.args.pool.now c.loop-n.standings.items c.loop-n.n (i.step rs h) (omega (arith, c.len-count.ensures.count)) c.index.result.now c.index.ensures c.get.result.now c.built_where.result
          (sym c.is_entry.ensures ∙ c.if-is_entry.false) c.get.ensures.stands c.get.ensures.before (c.built_where.ensures ∙ ap (standing None) (c.is_ready-ready.ensures ∙ ap (λ l. is_ready l c.get.result.now) c.deref.ensures.value));
    }

pub returns : goal.returns
returns c rs h = all_settled rs c.args.pool.now c.loop-n.standings.items c.loop-n.n (c.loop-n.invariant.step rs h) (omega (arith, c.len-count.ensures.count))
