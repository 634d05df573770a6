-- One more entry.
use Rattle.std.proofs.Common.{[], ◌∷◌, take, arith, length-take-le}
use Rattle.anb_accept.specs.Equations.{heard_entries}
use Rattle.anb_accept.proofs.Steps.{heard_snoc}
use Rattle.anb_unify.proofs.Steps.{flat_next}
use Rattle.anb_accept.proofs.patterns.heard_entries.Goals as goal

pub loop-i-preserved : goal.loop-i-preserved
loop-i-preserved c =
    let es = c.args.entries.now in
    let i = c.loop-i.i in
    let e = c.index-entries-i.result in
    flat_next (heard_entries c.args.heard.now 0) es i e [] c.loop-i.out.items c.put_if_heard.new.out.items (heard_entries c.args.heard.now i (e ∷ []))
    c.loop-i.invariant (omega arith) c.index-entries-i.is (heard_snoc c.args.heard.now 0 (take i es) e i (omega (arith, length-take-le i es (omega arith)))) c.in_ok-put_if_heard.ensures
