use Rattle.std.proofs.Common.{arith, sym, subst}
use Rattle.std.specs.List.{AllByRecursion}
use Rattle.anb_term.specs.Tree.{IsFormed}
use Rattle.anb_plays.specs.Honest.{honest}
use Rattle.anb_algebra.specs.ByteMeaning.{byte_meaning, has_operator}
use Rattle.anb_compile.specs.Emitting.{known_in}
use Rattle.anb_honest.proofs.Valuing.{bytes_next}
use Rattle.anb_honest.proofs.Setting.{known_at}
use Rattle.anb_honest.proofs.beginning.values_of.Goals as goal

pub put_value-requires : goal.put_value-requires
put_value-requires c =
    known_at (IsFormed (has_operator c.args.algebra.now.formats)) c.events-event-items.result.now c.loop-event.event-index c.event-item.result (omega arith) c.event-item.is
    (subst (λ l. AllByRecursion (IsFormed (has_operator c.args.algebra.now.formats)) (known_in l)) (sym c.events-event-items.ensures) c.requires)

pub loop-event-preserved : goal.loop-event-preserved
loop-event-preserved c = λ atoms g.
    bytes_next c.events-event-items.result.now c.loop-event.event-index c.event-item.result (omega arith) c.event-item.is
    (honest (byte_meaning c.args.algebra.now.formats c.args.algebra.now.suite) atoms) c.loop-event.values.items c.put_value.new.values.items (c.loop-event.invariant atoms g) (c.in_ok-put_value.ensures atoms g)
