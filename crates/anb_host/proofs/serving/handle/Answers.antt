use Rattle.std.proofs.Common.{inr, subst}
use Rattle.anb_base.specs.Moves.{Put, PutPrefix, count_written}
use Rattle.anb_base.specs.Wires.{WireState}
use Rattle.anb_base.proofs.Moving.{kept_first, kept_third, stamped_told}
use Rattle.anb_host.specs.HostFrames.{out}
use Rattle.anb_host.proofs.Turning.{unanswered, read_ended, answered_so, answered_whole, same_plays, no_error, failed_so}
use Rattle.anb_host.proofs.serving.handle.Goals as goal

pub returns-in-Err-clause-ends : goal.returns-in-Err-clause-ends
returns-in-Err-clause-ends g c =
    let s : WireState = record { left = g.W.Source.left c.args.wire.now; taken_at = g.W.Source.taken_at c.args.wire.now; read_faults = g.W.Source.faults c.args.wire.now; written = g.W.Sink.written c.args.wire.now; write_faults = g.W.Sink.faults c.args.wire.now; reached = g.W.Wire.reached c.args.wire.now; reach_faults = g.W.Wire.reach_faults c.args.wire.now } in
    let t : WireState = record { left = g.W.Source.left c.read_event.new.src; taken_at = g.W.Source.taken_at c.read_event.new.src; read_faults = g.W.Source.faults c.read_event.new.src; written = g.W.Sink.written c.read_event.new.src; write_faults = g.W.Sink.faults c.read_event.new.src; reached = g.W.Wire.reached c.read_event.new.src; reach_faults = g.W.Wire.reach_faults c.read_event.new.src } in
    let same = kept_first _ _ _ _ _ _ _ _ c.read_event.ensures.kept (g.met.W.Wire.beside_source c.args.wire.now) (g.met.W.Wire.beside_source c.read_event.new.src) in
    let n = count_written (g.W.Source.kept c.args.wire.now) in
    rw (g.met.W.Wire.state_tells c.args.wire.now, g.met.W.Wire.state_tells c.read_event.new.src)
    (read_ended (g.H.Servable.host c.args.host.now) s t n (λ k. stamped_told _ _ _ _ _ _ k (g.met.W.Wire.beside_source c.args.wire.now)) same (λ events. g.H.Servable.Follows c.args.host.now events c.args.host.now) (g.met.H.Servable.stays c.args.host.now) c.in-Err.end c.in-Err.ensures.reads)

pub returns-in_default-clause-ends : goal.returns-in_default-clause-ends
returns-in_default-clause-ends g c =
    let s : WireState = record { left = g.W.Source.left c.args.wire.now; taken_at = g.W.Source.taken_at c.args.wire.now; read_faults = g.W.Source.faults c.args.wire.now; written = g.W.Sink.written c.args.wire.now; write_faults = g.W.Sink.faults c.args.wire.now; reached = g.W.Wire.reached c.args.wire.now; reach_faults = g.W.Wire.reach_faults c.args.wire.now } in
    let t : WireState = record { left = g.W.Source.left c.read_event.new.src; taken_at = g.W.Source.taken_at c.read_event.new.src; read_faults = g.W.Source.faults c.read_event.new.src; written = g.W.Sink.written c.read_event.new.src; write_faults = g.W.Sink.faults c.read_event.new.src; reached = g.W.Wire.reached c.read_event.new.src; reach_faults = g.W.Wire.reach_faults c.read_event.new.src } in
    let same = kept_first _ _ _ _ _ _ _ _ c.read_event.ensures.kept (g.met.W.Wire.beside_source c.args.wire.now) (g.met.W.Wire.beside_source c.read_event.new.src) in
    let n = count_written (g.W.Source.kept c.args.wire.now) in
    let reads = c.in-Ok.ensures.reads in
    rw (g.met.W.Wire.state_tells c.args.wire.now, g.met.W.Wire.state_tells c.read_event.new.src)
    (inr (unanswered (g.H.Servable.host c.args.host.now) s t n (λ k. stamped_told _ _ _ _ _ _ k (g.met.W.Wire.beside_source c.args.wire.now)) same c.in-Ok.event reads.0 reads.1 reads.2))

pub returns-clause-goes_on : goal.returns-clause-goes_on
returns-clause-goes_on g c =
    let s : WireState = record { left = g.W.Source.left c.args.wire.now; taken_at = g.W.Source.taken_at c.args.wire.now; read_faults = g.W.Source.faults c.args.wire.now; written = g.W.Sink.written c.args.wire.now; write_faults = g.W.Sink.faults c.args.wire.now; reached = g.W.Wire.reached c.args.wire.now; reach_faults = g.W.Wire.reach_faults c.args.wire.now } in
    let t : WireState = record { left = g.W.Source.left c.read_event.new.src; taken_at = g.W.Source.taken_at c.read_event.new.src; read_faults = g.W.Source.faults c.read_event.new.src; written = g.W.Sink.written c.read_event.new.src; write_faults = g.W.Sink.faults c.read_event.new.src; reached = g.W.Wire.reached c.read_event.new.src; reach_faults = g.W.Wire.reach_faults c.read_event.new.src } in
    let same = kept_first _ _ _ _ _ _ _ _ c.read_event.ensures.kept (g.met.W.Wire.beside_source c.args.wire.now) (g.met.W.Wire.beside_source c.read_event.new.src) in
    let n = count_written (g.W.Source.kept c.args.wire.now) in
    let u : WireState = record { left = g.W.Source.left c.write_notices.new.wire; taken_at = g.W.Source.taken_at c.write_notices.new.wire; read_faults = g.W.Source.faults c.write_notices.new.wire; written = g.W.Sink.written c.write_notices.new.wire; write_faults = g.W.Sink.faults c.write_notices.new.wire; reached = g.W.Wire.reached c.write_notices.new.wire; reach_faults = g.W.Wire.reach_faults c.write_notices.new.wire } in
    let left = kept_first _ _ _ _ _ _ _ _ c.write_notices.ensures.kept (g.met.W.Wire.beside_sink c.read_event.new.src) (g.met.W.Wire.beside_sink c.write_notices.new.wire) in
    let taken_at = kept_third _ _ _ _ _ _ _ _ _ _ c.write_notices.ensures.kept (g.met.W.Wire.beside_sink c.read_event.new.src) (g.met.W.Wire.beside_sink c.write_notices.new.wire) in
    let reads = c.in-Ok.ensures.reads in
    let h = (g.H.Servable.host c.args.host.now) in
    let h' = (g.H.Servable.host c.event.new.self) in
    rw (g.met.W.Wire.state_tells c.args.wire.now, g.met.W.Wire.state_tells c.write_notices.new.wire)
    (no_error c.write_notices.result c.err.result _ _ c.err.ensures.value c.write_notices.ensures.put
    (λ put. answered_whole h s t n (λ k. stamped_told _ _ _ _ _ _ k (g.met.W.Wire.beside_source c.args.wire.now)) same u left taken_at c.in-Ok.event reads.0 reads.1 reads.2 c.in-Ok-event.told.items c.in-Ok-event.ensures.own
    (λ events. g.H.Servable.Follows c.args.host.now events c.event.new.self) c.in-Ok-event.ensures.followed h' c.in-Ok-event.ensures.stands (same_plays h h' c.event.ensures.code c.event.ensures.init c.event.ensures.seed)
    (subst (λ ns. Put t.written u.written (out ns)) c.deref.ensures.value put)))

pub returns-clause-ends : goal.returns-clause-ends
returns-clause-ends g c =
    let s : WireState = record { left = g.W.Source.left c.args.wire.now; taken_at = g.W.Source.taken_at c.args.wire.now; read_faults = g.W.Source.faults c.args.wire.now; written = g.W.Sink.written c.args.wire.now; write_faults = g.W.Sink.faults c.args.wire.now; reached = g.W.Wire.reached c.args.wire.now; reach_faults = g.W.Wire.reach_faults c.args.wire.now } in
    let t : WireState = record { left = g.W.Source.left c.read_event.new.src; taken_at = g.W.Source.taken_at c.read_event.new.src; read_faults = g.W.Source.faults c.read_event.new.src; written = g.W.Sink.written c.read_event.new.src; write_faults = g.W.Sink.faults c.read_event.new.src; reached = g.W.Wire.reached c.read_event.new.src; reach_faults = g.W.Wire.reach_faults c.read_event.new.src } in
    let same = kept_first _ _ _ _ _ _ _ _ c.read_event.ensures.kept (g.met.W.Wire.beside_source c.args.wire.now) (g.met.W.Wire.beside_source c.read_event.new.src) in
    let n = count_written (g.W.Source.kept c.args.wire.now) in
    let u : WireState = record { left = g.W.Source.left c.write_notices.new.wire; taken_at = g.W.Source.taken_at c.write_notices.new.wire; read_faults = g.W.Source.faults c.write_notices.new.wire; written = g.W.Sink.written c.write_notices.new.wire; write_faults = g.W.Sink.faults c.write_notices.new.wire; reached = g.W.Wire.reached c.write_notices.new.wire; reach_faults = g.W.Wire.reach_faults c.write_notices.new.wire } in
    let left = kept_first _ _ _ _ _ _ _ _ c.write_notices.ensures.kept (g.met.W.Wire.beside_sink c.read_event.new.src) (g.met.W.Wire.beside_sink c.write_notices.new.wire) in
    let taken_at = kept_third _ _ _ _ _ _ _ _ _ _ c.write_notices.ensures.kept (g.met.W.Wire.beside_sink c.read_event.new.src) (g.met.W.Wire.beside_sink c.write_notices.new.wire) in
    let reads = c.in-Ok.ensures.reads in
    let h = (g.H.Servable.host c.args.host.now) in
    rw (g.met.W.Wire.state_tells c.args.wire.now, g.met.W.Wire.state_tells c.write_notices.new.wire)
    (failed_so (λ events. g.H.Servable.Follows c.args.host.now events c.event.new.self) h (g.H.Servable.host c.event.new.self) s u c.write_notices.result c.err.result _ c.err.ensures.value c.write_notices.ensures.failed c.write_notices.ensures.prefix
    (λ put. answered_so h s t n (λ k. stamped_told _ _ _ _ _ _ k (g.met.W.Wire.beside_source c.args.wire.now)) same u left taken_at c.in-Ok.event reads.0 reads.1 reads.2 c.in-Ok-event.told.items c.in-Ok-event.ensures.own
    (λ events. g.H.Servable.Follows c.args.host.now events c.event.new.self) c.in-Ok-event.ensures.followed (g.H.Servable.host c.event.new.self) c.in-Ok-event.ensures.stands
    (subst (λ ns. PutPrefix t.written u.written (out ns)) c.deref.ensures.value put)))
