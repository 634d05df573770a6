use Rattle.std.proofs.Common.{◌∙◌, sym, subst}
use Rattle.anb_base.specs.Moves.{Put, PutPrefix}
use Rattle.anb_base.proofs.Moving.{kept_first, kept_third}
use Rattle.anb_session.proofs.Continued.{write_fault}
use Rattle.anb_session.proofs.Faults.{wants_memory, wrote_quietly, failed_writing}
use Rattle.anb_session.proofs.Prompt.{saying_promptly}
use Rattle.anb_session.proofs.send.Goals as goal

pub returns-in-Ok-write_whole-clause-goes_on : goal.returns-in-Ok-write_whole-clause-goes_on
returns-in-Ok-write_whole-clause-goes_on g c =
    let left = kept_first _ _ _ _ _ _ _ _ c.write_whole.ensures.kept (g.met.W.Wire.beside_sink c.args.wire.now) (g.met.W.Wire.beside_sink c.write_whole.new.snk) in
    let taken_at = kept_third _ _ _ _ _ _ _ _ _ _ c.write_whole.ensures.kept (g.met.W.Wire.beside_sink c.args.wire.now) (g.met.W.Wire.beside_sink c.write_whole.new.snk) in
    let put = subst (Put (g.W.Sink.written c.args.wire.now) (g.W.Sink.written c.write_whole.new.snk)) (c.as_slice.ensures ∙ c.in-Ok.ensures) c.in-Ok-write_whole.ensures.put in
    rw (g.met.W.Wire.state_tells c.args.wire.now, g.met.W.Wire.state_tells c.write_whole.new.snk)
    (saying_promptly _ _ c.args.message.now put (record { left = left; taken_at = taken_at }))

pub returns-in-Ok-write_whole-clause-quiet : goal.returns-in-Ok-write_whole-clause-quiet
returns-in-Ok-write_whole-clause-quiet g c =
    wrote_quietly _ _ _ _ _ _ _ _ _ _ _ _ _ _ _ _ (g.met.W.Wire.state_tells c.args.wire.now) (g.met.W.Wire.state_tells c.write_whole.new.snk)
    (sym (g.met.W.Wire.beside_sink c.write_whole.new.snk) ∙ c.write_whole.ensures.kept ∙ g.met.W.Wire.beside_sink c.args.wire.now) c.in-Ok-write_whole.ensures.quiet

pub returns-clause-ends : goal.returns-clause-ends
returns-clause-ends g c =
    let put = subst (PutPrefix (g.W.Sink.written c.args.wire.now) (g.W.Sink.written c.write_whole.new.snk)) (c.as_slice.ensures ∙ c.in-Ok.ensures) c.in-Err.ensures.failed in
    write_fault c.args.message.now (g.W.Source.left c.args.wire.now) (g.W.Source.left c.write_whole.new.snk) (g.W.Sink.written c.args.wire.now) (g.W.Sink.written c.write_whole.new.snk) put

pub returns-clause-faults : goal.returns-clause-faults
returns-clause-faults g c =
    failed_writing _ _ _ _ _ _ _ _ _ _ _ _ _ _ _ _ (g.met.W.Wire.state_tells c.args.wire.now) (g.met.W.Wire.state_tells c.write_whole.new.snk)
    (sym (g.met.W.Wire.beside_sink c.write_whole.new.snk) ∙ c.write_whole.ensures.kept ∙ g.met.W.Wire.beside_sink c.args.wire.now) c.in-Err.ensures.cause c.write_whole.ensures.never_falls

pub returns-in_default-clause-faults : goal.returns-in_default-clause-faults
returns-in_default-clause-faults g c = wants_memory (g.W.Wire.state c.args.wire.now)
