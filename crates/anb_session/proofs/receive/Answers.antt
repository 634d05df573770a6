use Rattle.std.proofs.Common.{Ok, ap, sym, ◌∙◌}
use Rattle.anb_base.proofs.Moving.{kept_first, stamped_told}
use Rattle.anb_session.proofs.Continued.{read_fault}
use Rattle.anb_session.proofs.Faults.{ends_quietly, read_quietly, failed_reading}
use Rattle.anb_session.proofs.Prompt.{received_in_time, waited_in_time}
use Rattle.anb_session.proofs.receive.Goals as goal

pub returns-in-Err-Failed-clause-ends : goal.returns-in-Err-Failed-clause-ends
returns-in-Err-Failed-clause-ends g c =
    let failed = c.in-Err-Failed.ensures in
    let same = kept_first _ _ _ _ _ _ _ _ failed.kept (g.met.W.Wire.beside_source c.args.wire.now) (g.met.W.Wire.beside_source c.take.new.src) in
    read_fault c.args.event _ _ (g.W.Source.left c.args.wire.now) (g.W.Source.left c.take.new.src) _ _ (g.W.Sink.written c.args.wire.now) (g.W.Sink.written c.take.new.src) c.take.new.buf
    c.in-Err-Failed.field-0 c.requires c.in-Err-Failed.field-0-is same failed.takes

pub returns-in-Ok-clause-goes_on : goal.returns-in-Ok-clause-goes_on
returns-in-Ok-clause-goes_on g c =
    let same = kept_first _ _ _ _ _ _ _ _ c.take.ensures.kept (g.met.W.Wire.beside_source c.args.wire.now) (g.met.W.Wire.beside_source c.take.new.src) in
    let whole = c.in-Ok-Frame.is ∙ ap Ok c.in-Ok-Frame.field-0-is in
    let arrival = c.new.ensures ∙ c.in-Ok.ensures.items in
    rw (arrival, g.met.W.Wire.state_tells c.args.wire.now, g.met.W.Wire.state_tells c.take.new.src)
    (received_in_time _ _ c.args.event _ _ c.take.new.buf c.requires same (λ k. stamped_told _ _ _ _ _ _ k (g.met.W.Wire.beside_source c.args.wire.now)) c.in-Ok-Frame.n c.take.result whole c.take.ensures.takes)

pub returns-in-Err-clause-prompt : goal.returns-in-Err-clause-prompt
returns-in-Err-clause-prompt g c =
    let same = kept_first _ _ _ _ _ _ _ _ c.take.ensures.kept (g.met.W.Wire.beside_source c.args.wire.now) (g.met.W.Wire.beside_source c.take.new.src) in
    rw (g.met.W.Wire.state_tells c.args.wire.now, g.met.W.Wire.state_tells c.take.new.src)
    (waited_in_time _ _ c.args.event _ _ c.take.new.buf c.requires same (λ k. stamped_told _ _ _ _ _ _ k (g.met.W.Wire.beside_source c.args.wire.now)) c.take.result c.take.ensures.takes)

pub returns-in-Ok-End-clause-prompt : goal.returns-in-Ok-End-clause-prompt
returns-in-Ok-End-clause-prompt g c =
    let same = kept_first _ _ _ _ _ _ _ _ c.take.ensures.kept (g.met.W.Wire.beside_source c.args.wire.now) (g.met.W.Wire.beside_source c.take.new.src) in
    rw (g.met.W.Wire.state_tells c.args.wire.now, g.met.W.Wire.state_tells c.take.new.src)
    (waited_in_time _ _ c.args.event _ _ c.take.new.buf c.requires same (λ k. stamped_told _ _ _ _ _ _ k (g.met.W.Wire.beside_source c.args.wire.now)) c.take.result c.take.ensures.takes)

pub returns-in-Err-Truncated-clause-prompt : goal.returns-in-Err-Truncated-clause-prompt
returns-in-Err-Truncated-clause-prompt g c =
    let same = kept_first _ _ _ _ _ _ _ _ c.take.ensures.kept (g.met.W.Wire.beside_source c.args.wire.now) (g.met.W.Wire.beside_source c.take.new.src) in
    rw (g.met.W.Wire.state_tells c.args.wire.now, g.met.W.Wire.state_tells c.take.new.src)
    (waited_in_time _ _ c.args.event _ _ c.take.new.buf c.requires same (λ k. stamped_told _ _ _ _ _ _ k (g.met.W.Wire.beside_source c.args.wire.now)) c.take.result c.take.ensures.takes)

pub returns-in-Err-TooLarge-clause-prompt : goal.returns-in-Err-TooLarge-clause-prompt
returns-in-Err-TooLarge-clause-prompt g c =
    let same = kept_first _ _ _ _ _ _ _ _ c.take.ensures.kept (g.met.W.Wire.beside_source c.args.wire.now) (g.met.W.Wire.beside_source c.take.new.src) in
    rw (g.met.W.Wire.state_tells c.args.wire.now, g.met.W.Wire.state_tells c.take.new.src)
    (waited_in_time _ _ c.args.event _ _ c.take.new.buf c.requires same (λ k. stamped_told _ _ _ _ _ _ k (g.met.W.Wire.beside_source c.args.wire.now)) c.take.result c.take.ensures.takes)

pub returns-in-Err-Failed-clause-prompt : goal.returns-in-Err-Failed-clause-prompt
returns-in-Err-Failed-clause-prompt g c =
    let same = kept_first _ _ _ _ _ _ _ _ c.take.ensures.kept (g.met.W.Wire.beside_source c.args.wire.now) (g.met.W.Wire.beside_source c.take.new.src) in
    rw (g.met.W.Wire.state_tells c.args.wire.now, g.met.W.Wire.state_tells c.take.new.src)
    (waited_in_time _ _ c.args.event _ _ c.take.new.buf c.requires same (λ k. stamped_told _ _ _ _ _ _ k (g.met.W.Wire.beside_source c.args.wire.now)) c.take.result c.take.ensures.takes)

-- ---- faults

pub returns-in-Ok-clause-quiet : goal.returns-in-Ok-clause-quiet
returns-in-Ok-clause-quiet g c =
    read_quietly _ _ _ _ _ _ _ _ _ _ _ _ _ _ _ _ (g.met.W.Wire.state_tells c.args.wire.now) (g.met.W.Wire.state_tells c.take.new.src)
    (sym (g.met.W.Wire.beside_source c.take.new.src) ∙ c.take.ensures.kept ∙ g.met.W.Wire.beside_source c.args.wire.now) c.in-Ok-Frame.ensures.quiet

pub returns-in-Err-clause-faults : goal.returns-in-Err-clause-faults
returns-in-Err-clause-faults g c =
    let quiet = read_quietly _ _ _ _ _ _ _ _ _ _ _ _ _ _ _ _ (g.met.W.Wire.state_tells c.args.wire.now) (g.met.W.Wire.state_tells c.take.new.src)
    (sym (g.met.W.Wire.beside_source c.take.new.src) ∙ c.take.ensures.kept ∙ g.met.W.Wire.beside_source c.args.wire.now) c.in-Ok-Frame.ensures.quiet in
    ends_quietly _ _ _ quiet (λ is. cc) (λ is. cc)

pub returns-in-Ok-End-clause-faults : goal.returns-in-Ok-End-clause-faults
returns-in-Ok-End-clause-faults g c =
    let quiet = read_quietly _ _ _ _ _ _ _ _ _ _ _ _ _ _ _ _ (g.met.W.Wire.state_tells c.args.wire.now) (g.met.W.Wire.state_tells c.take.new.src)
    (sym (g.met.W.Wire.beside_source c.take.new.src) ∙ c.take.ensures.kept ∙ g.met.W.Wire.beside_source c.args.wire.now) c.in-Ok-End.ensures.quiet in
    ends_quietly _ _ _ quiet (λ is. cc) (λ is. cc)

pub returns-in-Err-Truncated-clause-faults : goal.returns-in-Err-Truncated-clause-faults
returns-in-Err-Truncated-clause-faults g c =
    let quiet = read_quietly _ _ _ _ _ _ _ _ _ _ _ _ _ _ _ _ (g.met.W.Wire.state_tells c.args.wire.now) (g.met.W.Wire.state_tells c.take.new.src)
    (sym (g.met.W.Wire.beside_source c.take.new.src) ∙ c.take.ensures.kept ∙ g.met.W.Wire.beside_source c.args.wire.now) (rw c.in-Err-Truncated.field-0-is at c.in-Err-Truncated.ensures.quiet) in
    ends_quietly _ _ _ quiet (λ is. cc) (λ is. cc)

pub returns-in-Err-TooLarge-clause-faults : goal.returns-in-Err-TooLarge-clause-faults
returns-in-Err-TooLarge-clause-faults g c =
    let quiet = read_quietly _ _ _ _ _ _ _ _ _ _ _ _ _ _ _ _ (g.met.W.Wire.state_tells c.args.wire.now) (g.met.W.Wire.state_tells c.take.new.src)
    (sym (g.met.W.Wire.beside_source c.take.new.src) ∙ c.take.ensures.kept ∙ g.met.W.Wire.beside_source c.args.wire.now) (rw c.in-Err-TooLarge.field-0-is at c.in-Err-TooLarge.ensures.quiet) in
    ends_quietly _ _ _ quiet (λ is. cc) (λ is. cc)

pub returns-in-Err-Failed-clause-faults : goal.returns-in-Err-Failed-clause-faults
returns-in-Err-Failed-clause-faults g c =
    failed_reading _ _ _ _ _ _ _ _ _ _ _ _ _ _ _ _ (g.met.W.Wire.state_tells c.args.wire.now) (g.met.W.Wire.state_tells c.take.new.src)
    (sym (g.met.W.Wire.beside_source c.take.new.src) ∙ c.take.ensures.kept ∙ g.met.W.Wire.beside_source c.args.wire.now) (rw c.in-Err-Failed.field-0-is at c.in-Err-Failed.ensures.cause) c.take.ensures.never_falls
