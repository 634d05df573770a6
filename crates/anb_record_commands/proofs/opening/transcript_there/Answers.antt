use Rattle.std.proofs.Common.{arith, ◌∙◌, subst}
use Rattle.anb_recording.specs.Journals.{IsAbsent}
use Rattle.anb_record_commands.proofs.Hosted.{absent_further}
use Rattle.anb_record_commands.proofs.opening.transcript_there.Goals as goal

pub loop-session-init : goal.loop-session-init
loop-session-init g c = record { none = λ session below. absurd (omega (arith, below)) }

pub loop-session-preserved : goal.loop-session-preserved
loop-session-preserved g c =
    let store = g.J.Store.state c.args.journal.now in
    record {
      none = absent_further c.args.folder.now store c.loop-session.session c.loop-session.invariant.none (subst (IsAbsent store) (c.as_str.ensures ∙ c.in_ok-name.ensures) (c.has.ensures.absent c.if-has.false));
    }

pub returns-clause-none : goal.returns-clause-none
returns-clause-none g c = λ session below. c.loop-session.invariant.none session (omega (arith, below, c.loop-session-test.false))
