use Rattle.anb_host_recording.proofs.Putting.{next_plain, next_put}
use Rattle.anb_host_recording.proofs.lines.put_messages.Goals as goal

pub loop-notice-preserved : goal.loop-notice-preserved
loop-notice-preserved c =
    let was = c.loop-notice.invariant in
    record {
      put = next_put c.args.told.now c.loop-notice.notice-index c.notice-item.result c.loop-notice-test.true c.notice-item.is _ _ _ was.put c.in_ok-put_message.ensures.put;
      plain = next_plain c.args.told.now c.loop-notice.notice-index c.notice-item.result c.loop-notice-test.true c.notice-item.is was.plain c.put_message.ensures.plain;
    }
