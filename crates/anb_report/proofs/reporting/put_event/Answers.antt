use Rattle.std.proofs.Common.{◌≡◌, ◌∙◌}
use Rattle.std.specs.Prelude.{decimal}
use Rattle.anb_term.specs.View.{tree_of}
use Rattle.anb_protocol.specs.Texts.{term_text}
use Rattle.anb_protocol.specs.Views.{action_value}
use Rattle.anb_report.specs.Reporting.{new_for, peer}
use Rattle.anb_report.proofs.Lines.{event_put}
use Rattle.anb_report.proofs.reporting.put_event.Goals as goal

pub returns : goal.returns
returns c =
    let p = c.args.protocol.now in
    let a = action_value c.args.action.now in
    let text : c.as_bytes.result.now ≡ term_text p (tree_of c.args.action.now.message) = c.as_bytes.ensures.value ∙ c.as_str.ensures ∙ c.in_ok-text.ensures in
    let whole = event_put c.args.out.now.items (decimal c.args.event) (decimal c.args.number) (peer p c.args.role a) (term_text p (tree_of c.args.action.now.message)) (new_for c.args.role a c.args.names.now) in
    rw (
      c.in_ok-push.ensures.items,
      c.in_ok-put_new_for.ensures,
      c.in_ok-extend_from_slice-5.ensures.items,
      text,
      c.in_ok-extend_from_slice-4.ensures.items,
      c.in_ok-put_peer.ensures,
      c.in_ok-extend_from_slice-3.ensures.items,
      c.in_ok-put_number-2.ensures,
      c.in_ok-extend_from_slice-2.ensures.items,
      c.in_ok-put_number.ensures,
      c.in_ok-extend_from_slice.ensures.items,
    ) whole
