use Rattle.std.proofs.Common.{◌≡◌, ◌∙◌}
use Rattle.std.specs.Prelude.{decimal}
use Rattle.anb_term.specs.View.{tree_of}
use Rattle.anb_protocol.specs.Texts.{term_text}
use Rattle.anb_chart.specs.Charts.{participant}
use Rattle.anb_chart.proofs.Lines.{arrow_put}
use Rattle.anb_chart.proofs.charting.put_arrow.Goals as goal

pub returns : goal.returns
returns c =
    let p = c.args.protocol.now in
    let a = c.args.action.now in
    let digits : c.as_bytes.result.now ≡ decimal c.args.number = c.as_bytes.ensures.value ∙ c.format.ensures.text in
    let text : c.as_bytes-2.result.now ≡ term_text p (tree_of a.message) = c.as_bytes-2.ensures.value ∙ c.as_str.ensures ∙ c.in_ok-text.ensures in
    let whole = arrow_put c.args.out.now.items (participant p a.from) (participant p a.to) (decimal c.args.number) (term_text p (tree_of a.message)) in
    rw (
      c.in_ok-push-2.ensures.items,
      c.in_ok-extend_from_slice-5.ensures.items,
      text,
      c.in_ok-push.ensures.items,
      c.in_ok-extend_from_slice-4.ensures.items,
      digits,
      c.in_ok-extend_from_slice-3.ensures.items,
      c.in_ok-put_participant-2.ensures,
      c.in_ok-extend_from_slice-2.ensures.items,
      c.in_ok-put_participant.ensures,
      c.in_ok-extend_from_slice.ensures.items,
    ) whole
