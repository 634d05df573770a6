use Rattle.std.proofs.Common.{map, sym, ◌∙◌}
use Rattle.anb_protocol.specs.Views.{action_value}
use Rattle.anb_report.proofs.Lines.{repeated_put}
use Rattle.anb_report.proofs.remarks.put_repeated.Goals as goal

pub returns : goal.returns
returns c =
    let actions = map action_value c.args.actions.now in
    let whole = repeated_put actions c.args.out.now.items c.args.i (sym c.is_repeated.ensures ∙ c.if-not-is_repeated.false) in
    rw (
      c.in_ok-push.ensures.items,
      c.in_ok-extend_from_slice-3.ensures.items,
      c.in_ok-put_number-2.ensures,
      c.in_ok-extend_from_slice-2.ensures.items,
      c.in_ok-put_number.ensures,
      c.in_ok-extend_from_slice.ensures.items,
    ) whole
