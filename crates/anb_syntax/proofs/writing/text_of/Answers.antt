use Rattle.std.proofs.Common.{◌∙◌}
use Rattle.anb_syntax.specs.Views.{narration_of}
use Rattle.anb_syntax.proofs.Laying.{behind, canon_parts}
use Rattle.anb_syntax.proofs.writing.text_of.Goals as goal

pub returns : goal.returns
returns c =
    let n = narration_of c.args.n.now in
    let e1 = behind _ _ _ _ c.in_ok-put_name.ensures (behind _ _ _ _ c.in_ok-extend_from_slice.ensures.items c.new-out.ensures.items) in
    let e2 = behind _ _ _ _ c.in_ok-put_suite.ensures (behind _ _ _ _ c.in_ok-extend_from_slice-2.ensures.items e1) in
    let e3 = behind _ _ _ _ c.in_ok-put_types.ensures (behind _ _ _ _ c.in_ok-extend_from_slice-3.ensures.items e2) in
    let e4 = behind _ _ _ _ c.in_ok-put_knows.ensures (behind _ _ _ _ c.in_ok-put_formats.ensures e3) in
    let e5 = behind _ _ _ _ c.in_ok-put_actions.ensures (behind _ _ _ _ c.in_ok-extend_from_slice-4.ensures.items e4) in
    let e6 = behind _ _ _ _ c.in_ok-extend_from_slice-5.ensures.items e5 in
    c.new.ensures ∙ e6 ∙ canon_parts n
