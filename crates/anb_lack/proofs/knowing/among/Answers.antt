use Rattle.std.proofs.Common.{length, map, ap, ◌∙◌, sym, subst}
use Rattle.anb_term.specs.View.{tree_of}
use Rattle.anb_intern.specs.Nodes.{operands_at, AreUnder}
use Rattle.anb_reason.specs.Decided.{is_among}
use Rattle.anb_lack.proofs.ComingOut.{put_both}
use Rattle.anb_lack.proofs.knowing.among.Goals as goal

pub marks-requires : goal.marks-requires
marks-requires c =
    let both = put_both c.put_all.new.pool c.put_all-2.new.pool c.in_ok-asked.ensures.more.0 c.in_ok-listed.listed.items c.in_ok-asked.asked.items _ _ c.in_ok-asked.ensures.more.1 c.in_ok-listed.ensures.under c.in_ok-listed.ensures.stored c.in_ok-asked.ensures.under c.in_ok-asked.ensures.stored in
    subst (AreUnder (length c.put_all-2.new.pool)) (sym c.deref.ensures.value) both.under

pub returns : goal.returns
returns c =
    let p = c.put_all-2.new.pool in
    let S = map tree_of c.args.terms.now in
    let both = put_both c.put_all.new.pool p c.in_ok-asked.ensures.more.0 c.in_ok-listed.listed.items c.in_ok-asked.asked.items _ _ c.in_ok-asked.ensures.more.1 c.in_ok-listed.ensures.under c.in_ok-listed.ensures.stored c.in_ok-asked.ensures.under c.in_ok-asked.ensures.stored in
    let marked = c.in_ok-marks.ensures ∙ ap (λ l. map (is_among l) p) (ap (operands_at p) c.deref.ensures.value ∙ both.are) in
    c.in_ok-flags.ensures (is_among S) (c.deref-2.ensures.value ∙ marked) ∙ ap (map (is_among S)) (ap (operands_at p) c.deref-3.ensures.value ∙ both.others_are)
