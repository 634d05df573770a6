use Rattle.std.proofs.Common.{◌≡◌, length, map, ap, ◌∙◌, sym, subst}
use Rattle.std.specs.List.{flat_map}
use Rattle.anb_term.specs.View.{tree_of}
use Rattle.anb_intern.specs.Nodes.{operands_at, AreUnder}
use Rattle.anb_protocol.specs.Views.{plan_event}
use Rattle.anb_compile.specs.Unsent.{labels_of}
use Rattle.anb_reason.specs.Decided.{composes, is_among}
use Rattle.anb_lack.specs.Opened.{comes_out}
use Rattle.anb_lack.specs.Origins.{is_out}
use Rattle.anb_lack.proofs.ComingOut.{put_both}
use Rattle.anb_lack.proofs.listing.come_out.Goals as goal

pub marks-requires : goal.marks-requires
marks-requires c =
    let both = put_both c.put_all.new.pool c.put_all-2.new.pool c.in_ok-brought.ensures.more.0 c.in_ok-had.had.items c.in_ok-brought.brought.items _ _ c.in_ok-brought.ensures.more.1 c.in_ok-had.ensures.under c.in_ok-had.ensures.stored c.in_ok-brought.ensures.under c.in_ok-brought.ensures.stored in
    subst (AreUnder (length c.put_all-2.new.pool)) (sym c.deref-2.ensures.value) both.under

pub flags_at-requires-clause-under : goal.flags_at-requires-clause-under
flags_at-requires-clause-under c =
    let both = put_both c.put_all.new.pool c.put_all-2.new.pool c.in_ok-brought.ensures.more.0 c.in_ok-had.had.items c.in_ok-brought.brought.items _ _ c.in_ok-brought.ensures.more.1 c.in_ok-had.ensures.under c.in_ok-had.ensures.stored c.in_ok-brought.ensures.under c.in_ok-brought.ensures.stored in
    subst (AreUnder (length c.put_all-2.new.pool)) (sym c.deref-8.ensures.value) both.under

pub returns : goal.returns
returns c =
    let p = c.put_all-2.new.pool in
    let S = map tree_of c.args.terms.now in
    let events = map plan_event c.args.events.now in
    let both = put_both c.put_all.new.pool p c.in_ok-brought.ensures.more.0 c.in_ok-had.had.items c.in_ok-brought.brought.items _ _ c.in_ok-brought.ensures.more.1 c.in_ok-had.ensures.under c.in_ok-had.ensures.stored c.in_ok-brought.ensures.under c.in_ok-brought.ensures.stored in
    let labels : operands_at p c.in_ok-brought.brought.items ≡ labels_of events = c.in_ok-brought.ensures.stored ∙ ap (map tree_of) c.deref.ensures.value ∙ c.in_ok-labels.ensures in
    let listed = c.in_ok-listed.ensures ∙ ap (λ l. map (is_among l) p) (ap (operands_at p) c.deref-2.ensures.value ∙ both.are) in
    let composing = c.in_ok-composing.ensures S (c.deref-3.ensures.value ∙ listed) in
    let out = c.in_ok-out.ensures.out (composes S) (c.deref-4.ensures.value ∙ composing) ∙ ap (flat_map (comes_out (composes S))) (ap (operands_at p) c.deref-5.ensures.value ∙ labels) in
    let marked = c.in_ok-marks.ensures ∙ ap (λ l. map (is_among l) p) (ap (operands_at p) c.deref-6.ensures.value ∙ out) in
    c.in_ok-flags.ensures (is_out S events) (c.deref-7.ensures.value ∙ marked) ∙ ap (map (is_out S events)) (ap (operands_at p) c.deref-8.ensures.value ∙ both.are)
