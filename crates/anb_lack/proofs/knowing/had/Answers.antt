use Rattle.std.proofs.Common.{length, map, ap, ◌∙◌, sym, subst}
use Rattle.std.specs.List.{flat_map}
use Rattle.anb_term.specs.View.{tree_of}
use Rattle.anb_intern.specs.Nodes.{operands_at, AreUnder}
use Rattle.anb_reason.specs.Decided.{composes, is_among}
use Rattle.anb_lack.specs.Opened.{comes_out, opened}
use Rattle.anb_lack.specs.Roots.{is_had}
use Rattle.anb_lack.proofs.ComingOut.{put_both}
use Rattle.anb_lack.proofs.knowing.had.Goals as goal

pub marks-requires : goal.marks-requires
marks-requires c =
    let both = put_both c.put_all.new.pool c.put_all-2.new.pool c.in_ok-asked.ensures.more.0 c.in_ok-known.known.items c.in_ok-asked.asked.items _ _ c.in_ok-asked.ensures.more.1 c.in_ok-known.ensures.under c.in_ok-known.ensures.stored c.in_ok-asked.ensures.under c.in_ok-asked.ensures.stored in
    subst (AreUnder (length c.put_all-2.new.pool)) (sym c.deref.ensures.value) both.under

pub opened-requires-clause-under : goal.opened-requires-clause-under
opened-requires-clause-under c =
    let both = put_both c.put_all.new.pool c.put_all-2.new.pool c.in_ok-asked.ensures.more.0 c.in_ok-known.known.items c.in_ok-asked.asked.items _ _ c.in_ok-asked.ensures.more.1 c.in_ok-known.ensures.under c.in_ok-known.ensures.stored c.in_ok-asked.ensures.under c.in_ok-asked.ensures.stored in
    subst (AreUnder (length c.put_all-2.new.pool)) (sym c.deref-4.ensures.value) both.under

pub returns : goal.returns
returns c =
    let p = c.put_all-2.new.pool in
    let S = map tree_of c.args.terms.now in
    let both = put_both c.put_all.new.pool p c.in_ok-asked.ensures.more.0 c.in_ok-known.known.items c.in_ok-asked.asked.items _ _ c.in_ok-asked.ensures.more.1 c.in_ok-known.ensures.under c.in_ok-known.ensures.stored c.in_ok-asked.ensures.under c.in_ok-asked.ensures.stored in
    let listed = c.in_ok-listed.ensures ∙ ap (λ l. map (is_among l) p) (ap (operands_at p) c.deref.ensures.value ∙ both.are) in
    let first = c.in_ok-composing_at_first.ensures S (c.deref-2.ensures.value ∙ listed) in
    let out = c.in_ok-out.ensures.out (composes S) (c.deref-3.ensures.value ∙ first) ∙ ap (flat_map (comes_out (composes S))) (ap (operands_at p) c.deref-4.ensures.value ∙ both.are) in
    let marked = c.in_ok-had.ensures ∙ ap (λ l. map (is_among l) p) (ap (operands_at p) c.deref-5.ensures.value ∙ out) in
    let then = c.in_ok-composing_then.ensures (opened S S) (c.deref-6.ensures.value ∙ marked) in
    c.in_ok-flags.ensures (is_had S) (c.deref-7.ensures.value ∙ then) ∙ ap (map (is_had S)) (ap (operands_at p) c.deref-8.ensures.value ∙ both.others_are)
