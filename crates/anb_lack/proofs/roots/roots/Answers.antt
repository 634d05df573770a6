use Rattle.std.proofs.Common.{length, map, ap, ◌∙◌, sym, subst}
use Rattle.std.specs.List.{flat_map}
use Rattle.anb_term.specs.View.{tree_of}
use Rattle.anb_intern.specs.Nodes.{operands_at, AreUnder}
use Rattle.anb_protocol.specs.Views.{plan_event}
use Rattle.anb_reason.specs.Decided.{is_among}
use Rattle.anb_lack.specs.Rooted.{locked_values}
use Rattle.anb_lack.specs.Roots.{root_in}
use Rattle.anb_lack.proofs.ComingOut.{put_both, put_three}
use Rattle.anb_lack.proofs.roots.roots.Goals as goal

pub marks-requires : goal.marks-requires
marks-requires c =
    let p = c.put_all-3.new.pool in
    let both = put_both c.put_all.new.pool c.put_all-2.new.pool c.in_ok-labels.ensures.more.0 c.in_ok-had.had.items c.in_ok-labels.labels.items _ _ c.in_ok-labels.ensures.more.1 c.in_ok-had.ensures.under c.in_ok-had.ensures.stored c.in_ok-labels.ensures.under c.in_ok-labels.ensures.stored in
    let all = put_three c.put_all-2.new.pool p c.in_ok-wanted.ensures.more.0 _ _ c.in_ok-wanted.wanted.items _ _ _ c.in_ok-wanted.ensures.more.1 both c.in_ok-wanted.ensures.under c.in_ok-wanted.ensures.stored in
    subst (AreUnder (length p)) (sym c.deref-2.ensures.value) all.under

pub locks-requires-clause-under : goal.locks-requires-clause-under
locks-requires-clause-under c =
    let p = c.put_all-3.new.pool in
    let both = put_both c.put_all.new.pool c.put_all-2.new.pool c.in_ok-labels.ensures.more.0 c.in_ok-had.had.items c.in_ok-labels.labels.items _ _ c.in_ok-labels.ensures.more.1 c.in_ok-had.ensures.under c.in_ok-had.ensures.stored c.in_ok-labels.ensures.under c.in_ok-labels.ensures.stored in
    let all = put_three c.put_all-2.new.pool p c.in_ok-wanted.ensures.more.0 _ _ c.in_ok-wanted.wanted.items _ _ _ c.in_ok-wanted.ensures.more.1 both c.in_ok-wanted.ensures.under c.in_ok-wanted.ensures.stored in
    subst (AreUnder (length p)) (sym c.deref-5.ensures.value) all.under_other

pub locks-requires-clause-labels : goal.locks-requires-clause-labels
locks-requires-clause-labels c =
    let p = c.put_all-3.new.pool in
    let both = put_both c.put_all.new.pool c.put_all-2.new.pool c.in_ok-labels.ensures.more.0 c.in_ok-had.had.items c.in_ok-labels.labels.items _ _ c.in_ok-labels.ensures.more.1 c.in_ok-had.ensures.under c.in_ok-had.ensures.stored c.in_ok-labels.ensures.under c.in_ok-labels.ensures.stored in
    let all = put_three c.put_all-2.new.pool p c.in_ok-wanted.ensures.more.0 _ _ c.in_ok-wanted.wanted.items _ _ _ c.in_ok-wanted.ensures.more.1 both c.in_ok-wanted.ensures.under c.in_ok-wanted.ensures.stored in
    ap (operands_at p) c.deref-5.ensures.value ∙ all.others_are ∙ ap (map tree_of) c.deref.ensures.value ∙ c.in_ok-brought.ensures

pub returns : goal.returns
returns c =
    let p = c.put_all-3.new.pool in
    let S = map tree_of c.args.terms.now in
    let plan = map plan_event c.args.events.now in
    let both = put_both c.put_all.new.pool c.put_all-2.new.pool c.in_ok-labels.ensures.more.0 c.in_ok-had.had.items c.in_ok-labels.labels.items _ _ c.in_ok-labels.ensures.more.1 c.in_ok-had.ensures.under c.in_ok-had.ensures.stored c.in_ok-labels.ensures.under c.in_ok-labels.ensures.stored in
    let all = put_three c.put_all-2.new.pool p c.in_ok-wanted.ensures.more.0 _ _ c.in_ok-wanted.wanted.items _ _ _ c.in_ok-wanted.ensures.more.1 both c.in_ok-wanted.ensures.under c.in_ok-wanted.ensures.stored in
    let marked = c.in_ok-marks.ensures ∙ ap (λ l. map (is_among l) p) (ap (operands_at p) c.deref-2.ensures.value ∙ all.are) in
    let composing = c.in_ok-composing.ensures S (c.deref-3.ensures.value ∙ marked) in
    let locked = c.in_ok-locks.ensures.locks S (c.deref-4.ensures.value ∙ composing) in
    c.in_ok-all.ensures ∙ ap (λ ls. flat_map (root_in ls) (map tree_of c.args.parts.now)) (ap locked_values c.deref-6.ensures.value ∙ locked)
