use Rattle.std.proofs.Common.{◌≡◌, length, arith, sym, ap, ◌∙◌, map, subst}
use Rattle.std.specs.Prelude.{not}
use Rattle.std.specs.List.{list_all}
use Rattle.std.proofs.lemmas.List.{length-map}
use Rattle.anb_lemmas.proofs.Lists.{got_within}
use Rattle.anb_term.specs.View.{tree_of}
use Rattle.anb_intern.specs.Nodes.{operands_at, AreUnder}
use Rattle.anb_reason.specs.Decided.{is_among, composes, parts_in}
use Rattle.anb_reason.proofs.Deciding.{no_labels, no_parts, by_term}
use Rattle.anb_reason.proofs.Flagging.{pooled, marks_are, labels_flagged, flag_of}
use Rattle.anb_reason.proofs.shut_lists.is_shut.Goals as goal

pub marks-requires : goal.marks-requires
marks-requires c =
    let frame = map tree_of c.args.frame.now in
    let list = map tree_of c.args.list.now in
    let p = c.put_term.new.self in
    let held = c.in_ok-held.held.items in
    let labels = c.in_ok-labels.labels.items in
    let q = pooled frame list c.put_all.new.pool c.put_all-2.new.pool p c.in_ok-labels.ensures.more.0 c.in_ok-target.ensures.more.more held labels c.in_ok-labels.ensures.more.1 c.in_ok-target.ensures.more.is
    c.in_ok-held.ensures.under c.in_ok-held.ensures.stored c.in_ok-labels.ensures.under c.in_ok-labels.ensures.stored in
    subst (AreUnder (length p)) (sym c.deref.ensures.value) q.held_under

pub all_flagged-requires : goal.all_flagged-requires
all_flagged-requires c =
    let frame = map tree_of c.args.frame.now in
    let list = map tree_of c.args.list.now in
    let p = c.put_term.new.self in
    let held = c.in_ok-held.held.items in
    let labels = c.in_ok-labels.labels.items in
    let q = pooled frame list c.put_all.new.pool c.put_all-2.new.pool p c.in_ok-labels.ensures.more.0 c.in_ok-target.ensures.more.more held labels c.in_ok-labels.ensures.more.1 c.in_ok-target.ensures.more.is
    c.in_ok-held.ensures.under c.in_ok-held.ensures.stored c.in_ok-labels.ensures.under c.in_ok-labels.ensures.stored in
    let marks = c.in_ok-marks.marks.items in
    let is = marks_are frame list p held labels q marks c.deref.result.now c.deref.ensures.value c.in_ok-marks.ensures in
    let long : length c.deref-3.result.now ≡ length p = ap length (c.deref-3.ensures.value ∙ is) ∙ length-map p (is_among list) in
    subst (λ n. AreUnder n c.deref-4.result.now) (sym long) (subst (AreUnder (length p)) (sym c.deref-4.ensures.value) q.labels_under)

pub returns-then-not-all_flagged : goal.returns-then-not-all_flagged
returns-then-not-all_flagged c =
    let frame = map tree_of c.args.frame.now in
    let list = map tree_of c.args.list.now in
    let p = c.put_term.new.self in
    let held = c.in_ok-held.held.items in
    let labels = c.in_ok-labels.labels.items in
    let q = pooled frame list c.put_all.new.pool c.put_all-2.new.pool p c.in_ok-labels.ensures.more.0 c.in_ok-target.ensures.more.more held labels c.in_ok-labels.ensures.more.1 c.in_ok-target.ensures.more.is
    c.in_ok-held.ensures.under c.in_ok-held.ensures.stored c.in_ok-labels.ensures.under c.in_ok-labels.ensures.stored in
    let marks = c.in_ok-marks.marks.items in
    let is = marks_are frame list p held labels q marks c.deref.result.now c.deref.ensures.value c.in_ok-marks.ensures in
    no_labels frame list (tree_of c.args.t.now) (labels_flagged frame list p held labels q marks c.all_flagged.result c.deref-3.result.now c.deref-4.result.now is c.deref-3.ensures.value c.deref-4.ensures.value c.all_flagged.ensures ∙ c.if-not-all_flagged.true)

pub are_parted-requires-clause-under : goal.are_parted-requires-clause-under
are_parted-requires-clause-under c =
    let frame = map tree_of c.args.frame.now in
    let list = map tree_of c.args.list.now in
    let p = c.put_term.new.self in
    let held = c.in_ok-held.held.items in
    let labels = c.in_ok-labels.labels.items in
    let q = pooled frame list c.put_all.new.pool c.put_all-2.new.pool p c.in_ok-labels.ensures.more.0 c.in_ok-target.ensures.more.more held labels c.in_ok-labels.ensures.more.1 c.in_ok-target.ensures.more.is
    c.in_ok-held.ensures.under c.in_ok-held.ensures.stored c.in_ok-labels.ensures.under c.in_ok-labels.ensures.stored in
    subst (AreUnder (length p)) (sym c.deref-5.ensures.value) q.held_under

pub returns-then-not-are_parted : goal.returns-then-not-are_parted
returns-then-not-are_parted c =
    let frame = map tree_of c.args.frame.now in
    let list = map tree_of c.args.list.now in
    let p = c.put_term.new.self in
    let held = c.in_ok-held.held.items in
    let labels = c.in_ok-labels.labels.items in
    let q = pooled frame list c.put_all.new.pool c.put_all-2.new.pool p c.in_ok-labels.ensures.more.0 c.in_ok-target.ensures.more.more held labels c.in_ok-labels.ensures.more.1 c.in_ok-target.ensures.more.is
    c.in_ok-held.ensures.under c.in_ok-held.ensures.stored c.in_ok-labels.ensures.under c.in_ok-labels.ensures.stored in
    let marks = c.in_ok-marks.marks.items in
    let is = marks_are frame list p held labels q marks c.deref.result.now c.deref.ensures.value c.in_ok-marks.ensures in
    let composing = c.in_ok-composing.composing.items in
    let made : composing ≡ map (composes list) p = c.in_ok-composing.ensures list (c.deref-2.ensures.value ∙ is) in
    let parted = c.are_parted.ensures list (c.deref-6.ensures.value ∙ is) (c.deref-7.ensures.value ∙ made) ∙ ap (λ l. list_all (parts_in list) (operands_at p l)) c.deref-5.ensures.value ∙ ap (list_all (parts_in list)) q.held_are in
    no_parts frame list (tree_of c.args.t.now) (sym parted ∙ c.if-not-are_parted.true)

pub index-requires : goal.index-requires
index-requires c =
    let frame = map tree_of c.args.frame.now in
    let list = map tree_of c.args.list.now in
    let p = c.put_term.new.self in
    let held = c.in_ok-held.held.items in
    let labels = c.in_ok-labels.labels.items in
    let q = pooled frame list c.put_all.new.pool c.put_all-2.new.pool p c.in_ok-labels.ensures.more.0 c.in_ok-target.ensures.more.more held labels c.in_ok-labels.ensures.more.1 c.in_ok-target.ensures.more.is
    c.in_ok-held.ensures.under c.in_ok-held.ensures.stored c.in_ok-labels.ensures.under c.in_ok-labels.ensures.stored in
    let marks = c.in_ok-marks.marks.items in
    let is = marks_are frame list p held labels q marks c.deref.result.now c.deref.ensures.value c.in_ok-marks.ensures in
    let composing = c.in_ok-composing.composing.items in
    let made : composing ≡ map (composes list) p = c.in_ok-composing.ensures list (c.deref-2.ensures.value ∙ is) in
    omega (arith, got_within p c.in_ok-target.target.0 (tree_of c.args.t.now) c.in_ok-target.ensures.stored, ap length made, length-map p (composes list), c.in_ok-composing.composing.ok.0)

pub returns : goal.returns
returns c =
    let frame = map tree_of c.args.frame.now in
    let list = map tree_of c.args.list.now in
    let p = c.put_term.new.self in
    let held = c.in_ok-held.held.items in
    let labels = c.in_ok-labels.labels.items in
    let q = pooled frame list c.put_all.new.pool c.put_all-2.new.pool p c.in_ok-labels.ensures.more.0 c.in_ok-target.ensures.more.more held labels c.in_ok-labels.ensures.more.1 c.in_ok-target.ensures.more.is
    c.in_ok-held.ensures.under c.in_ok-held.ensures.stored c.in_ok-labels.ensures.under c.in_ok-labels.ensures.stored in
    let marks = c.in_ok-marks.marks.items in
    let is = marks_are frame list p held labels q marks c.deref.result.now c.deref.ensures.value c.in_ok-marks.ensures in
    let composing = c.in_ok-composing.composing.items in
    let made : composing ≡ map (composes list) p = c.in_ok-composing.ensures list (c.deref-2.ensures.value ∙ is) in
    let parted = c.are_parted.ensures list (c.deref-6.ensures.value ∙ is) (c.deref-7.ensures.value ∙ made) ∙ ap (λ l. list_all (parts_in list) (operands_at p l)) c.deref-5.ensures.value ∙ ap (list_all (parts_in list)) q.held_are in
    let labelled = labels_flagged frame list p held labels q marks c.all_flagged.result c.deref-3.result.now c.deref-4.result.now is c.deref-3.ensures.value c.deref-4.ensures.value c.all_flagged.ensures in
    by_term frame list (tree_of c.args.t.now) _ (labelled ∙ c.if-not-all_flagged.false) (sym parted ∙ c.if-not-are_parted.false)
    (ap not (c.index.ensures ∙ flag_of (composes list) p composing c.in_ok-target.target.0 (tree_of c.args.t.now) c.index.result.now made c.in_ok-target.ensures.stored))
