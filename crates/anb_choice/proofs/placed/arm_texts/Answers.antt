use Rattle.std.proofs.Common.{◌≡◌, ◌++◌, List, ℕ, Ok, Err, map, ap, subst, sym, ◌∙◌}
use Rattle.std.specs.List.{AllByRecursion}
use Rattle.anb_lemmas.proofs.Results.{if_ok_map}
use Rattle.anb_choice.specs.declared.marks.Mark.{Mark}
use Rattle.anb_choice.specs.declared.order.Span.{Span}
use Rattle.anb_choice.specs.Branching.{IsOrdered}
use Rattle.anb_choice.specs.Order.{in_place, stem_end}
use Rattle.anb_choice.specs.Parsing.{order}
use Rattle.anb_choice.specs.Standing.{IsSpanOf}
use Rattle.anb_choice.proofs.Ordering.{order_there}
use Rattle.anb_choice.proofs.Spans.{parts_stand}
use Rattle.anb_choice.proofs.Uniqueness.{ordered_as, ordered_not}
use Rattle.anb_choice.proofs.placed.arm_texts.Goals as goal

pub texts_of-requires : goal.texts_of-requires
texts_of-requires c =
    let ms = c.in_ok-marks.marks.items in
    let spans = c.in-Ok.spans.items in
    let ok : order c.deref.result.now ≡ Ok spans = rw c.in-Ok.is at c.in_ok-found.ensures in
    let there : order ms ≡ Ok spans = ap order (sym c.deref.ensures.value) ∙ ok in
    let stand : AllByRecursion (IsSpanOf c.args.text.now (stem_end ms)) spans = (parts_stand c.args.text.now ms spans c.in_ok-marks.ensures.stand.0 there c.in_ok-marks.ensures.stand.1).arms in
    record { spans = rw (c.deref-in-Ok.ensures.value, c.deref-in-Ok-2.ensures.value) stand }

pub returns-in-Ok-clause-are : goal.returns-in-Ok-clause-are
returns-in-Ok-clause-are c =
    let x = c.args.text.now in
    let ms = c.in_ok-marks.marks.items in
    let spans = c.in-Ok.spans.items in
    let ok : order c.deref.result.now ≡ Ok spans = rw c.in-Ok.is at c.in_ok-found.ensures in
    let there : order ms ≡ Ok spans = ap order (sym c.deref.ensures.value) ∙ ok in
    let ordered : IsOrdered x ms spans = ordered_as c.tokens_are_unique.ensures c.narrations_are_unique.ensures x ms spans c.requires.ordered c.in_ok-marks.ensures.are there in
    if_ok_map c.texts_of.result _ _
    (λ texts is. (ms, spans, ordered, is ∙ ap (λ (m : List Mark). map (in_place x m) c.deref-in-Ok-2.result.now) c.deref-in-Ok.ensures.value ∙ ap (map (in_place x ms)) c.deref-in-Ok-2.ensures.value)) c.texts_of.ensures.are

pub returns-clause-are : goal.returns-clause-are
returns-clause-are c =
    let ms = c.in_ok-marks.marks.items in
    let no : order c.deref.result.now ≡ Err c.in-Err._at = rw c.in-Err.is at c.in_ok-found.ensures in
    absurd (ordered_not c.tokens_are_unique.ensures c.narrations_are_unique.ensures c.args.text.now ms c.in-Err._at c.requires.ordered c.in_ok-marks.ensures.are (ap order (sym c.deref.ensures.value) ∙ no))
