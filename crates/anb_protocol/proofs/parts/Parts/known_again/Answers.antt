use Rattle.std.proofs.Common.{◌≡◌, ◌<◌, ◌++◌, ◌∷◌, [], length, map, get_or, ap, ◌∙◌, arith}
use Rattle.std.proofs.lemmas.List.{length-map}
use Rattle.anb_index.specs.Places.{among}
use Rattle.anb_term.specs.View.{tree_of}
use Rattle.anb_protocol.specs.Texts.{term_text}
use Rattle.anb_protocol.specs.Views.{value_of}
use Rattle.anb_protocol.proofs.AgainLemmas.{again_here, again_next}
use Rattle.anb_protocol.proofs.TermAmong.{IsTold, told_at}
use Rattle.anb_protocol.proofs.UseLemmas.{next_name}
use Rattle.anb_protocol.proofs.parts.Parts.known_again.Goals as goal
use Rattle.anb_protocol.proofs.parts.Parts.known_again.Goals.{In_ok-push}

-- the texts of the terms
all_texts : (c : In_ok-push) → c.deref-text-items.result.now ≡ map (term_text (value_of c.args.self.now)) (map tree_of c.args.terms.now)
all_texts c = c.deref-text-items.ensures.value ∙ c.in_ok-texts.ensures

within : (c : In_ok-push) → c.loop-i.i < length (map tree_of c.args.terms.now)
within c = omega (arith, c.loop-i-test.true, ap length (all_texts c), length-map (map tree_of c.args.terms.now) (term_text (value_of c.args.self.now)))

stands : (c : In_ok-push) → c.text-item.result ≡ get_or (map (term_text (value_of c.args.self.now)) (map tree_of c.args.terms.now)) c.loop-i.i c.text-item.result
stands c = c.text-item.is ∙ ap (λ l. get_or l c.loop-i.i c.text-item.result) (all_texts c)

told : (c : In_ok-push) → IsTold (value_of c.args.self.now) c.requires.apart (map tree_of c.args.terms.now) c.loop-i.i c.text-item.result c.in_ok-push.field-0
told c =
    told_at (value_of c.args.self.now) c.requires.apart (map tree_of c.args.terms.now) c.loop-i.i c.text-item.result c.in_ok-push.field-0 c.requires.terms (within c) (stands c)
    (c.in_ok-push.ensures.found ∙ ap (among c.loop-i.seen) c.as_str.ensures ∙ ap (λ l. among l c.text-item.result) c.loop-i.invariant.seen)

pub returns-then-branch-clause-place : goal.returns-then-branch-clause-place
returns-then-branch-clause-place c =
    let step = (goal.at.returns-then-branch-clause-place c).In_ok-push in
    let here = told step in
    again_here (map tree_of c.args.terms.now) c.loop-i.i here.term _ (within step) here.stands (here.again ∙ c.if-branch.true) c.loop-i.invariant.place

pub loop-i-preserved : goal.loop-i-preserved
loop-i-preserved c =
    let step = (goal.at.loop-i-preserved c).In_ok-push in
    let here = told step in
    let texts = map (term_text (value_of c.args.self.now)) (map tree_of c.args.terms.now) in
    let low : c.loop-i.i < length texts = omega (arith, within step, length-map (map tree_of c.args.terms.now) (term_text (value_of c.args.self.now))) in
    record {
      seen = c.in_ok-push.ensures.pushed ∙ ap (λ y. c.loop-i.seen ++ y ∷ []) c.as_str.ensures ∙ ap (λ l. l ++ c.text-item.result ∷ []) c.loop-i.invariant.seen
          ∙ next_name texts c.loop-i.i c.text-item.result low (stands step);
      place = again_next (map tree_of c.args.terms.now) c.loop-i.i here.term _ (within step) here.stands (here.again ∙ c.if-branch.false) c.loop-i.invariant.place;
    }
