-- The terms that are put into the patterns.
use Rattle.std.proofs.Common.{◌≡◌, ◌+◌, ℕ, List, map, take, drop, Some, sym, ap, ◌∙◌}
use Rattle.std.specs.Prelude.{slice_get}
use Rattle.anb_term.specs.declared.term.Term.{Term}
use Rattle.anb_term.specs.Tree.{Tree}
use Rattle.anb_term.specs.View.{tree_of}
use Rattle.anb_term.proofs.Lists.{map-take, map-drop, slice_get-map}
use Rattle.anb_unify.specs.Substitutions.{put_in}
use Rattle.anb_suite.specs.Sparing.{narrated_at, spared_at}
use Rattle.anb_suite.proofs.sparing.case_of.Goals as goal

-- one pattern
one_at : (items : List Term) (i : ℕ) (x : Term) (t : Tree) → Some x ≡ slice_get items i → slice_get (map tree_of items) i ≡ Some t → tree_of x ≡ t
one_at items i x t e at = let p = slice_get-map tree_of items i x (sym e) in cc

pub returns-clause-put : goal.returns-clause-put
returns-clause-put c =
    let s = c.args.solved.now in
    let v = c.args.v in
    let items = s.patterns.items in
    let sp = spared_at s.spare v s.explanation.terms in
    let terms = c.terms-narrated.ensures in
    record {
      arrivals = c.in_ok-arrivals.ensures ∙ ap (λ ts. map (put_in (spared_at s.spare v ts)) (map tree_of c.first.result.now)) terms
          ∙ ap (λ l. map (put_in sp) (map tree_of l)) (c.first.ensures ∙ ap (take s.count) c.deref.ensures.value) ∙ ap (map (put_in sp)) (map-take tree_of s.count items);
      wrong = c.in_ok-wrong.ensures ∙ ap (λ ts. narrated_at s.spare ts v) terms;
      one = λ t e. c.in_ok-one.ensures ∙ ap (λ ts. put_in (spared_at s.spare v ts) (tree_of c.nth.result.now)) terms
          ∙ ap (put_in sp) (one_at items s.count c.nth.result.now t (c.nth.ensures ∙ ap (λ (l : List Term). slice_get l s.count) c.deref-3.ensures.value) e);
      other = λ t e. c.in_ok-other.ensures ∙ ap (λ ts. put_in (spared_at s.spare v ts) (tree_of c.nth-2.result.now)) terms
          ∙ ap (put_in sp) (one_at items (s.count + 1) c.nth-2.result.now t (c.nth-2.ensures ∙ ap (λ (l : List Term). slice_get l (s.count + 1)) c.deref-4.ensures.value) e);
      messages = c.in_ok-messages.ensures ∙ ap (λ ts. map (put_in (spared_at s.spare v ts)) (map tree_of c.rest.result.now)) terms
          ∙ ap (λ l. map (put_in sp) (map tree_of l)) (c.rest.ensures ∙ ap (drop (s.count + 2)) c.deref-2.ensures.value) ∙ ap (map (put_in sp)) (map-drop tree_of (s.count + 2) items);
    }
