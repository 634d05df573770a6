-- The lines at a role's end.
use Rattle.std.proofs.Common.{ℕ, List, length, map, true, false, sym, ap, ◌∙◌, subst}
use Rattle.std.specs.List.{AllByRecursion}
use Rattle.anb_term.specs.declared.term.Term.{Term}
use Rattle.anb_term.specs.Tree.{Tree}
use Rattle.anb_term.specs.View.{tree_of}
use Rattle.anb_protocol.specs.declared.parts.Atom.{Atom}
use Rattle.anb_protocol.specs.Texts.{IsTermOf}
use Rattle.anb_pattern.specs.Variables.{count_in_each, places_each, stand_for, picked_from}
use Rattle.anb_pattern.specs.Counts.{AreCounts, stands}
use Rattle.anb_pattern.specs.Taken.{received}
use Rattle.anb_pattern.proofs.Standing.{meanings_ours, picked_ours}
use Rattle.anb_pattern.proofs.Ending.{lines_put}
use Rattle.anb_pattern.proofs.taken.put_lines.Goals as goal

-- what variables stand for are terms of the protocol
pub put_listed-requires : goal.put_listed-requires
put_listed-requires c =
    let p = c.args.protocol.now in
    let pats = map tree_of c.args.patterns.now in
    let P : List Tree → Type 0 = λ l. AllByRecursion (IsTermOf p) l in
    let Q : List Term → Type 0 = λ l. P (map tree_of l) in
    subst Q (sym c.deref-6.ensures.value) (subst P (sym c.in_ok-terms.ensures)
    (meanings_ours p (length c.declared-names.result.now) pats (map tree_of c.deref.result.now) (subst Q (sym c.deref.ensures.value) c.in_ok-narrated.ensures.terms)))

pub put_unchecked-requires : goal.put_unchecked-requires
put_unchecked-requires c =
    let p = c.args.protocol.now in
    let pats = map tree_of c.args.patterns.now in
    let n = length c.declared-names.result.now in
    let P : List Tree → Type 0 = λ l. AllByRecursion (IsTermOf p) l in
    let Q : List Term → Type 0 = λ l. P (map tree_of l) in
    let ours = subst Q (sym c.deref-3.ensures.value) (subst P (sym c.in_ok-terms.ensures)
    (meanings_ours p n pats (map tree_of c.deref.result.now) (subst Q (sym c.deref.ensures.value) c.in_ok-narrated.ensures.terms))) in
    let are = subst (λ (l : List ℕ). AreCounts n (λ v. count_in_each v pats) l) (sym c.deref-2.ensures.value) c.in_ok-counts.ensures.counts in
    subst Q (sym c.deref-7.ensures.value) (subst P (sym (c.in_ok-unchecked.ensures n pats are)) (picked_ours p (stands pats true) n (map tree_of c.deref-3.result.now) ours))

pub put_listed-requires-2 : goal.put_listed-requires-2
put_listed-requires-2 c =
    let p = c.args.protocol.now in
    let pats = map tree_of c.args.patterns.now in
    let n = length c.declared-names.result.now in
    let P : List Tree → Type 0 = λ l. AllByRecursion (IsTermOf p) l in
    let Q : List Term → Type 0 = λ l. P (map tree_of l) in
    let ours = subst Q (sym c.deref-5.ensures.value) (subst P (sym c.in_ok-terms.ensures)
    (meanings_ours p n pats (map tree_of c.deref.result.now) (subst Q (sym c.deref.ensures.value) c.in_ok-narrated.ensures.terms))) in
    let are = subst (λ (l : List ℕ). AreCounts n (λ v. count_in_each v pats) l) (sym c.deref-4.ensures.value) c.in_ok-counts.ensures.counts in
    subst Q (sym c.deref-8.ensures.value) (subst P (sym (c.in_ok-resting.ensures n pats are)) (picked_ours p (stands pats false) n (map tree_of c.deref-5.result.now) ours))

pub returns-clause-lines : goal.returns-clause-lines
returns-clause-lines c =
    let p = c.args.protocol.now in
    let role = c.args.role in
    let pats = map tree_of c.args.patterns.now in
    let atoms : List Atom = c.declared-names.result.now in
    let n = length atoms in
    let e = c.declared-names.ensures in
    let ms = map tree_of c.deref-6.result.now in
    let is = ap (map tree_of) c.deref-6.ensures.value ∙ c.in_ok-terms.ensures ∙ ap (λ (l : List Term). stand_for n (places_each pats (map tree_of l))) c.deref.ensures.value
    ∙ ap (λ l. stand_for n (places_each pats l)) c.in_ok-narrated.ensures.is ∙ ap (λ (xs : List Atom). stand_for (length xs) (places_each pats (received p role))) e in
    let once = subst (λ (l : List ℕ). AreCounts n (λ v. count_in_each v pats) l) (sym c.deref-2.ensures.value) c.in_ok-counts.ensures.counts in
    let again = subst (λ (l : List ℕ). AreCounts n (λ v. count_in_each v pats) l) (sym c.deref-4.ensures.value) c.in_ok-counts.ensures.counts in
    let us = ap (map tree_of) c.deref-7.ensures.value ∙ c.in_ok-unchecked.ensures n pats once ∙ ap (λ (l : List Term). picked_from (stands pats true) n (map tree_of l)) (c.deref-3.ensures.value ∙ sym c.deref-6.ensures.value)
    ∙ ap (λ (xs : List Atom). picked_from (stands pats true) (length xs) ms) e in
    let rs = ap (map tree_of) c.deref-8.ensures.value ∙ c.in_ok-resting.ensures n pats again ∙ ap (λ (l : List Term). picked_from (stands pats false) n (map tree_of l)) (c.deref-5.ensures.value ∙ sym c.deref-6.ensures.value)
    ∙ ap (λ (xs : List Atom). picked_from (stands pats false) (length xs) ms) e in
    lines_put p role pats ms (map tree_of c.deref-7.result.now) (map tree_of c.deref-8.result.now) c.args.out.now.items c.put_listed.new.out.items c.put_unchecked.new.out.items c.put_listed-2.new.out.items
    is us rs c.in_ok-put_listed.ensures c.in_ok-put_unchecked.ensures c.in_ok-put_listed-2.ensures

pub returns-clause-unchecked : goal.returns-clause-unchecked
returns-clause-unchecked c =
    let p = c.args.protocol.now in
    let role = c.args.role in
    let pats = map tree_of c.args.patterns.now in
    let atoms : List Atom = c.declared-names.result.now in
    let n = length atoms in
    let e = c.declared-names.ensures in
    let once = subst (λ (l : List ℕ). AreCounts n (λ v. count_in_each v pats) l) (sym c.deref-2.ensures.value) c.in_ok-counts.ensures.counts in
    let is = ap (map tree_of) c.deref-3.ensures.value ∙ c.in_ok-terms.ensures ∙ ap (λ (l : List Term). stand_for n (places_each pats (map tree_of l))) c.deref.ensures.value
    ∙ ap (λ l. stand_for n (places_each pats l)) c.in_ok-narrated.ensures.is in
    c.in_ok-unchecked.ensures n pats once ∙ ap (picked_from (stands pats true) n) is
    ∙ ap (λ (xs : List Atom). picked_from (stands pats true) (length xs) (stand_for (length xs) (places_each pats (received p role)))) e
