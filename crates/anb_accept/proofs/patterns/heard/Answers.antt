-- The basis of the labels, its equations, and their solution.
use Rattle.std.proofs.Common.{◌≡◌, length, map, true, sym, ap, ◌∙◌, subst, arith}
use Rattle.std.proofs.lemmas.List.{length-map}
use Rattle.anb_lemmas.proofs.Results.{if_ok_map}
use Rattle.anb_term.specs.Tree.{trees_of, AreFormed}
use Rattle.anb_term.specs.View.{tree_of}
use Rattle.anb_close.specs.Entries.{labels_of, terms_of, IsKnown}
use Rattle.anb_close.specs.declared.entry.Entry.{Entry}
use Rattle.anb_basis.specs.Checks.{AreAll, AllFit}
use Rattle.anb_unify.specs.Equations.{IsMostGeneral, HasSolution, AreOfVariables, AreVariables, atoms_of}
use Rattle.anb_unify.specs.Views.{equation_value}
use Rattle.anb_accept.specs.Taking.{labels}
use Rattle.anb_accept.specs.Patterns.{ArePatterns}
use Rattle.anb_accept.specs.Equations.{equations_of, heard_entries, heard_labels}
use Rattle.anb_unify.specs.Substitutions.{AreNamed}
use Rattle.anb_accept.proofs.Whole.{has_narrated, of_entries, patterns_are, heard_atoms, heard_within}
use Rattle.anb_accept.proofs.patterns.heard.Goals as goal

pub most_general-requires : goal.most_general-requires
most_general-requires c =
    let b = c.in_ok-basis.basis in
    let names = c.args.names in
    let es = c.entries-entries.result.now in
    let cs = c.given-checks.result.now in
    let frame = map tree_of c.args.frame.now.terms.items in
    let H = c.args.frame.now.heard.items in
    let es_is : es ≡ b.0 = c.entries-entries.ensures.same ∙ c.closure.ensures in
    let cs_is : cs ≡ b.1 = c.given-checks.ensures.same in
    let known : IsKnown es = subst IsKnown (sym es_is) c.given-checks.ensures.known in
    let fit : AllFit es cs = subst (λ l. AllFit l cs) (sym es_is) (subst (AllFit b.0) (sym cs_is) c.given-checks.ensures.fit) in
    let labels_are : labels_of es ≡ frame = ap labels_of es_is ∙ c.in_ok-basis.ensures ∙ ap (map tree_of) c.deref.ensures.value in
    let formed = subst (λ l. AreFormed (λ o. true) (trees_of l)) (sym labels_are) c.requires.formed in
    let named = subst (λ l. AreNamed names (trees_of l)) (sym labels_are) c.requires.named in
    let long : length H ≡ length (labels_of es) = c.requires.long ∙ sym (ap length labels_are ∙ length-map c.args.frame.now.terms.items tree_of) in
    let heard_is : equations_of names c.deref-2.result.now es cs ≡ equations_of names H es cs = ap (λ l. equations_of names l es cs) c.deref-2.ensures.value in
    let qs_are : map equation_value c.deref-5.result.now ≡ equations_of names H es cs = ap (map equation_value) c.deref-5.ensures.value ∙ c.in_ok-equations.ensures ∙ heard_is in
    let ts_are : map tree_of c.deref-4.result.now ≡ terms_of es = ap (map tree_of) c.deref-4.ensures.value ∙ c.in_ok-narrated.ensures in
    let many : length c.deref-4.result.now ≡ length es = sym (length-map c.deref-4.result.now tree_of) ∙ ap length ts_are ∙ length-map es (λ (e : Entry). tree_of e.term) in
    let at_is = c.deref-6.ensures.value ∙ c.in_ok-at.ensures in
    record {
      few = omega (arith, many, known.few, known.bounded);
      narrated = subst (λ t. HasSolution names t (map equation_value c.deref-5.result.now)) (sym ts_are) (subst (HasSolution names (terms_of es)) (sym qs_are) (has_narrated names H es cs known fit formed named long));
      equations = subst (λ n. AreOfVariables n (map equation_value c.deref-5.result.now)) (sym many) (subst (AreOfVariables (length es)) (sym qs_are) (of_entries names H es cs known fit formed named long));
      at = subst (λ n. AreVariables n c.deref-6.result.now) (sym many) (subst (AreVariables (length es)) (sym at_is) (heard_within c.deref-3.result.now 0 (length es) es (omega arith)));
    }

pub returns : goal.returns
returns c has plan formed terms_are heard_are =
    let b = c.in_ok-basis.basis in
    let names = c.args.names in
    let es = c.entries-entries.result.now in
    let cs = c.given-checks.result.now in
    let es_is : es ≡ b.0 = c.entries-entries.ensures.same ∙ c.closure.ensures in
    let cs_is : cs ≡ b.1 = c.given-checks.ensures.same in
    let known : IsKnown es = subst IsKnown (sym es_is) c.given-checks.ensures.known in
    let all : AreAll es cs = subst (λ l. AreAll l cs) (sym es_is) (subst (AreAll b.0) (sym cs_is) c.given-checks.ensures.all) in
    let fit : AllFit es cs = subst (λ l. AllFit l cs) (sym es_is) (subst (AllFit b.0) (sym cs_is) c.given-checks.ensures.fit) in
    let labels_are : labels_of es ≡ labels plan = ap labels_of es_is ∙ c.in_ok-basis.ensures ∙ ap (map tree_of) c.deref.ensures.value ∙ terms_are in
    let named = subst (λ l. AreNamed names (trees_of l)) terms_are c.requires.named in
    let qs_are : map equation_value c.deref-5.result.now ≡ equations_of names (heard_labels plan) es cs =
    ap (map equation_value) c.deref-5.ensures.value ∙ c.in_ok-equations.ensures ∙ ap (λ l. equations_of names l es cs) (c.deref-2.ensures.value ∙ heard_are) in
    let at_is : c.deref-6.result.now ≡ heard_entries (heard_labels plan) 0 es = c.deref-6.ensures.value ∙ c.in_ok-at.ensures ∙ ap (λ l. heard_entries l 0 es) (c.deref-3.ensures.value ∙ heard_are) in
    let vars_are = ap (atoms_of names) at_is ∙ heard_atoms names (heard_labels plan) 0 es in
    if_ok_map c.most_general.result (λ patterns. IsMostGeneral names (map equation_value c.deref-5.result.now) (atoms_of names c.deref-6.result.now) (map tree_of patterns.items))
    (λ patterns. ArePatterns has names plan (map tree_of patterns.items))
    (λ patterns g. patterns_are has names plan es cs known all fit labels_are formed named (map tree_of patterns.items)
    (subst (λ v. IsMostGeneral names (equations_of names (heard_labels plan) es cs) v (map tree_of patterns.items)) vars_are
    (subst (λ q. IsMostGeneral names q (atoms_of names c.deref-6.result.now) (map tree_of patterns.items)) qs_are g)))
    c.most_general.ensures
