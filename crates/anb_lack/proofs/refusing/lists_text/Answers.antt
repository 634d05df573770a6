use Rattle.std.proofs.Common.{◌≡◌, ◌++◌, length, ap, ◌∙◌, sym, subst, map}
use Rattle.std.specs.List.{AllByRecursion}
use Rattle.std.proofs.lemmas.List.{length-map}
use Rattle.anb_term.specs.View.{tree_of}
use Rattle.anb_protocol.specs.Texts.{IsTermOf}
use Rattle.anb_protocol.specs.Views.{plan_event}
use Rattle.anb_lack.specs.Lacking.{had_text, lacking_text, roots_text}
use Rattle.anb_lack.specs.Parts.{lacking}
use Rattle.anb_lack.specs.Rooted.{root_value, HasTerms}
use Rattle.anb_lack.specs.Roots.{root_line, roots}
use Rattle.anb_lack.proofs.Showing.{lacking_of_protocol, roots_of_protocol}
use Rattle.anb_lack.proofs.Written.{three}
use Rattle.std.specs.List.{flat_map}
use Rattle.anb_lack.proofs.refusing.lists_text.Goals as goal

pub put_had-requires-clause-terms : goal.put_had-requires-clause-terms
put_had-requires-clause-terms c = subst (AllByRecursion (IsTermOf c.args.protocol.now)) (sym c.as_slice-terms.ensures) c.requires.terms

pub put_had-requires-clause-long : goal.put_had-requires-clause-long
put_had-requires-clause-long c = c.requires.long ∙ sym (ap length c.as_slice-terms.ensures) ∙ length-map c.as_slice-terms.result.now tree_of

pub put_lacking-requires : goal.put_lacking-requires
put_lacking-requires c =
    let p = c.args.protocol.now in
    let r = c.args.refusal.now in
    let listed = lacking_of_protocol p r.terms (tree_of r.term) c.requires.message in
    subst (AllByRecursion (IsTermOf p)) (sym (ap (map tree_of) c.deref-2.ensures.value ∙ c.in_ok-lacking.ensures ∙ ap (λ l. lacking l (tree_of r.term)) c.as_slice-terms.ensures)) listed

pub put_roots-requires : goal.put_roots-requires
put_roots-requires c =
    let p = c.args.protocol.now in
    let r = c.args.refusal.now in
    let before = map plan_event c.args.before.now in
    let parts : map tree_of c.deref.result.now ≡ lacking r.terms (tree_of r.term) = ap (map tree_of) c.deref.ensures.value ∙ c.in_ok-lacking.ensures ∙ ap (λ l. lacking l (tree_of r.term)) c.as_slice-terms.ensures in
    let are : map root_value c.deref-3.result.now ≡ roots r.terms before (lacking r.terms (tree_of r.term)) =
    ap (map root_value) c.deref-3.ensures.value ∙ c.in_ok-roots.ensures ∙ ap (λ us. roots us before (map tree_of c.deref.result.now)) c.as_slice-terms.ensures ∙ ap (roots r.terms before) parts in
    subst (AllByRecursion (HasTerms p)) (sym are) (roots_of_protocol p r.terms before (lacking r.terms (tree_of r.term)) c.requires.before (lacking_of_protocol p r.terms (tree_of r.term) c.requires.message))

pub returns : goal.returns
returns c =
    let p = c.args.protocol.now in
    let r = c.args.refusal.now in
    let sender = c.args.sender.now in
    let origins = c.args.origins.now in
    let before = map plan_event c.args.before.now in
    let missing = lacking r.terms (tree_of r.term) in
    let parts : map tree_of c.deref.result.now ≡ missing = ap (map tree_of) c.deref.ensures.value ∙ c.in_ok-lacking.ensures ∙ ap (λ l. lacking l (tree_of r.term)) c.as_slice-terms.ensures in
    let listed : map tree_of c.deref-2.result.now ≡ missing = ap (map tree_of) c.deref-2.ensures.value ∙ c.in_ok-lacking.ensures ∙ ap (λ l. lacking l (tree_of r.term)) c.as_slice-terms.ensures in
    let are : map root_value c.deref-3.result.now ≡ roots r.terms before missing =
    ap (map root_value) c.deref-3.ensures.value ∙ c.in_ok-roots.ensures ∙ ap (λ us. roots us before (map tree_of c.deref.result.now)) c.as_slice-terms.ensures ∙ ap (roots r.terms before) parts in
    let had = c.in_ok-put_had.ensures ∙ ap (λ us. c.new-out.result.items ++ had_text p us origins) c.as_slice-terms.ensures in
    let lacked = c.in_ok-put_lacking.ensures ∙ ap (λ us. c.put_had.new.out.items ++ lacking_text p us) listed in
    let rooted = c.in_ok-put_roots.ensures ∙ ap (λ rs. c.put_lacking.new.out.items ++ flat_map (root_line p sender) rs) are in
    three _ _ _ _ (had_text p r.terms origins) (lacking_text p missing) (roots_text p sender r.terms before missing) c.new-out.ensures.items had lacked rooted
