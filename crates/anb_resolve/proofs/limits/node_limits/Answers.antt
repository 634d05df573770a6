use Rattle.std.proofs.Common.{◌≡◌, List, map, ap, sym, ◌∙◌, Some, None}
use Rattle.std.specs.List.{sum_by}
use Rattle.anb_lemmas.proofs.Options.{or_none}
use Rattle.anb_syntax.specs.Grammar.{Tree}
use Rattle.anb_syntax.specs.declared.narration.Tree as code
use Rattle.anb_syntax.specs.Views.{narration_of, tree_of}
use denote.Ref.{Bor}
use Rattle.anb_protocol.specs.declared.refusals.Kind.TheVariants.{TermNodes, AllNodes}
use Rattle.anb_protocol.specs.Choices.{first}
use Rattle.anb_protocol.specs.Checks.{above, term_limit, all_limit, tree_nodes}
use Rattle.anb_protocol.specs.Views.{pointed}
use Rattle.anb_protocol.proofs.OrLemmas.{skip, stop}
use Rattle.anb_resolve.proofs.limits.node_limits.Goals as goal

pub returns-in-Some : goal.returns-in-Some
returns-in-Some c =
    let n = narration_of c.args.n.now in
    let are = ap (λ (ts : List (Bor code.Tree)). map tree_of (pointed ts)) c.deref.ensures.value ∙ c.in_ok-terms.ensures in
    let e : term_limit n ≡ Some c.in-Some.no = sym (c.in-Some.ensures ∙ ap (λ (ts : List Tree). first (λ t. above 1024 TermNodes (tree_nodes t)) ts) are) in
    sym (stop _ _ _ e)

pub returns : goal.returns
returns c =
    let n = narration_of c.args.n.now in
    let are = ap (λ (ts : List (Bor code.Tree)). map tree_of (pointed ts)) c.deref.ensures.value ∙ c.in_ok-terms.ensures in
    let also = ap (λ (ts : List (Bor code.Tree)). map tree_of (pointed ts)) c.deref-2.ensures.value ∙ c.in_ok-terms.ensures in
    let e : term_limit n ≡ None = sym (c.in-None.ensures ∙ ap (λ (ts : List Tree). first (λ t. above 1024 TermNodes (tree_nodes t)) ts) are) in
    let all : c.above.result ≡ all_limit n = c.above.ensures ∙ ap (above 65536 AllNodes) (c.all_nodes.ensures ∙ ap (λ (ts : List Tree). sum_by tree_nodes ts) also) in
    all ∙ sym (or_none (all_limit n)) ∙ sym (skip _ _ e)
