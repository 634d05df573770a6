use Rattle.std.proofs.Common.{◌≡◌, ◌++◌, ◌∷◌, [], ap, sym, ◌∙◌, map, length, rules}
use Rattle.std.proofs.lemmas.List.{length-map, map-append}
use Rattle.anb_syntax.specs.declared.narration.Tree.{Tree, the_lemmas}
use Rattle.anb_syntax.specs.Grammar as grammar
use Rattle.anb_syntax.specs.Grammar.{trees_of}
use Rattle.anb_syntax.specs.Views.{tree_of}
use Rattle.anb_protocol.specs.Names.{as_format, tree_uses, trees_uses}
use Rattle.anb_resolve.specs.Uses.{use_of}
use Rattle.anb_protocol.proofs.UseLemmas.{joined, length-trees}
use Rattle.anb_resolve.proofs.uses.+uses.Goals as goal

pub put_tree_uses-returns-in_ok-put_tree_uses-in-Mac-2 : goal.put_tree_uses-returns-in_ok-put_tree_uses-in-Mac-2
put_tree_uses-returns-in_ok-put_tree_uses-in-Mac-2 t c =
    let old = map use_of c.args.out.now.items in
    let o1 = map use_of c.put_tree_uses-in-Mac.new.out.items in
    let e1 : o1 ≡ old ++ tree_uses (tree_of c.in-Mac.key.value) = c.in_ok-put_tree_uses-in-Mac.ensures ∙ ap (λ (x : Tree). old ++ tree_uses (tree_of x)) c.deref-in-Mac.ensures in
    let o2 = map use_of c.put_tree_uses-in-Mac-2.new.out.items in
    let e2 : o2 ≡ o1 ++ tree_uses (tree_of c.in-Mac.body.value) = c.in_ok-put_tree_uses-in-Mac-2.ensures ∙ ap (λ (x : Tree). o1 ++ tree_uses (tree_of x)) c.deref-in-Mac-2.ensures in
    let is : tree_of c.args.tree.now ≡ grammar.mac (tree_of c.in-Mac.key.value) (tree_of c.in-Mac.body.value) = rw c.in-Mac.is (search (rules, the_lemmas)) in
    joined old o1 o2 _ _ e1 e2 ∙ ap (λ u. old ++ tree_uses u) (sym is)

pub put_tree_uses-returns-in_ok-put_tree_uses-in-Seal-2 : goal.put_tree_uses-returns-in_ok-put_tree_uses-in-Seal-2
put_tree_uses-returns-in_ok-put_tree_uses-in-Seal-2 t c =
    let old = map use_of c.args.out.now.items in
    let o1 = map use_of c.put_tree_uses-in-Seal.new.out.items in
    let e1 : o1 ≡ old ++ tree_uses (tree_of c.in-Seal.key.value) = c.in_ok-put_tree_uses-in-Seal.ensures ∙ ap (λ (x : Tree). old ++ tree_uses (tree_of x)) c.deref-in-Seal.ensures in
    let o2 = map use_of c.put_tree_uses-in-Seal-2.new.out.items in
    let e2 : o2 ≡ o1 ++ tree_uses (tree_of c.in-Seal.body.value) = c.in_ok-put_tree_uses-in-Seal-2.ensures ∙ ap (λ (x : Tree). o1 ++ tree_uses (tree_of x)) c.deref-in-Seal-2.ensures in
    let is : tree_of c.args.tree.now ≡ grammar.seal (tree_of c.in-Seal.key.value) (tree_of c.in-Seal.body.value) = rw c.in-Seal.is (search (rules, the_lemmas)) in
    joined old o1 o2 _ _ e1 e2 ∙ ap (λ u. old ++ tree_uses u) (sym is)

pub put_tree_uses-returns-in_ok-put_tree_uses-in-Wrap-3 : goal.put_tree_uses-returns-in_ok-put_tree_uses-in-Wrap-3
put_tree_uses-returns-in_ok-put_tree_uses-in-Wrap-3 t c =
    let old = map use_of c.args.out.now.items in
    let o1 = map use_of c.put_tree_uses-in-Wrap.new.out.items in
    let e1 : o1 ≡ old ++ tree_uses (tree_of c.in-Wrap.key.value) = c.in_ok-put_tree_uses-in-Wrap.ensures ∙ ap (λ (x : Tree). old ++ tree_uses (tree_of x)) c.deref-in-Wrap.ensures in
    let o2 = map use_of c.put_tree_uses-in-Wrap-2.new.out.items in
    let e2 : o2 ≡ o1 ++ tree_uses (tree_of c.in-Wrap.context.value) = c.in_ok-put_tree_uses-in-Wrap-2.ensures ∙ ap (λ (x : Tree). o1 ++ tree_uses (tree_of x)) c.deref-in-Wrap-2.ensures in
    let o3 = map use_of c.put_tree_uses-in-Wrap-3.new.out.items in
    let e3 : o3 ≡ o2 ++ tree_uses (tree_of c.in-Wrap.body.value) = c.in_ok-put_tree_uses-in-Wrap-3.ensures ∙ ap (λ (x : Tree). o2 ++ tree_uses (tree_of x)) c.deref-in-Wrap-3.ensures in
    let is : tree_of c.args.tree.now ≡ grammar.wrap (tree_of c.in-Wrap.key.value) (tree_of c.in-Wrap.context.value) (tree_of c.in-Wrap.body.value) = rw c.in-Wrap.is (search (rules, the_lemmas)) in
    joined old o2 o3 _ _ (joined old o1 o2 _ _ e1 e2) e3 ∙ ap (λ u. old ++ tree_uses u) (sym is)

pub put_tree_uses-returns-in_ok-put_trees_uses-in-Apply : goal.put_tree_uses-returns-in_ok-put_trees_uses-in-Apply
put_tree_uses-returns-in_ok-put_trees_uses-in-Apply t c =
    let old = map use_of c.args.out.now.items in
    let o1 = map use_of c.push-in-Apply.new.self.items in
    let o2 = map use_of c.put_trees_uses.new.out.items in
    let name = c.in-Apply.name in
    let ts = map tree_of c.in-Apply.arguments.items in
    let count = ap length c.as_slice.ensures.value ∙ sym (length-map c.in-Apply.arguments.items tree_of) ∙ sym (length-trees ts) in
    let e1 : o1 ≡ old ++ as_format name (length (grammar.list_of (trees_of ts))) ∷ [] = ap (map use_of) c.in_ok-push-in-Apply.ensures.items ∙ map-append use_of c.args.out.now.items _ ∙ ap (λ n. old ++ as_format name n ∷ []) count in
    let e2 : o2 ≡ o1 ++ trees_uses (trees_of ts) = c.in_ok-put_trees_uses-in-Apply.ensures in
    let is : tree_of c.args.tree.now ≡ grammar.apply name (trees_of ts) = rw c.in-Apply.is (search (rules, the_lemmas)) in
    joined old o1 o2 _ _ e1 e2 ∙ ap (λ u. old ++ tree_uses u) (sym is)
