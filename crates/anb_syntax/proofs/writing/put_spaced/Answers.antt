use Rattle.std.proofs.Common.{◌≡◌, ◌++◌, ◌∷◌, [], List, ℕ, ap, sym, ◌∙◌, append_assoc}
use Rattle.anb_syntax.specs.Grammar.{spell_tree}
use Rattle.anb_syntax.specs.Canon.{words_bytes}
use Rattle.anb_syntax.specs.Views.{tree_of}
use Rattle.anb_syntax.proofs.Laying.{spaced_bytes}
use Rattle.anb_syntax.proofs.writing.put_spaced.Goals as goal

pub returns : goal.returns
returns c =
    let old = c.args.out.now.items in
    let t = tree_of c.args.tree.now in
    let e : c.put_tree.new.out.items ≡ (old ++ 32 ∷ []) ++ words_bytes (spell_tree t) = cc (c.in_ok-extend_from_slice.ensures.items, c.in_ok-put_tree.ensures) in
    e ∙ append_assoc old (32 ∷ []) (words_bytes (spell_tree t)) ∙ ap (λ (x : List ℕ). old ++ x) (sym (spaced_bytes t))
