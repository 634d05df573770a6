use Rattle.std.proofs.Common.{◌≡◌, ◌++◌, ◌∷◌, [], List, ℕ, ap, sym, ◌∙◌, arith}
use Rattle.std.specs.Prelude.{decimal}
use Rattle.std.specs.List.{flat_map}
use Rattle.std.proofs.lemmas.List.{append-nil, drop_all}
use Rattle.anb_term.specs.View.{tree_of}
use Rattle.anb_protocol.specs.Texts.{term_text}
use Rattle.anb_explain.proofs.Lines.{line_put}
use Rattle.anb_explain.proofs.plan.line_text.Goals as goal

pub returns : goal.returns
returns c =
    let f : ℕ → List ℕ = λ n. 32 ∷ decimal n in
    let word = c.args.word.now in
    let numbers = c.args.numbers.now in
    let text = term_text c.args.protocol.now (tree_of c.args.term.now) in
    let done = drop_all c.loop-n.n-index numbers (omega arith) in
    let loop : c.loop-n.out.items ≡ word ++ flat_map f numbers =
    sym (append-nil c.loop-n.out.items) ∙ ap (λ l. c.loop-n.out.items ++ flat_map f l) (sym done) ∙ c.loop-n.invariant ∙ ap (λ l. l ++ flat_map f numbers) c.in_ok-out.ensures.items in
    let put : c.push.new.self.items ≡ ((word ++ flat_map f numbers) ++ 32 ∷ text) ++ 10 ∷ [] =
    c.in_ok-push.ensures.items ∙ ap (λ l. l ++ 10 ∷ []) (c.in_ok-put_term.ensures ∙ ap (λ l. l ++ 32 ∷ text) loop) in
    put ∙ ap (λ l. l ++ 10 ∷ []) (sym (line_put word numbers text))
