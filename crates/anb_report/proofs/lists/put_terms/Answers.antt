use Rattle.std.proofs.Common.{◌-◌, ◌++◌, List, ℕ, length, take, drop, map, sym, ap, ◌∙◌, arith, append_assoc}
use Rattle.std.specs.Prelude.{codes}
use Rattle.std.specs.List.{flat_map}
use Rattle.std.proofs.lemmas.List.{append-nil, drop_all}
use Rattle.anb_term.specs.View.{tree_of}
use Rattle.anb_report.specs.Noting.{register_text, register_texts}
use Rattle.anb_report.proofs.Items.{first_split}
use Rattle.anb_report.proofs.lists.put_terms.Goals as goal

pub returns : goal.returns
returns c =
    let p = c.args.protocol.now in
    let trees = map tree_of c.args.terms.now in
    let f : ℕ → List ℕ = λ r. codes ", " ++ register_text p trees r in
    let rs = c.args.registers.now in
    let rest = take (length rs - 1) (drop 1 rs) in
    let old = c.args.out.now.items in
    let out = c.loop-r.out.items in
    let split = first_split rs c.in-len1-up.len_at_least in
    sym (append-nil out) ∙ ap (λ l. out ++ flat_map f l) (sym (drop_all c.loop-r.r-index rest (omega arith))) ∙ c.loop-r.invariant
    ∙ ap (λ l. l ++ flat_map f rest) c.in_ok-put_term.ensures ∙ append_assoc old _ (flat_map f rest) ∙ ap (λ (l : List ℕ). old ++ register_texts p trees l) (sym split)
