use Rattle.std.proofs.Common.{List, ℕ, ◌++◌, ◌∷◌, [], ap, ◌∙◌, arith}
use Rattle.std.specs.Str.{bytes_eq}
use denote.Ref.{Bor}
use Rattle.anb_protocol.specs.Names.{first_new}
use Rattle.anb_protocol.specs.Views.{pointed}
use Rattle.anb_protocol.proofs.Elements.{seen_as, within_map}
use Rattle.anb_protocol.proofs.UseLemmas.{distinct_out, next_name}
use Rattle.anb_mistakes.proofs.parts.distinct.Goals as goal

pub loop-name-preserved : goal.loop-name-preserved
loop-name-preserved c =
    let names = c.args.names.now in
    let xs = pointed names in
    let i = c.loop-name.name-index in
    let x = c.name-item.result.now in
    let here = within_map (λ (x : Bor (List ℕ)). x.now) names i (omega arith) in
    let is = seen_as (λ (x : Bor (List ℕ)). x.now) names i c.name-item.result c.name-item.is in
    let out = pointed c.loop-name.all.items in
    record {
      seen = c.in_ok-put_new.ensures.seen ∙ ap (λ (l : List (List ℕ)). l ++ x ∷ []) c.loop-name.invariant.seen ∙ next_name xs i x here is;
      out = distinct_out xs i x out _ _ here is (c.in_ok-put_new.ensures.new ∙ ap (λ (l : List (List ℕ)). out ++ first_new bytes_eq l x) c.loop-name.invariant.seen) c.loop-name.invariant.out;
    }
