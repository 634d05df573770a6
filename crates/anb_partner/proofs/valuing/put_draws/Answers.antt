use Rattle.std.proofs.Common.{◌≡◌, ◌+◌, ◌++◌, ◌∷◌, [], map, append_assoc, arith, sym, ap, ◌∙◌}
use Rattle.std.proofs.lemmas.List.{map-append}
use Rattle.std.specs.List.{range_with_len}
use Rattle.anb_compile.proofs.Lists.{one_further}
use Rattle.anb_seal.specs.Streams.{draw_of}
use Rattle.anb_partner.proofs.valuing.put_draws.Goals as goal

pub loop-i-preserved : goal.loop-i-preserved
loop-i-preserved c =
    let f = draw_of c.args.seed.now c.args.role in
    let i = c.loop-i.i in
    let first = c.args.out.now.items in
    let at : 0 + i ≡ i = omega arith in
    let range : range_with_len 0 (i + 1) ≡ range_with_len 0 i ++ i ∷ [] = one_further 0 i ∙ ap (λ k. range_with_len 0 i ++ k ∷ []) at in
    c.in_ok-push.ensures.items ∙ ap (λ v. c.loop-i.out.items ++ v ∷ []) c.in_ok-drawn.ensures ∙ ap (λ l. l ++ f i ∷ []) c.loop-i.invariant
    ∙ append_assoc first (map f (range_with_len 0 i)) (f i ∷ []) ∙ ap (λ l. first ++ l) (sym (map-append f (range_with_len 0 i) (i ∷ [])) ∙ ap (map f) (sym range))
