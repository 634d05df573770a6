use Rattle.std.proofs.Common.{◌+◌, ◌-◌, [], ◌∷◌, ◌++◌, cond, get_or, true, sym, ap, ◌∙◌, arith, append_assoc}
use Rattle.std.specs.Prelude.{ℕ, Bool, ◌&&◌, filter, not}
use Rattle.std.specs.List.{range_with_len}
use Rattle.anb_report.proofs.Items.{first_of}
use Rattle.anb_report.proofs.Marking.{filter_one}
use Rattle.anb_report.proofs.seen.neither.Goals as goal

pub loop-r-preserved : goal.loop-r-preserved
loop-r-preserved c =
    let first = c.args.first.now in
    let second = c.args.second.now in
    let third = c.args.third.now in
    let p : ℕ → Bool = λ r. get_or first r true && (not (get_or second r true) && not (get_or third r true)) in
    let r = c.loop-r.r in
    let count = c.args.count in
    let out = c.loop-r.out.items in
    let rest = range_with_len (r + 1) (count - (r + 1)) in
    ap (λ l. l ++ filter p rest) (c.in_ok-put_if.ensures ∙ ap (λ b. out ++ cond b (r ∷ []) []) c.is_first_alone.ensures)
    ∙ append_assoc out (cond (p r) (r ∷ []) []) (filter p rest) ∙ ap (λ l. out ++ l) (filter_one p r rest ∙ ap (filter p) (sym (first_of r count (omega arith)))) ∙ c.loop-r.invariant
