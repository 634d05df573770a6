use Rattle.std.proofs.Common.{◌≡◌, ◌+◌, ◌-◌, suc, [], ◌∷◌, cond, drop, length, get_or, true, false, replicate, sym, ap, ◌∙◌, arith, drop-cons}
use Rattle.anb_protocol.specs.Seen.{marked}
use Rattle.anb_report.specs.Looking.{repeated}
use Rattle.anb_report.proofs.Marking.{mark_first, marks_again}
use Rattle.anb_report.proofs.marks.marks_of_repeated.Goals as goal

pub loop-k-preserved : goal.loop-k-preserved
loop-k-preserved c =
    let numbers = c.args.numbers.now in
    let n = c.args.count in
    let blank = replicate n false in
    let i = length numbers - 1 - c.loop-k.k in
    let x = get_or numbers i 0 in
    let rest = drop (suc i) numbers in
    let behind : length numbers - c.loop-k.k ≡ suc i = omega arith in
    let at : i ≡ length numbers - (c.loop-k.k + 1) = omega arith in
    let here : drop i numbers ≡ x ∷ rest = drop-cons numbers i 0 (omega arith) in
    let once = c.loop-k.invariant.once ∙ ap (λ k. marked blank (drop k numbers)) behind in
    let twice = c.loop-k.invariant.twice ∙ ap (λ k. marked blank (repeated (drop k numbers))) behind in
    record {
      once = c.mark_again.ensures.once ∙ ap (λ m. marked m (x ∷ [])) once ∙ mark_first blank x rest ∙ ap (marked blank) (sym here) ∙ ap (λ k. marked blank (drop k numbers)) at;
      twice = c.mark_again.ensures.twice ∙ ap (λ m. marked c.loop-k.twice.items (cond (get_or m x true) (x ∷ []) [])) once ∙ ap (λ m. marked m (cond (get_or (marked blank rest) x true) (x ∷ []) [])) twice
          ∙ marks_again n x rest ∙ ap (λ l. marked blank (repeated l)) (sym here) ∙ ap (λ k. marked blank (repeated (drop k numbers))) at;
    }
