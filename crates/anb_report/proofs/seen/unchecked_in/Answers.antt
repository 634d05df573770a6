use Rattle.std.proofs.Common.{◌≡◌, List, ℕ, replicate, false, sym, subst, ap, ◌∙◌}
use Rattle.std.specs.Prelude.{IfOk}
use Rattle.anb_protocol.specs.Seen.{marked}
use Rattle.anb_report.specs.Looking.{seen}
use Rattle.anb_report.proofs.Looked.{unchecked_told}
use Rattle.anb_report.proofs.seen.unchecked_in.Goals as goal

pub returns : goal.returns
returns c =
    let formats = c.args.formats.now in
    let instrs = c.args.instrs.now in
    let count = c.count_registers-count.result in
    let many = c.count_registers-count.ensures in
    let blank = replicate count false in
    let came = c.deref-5.ensures.value ∙ c.in_ok-came.ensures ∙ ap (marked blank) (c.deref.ensures.value ∙ c.in_ok-written.ensures) in
    let ends = c.deref-6.ensures.value ∙ c.in_ok-opened.ensures ∙ ap (marked blank) (c.deref-4.ensures.value ∙ c.in_ok-registers.ensures) in
    let whole = c.deref-7.ensures.value ∙ c.in_ok-seen.ensures ∙ ap (λ k. marked (replicate k false) (seen formats instrs)) (sym many) in
    let told = unchecked_told formats instrs count many c.deref-5.result.now c.deref-6.result.now c.deref-7.result.now came ends whole in
    subst (λ (l : List ℕ). IfOk c.neither.result (λ rs. rs.items ≡ l)) told c.neither.ensures
