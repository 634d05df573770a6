use Rattle.std.proofs.Common.{◌≡◌, ℕ, ◌+◌, ◌-◌, ◌≤◌, List, ◌++◌, map, take, drop, Option, Some, sym, ap, ◌∙◌, subst, arith}
use Rattle.std.specs.Prelude.{slice_get, IfOk, IfSome}
use Rattle.std.specs.List.{AllByRecursion}
use Rattle.anb_base.specs.declared.TheConstants.{ARRIVAL, WIDE}
use Rattle.anb_format.specs.Formats.{FormatValue, field_count}
use Rattle.anb_term.specs.Tree.{Tree}
use Rattle.anb_term.specs.View.{tree_of}
use Rattle.anb_term.proofs.Lists.{all_take, all_drop, slice_get-at, map-take, map-drop}
use Rattle.anb_protocol.specs.Texts.{IsTermOf, term_text}
use Rattle.anb_code.specs.declared.instr.Instr.{Instr}
use Rattle.anb_code.specs.Registers.{count_written}
use Rattle.anb_code.specs.Spelling.{raw_instr, raw_of}
use Rattle.anb_compile.proofs.Valuing.{few_fields}
use Rattle.anb_text.specs.Lines.{instr_line}
use Rattle.anb_text.specs.RoleFiles.{instr_lines}
use Rattle.anb_text.proofs.Written.{not_all, one_part, same_due}
use Rattle.anb_explain.specs.Explained.{code_text, line, note}
use Rattle.anb_explain.proofs.Lines.{one_more, said, shown, shown_first}
use Rattle.anb_explain.proofs.code.write_code.Goals as goal

pub count_written-requires : goal.count_written-requires
count_written-requires g c =
    let P : List FormatValue → Type 0 = λ l. AllByRecursion (λ (format : FormatValue). field_count format.pieces ≤ 32) l in
    subst P (sym c.formats-formats.ensures.formats) (few_fields ARRIVAL WIDE c.args.code.now c.formats-formats.ensures.verified)

pub instr_text-line-requires-clause-terms : goal.instr_text-line-requires-clause-terms
instr_text-line-requires-clause-terms g c =
    let next = c.loop-i.next in
    let k = c.count_written.result in
    let n = next + k - next in
    let ts = c.args.terms.now in
    let moved : map tree_of (take n (drop next ts)) ≡ take n (drop next (map tree_of ts)) = map-take tree_of n (drop next ts) ∙ ap (take n) (map-drop tree_of next ts) in
    let P : List Tree → Type 0 = AllByRecursion (IsTermOf c.args.protocol.now) in
    subst P (sym moved) (all_take (IsTermOf c.args.protocol.now) n (drop next (map tree_of ts)) (all_drop (IsTermOf c.args.protocol.now) next (map tree_of ts) c.requires.terms))

pub returns-in-Err-clause-written : goal.returns-in-Err-clause-written
returns-in-Err-clause-written g c =
    let code = c.args.code.now in
    let p = c.args.protocol.now in
    let ts = c.args.terms.now in
    let raws = (raw_of code).code in
    let x = c.instr-item.result in
    let i = c.loop-i.i in
    let next = c.loop-i.next in
    let k = c.count_written.result in
    let v = c.loop-i.invariant in
    let items = c.instrs-instr-items.result.now in
    let P : List Instr → Type 0 = λ l. slice_get l i ≡ Some x in
    let here = subst P c.instrs-instr-items.ensures.instrs (slice_get-at items i x (omega arith) c.instr-item.is) in
    let many = c.count_written.ensures ∙ ap (λ (f : List FormatValue). count_written f x) c.formats-formats.ensures.formats in
    let part = shown p code.formats ts code.instrs raws i next k x here many v.explaining in
    let first = shown_first p code.formats ts code.instrs raws i next k x here many v.explaining in
    let at : i + 1 - 1 ≡ i = omega arith in
    let width : next + k - next ≡ k = omega arith in
    let there : slice_get (instr_lines code) (i + 1 - 1) ≡ Some (instr_line (raw_instr code.formats next x)) =
    ap (slice_get (instr_lines code)) at ∙ said p code.formats ts code.instrs raws i next k x here many v.explaining in
    let Q : Option (List ℕ) → ℕ → Type 0 = λ o n. IfOk c.instr_text-line.result (λ bytes. IfSome o (λ said. bytes.items ≡ line (said ++ note (map (term_text p) (map tree_of (take n (drop next ts))))))) in
    let piece = subst (λ n. Q (Some (instr_line (raw_instr code.formats next x))) n) width (subst (λ o. Q o (next + k - next)) there c.instr_text-line.ensures) in
    not_all (code_text p (map tree_of ts) code) _ _ _ _ _ _ part _ (same_due _ _ _ _ _ _ _ first v.due) c.in-Err.no (c.in-Err.ensures.written part piece)

pub loop-i-preserved : goal.loop-i-preserved
loop-i-preserved g c =
    let code = c.args.code.now in
    let p = c.args.protocol.now in
    let ts = c.args.terms.now in
    let raws = (raw_of code).code in
    let x = c.instr-item.result in
    let i = c.loop-i.i in
    let next = c.loop-i.next in
    let k = c.count_written.result in
    let v = c.loop-i.invariant in
    let items = c.instrs-instr-items.result.now in
    let P : List Instr → Type 0 = λ l. slice_get l i ≡ Some x in
    let here = subst P c.instrs-instr-items.ensures.instrs (slice_get-at items i x (omega arith) c.instr-item.is) in
    let many = c.count_written.ensures ∙ ap (λ (f : List FormatValue). count_written f x) c.formats-formats.ensures.formats in
    let part = shown p code.formats ts code.instrs raws i next k x here many v.explaining in
    let first = shown_first p code.formats ts code.instrs raws i next k x here many v.explaining in
    let at : i + 1 - 1 ≡ i = omega arith in
    let width : next + k - next ≡ k = omega arith in
    let there : slice_get (instr_lines code) (i + 1 - 1) ≡ Some (instr_line (raw_instr code.formats next x)) =
    ap (slice_get (instr_lines code)) at ∙ said p code.formats ts code.instrs raws i next k x here many v.explaining in
    let Q : Option (List ℕ) → ℕ → Type 0 = λ o n. IfOk c.instr_text-line.result (λ bytes. IfSome o (λ said. bytes.items ≡ line (said ++ note (map (term_text p) (map tree_of (take n (drop next ts))))))) in
    let piece = subst (λ n. Q (Some (instr_line (raw_instr code.formats next x))) n) width (subst (λ o. Q o (next + k - next)) there c.instr_text-line.ensures) in
    record {
      explaining = one_more p code.formats ts code.instrs raws i next k x here many v.explaining;
      due = one_part (code_text p (map tree_of ts) code) _ _ _ _ _ _ part _ (same_due _ _ _ _ _ _ _ first v.due) c.in-Ok.field-0 (c.in-Ok.ensures.written part piece);
      kept = c.write_part.ensures.kept ∙ v.kept;
    }
