use Rattle.std.proofs.Common.{◌++◌, sym, ap, ◌∙◌, arith}
use Rattle.std.specs.List.{flat_map}
use Rattle.std.proofs.lemmas.List.{append-nil, drop_all}
use Rattle.anb_report.specs.Collecting.{used}
use Rattle.anb_report.proofs.registers.used.Goals as goal

pub returns : goal.returns
returns c =
    let f = used c.args.how in
    let instrs = c.args.instrs.now in
    let out = c.loop-instr.out.items in
    sym (append-nil out) ∙ ap (λ l. out ++ flat_map f l) (sym (drop_all c.loop-instr.instr-index instrs (omega arith))) ∙ c.loop-instr.invariant
