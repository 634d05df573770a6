use Rattle.std.proofs.Common.{sym, subst, arith}
use Rattle.std.specs.List.{AllByRecursion}
use Rattle.anb_term.specs.Tree.{Tree}
use Rattle.anb_term.proofs.Lists.{all_drop}
use Rattle.anb_protocol.specs.Texts.{IsTermOf}
use Rattle.anb_trace.proofs.Placing.{count_front}
use Rattle.anb_trace.proofs.instrs.put_instr_lines.Goals as goal

pub terms_from-terms-requires : goal.terms_from-terms-requires
terms_from-terms-requires c =
    let s = c.args.subject.now in
    omega (arith, c.requires.first, c.requires.ours.count, count_front s.code.now.formats s.code.now.instrs c.args.at)

pub put_value_lines-requires : goal.put_value_lines-requires
put_value_lines-requires c =
    let s = c.args.subject.now in
    let P : Tree → Type 0 = IsTermOf s.protocol.now in
    subst (AllByRecursion P) (sym c.terms_from-terms.ensures) (all_drop P c.args.first s.explanation.now.terms c.requires.ours.terms)
