use Rattle.std.proofs.Common.{◌≡◌, ◌+◌, ◌++◌, drop, map, sym, ap, ◌∙◌, append_assoc, arith}
use Rattle.std.proofs.lemmas.List.{append-nil}
use Rattle.anb_lemmas.proofs.Each.{each_got}
use Rattle.anb_term.specs.View.{tree_of}
use Rattle.anb_term.proofs.Lists.{slice_get-at}
use Rattle.anb_protocol.specs.Texts.{IsTermOf}
use Rattle.anb_trace.specs.Words.{value_line, value_lines}
use Rattle.anb_trace.proofs.Placing.{lines_over, one_line}
use Rattle.anb_trace.proofs.values.put_value_lines.Goals as goal

pub put_value_line-requires : goal.put_value_line-requires
put_value_line-requires c =
    each_got (IsTermOf c.args.protocol.now) (map tree_of c.args.terms.now) c.loop-i.i (tree_of c.in-Some.term.now) c.requires c.in-Some.ensures.some

pub returns-in_default : goal.returns-in_default
returns-in_default c =
    let over = lines_over c.args.protocol.now (map tree_of c.args.terms.now) c.args.values.now c.loop-i.i c.in_default.ensures.none in
    sym (append-nil c.loop-i.out.items) ∙ ap (λ l. c.loop-i.out.items ++ l) (sym over) ∙ c.loop-i.invariant

pub loop-i-preserved : goal.loop-i-preserved
loop-i-preserved c =
    let p = c.args.protocol.now in
    let ts = map tree_of c.args.terms.now in
    let values = c.args.values.now in
    let i = c.loop-i.i in
    let x = c.index-values-i.result in
    let t = tree_of c.in-Some.term.now in
    let first = one_line p ts values i t x c.in-Some.ensures.some (slice_get-at values i x (omega arith) c.index-values-i.is) in
    let rest = value_lines p (drop (i + 1) ts) (drop (i + 1) values) in
    let put : c.put_value_line.new.out.items ≡ c.loop-i.out.items ++ value_line p t x = rw (sym c.as_slice.ensures) c.in_ok-put_value_line.ensures in
    ap (λ l. l ++ rest) put ∙ append_assoc c.loop-i.out.items (value_line p t x) rest ∙ ap (λ l. c.loop-i.out.items ++ l) (sym first) ∙ c.loop-i.invariant
