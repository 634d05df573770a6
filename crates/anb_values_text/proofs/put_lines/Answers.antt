use Rattle.std.proofs.Common.{◌≡◌, ◌∙◌, ◌+◌, ◌++◌, take, ap, sym, arith, append_assoc}
use Rattle.anb_values_text.specs.Texts.{line_text, lines_text, value_text}
use Rattle.anb_values_text.proofs.Appending.{lines_next}
use Rattle.anb_values_text.proofs.put_lines.Goals as goal

pub loop-i-preserved : goal.loop-i-preserved
loop-i-preserved c =
    let labels = c.args.labels.now in
    let values = c.args.values.now in
    let i = c.loop-i.i in
    let line = line_text c.index-labels-i.result (value_text c.index-values-i.result) in
    (rw (c.as_str.ensures, c.as_slice.ensures) at c.in_ok-put_line.ensures)
    ∙ ap (λ t. t ++ line) c.loop-i.invariant ∙ append_assoc c.args.out.now.items (lines_text (take i labels) (take i values)) line
    ∙ ap (λ t. c.args.out.now.items ++ t) (sym (lines_next labels values i c.index-labels-i.result c.index-values-i.result (omega arith) c.requires c.index-labels-i.is c.index-values-i.is))
