use Rattle.std.proofs.Common.{◌+◌, sym, ◌∙◌}
use Rattle.std.proofs.lemmas.List.{take_rest}
use Rattle.anb_text.proofs.Progress.{split_at, no_split}
use Rattle.anb_text.proofs.loading.split_line.Goals as goal

pub returns-in_default-clause-none : goal.returns-in_default-clause-none
returns-in_default-clause-none c = no_split c.args.text.now (λ end e. c.in_default.not-Some end (c.line_end.ensures ∙ e))

pub returns-clause-some : goal.returns-clause-some
returns-clause-some c = rw (take_rest c.args.text.now (c.in-Some.end + 1)) (split_at c.args.text.now c.in-Some.end (sym c.line_end.ensures ∙ c.in-Some.is))
