use Rattle.std.proofs.Common.{Bool, sym, ap, ◌∙◌}
use Rattle.anb_lemmas.proofs.Results.{on_ok_map}
use Rattle.anb_probe_commands.specs.Cases.{joined_once, more_lines, with_line}
use Rattle.anb_probe_commands.proofs.untried.put_more.Goals as goal

pub returns-in_ok-text_line : goal.returns-in_ok-text_line
returns-in_ok-text_line c =
    on_ok_map c.put_once.result (λ e. e ∙ ap (with_line c.args.lines.now.items) c.in_ok-text_line.ensures ∙ ap (λ (b : Bool). joined_once c.args.lines.now.items (more_lines b)) (sym c.if-more.true)) c.put_once.ensures
