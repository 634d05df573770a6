use Rattle.std.proofs.Common.{drop, sym, ap, ◌∙◌, List}
use Rattle.std.proofs.lemmas.List.{drop_all}
use Rattle.anb_attempts.specs.declared.attempts.Attempt.{Attempt}
use Rattle.anb_probe_commands.specs.Cases.{joined_once}
use Rattle.anb_probe_commands.specs.Reports.{all_lacking}
use Rattle.anb_probe_commands.proofs.Listing.{no_more_verdicts, past_so}
use Rattle.anb_probe_commands.proofs.report.lacking.Goals as goal

pub returns-in_default : goal.returns-in_default
returns-in_default c =
    let p = c.args.p.now in
    sym (ap (joined_once c.loop-i.lines.items) (no_more_verdicts p c.args.role c.args.cases.now c.args.verdicts.now c.loop-i.i (past_so c.args.verdicts.now c.loop-i.i c.in_default.ensures.lookup.0))) ∙ c.loop-i.invariant

pub returns : goal.returns
returns c =
    sym (ap (λ (cs : List Attempt). joined_once c.loop-i.lines.items (all_lacking c.args.p.now c.args.role cs (drop c.loop-i.i c.args.verdicts.now))) (drop_all c.loop-i.i c.args.cases.now c.loop-i-test.false)) ∙ c.loop-i.invariant
