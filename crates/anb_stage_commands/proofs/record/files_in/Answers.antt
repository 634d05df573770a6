use Rattle.std.proofs.Common.{◌≡◌, ◌∙◌, rules, sym}
use Rattle.anb_stage_commands.specs.Records.{left_in, report_in}
use Rattle.anb_stage_commands.proofs.Logged.{report_differs}
use Rattle.anb_stage_commands.proofs.record.files_in.Goals as goal

pub invariant_of-push : goal.invariant_of-push
invariant_of-push c =
    let first : c.new.result ≡ report_in c.args.folder.now = search rules in
    let second : c.new-2.result ≡ left_in c.args.folder.now = search rules in
    record { differ = λ same. report_differs c.args.folder.now (sym first ∙ same ∙ second) }
