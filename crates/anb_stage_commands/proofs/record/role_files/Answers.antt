use Rattle.std.proofs.Common.{◌≡◌, ◌∙◌, rules, sym}
use Rattle.anb_stage_commands.specs.Records.{errors_of, transcript_of}
use Rattle.anb_stage_commands.proofs.Logged.{transcript_differs}
use Rattle.anb_stage_commands.proofs.record.role_files.Goals as goal

pub invariant_of-result : goal.invariant_of-result
invariant_of-result c =
    let first : c.new.result ≡ transcript_of c.args.folder.now c.args.role.now = search rules in
    let second : c.new-2.result ≡ errors_of c.args.folder.now c.args.role.now = search rules in
    record { differ = λ same. transcript_differs c.args.folder.now c.args.role.now (sym first ∙ same ∙ second) }
