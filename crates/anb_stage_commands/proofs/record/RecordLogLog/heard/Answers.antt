use Rattle.std.proofs.Common.{◌∙◌}
use Rattle.anb_stage_commands.specs.Telling.{all_names, goes_as, goes_further}
use Rattle.anb_stage_commands.proofs.Logged.{heard_same}
use Rattle.anb_stage_commands.proofs.record.RecordLogLog.heard.Goals as goal

pub returns : goal.returns
returns g c =
    let files = c.args.self.now.files.now in
    let old = g.J.Store.state c.args.self.now.journal.now in
    let mid = g.J.Store.state c.note.new.self.journal.now in
    let new = g.J.Store.state c.report.new.self.journal.now in
    let first = c.args.self.now.lack in
    let second = c.note.new.self.lack in
    let third = c.report.new.self.lack in (
      c.report.ensures.same_reference ∙ c.note.ensures.same_reference,
      c.report.ensures.same_files ∙ c.note.ensures.same_files,
      goes_as files old new first third _ _ (heard_same (all_names files) c.args.action c.args.role c.args.bytes.now)
          (goes_further files old mid new first second third _ _ c.note.ensures.goes (rw c.note.ensures.same_files at c.report.ensures.goes)),
    )
