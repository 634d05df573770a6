use Rattle.std.proofs.Common.{sym, ◌∙◌}
use Rattle.anb_lemmas.proofs.Each.{all_of_next}
use Rattle.anb_format.specs.Formats.{FormatValue, IsSound}
use Rattle.anb_code.specs.Table.{format_faults}
use Rattle.anb_code.proofs.Rows.{passed_over}
use Rattle.anb_code.proofs.checks.check_formats.Goals as goal

pub loop-i-preserved : goal.loop-i-preserved
loop-i-preserved c =
    let formats = c.args.formats.now in
    let format = c.index-formats-i.result in
    let P = λ (each : FormatValue). IsSound each.pieces in record {
      faults = sym (passed_over format_faults formats c.loop-i.i format c.loop-i-test.true c.index-formats-i.is c.in_ok-check_format.ensures.fine) ∙ c.loop-i.invariant.faults;
      sound = all_of_next P formats c.loop-i.i format c.loop-i-test.true c.index-formats-i.is c.in_ok-check_format.ensures.sound c.loop-i.invariant.sound;
    }
