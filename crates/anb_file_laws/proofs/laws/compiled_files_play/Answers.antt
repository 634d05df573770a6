use Rattle.anb_file_laws.proofs.Compiled.{compiled_files_play}
use Rattle.anb_file_laws.proofs.laws.compiled_files_play.Goals as goal

pub returns : goal.returns
returns c =
    compiled_files_play c.narrations_are_unique.ensures c.refusals_are_unique.ensures c.none_is_both.ensures c.files_are_unique.ensures c.codes_are_unique.ensures c.none_is_both-2.ensures c.faults_are_unique.ensures
