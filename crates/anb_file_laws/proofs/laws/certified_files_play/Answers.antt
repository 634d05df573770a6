use Rattle.anb_file_laws.proofs.Compiled.{certified_files_play}
use Rattle.anb_file_laws.proofs.laws.certified_files_play.Goals as goal

pub returns : goal.returns
returns c =
    certified_files_play c.narrations_are_unique.ensures c.refusals_are_unique.ensures c.none_is_both.ensures c.files_are_unique.ensures c.codes_are_unique.ensures c.none_is_both-2.ensures c.faults_are_unique.ensures
