use Rattle.std.proofs.Common.{◌≡◌, ◌∷◌, map, take}
use Rattle.anb_stage_commands.specs.Records.{files_of, left_in, report_in}
use Rattle.anb_stage_commands.specs.Telling.{all_names}
use Rattle.anb_stage_commands.proofs.record.files_in.Given as goal

abbrev pub invariant-loop-role : goal.invariant-loop-role
invariant-loop-role l = all_names l.files.items ≡ (report_in l.fn.folder, left_in l.fn.folder) ∷ map (files_of l.fn.folder) (take l.role-index l.roles)
