use Rattle.anb_drill.proofs.Drilled.{ends, is_drilled}
use Rattle.anb_drill.proofs.laws.drills_are_done.Goals as goal

pub returns : goal.returns
returns c = λ n codes values seed atoms most short are. (ends n most codes values seed atoms are short, is_drilled n most codes values seed atoms are short)
