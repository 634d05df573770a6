use Rattle.anb_real_tests.proofs.trials.end_of.Goals as goal

pub started-requires : goal.started-requires
started-requires c = c.new-trials.ensures 0
