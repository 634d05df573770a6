use Rattle.anb_real_tests.proofs.trials.a_child_may_speak_before_it_hears.Goals as goal

pub started-requires : goal.started-requires
started-requires g c = c.new-trials.ensures 0
