use Rattle.std.proofs.Common.{ℕ, ap, ◌∙◌}
use Rattle.anb_partner.specs.Trials.{Trial}
use Rattle.anb_real_tests.proofs.trials.a_child_hears_and_says.Goals as goal

pub finish-requires : goal.finish-requires
finish-requires g c = record { running = ap (λ (trial : ℕ → Trial). (trial 0).phase) c.close.ensures.trials ∙ c.in_ok-child.ensures }
