use Rattle.anb_branch_commands.proofs.Played.{arms_are_played}
use Rattle.anb_branch_commands.proofs.laws.arms_are_played.Goals as goal

pub returns : goal.returns
returns c =
    arms_are_played c.arms_are_narrations.ensures c.choices_are_unique.ensures c.branch_refusals_are_unique.ensures c.no_choice_is_refused.ensures
    c.narrations_are_unique.ensures c.refusals_are_unique.ensures c.none_is_both.ensures c.one_fit.ensures
