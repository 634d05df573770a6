use Rattle.anb_park_commands.proofs.Splits.{split_as_whole}
use Rattle.anb_park_commands.proofs.laws.split_plays_are_whole.Goals as goal

pub returns : goal.returns
returns c = λ way narration name values key host_seed files handed.
    split_as_whole way c.narrations_are_unique.ensures c.refusals_are_unique.ensures c.none_is_both.ensures c.one_fit.ensures c.seals_longer.ensures c.protocols_hold.ensures c.known_texts_differ.ensures
    narration name values key host_seed files handed c.one_cut.ensures.exists c.one_cut.ensures.unique
