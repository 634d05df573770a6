use Rattle.std.proofs.Common.{[], ◌∷◌, sym, ◌∙◌}
use Rattle.std.proofs.lemmas.List.{append-nil}
use Rattle.anb_close.proofs.Linking.{set_stays, set_lists}
use Rattle.anb_close.proofs.parents.link_one.Goals as goal

pub returns-in_err-push-clause-stay : goal.returns-in_err-push-clause-stay
returns-in_err-push-clause-stay c = set_stays c.args.parents.now.items c.args.at c.index_mut.result.now c.push.new.self [] c.requires.within c.index_mut.ensures.value (c.in_err-push.ensures.items ∙ sym (append-nil c.index_mut.result.now.items))

pub returns-clause-stay : goal.returns-clause-stay
returns-clause-stay c = set_stays c.args.parents.now.items c.args.at c.index_mut.result.now c.push.new.self (c.args.n ∷ []) c.requires.within c.index_mut.ensures.value c.in_ok-push.ensures.items

pub returns-clause-listed : goal.returns-clause-listed
returns-clause-listed c = set_lists c.args.parents.now.items c.args.at c.args.n c.index_mut.result.now c.push.new.self c.requires.within c.in_ok-push.ensures.items
