use Rattle.anb_lemmas.proofs.Results.{if_ok_map}
use Rattle.anb_visible.proofs.Clean.{clean_visible}
use Rattle.anb_visible.proofs.visible.Goals as goal

pub returns-clause-clean : goal.returns-clause-clean
returns-clause-clean c = if_ok_map c.shown.result _ _ (λ v is. rw is (clean_visible c.args.bytes.now c.tell_bytes.ensures)) c.shown.ensures
