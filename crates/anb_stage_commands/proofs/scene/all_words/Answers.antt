use Rattle.std.proofs.Common.{◌∙◌, length, sym}
use Rattle.anb_lemmas.proofs.Results.{if_ok_map}
use Rattle.anb_stage_commands.specs.Asking.{staged}
use Rattle.anb_stage_commands.proofs.Scenes.{count_asked, count_own, own_failed}
use Rattle.anb_stage_commands.proofs.scene.all_words.Goals as goal

pub returns-in-Err-values_for-clause-refused : goal.returns-in-Err-values_for-clause-refused
returns-in-Err-values_for-clause-refused g c =
    own_failed (staged c.args.words) (g.F.Shelf.files c.args.shelf.now) c.args.protocol.now (g.F.Shelf.faults c.args.shelf.now) (g.F.Shelf.faults c.values_for.new.shelf)
    c.in-Err-values_for.status (sym c.names_file.ensures ∙ c.if-not-names_file.false) c.in-Err-values_for.ensures.refused

pub returns-clause-counts : goal.returns-clause-counts
returns-clause-counts g c =
    let p = c.args.protocol.now in
    let fitted = c.in-Ok-values_for.fitted in
    if_ok_map c.all_own_words.result _ _ (λ all is. count_asked c.args.words.limit all.items _ (length p.roles) is (count_own p fitted (staged c.args.words) 0 p.roles)) c.all_own_words.ensures.words
