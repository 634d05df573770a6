use Rattle.std.proofs.Common.{refl, inl, inr}
use Rattle.anb_base.proofs.Moving.{Rose-later}
use Rattle.anb_command.proofs.Chains.{told_map}
use Rattle.anb_command.proofs.Failing.{IsFailure-map}
use Rattle.anb_command.proofs.Preparing.{told_both}
use Rattle.anb_stage_commands.proofs.Scenes.{told_all}
use Rattle.anb_stage_commands.proofs.scene.scene_in_files.Goals as goal

pub returns-in-Ok-all_words-clause-given : goal.returns-in-Ok-all_words-clause-given
returns-in-Ok-all_words-clause-given g c =
    let kept = c.cast_in_file.ensures.fetches in
    told_both (g.F.Shelf.files c.args.shelf.now) (λ files f is. inr (c.in-Ok.protocol, f, is)) c.in-Ok.ensures.given (rw kept.same_files at c.in-Ok-all_words.ensures.given)

pub returns-in-Err-all_words-clause-refused : goal.returns-in-Err-all_words-clause-refused
returns-in-Err-all_words-clause-refused g c =
    let kept = c.cast_in_file.ensures.fetches in
    IsFailure-map c.in-Err-all_words.status _ _ _ _ (λ file at. (
      inr at.0,
      Rose-later _ _ _ (kept.never_falls file) at.1,
      told_map (g.F.Shelf.files c.args.shelf.now) (λ files f. inr (at.0, (c.in-Ok.protocol, f))) c.in-Ok.ensures.given,
    ))
    (λ is. told_both (g.F.Shelf.files c.args.shelf.now) (λ files f is. inr (c.in-Ok.protocol, f, is)) c.in-Ok.ensures.given is)
    (rw kept.same_files at c.in-Err-all_words.ensures.refused)

pub returns-in-Err-clause-refused : goal.returns-in-Err-clause-refused
returns-in-Err-clause-refused g c =
    IsFailure-map c.in-Err.status _ _ _ _ (λ file cause. (inl cause.0, cause.1, told_all (g.F.Shelf.files c.args.shelf.now) (λ files. inl cause.0)))
    (λ is. told_map (g.F.Shelf.files c.args.shelf.now) (λ files f. inl (c.in-Err.status, f, refl)) is) c.in-Err.ensures.refused
