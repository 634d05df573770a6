use Rattle.std.proofs.Common.{refl}
use Rattle.anb_command.proofs.Failing.{IsFailure-map}
use Rattle.anb_values_commands.proofs.Drawn.{narration_refused, seed_refused, text_given}
use Rattle.anb_values_commands.proofs.drawing.drawn_for_file.Goals as goal

pub returns-in-Ok-drawn_text-clause-given : goal.returns-in-Ok-drawn_text-clause-given
returns-in-Ok-drawn_text-clause-given g c =
    text_given c.args.narration.now c.args.host_seed (g.F.Shelf.files c.args.shelf.now) c.in-Ok.protocol c.in-Ok.ensures.given c.in-Ok-seed_of.seed c.in-Ok-drawn_text.text
    c.in-Ok-seed_of.ensures.given c.in-Ok-drawn_text.ensures

pub returns-in-Err-seed_of-clause-refused : goal.returns-in-Err-seed_of-clause-refused
returns-in-Err-seed_of-clause-refused g c =
    IsFailure-map c.in-Err-seed_of.status _ _ _ _ (λ file never. absurd never)
    (λ is. seed_refused c.args.narration.now c.args.host_seed (g.F.Shelf.files c.args.shelf.now) c.in-Ok.protocol c.in-Ok.ensures.given c.in-Err-seed_of.status is) c.in-Err-seed_of.ensures.refused

pub returns-in-Err-clause-refused : goal.returns-in-Err-clause-refused
returns-in-Err-clause-refused g c =
    IsFailure-map c.in-Err.status _ _ _ _ (λ file cause. cause)
    (λ is. narration_refused c.args.narration.now c.args.host_seed (g.F.Shelf.files c.args.shelf.now) c.in-Err.status is) c.in-Err.ensures.refused

pub returns-in-Ok-drawn_text-clause-told : goal.returns-in-Ok-drawn_text-clause-told
returns-in-Ok-drawn_text-clause-told g c = λ _. c.in-Ok.ensures.told refl

pub returns-in-Err-seed_of-clause-told : goal.returns-in-Err-seed_of-clause-told
returns-in-Err-seed_of-clause-told g c = λ _. c.in-Ok.ensures.told refl

pub returns-in-Err-clause-told : goal.returns-in-Err-clause-told
returns-in-Err-clause-told g c = c.in-Err.ensures.told
