use Rattle.std.proofs.Common.{◌≢◌, ◌∙◌, ℕ, List, refl, subst, sym}
use Rattle.std.specs.Prelude.{AllPairs}
use Rattle.anb_command.specs.Fetches.{IfTold}
use Rattle.anb_command.specs.Steps.{given}
use Rattle.anb_check_commands.specs.CheckValues.{ValuesTextIs, values_text}
use Rattle.anb_command.specs.Roles.{Part}
use Rattle.anb_check_commands.proofs.Values.{part_fails, text_fails, text_given}
use Rattle.anb_check_commands.proofs.asking.asked_in_files.Goals as goal

pub returns-in-Err-clause-refused : goal.returns-in-Err-clause-refused
returns-in-Err-clause-refused g c =
    part_fails c.args.narration.now c.args.name.now c.args.values.now (g.F.Shelf.files c.args.shelf.now) (g.F.Shelf.faults c.args.shelf.now) (g.F.Shelf.faults c.part_in_file.new.shelf)
    c.in-Err.status c.in-Err.ensures.refused

pub returns-in-Err-fetch_file-clause-refused : goal.returns-in-Err-fetch_file-clause-refused
returns-in-Err-fetch_file-clause-refused g c =
    let kept = c.part_in_file.ensures.fetches in
    let part : Part = record { protocol = c.in-Ok.playable.protocol; role = c.in-Ok.playable.role } in
    text_fails c.args.narration.now c.args.name.now c.args.values.now (g.F.Shelf.files c.args.shelf.now) (g.F.Shelf.faults c.args.shelf.now) (g.F.Shelf.faults c.fetch_file.new.shelf)
    (g.F.Shelf.faults c.part_in_file.new.shelf) part c.in-Ok.ensures.given kept.never_falls c.in-Err-fetch_file.status (rw kept.same_files at c.in-Err-fetch_file.ensures.err)

pub returns-in-Ok-known-clause-given : goal.returns-in-Ok-known-clause-given
returns-in-Ok-known-clause-given g c =
    let told = g.F.Shelf.files c.args.shelf.now in
    let kept = c.part_in_file.ensures.fetches in
    let part : Part = record { protocol = c.in-Ok.playable.protocol; role = c.in-Ok.playable.role } in
    let file = rw kept.same_files at c.in-Ok-fetch_file.ensures.file in
    subst (λ (names : List (List ℕ)). IfTold told (λ files. ValuesTextIs files c.args.narration.now c.args.name.now c.args.values.now (given (values_text names c.in-Ok-fetch_file.text))))
    (sym c.in-Ok-known.ensures) (text_given c.args.narration.now c.args.name.now c.args.values.now told part c.in-Ok.ensures.given c.in-Ok-fetch_file.text file)

pub returns-in-Ok-known-clause-differ : goal.returns-in-Ok-known-clause-differ
returns-in-Ok-known-clause-differ g c =
    subst (λ (names : List (List ℕ)). AllPairs (λ (one other : List ℕ). one ≢ other) names) (sym c.in-Ok-known.ensures)
    (c.known_texts_differ.ensures c.in-Ok.playable.protocol c.in-Ok.playable.role c.name.ensures.protocol)

pub returns-in-Err-clause-told : goal.returns-in-Err-clause-told
returns-in-Err-clause-told g c = c.in-Err.ensures.told

pub returns-in-Err-fetch_file-clause-told : goal.returns-in-Err-fetch_file-clause-told
returns-in-Err-fetch_file-clause-told g c = λ other. c.in-Err-fetch_file.ensures.told other ∙ c.in-Ok.ensures.told refl

pub returns-in-Ok-known-clause-told : goal.returns-in-Ok-known-clause-told
returns-in-Ok-known-clause-told g c = λ _. c.in-Ok-fetch_file.ensures.told refl ∙ c.in-Ok.ensures.told refl
