use Rattle.std.proofs.Common.{Option, ◌∙◌, subst, sym, inl, inr, refl}
use Rattle.anb_base.proofs.Moving.{Rose-later}
use Rattle.anb_code.specs.CodeValue.{CodeValue}
use Rattle.anb_command.specs.Errands.{ErrandOf}
use Rattle.anb_command.specs.Fetches.{Files, IfTold}
use Rattle.anb_command.specs.Steps.{given}
use Rattle.anb_command.proofs.Failing.{IsFailure-map}
use Rattle.anb_park_commands.specs.Going.{RunsRole}
use Rattle.anb_park_commands.specs.Keys.{KeyIs}
use Rattle.anb_park_commands.proofs.Chains.{begun_given, begun_no_key, begun_no_part, begun_no_values, key_read, narration_read, values_read}
use Rattle.anb_park_commands.proofs.Small.{small_begun}
use Rattle.anb_park_commands.proofs.parking.prepare.Goals as goal

pub returns-in-Ok-key_in_file-clause-ready : goal.returns-in-Ok-key_in_file-clause-ready
returns-in-Ok-key_in_file-clause-ready g c =
    let told = g.F.Shelf.files c.args.shelf.now in
    let play = c.args.words.play in
    let role = c.in-Ok.owner.playable in
    let p = c.in-Ok-prepare_code.prepared in
    let first = c.owner_in_file.ensures.fetches.same_files in
    let next = c.prepare_code.ensures.fetches.same_files in
    begun_given told play.narration.now play.name.now play.values.now c.args.words.key.now c.args.host_seed role.protocol role.role role.code c.in-Ok.ensures.fits
    p.code p.initial p.seed c.in-Ok-prepare_code.ensures.same c.in-Ok.ensures.given (subst (λ (t : Option Files). IfTold t (λ files. ErrandOf files play.values.now c.args.host_seed role.code (given (record { code = p.code; initial = p.initial; seed = p.seed })))) first c.in-Ok-prepare_code.ensures.given)
    c.in-Ok.owner.id c.in-Ok-key_in_file.key c.in-Ok.ensures.runs c.in-Ok-prepare_code.ensures.bytes c.in-Ok.ensures.identity (subst (λ (t : Option Files). IfTold t (λ files. KeyIs files c.args.words.key.now (given c.in-Ok-key_in_file.key))) (next ∙ first) c.in-Ok-key_in_file.ensures.given)

pub returns-in-Ok-key_in_file-clause-small : goal.returns-in-Ok-key_in_file-clause-small
returns-in-Ok-key_in_file-clause-small g c =
    let role = c.in-Ok.owner.playable in
    let p = c.in-Ok-prepare_code.prepared in
    small_begun role.protocol role.role p.code (subst (λ (code : CodeValue). RunsRole role.protocol role.role code) (sym c.in-Ok-prepare_code.ensures.same) c.in-Ok.ensures.runs)
    c.in-Ok.owner.id p.seed p.initial c.in-Ok-prepare_code.ensures.takes c.in-Ok-prepare_code.ensures.total

pub returns-in-Err-clause-refused : goal.returns-in-Err-clause-refused
returns-in-Err-clause-refused g c =
    let told = g.F.Shelf.files c.args.shelf.now in
    let play = c.args.words.play in
    IsFailure-map c.in-Err.status _ _ _ _
    (λ file at. (inl at.0, at.1, narration_read told play.narration.now play.name.now play.values.now c.args.words.key.now c.args.host_seed file at.0))
    (λ is. begun_no_part told play.narration.now play.name.now play.values.now c.args.words.key.now c.args.host_seed c.in-Err.status is) c.in-Err.ensures.refused

pub returns-in-Err-prepare_code-clause-refused : goal.returns-in-Err-prepare_code-clause-refused
returns-in-Err-prepare_code-clause-refused g c =
    let told = g.F.Shelf.files c.args.shelf.now in
    let play = c.args.words.play in
    let role = c.in-Ok.owner.playable in
    let kept = c.owner_in_file.ensures.fetches in
    IsFailure-map c.in-Err-prepare_code.status _ _ _ _
    (λ file at. (
      inr (inl at.0),
      Rose-later _ _ _ (kept.never_falls file) at.1,
      values_read told play.narration.now play.name.now play.values.now c.args.words.key.now c.args.host_seed role.protocol role.role role.code c.in-Ok.ensures.fits file at.0 c.in-Ok.ensures.given,
    ))
    (λ is. begun_no_values told play.narration.now play.name.now play.values.now c.args.words.key.now c.args.host_seed role.protocol role.role role.code c.in-Ok.ensures.fits c.in-Err-prepare_code.status c.in-Ok.ensures.given is)
    (rw kept.same_files at c.in-Err-prepare_code.ensures.refused)

pub returns-clause-refused : goal.returns-clause-refused
returns-clause-refused g c =
    let told = g.F.Shelf.files c.args.shelf.now in
    let play = c.args.words.play in
    let role = c.in-Ok.owner.playable in
    let p = c.in-Ok-prepare_code.prepared in
    let kept = c.owner_in_file.ensures.fetches in
    let next = c.prepare_code.ensures.fetches in
    let s = c.in-Err-key_in_file.status in
    IsFailure-map s _ _ _ _
    (λ file at. (
      inr (inr (inl at.0)),
      Rose-later _ _ _ (kept.never_falls file) (Rose-later _ _ _ (next.never_falls file) at.1),
      key_read told play.narration.now play.name.now play.values.now c.args.words.key.now c.args.host_seed role.protocol role.role role.code c.in-Ok.ensures.fits
          p.code p.initial p.seed c.in-Ok-prepare_code.ensures.same c.in-Ok.ensures.given (subst (λ (t : Option Files). IfTold t (λ files. ErrandOf files play.values.now c.args.host_seed role.code (given (record { code = p.code; initial = p.initial; seed = p.seed })))) kept.same_files c.in-Ok-prepare_code.ensures.given) file at.0,
    ))
    (λ is. begun_no_key told play.narration.now play.name.now play.values.now c.args.words.key.now c.args.host_seed role.protocol role.role role.code c.in-Ok.ensures.fits
    p.code p.initial p.seed c.in-Ok-prepare_code.ensures.same c.in-Ok.ensures.given (subst (λ (t : Option Files). IfTold t (λ files. ErrandOf files play.values.now c.args.host_seed role.code (given (record { code = p.code; initial = p.initial; seed = p.seed })))) kept.same_files c.in-Ok-prepare_code.ensures.given) s is)
    (rw kept.same_files at (rw next.same_files at c.in-Err-key_in_file.ensures.refused))

pub returns-in-Ok-key_in_file-clause-told : goal.returns-in-Ok-key_in_file-clause-told
returns-in-Ok-key_in_file-clause-told g c = λ _. c.in-Ok-key_in_file.ensures.told refl ∙ c.in-Ok-prepare_code.ensures.told refl ∙ c.in-Ok.ensures.told refl

pub returns-in-Err-prepare_code-clause-told : goal.returns-in-Err-prepare_code-clause-told
returns-in-Err-prepare_code-clause-told g c = λ other. c.in-Err-prepare_code.ensures.told other ∙ c.in-Ok.ensures.told refl

pub returns-clause-told : goal.returns-clause-told
returns-clause-told g c = λ other. c.in-Err-key_in_file.ensures.told other ∙ c.in-Ok-prepare_code.ensures.told refl ∙ c.in-Ok.ensures.told refl

pub returns-in-Err-clause-told : goal.returns-in-Err-clause-told
returns-in-Err-clause-told g c = c.in-Err.ensures.told
