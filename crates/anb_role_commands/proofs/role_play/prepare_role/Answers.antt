use Rattle.anb_command.proofs.Failing.{IsFailure-map}
use Rattle.anb_command.proofs.Preparing.{if_err_map, if_ok_four}
use Rattle.anb_role_commands.proofs.Preparing.{role_prepared, role_ready, role_ready_in_each, role_refused}
use Rattle.anb_role_commands.proofs.role_play.prepare_role.Goals as goal

pub returns-clause-ready : goal.returns-clause-ready
returns-clause-ready g c =
    let role = c.args.playable in
    let e = c.prepare_code.ensures in
    if_ok_four c.prepare_code.result _ _ _ _ _ (λ p errand same takes bytes.
    role_ready c.args.values.now c.args.host_seed role.protocol role.role role.code c.requires.fits (g.F.Shelf.files c.args.shelf.now) p.code p.initial p.seed same errand c.fitting_codes_play.ensures takes bytes)
    e.given e.same e.takes e.bytes

pub returns-clause-prepared : goal.returns-clause-prepared
returns-clause-prepared g c =
    let role = c.args.playable in
    let e = c.prepare_code.ensures in
    if_ok_four c.prepare_code.result _ _ _ _ _ (λ p errand same takes bytes.
    role_prepared c.args.values.now c.args.host_seed role.protocol role.role role.code c.requires.fits (g.F.Shelf.files c.args.shelf.now) p.code p.initial p.seed same errand c.fitting_codes_play.ensures takes bytes)
    e.given e.same e.takes e.bytes

pub returns-clause-sessions : goal.returns-clause-sessions
returns-clause-sessions g c =
    let role = c.args.playable in
    let e = c.prepare_code.ensures in
    if_ok_four c.prepare_code.result _ _ _ _ _ (λ p errand same takes bytes.
    role_ready_in_each c.args.values.now c.args.host_seed role.protocol role.role role.code c.requires.fits (g.F.Shelf.files c.args.shelf.now) p.code p.initial p.seed same errand c.fitting_codes_play.ensures takes bytes)
    e.given e.same e.takes e.bytes

pub returns-clause-refused : goal.returns-clause-refused
returns-clause-refused g c =
    let role = c.args.playable in
    if_err_map c.prepare_code.result _ _ (λ s fails. IsFailure-map s _ _ _ _ (λ file at. at)
    (λ is. role_refused c.args.values.now c.args.host_seed role.protocol role.role role.code c.requires.fits (g.F.Shelf.files c.args.shelf.now) s is) fails) c.prepare_code.ensures.refused
