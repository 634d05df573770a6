use Rattle.anb_text_commands.proofs.Spelling.{spellable}
use Rattle.anb_text_commands.proofs.explanation_for.Goals as goal

pub returns-in-RoleFile-clause-spellable : goal.returns-in-RoleFile-clause-spellable
returns-in-RoleFile-clause-spellable c =
    let p = c.args.playable.now in spellable p.protocol c.name-protocol.ensures.protocol p.role p.code c.requires.fits c.instrs-verified.ensures.verified

pub returns-in-Ok-clause-spellable : goal.returns-in-Ok-clause-spellable
returns-in-Ok-clause-spellable c =
    let p = c.args.playable.now in spellable p.protocol c.name-protocol.ensures.protocol p.role p.code c.requires.fits c.instrs-verified.ensures.verified

pub returns-in-Err-clause-spellable : goal.returns-in-Err-clause-spellable
returns-in-Err-clause-spellable c =
    let p = c.args.playable.now in spellable p.protocol c.name-protocol.ensures.protocol p.role p.code c.requires.fits c.instrs-verified.ensures.verified
