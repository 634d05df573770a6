use Rattle.anb_lemmas.proofs.Results.{if_ok_map}
use Rattle.anb_text_commands.proofs.Spelling.{spellable}
use Rattle.anb_c.proofs.Reading.{read_as}
use Rattle.anb_c.proofs.compiling.file_of.Goals as goal

pub returns-clause-read : goal.returns-clause-read
returns-clause-read c =
    let p = c.args.protocol.now in
    let code = c.args.code.now in
    let verified = c.instrs-verified.ensures.verified in
    let can = spellable p c.name-lawful.ensures.protocol c.args.role code c.requires verified in
    if_ok_map c.print.result _ _ (read_as code verified can c.codes_are_unique.ensures c.codes_are_not_refused.ensures) c.print.ensures
