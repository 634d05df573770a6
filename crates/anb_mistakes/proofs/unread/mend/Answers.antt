use Rattle.anb_lemmas.proofs.Results.{if_ok_map}
use Rattle.anb_mistakes.proofs.Unreadable.{never_memory, words_mend}
use Rattle.anb_mistakes.proofs.unread.mend.Goals as goal

pub returns-in_default : goal.returns-in_default
returns-in_default c =
    let x = c.args.text.now in
    let why = c.args.why in
    if_ok_map c.words.result _ _ (λ v. words_mend x why v.items c.in_default.not-Deep c.in_default.not-Grammar (never_memory x why c.requires.refused)) c.words.ensures
