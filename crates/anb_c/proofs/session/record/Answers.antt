use Rattle.std.proofs.Common.{◌∙◌, sym}
use Rattle.anb_lemmas.proofs.Results.{if_ok_map}
use Rattle.anb_c.proofs.Turning.{stands_in}
use Rattle.anb_c.proofs.session.record.Goals as goal

pub returns-clause-record : goal.returns-clause-record
returns-clause-record c =
    if_ok_map c.park-sealed.result.0 _ _
    (λ sealed is code p sent at. is code p sent (stands_in code p sent c.args.session.now c.in-Some.live (sym c.take.ensures.value ∙ c.in-Some.is) c.requires.0 at)) c.park-sealed.ensures.record
