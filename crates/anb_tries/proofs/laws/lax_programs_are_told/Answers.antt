use Rattle.std.proofs.Common.{sym, subst}
use Rattle.anb_partner.specs.Laws.{PartnersPlay}
use Rattle.anb_protocol.specs.Protocols.{ProtocolValue}
use Rattle.anb_verdict.specs.Laws.{LinesAreExact}
use Rattle.anb_tries.proofs.Telling.{lax_is_told}
use Rattle.anb_tries.proofs.laws.lax_programs_are_told.Goals as goal

pub returns : goal.returns
returns c = λ a same is due tried good told.
    lax_is_told a (subst (λ (q : ProtocolValue). PartnersPlay q) (sym same) c.partners_play.ensures) (subst (λ (q : ProtocolValue). LinesAreExact q) (sym same) c.lines_are_exact.ensures) is due tried good told
