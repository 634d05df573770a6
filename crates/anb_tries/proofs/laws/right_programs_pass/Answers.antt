use Rattle.std.proofs.Common.{◌≡◌, List, sym, ◌∙◌, subst}
use Rattle.anb_base.specs.declared.content.Suite.{Suite}
use Rattle.anb_format.specs.Formats.{FormatValue}
use Rattle.anb_algebra.specs.ByteMeaning.{byte_meaning}
use Rattle.anb_term.specs.Statements.{NewAtomAgrees}
use Rattle.anb_partner.specs.Laws.{PartnersPlay}
use Rattle.anb_protocol.specs.Plays.{meaning_of}
use Rattle.anb_protocol.specs.Protocols.{ProtocolValue}
use Rattle.anb_verdict.specs.Laws.{LinesAreExact}
use Rattle.anb_tries.proofs.Passing.{right_passes}
use Rattle.anb_tries.proofs.laws.right_programs_pass.Goals as goal

pub returns : goal.returns
returns c = λ a same is due read unrefused plays stops.
    let p = c.args.p.now in
    let e = c.new.ensures in
    let formats : c.new.result.formats ≡ p.formats = e.formats ∙ c.formats.ensures in
    let suite : c.new.result.suite ≡ p.suite = e.suite ∙ c.suite.ensures in
    let P : List FormatValue → Type 0 = λ f. NewAtomAgrees (byte_meaning f c.new.result.suite) in
    let Q : Suite → Type 0 = λ s. NewAtomAgrees (byte_meaning p.formats s) in
    let new_atom : NewAtomAgrees (meaning_of p) = subst Q suite (subst P formats c.new_atom_agrees.ensures) in
    right_passes a (subst (λ (q : ProtocolValue). PartnersPlay q) (sym same) c.partners_play.ensures) (subst (λ (q : ProtocolValue). LinesAreExact q) (sym same) c.lines_are_exact.ensures)
    (subst (λ (q : ProtocolValue). NewAtomAgrees (meaning_of q)) (sym same) new_atom)
    (c.made_is_new.ensures a.script.protocol a.script.role) (c.plans_know_first.ensures a.script.protocol a.script.role) is due read unrefused plays stops
