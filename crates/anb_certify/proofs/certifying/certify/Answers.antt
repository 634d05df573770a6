use Rattle.std.proofs.Common.{List, ◌∙◌, subst}
use Rattle.anb_lemmas.proofs.Results.{on_ok_map}
use Rattle.anb_base.specs.declared.content.Suite.{Suite}
use Rattle.anb_format.specs.Formats.{FormatValue}
use Rattle.anb_algebra.specs.ByteMeaning.{byte_meaning}
use Rattle.anb_certify.specs.Statements.{CertifiedFits}
use Rattle.anb_certify.proofs.Ending.{fits}
use Rattle.anb_certify.proofs.certifying.certify.Goals as goal

pub returns-clause-fits : goal.returns-clause-fits
returns-clause-fits c =
    let p = c.args.p.now in
    let F : List FormatValue → Type 0 = λ l. CertifiedFits (byte_meaning l c.new.result.suite) in
    let S : Suite → Type 0 = λ x. CertifiedFits (byte_meaning p.formats x) in
    let law = subst S (c.new.ensures.suite ∙ c.suite.ensures) (subst F (c.new.ensures.formats ∙ c.formats.ensures) c.certified_fits.ensures) in
    on_ok_map c.walk.result (λ certified. fits p c.args.role c.args.code.now certified c.verified_is_runnable.ensures c.instrs.ensures.verified law) c.walk.ensures.certified
