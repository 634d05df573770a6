use Rattle.std.proofs.Common.{◌≡◌, List, ◌∙◌, subst}
use Rattle.anb_base.specs.declared.content.Suite.{Suite}
use Rattle.anb_format.specs.Formats.{FormatValue}
use Rattle.anb_algebra.specs.ByteMeaning.{byte_meaning}
use Rattle.anb_term.specs.Statements.{NewAtomAgrees}
use Rattle.anb_protocol.specs.Plays.{meaning_of}
use Rattle.anb_dues.proofs.Grounding.{grounds, plays_by}
use Rattle.anb_mutants.proofs.Mutants.{mutant_seen}
use Rattle.anb_mutants.proofs.laws.mutants_are_seen.Goals as goal

pub returns : goal.returns
returns c =
    let p = c.args.p.now in
    let formats : c.new-bytes.result.formats ≡ p.formats = c.new-bytes.ensures.formats ∙ c.formats.ensures in
    let suite : c.new-bytes.result.suite ≡ p.suite = c.new-bytes.ensures.suite ∙ c.suite.ensures in
    let plays = plays_by p c.new-bytes.result.formats c.new-bytes.result.suite formats suite c.runs_as_played.ensures in
    let S : List FormatValue → Type 0 = λ f. NewAtomAgrees (byte_meaning f c.new-bytes.result.suite) in
    let T : Suite → Type 0 = λ s. NewAtomAgrees (byte_meaning p.formats s) in
    let new_atom : NewAtomAgrees (meaning_of p) = subst T suite (subst S formats c.new_atom_agrees.ensures) in
    λ a is of out check drops dropped mutant apart.
    mutant_seen p c.partners_play.ensures new_atom a is of
    (grounds p of.role of.code (c.protocols_hold.ensures p c.name.ensures.protocol) (λ role. c.terms_of_plans.ensures p role c.name.ensures.protocol) c.plans_know_first.ensures c.made_is_new.ensures plays of.is_code)
    out check drops dropped mutant apart
