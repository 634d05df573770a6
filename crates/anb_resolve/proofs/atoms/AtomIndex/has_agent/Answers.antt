use Rattle.std.proofs.Common.{ap, ◌∙◌}
use Rattle.anb_index.specs.Places.{among}
use Rattle.anb_protocol.specs.Checks.{names_agent}
use Rattle.anb_resolve.proofs.AtomNames.{agents_named}
use Rattle.anb_resolve.proofs.atoms.AtomIndex.has_agent.Goals as goal

pub returns : goal.returns
returns c =
    let x = c.args.name.now in
    c.contains.ensures ∙ ap (among c.self.inside.agents) c.as_str.ensures ∙ ap (λ ns. among ns x) c.self.invariant.1 ∙ agents_named c.self.inside.atoms.now x ∙ ap (λ all. names_agent all x) c.self.view_is
