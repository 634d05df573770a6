-- All registers.
use Rattle.std.proofs.Common.{◌+◌, map, sym, ap, ◌∙◌, arith}
use Rattle.anb_term.specs.Tree.{leaf}
use Rattle.anb_unify.proofs.Steps.{map_map, taken_all}
use Rattle.anb_suite.proofs.walking.registers.Goals as goal

pub returns : goal.returns
returns c =
    c.loop-register.invariant ∙ ap (map (λ r. leaf (c.args.names + r))) (taken_all c.args.at.now c.loop-register.register-index (omega arith)) ∙ sym (map_map leaf (λ i. c.args.names + i) c.args.at.now)
