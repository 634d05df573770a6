use Rattle.std.proofs.Common.{◌≡◌, drop, List, ℕ}
use Rattle.std.specs.Prelude.{not}
use Rattle.std.specs.List.{AllByRecursion, zip}
use Rattle.anb_base.specs.declared.TheConstants.{ARRIVAL, WIDE}
use Rattle.anb_term.specs.Tree.{Tree}
use Rattle.anb_protocol.specs.declared.refusals.ResolveNo.TheVariants.{Wide}
use Rattle.anb_protocol.specs.declared.refusals.Item.TheVariants.{Know}
use Rattle.anb_protocol.specs.Choices.{first, refuse_if}
use Rattle.anb_protocol.specs.Texts.{IsTermOf}
use Rattle.anb_protocol.specs.Widths.{all_fit_width}
use Rattle.anb_protocol.specs.Checks.{wide_knowledge}
use Rattle.anb_protocol.specs.Views.{value_of}
use Rattle.anb_protocol.proofs.KnowLemmas.{all_of}
use Rattle.anb_protocol.proofs.parts.Parts.wide_knowledge.Given as goal

abbrev pub invariant-loop-i : goal.invariant-loop-i
invariant-loop-i l = record {
  ours : AllByRecursion (IsTermOf (value_of l.self)) (all_of (drop l.i l.self.knows.items));
  same : first (λ (k : List ℕ × List Tree). refuse_if (not (all_fit_width ARRIVAL l.self.formats.items WIDE k.1)) (Wide (Know k.0))) (zip (drop l.i l.self.roles.items) (drop l.i l.self.knows.items)) ≡ wide_knowledge ARRIVAL WIDE (value_of l.self);
}
