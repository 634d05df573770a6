use Rattle.std.proofs.Common.{◌≡◌, map, drop}
use Rattle.std.specs.Prelude.{not}
use Rattle.anb_index.specs.Places.{among}
use Rattle.anb_protocol.specs.Choices.{first, refuse_if}
use Rattle.anb_protocol.specs.Names.{used_name}
use Rattle.anb_protocol.specs.declared.refusals.ResolveNo.TheVariants.{Unknown}
use Rattle.anb_resolve.specs.Uses.{use_of}
use Rattle.anb_resolve.proofs.names.unknown.Given as goal

abbrev pub invariant-loop-used : goal.invariant-loop-used
invariant-loop-used l = first (λ u. refuse_if (not (among l.declared (used_name u))) (Unknown (used_name u))) (map use_of (drop l.used-index l.uses)) ≡ first (λ u. refuse_if (not (among l.declared (used_name u))) (Unknown (used_name u))) (map use_of l.uses)
