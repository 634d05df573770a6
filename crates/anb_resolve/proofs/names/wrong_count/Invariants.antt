use Rattle.std.proofs.Common.{◌≡◌, map, drop}
use Rattle.anb_syntax.specs.Views.{format_of}
use Rattle.anb_protocol.specs.Choices.{first, refuse_if}
use Rattle.anb_protocol.specs.Names.{used_name}
use Rattle.anb_protocol.specs.Checks.{is_miscounted}
use Rattle.anb_protocol.specs.declared.refusals.ResolveNo.TheVariants.{WrongCount}
use Rattle.anb_resolve.specs.Uses.{use_of}
use Rattle.anb_resolve.proofs.names.wrong_count.Given as goal

abbrev pub invariant-loop-used : goal.invariant-loop-used
invariant-loop-used l = first (λ u. refuse_if (is_miscounted (map format_of l.formats) u) (WrongCount (used_name u))) (map use_of (drop l.used-index l.uses)) ≡ first (λ u. refuse_if (is_miscounted (map format_of l.formats) u) (WrongCount (used_name u))) (map use_of l.uses)
