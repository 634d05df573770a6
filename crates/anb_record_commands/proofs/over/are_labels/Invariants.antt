use Rattle.std.proofs.Common.{take}
use Rattle.std.specs.List.{AllByRecursion}
use Rattle.anb_values.specs.Lines.{IsLabel}
use Rattle.anb_record_commands.proofs.over.are_labels.Given as goal

abbrev pub invariant-loop-text : goal.invariant-loop-text
invariant-loop-text l = AllByRecursion IsLabel (take l.text-index l.texts)
