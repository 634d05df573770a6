-- For proofs alone: parts as the code has them, and a suite that grows by one.
use Rattle.std.specs.Prelude.{◌≡◌, ◌++◌, map}
use Rattle.anb_attempts.specs.declared.attempts.Suite.{Suite}
use Rattle.anb_attempts.specs.declared.inner.Inner.{Inner}
use Rattle.anb_attempts.specs.declared.inner.InnerOperands.{InnerOperands}
use Rattle.anb_attempts.specs.declared.parts.Part.{Part}
use Rattle.anb_attempts.specs.declared.retagging.Retagging.{Retagging}
use Rattle.anb_attempts.specs.Inner.{InnerOperandsValue, InnerValue}
use Rattle.anb_attempts.specs.Retagging.{RetaggingValue}
use Rattle.anb_term.specs.Tree.{trees_of}
use Rattle.anb_term.specs.View.{tree_of}
use Rattle.anb_attempts.specs.Attempts.{PartValue}

abbrev pub part_value : Part → PartValue
part_value part = record { scenes = part.scenes.items; attempts = part.attempts.items; gaps = part.gaps.items }

abbrev pub retagging_value : Retagging → RetaggingValue
retagging_value tag = record { pair = tree_of tag.pair; way = tag.way }

abbrev pub inner_value : Inner → InnerValue
inner_value inner = record { term = tree_of inner.term; part = tree_of inner.part }

abbrev pub operands_value : InnerOperands → InnerOperandsValue
operands_value list = record { operands = trees_of (map tree_of list.operands.items); part = tree_of list.part }

pub record HasPut (part : PartValue) (old new : Suite) : Type 0 where
  pub scenes : new.scenes.items ≡ old.scenes.items ++ part.scenes
  pub attempts : new.attempts.items ≡ old.attempts.items ++ part.attempts
  pub gaps : new.gaps.items ≡ old.gaps.items ++ part.gaps
  pub more : new.more ≡ old.more
