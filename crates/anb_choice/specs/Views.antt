-- What the types of the code stand for.
use Rattle.anb_choice.specs.Lawful.{BranchedValue}
use Rattle.anb_choice.specs.declared.branched.Branched.{Branched}

abbrev pub branched_of : Branched → BranchedValue
branched_of b = record { chooser = b.chooser; stem = b.stem; arms = b.arms.items }
