-- Why the text of one arm is refused.
use Rattle.std.specs.Prelude.{◌≡◌, ℕ, List, Some}
use Rattle.anb_base.specs.declared.TheConstants.{ARRIVAL, WIDE}
use Rattle.anb_syntax.specs.Grammar.{Narration}
use Rattle.anb_syntax.specs.Text.{Text}
use Rattle.anb_read.specs.Refusals as read
use Rattle.anb_protocol.specs.Checks.{fault}
use Rattle.anb_outcomes.specs.declared.choices.BranchNo.{BranchNo}
use Rattle.anb_outcomes.specs.declared.choices.BranchNo.TheVariants.{ArmRead, ArmResolve}

-- the text of this arm is refused so
abbrev pub IsRefusedAs : List ℕ → ℕ → BranchNo → Type 0
IsRefusedAs text number (ArmRead arm why) = (arm ≡ number) × read.IsRefusal text why
IsRefusedAs text number (ArmResolve arm why) = (arm ≡ number) × ((n : Narration) × Text n text × (fault ARRIVAL WIDE n ≡ Some why))
IsRefusedAs text number why = ⊥
