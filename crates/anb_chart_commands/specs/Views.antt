-- For proofs alone: what the code has of what a text tells.
use Rattle.anb_choice.specs.Lawful.{IsLawful}
use Rattle.anb_choice.specs.Views.{branched_of}
use Rattle.anb_chart_commands.specs.ReportCommands.{Told, one, branched}
use Rattle.anb_chart_commands.specs.declared.telling.Told as code
use Rattle.anb_chart_commands.specs.declared.telling.Told.TheVariants as told

abbrev pub told_of : code.Told → Told
told_of (told.One p) = one p
told_of (told.Branched b) = branched (branched_of b)

-- its choice is lawful, where it is one
abbrev pub IsDrawable : Told → Type 0
IsDrawable (one p) = Unit {0}
IsDrawable (branched b) = IsLawful b
