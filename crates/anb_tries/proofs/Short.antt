-- Lines that are short.
use Rattle.std.proofs.Common.{◌≤◌, List, [], ◌∷◌, length, All}
use Rattle.std.specs.List.{AllByRecursion}
use Rattle.std.proofs.lemmas.List.Elements.{All-from_recursion}
use Rattle.anb_base.specs.declared.TheConstants.{ARRIVAL}
use Rattle.anb_transcript.specs.declared.transcript.TranscriptLine.{TranscriptLine}
use Rattle.anb_transcript.specs.declared.transcript.TranscriptLine.TheVariants.{In, Out}
use Rattle.anb_judge.specs.Verdicts.{line_bytes}
use Rattle.anb_partner.specs.Talks.{IsShort}

each_short : (ls : List TranscriptLine) → AllByRecursion IsShort ls → AllByRecursion (λ line. length (line_bytes line) ≤ ARRIVAL) ls
each_short [] all = tt
each_short (In b ∷ ls) all = (all.0, each_short ls all.1)
each_short (Out b ∷ ls) all = (all.0, each_short ls all.1)

pub lines_short : (ls : List TranscriptLine) → AllByRecursion IsShort ls → All (λ line. length (line_bytes line) ≤ ARRIVAL) ls
lines_short ls all = All-from_recursion (λ line. length (line_bytes line) ≤ ARRIVAL) ls (each_short ls all)
