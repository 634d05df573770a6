-- What `why` writes of the protocol in a file.
use Rattle.std.proofs.Common.{◌≡◌, ℕ, List}
use Rattle.anb_read.specs.Laws.{NarrationsAreUnique, RefusalsAreUnique, NoneIsBoth}
use Rattle.anb_protocol.specs.Protocols.{ProtocolValue}
use Rattle.anb_command.specs.Fetches.{Files}
use Rattle.anb_command.specs.Files.{ProtocolInFile}
use Rattle.anb_command.specs.Steps.{HasOneAnswer}
use Rattle.anb_command.proofs.Ones.{RefusesQuietly, narration_in_file_quiet, protocol_in_file_one, protocol_quiet, then_one, then_quiet}
use Rattle.anb_certify_commands.specs.WhyCommand.{WhyOf, WhyText}
use Rattle.anb_certify_commands.proofs.Reasons.{why_one}

pub why_quiet : (narration : List ℕ) (files : Files) → RefusesQuietly (WhyText files narration)
why_quiet narration files = then_quiet (then_quiet (narration_in_file_quiet files narration) protocol_quiet) (λ (p : ProtocolValue). record { each = λ s never. absurd never })

pub why_in_file_one : NarrationsAreUnique → RefusalsAreUnique → NoneIsBoth → (narration : List ℕ) (files : Files) → HasOneAnswer (WhyText files narration)
why_in_file_one narrations refusals none narration files = then_one (ProtocolInFile files narration) WhyOf (protocol_in_file_one narrations refusals none files narration) why_one
