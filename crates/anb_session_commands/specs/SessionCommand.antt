-- What `replay` and `trace` do in a session whose number is said.
use Rattle.std.specs.Prelude.{ℕ, List, Option}
use Rattle.anb_base.specs.Wires.{WireState}
use Rattle.anb_status.specs.declared.status.Status.{Status}
use Rattle.anb_command.specs.Fetches.{Files}
use Rattle.anb_role_commands.specs.ReplayCommand.{CompletesReplay, DoesReplay}
use Rattle.anb_trace_commands.specs.TraceCommand.{CompletesTrace, DoesTrace}
use Rattle.anb_session_commands.specs.Words.{Following, replay, trace}

module _ (told : Option Files) (host_seed : Option (List ℕ)) (old new : WireState) (status : Status) where
  abbrev pub DoesInSession : Following → Type 0
  DoesInSession (replay narration role values transcript session) =
      DoesReplay narration role values transcript host_seed session told old new status
  DoesInSession (trace narration role values transcript session) =
      DoesTrace narration role values transcript host_seed session told old new status

  -- where nothing failed
  abbrev pub CompletesInSession : Following → Type 0
  CompletesInSession (replay narration role values transcript session) =
      CompletesReplay narration role values transcript host_seed session told status
  CompletesInSession (trace narration role values transcript session) =
      CompletesTrace narration role values transcript host_seed session told old new status
