-- What each command does, and when it completes: a case for each. The first arguments of a case are
-- the words that follow the command's name.
use Rattle.std.specs.Prelude.{ℕ, List, Option, Some, None}
use Rattle.anb_base.specs.Wires.{WireState}
use Rattle.anb_status.specs.declared.status.Status.{Status}
use Rattle.anb_command.specs.Fetches.{Files}
use Rattle.anb_words.specs.Words.{Asked, fmt, describe, play, enact, replay, host, rehearse, drill, help, page, branch, certify, why, park, resume, chart, role_chart, check, check_values, trace, all_values, role_values, judge}
use Rattle.anb_branch_commands.specs.BranchCommand.{CompletesBranch, DoesBranch}
use Rattle.anb_check_commands.specs.CheckCommand.{CompletesCheck, DoesCheck}
use Rattle.anb_check_commands.specs.CheckValues.{CompletesCheckValues, DoesCheckValues}
use Rattle.anb_host_commands.specs.HostCommand.{CompletesHost, DoesHost}
use Rattle.anb_judge_commands.specs.JudgeCommand.{CompletesJudge, DoesJudge}
use Rattle.anb_park_commands.specs.ParkCommand.{CompletesPark, DoesPark}
use Rattle.anb_park_commands.specs.ResumeCommand.{CompletesResume, DoesResume}
use Rattle.anb_rehearse_commands.specs.DrillCommand.{CompletesDrill, DoesDrill}
use Rattle.anb_rehearse_commands.specs.RehearseCommand.{CompletesRehearse, DoesRehearse}
use Rattle.anb_certify_commands.specs.CertifyCommand.{CompletesCertify, DoesCertify}
use Rattle.anb_certify_commands.specs.WhyCommand.{CompletesWhy, DoesWhy}
use Rattle.anb_chart_commands.specs.ReportCommands.{CompletesChart, CompletesRoleChart, DoesChart, DoesRoleChart}
use Rattle.anb_role_commands.specs.EnactCommand.{CompletesEnact, DoesEnact}
use Rattle.anb_role_commands.specs.PlayCommand.{CompletesPlay, DoesPlay}
use Rattle.anb_role_commands.specs.ReplayCommand.{CompletesReplay, DoesReplay}
use Rattle.anb_trace_commands.specs.TraceCommand.{CompletesTrace, DoesTrace}
use Rattle.anb_values_commands.specs.RoleValuesCommand.{CompletesRoleValues, DoesRoleValues}
use Rattle.anb_values_commands.specs.ValuesCommand.{CompletesValues, DoesValues}
use Rattle.anb_text_commands.specs.TextCommands.{
  CompletesDescribe,
  CompletesFmt,
  CompletesHelp,
  CompletesPage,
  DoesDescribe,
  DoesFmt,
  DoesHelp,
  DoesPage,
}

-- by what is asked for, the files and the seed of the host: the wire before and after, and the status
abbrev pub Does : Option Asked → Option Files → Option (List ℕ) → (old new : WireState) → Status → Type 0
Does None told seed old new status = Unit {0}
Does (Some (fmt narration)) told seed old new status = DoesFmt narration told old new status
Does (Some (describe kind narration role)) told seed old new status =
    DoesDescribe kind narration role told old new status
Does (Some (play narration role values place)) told seed old new status =
    DoesPlay narration role values told seed old new status
Does (Some (enact code values place)) told seed old new status =
    DoesEnact code values told seed old new status
Does (Some (replay narration role values transcript)) told seed old new status =
    DoesReplay narration role values transcript seed 0 told old new status
Does (Some (trace narration role values transcript)) told seed old new status =
    DoesTrace narration role values transcript seed 0 told old new status
Does (Some (host narration role values place)) told seed old new status =
    DoesHost narration role values told seed old new status
Does (Some (rehearse narration values schedule)) told seed old new status =
    DoesRehearse narration values schedule told seed old new status
Does (Some (drill exchanges)) told seed old new status = DoesDrill exchanges old new status
Does (Some help) told seed old new status = DoesHelp old new status
Does (Some (page about)) told seed old new status = DoesPage about old new status
Does (Some (branch narration role values arm place)) told seed old new status =
    DoesBranch narration role values arm told seed old new status
Does (Some (certify narration role code)) told seed old new status =
    DoesCertify narration role code told old new status
Does (Some (why narration)) told seed old new status = DoesWhy narration told old new status
Does (Some (park narration role values key place)) told seed old new status =
    DoesPark narration role values key seed told old new status
Does (Some (resume narration role parked key place)) told seed old new status =
    DoesResume narration role parked key told old new status
Does (Some (chart narration)) told seed old new status = DoesChart narration told old new status
Does (Some (role_chart narration role)) told seed old new status = DoesRoleChart narration role told old new status
Does (Some (check narration)) told seed old new status = DoesCheck narration told old new status
Does (Some (check_values narration role values)) told seed old new status =
    DoesCheckValues narration role values told old new status
Does (Some (all_values narration)) told seed old new status = DoesValues narration told seed old new status
Does (Some (role_values narration role values)) told seed old new status =
    DoesRoleValues narration role values told old new status
Does (Some (judge narration role values transcript)) told seed old new status =
    DoesJudge narration role values transcript told old new status

-- where nothing failed
abbrev pub Completes : Option Asked → Option Files → Option (List ℕ) → (old new : WireState) → Status → Type 0
Completes None told seed old new status = Unit {0}
Completes (Some (fmt narration)) told seed old new status = CompletesFmt narration told status
Completes (Some (describe kind narration role)) told seed old new status =
    CompletesDescribe kind narration role told status
Completes (Some (play narration role values place)) told seed old new status =
    CompletesPlay narration role values told seed old new status
Completes (Some (enact code values place)) told seed old new status =
    CompletesEnact code values told seed old new status
Completes (Some (replay narration role values transcript)) told seed old new status =
    CompletesReplay narration role values transcript seed 0 told status
Completes (Some (trace narration role values transcript)) told seed old new status =
    CompletesTrace narration role values transcript seed 0 told old new status
Completes (Some (host narration role values place)) told seed old new status =
    CompletesHost narration role values told seed old new status
Completes (Some (rehearse narration values schedule)) told seed old new status =
    CompletesRehearse narration values schedule told seed old new status
Completes (Some (drill exchanges)) told seed old new status = CompletesDrill exchanges status
Completes (Some help) told seed old new status = CompletesHelp status
Completes (Some (page about)) told seed old new status = CompletesPage about status
Completes (Some (branch narration role values arm place)) told seed old new status =
    CompletesBranch narration role values arm told seed old new status
Completes (Some (certify narration role code)) told seed old new status =
    CompletesCertify narration role code told status
Completes (Some (why narration)) told seed old new status = CompletesWhy narration told status
Completes (Some (park narration role values key place)) told seed old new status =
    CompletesPark narration role values key seed told old new status
Completes (Some (resume narration role parked key place)) told seed old new status =
    CompletesResume narration role parked key told old new status
Completes (Some (chart narration)) told seed old new status = CompletesChart narration told status
Completes (Some (role_chart narration role)) told seed old new status = CompletesRoleChart narration role told status
Completes (Some (check narration)) told seed old new status = CompletesCheck narration told status
Completes (Some (check_values narration role values)) told seed old new status =
    CompletesCheckValues narration role values told status
Completes (Some (all_values narration)) told seed old new status = CompletesValues narration told seed status
Completes (Some (role_values narration role values)) told seed old new status =
    CompletesRoleValues narration role values told status
Completes (Some (judge narration role values transcript)) told seed old new status =
    CompletesJudge narration role values transcript told status
