-- From the steps before a trace to what is asked.
use Rattle.std.proofs.Common.{◌≡◌, ℕ, List, length, Option, refl, sym, subst, inl, inr}
use Rattle.std.specs.List.{AllByRecursion}
use Rattle.anb_base.specs.Bytes.{IsBytes}
use Rattle.anb_code.specs.CodeValue.{CodeValue}
use Rattle.anb_code.specs.Taking.{take_texts}
use Rattle.anb_compile.specs.Fitting.{FitsRole}
use Rattle.anb_compile.specs.Laws.{FittingCodesPlay}
use Rattle.anb_protocol.specs.Protocols.{ProtocolValue}
use Rattle.anb_transcript.specs.Replays.{arrivals_of}
use Rattle.anb_transcript.specs.declared.transcript.TranscriptLine.{TranscriptLine}
use Rattle.anb_status.specs.declared.status.Status.{Status}
use Rattle.anb_command.specs.Errands.{ErrandOf}
use Rattle.anb_command.specs.Fetches.{Files, IfTold}
use Rattle.anb_command.specs.Files.{TranscriptInFile}
use Rattle.anb_command.specs.Roles.{Part, PartInFile}
use Rattle.anb_command.specs.Steps.{refused, given}
use Rattle.anb_command.proofs.Chains.{told_map}
use Rattle.anb_command.proofs.Preparing.{told_both}
use Rattle.anb_role_commands.specs.Jobs.{JobIs}
use Rattle.anb_role_commands.specs.ReplayCommand.{ComparisonIs, IsReadToCompare}
use Rattle.anb_role_commands.proofs.Preparing.{count_known, job_given, plays_in}
use Rattle.anb_trace_commands.specs.Tracing.{IsTraceable, job_by}

module _ (narration name values transcript : List ℕ) (host_seed : Option (List ℕ)) (told : Option Files) (p : ProtocolValue) (role : ℕ) where
  abbrev part : Part
  part = record { protocol = p; role = role }

  module _ (code same : CodeValue) (initial : List (List ℕ)) (seed : List ℕ) (fits : FitsRole p role code) (is : same ≡ code)
      (first : IfTold told (λ files. PartInFile files narration name (given part)))
      (errand : IfTold told (λ files. ErrandOf files values host_seed code (given (record { code = same; initial = initial; seed = seed })))) where
    -- what is played
    job_asked : IfTold told (λ files. JobIs files narration name values host_seed (given (job_by p role initial seed)))
    job_asked = told_both told (λ files f e. inr (part, f, job_given values host_seed p role code fits files initial seed (subst (λ (c : CodeValue). ErrandOf files values host_seed code (given (record { code = c; initial = initial; seed = seed }))) is e))) first errand

    fits_same : FitsRole p role same
    fits_same = subst (FitsRole p role) (sym is) fits

    pub traceable : FittingCodesPlay p → length initial ≡ length (take_texts same.instrs) → AllByRecursion IsBytes initial → (lines : List TranscriptLine) → AllByRecursion IsBytes (arrivals_of lines)
        → IfTold told (λ files. TranscriptInFile files transcript (given lines))
        → IfTold told (λ files. IsTraceable (ComparisonIs narration name values transcript host_seed files) p role same initial seed lines)
    traceable law count bytes lines arrivals next =
        told_both told (λ files job n. record {
          asks = inr (job_by p role initial seed, job, inr (lines, n, refl));
          comes = plays_in p role same initial seed law fits_same (count_known p role same initial fits_same count) bytes;
          bytes = arrivals;
        }) job_asked next

    -- ---- what is refused behind it, and which file is read

    pub lines_refused : (s : Status) → IfTold told (λ files. TranscriptInFile files transcript (refused s)) → IfTold told (λ files. ComparisonIs narration name values transcript host_seed files (refused s))
    lines_refused s next = told_both told (λ files job n. inr (job_by p role initial seed, job, inl (s, n, refl))) job_asked next

    pub lines_read : (file : List ℕ) → file ≡ transcript → IfTold told (λ files. IsReadToCompare narration name values transcript host_seed files file)
    lines_read file at = told_map told (λ files job. inr (at, (job_by p role initial seed, job))) job_asked
