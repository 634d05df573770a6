-- What `enact` does with a file that `compile` wrote.
use Rattle.std.specs.Prelude.{◌≡◌, ◌↔◌, ℕ, List, Option}
use Rattle.anb_base.specs.Bytes.{IsBytes}
use Rattle.anb_base.specs.declared.TheConstants.{ARRIVAL}
use Rattle.anb_code.specs.CodeValue.{CodeValue}
use Rattle.anb_frame.specs.Cuts.{Tail, Cut}
use Rattle.anb_command.specs.declared.limits.TheConstants.{ROLE_FILE_LIMIT}
use Rattle.anb_status.specs.declared.status.Status.{Status}
use Rattle.anb_status.specs.declared.status.Status.TheVariants.{Stopped}
use Rattle.anb_words.specs.declared.words.RoleText.TheVariants.{RoleFile}
use Rattle.anb_command.specs.Fetches.{Files}
use Rattle.anb_command.specs.Files.{CodeInFile, HasFile}
use Rattle.anb_command.specs.Outcomes.{Outcome}
use Rattle.anb_command.specs.Roles.{Part, PartInFile}
use Rattle.anb_command.specs.Steps.{Answer, given}
use Rattle.anb_role_commands.specs.EnactCommand.{ErrandIs, RunOf}
use Rattle.anb_role_commands.specs.Jobs.{Job, JobIs}
use Rattle.anb_role_commands.specs.PlayCommand.{PlayOf}
use Rattle.anb_text_commands.specs.TextCommands.{DescribedText, IsDescribed}

-- the status without the instruction of a stop, as `play` tells it
abbrev pub as_played : Status → Status
as_played (Stopped halt) = Stopped (record { event = halt.event; at = 0 })
as_played status = status

-- With the same values, seed and input, the outcomes of a play of what is asked are those of `enact` of the
-- file, in both directions: the same status, but for the instruction of a stop, the same bytes written,
-- and the same left.
abbrev pub IsEnactedAs : (Prepares : Answer Job → Type 0) → (files : Files) → (file values : List ℕ) → (host_seed : Option (List ℕ)) → (left : List ℕ) → Type 0
IsEnactedAs Prepares files file values host_seed left =
    (arrivals : List (List ℕ)) (tail : Tail) (status : Status) (out rest : List ℕ) → Cut ARRIVAL left arrivals tail
    → Outcome PlayOf Prepares left arrivals tail status out rest
    ↔ ((enacted : Status) × (status ≡ as_played enacted)
    × Outcome RunOf (ErrandIs files file values host_seed) left arrivals tail enacted out rest)

module _ (files : Files) (narration name file : List ℕ) where
  -- `compile` of this role of the narration wrote this text of a code, and the file is loaded as this very code
  pub record IsLoadedAgain (text : List ℕ) : Type 0 where
    pub part : Part
    pub role : PartInFile files narration name (given part)
    pub written : IsDescribed RoleFile part text
    pub loaded : (answer : Answer CodeValue) → CodeInFile files file answer ↔ (answer ≡ given written.code)

  -- it is enacted as `play` of this role plays
  abbrev pub IsEnactedAsPlayed : (values : List ℕ) → (host_seed : Option (List ℕ)) → (left : List ℕ) → Type 0
  IsEnactedAsPlayed values host_seed left = IsEnactedAs (JobIs files narration name values host_seed) files file values host_seed left

-- A file that holds what `compile` writes of a role is loaded as the code that was written, and enacted as
-- the role is played.
abbrev pub CompiledFilesPlay : Type 0
CompiledFilesPlay =
    (files : Files) (narration name file text : List ℕ) → DescribedText RoleFile files narration name (given text)
    → HasFile files file ROLE_FILE_LIMIT text
    → IsLoadedAgain files narration name file text
    × ((values : List ℕ) (host_seed : Option (List ℕ)) (left : List ℕ) → IsBytes left
    → IsEnactedAsPlayed files narration name file values host_seed left)
