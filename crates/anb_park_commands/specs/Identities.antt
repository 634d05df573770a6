-- Whose a record is.
use Rattle.std.specs.Prelude.{◌≡◌, ℕ, List, ◌++◌}
use Rattle.anb_base.specs.declared.content.Suite.TheVariants.{One}
use Rattle.anb_seal.specs.Primitives.{hash_of}
use Rattle.anb_syntax.specs.Canon.{canon}
use Rattle.anb_syntax.specs.Grammar.{Narration}
use Rattle.anb_command.specs.Fetches.{Files}
use Rattle.anb_command.specs.Files.{NarrationInFile}
use Rattle.anb_command.specs.Steps.{Answer, given}

-- the identity of a role's records: SHA-256 of the narration's canonical text and the role's name
abbrev pub identity : Narration → (name : List ℕ) → List ℕ
identity n name = hash_of One (canon n ++ name)

-- that of a role of the narration in a file
abbrev pub IdentityIs : Files → (narration name : List ℕ) → Answer (List ℕ) → Type 0
IdentityIs files narration name answer =
    (n : Narration) × NarrationInFile files narration (given n) × (answer ≡ given (identity n name))
