-- The key of a session's records, in a file.
use Rattle.std.specs.Prelude.{◌≡◌, ℕ, List, [], ◌∷◌}
use Rattle.anb_park.specs.declared.resuming.ParkNo.TheVariants.{Damaged}
use Rattle.anb_command.specs.declared.limits.TheConstants.{KEY_LIMIT}
use Rattle.anb_status.specs.declared.status.Status.TheVariants.{BadRecord}
use Rattle.anb_command.specs.Fetches.{Files}
use Rattle.anb_command.specs.Files.{FileIs}
use Rattle.anb_command.specs.Steps.{Answer, refused, InTurn, AnswersWith}

-- an empty key opens no record
abbrev pub KeyOf : List ℕ → Answer (List ℕ) → Type 0
KeyOf [] answer = answer ≡ refused (BadRecord Damaged)
KeyOf (byte ∷ rest) answer = AnswersWith (byte ∷ rest) answer

-- the key that a file holds
abbrev pub KeyIs : Files → (file : List ℕ) → Answer (List ℕ) → Type 0
KeyIs files file = InTurn (FileIs files file KEY_LIMIT) KeyOf
