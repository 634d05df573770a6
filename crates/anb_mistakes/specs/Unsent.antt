-- What is said of an action whose sender can't compose the message.
use Rattle.std.specs.Prelude.{◌≡◌, ℕ, List, ◌++◌}
use Rattle.anb_syntax.specs.Words.{Tok}
use Rattle.anb_mistakes.specs.Pointing.{located}
use Rattle.anb_mistakes.specs.Spots.{HasTokens, message}
use Rattle.anb_mistakes.specs.Unresolved.{offset_in}

-- This is what is said of the action, in a text x in the file of this name: a line at its message, the source
-- line, and further lines.
pub record IsUnsentText (name x : List ℕ) (action : ℕ) (line lines text : List ℕ) : Type 0 where
  pub tokens : List Tok
  pub has : HasTokens x tokens
  pub is : text ≡ located name x (offset_in x (message action tokens)) line ++ lines
