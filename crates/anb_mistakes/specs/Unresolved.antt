-- What is said of a narration that isn't well formed.
use Rattle.std.specs.Prelude.{◌≡◌, ℕ, List, length, min}
use Rattle.anb_syntax.specs.Grammar.{Narration}
use Rattle.anb_syntax.specs.Words.{Tok, place}
use Rattle.anb_protocol.specs.declared.refusals.ResolveNo.{ResolveNo}
use Rattle.anb_mistakes.specs.Mends.{mend}
use Rattle.anb_mistakes.specs.Pointing.{pointed}
use Rattle.anb_mistakes.specs.Spots.{HasTokens, spot}

-- where the first of these tokens of the text begins
abbrev pub offset_in : List ℕ → List Tok → ℕ
offset_in x ts = min (place ts) (length x)

-- This is what is said of the refusal of a narration, whose text is x, with this reason: at the place that
-- the refusal is about, with what would mend it.
pub record IsUnresolvedText (name x : List ℕ) (n : Narration) (why : ResolveNo) (reason text : List ℕ) : Type 0 where
  pub tokens : List Tok
  pub has : HasTokens x tokens
  pub is : text ≡ pointed name x (offset_in x (spot n why tokens)) reason (mend n why (spot n why tokens))
