-- What holds of the texts that are written.
use Rattle.std.specs.Prelude.{◌≡◌, ℕ, List}
use Rattle.anb_read.specs.declared.refusal.ReadNo.{ReadNo}
use Rattle.anb_protocol.specs.declared.refusals.ResolveNo.{ResolveNo}
use Rattle.anb_syntax.specs.Grammar.{Narration}
use Rattle.anb_mistakes.specs.Unread.{IsUnreadText}
use Rattle.anb_mistakes.specs.Unresolved.{IsUnresolvedText}
use Rattle.anb_mistakes.specs.Unsent.{IsUnsentText}

-- one text is said of a refusal
abbrev pub UnreadTextsAreUnique : Type 0
UnreadTextsAreUnique = (name x : List ℕ) (why : ReadNo) (text other : List ℕ) → IsUnreadText name x why text → IsUnreadText name x why other → text ≡ other

abbrev pub UnresolvedTextsAreUnique : Type 0
UnresolvedTextsAreUnique = (name x : List ℕ) (n : Narration) (why : ResolveNo) (reason text other : List ℕ) → IsUnresolvedText name x n why reason text → IsUnresolvedText name x n why reason other → text ≡ other

abbrev pub UnsentTextsAreUnique : Type 0
UnsentTextsAreUnique = (name x : List ℕ) (action : ℕ) (line lines text other : List ℕ) → IsUnsentText name x action line lines text → IsUnsentText name x action line lines other → text ≡ other
