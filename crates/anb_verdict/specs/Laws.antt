-- Verdicts are exact.
use Rattle.std.specs.Prelude.{◌≡◌, ℕ, suc, true, false, Some}
use Rattle.anb_algebra.specs.ByteMeaning.{has_operator}
use Rattle.anb_plays.specs.Plans.{Sendable}
use Rattle.anb_plays.specs.Plays.{stopped}
use Rattle.anb_protocol.specs.Protocols.{ProtocolValue}
use Rattle.anb_judge.specs.Observed.{MadeIsSeen}
use Rattle.anb_judge.specs.Verdicts.{Judged, is_said, own_plan, sides, up_to}
use Rattle.anb_verdict.specs.declared.seen.Seen.{Seen}
use Rattle.anb_verdict.specs.declared.verdict.Verdict.{Verdict}
use Rattle.anb_verdict.specs.Verdicts.{IsRoles, IsKnown, IsVerdict, is_good}

-- what the role says up to the n-th message has recipes, and the names that it makes by then can be told from what it
-- knows, and what it heard and said
pub record CanBeTold (judged : Judged) (n : ℕ) : Type 0 where
  pub sends : Sendable (has_operator judged.protocol.formats) (up_to n (own_plan judged))
  pub made : MadeIsSeen (has_operator judged.protocol.formats) (up_to n (own_plan judged))

-- so it is before each message that it hears, and at the end
abbrev pub NamesAreTold : Judged → Type 0
NamesAreTold judged = (n : ℕ) → is_said (sides (own_plan judged)) (suc n) ≡ false → CanBeTold judged n

-- where the role stops, this was known beforehand
abbrev pub StopsAreKnown : (judged : Judged) (seen : Seen) → IsRoles judged seen → Type 0
StopsAreKnown judged seen roles = (event at : ℕ) → roles.played.end ≡ stopped event at → seen.due ≡ Some event

-- Of a conversation of a protocol's role: nothing is said against the program where for some draws this is what the role
-- does. And where nothing is said there are such draws, if the names that the role makes can be told.
abbrev pub LinesAreExact : ProtocolValue → Type 0
LinesAreExact p = (judged : Judged) (seen : Seen) (verdict : Verdict) → judged.protocol ≡ p → IsKnown judged seen → IsVerdict judged seen verdict
    → ((roles : IsRoles judged seen) → StopsAreKnown judged seen roles → is_good verdict ≡ true)
    × (is_good verdict ≡ true → NamesAreTold judged → IsRoles judged seen)
