-- Laws on what is said of a protocol in which a role can't send.
use Rattle.std.specs.Prelude.{◌≡◌, ℕ, List}
use Rattle.anb_protocol.specs.Plays.{IsSendable}
use Rattle.anb_protocol.specs.Protocols.{ProtocolValue}
use Rattle.anb_lack.specs.Lacking.{IsLackText}
use Rattle.anb_check_commands.specs.CheckCommand.{IsLackSaid}

-- a protocol has one such line at most, with one such text of lists
abbrev pub LackTextsAreOne : Type 0
LackTextsAreOne = (p : ProtocolValue) (line lists other others : List ℕ) → IsLackText p line lists → IsLackText p other others → (line ≡ other) × (lists ≡ others)

-- and of a text one thing at most is said
abbrev pub LackIsSaidOnce : Type 0
LackIsSaidOnce = (name x : List ℕ) (p : ProtocolValue) (action : ℕ) (one other : List ℕ) → IsLackSaid name x p action one → IsLackSaid name x p action other → one ≡ other

-- and none where each role can send
abbrev pub SendableLacksNothing : Type 0
SendableLacksNothing = (p : ProtocolValue) (line lists : List ℕ) → IsSendable p → IsLackText p line lists → ⊥
