-- Which protocol a text tells.
use Rattle.std.specs.Prelude.{◌≡◌, ◌≢◌, ℕ, List, Some}
use Rattle.anb_base.specs.declared.TheConstants.{ARRIVAL, WIDE}
use Rattle.anb_syntax.specs.Grammar.{Narration}
use Rattle.anb_syntax.specs.Text.{Text}
use Rattle.anb_read.specs.Refusals.{IsRefusal, UnlessNoMemory}
use Rattle.anb_protocol.specs.Checks.{IsWellFormed, fault}
use Rattle.anb_protocol.specs.Protocols.{ProtocolValue, protocol_of}
use Rattle.anb_protocol.specs.declared.refusals.ResolveNo.TheVariants.{NoMemory}
use Rattle.anb_test_protocols.specs.declared.Refusal.{Refusal}
use Rattle.anb_test_protocols.specs.declared.Refusal.TheVariants.{Read, Resolve}

-- the protocol of the text's narration, which is well formed
pub record Tells (text : List ℕ) (p : ProtocolValue) : Type 0 where
  pub narration : Narration
  pub is_text : Text narration text
  pub well_formed : IsWellFormed ARRIVAL WIDE narration
  pub is : p ≡ protocol_of narration

-- want of memory aside, the text's refusal, or the first fault of its narration
abbrev pub Refuses : List ℕ → Refusal → Type 0
Refuses text (Read why) = UnlessNoMemory why (IsRefusal text why)
Refuses text (Resolve why) = why ≢ NoMemory → (n : Narration) × Text n text × (fault ARRIVAL WIDE n ≡ Some why)
