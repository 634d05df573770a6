-- Why a role file isn't made of a protocol whose roles can't all send.
use Rattle.std.proofs.Common.{◌≡◌, ℕ, List, Some}
use Rattle.anb_protocol.specs.Protocols.{ProtocolValue, role_named}
use Rattle.anb_c.specs.Compiling.{RefusesCompiling, RefusesSending, Tells}
use Rattle.anb_c.specs.declared.compiling.CompileNo.{CompileNo}
use Rattle.anb_c.specs.declared.compiling.CompileNo.TheVariants.{Long, Unread, IllFormed, NoRole, CannotSend, NoMemory}

pub unsent : (narration role : List ℕ) (p : ProtocolValue) (number : ℕ) (why : CompileNo) → Tells narration p → role_named p role ≡ Some number → RefusesSending p why → RefusesCompiling narration role why
unsent narration role p number (CannotSend action) tells named is = (p, tells, number, named, is)
unsent narration role p number NoMemory tells named is = tt
unsent narration role p number Long tells named is = absurd is
unsent narration role p number (Unread cause) tells named is = absurd is
unsent narration role p number (IllFormed cause) tells named is = absurd is
unsent narration role p number NoRole tells named is = absurd is
