-- For proofs alone: what a role sees of each arm.
use Rattle.std.specs.Prelude.{◌≡◌, ℕ, List}
use Rattle.std.specs.List.{AllZip}
use Rattle.anb_protocol.specs.Protocols.{ProtocolValue}
use Rattle.anb_choice.specs.Lawful.{is_free, told_by}
use Rattle.anb_branch.specs.declared.signs.Sign.{Sign}
use Rattle.anb_branch.specs.Taken.{receives_in}

pub record IsSign (stem : ℕ) (role : List ℕ) (arm : ProtocolValue) (sign : Sign) : Type 0 where
  pub free : sign.free ≡ is_free stem role arm
  pub receives : sign.receives ≡ receives_in stem role arm
  pub format : sign.format ≡ told_by stem role arm

abbrev pub AreSigns : ℕ → (role : List ℕ) → List ProtocolValue → List Sign → Type 0
AreSigns stem role arms signs = AllZip (IsSign stem role) arms signs
