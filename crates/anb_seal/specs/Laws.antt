-- What holds of sealing and wrapping, for all lists of numbers.
use Rattle.std.specs.Prelude.{◌≡◌, ◌↔◌, ℕ, ◌+◌, List, length, Some, IsTrue}
use Rattle.anb_base.specs.Bytes.{is_bytes}
use Rattle.anb_base.specs.declared.content.Suite.{Suite}
use Rattle.anb_seal.specs.Primitives.{hash_of, mac_of, sealed, unsealed, wrapped, unwrapped}

-- sealed bytes hold exactly the message that is sealed to them, so there is at most one
abbrev pub UnsealsExactly : Type 0
UnsealsExactly = (suite : Suite) (k c m : List ℕ) → (unsealed suite k c ≡ Some m) ↔ (sealed suite k m ≡ c)

abbrev pub UnwrapsExactly : Type 0
UnwrapsExactly = (suite : Suite) (k d c m : List ℕ) → (unwrapped suite k d c ≡ Some m) ↔ (wrapped suite k d m ≡ c)

-- at most one message is sealed to the same bytes
abbrev pub SealsApart : Type 0
SealsApart = (suite : Suite) (k m n : List ℕ) → sealed suite k m ≡ sealed suite k n → m ≡ n

abbrev pub WrapsApart : Type 0
WrapsApart = (suite : Suite) (k d m n : List ℕ) → wrapped suite k d m ≡ wrapped suite k d n → m ≡ n

-- sealed and wrapped bytes are 32 longer than the message
abbrev pub SealsLonger : Type 0
SealsLonger = (suite : Suite) (k m : List ℕ) → length (sealed suite k m) ≡ length m + 32

abbrev pub WrapsLonger : Type 0
WrapsLonger = (suite : Suite) (k d m : List ℕ) → length (wrapped suite k d m) ≡ length m + 32

-- digests and macs are bytes whatever the operands; sealed and wrapped bytes are where the message
-- is, and the message where they are
pub record GivesBytes : Type 0 where
  pub hashed : (suite : Suite) (m : List ℕ) → IsTrue (is_bytes (hash_of suite m))
  pub tagged : (suite : Suite) (k m : List ℕ) → IsTrue (is_bytes (mac_of suite k m))
  pub seals : (suite : Suite) (k m : List ℕ) → IsTrue (is_bytes m) → IsTrue (is_bytes (sealed suite k m))
  pub unseals : (suite : Suite) (k c m : List ℕ) → IsTrue (is_bytes c) → unsealed suite k c ≡ Some m → IsTrue (is_bytes m)
  pub wraps : (suite : Suite) (k d m : List ℕ) → IsTrue (is_bytes m) → IsTrue (is_bytes (wrapped suite k d m))
  pub unwraps : (suite : Suite) (k d c m : List ℕ) → IsTrue (is_bytes c) → unwrapped suite k d c ≡ Some m → IsTrue (is_bytes m)
