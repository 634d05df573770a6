-- The laws of sealing and wrapping, for the proofs that cite them.
use Rattle.std.proofs.Common.{◌≡◌, ◌↔◌, ℕ, true, List, [], Some}
use Rattle.anb_base.specs.Bytes.{is_bytes}
use Rattle.anb_base.specs.declared.content.Suite.{Suite}
use Rattle.anb_seal.specs.Primitives.{hash_of, key_for, sealed, unsealed, wrapped, unwrapped}
use Rattle.anb_seal.proofs.Closed.{opens, opened_closes}
use Rattle.anb_seal.proofs.ByteLemmas.{bytes-closed, bytes-opened}

pub unsealed_exactly : (suite : Suite) (k c m : List ℕ) → (unsealed suite k c ≡ Some m) ↔ (sealed suite k m ≡ c)
unfolding sealed unsealed
unsealed_exactly suite k c m = (opened_closes suite (key_for suite 1 k) (key_for suite 2 k) [] c m, opens suite (key_for suite 1 k) (key_for suite 2 k) [] c m)

pub unwrapped_exactly : (suite : Suite) (k d c m : List ℕ) → (unwrapped suite k d c ≡ Some m) ↔ (wrapped suite k d m ≡ c)
unfolding wrapped unwrapped
unwrapped_exactly suite k d c m =
    (opened_closes suite (key_for suite 3 k) (key_for suite 4 k) (hash_of suite d) c m, opens suite (key_for suite 3 k) (key_for suite 4 k) (hash_of suite d) c m)

pub bytes-sealed : (suite : Suite) (k m : List ℕ) → is_bytes m ≡ true → is_bytes (sealed suite k m) ≡ true
unfolding sealed
bytes-sealed suite k m e = bytes-closed suite (key_for suite 1 k) (key_for suite 2 k) [] m e

pub bytes-unsealed : (suite : Suite) (k c m : List ℕ) → is_bytes c ≡ true → unsealed suite k c ≡ Some m → is_bytes m ≡ true
unfolding unsealed
bytes-unsealed suite k c m e o = bytes-opened suite (key_for suite 1 k) (key_for suite 2 k) [] c m e o

pub bytes-wrapped : (suite : Suite) (k d m : List ℕ) → is_bytes m ≡ true → is_bytes (wrapped suite k d m) ≡ true
unfolding wrapped
bytes-wrapped suite k d m e = bytes-closed suite (key_for suite 3 k) (key_for suite 4 k) (hash_of suite d) m e

pub bytes-unwrapped : (suite : Suite) (k d c m : List ℕ) → is_bytes c ≡ true → unwrapped suite k d c ≡ Some m → is_bytes m ≡ true
unfolding unwrapped
bytes-unwrapped suite k d c m e o = bytes-opened suite (key_for suite 3 k) (key_for suite 4 k) (hash_of suite d) c m e o
