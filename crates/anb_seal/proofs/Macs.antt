-- The key of HMAC, and the lengths of digests and macs.
use Rattle.std.proofs.Common.{◌≡◌, ◌≤◌, ◌<◌, ◌+◌, ◌-◌, ℕ, List, ◌++◌, length, take, drop, map, bit_xor, replicate, Bool, true, false, nat_lt, if◌then◌else◌, refl, ap, sym, ◌∙◌, arith, length-append}
use Rattle.std.proofs.lemmas.List.{drop-replicate, take-replicate, take-map, length-replicate}
use Rattle.std.proofs.lemmas.Bool.{cond_below, cond_above}
use Rattle.std.proofs.lemmas.Bool.Decides.{nat_tests}
use Rattle.std.proofs.Math.Seq.{take-append-add}
use Rattle.sha2.proofs.Facts256.{length-sha256}
use Rattle.sha2.proofs.Facts512.{length-sha512}
use Rattle.anb_base.specs.declared.content.Suite.{Suite}
use Rattle.anb_base.specs.declared.content.Suite.TheVariants.{One, Two}
use Rattle.anb_seal.specs.Streams.{xored}
use Rattle.anb_seal.specs.Primitives.{hash_of, block_of, short_key, block_key, key_xor, mac_of}
use Rattle.anb_seal.proofs.Xored.{xored-replicate}

pub hash_of-within_block : (suite : Suite) (m : List ℕ) → length (hash_of suite m) ≤ block_of suite
hash_of-within_block One m = omega (arith, length-sha256 m)
hash_of-within_block Two m = omega (arith, length-sha512 m)

pub hash_of-long : (suite : Suite) (m : List ℕ) → 32 ≤ length (hash_of suite m)
hash_of-long One m = omega (arith, length-sha256 m)
hash_of-long Two m = omega (arith, length-sha512 m)

pub mac_of-long : (suite : Suite) (k m : List ℕ) → 32 ≤ length (mac_of suite k m)
unfolding mac_of
mac_of-long suite k m = hash_of-long suite _

pub block_of-longest : (suite : Suite) → block_of suite ≤ 128
block_of-longest One = omega arith
block_of-longest Two = omega arith

pub short_key-long : (suite : Suite) (k : List ℕ) → block_of suite < length k → short_key suite k ≡ hash_of suite k
short_key-long suite k h = sym (cond_below (block_of suite) (length k) (hash_of suite k) k h)

pub short_key-short : (suite : Suite) (k : List ℕ) → length k ≤ block_of suite → short_key suite k ≡ k
short_key-short suite k h = sym (cond_above (block_of suite) (length k) (hash_of suite k) k k h refl)

-- the front of an array of zeros that a key was put into
pub front_padded : (size : ℕ) (key : List ℕ) → length key ≤ size → size ≤ 128 → take size (key ++ drop (length key) (replicate 128 0)) ≡ key ++ replicate (size - length key) 0
front_padded size key h top =
    let split : length key + (size - length key) ≡ size = omega arith in
    ap (λ (n : ℕ). take n (key ++ drop (length key) (replicate 128 0))) (sym split)
    ∙ take-append-add key _ (size - length key)
    ∙ ap (λ (t : List ℕ). key ++ t) (ap (take (size - length key)) (drop-replicate (length key) 128 0) ∙ take-replicate (size - length key) (128 - length key) 0 (omega arith))

short_key_cases : (suite : Suite) (k : List ℕ) (b : Bool) → b ≡ nat_lt (block_of suite) (length k) → length (if b then hash_of suite k else k) ≤ block_of suite
short_key_cases suite k true e = hash_of-within_block suite k
short_key_cases suite k false e = grind (arith, nat_tests)

pub short_key-within_block : (suite : Suite) (k : List ℕ) → length (short_key suite k) ≤ block_of suite
short_key-within_block suite k = short_key_cases suite k (nat_lt (block_of suite) (length k)) refl

pub length-block_key : (suite : Suite) (k : List ℕ) → length (block_key suite k) ≡ block_of suite
unfolding block_key
length-block_key suite k = omega (arith, short_key-within_block suite k, length-append (short_key suite k) (replicate (block_of suite - length (short_key suite k)) 0), length-replicate {A = ℕ} (block_of suite - length (short_key suite k)) 0)

-- the front of an array whose front is the key, after xor by one number all along
pub front_xor : (suite : Suite) (k block : List ℕ) (pad : ℕ) → take (block_of suite) block ≡ block_key suite k
    → take (block_of suite) (map (λ b. bit_xor b pad) block) ≡ key_xor suite k pad
front_xor suite k block pad front =
    let size = length-block_key suite k in
    take-map (λ b. bit_xor b pad) (block_of suite) block ∙ ap (map (λ b. bit_xor b pad)) front
    ∙ sym (ap (λ (n : ℕ). xored (block_key suite k) (replicate n pad)) (sym size) ∙ xored-replicate (block_key suite k) pad)
