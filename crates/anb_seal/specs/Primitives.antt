-- Hashes, macs, sealed and wrapped bytes in both suites, as functions on lists of numbers.
use Rattle.std.specs.Prelude.{ℕ, ◌-◌, nat_lt, if◌then◌else◌, List, [], ◌∷◌, ◌++◌, length, take, drop, replicate, Option, Some, None}
use Rattle.std.specs.Str.{bytes_eq}
use Rattle.sha2.specs.Sha256.{sha256}
use Rattle.sha2.specs.Sha512.{sha512}
use Rattle.anb_base.specs.declared.content.Suite.{Suite}
use Rattle.anb_base.specs.declared.content.Suite.TheVariants.{One, Two}
use Rattle.anb_seal.specs.Streams.{key_stream, xored}

-- SHA-256 or SHA-512 (FIPS 180-4)
abbrev pub hash_of : Suite → List ℕ → List ℕ
hash_of One m = sha256 m
hash_of Two m = sha512 m

-- the length of the hash's blocks
abbrev pub block_of : Suite → ℕ
block_of One = 64
block_of Two = 128

-- ---- HMAC (RFC 2104) over the suite's hash

-- a key that is longer than a block is hashed
abbrev pub short_key : Suite → List ℕ → List ℕ
short_key suite k = if nat_lt (block_of suite) (length k) then hash_of suite k else k

-- zeros are appended up to a block
unfoldable pub block_key : Suite → List ℕ → List ℕ
block_key suite k = short_key suite k ++ replicate (block_of suite - length (short_key suite k)) 0

-- the key xor a block of one byte
abbrev pub key_xor : Suite → List ℕ → ℕ → List ℕ
key_xor suite k pad = xored (block_key suite k) (replicate (block_of suite) pad)

unfoldable pub mac_of : Suite → List ℕ → List ℕ → List ℕ
mac_of suite k m = hash_of suite (key_xor suite k 0x5c ++ hash_of suite (key_xor suite k 0x36 ++ m))

-- ---- sealing and wrapping

-- the first 32 bytes
abbrev pub cut : List ℕ → List ℕ
cut x = take 32 x

-- the tag of a message, under a key and after a head
abbrev pub tag_of : Suite → List ℕ → List ℕ → List ℕ → List ℕ
tag_of suite key head m = cut (mac_of suite key (head ++ m))

-- a message xor the key stream that a key gives for a tag
abbrev pub masked : Suite → List ℕ → List ℕ → List ℕ → List ℕ
masked suite key tag m = xored m (key_stream (cut (mac_of suite key tag)) (length m))

-- a tag, and the message xor its key stream
abbrev pub closed : Suite → List ℕ → List ℕ → List ℕ → List ℕ → List ℕ
closed suite stream_key tag_key head m =
    let tag = tag_of suite tag_key head m in tag ++ masked suite stream_key tag m

-- the message that these bytes are made of, where there is one
abbrev pub opened : Suite → List ℕ → List ℕ → List ℕ → List ℕ → Option (List ℕ)
opened suite stream_key tag_key head c =
    let m = masked suite stream_key (take 32 c) (drop 32 c) in
    if bytes_eq (closed suite stream_key tag_key head m) c then Some m else None

-- the key of a purpose: the hash of its number, in one byte, and a key
abbrev pub key_for : Suite → ℕ → List ℕ → List ℕ
key_for suite purpose k = hash_of suite (purpose ∷ k)

-- a message sealed under a key, and the message that sealed bytes hold
unfoldable pub sealed : Suite → List ℕ → List ℕ → List ℕ
sealed suite k m = closed suite (key_for suite 1 k) (key_for suite 2 k) [] m

unfoldable pub unsealed : Suite → List ℕ → List ℕ → Option (List ℕ)
unsealed suite k c = opened suite (key_for suite 1 k) (key_for suite 2 k) [] c

-- a message wrapped under a key and a context, and the message that wrapped bytes hold
unfoldable pub wrapped : Suite → List ℕ → List ℕ → List ℕ → List ℕ
wrapped suite k d m = closed suite (key_for suite 3 k) (key_for suite 4 k) (hash_of suite d) m

unfoldable pub unwrapped : Suite → List ℕ → List ℕ → List ℕ → Option (List ℕ)
unwrapped suite k d c = opened suite (key_for suite 3 k) (key_for suite 4 k) (hash_of suite d) c
