-- Which lists are bytes.
use Rattle.std.proofs.Common.{◌≡◌, ◌<◌, ◌+◌, ◌*◌, ◌/◌, ◌%◌, ℕ, zero, suc, true, nat_lt, List, [], ◌∷◌, ◌++◌, length, take, drop, bit_xor, Some, refl, ap, sym, ◌∙◌, arith}
use Rattle.std.specs.Int.{w32, w64, to_le_bytes, to_be_bytes}
use Rattle.std.proofs.lemmas.List.Folds.{list_all-append}
use Rattle.std.proofs.lemmas.Nat.{xor_lt}
use Rattle.std.proofs.lemmas.Bool.Decides.{Decides-ltb}
use Rattle.std.specs.Prelude.{slice_index}
use Rattle.std.proofs.lemmas.Bool.{and_parts, and_from}
use Rattle.rand_chacha.specs.ChaCha.{word_at, key_of}
use Rattle.sha2.specs.Sha256 as one
use Rattle.sha2.specs.Sha512 as two
use Rattle.anb_base.specs.Bytes.{is_bytes}
use Rattle.anb_base.specs.declared.content.Suite.{Suite}
use Rattle.anb_base.specs.declared.content.Suite.TheVariants.{One, Two}
use Rattle.anb_seal.specs.Streams.{word_bytes, stream_bytes, key_stream, draw_of, xored}
use Rattle.anb_seal.specs.Primitives.{hash_of, mac_of, cut, tag_of, masked, closed, opened}
use Rattle.anb_seal.proofs.Closed.{opened_closes, rest_is_message}

below : (a : ℕ) → a < 256 → nat_lt a 256 ≡ true
below a h = (Decides-ltb a 256).1 h

below_back : (a : ℕ) → nat_lt a 256 ≡ true → a < 256
below_back a e = (Decides-ltb a 256).0 e

rest_of_byte : (y : ℕ) → nat_lt (y % 256) 256 ≡ true
rest_of_byte y = below (y % 256) (omega arith)

pub bytes-append : (xs ys : List ℕ) → is_bytes xs ≡ true → is_bytes ys ≡ true → is_bytes (xs ++ ys) ≡ true
bytes-append xs ys e f = list_all-append (λ b. nat_lt b 256) xs ys ∙ and_from (is_bytes xs) (is_bytes ys) e f

pub bytes-take : (n : ℕ) (xs : List ℕ) → is_bytes xs ≡ true → is_bytes (take n xs) ≡ true
bytes-take zero [] e = refl
bytes-take (suc n) [] e = refl
bytes-take zero (x ∷ xs) e = refl
bytes-take (suc n) (x ∷ xs) e = let parts = and_parts (nat_lt x 256) (is_bytes xs) e in and_from (nat_lt x 256) (is_bytes (take n xs)) parts.0 (bytes-take n xs parts.1)

pub bytes-drop : (n : ℕ) (xs : List ℕ) → is_bytes xs ≡ true → is_bytes (drop n xs) ≡ true
bytes-drop zero [] e = refl
bytes-drop (suc n) [] e = refl
bytes-drop zero (x ∷ xs) e = e
bytes-drop (suc n) (x ∷ xs) e = bytes-drop n xs (and_parts (nat_lt x 256) (is_bytes xs) e).1

pub bytes-xored : (ms ss : List ℕ) → is_bytes ms ≡ true → is_bytes ss ≡ true → is_bytes (xored ms ss) ≡ true
bytes-xored [] ss e f = refl
bytes-xored (m ∷ ms) [] e f = e
bytes-xored (m ∷ ms) (s ∷ ss) e f =
    let one = and_parts (nat_lt m 256) (is_bytes ms) e in
    let other = and_parts (nat_lt s 256) (is_bytes ss) f in
    and_from (nat_lt (bit_xor m s) 256) (is_bytes (xored ms ss)) (below (bit_xor m s) (xor_lt 8 m s (below_back m one.0) (below_back s other.0))) (bytes-xored ms ss one.1 other.1)

le_bytes : (n : ℕ) → is_bytes (to_le_bytes w32 n) ≡ true
le_bytes n = rw (rest_of_byte n, rest_of_byte (n / 256), rest_of_byte (n / 65536), rest_of_byte (n / 16777216)) refl

be_bytes : (n : ℕ) → is_bytes (to_be_bytes w32 n) ≡ true
be_bytes n = rw (rest_of_byte n, rest_of_byte (n / 256), rest_of_byte (n / 65536), rest_of_byte (n / 16777216)) refl

be_bytes_wide : (n : ℕ) → is_bytes (to_be_bytes w64 n) ≡ true
be_bytes_wide n = rw (rest_of_byte n, rest_of_byte (n / 256), rest_of_byte (n / 65536), rest_of_byte (n / 16777216), rest_of_byte (n / 4294967296), rest_of_byte (n / 1099511627776), rest_of_byte (n / 281474976710656), rest_of_byte (n / 72057594037927936)) refl

digest_one : (h : List ℕ) (n : ℕ) → is_bytes (one.digest_bytes h n) ≡ true
unfolding one.digest_bytes
digest_one h zero = refl
digest_one h (suc n) = bytes-append (one.digest_bytes h n) (to_be_bytes w32 (slice_index h n)) (digest_one h n) (be_bytes (slice_index h n))

digest_two : (h : List ℕ) (n : ℕ) → is_bytes (two.digest_bytes h n) ≡ true
unfolding two.digest_bytes
digest_two h zero = refl
digest_two h (suc n) = bytes-append (two.digest_bytes h n) (to_be_bytes w64 (slice_index h n)) (digest_two h n) (be_bytes_wide (slice_index h n))

pub bytes-hash_of : (suite : Suite) (m : List ℕ) → is_bytes (hash_of suite m) ≡ true
unfolding one.sha256 two.sha512
bytes-hash_of One m = digest_one _ 8
bytes-hash_of Two m = digest_two _ 8

pub bytes-mac_of : (suite : Suite) (k m : List ℕ) → is_bytes (mac_of suite k m) ≡ true
unfolding mac_of
bytes-mac_of suite k m = bytes-hash_of suite _

pub bytes-stream : (key : List ℕ) (stream i n : ℕ) → is_bytes (stream_bytes key stream i n) ≡ true
unfolding word_bytes
bytes-stream key stream i zero = refl
bytes-stream key stream i (suc n) = bytes-append (word_bytes key stream i) (stream_bytes key stream (i + 1) n) (le_bytes (word_at 10 key stream i)) (bytes-stream key stream (i + 1) n)

pub bytes-draw_of : (seed : List ℕ) (session i : ℕ) → is_bytes (draw_of seed session i) ≡ true
bytes-draw_of seed session i = bytes-stream (key_of seed) session (8 * i) 8

bytes-key_stream : (key : List ℕ) (n : ℕ) → is_bytes (key_stream key n) ≡ true
unfolding key_stream
bytes-key_stream key n = bytes-take n _ (bytes-stream _ 0 0 _)

bytes-masked : (suite : Suite) (key tag m : List ℕ) → is_bytes m ≡ true → is_bytes (masked suite key tag m) ≡ true
bytes-masked suite key tag m e = bytes-xored m (key_stream (cut (mac_of suite key tag)) (length m)) e (bytes-key_stream (cut (mac_of suite key tag)) (length m))

pub bytes-closed : (suite : Suite) (stream_key tag_key head m : List ℕ) → is_bytes m ≡ true → is_bytes (closed suite stream_key tag_key head m) ≡ true
bytes-closed suite stream_key tag_key head m e =
    let tag = tag_of suite tag_key head m in
    bytes-append tag (masked suite stream_key tag m) (bytes-take 32 (mac_of suite tag_key (head ++ m)) (bytes-mac_of suite tag_key (head ++ m))) (bytes-masked suite stream_key tag m e)

pub bytes-opened : (suite : Suite) (stream_key tag_key head c m : List ℕ) → is_bytes c ≡ true → opened suite stream_key tag_key head c ≡ Some m → is_bytes m ≡ true
bytes-opened suite stream_key tag_key head c m e o =
    ap is_bytes (sym (rest_is_message suite stream_key tag_key head c m (opened_closes suite stream_key tag_key head c m o)))
    ∙ bytes-masked suite stream_key (take 32 c) (drop 32 c) (bytes-drop 32 c e)
