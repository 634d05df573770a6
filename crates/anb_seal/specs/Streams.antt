-- ChaCha20 (RFC 8439) as a source of bytes: a key and a number give a stream of words.
use Rattle.std.specs.Prelude.{ℕ, ◌*◌, List, [], ◌∷◌, take, bit_xor}
use Rattle.std.specs.Int.{w32, to_le_bytes, div_ceil}
use Rattle.std.specs.List.{range_with_len, flat_map}
use Rattle.rand_chacha.specs.ChaCha.{word_at, key_of}

-- word i of a stream under eight words of key, in four bytes, the least significant first; 20
-- rounds are ten double rounds
unfoldable pub word_bytes : List ℕ → ℕ → ℕ → List ℕ
word_bytes key stream i = to_le_bytes w32 (word_at 10 key stream i)

-- the bytes of n words of a stream, from word i on
abbrev pub stream_bytes : List ℕ → ℕ → ℕ → ℕ → List ℕ
stream_bytes key stream i n = flat_map (word_bytes key stream) (range_with_len i n)

-- the first n bytes of stream 0 under a key of 32 bytes
unfoldable pub key_stream : List ℕ → ℕ → List ℕ
key_stream key n = take n (stream_bytes (key_of key) 0 0 (div_ceil n 4))

-- number i of a session's draws: eight words of the stream that has the session's number, under a
-- seed of 32 bytes
abbrev pub draw_of : List ℕ → ℕ → ℕ → List ℕ
draw_of seed session i = stream_bytes (key_of seed) session (8 * i) 8

-- each number xor the one beside it; what the second list lacks stays
abbrev pub xored : List ℕ → List ℕ → List ℕ
xored [] ss = []
xored (m ∷ ms) [] = m ∷ ms
xored (m ∷ ms) (s ∷ ss) = bit_xor m s ∷ xored ms ss
