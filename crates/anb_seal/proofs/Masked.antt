-- Bytes xor a stream, a pad at a time.
use Rattle.std.proofs.Common.{◌≡◌, ◌<◌, ◌≤◌, ◌+◌, ◌-◌, ◌*◌, ◌^◌, min, ℕ, List, [], ◌∷◌, ◌++◌, length, take, drop, get_or, bit_xor, add-one, ap, sym, ◌∙◌, arith}
use Rattle.std.proofs.lemmas.List.{take_all, take_min, append_assoc, length-drop, length-take-le}
use Rattle.std.proofs.Math.Seq.{take-add}
use Rattle.std.proofs.lemmas.Slice.{take-put_mid}
use borrow.Rule.Slice.PartMut.{put_mid}
use Rattle.std.specs.Int.{w32, to_le_bytes, div_ceil}
use Rattle.rand_chacha.specs.ChaCha.{ChaCha, next_word, key_of}
use Rattle.anb_seal.specs.Streams.{stream_bytes, key_stream, xored}
use Rattle.anb_seal.proofs.Xored.{xored-both, xored-longer, xored-take, xored_more}
use Rattle.anb_seal.proofs.Words.{length-stream_bytes, stream_bytes-add, stream_bytes-split, next_bytes, next_place}

-- the generator after one word more
pub one_word_on : (start before after : ChaCha) (word i : ℕ) → (word, after) ≡ next_word 10 before → before ≡ record start { word_pos = start.word_pos + i }
    → start.word_pos + (i + 1) < 2 ^ 68 → after ≡ record start { word_pos = start.word_pos + (i + 1) }
one_word_on start before after word i step moved near =
    let place : before.word_pos ≡ start.word_pos + i = ap (λ (g : ChaCha). g.word_pos) moved in
    let next : start.word_pos + i + 1 ≡ start.word_pos + (i + 1) = omega arith in
    next_place before after word step (omega (arith, place, near))
    ∙ ap (λ (g : ChaCha). record g { word_pos = g.word_pos + 1 }) moved ∙ ap (λ (n : ℕ). record start { word_pos = n }) next

-- one word more behind those that were written
pub one_word_written : (start before after : ChaCha) (word i k : ℕ) (now wrote : List ℕ)
    → (word, after) ≡ next_word 10 before → before ≡ record start { word_pos = start.word_pos + i }
    → take (4 * i) now ≡ stream_bytes start.key start.stream start.word_pos i
    → wrote ≡ to_le_bytes w32 word → 4 * i ≤ length now
    → take (4 * (i + 1)) (put_mid (4 * i) k now wrote) ≡ stream_bytes start.key start.stream start.word_pos (i + 1)
one_word_written start before after word i k now wrote step moved so_far e fits =
    let next : wrote ≡ stream_bytes start.key start.stream (start.word_pos + i) 1 = e ∙ next_bytes before after word step ∙ ap (λ (g : ChaCha). stream_bytes g.key g.stream g.word_pos 1) moved in
    let size : length wrote ≡ 4 = ap length e in
    take-put_mid (4 * i) k now wrote (4 * (i + 1)) (omega (arith, size)) fits
    ∙ ap (λ (t : List ℕ). t ++ wrote) so_far
    ∙ ap (λ (t : List ℕ). stream_bytes start.key start.stream start.word_pos i ++ t) next
    ∙ sym (stream_bytes-add start.key start.stream start.word_pos i 1)

-- a part from a place on, as long as there are bytes
pub part_of : (bytes : List ℕ) (at : ℕ) → at < length bytes → take (min (length bytes) (at + 256) - at) (drop at bytes) ≡ take 256 (drop at bytes)
part_of bytes at h =
    let rest = length-drop at bytes in
    let size : min (length bytes) (at + 256) - at ≡ min 256 (length (drop at bytes)) = omega (arith, rest) in
    ap (λ (n : ℕ). take n (drop at bytes)) size ∙ take_min 256 (drop at bytes)

-- one pad more behind the bytes that are masked
pub one_pad_more : (key bytes old now part pad : List ℕ) (i : ℕ) → 256 * i < length bytes
    → now ≡ old ++ xored (take (256 * i) bytes) (stream_bytes key 0 0 (64 * i))
    → part ≡ take 256 (drop (256 * i) bytes) → pad ≡ stream_bytes key 0 (64 * i) 64
    → now ++ xored part pad ≡ old ++ xored (take (256 * (i + 1)) bytes) (stream_bytes key 0 0 (64 * (i + 1)))
one_pad_more key bytes old now part pad i h so_far is_part is_pad =
    let past = stream_bytes key 0 0 (64 * i) in
    let even : length (take (256 * i) bytes) ≡ length past = omega (arith, length-take-le (256 * i) bytes (omega arith), length-stream_bytes key 0 0 (64 * i)) in
    let long : 256 * i + 256 ≡ 256 * (i + 1) = omega arith in
    let many : 64 * i + 64 ≡ 64 * (i + 1) = omega arith in
    let front : take (256 * i) bytes ++ part ≡ take (256 * (i + 1)) bytes = ap (λ (t : List ℕ). take (256 * i) bytes ++ t) is_part ∙ sym (take-add (256 * i) 256 bytes) ∙ ap (λ (n : ℕ). take n bytes) long in
    let words : past ++ pad ≡ stream_bytes key 0 0 (64 * (i + 1)) = ap (λ (t : List ℕ). past ++ t) is_pad ∙ sym (stream_bytes-split key 0 (64 * i) 64) ∙ ap (stream_bytes key 0 0) many in
    ap (λ (t : List ℕ). t ++ xored part pad) so_far
    ∙ append_assoc old (xored (take (256 * i) bytes) past) (xored part pad)
    ∙ ap (λ (t : List ℕ). old ++ t) (xored-both (take (256 * i) bytes) past part pad even ∙ ap (λ (t : List ℕ). xored t (past ++ pad)) front ∙ ap (xored (take (256 * (i + 1)) bytes)) words)

-- pads that reach over all bytes mask them by the key stream
pub all_masked : (key bytes : List ℕ) (n m : ℕ) → length bytes ≤ n → length bytes ≤ 4 * m
    → xored (take n bytes) (stream_bytes (key_of key) 0 0 m) ≡ xored bytes (key_stream key (length bytes))
unfolding key_stream
all_masked key bytes n m h k =
    let few = div_ceil (length bytes) 4 in
    let split : few + (m - few) ≡ m = omega arith in
    let words = stream_bytes (key_of key) 0 0 few in
    let rest = stream_bytes (key_of key) 0 few (m - few) in
    let enough : length bytes ≤ length words = omega (arith, length-stream_bytes (key_of key) 0 0 few) in
    ap (λ (t : List ℕ). xored t (stream_bytes (key_of key) 0 0 m)) (take_all n bytes h)
    ∙ ap (λ (k : ℕ). xored bytes (stream_bytes (key_of key) 0 0 k)) (sym split)
    ∙ ap (xored bytes) (stream_bytes-split (key_of key) 0 few (m - few))
    ∙ xored-longer bytes words rest enough
    ∙ sym (xored-take bytes words)

-- one byte more behind those that were appended
pub one_byte_more : (old now ms ss : List ℕ) (i : ℕ) → i < length ms → i < length ss → now ≡ old ++ xored (take i ms) (take i ss)
    → now ++ bit_xor (get_or ms i 0) (get_or ss i 0) ∷ [] ≡ old ++ xored (take (i + 1) ms) (take (i + 1) ss)
one_byte_more old now ms ss i h k so_far =
    ap (λ (t : List ℕ). t ++ bit_xor (get_or ms i 0) (get_or ss i 0) ∷ []) so_far
    ∙ append_assoc old (xored (take i ms) (take i ss)) _
    ∙ ap (λ (t : List ℕ). old ++ t) (rw add-one (xored_more ms ss i h k))

-- all bytes, one after the other
pub all_bytes : (old ms ss : List ℕ) (i : ℕ) → i ≡ length ms → old ++ xored (take i ms) (take i ss) ≡ old ++ xored ms ss
all_bytes old ms ss i e =
    ap (λ (t : List ℕ). old ++ t) (ap (λ (t : List ℕ). xored t (take i ss)) (take_all i ms (omega arith)) ∙ ap (λ (n : ℕ). xored ms (take n ss)) e ∙ xored-take ms ss)
