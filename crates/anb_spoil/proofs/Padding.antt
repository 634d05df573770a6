-- Bytes xor a stream, a draw at a time.
use Rattle.std.proofs.Common.{◌≡◌, ◌<◌, ◌≤◌, ◌+◌, ◌-◌, ◌*◌, min, ℕ, List, ◌++◌, length, take, drop, ap, sym, ◌∙◌, arith}
use Rattle.std.proofs.lemmas.List.{append_assoc, length-drop, length-take-le, take_min}
use Rattle.std.proofs.Math.Seq.{take-add}
use Rattle.anb_seal.specs.Streams.{stream_bytes, xored}
use Rattle.anb_seal.proofs.Xored.{xored-both}
use Rattle.anb_seal.proofs.Words.{length-stream_bytes, stream_bytes-split}

-- a part from a place on, as long as there are bytes
pub part_of : (bytes : List ℕ) (at : ℕ) → at < length bytes → take (min (length bytes) (at + 32) - at) (drop at bytes) ≡ take 32 (drop at bytes)
part_of bytes at h =
    let rest = length-drop at bytes in
    let size : min (length bytes) (at + 32) - at ≡ min 32 (length (drop at bytes)) = omega (arith, rest) in
    ap (λ (n : ℕ). take n (drop at bytes)) size ∙ take_min 32 (drop at bytes)

-- one draw more behind the bytes that are masked
pub one_draw_more : (key bytes old now part pad : List ℕ) (i : ℕ) → 32 * i < length bytes
    → now ≡ old ++ xored (take (32 * i) bytes) (stream_bytes key 0 0 (8 * i))
    → part ≡ take 32 (drop (32 * i) bytes) → pad ≡ stream_bytes key 0 (8 * i) 8
    → now ++ xored part pad ≡ old ++ xored (take (32 * (i + 1)) bytes) (stream_bytes key 0 0 (8 * (i + 1)))
one_draw_more key bytes old now part pad i h so_far is_part is_pad =
    let past = stream_bytes key 0 0 (8 * i) in
    let even : length (take (32 * i) bytes) ≡ length past = omega (arith, length-take-le (32 * i) bytes (omega arith), length-stream_bytes key 0 0 (8 * i)) in
    let long : 32 * i + 32 ≡ 32 * (i + 1) = omega arith in
    let many : 8 * i + 8 ≡ 8 * (i + 1) = omega arith in
    let front : take (32 * i) bytes ++ part ≡ take (32 * (i + 1)) bytes = ap (λ (t : List ℕ). take (32 * i) bytes ++ t) is_part ∙ sym (take-add (32 * i) 32 bytes) ∙ ap (λ (n : ℕ). take n bytes) long in
    let words : past ++ pad ≡ stream_bytes key 0 0 (8 * (i + 1)) = ap (λ (t : List ℕ). past ++ t) is_pad ∙ sym (stream_bytes-split key 0 (8 * i) 8) ∙ ap (stream_bytes key 0 0) many in
    ap (λ (t : List ℕ). t ++ xored part pad) so_far
    ∙ append_assoc old (xored (take (32 * i) bytes) past) (xored part pad)
    ∙ ap (λ (t : List ℕ). old ++ t) (xored-both (take (32 * i) bytes) past part pad even ∙ ap (λ (t : List ℕ). xored t (past ++ pad)) front ∙ ap (xored (take (32 * (i + 1)) bytes)) words)
