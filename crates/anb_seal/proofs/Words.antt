-- The bytes of the words of a stream.
use Rattle.std.proofs.Common.{◌≡◌, ◌+◌, ◌*◌, ◌%◌, ◌^◌, ◌<◌, ℕ, zero, suc, List, ◌++◌, length, refl, ap, sym, ◌∙◌, arith, zero-add, length-append}
use Rattle.std.proofs.lemmas.List.{append_assoc}
use Rattle.std.specs.Int.{w32, to_le_bytes}
use Rattle.rand_chacha.specs.ChaCha.{ChaCha, next_word}
use Rattle.anb_seal.specs.Streams.{word_bytes, stream_bytes}

pub length-word_bytes : (key : List ℕ) (stream i : ℕ) → length (word_bytes key stream i) ≡ 4
unfolding word_bytes
length-word_bytes key stream i = refl

pub length-stream_bytes : (key : List ℕ) (stream i n : ℕ) → length (stream_bytes key stream i n) ≡ 4 * n
length-stream_bytes key stream i zero = refl
length-stream_bytes key stream i (suc n) = omega (arith, length-append (word_bytes key stream i) (stream_bytes key stream (i + 1) n), length-word_bytes key stream i, length-stream_bytes key stream (i + 1) n)

-- the words up to a place, and those from there on
pub stream_bytes-add : (key : List ℕ) (stream i m n : ℕ) → stream_bytes key stream i (m + n) ≡ stream_bytes key stream i m ++ stream_bytes key stream (i + m) n
stream_bytes-add key stream i zero n = ap (λ (k : ℕ). stream_bytes key stream i k) zero_n ∙ ap (λ (k : ℕ). stream_bytes key stream k n) i_zero
  where
    zero_n : zero + n ≡ n
    zero_n = omega arith

    i_zero : i ≡ i + zero
    i_zero = omega arith
stream_bytes-add key stream i (suc m) n =
    let size : suc m + n ≡ suc (m + n) = omega arith in
    let place : i + 1 + m ≡ i + suc m = omega arith in
    ap (λ (k : ℕ). stream_bytes key stream i k) size
    ∙ ap (λ t. word_bytes key stream i ++ t) (stream_bytes-add key stream (i + 1) m n)
    ∙ sym (append_assoc (word_bytes key stream i) (stream_bytes key stream (i + 1) m) (stream_bytes key stream (i + 1 + m) n))
    ∙ ap (λ (k : ℕ). stream_bytes key stream i (suc m) ++ stream_bytes key stream k n) place

-- the first words of a stream, and those from there on
pub stream_bytes-split : (key : List ℕ) (stream m n : ℕ) → stream_bytes key stream 0 (m + n) ≡ stream_bytes key stream 0 m ++ stream_bytes key stream m n
stream_bytes-split key stream m n = rw (zero-add m) at (stream_bytes-add key stream 0 m n)

-- the next word of a generator, and the place after it
pub next_bytes : (before after : ChaCha) (word : ℕ) → (word, after) ≡ next_word 10 before
    → to_le_bytes w32 word ≡ stream_bytes before.key before.stream before.word_pos 1
unfolding word_bytes
next_bytes before after word step = ap (to_le_bytes w32) (ap (λ (p : ℕ × ChaCha). p.0) step)

pub next_place : (before after : ChaCha) (word : ℕ) → (word, after) ≡ next_word 10 before → before.word_pos + 1 < 2 ^ 68
    → after ≡ record before { word_pos = before.word_pos + 1 }
next_place before after word step near =
    let same : (before.word_pos + 1) % 2 ^ 68 ≡ before.word_pos + 1 = omega arith in
    ap (λ (p : ℕ × ChaCha). p.1) step ∙ ap (λ (n : ℕ). record before { word_pos = n }) same
