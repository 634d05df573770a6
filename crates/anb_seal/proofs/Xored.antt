-- Lists xor one another.
use Rattle.std.proofs.Common.{◌≡◌, ◌≤◌, ◌<◌, ℕ, zero, suc, List, [], ◌∷◌, ◌++◌, length, take, get_or, bit_xor, map, replicate, refl, ap, arith}
use Rattle.std.specs.Int.Bits.{xor_assoc, xor_self, xor_zero_r}
use Rattle.anb_seal.specs.Streams.{xored}

-- xor by one list twice changes nothing
pub xored_twice : (ms ss : List ℕ) → xored (xored ms ss) ss ≡ ms
xored_twice [] ss = refl
xored_twice (m ∷ ms) [] = refl
xored_twice (m ∷ ms) (s ∷ ss) = rw (xor_assoc, xor_self, xor_zero_r) (ap (λ t. m ∷ t) (xored_twice ms ss))

pub length-xored : (ms ss : List ℕ) → length (xored ms ss) ≡ length ms
length-xored [] ss = refl
length-xored (m ∷ ms) [] = refl
length-xored (m ∷ ms) (s ∷ ss) = ap (λ (n : ℕ). suc n) (length-xored ms ss)

-- what lies past the message does nothing
pub xored-take : (ms ss : List ℕ) → xored ms (take (length ms) ss) ≡ xored ms ss
xored-take [] ss = refl
xored-take (m ∷ ms) [] = refl
xored-take (m ∷ ms) (s ∷ ss) = ap (λ t. bit_xor m s ∷ t) (xored-take ms ss)

-- lists of one length, and what follows each
pub xored-both : (ms ss ns ts : List ℕ) → length ms ≡ length ss → xored ms ss ++ xored ns ts ≡ xored (ms ++ ns) (ss ++ ts)
xored-both [] [] ns ts e = refl
xored-both [] (s ∷ ss) ns ts e = absurd (omega arith)
xored-both (m ∷ ms) [] ns ts e = absurd (omega arith)
xored-both (m ∷ ms) (s ∷ ss) ns ts e = ap (λ t. bit_xor m s ∷ t) (xored-both ms ss ns ts (omega arith))

-- what follows a list that is long enough does nothing
pub xored-longer : (ms ss ts : List ℕ) → length ms ≤ length ss → xored ms (ss ++ ts) ≡ xored ms ss
xored-longer [] ss ts h = refl
xored-longer (m ∷ ms) [] ts h = absurd (omega arith)
xored-longer (m ∷ ms) (s ∷ ss) ts h = ap (λ t. bit_xor m s ∷ t) (xored-longer ms ss ts (omega arith))

-- one number more
pub xored_more : (ms ss : List ℕ) (i : ℕ) → i < length ms → i < length ss
    → xored (take i ms) (take i ss) ++ bit_xor (get_or ms i 0) (get_or ss i 0) ∷ [] ≡ xored (take (suc i) ms) (take (suc i) ss)
xored_more [] ss i h k = absurd (omega arith)
xored_more (m ∷ ms) [] i h k = absurd (omega arith)
xored_more (m ∷ ms) (s ∷ ss) zero h k = refl
xored_more (m ∷ ms) (s ∷ ss) (suc i) h k = ap (λ t. bit_xor m s ∷ t) (xored_more ms ss i (omega arith) (omega arith))

-- xor by one number all along
pub xored-replicate : (ms : List ℕ) (pad : ℕ) → xored ms (replicate (length ms) pad) ≡ map (λ m. bit_xor m pad) ms
xored-replicate [] pad = refl
xored-replicate (m ∷ ms) pad = ap (λ t. bit_xor m pad ∷ t) (xored-replicate ms pad)
