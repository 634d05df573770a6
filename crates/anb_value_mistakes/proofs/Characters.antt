-- Characters one after another.
use Rattle.std.proofs.Common.{◌≡◌, ◌≤◌, ◌+◌, ◌-◌, ◌==◌, ℕ, zero, suc, false, List, [], ◌∷◌, length, drop, refl, ◌∙◌, arith}
use Rattle.std.proofs.lemmas.Bool.{ne_eqb}
use Rattle.anb_value_mistakes.specs.Diagnosis.{character_len, characters_len}

-- what stands behind those that began before
begun : (k : ℕ) (x : List ℕ) → k ≤ length x → characters_len k x ≡ k + characters_len 0 (drop k x)
begun zero x within = omega arith
begun (suc k) [] within = absurd (omega (arith, within))
begun (suc k) (b ∷ x) within = let rest = begun k x (omega (arith, within)) in omega (arith, rest)

-- one character and what follows it
one : (x : List ℕ) (k : ℕ) → character_len x ≡ suc k → characters_len 0 x ≡ characters_len (suc k) x
one [] k is = absurd (omega (arith, is))
one (b ∷ x) k is =
    let some : (character_len (b ∷ x) == 0) ≡ false = ne_eqb (character_len (b ∷ x)) 0 (λ e. omega (arith, e, is)) in
    let less : character_len (b ∷ x) - 1 ≡ k = omega (arith, is) in
    rw (some, less) refl

pub next_character : (x : List ℕ) (k : ℕ) → character_len x ≡ k → k ≤ length x → characters_len 0 x ≡ k + characters_len 0 (drop k x)
next_character x zero is within = omega arith
next_character x (suc k) is within = one x k is ∙ begun (suc k) x within
