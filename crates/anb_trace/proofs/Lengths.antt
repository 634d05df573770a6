-- A length at the front, by its first byte; and the first place of a byte.
use Rattle.std.proofs.Common.{◌≡◌, ◌==◌, ◌<◌, ◌≤◌, ◌+◌, ◌-◌, ◌*◌, ℕ, zero, suc, List, [], ◌∷◌, length, Bool, true, false, cond, nat_lt, Option, Some, None, refl, arith}
use Rattle.std.specs.Prelude.{IfNone, not, position}
use Rattle.std.specs.List.{position_or_len}
use Rattle.std.proofs.lemmas.Bool.Decides.{nat_tests}
use Rattle.std.proofs.lemmas.List.Sums.{prefix_len-le-length}
use Rattle.anb_trace.specs.Misfits.{length_at, longer_length}

-- what holds anyhow holds where there is nothing
pub if_none : {A P : Type 0} (r : Option A) → P → IfNone r P
if_none None p = p
if_none (Some x) p = tt

pub empty_none : (more : ℕ) (bytes : List ℕ) → length bytes ≡ 0 → length_at more bytes ≡ None
empty_none zero [] none = refl
empty_none (suc more) [] none = refl
empty_none more (b ∷ bytes) none = absurd (omega (arith, none))

pub last_byte : (more b : ℕ) (bytes rest : List ℕ) → bytes ≡ b ∷ rest → b < 128 → length_at more bytes ≡ Some (b, rest)
last_byte zero b bytes rest e small = let yes : nat_lt b 128 ≡ true = grind (arith, nat_tests) in rw (e, yes) refl
last_byte (suc more) b bytes rest e small = let yes : nat_lt b 128 ≡ true = grind (arith, nat_tests) in rw (e, yes) refl

pub no_more : (more b : ℕ) (bytes rest : List ℕ) → bytes ≡ b ∷ rest → 128 ≤ b → more ≡ 0 → length_at more bytes ≡ None
no_more zero b bytes rest e large none = let absent : nat_lt b 128 ≡ false = grind (arith, nat_tests) in rw (e, absent) refl
no_more (suc more) b bytes rest e large none = absurd (omega (arith, none))

pub one_more : (more b : ℕ) (bytes rest : List ℕ) → bytes ≡ b ∷ rest → 128 ≤ b → 0 < more → length_at more bytes ≡ longer_length (b - 128) (length_at (more - 1) rest)
one_more zero b bytes rest e large some = absurd (omega (arith, some))
one_more (suc more) b bytes rest e large some =
    let absent : nat_lt b 128 ≡ false = grind (arith, nat_tests) in
    let less : suc more - 1 ≡ more = omega arith in rw (e, absent, less) refl

pub longer_none : (low : ℕ) (o : Option (ℕ × List ℕ)) → o ≡ None → longer_length low o ≡ None
longer_none low o e = rw e refl

pub longer_zero : (low high : ℕ) (rest : List ℕ) (o : Option (ℕ × List ℕ)) → o ≡ Some (high, rest) → high ≡ 0 → longer_length low o ≡ None
longer_zero low high rest o e none = let t : (high == 0) ≡ true = grind (arith, nat_tests) in rw (e, t) refl

pub longer_some : (low high n : ℕ) (rest : List ℕ) (o : Option (ℕ × List ℕ)) → o ≡ Some (high, rest) → 0 < high → n ≡ high * 128 + low → longer_length low o ≡ Some (n, rest)
longer_some low high n rest o e some value = let t : (high == 0) ≡ false = grind (arith, nat_tests) in rw (e, t, value) refl

-- ---- places

placed : (t : Bool) (i j : ℕ) → ◌≡◌ {A = Option ℕ} (cond t (Some j) None) (Some i) → (t ≡ true) × (i ≡ j)
placed true i j e = (refl, cc)
placed false i j e = cc

unplaced : (t : Bool) (j : ℕ) → ◌≡◌ {A = Option ℕ} (cond t (Some j) None) None → t ≡ false
unplaced true j e = cc
unplaced false j e = refl

pub place_is : (p : ℕ → Bool) (xs : List ℕ) (i : ℕ) → position p xs ≡ Some i → (i ≡ position_or_len p xs) × (i < length xs)
place_is p xs i e =
    let k = placed (nat_lt (position_or_len p xs) (length xs)) i (position_or_len p xs) e in
    let t : nat_lt (position_or_len p xs) (length xs) ≡ true = k.0 in
    let below : position_or_len p xs < length xs = grind (arith, nat_tests) in
    (k.1, omega (arith, k.1, below))

pub place_none : (p : ℕ → Bool) (xs : List ℕ) → position p xs ≡ None → length xs ≡ position_or_len p xs
place_none p xs e =
    let t : nat_lt (position_or_len p xs) (length xs) ≡ false = unplaced (nat_lt (position_or_len p xs) (length xs)) (position_or_len p xs) e in
    let least : length xs ≤ position_or_len p xs = grind (arith, nat_tests) in
    omega (arith, least, prefix_len-le-length (λ x. not (p x)) xs)
