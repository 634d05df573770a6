-- Where tokens stand that stand one behind another.
use Rattle.std.proofs.Common.{◌≡◌, ℕ, zero, suc, ◌+◌, ◌<◌, ◌≤◌, List, [], ◌∷◌, ◌++◌, length, drop, refl, sym, ap, subst, ◌∙◌, arith, length-append}
use Rattle.anb_choice.specs.declared.marks.Mark.{Mark}
use Rattle.anb_choice.specs.Order.{past_at, place_at}
use Rattle.anb_choice.specs.Standing.{IsWithin, Stand}

-- one token more
pub stand_more : (x : List ℕ) (from : ℕ) (ms : List Mark) (to : ℕ) (m : Mark) → Stand x from ms to → IsWithin x to m → Stand x from (ms ++ m ∷ []) m.past
stand_more x from [] to m s w = (subst (λ (k : ℕ). IsWithin x k m) (sym s) w, refl)
stand_more x from (n ∷ ms) to m s w = (s.0, stand_more x n.past ms to m s.1 w)

-- the tokens behind some stand farther on
pub stand_drop : (x : List ℕ) (from : ℕ) (ms : List Mark) (to n : ℕ) → Stand x from ms to → (mid : ℕ) × (from ≤ mid) × Stand x mid (drop n ms) to
stand_drop x from ms to zero s = (from, omega arith, s)
stand_drop x from [] to (suc n) s = (from, omega arith, s)
stand_drop x from (m ∷ ms) to (suc n) s =
    let r = stand_drop x m.past ms to n s.1 in
    let low = s.0.low in
    let bytes = s.0.bytes in
    (r.0, omega (arith, r.1, low, bytes), r.2)

-- and past the last of these
pub stand_past : (x : List ℕ) (from : ℕ) (ms : List Mark) (to n : ℕ) → n < length ms → Stand x from ms to → (mid : ℕ) × (past_at ms n ≤ mid) × Stand x mid (drop (suc n) ms) to
stand_past x from [] to n h s = absurd (omega (arith, h))
stand_past x from (m ∷ ms) to zero h s = (m.past, omega arith, s.1)
stand_past x from (m ∷ ms) to (suc n) h s = stand_past x m.past ms to n (omega (arith, h)) s.1

pub past_within : (x : List ℕ) (from : ℕ) (ms : List Mark) (to n : ℕ) → n < length ms → Stand x from ms to → (from ≤ past_at ms n) × (past_at ms n ≤ length x)
past_within x from [] to n h s = absurd (omega (arith, h))
past_within x from (m ∷ ms) to zero h s =
    let low = s.0.low in
    let bytes = s.0.bytes in
    (omega (arith, low, bytes), s.0.high)
past_within x from (m ∷ ms) to (suc n) h s =
    let r = past_within x m.past ms to n (omega (arith, h)) s.1 in
    let low = s.0.low in
    let bytes = s.0.bytes in
    let here = r.0 in
    (omega (arith, low, bytes, here), r.1)

pub past_behind : (x : List ℕ) (m : Mark) (ms : List Mark) (to n : ℕ) → n ≤ length ms → m.past ≤ length x → Stand x m.past ms to
    → (m.past ≤ past_at (m ∷ ms) n) × (past_at (m ∷ ms) n ≤ length x)
past_behind x m ms to zero h w s = (omega arith, w)
past_behind x m ms to (suc n) h w s = past_within x m.past ms to n (omega (arith, h)) s

-- what stands so far on in the rest
pub place_of_rest : (ms : List Mark) (n i : ℕ) → place_at (drop n ms) i ≡ place_at ms (n + i)
place_of_rest ms zero i = ap (place_at ms) (omega arith)
place_of_rest [] (suc n) i = refl
place_of_rest (m ∷ ms) (suc n) i = place_of_rest ms n i ∙ ap (place_at (m ∷ ms)) (after n i) where
  after : (k j : ℕ) → suc (k + j) ≡ suc k + j
  after k j = omega arith

pub past_of_rest : (ms : List Mark) (n i : ℕ) → past_at (drop n ms) i ≡ past_at ms (n + i)
past_of_rest ms zero i = ap (past_at ms) (omega arith)
past_of_rest [] (suc n) i = refl
past_of_rest (m ∷ ms) (suc n) i = past_of_rest ms n i ∙ ap (past_at (m ∷ ms)) (after n i) where
  after : (k j : ℕ) → suc (k + j) ≡ suc k + j
  after k j = omega arith

pub grown : {A : Type 0} (xs ys : List A) (y : A) → ys ≡ xs ++ y ∷ [] → length ys ≡ length xs + 1
grown xs ys y e = ap length e ∙ length-append xs (y ∷ [])
