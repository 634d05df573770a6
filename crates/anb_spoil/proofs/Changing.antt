-- What a change makes differs from what it was made of.
use Rattle.std.proofs.Common.{◌≡◌, ◌≢◌, ◌<◌, ◌≤◌, ◌+◌, ◌-◌, ℕ, Bool, true, false, nat_lt, List, [], ◌∷◌, ◌++◌, length, take, drop, Option, Some, None, bit_xor, if◌then◌else◌, refl, ap, sym, ◌∙◌, arith, inl, inr, length-append}
use Rattle.std.specs.Int.Bits.{xor_assoc, xor_self}
use Rattle.std.proofs.lemmas.Bool.{cases_lt}
use Rattle.std.proofs.lemmas.List.{append_cancel_left, length-drop, length-map, length-take, length-take-le, nil_from_length, take-append-drop}
use Rattle.anb_lemmas.proofs.Numbers.{is_below, isnt_below}
use Rattle.anb_lemmas.proofs.Options.{guard_passed}
use Rattle.anb_spoil.specs.Changes.{changed_by, first_changed, last_changed, xor_one}
use Rattle.anb_spoil.specs.declared.changes.Change.{Change}
use Rattle.anb_spoil.specs.declared.changes.Change.TheVariants.{LastByte, WithoutLast, FirstByte, ByteMore, ZeroInFront}

-- a byte xor 1 is another one
one_differs : (b : ℕ) → bit_xor b 1 ≡ b → ⊥
one_differs b e =
    let twice : bit_xor b (bit_xor b 1) ≡ 1 = sym (xor_assoc b b 1) ∙ ap (λ (x : ℕ). bit_xor x 1) (xor_self b) in
    let none : bit_xor b (bit_xor b 1) ≡ 0 = ap (λ (x : ℕ). bit_xor b x) e ∙ xor_self b in
    omega (arith, twice, none)

each_differs : (bytes : List ℕ) → xor_one bytes ≡ bytes → bytes ≡ []
each_differs [] e = refl
each_differs (b ∷ bytes) e = let same : bit_xor b 1 ≡ b = cc in absurd (one_differs b same)

-- the last byte xor 1 is another list, as long as the first
pub last_differs : (bytes : List ℕ) → last_changed bytes ≡ bytes → bytes ≡ []
last_differs bytes e =
    let same : xor_one (drop (length bytes - 1) bytes) ≡ drop (length bytes - 1) bytes =
    append_cancel_left (take (length bytes - 1) bytes) _ _ (e ∙ sym (take-append-drop (length bytes - 1) bytes)) in
    let none = each_differs (drop (length bytes - 1) bytes) same in
    nil_from_length bytes (omega (arith, ap length none, length-drop (length bytes - 1) bytes))

pub length-last_changed : (bytes : List ℕ) → length (last_changed bytes) ≡ length bytes
length-last_changed bytes =
    omega (arith, length-append (take (length bytes - 1) bytes) (xor_one (drop (length bytes - 1) bytes)), length-take-le (length bytes - 1) bytes (omega arith), length-map (drop (length bytes - 1) bytes) (λ b. bit_xor b 1), length-drop (length bytes - 1) bytes)

length-first_changed : (bytes : List ℕ) → length (first_changed bytes) ≡ length bytes
length-first_changed bytes = omega (arith, length-append (xor_one (take 1 bytes)) (drop 1 bytes), length-map (take 1 bytes) (λ b. bit_xor b 1), length-take 1 bytes, length-drop 1 bytes)

first_differs : (bytes : List ℕ) → first_changed bytes ≡ bytes → bytes ≡ []
first_differs [] e = refl
first_differs (b ∷ bytes) e = let same : bit_xor b 1 ≡ b = cc in absurd (one_differs b same)

some_byte : (bytes : List ℕ) → nat_lt 0 (length bytes) ≡ true → bytes ≡ [] → ⊥
some_byte bytes passes e = let f = rw e at passes in cc

-- the last byte left out, or one byte more, is of another length
abbrev cut : List ℕ → List ℕ
cut bytes = if nat_lt 1 (length bytes) then take (length bytes - 1) bytes else bytes ++ 0 ∷ []

cut_differs : (bytes : List ℕ) → cut bytes ≡ bytes → ⊥
cut_differs bytes = elim (cases_lt 1 (length bytes)) [
  | inl several ↦ rw (is_below 1 (length bytes) several) (λ e. omega (arith, several, ap length e, length-take-le (length bytes - 1) bytes (omega arith)))
  | inr few ↦ rw (isnt_below 1 (length bytes) few) (λ e. omega (arith, ap length e, length-append bytes (0 ∷ [])))
]

cut_long : (bytes : List ℕ) → length (cut bytes) ≤ length bytes + 1
cut_long bytes = elim (cases_lt 1 (length bytes)) [
  | inl several ↦ rw (is_below 1 (length bytes) several) (omega (arith, length-take-le (length bytes - 1) bytes (omega arith)))
  | inr few ↦ rw (isnt_below 1 (length bytes) few) (omega (arith, length-append bytes (0 ∷ [])))
]

pub changes_differ : (change : Change) (bytes wrong : List ℕ) → changed_by change bytes ≡ Some wrong → wrong ≢ bytes
changes_differ LastByte bytes wrong e same =
    let found = guard_passed (nat_lt 0 (length bytes)) (Some (last_changed bytes)) wrong e in
    let is : last_changed bytes ≡ wrong = let h = found.1 in cc in
    some_byte bytes found.0 (last_differs bytes (is ∙ same))
changes_differ WithoutLast bytes wrong e same = let is : cut bytes ≡ wrong = cc in cut_differs bytes (is ∙ same)
changes_differ FirstByte bytes wrong e same =
    let found = guard_passed (nat_lt 0 (length bytes)) (Some (first_changed bytes)) wrong e in
    let is : first_changed bytes ≡ wrong = let h = found.1 in cc in
    some_byte bytes found.0 (first_differs bytes (is ∙ same))
changes_differ ByteMore bytes wrong e same =
    let is : bytes ++ 0 ∷ [] ≡ wrong = cc in
    omega (arith, ap length (is ∙ same), length-append bytes (0 ∷ []))
changes_differ ZeroInFront bytes wrong e same =
    let is : 0 ∷ bytes ≡ wrong = cc in
    omega (arith, ap length (is ∙ same))

-- a change adds a byte at most, and makes nothing of no bytes alone
pub change_long : (change : Change) (bytes wrong : List ℕ) → changed_by change bytes ≡ Some wrong → length wrong ≤ length bytes + 1
change_long LastByte bytes wrong e =
    let found = guard_passed (nat_lt 0 (length bytes)) (Some (last_changed bytes)) wrong e in
    let is : last_changed bytes ≡ wrong = let h = found.1 in cc in
    omega (arith, ap length is, length-last_changed bytes)
change_long WithoutLast bytes wrong e = let is : cut bytes ≡ wrong = cc in omega (arith, ap length is, cut_long bytes)
change_long FirstByte bytes wrong e =
    let found = guard_passed (nat_lt 0 (length bytes)) (Some (first_changed bytes)) wrong e in
    let is : first_changed bytes ≡ wrong = let h = found.1 in cc in
    omega (arith, ap length is, length-first_changed bytes)
change_long ByteMore bytes wrong e = let is : bytes ++ 0 ∷ [] ≡ wrong = cc in omega (arith, ap length is, length-append bytes (0 ∷ []))
change_long ZeroInFront bytes wrong e = let is : 0 ∷ bytes ≡ wrong = cc in omega (arith, ap length is)

pub unchanged_empty : (change : Change) (bytes : List ℕ) → changed_by change bytes ≡ None → bytes ≡ []
unchanged_empty LastByte [] e = refl
unchanged_empty LastByte (b ∷ bytes) e = let passes = is_below 0 (length (b ∷ bytes)) (omega arith) in let f = rw passes at e in absurd (cc)
unchanged_empty WithoutLast bytes e = absurd (cc)
unchanged_empty FirstByte [] e = refl
unchanged_empty FirstByte (b ∷ bytes) e = let passes = is_below 0 (length (b ∷ bytes)) (omega arith) in let f = rw passes at e in absurd (cc)
unchanged_empty ByteMore bytes e = absurd (cc)
unchanged_empty ZeroInFront bytes e = absurd (cc)
