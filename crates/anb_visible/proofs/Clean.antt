-- What is shown is clean.
use Rattle.std.proofs.Common.{◌≡◌, ℕ, suc, ◌<◌, ◌≤◌, ◌/◌, ◌%◌, true, false, List, [], ◌∷◌, ◌++◌, refl, arith, inl, inr}
use Rattle.std.specs.Prelude.{Bool, nat_lt, ◌==◌}
use Rattle.std.specs.Char.{digit_char}
use Rattle.std.specs.List.{AllByRecursion, flat_map}
use Rattle.std.specs.Str.{is_utf8}
use Rattle.std.proofs.lemmas.Bool.{and_left, cases_Bool, le-ltb, ltb-false, ltb-true, ne_eqb, or_from}
use Rattle.std.proofs.lemmas.Str.{IsUtf8-append, IsUtf8-from_ascii, IsUtf8-from_is_utf8, IsUtf8-nil}
use Rattle.std.proofs.lemmas.Str.Ascii.{IsAscii-cons, IsAscii-nil}
use Rattle.anb_base.specs.Bytes.{IsBytes}
use Rattle.anb_visible.specs.Visible.{IsClean, escaped, is_control, shown_after, shown_byte, shown_run, visible}

abbrev Calm : ℕ → Type 0
Calm b = is_control b ≡ false

calm_append : (x y : List ℕ) → AllByRecursion Calm x → AllByRecursion Calm y → AllByRecursion Calm (x ++ y)
calm_append [] y a b = b
calm_append (c ∷ x) y a b = (a.0, calm_append x y a.1 b)

clean_append : (x y : List ℕ) → IsClean x → IsClean y → IsClean (x ++ y)
clean_append x y a b = record { utf8 = IsUtf8-append x y a.utf8 b.utf8; calm = calm_append x y a.calm b.calm }

clean_nil : IsClean []
clean_nil = record { utf8 = IsUtf8-nil; calm = tt }

clean_one : (b : ℕ) → b < 128 → Calm b → IsClean (b ∷ [])
clean_one b small calm = record { utf8 = IsUtf8-from_ascii (b ∷ []) (IsAscii-cons b [] small IsAscii-nil); calm = (calm, tt) }

-- ---- escapes

calm_above : (b : ℕ) → 32 ≤ b → (b ≡ 127 → ⊥) → Calm b
calm_above b printable other = or_from _ _ (and_left _ _ (le-ltb b 32 printable)) (ne_eqb b 127 other)

digit_small : (d : ℕ) → d < 16 → digit_char d < 103
digit_small d small = elim (cases_Bool (nat_lt d 10)) [
  | inl is ↦ rw is (omega (arith, ltb-true d 10 is))
  | inr is ↦ rw is (omega (arith, small))
]

digit_large : (d : ℕ) → 48 ≤ digit_char d
digit_large d = elim (cases_Bool (nat_lt d 10)) [
  | inl is ↦ rw is (omega arith)
  | inr is ↦ rw is (omega arith)
]

clean_digit : (d : ℕ) → d < 16 → IsClean (digit_char d ∷ [])
clean_digit d small =
    let low = digit_large d in let high = digit_small d small in
    clean_one (digit_char d) (omega arith) (calm_above (digit_char d) (omega arith) (λ is. omega (arith, is)))

clean_escaped : (b : ℕ) → b < 256 → IsClean (escaped b)
clean_escaped b byte =
    clean_append (92 ∷ 120 ∷ []) _ (clean_append (92 ∷ []) (120 ∷ []) (clean_one 92 (omega arith) refl) (clean_one 120 (omega arith) refl))
    (clean_append (digit_char (b / 16) ∷ []) (digit_char (b % 16) ∷ []) (clean_digit (b / 16) (omega arith)) (clean_digit (b % 16) (omega arith)))

-- ---- bytes and runs

clean_byte : (b : ℕ) → b < 128 → IsClean (shown_byte b)
clean_byte b small = elim (cases_Bool (is_control b)) [
  | inl is ↦ rw is (clean_escaped b (omega (arith, small)))
  | inr is ↦ rw is (clean_one b small is)
]

abbrev High : ℕ → Type 0
High b = (128 ≤ b) × (b < 256)

high_append : (x y : List ℕ) → AllByRecursion High x → AllByRecursion High y → AllByRecursion High (x ++ y)
high_append [] y a b = b
high_append (c ∷ x) y a b = (a.0, high_append x y a.1 b)

calm_high : (run : List ℕ) → AllByRecursion High run → AllByRecursion Calm run
calm_high [] high = tt
calm_high (b ∷ run) high = (calm_above b (omega (arith, high.0.0)) (λ is. omega (arith, high.0.0, is)), calm_high run high.1)

clean_escapes : (run : List ℕ) → AllByRecursion High run → IsClean (flat_map escaped run)
clean_escapes [] high = clean_nil
clean_escapes (b ∷ run) high = clean_append (escaped b) (flat_map escaped run) (clean_escaped b high.0.1) (clean_escapes run high.1)

clean_run : (run : List ℕ) → AllByRecursion High run → IsClean (shown_run run)
clean_run run high = elim (cases_Bool (is_utf8 run)) [
  | inl is ↦ rw is (record { utf8 = IsUtf8-from_is_utf8 run is; calm = calm_high run high })
  | inr is ↦ rw is (clean_escapes run high)
]

clean_after : (run bytes : List ℕ) → AllByRecursion High run → IsBytes bytes → IsClean (shown_after run bytes)
clean_after run [] high are = clean_run run high
clean_after run (b ∷ bytes) high are = elim (cases_Bool (nat_lt b 128)) [
  | inl is ↦ rw is (clean_append (shown_run run) _ (clean_run run high) (clean_append (shown_byte b) _ (clean_byte b (ltb-true b 128 is)) (clean_after [] bytes tt (λ i. are (suc i)))))
  | inr is ↦ rw is (clean_after (run ++ b ∷ []) bytes (high_append run (b ∷ []) high ((ltb-false b 128 is, are 0), tt)) (λ i. are (suc i)))
]

pub clean_visible : (bytes : List ℕ) → IsBytes bytes → IsClean (visible bytes)
clean_visible bytes are = clean_after [] bytes tt are
