-- The values that a file gives are strings of bytes, one for each name.
use Rattle.std.proofs.Common.{◌≡◌, ℕ, zero, suc, ◌<◌, ◌≤◌, All, List, [], ◌∷◌, ◌++◌, length, map, Bool, true, false, Option, Some, None, Ok, refl, sym, ap, ◌∙◌, subst, inl, inr, arith}
use Rattle.std.specs.Prelude.{IsSome, codes, unwrap_or}
use Rattle.std.specs.List.{AllByRecursion, AllZip, flat_map}
use Rattle.std.specs.Option.{option_to_list}
use Rattle.std.specs.Str.{bytes_eq}
use Rattle.std.proofs.lemmas.Slice.Eq.{bytes_eq-Decides}
use Rattle.std.proofs.lemmas.List.{length-map}
use Rattle.std.proofs.lemmas.List.Elements.{All-head}
use Rattle.hex.specs.Hex.{hex_digit_value}
use Rattle.hex.proofs.HexLemmas.{decode_of-ok}
use Rattle.anb_base.specs.Bytes.{IsBytes}
use Rattle.anb_base.specs.declared.TheConstants.{ARRIVAL}
use Rattle.anb_format.specs.Literals.{Character, Plain, Quote, Backslash, Hexadecimal, IsAllowed, IsLiteral, byte_of}
use Rattle.anb_values.specs.declared.fitted.Fitted.{Fitted}
use Rattle.anb_values.specs.Fit.{Fit, lines_faults, missing, value_of}
use Rattle.anb_values.specs.Lines.{IsGiven, IsHex, IsLabel, Says, content, is_label_byte, lines_of, seed_label, value_text}
use Rattle.anb_values.proofs.Short.{values_short}

digit : (d : Option ℕ) (c : ℕ) → hex_digit_value c ≡ d → IsSome d → unwrap_or d 0 < 16
digit None c e some = absurd (cc)
digit (Some v) c e some = grind (arith, e)

is_byte : (c : Character) → IsAllowed c → byte_of c < 256
is_byte (Plain b) allowed = let below = allowed.1 in omega (arith, below)
is_byte Quote allowed = omega arith
is_byte Backslash allowed = omega arith
is_byte (Hexadecimal high low) allowed =
    let h = digit (hex_digit_value high) high refl allowed.0 in
    let l = digit (hex_digit_value low) low refl allowed.1 in
    omega (arith, h, l)

are_bytes : (cs : List Character) → AllByRecursion IsAllowed cs → IsBytes (map byte_of cs)
are_bytes [] all i = omega arith
are_bytes (c ∷ cs) all zero = is_byte c all.0
are_bytes (c ∷ cs) all (suc i) = are_bytes cs all.1 i

literal_bytes : (text bytes : List ℕ) → IsLiteral text bytes → IsBytes bytes
literal_bytes text bytes is = subst IsBytes (sym is.means) (are_bytes is.characters is.allowed)

hex_bytes : (text bytes : List ℕ) → IsHex text bytes → IsBytes bytes
hex_bytes text bytes (digits, is, decoded) = (decode_of-ok digits bytes decoded).3

given_bytes : (label text bytes : List ℕ) → IsGiven label text bytes → IsBytes bytes
given_bytes label text bytes (inl (named, inl literal)) = literal_bytes text bytes literal
given_bytes label text bytes (inl (named, inr digits)) = hex_bytes text bytes digits
given_bytes label text bytes (inr (seed, digits, long)) = hex_bytes text bytes digits

-- what is found on lines under a name is the value of a line with this label
pub record IsOnALine (name v : List ℕ) : Type 0 where
  pub label : List ℕ
  pub text : List ℕ
  pub named : bytes_eq label name ≡ true
  pub given : IsGiven label text v

found : (lines : List (List ℕ)) (said : _) (name v : List ℕ) → AllZip Says lines said → Some v ≡ value_of (flat_map option_to_list said) name → IsOnALine name v
found [] [] name v all e = absurd (cc)
found [] (s ∷ said) name v all e = absurd all
found (line ∷ lines) [] name v all e = absurd all
found (line ∷ lines) (None ∷ said) name v all e = found lines said name v all.1 e
found (line ∷ lines) (Some entry ∷ said) name v all e = by (bytes_eq entry.label name) refl (found lines said name v all.1) where
  by : (b : Bool) → bytes_eq entry.label name ≡ b → (Some v ≡ value_of (flat_map option_to_list said) name → IsOnALine name v) → IsOnALine name v
  by true is later =
      let found : Some v ≡ Some entry.value = rw is at e in
      let same : v ≡ entry.value = cc in
      record { label = entry.label; text = value_text (content line); named = is; given = subst (IsGiven entry.label (value_text (content line))) (sym same) all.0.1.1 }
  by false is later = later (rw is at e)

found_bytes : (lines : List (List ℕ)) (said : _) (name v : List ℕ) → AllZip Says lines said → Some v ≡ value_of (flat_map option_to_list said) name → IsBytes v
found_bytes lines said name v all e =
    let on = found lines said name v all e in
    given_bytes on.label on.text v on.given

each_bytes : (lines : List (List ℕ)) (said : _) (names values : List (List ℕ)) → AllZip Says lines said → map Some values ≡ map (value_of (flat_map option_to_list said)) names → AllByRecursion IsBytes values
each_bytes lines said names [] all e = tt
each_bytes lines said [] (v ∷ values) all e = absurd (cc)
each_bytes lines said (name ∷ names) (v ∷ values) all e =
    let first : Some v ≡ value_of (flat_map option_to_list said) name = cc in
    let rest : map Some values ≡ map (value_of (flat_map option_to_list said)) names = cc in
    (found_bytes lines said name v all first, each_bytes lines said names values all rest)

pub fit_bytes : (text : List ℕ) (names : List (List ℕ)) (fitted : Fitted) → Fit text names (Ok fitted) → AllByRecursion IsBytes fitted.values
fit_bytes text names fitted (entries, said, none, values, seed) =
    each_bytes (lines_of text) said.0 names fitted.values said.1 (subst (λ es. map Some fitted.values ≡ map (value_of es) names) said.2 values)

pub fit_count : (text : List ℕ) (names : List (List ℕ)) (fitted : Fitted) → Fit text names (Ok fitted) → length fitted.values ≡ length names
fit_count text names fitted (entries, said, none, values, seed) =
    sym (length-map fitted.values Some) ∙ ap length values ∙ length-map names (value_of entries)

-- a seed that is given has 32 bytes
seed_given : (label text bytes : List ℕ) → label ≡ seed_label → IsGiven label text bytes → length bytes ≡ 32
seed_given label text bytes is (inl (named, value)) = absurd (no_label (subst IsLabel is named)) where
  no_label : IsLabel seed_label → ⊥
  no_label named = let first : is_label_byte 64 ≡ true = All-head (λ (b : ℕ). is_label_byte b ≡ true) 64 (codes "seed") named.1 in cc
seed_given label text bytes is (inr (seed, digits, long)) = long

pub fit_seed : (text : List ℕ) (names : List (List ℕ)) (fitted : Fitted) (seed : List ℕ) → Fit text names (Ok fitted) → fitted.seed ≡ Some seed → length seed ≡ 32
fit_seed text names fitted seed (entries, said, none, values, is) e =
    let at : Some seed ≡ value_of (flat_map option_to_list said.0) seed_label = sym e ∙ is ∙ ap (λ es. value_of es seed_label) said.2 in
    let on = found (lines_of text) said.0 seed_label seed said.1 at in
    seed_given on.label on.text seed ((bytes_eq-Decides on.label seed_label).0 on.named) on.given

no_front : {A : Type 0} (xs ys : List A) → xs ++ ys ≡ [] → xs ≡ []
no_front [] ys e = refl
no_front (x ∷ xs) ys e = absurd (cc)

-- no value is longer than an arrival
pub fit_short : (text : List ℕ) (names : List (List ℕ)) (fitted : Fitted) → Fit text names (Ok fitted) → All (λ v. length v ≤ ARRIVAL) fitted.values
fit_short text names fitted (entries, said, none, values, seed) =
    values_short (seed_label ∷ names) names fitted.values entries (no_front (lines_faults (seed_label ∷ names) [] entries) (missing names entries) none) values
