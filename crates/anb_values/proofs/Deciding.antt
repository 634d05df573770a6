-- What a line of a values text says is decided.
use Rattle.std.proofs.Common.{◌≡◌, ◌≤◌, ◌<◌, ◌⊎◌, ℕ, List, [], ◌∷◌, ◌++◌, length, map, Bool, true, false, Option, Some, None, Result, Ok, Err, refl, sym, ap, subst, inl, inr, ◌∙◌, length-append, arith}
use Rattle.std.specs.Prelude.{IsSome}
use Rattle.std.specs.List.{AllByRecursion, flat_map}
use Rattle.std.proofs.lemmas.Bool.{cases_lt}
use Rattle.std.proofs.lemmas.Bool.Decides.{nat_tests}
use Rattle.std.proofs.lemmas.List.Elements.{All-from_recursion, recursion_from_All}
use Rattle.hex.specs.Hex.{decode_of, hex_digit_value}
use Rattle.hex.specs.declared.error.FromHexError.{FromHexError}
use Rattle.anb_format.specs.Literals.{Character, Plain, Quote, Backslash, Hexadecimal, IsAllowed, IsLiteral, byte_of, spelling_of}
use Rattle.anb_format.proofs.Characters.{takes_some}
use Rattle.anb_values.specs.declared.lines.Entry.{Entry}
use Rattle.anb_values.specs.Lines.{Gives, IsGiven, IsHex, IsLabel, IsValue, Says, content, is_label_byte, is_passed_over, label_text, seed_label, value_text}
use Rattle.anb_lemmas.proofs.Searching.{Decided, Tries, below_decided, both_decided, decided_as, items_many, lists_decided, longer_decided, same_decided, truth_decided}

some_decided : {A : Type 0} (x : Option A) → Decided (IsSome x)
some_decided None = inr (λ h. cc)
some_decided (Some x) = inl refl

-- ---- literals

plain_decided : (b : ℕ) → Decided (IsAllowed (Plain b))
plain_decided b = by (cases_lt b 0x20) (cases_lt 0x7e b) (same_decided (b ∷ []) (34 ∷ [])) (same_decided (b ∷ []) (92 ∷ [])) where
  by : (b < 0x20) ⊎ (0x20 ≤ b) → (0x7e < b) ⊎ (b ≤ 0x7e) → Decided (b ∷ [] ≡ 34 ∷ []) → Decided (b ∷ [] ≡ 92 ∷ []) → Decided (IsAllowed (Plain b))
  by (inl low) high quote slash = inr (λ is. let from = is.0 in omega (arith, low, from))
  by (inr from) (inl high) quote slash = inr (λ is. let to = is.1 in omega (arith, high, to))
  by (inr from) (inr to) (inl quote) slash = inr (λ is. is.2 (let same : b ≡ 34 = cc in same))
  by (inr from) (inr to) (inr quote) (inl slash) = inr (λ is. is.3 (let same : b ≡ 92 = cc in same))
  by (inr from) (inr to) (inr quote) (inr slash) = inl (from, to, (λ same. quote (ap (λ c. c ∷ []) same)), (λ same. slash (ap (λ c. c ∷ []) same)))

digit_small : (c : ℕ) → IsSome (hex_digit_value c) → c < 128
digit_small c some = grind (arith, nat_tests, some)

module _ (P : Character → Type 0) where
  abbrev SomePlain : Type 0
  SomePlain = (b : ℕ) × (b < 127) × (IsAllowed (Plain b) × P (Plain b))

  abbrev SomeHexadecimal : Type 0
  SomeHexadecimal = (high : ℕ) × (high < 128) × ((low : ℕ) × (low < 128) × (IsAllowed (Hexadecimal high low) × P (Hexadecimal high low)))

  first_character : Decided (P Quote) → Decided (P Backslash) → Decided SomePlain → Decided SomeHexadecimal → Decided ((c : Character) × IsAllowed c × P c)
  first_character (inl p) slash plain digits = inl (Quote, tt, p)
  first_character (inr quote) (inl p) plain digits = inl (Backslash, tt, p)
  first_character (inr quote) (inr slash) (inl w) digits = inl (Plain w.0, w.2.0, w.2.1)
  first_character (inr quote) (inr slash) (inr plain) (inl w) = inl (Hexadecimal w.0 w.2.0, w.2.2.0, w.2.2.1)
  first_character (inr quote) (inr slash) (inr plain) (inr digits) = inr (λ w. none w.0 w.1 w.2) where
    none : (c : Character) → IsAllowed c → P c → ⊥
    none Quote allowed p = quote p
    none Backslash allowed p = slash p
    none (Plain b) allowed p = let to = allowed.1 in plain (b, omega (arith, to), (allowed, p))
    none (Hexadecimal high low) allowed p = digits (high, digit_small high allowed.0, (low, digit_small low allowed.1, (allowed, p)))

characters_tried : Tries IsAllowed
characters_tried P each =
    first_character P (each Quote) (each Backslash) (below_decided 127 (λ b. IsAllowed (Plain b) × P (Plain b)) (λ b. both_decided (plain_decided b) (each (Plain b))))
    (below_decided 128 (λ high. (low : ℕ) × (low < 128) × (IsAllowed (Hexadecimal high low) × P (Hexadecimal high low))) (λ high.
    below_decided 128 (λ low. IsAllowed (Hexadecimal high low) × P (Hexadecimal high low)) (λ low.
    both_decided (both_decided (some_decided (hex_digit_value high)) (some_decided (hex_digit_value low))) (each (Hexadecimal high low)))))

literal_decided : (text : List ℕ) → Decided ((bytes : List ℕ) × IsLiteral text bytes)
literal_decided text =
    decided_as (λ w. (map byte_of w.0, record { characters = w.0; allowed = w.1; spelled = w.3; means = refl }))
    (λ w. let is = w.1 in let whole = ap length is.spelled in
    (is.characters, is.allowed, omega (arith, whole, items_many spelling_of is.characters takes_some, length-append (flat_map spelling_of is.characters) (34 ∷ [])), is.spelled))
    (lists_decided IsAllowed characters_tried (length text) (λ cs. text ≡ 34 ∷ flat_map spelling_of cs ++ 34 ∷ []) (λ cs. same_decided text (34 ∷ flat_map spelling_of cs ++ 34 ∷ [])))

-- ---- values

hex_decided : (text : List ℕ) → Decided ((bytes : List ℕ) × IsHex text bytes)
hex_decided [] = inr (λ w. let never = w.1.1 in cc)
hex_decided (b ∷ digits) = by (same_decided (b ∷ []) (120 ∷ [])) (decode_of digits) refl where
  by : Decided (b ∷ [] ≡ 120 ∷ []) → (r : Result (List ℕ) FromHexError) → decode_of digits ≡ r → Decided ((bytes : List ℕ) × IsHex (b ∷ digits) bytes)
  by (inr other) r e = inr (λ w. let is = w.1.1 in other (cc))
  by (inl same) (Ok bytes) e = inl (bytes, (digits, (let is : b ≡ 120 = cc in ap (λ c. c ∷ digits) is), e))
  by (inl same) (Err no_digits) e = inr (λ w. no_value w.0 w.1.0 w.1.1 w.1.2) where
    no_value : (bytes others : List ℕ) → b ∷ digits ≡ 120 ∷ others → decode_of others ≡ Ok bytes → ⊥
    no_value bytes others is also =
        let rest : digits ≡ others = cc in
        let never : ◌≡◌ {A = Result (List ℕ) FromHexError} (Err no_digits) (Ok bytes) = sym e ∙ ap decode_of rest ∙ also in cc

value_decided : (text : List ℕ) → Decided ((bytes : List ℕ) × IsValue text bytes)
value_decided text = by (literal_decided text) (hex_decided text) where
  by : Decided ((bytes : List ℕ) × IsLiteral text bytes) → Decided ((bytes : List ℕ) × IsHex text bytes) → Decided ((bytes : List ℕ) × IsValue text bytes)
  by (inl w) digits = inl (w.0, inl w.1)
  by (inr literal) (inl w) = inl (w.0, inr w.1)
  by (inr literal) (inr digits) = inr (λ w. elim w.1 [ inl is ↦ literal (w.0, is) | inr is ↦ digits (w.0, is) ])

seed_decided : (text : List ℕ) → Decided ((bytes : List ℕ) × (IsHex text bytes × (length bytes ≡ 32)))
seed_decided text = by (hex_decided text) where
  once : (bytes others : List ℕ) → IsHex text bytes → IsHex text others → bytes ≡ others
  once bytes others (digits, is, value) (also, are, same) =
      let rest : digits ≡ also = let both = sym is ∙ are in cc in
      let both : ◌≡◌ {A = Result (List ℕ) FromHexError} (Ok bytes) (Ok others) = sym value ∙ ap decode_of rest ∙ same in cc

  long : (bytes : List ℕ) → IsHex text bytes → Decided (length bytes ∷ [] ≡ 32 ∷ []) → Decided ((bytes : List ℕ) × (IsHex text bytes × (length bytes ≡ 32)))
  long bytes is (inl same) = inl (bytes, (is, let all : length bytes ≡ 32 = cc in all))
  long bytes is (inr other) = inr (λ w. other (ap (λ n. n ∷ []) (ap length (once bytes w.0 is w.1.0) ∙ w.1.1)))

  by : Decided ((bytes : List ℕ) × IsHex text bytes) → Decided ((bytes : List ℕ) × (IsHex text bytes × (length bytes ≡ 32)))
  by (inl w) = long w.0 w.1 (same_decided (length w.0 ∷ []) (32 ∷ []))
  by (inr none) = inr (λ w. none (w.0, w.1.0))

-- ---- lines

passes_decided : (p : ℕ → Bool) (xs : List ℕ) → Decided (AllByRecursion (λ b. p b ≡ true) xs)
passes_decided p [] = inl tt
passes_decided p (x ∷ xs) = both_decided (truth_decided (p x)) (passes_decided p xs)

label_decided : (label : List ℕ) → Decided (IsLabel label)
label_decided label =
    both_decided (longer_decided label)
    (decided_as (All-from_recursion (λ b. is_label_byte b ≡ true) label) (recursion_from_All (λ b. is_label_byte b ≡ true) label) (passes_decided is_label_byte label))

given_decided : (label text : List ℕ) → Decided ((bytes : List ℕ) × IsGiven label text bytes)
given_decided label text = by (label_decided label) (value_decided text) (same_decided label seed_label) (seed_decided text) where
  seed : Decided (label ≡ seed_label) → Decided ((bytes : List ℕ) × (IsHex text bytes × (length bytes ≡ 32))) → ((bytes : List ℕ) → IsLabel label × IsValue text bytes → ⊥) → Decided ((bytes : List ℕ) × IsGiven label text bytes)
  seed (inl is) (inl w) none = inl (w.0, inr (is, w.1.0, w.1.1))
  seed (inl is) (inr no_seed) none = inr (λ w. elim w.1 [ inl named ↦ none w.0 named | inr it ↦ no_seed (w.0, (it.1, it.2)) ])
  seed (inr other) seeds none = inr (λ w. elim w.1 [ inl named ↦ none w.0 named | inr it ↦ other it.0 ])

  by : Decided (IsLabel label) → Decided ((bytes : List ℕ) × IsValue text bytes) → Decided (label ≡ seed_label) → Decided ((bytes : List ℕ) × (IsHex text bytes × (length bytes ≡ 32))) → Decided ((bytes : List ℕ) × IsGiven label text bytes)
  by (inl named) (inl w) same seeds = inl (w.0, inl (named, w.1))
  by (inl named) (inr none) same seeds = seed same seeds (λ bytes is. none (bytes, is.1))
  by (inr unnamed) values same seeds = seed same seeds (λ bytes is. unnamed is.0)

entry_decided : (bytes : List ℕ) → Decided ((entry : Entry) × Gives bytes entry)
entry_decided bytes = decided_as (λ w. (record { label = label_text bytes; value = w.0 }, (refl, w.1)))
    (λ w. (w.0.value, subst (λ label. IsGiven label (value_text bytes) w.0.value) w.1.0 w.1.1)) (given_decided (label_text bytes) (value_text bytes))

pub said_decided : (line : List ℕ) → Decided ((said : Option Entry) × Says line said)
said_decided line = by (is_passed_over (content line)) refl (entry_decided (content line)) where
  by : (b : Bool) → is_passed_over (content line) ≡ b → Decided ((entry : Entry) × Gives (content line) entry) → Decided ((said : Option Entry) × Says line said)
  by true e entry = inl (None, e)
  by false e (inl w) = inl (Some w.0, (e, w.1))
  by false e (inr none) = inr (λ w. nothing w.0 w.1) where
    nothing : (said : Option Entry) → Says line said → ⊥
    nothing None says = let never : false ≡ true = sym e ∙ says in cc
    nothing (Some entry) says = none (entry, says.1)
