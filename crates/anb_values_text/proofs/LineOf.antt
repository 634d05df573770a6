-- A line as it is written, and what a reader makes of it.
use Rattle.std.proofs.Common.{◌≡◌, ◌<◌, ◌==◌, ◌/◌, ◌%◌, ◌+◌, ◌-◌, ℕ, suc, Bool, true, false, cond, List, [], ◌∷◌, ◌++◌, length, take, drop, slice_index, Some, refl, sym, ap, ◌∙◌, inl, inr, arith, append_assoc}
use Rattle.std.specs.Prelude.{filter, not, reverse}
use Rattle.std.specs.List.{AllByRecursion, list_all, prefix_len, suffix_len, position_or_len, before_first, after_first}
use Rattle.std.proofs.lemmas.Bool.{and_parts}
use Rattle.std.proofs.lemmas.Bool.Decides.{nat_tests}
use Rattle.std.proofs.lemmas.List.{reverse-append}
use Rattle.hex.specs.Hex.{encode_lower, encode_with, hex_digit_value, lower_digits}
use Rattle.hex.proofs.HexLemmas.{IsDigits-lower_digits, decode_of-encode_lower}
use Rattle.std.specs.List.{flat_map}
use Rattle.anb_lemmas.proofs.Each.{each_by, each_in_both}
use Rattle.anb_base.specs.Bytes.{IsBytes}
use Rattle.anb_format.specs.Literals.{canonical_literal, canonical_spelling}
use Rattle.anb_format.proofs.Canonical.{canonical}
use Rattle.anb_values.specs.Fit.{has_line}
use Rattle.anb_values.specs.Lines as read
use Rattle.anb_values.specs.Lines.{is_space, is_edge, is_label_byte, after_leading, before_trailing, content, is_passed_over, label_text, IsGiven, IsValue, Says}
use Rattle.anb_values_text.specs.Texts.{is_printable, value_text, digits_text}

-- what a reader makes of a line: its label and its value
abbrev item_of : {A B : Type 0} → (List A → B) → Type 0
item_of {A} f = A

abbrev pub EntryValue : Type 0
EntryValue = item_of has_line

abbrev pub entry : (label value : List ℕ) → EntryValue
entry label value = record { label = label; value = value }

-- ---- bytes

-- what a byte of a label isn't
pub record IsWordByte (b : ℕ) : Type 0 where
  pub space : is_space b ≡ false
  pub edge : is_edge b ≡ false
  pub equals : (b == 61) ≡ false
  pub hash : (b == 35) ≡ false
  pub ends : (b == 10) ≡ false

pub word_byte : (b : ℕ) → is_label_byte b ≡ true → IsWordByte b
word_byte b h = record {
  space = grind (arith, nat_tests);
  edge = grind (arith, nat_tests);
  equals = grind (arith, nat_tests);
  hash = grind (arith, nat_tests);
  ends = grind (arith, nat_tests);
}

pub at_sign : IsWordByte 64
at_sign = record { space = refl; edge = refl; equals = refl; hash = refl; ends = refl }

abbrev pub IsNoBreak : ℕ → Type 0
IsNoBreak b = (b == 10) ≡ false

-- ---- how a value is written

-- a text on one line, which begins and ends with something else than blanks
pub record IsText (text : List ℕ) : Type 0 where
  pub first : ℕ
  pub others : List ℕ
  pub begins : text ≡ first ∷ others
  pub no_space : is_space first ≡ false
  pub front : List ℕ
  pub last : ℕ
  pub ends : text ≡ front ++ last ∷ []
  pub no_edge : is_edge last ≡ false
  pub lines : AllByRecursion IsNoBreak text

-- the last of some bytes
last_of : (b : ℕ) (rest : List ℕ) → AllByRecursion IsWordByte (b ∷ rest) → (front : List ℕ) × (last : ℕ) × (b ∷ rest ≡ front ++ last ∷ []) × (is_edge last ≡ false)
last_of b [] all = ([], b, refl, all.0.edge)
last_of b (d ∷ rest) all = let (front, last, e, no_edge) = last_of d rest all.1 in (b ∷ front, last, ap (λ l. b ∷ l) e, no_edge)

digit_byte : (c d : ℕ) → hex_digit_value c ≡ Some d → is_label_byte c ≡ true
digit_byte c d e = grind (arith, nat_tests, e)

digit_word : (d : ℕ) → d < 16 → IsWordByte (slice_index lower_digits d)
digit_word d small = word_byte (slice_index lower_digits d) (digit_byte (slice_index lower_digits d) d (IsDigits-lower_digits d small))

digits_words : (bytes : List ℕ) → IsBytes bytes → AllByRecursion IsWordByte (encode_lower bytes)
unfolding encode_with
digits_words [] small = tt
digits_words (b ∷ bytes) small =
    let first : b < 256 = small 0 in
    (digit_word (b / 16) (omega arith), (digit_word (b % 16) (omega arith), digits_words bytes (λ i. small (suc i))))

pub digits_are_text : (bytes : List ℕ) → IsBytes bytes → IsText (digits_text bytes)
digits_are_text bytes small =
    let all : AllByRecursion IsWordByte (120 ∷ encode_lower bytes) = (word_byte 120 refl, digits_words bytes small) in
    let (front, last, e, no_edge) = last_of 120 (encode_lower bytes) all in
    record {
      first = 120;
      others = encode_lower bytes;
      begins = refl;
      no_space = refl;
      front = front;
      last = last;
      ends = e;
      no_edge = no_edge;
      lines = each_by IsWordByte IsNoBreak (λ b is. is.ends) (120 ∷ encode_lower bytes) all;
    }

spelled_breaks : (b : ℕ) → is_printable b ≡ true → AllByRecursion IsNoBreak (canonical_spelling b)
spelled_breaks b h = by (b == 34) refl (b == 92) refl where
  by : (quote : Bool) → (b == 34) ≡ quote → (slash : Bool) → (b == 92) ≡ slash → AllByRecursion IsNoBreak (canonical_spelling b)
  by true e slash f = rw e (refl, (refl, tt))
  by false e true f = rw (e, f) (refl, (refl, tt))
  by false e false f = rw (e, f, h) (grind (arith, nat_tests), tt)

literal_breaks : (bytes : List ℕ) → list_all is_printable bytes ≡ true → AllByRecursion IsNoBreak (flat_map canonical_spelling bytes)
literal_breaks [] h = tt
literal_breaks (b ∷ bytes) h =
    let k = and_parts (is_printable b) (list_all is_printable bytes) h in
    each_in_both IsNoBreak (canonical_spelling b) (flat_map canonical_spelling bytes) (spelled_breaks b k.0) (literal_breaks bytes k.1)

literal_is_text : (bytes : List ℕ) → list_all is_printable bytes ≡ true → IsText (canonical_literal bytes)
literal_is_text bytes h = record {
  first = 34;
  others = flat_map canonical_spelling bytes ++ 34 ∷ [];
  begins = refl;
  no_space = refl;
  front = 34 ∷ flat_map canonical_spelling bytes;
  last = 34;
  ends = refl;
  no_edge = refl;
  lines = (refl, each_in_both IsNoBreak (flat_map canonical_spelling bytes) (34 ∷ []) (literal_breaks bytes h) (refl, tt));
}

pub value_is_text : (bytes : List ℕ) → IsBytes bytes → IsText (value_text bytes) × IsValue (value_text bytes) bytes
value_is_text bytes small = by (list_all is_printable bytes) refl where
  by : (b : Bool) → list_all is_printable bytes ≡ b → IsText (value_text bytes) × IsValue (value_text bytes) bytes
  by true e = rw e (literal_is_text bytes e, inl (canonical bytes small))
  by false e = rw e (digits_are_text bytes small, inr (encode_lower bytes, refl, decode_of-encode_lower bytes small))

-- ---- a line

abbrev pub line_of : (label text : List ℕ) → List ℕ
line_of label text = label ++ 32 ∷ 61 ∷ 32 ∷ text

module _ (text : List ℕ) where
  abbrev others : List ℕ
  others = 32 ∷ 61 ∷ 32 ∷ text

  -- what stands before the first `=`
  label_front : (label : List ℕ) → AllByRecursion IsWordByte label → label_text (label ++ others) ≡ label
  label_front [] all = refl
  label_front (b ∷ label) all =
      let n = position_or_len (λ c. c == 61) (label ++ others) in
      let on : 1 + n ≡ suc n = omega arith in
      let rest = filter (λ c. not (is_space c)) (take n (label ++ others)) in
      ap (λ t. filter (λ c. not (is_space c)) (take (cond (not t) (1 + n) 0) (b ∷ label ++ others))) all.0.equals
      ∙ ap (λ k. filter (λ c. not (is_space c)) (take k (b ∷ label ++ others))) on
      ∙ ap (λ t. cond (not t) (b ∷ rest) rest) all.0.space
      ∙ ap (λ l. b ∷ l) (label_front label all.1)

  -- and after it
  behind : (label : List ℕ) → AllByRecursion IsWordByte label → after_first (λ c. c == 61) (label ++ others) ≡ 32 ∷ text
  behind [] all = refl
  behind (b ∷ label) all =
      let n = position_or_len (λ c. c == 61) (label ++ others) in
      let on : 1 + n + 1 ≡ suc (n + 1) = omega arith in
      ap (λ t. drop (cond (not t) (1 + n) 0 + 1) (b ∷ label ++ others)) all.0.equals
      ∙ ap (λ k. drop k (b ∷ label ++ others)) on
      ∙ behind label all.1

  value_back : (label : List ℕ) → AllByRecursion IsWordByte label → IsText text → read.value_text (label ++ others) ≡ text
  value_back label all is =
      let n = prefix_len is_space (is.first ∷ is.others) in
      let none : prefix_len is_space text ≡ 0 = ap (prefix_len is_space) is.begins ∙ ap (λ t. cond t (1 + prefix_len is_space is.others) 0) is.no_space in
      let one : 1 + prefix_len is_space text ≡ 1 = omega (arith, none) in
      ap (after_leading is_space) (behind label all) ∙ ap (λ k. drop k (32 ∷ text)) one

no_trailing : (p : ℕ → Bool) (front : List ℕ) (b : ℕ) → p b ≡ false → suffix_len p (front ++ b ∷ []) ≡ 0
no_trailing p front b e = ap (prefix_len p) (reverse-append front (b ∷ [])) ∙ ap (λ t. cond t (1 + prefix_len p (reverse front)) 0) e

whole : {A : Type 0} (xs : List A) (n : ℕ) → n ≡ length xs → take n xs ≡ xs
whole [] n e = ap (λ k. take k []) e
whole (x ∷ xs) n e = ap (λ k. take k (x ∷ xs)) e ∙ ap (λ l. x ∷ l) (whole xs (length xs) refl)

-- a line has no blanks at its ends
content_is : (b : ℕ) (rest front : List ℕ) (last : ℕ) → is_edge b ≡ false → b ∷ rest ≡ front ++ last ∷ [] → is_edge last ≡ false → content (b ∷ rest) ≡ b ∷ rest
content_is b rest front last start e end =
    let none : after_leading is_edge (b ∷ rest) ≡ b ∷ rest = ap (λ t. drop (cond t (1 + prefix_len is_edge rest) 0) (b ∷ rest)) start in
    let ended : suffix_len is_edge (b ∷ rest) ≡ 0 = ap (suffix_len is_edge) e ∙ no_trailing is_edge front last end in
    ap (before_trailing is_edge) none ∙ whole (b ∷ rest) (length (b ∷ rest) - suffix_len is_edge (b ∷ rest)) (omega (arith, ended))

-- a line says its label and its value
pub says_line : (label text value : List ℕ) → 0 < length label → AllByRecursion IsWordByte label → IsText text → IsGiven label text value → Says (line_of label text) (Some (entry label value))
says_line [] text value some all is gives = absurd (omega (arith, some))
says_line (b ∷ label) text value some all is gives =
    let line = line_of (b ∷ label) text in
    let ended : line ≡ (b ∷ label ++ 32 ∷ 61 ∷ 32 ∷ is.front) ++ is.last ∷ [] =
    ap (λ t. b ∷ label ++ 32 ∷ 61 ∷ 32 ∷ t) is.ends ∙ sym (append_assoc (b ∷ label) (32 ∷ 61 ∷ 32 ∷ is.front) (is.last ∷ [])) in
    let same : content line ≡ line = content_is b (label ++ 32 ∷ 61 ∷ 32 ∷ text) (b ∷ label ++ 32 ∷ 61 ∷ 32 ∷ is.front) is.last all.0.edge ended is.no_edge in
    rw same (all.0.hash, (sym (label_front text (b ∷ label) all), rw (value_back text (b ∷ label) all is) gives))
