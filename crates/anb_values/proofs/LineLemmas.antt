-- What a line gives.
use Rattle.std.proofs.Common.{Ok, ◌||◌, ◌&&◌, nat_le, ◌≡◌, ◌<◌, ◌≤◌, ◌+◌, ◌==◌, ◌⊎◌, inl, inr, ℕ, zero, suc, Bool, true, false, cond, ltb, List, [], ◌∷◌, ◌++◌, length, take, drop, get_or, Option, Some, None, refl, sym, ap, ◌∙◌, arith, lit<, All}
use Rattle.std.specs.Str.{IsAscii}
use Rattle.std.specs.List.{AllZip, position_or_len, slice_split, onto_first, sum_by, flat_map}
use Rattle.std.specs.Option.{option_to_list, IfSome, IfNone}
use Rattle.std.proofs.lemmas.List.Sums.{sum_by-cons}
use Rattle.hex.specs.Hex.{decode_of}
use Rattle.std.proofs.lemmas.Bool.{cases_lt, cond_below, cond_above, or_cases, and_parts, leb-true, eqb-true}
use Rattle.std.proofs.lemmas.List.{append-nil, get_or_past, drop_all, take-append-drop, drop_more, take_more, flat_map_more, length-take-le}
use Rattle.std.proofs.lemmas.List.Elements.{All-nil, All-cons, All-get_or}
use Rattle.anb_lemmas.proofs.Each.{zip_and_last}
use Rattle.anb_format.specs.Literals.{IsLiteral, IsLiteralAt}
use Rattle.anb_format.proofs.LiteralLemmas.{unique}
use Rattle.hex.proofs.HexLemmas.{decode_of-ok}
use Rattle.anb_values.specs.declared.lines.Entry.{Entry}
use Rattle.anb_values.specs.Lines.{value_text, is_label_byte, IsLabel, IsHex, IsValue, IsGiven, Says, AreSaid, IsFirstFaulty, seed_label}

pub literal_at : (text bytes : List ℕ) → IsLiteral text bytes → IsLiteralAt text 0 bytes (length text)
literal_at text bytes h = record { spelling = text; is = h; rest = []; stands = sym (append-nil text); ends = omega arith }

-- a text is no literal of other bytes where one begins that ends before it does
pub literal_ends : (text bytes others : List ℕ) (end : ℕ) → IsLiteralAt text 0 bytes end → IsLiteral text others → end ≡ length text
literal_ends text bytes others end h k = (unique text 0 bytes others end (length text) h (literal_at text others k)).1

pub seed_is_no_label : IsLabel seed_label → ⊥
seed_is_no_label l = let at : is_label_byte (get_or seed_label 0 0) ≡ true = All-get_or (λ b. is_label_byte b ≡ true) seed_label 0 0 (lit< tt) l.1 in cc

or_small : (x y : Bool) (b : ℕ) → (x ≡ true → b < 128) → (y ≡ true → b < 128) → (x || y) ≡ true → b < 128
or_small x y b f g h = elim (or_cases x y h) [ inl p ↦ f p | inr q ↦ g q ]

range_small : (low high b : ℕ) → high < 128 → (nat_le low b && nat_le b high) ≡ true → b < 128
range_small low high b small h = let top : b ≤ high = leb-true b high (and_parts (nat_le low b) (nat_le b high) h).1 in omega arith

byte_small : (n b : ℕ) → n < 128 → (b == n) ≡ true → b < 128
byte_small n b small h = let e : b ≡ n = eqb-true b n h in omega arith

pub label_byte_is_ascii : (b : ℕ) → is_label_byte b ≡ true → b < 128
label_byte_is_ascii b = or_small _ _ b (or_small _ _ b (or_small _ _ b (or_small _ _ b (or_small _ _ b (or_small _ _ b (range_small 48 57 b (lit< tt)) (range_small 65 90 b (lit< tt))) (range_small 97 122 b (lit< tt))) (byte_small 95 b (lit< tt))) (byte_small 40 b (lit< tt))) (byte_small 41 b (lit< tt))) (byte_small 44 b (lit< tt))

label_is_ascii : (label : List ℕ) → IsLabel label → IsAscii label
label_is_ascii label l i = elim (cases_lt i (length label)) [
  | inl h ↦ label_byte_is_ascii (get_or label i 0) (All-get_or (λ b. is_label_byte b ≡ true) label i 0 h l.1)
  | inr h ↦ rw (get_or_past label i 0 h) (lit< tt)
]

seed_is_ascii : IsAscii seed_label
seed_is_ascii zero = lit< tt
seed_is_ascii (suc zero) = lit< tt
seed_is_ascii (suc (suc zero)) = lit< tt
seed_is_ascii (suc (suc (suc zero))) = lit< tt
seed_is_ascii (suc (suc (suc (suc zero)))) = lit< tt
seed_is_ascii (suc (suc (suc (suc (suc i))))) = lit< tt

pub line_label_is_ascii : (label : List ℕ) → IsLabel label ⊎ (label ≡ seed_label) → IsAscii label
line_label_is_ascii label l = elim l [ inl h ↦ label_is_ascii label h | inr e ↦ rw e seed_is_ascii ]

-- where the first `=` stands, by what `position` answers
pub no_equals : (bytes : List ℕ) (r : Option ℕ) → r ≡ cond (ltb (position_or_len (λ b. b == 61) bytes) (length bytes)) (Some (position_or_len (λ b. b == 61) bytes)) None → r ≡ None → value_text bytes ≡ []
no_equals bytes r e none = elim (cases_lt (position_or_len (λ b. b == 61) bytes) (length bytes)) [
  | inl h ↦ let some = cond_below (position_or_len (λ b. b == 61) bytes) (length bytes) (Some (position_or_len (λ b. b == 61) bytes)) None h in cc
  | inr h ↦ let rest : drop (position_or_len (λ b. b == 61) bytes + 1) bytes ≡ [] = drop_all _ bytes (omega arith) in rw rest refl
]

pub at_equals : (bytes : List ℕ) (r : Option ℕ) (n : ℕ) → r ≡ cond (ltb (position_or_len (λ b. b == 61) bytes) (length bytes)) (Some (position_or_len (λ b. b == 61) bytes)) None → r ≡ Some n → n ≡ position_or_len (λ b. b == 61) bytes
at_equals bytes r n e some = elim (cases_lt (position_or_len (λ b. b == 61) bytes) (length bytes)) [
  | inl h ↦ let is = cond_below (position_or_len (λ b. b == 61) bytes) (length bytes) (Some (position_or_len (λ b. b == 61) bytes)) None h in cc
  | inr h ↦ let none : None ≡ cond (ltb (position_or_len (λ b. b == 61) bytes) (length bytes)) (Some (position_or_len (λ b. b == 61) bytes)) None = cond_above _ _ _ None None h refl in cc
]

-- one line more
pub said_none : (lines : List (List ℕ)) (entries : List Entry) (line : List ℕ) → AreSaid lines entries → Says line None → AreSaid (lines ++ line ∷ []) entries
said_none lines entries line s h = (s.0 ++ None ∷ [], zip_and_last Says lines s.0 line None s.1 h, s.2 ∙ sym (append-nil _) ∙ flat_map_more (option_to_list {X = Entry}) [] s.0 None)

pub said_some : (lines : List (List ℕ)) (entries : List Entry) (line : List ℕ) (entry : Entry) → AreSaid lines entries → Says line (Some entry) → AreSaid (lines ++ line ∷ []) (entries ++ entry ∷ [])
said_some lines entries line entry s h = (s.0 ++ Some entry ∷ [], zip_and_last Says lines s.0 line (Some entry) s.1 h, ap (λ t. t ++ entry ∷ []) s.2 ∙ flat_map_more (option_to_list {X = Entry}) [] s.0 (Some entry))

pub next_line : (lines : List (List ℕ)) (n : ℕ) (line : List ℕ) → n < length lines → line ≡ get_or lines n line → take (n + 1) lines ≡ take n lines ++ line ∷ []
next_line lines n line h e = take_more lines n line h ∙ ap (λ x. take n lines ++ x ∷ []) (sym e)

pub faulty_here : (lines : List (List ℕ)) (n : ℕ) (line : List ℕ) (entries : List Entry) → n < length lines → line ≡ get_or lines n line → AreSaid (take n lines) entries → ((said : Option Entry) → Says line said → ⊥) → IsFirstFaulty lines (n + 1)
faulty_here lines n line entries h e s none =
    let rest : drop n lines ≡ line ∷ drop (n + 1) lines = drop_more lines n line h ∙ ap (λ x. x ∷ drop (n + 1) lines) (sym e) in
    let size : length (take n lines) ≡ n = length-take-le n lines (omega arith) in
    (take n lines, line, drop (n + 1) lines, entries, sym (take-append-drop n lines) ∙ ap (λ t. take n lines ++ t) rest, omega arith, s, none)

-- a seed has 32 bytes
pub seed_digits : (text digits bytes : List ℕ) → text ≡ 120 ∷ digits → IsHex text bytes → length bytes ≡ 32 → length digits ≡ 64
seed_digits text digits bytes e h size = let l = (decode_of-ok h.0 bytes h.2).2 in omega (arith, l, ap length e, ap length h.1)

pub seed_from : (text digits : List ℕ) (r : Option (List ℕ)) → text ≡ 120 ∷ digits → length digits ≡ 64 → IfSome r (λ bytes. decode_of digits ≡ Ok bytes) → IfSome r (λ bytes. IsHex text bytes × (length bytes ≡ 32))
seed_from text digits None e size h = h
seed_from text digits (Some bytes) e size h = let l = (decode_of-ok digits bytes h).2 in ((digits, e, h), omega (arith, l))

pub no_bytes : (text : List ℕ) (r : Option (List ℕ)) → ((digits : List ℕ) → text ≡ 120 ∷ digits → ⊥) → IfNone r ((bytes : List ℕ) → IsLiteral text bytes → ⊥) → IfNone r ((bytes : List ℕ) → IsValue text bytes → ⊥)
no_bytes text None f h = λ bytes v. elim v [ inl l ↦ h bytes l | inr x ↦ f x.0 x.1 ]
no_bytes text (Some b) f h = h

pub no_given : (label text : List ℕ) (r : Option (List ℕ)) → (label ≡ seed_label → ⊥) → IfNone r ((bytes : List ℕ) → IsValue text bytes → ⊥) → IfNone r ((bytes : List ℕ) → IsGiven label text bytes → ⊥)
no_given label text None f h = λ bytes g. elim g [ inl l ↦ h bytes l.1 | inr x ↦ f x.0 ]
no_given label text (Some b) f h = h

pub same_given : (label other text words bytes : List ℕ) → label ≡ other → text ≡ words → IsGiven label text bytes → IsGiven other words bytes
same_given label other text words bytes e f g = rw (sym e, sym f) g

given_seed : (label text bytes : List ℕ) → IsGiven label text bytes → label ≡ seed_label → length bytes ≡ 32
given_seed label text bytes g e = elim g [ inl l ↦ absurd (seed_is_no_label (rw e at l.0)) | inr x ↦ x.2 ]

zip_seed : (lines : List (List ℕ)) (said : List (Option Entry)) → AllZip Says lines said → All (λ (entry : Entry). entry.label ≡ seed_label → length entry.value ≡ 32) (flat_map (option_to_list {X = Entry}) said)
zip_seed [] [] all = All-nil (λ (entry : Entry). entry.label ≡ seed_label → length entry.value ≡ 32)
zip_seed [] (s ∷ ss) all = absurd all
zip_seed (l ∷ ls) [] all = absurd all
zip_seed (l ∷ ls) (None ∷ ss) all = zip_seed ls ss all.1
zip_seed (l ∷ ls) (Some e ∷ ss) all = All-cons (λ (entry : Entry). entry.label ≡ seed_label → length entry.value ≡ 32) e _ (given_seed e.label _ e.value all.0.1.1) (zip_seed ls ss all.1)

pub said_seed : (lines : List (List ℕ)) (entries : List Entry) → AreSaid lines entries → All (λ (entry : Entry). entry.label ≡ seed_label → length entry.value ≡ 32) entries
said_seed lines entries s = rw s.2 (zip_seed lines s.0 s.1)

-- the parts of a split are together no longer than the whole
onto_fits : (b : ℕ) (parts : List (List ℕ)) → sum_by length (onto_first b parts) ≤ sum_by length parts + 1
onto_fits b [] = omega (arith, sum_by-cons {X = List ℕ} length (b ∷ []) [])
onto_fits b (x ∷ xs) = omega (arith, sum_by-cons {X = List ℕ} length (b ∷ x) xs, sum_by-cons {X = List ℕ} length x xs)

pub parts_fit : (p : ℕ → Bool) (bytes : List ℕ) → sum_by length (slice_split p bytes) ≤ length bytes
parts_fit p [] = omega arith
parts_fit p (b ∷ bytes) = elim (p b) as (λ t. sum_by (length {A = ℕ}) (cond t ([] ∷ slice_split p bytes) (onto_first b (slice_split p bytes))) ≤ suc (length bytes)) [
  | true ↦ omega (arith, sum_by-cons {X = List ℕ} length [] (slice_split p bytes), parts_fit p bytes)
  | false ↦ omega (arith, onto_fits b (slice_split p bytes), parts_fit p bytes)
]
