-- The values of a text have together at most as many bytes as the text.
use Rattle.std.proofs.Common.{◌≡◌, ◌≢◌, ◌≤◌, ◌+◌, ◌==◌, inl, inr, ℕ, suc, Bool, true, false, cond, List, [], ◌∷◌, length, map, Option, Some, None, refl, ap, arith, All, AllPairs, length-append}
use Rattle.std.specs.List.{AllZip, flat_map, sum_by, find, position_or_len, after_first}
use Rattle.std.specs.Option.{option_to_list, option_map}
use Rattle.std.specs.Str.{bytes_eq}
use Rattle.std.proofs.lemmas.Bool.{cases_Bool}
use Rattle.std.proofs.lemmas.List.{length-map, length-take, length-drop}
use Rattle.std.proofs.lemmas.List.Sums.{sum_by-cons, sum_by-le-sum_by}
use Rattle.hex.proofs.HexLemmas.{decode_of-ok}
use Rattle.anb_format.specs.Literals.{Character, Plain, Quote, Backslash, Hexadecimal, spelling_of, byte_of, IsLiteral}
use Rattle.anb_values.specs.declared.lines.Entry.{Entry}
use Rattle.anb_values.specs.Lines.{is_space, is_edge, after_leading, before_trailing, content, value_text, IsHex, IsGiven, Says, AreSaid, lines_of}
use Rattle.anb_values.specs.Fit.{value_of}
use Rattle.anb_values.proofs.LineLemmas.{parts_fit}
use Rattle.anb_values.proofs.FitLemmas.{differs}
use Rattle.std.proofs.lemmas.Slice.Eq.{bytes_eq-Decides}
use Rattle.std.proofs.lemmas.List.Elements.{All-head, All-tail}

-- each character of a literal is written in a byte at least
spelled : (cs : List Character) → length cs ≤ length (flat_map spelling_of cs)
spelled [] = omega arith
spelled (Plain b ∷ cs) = omega (arith, spelled cs)
spelled (Quote ∷ cs) = omega (arith, spelled cs)
spelled (Backslash ∷ cs) = omega (arith, spelled cs)
spelled (Hexadecimal high low ∷ cs) = omega (arith, spelled cs)

literal_fits : (text bytes : List ℕ) → IsLiteral text bytes → length bytes ≤ length text
literal_fits text bytes h = omega (arith, ap length h.spelled, ap length h.means, length-map h.characters byte_of, spelled h.characters, length-append (flat_map spelling_of h.characters) (34 ∷ []))

hex_fits : (text bytes : List ℕ) → IsHex text bytes → length bytes ≤ length text
hex_fits text bytes h = let l = (decode_of-ok h.0 bytes h.2).2 in omega (arith, l, ap length h.1)

value_fits : (label text bytes : List ℕ) → IsGiven label text bytes → length bytes ≤ length text
value_fits label text bytes g = elim g [
  | inl l ↦ elim (l.1) [ inl x ↦ literal_fits text bytes x | inr x ↦ hex_fits text bytes x ]
  | inr x ↦ hex_fits text bytes x.1
]

leading_fits : (drops : ℕ → Bool) (bytes : List ℕ) → length (after_leading drops bytes) ≤ length bytes
leading_fits drops bytes = simp length-drop (omega arith)

trailing_fits : (drops : ℕ → Bool) (bytes : List ℕ) → length (before_trailing drops bytes) ≤ length bytes
trailing_fits drops bytes = simp length-take (omega arith)

content_fits : (line : List ℕ) → length (value_text (content line)) ≤ length line
content_fits line =
    let front = leading_fits is_edge line in
    let whole = trailing_fits is_edge (after_leading is_edge line) in
    let side = length-drop (position_or_len (λ b. b == 61) (content line) + 1) (content line) in
    let value = leading_fits is_space (after_first (λ b. b == 61) (content line)) in
    omega (arith, front, whole, side, value)

entry_fits : (line : List ℕ) (entry : Entry) → Says line (Some entry) → length entry.value ≤ length line
entry_fits line entry h = let v = value_fits entry.label (value_text (content line)) entry.value h.1.1 in omega (arith, v, content_fits line)

zip_fits : (lines : List (List ℕ)) (said : List (Option Entry)) → AllZip Says lines said → sum_by (λ (entry : Entry). length entry.value) (flat_map (option_to_list {X = Entry}) said) ≤ sum_by length lines
zip_fits [] [] all = omega arith
zip_fits [] (s ∷ ss) all = absurd all
zip_fits (l ∷ ls) [] all = absurd all
zip_fits (l ∷ ls) (None ∷ ss) all = omega (arith, sum_by-cons {X = List ℕ} length l ls, zip_fits ls ss all.1)
zip_fits (l ∷ ls) (Some e ∷ ss) all = omega (arith, sum_by-cons {X = List ℕ} length l ls, sum_by-cons (λ (entry : Entry). length entry.value) e (flat_map (option_to_list {X = Entry}) ss), entry_fits l e all.0, zip_fits ls ss all.1)

pub entries_fit : (text : List ℕ) (entries : List Entry) → AreSaid (lines_of text) entries → sum_by (λ (entry : Entry). length entry.value) entries ≤ length text
entries_fit text entries s = let z = zip_fits (lines_of text) s.0 s.1 in rw s.2 (omega (arith, z, parts_fit (λ b. b == 10) text))

abbrev size_of : Option (List ℕ) → ℕ
size_of None = 0
size_of (Some v) = length v

-- what one label adds to a sum over names: nothing, or its size once where they differ
none_here : (label : List ℕ) (size : ℕ) (names : List (List ℕ)) → All (λ name. label ≢ name) names → sum_by (λ name. cond (bytes_eq label name) size 0) names ≡ 0
none_here label size [] all = refl
none_here label size (name ∷ names) all =
    let other : bytes_eq label name ≡ false = differs _ _ (bytes_eq-Decides label name) (All-head (λ n. label ≢ n) name names all) in
    let rest = none_here label size names (All-tail (λ n. label ≢ n) name names all) in
    let here : cond (bytes_eq label name) size 0 ≡ 0 = rw other refl in
    omega (arith, sum_by-cons (λ (n : List ℕ). cond (bytes_eq label n) size 0) name names, here, rest)

others : (name : List ℕ) (names : List (List ℕ)) → AllPairs (λ (one other : List ℕ). one ≢ other) (name ∷ names) → All (λ n. name ≢ n) names
others name names all k d h = all 0 (suc k) d (omega arith) (omega arith)

later : (name : List ℕ) (names : List (List ℕ)) → AllPairs (λ (one other : List ℕ). one ≢ other) (name ∷ names) → AllPairs (λ (one other : List ℕ). one ≢ other) names
later name names all i j d h k = all (suc i) (suc j) d (omega arith) (omega arith)

once_here : (label : List ℕ) (size : ℕ) (names : List (List ℕ)) → AllPairs (λ (one other : List ℕ). one ≢ other) names → sum_by (λ name. cond (bytes_eq label name) size 0) names ≤ size
once_here label size [] all = omega arith
once_here label size (name ∷ names) all = elim (cases_Bool (bytes_eq label name)) [
  | inl same ↦
      let is : label ≡ name = (bytes_eq-Decides label name).0 same in
      let rest = none_here label size names (rw is (others name names all)) in
      let here : cond (bytes_eq label name) size 0 ≡ size = rw same refl in
      omega (arith, sum_by-cons (λ (n : List ℕ). cond (bytes_eq label n) size 0) name names, here, rest)
  | inr other ↦
      let rest = once_here label size names (later name names all) in
      let here : cond (bytes_eq label name) size 0 ≡ 0 = rw other refl in
      omega (arith, sum_by-cons (λ (n : List ℕ). cond (bytes_eq label n) size 0) name names, here, rest)
]

zeros : (names : List (List ℕ)) → sum_by (λ (name : List ℕ). 0) names ≡ 0
zeros [] = refl
zeros (name ∷ names) = omega (arith, sum_by-cons (λ (n : List ℕ). 0) name names, zeros names)

sum_by-add : (f g : List ℕ → ℕ) (names : List (List ℕ)) → sum_by (λ name. f name + g name) names ≡ sum_by f names + sum_by g names
sum_by-add f g [] = refl
sum_by-add f g (name ∷ names) = omega (arith, sum_by-cons (λ n. f n + g n) name names, sum_by-cons f name names, sum_by-cons g name names, sum_by-add f g names)

value_grows : (entry : Entry) (entries : List Entry) (name : List ℕ) → size_of (value_of (entry ∷ entries) name) ≤ cond (bytes_eq entry.label name) (length entry.value) 0 + size_of (value_of entries name)
value_grows entry entries name =
    elim (bytes_eq entry.label name) as (λ b. size_of (option_map (λ (e : Entry). e.value) (cond b (Some entry) (find (λ (e : Entry). bytes_eq e.label name) entries))) ≤ cond b (length entry.value) 0 + size_of (value_of entries name)) [
      | true ↦ omega arith
      | false ↦ omega arith
    ]

names_fit : (names : List (List ℕ)) (entries : List Entry) → AllPairs (λ (one other : List ℕ). one ≢ other) names → sum_by (λ name. size_of (value_of entries name)) names ≤ sum_by (λ (entry : Entry). length entry.value) entries
names_fit names [] all = omega (arith, zeros names)
names_fit names (entry ∷ entries) all =
    let grows = sum_by-le-sum_by (λ name. size_of (value_of (entry ∷ entries) name)) (λ name. cond (bytes_eq entry.label name) (length entry.value) 0 + size_of (value_of entries name)) names (value_grows entry entries) in
    let parts = sum_by-add (λ name. cond (bytes_eq entry.label name) (length entry.value) 0) (λ name. size_of (value_of entries name)) names in
    let here = once_here entry.label (length entry.value) names all in
    let rest = names_fit names entries all in
    omega (arith, grows, parts, here, rest, sum_by-cons (λ (e : Entry). length e.value) entry entries)

sum_by-map : {X Y : Type 0} (f : Y → ℕ) (g : X → Y) (xs : List X) → sum_by f (map g xs) ≡ sum_by (λ x. f (g x)) xs
sum_by-map f g [] = refl
sum_by-map f g (x ∷ xs) = omega (arith, sum_by-cons f (g x) (map g xs), sum_by-cons (λ y. f (g y)) x xs, sum_by-map f g xs)

pub values_fit : (names : List (List ℕ)) (entries : List Entry) (values : List (List ℕ)) → AllPairs (λ (one other : List ℕ). one ≢ other) names → map Some values ≡ map (value_of entries) names → sum_by length values ≤ sum_by (λ (entry : Entry). length entry.value) entries
values_fit names entries values all same =
    let total : sum_by size_of (map Some values) ≡ sum_by size_of (map (value_of entries) names) = ap (sum_by size_of) same in
    let mine = sum_by-map size_of (λ (v : List ℕ). Some v) values in
    let theirs = sum_by-map size_of (value_of entries) names in
    omega (arith, total, mine, theirs, names_fit names entries all)
