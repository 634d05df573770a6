-- What is written is read again.
use Rattle.std.proofs.Common.{◌≡◌, ◌≢◌, ◌<◌, ◌≤◌, ◌+◌, ◌==◌, ℕ, suc, Bool, true, false, List, [], ◌∷◌, ◌++◌, length, map, Option, Some, None, Ok, refl, sym, ap, ◌∙◌, subst, inl, inr, arith, append_assoc}
use Rattle.std.specs.Prelude.{All, AllPairs, codes}
use Rattle.std.specs.List.{AllByRecursion, AllZip, flat_map, slice_split}
use Rattle.std.specs.Option.{option_to_list}
use Rattle.std.proofs.lemmas.List.Elements.{All-from_recursion, recursion_from_All}
use Rattle.std.proofs.lemmas.List.Splits.{slice_split_at}
use Rattle.hex.proofs.HexLemmas.{decode_of-encode_lower}
use Rattle.hex.specs.Hex.{encode_lower}
use Rattle.anb_lemmas.proofs.Each.{each_by, each_in_both}
use Rattle.anb_base.specs.Bytes.{IsBytes}
use Rattle.anb_base.specs.declared.TheConstants.{ARRIVAL}
use Rattle.anb_index.specs.Places.{among}
use Rattle.anb_values.specs.Fit.{Fit, faults, lines_faults, missing, value_of}
use Rattle.anb_values.specs.Lines.{AreSaid, IsGiven, IsLabel, Says, is_label_byte, lines_of, seed_label}
use Rattle.anb_values.proofs.LineLemmas.{seed_is_no_label}
use Rattle.anb_values_text.specs.Seeds.{IsSeed, IsSeedOf}
use Rattle.anb_values_text.specs.Texts.{digits_text, line_text, lines_text, seed_text, value_text, values_text}
use Rattle.anb_values_text.proofs.LineOf.{EntryValue, IsNoBreak, IsText, IsWordByte, at_sign, digits_are_text, entry, line_of, says_line, value_is_text, word_byte}
use Rattle.anb_values_text.proofs.Found.{AreApart, IsFine, are_apart, each_among, entries_of, fine_lines, found_behind, labels, none_before, none_missing, values_found}

-- a value of bytes, no longer than an arrival may be
pub record IsWritable (value : List ℕ) : Type 0 where
  pub bytes : IsBytes value
  pub short : length value ≤ ARRIVAL

-- ---- lines

words_of : (label : List ℕ) → IsLabel label → AllByRecursion IsWordByte label
words_of label is = each_by (λ b. is_label_byte b ≡ true) IsWordByte word_byte label (recursion_from_All (λ b. is_label_byte b ≡ true) label is.1)

seed_words : AllByRecursion IsWordByte seed_label
seed_words = (at_sign, (word_byte 115 refl, (word_byte 101 refl, (word_byte 101 refl, (word_byte 100 refl, tt)))))

unbroken : (label text : List ℕ) → AllByRecursion IsWordByte label → IsText text → AllByRecursion IsNoBreak (line_of label text)
unbroken label text all is = each_in_both IsNoBreak label (32 ∷ 61 ∷ 32 ∷ text) (each_by IsWordByte IsNoBreak (λ b w. w.ends) label all) (refl, (refl, (refl, is.lines)))

glued : (label sign text end : List ℕ) → label ++ sign ++ text ++ end ≡ (label ++ (sign ++ text)) ++ end
glued label sign text end = ap (λ t. t ++ end) (append_assoc label sign text)

three : (text : List ℕ) → codes " = " ++ text ≡ 32 ∷ 61 ∷ 32 ∷ text
three text = refl

line_splits : (label text rest : List ℕ) → AllByRecursion IsWordByte label → IsText text → lines_of (line_text label text ++ rest) ≡ line_of label text ∷ lines_of rest
line_splits label text rest all is =
    let one : line_text label text ≡ line_of label text ++ 10 ∷ [] = glued label (codes " = ") text (10 ∷ []) ∙ ap (λ t. (label ++ t) ++ 10 ∷ []) (three text) in
    let whole : line_text label text ++ rest ≡ line_of label text ++ 10 ∷ rest = ap (λ l. l ++ rest) one ∙ append_assoc (line_of label text) (10 ∷ []) rest in
    ap lines_of whole ∙ slice_split_at (λ b. b == 10) (line_of label text) 10 rest (All-from_recursion IsNoBreak (line_of label text) (unbroken label text all is)) refl

-- one line in front
one_line : (label text value rest : List ℕ) (es : List EntryValue) → 0 < length label → AllByRecursion IsWordByte label → IsText text → IsGiven label text value
    → AreSaid (lines_of rest) es → AreSaid (lines_of (line_text label text ++ rest)) (entry label value ∷ es)
one_line label text value rest es some all is gives (said, each, same) =
    subst (λ ls. AreSaid ls (entry label value ∷ es)) (sym (line_splits label text rest all is))
    (Some (entry label value) ∷ said, (says_line label text value some all is gives, each), ap (λ l. entry label value ∷ l) same)

are_said : (ls vs : List (List ℕ)) (rest : List ℕ) (es : List EntryValue) → AllByRecursion IsLabel ls → AllByRecursion IsWritable vs → AreSaid (lines_of rest) es
    → AreSaid (lines_of (lines_text ls vs ++ rest)) (entries_of ls vs ++ es)
are_said [] vs rest es labels values said = said
are_said (l ∷ ls) [] rest es labels values said = said
are_said (l ∷ ls) (v ∷ vs) rest es labels values said =
    let is = value_is_text v values.0.bytes in
    subst (λ t. AreSaid (lines_of t) (entry l v ∷ entries_of ls vs ++ es)) (sym (append_assoc (line_text l (value_text v)) (lines_text ls vs) rest))
    (one_line l (value_text v) v (lines_text ls vs ++ rest) (entries_of ls vs ++ es) labels.0.0 (words_of l labels.0) is.0 (inl (labels.0, is.1))
    (are_said ls vs rest es labels.1 values.1 said))

-- the last line is empty
nothing_said : AreSaid (lines_of []) []
nothing_said = (None ∷ [], (refl, tt), refl)

abbrev seed_entries : Option (List ℕ) → List EntryValue
seed_entries None = []
seed_entries (Some seed) = entry seed_label seed ∷ []

append_none : (xs : List ℕ) → xs ++ [] ≡ xs
append_none [] = refl
append_none (x ∷ xs) = ap (λ l. x ∷ l) (append_none xs)

seed_said : (seed : Option (List ℕ)) → IsSeedOf seed → AreSaid (lines_of (seed_text seed)) (seed_entries seed)
seed_said None is = nothing_said
seed_said (Some seed) is =
    subst (λ t. AreSaid (lines_of t) (entry seed_label seed ∷ [])) (append_none (line_text seed_label (digits_text seed)))
    (one_line seed_label (digits_text seed) seed [] [] (omega arith) seed_words (digits_are_text seed is.bytes)
    (inr (refl, (encode_lower seed, refl, decode_of-encode_lower seed is.bytes), is.whole)) nothing_said)

-- ---- labels and values

no_label : (l : List ℕ) → IsLabel l → l ≢ seed_label
no_label l is same = seed_is_no_label (subst IsLabel same is)

each_fine : (asked : List (List ℕ)) (ls vs : List (List ℕ)) (es : List EntryValue) → AllByRecursion (λ m. among asked m ≡ true) ls → AllByRecursion IsWritable vs → AllByRecursion (IsFine asked) es
    → AllByRecursion (IsFine asked) (entries_of ls vs ++ es)
each_fine asked [] vs es known values fine = fine
each_fine asked (l ∷ ls) [] es known values fine = fine
each_fine asked (l ∷ ls) (v ∷ vs) es known values fine = (record { known = known.0; short = values.0.short }, each_fine asked ls vs es known.1 values.1 fine)

seed_fine : (asked : List (List ℕ)) (seed : Option (List ℕ)) → IsSeedOf seed → AllByRecursion (IsFine (seed_label ∷ asked)) (seed_entries seed)
seed_fine asked None is = tt
seed_fine asked (Some seed) is = (record { known = refl; short = omega (arith, is.whole) }, tt)

module _ (q : List ℕ) where
  past : (ls vs : List (List ℕ)) (es : List EntryValue) → AllByRecursion (λ m. q ≢ m) ls → AllByRecursion (λ m. q ≢ m) (labels es) → AllByRecursion (λ m. q ≢ m) (labels (entries_of ls vs ++ es))
  past [] vs es all others = others
  past (l ∷ ls) [] es all others = others
  past (l ∷ ls) (v ∷ vs) es all others = (all.0, past ls vs es all.1 others)

seed_past : (l : List ℕ) (seed : Option (List ℕ)) → IsLabel l → AllByRecursion (λ m. l ≢ m) (labels (seed_entries seed))
seed_past l None is = tt
seed_past l (Some seed) is = (no_label l is, tt)

seed_apart : (seed : Option (List ℕ)) → AreApart (labels (seed_entries seed))
seed_apart None = tt
seed_apart (Some seed) = (tt, tt)

all_apart : (ls vs : List (List ℕ)) (seed : Option (List ℕ)) → AllByRecursion IsLabel ls → AreApart ls → AreApart (labels (entries_of ls vs ++ seed_entries seed))
all_apart [] vs seed all apart = seed_apart seed
all_apart (l ∷ ls) [] seed all apart = seed_apart seed
all_apart (l ∷ ls) (v ∷ vs) seed all apart = (past l ls vs (seed_entries seed) apart.0 (seed_past l seed all.0), all_apart ls vs seed all.1 apart.1)

seed_value : (seed : Option (List ℕ)) → seed ≡ value_of (seed_entries seed) seed_label
seed_value None = refl
seed_value (Some seed) = refl

-- ---- the whole

pub each_writable : (vs : List (List ℕ)) → AllByRecursion IsBytes vs → All (λ (v : List ℕ). length v ≤ ARRIVAL) vs → AllByRecursion IsWritable vs
each_writable vs bytes short = both vs bytes (recursion_from_All (λ (v : List ℕ). length v ≤ ARRIVAL) vs short) where
  both : (vs : List (List ℕ)) → AllByRecursion IsBytes vs → AllByRecursion (λ (v : List ℕ). length v ≤ ARRIVAL) vs → AllByRecursion IsWritable vs
  both [] bytes short = tt
  both (v ∷ vs) bytes short = (record { bytes = bytes.0; short = short.0 }, both vs bytes.1 short.1)

pub written_is_read : (ls vs : List (List ℕ)) (seed : Option (List ℕ)) → AllByRecursion IsLabel ls → AllPairs (λ one other. one ≢ other) ls → length vs ≡ length ls → AllByRecursion IsWritable vs → IsSeedOf seed
    → Fit (values_text ls vs seed) ls (Ok (record { values = vs; seed = seed }))
written_is_read ls vs seed are differ count values is =
    let es = entries_of ls vs ++ seed_entries seed in
    let apart = are_apart ls differ in
    let asked = seed_label ∷ ls in
    let known : AllByRecursion (λ m. among asked m ≡ true) ls = (each_among asked).1 in
    let found : map Some vs ≡ map (value_of es) ls = values_found ls vs (seed_entries seed) apart count in
    let fine : lines_faults asked [] es ≡ [] =
    fine_lines asked [] es (each_fine asked ls vs (seed_entries seed) known values (seed_fine ls seed is)) (none_before (labels es)) (all_apart ls vs seed are apart) in
    let last : seed ≡ value_of es seed_label =
    seed_value seed ∙ sym (found_behind ls vs (seed_entries seed) seed_label (each_by IsLabel (λ m. m ≢ seed_label) no_label ls are)) in (
      es,
      are_said ls vs (seed_text seed) (seed_entries seed) are values (seed_said seed is),
      ap (λ fs. fs ++ missing ls es) fine ∙ none_missing es ls vs found,
      found,
      last,
    )
