-- What a line says by itself is what it says among others.
use Rattle.std.proofs.Common.{◌≡◌, ◌==◌, ℕ, Bool, true, false, List, [], ◌∷◌, ◌++◌, length, Option, Some, None, Ok, Err, refl, sym, ap, ◌∙◌, subst, inl, inr}
use Rattle.std.specs.Prelude.{nat_lt}
use Rattle.std.specs.List.{AllByRecursion, AllZip, slice_split, onto_first}
use Rattle.std.specs.Option.{option_to_list}
use Rattle.std.specs.Str.{bytes_eq}
use Rattle.std.proofs.lemmas.Bool.{cases_Bool}
use Rattle.std.proofs.lemmas.List.Elements.{All-from_recursion}
use Rattle.std.proofs.lemmas.List.Splits.{slice_split_none}
use Rattle.anb_lemmas.proofs.Items.{bytes_differ, bytes_eq-same}
use Rattle.anb_base.specs.declared.TheConstants.{ARRIVAL}
use Rattle.anb_index.specs.Places.{among}
use Rattle.anb_values.specs.Fit.{Fit, Outcome, faults, has_line, long, value_of}
use Rattle.anb_values.specs.Lines.{AreSaid, IsGiven, IsLabel, lines_of, seed_label, value_text, content}
use Rattle.anb_values.specs.Lines.{Says as Spoken}
use Rattle.anb_values.specs.declared.fitted.Fitted.{Fitted}
use Rattle.anb_values.specs.declared.refusal.ValuesNo.TheVariants.{Line, Extra, Long}
use Rattle.anb_values.proofs.LineLemmas.{seed_is_no_label}
use Rattle.anb_values.proofs.Outcomes.{one_fit}
use Rattle.anb_value_mistakes.specs.Reading.{IsLong, IsRead, alone, is_long}
use Rattle.anb_value_mistakes.specs.declared.reading.Saying.{Saying}
use Rattle.anb_value_mistakes.specs.declared.reading.Saying.TheVariants.{Nothing, Label, Faulty}
use Rattle.anb_value_mistakes.specs.declared.reading.ReadLine.{ReadLine}

abbrev item_of : {A B : Type 0} → (List A → B) → Type 0
item_of {A} f = A

-- a line with a label and a value
abbrev pub Entry : Type 0
Entry = item_of has_line

-- ---- lines have no line ends

abbrev pub IsWhole : List ℕ → Type 0
IsWhole line = lines_of line ≡ line ∷ []

module _ (p : ℕ → Bool) where
  abbrev IsFree : List ℕ → Type 0
  IsFree line = AllByRecursion (λ b. p b ≡ false) line

  onto : (x : ℕ) → p x ≡ false → (lines : List (List ℕ)) → AllByRecursion IsFree lines → AllByRecursion IsFree (onto_first x lines)
  onto x other [] all = ((other, tt), tt)
  onto x other (line ∷ lines) all = ((other, all.0), all.1)

  parts_free : (xs : List ℕ) → AllByRecursion IsFree (slice_split p xs)
  parts_free [] = (tt, tt)
  parts_free (x ∷ xs) = by (parts_free xs) (p x) refl where
    by : AllByRecursion IsFree (slice_split p xs) → (b : Bool) → p x ≡ b → AllByRecursion IsFree (slice_split p (x ∷ xs))
    by rest true e = rw e (tt, rest)
    by rest false e = rw e (onto x e (slice_split p xs) rest)

  each_whole : (lines : List (List ℕ)) → AllByRecursion IsFree lines → AllByRecursion (λ (line : List ℕ). slice_split p line ≡ line ∷ []) lines
  each_whole [] all = tt
  each_whole (line ∷ lines) all = (slice_split_none p line (All-from_recursion (λ b. p b ≡ false) line all.0), each_whole lines all.1)

pub lines_whole : (x : List ℕ) → AllByRecursion IsWhole (lines_of x)
lines_whole x = each_whole (λ b. b == 10) (lines_of x) (parts_free (λ b. b == 10) x)

-- ---- what is read of a line

abbrev pub saying_of : Option Entry → Saying
saying_of None = Nothing
saying_of (Some entry) = Label entry.label

abbrev pub is_long_of : Option Entry → Bool
is_long_of None = false
is_long_of (Some entry) = nat_lt ARRIVAL (length entry.value)

abbrev pub Reads : Option Entry → ReadLine → Type 0
Reads said read = (read.said ≡ saying_of said) × (read.is_long ≡ is_long_of said)

are_said : (line : List ℕ) → IsWhole line → (said : Option Entry) → Spoken line said → AreSaid (lines_of line) (option_to_list said)
are_said line whole None is = subst (λ ls. AreSaid ls []) (sym whole) (None ∷ [], (is, tt), refl)
are_said line whole (Some entry) is = subst (λ ls. AreSaid ls (entry ∷ [])) (sym whole) (Some entry ∷ [], (is, tt), refl)

module _ (entry : Entry) where
  -- where the label is asked for
  known : among (seed_label ∷ entry.label ∷ []) entry.label ≡ true
  known = elim (cases_Bool (bytes_eq seed_label entry.label)) [
    | inl seed ↦ rw seed refl
    | inr other ↦ rw (other, bytes_eq-same entry.label) refl
  ]

  faults_asked : faults (entry.label ∷ []) (entry ∷ []) ≡ long entry
  faults_asked = rw (known, bytes_eq-same entry.label) (by (nat_lt ARRIVAL (length entry.value)) refl) where
    by : (b : Bool) → nat_lt ARRIVAL (length entry.value) ≡ b → (long entry ++ []) ++ [] ≡ long entry
    by true e = rw e refl
    by false e = rw e refl

  fits_asked : (line : List ℕ) → IsWhole line → Spoken line (Some entry) → (b : Bool) → nat_lt ARRIVAL (length entry.value) ≡ b
      → (outcome : Outcome) × Fit line (entry.label ∷ []) outcome × (is_long outcome ≡ b)
  fits_asked line whole is true e =
      let first : faults (entry.label ∷ []) (entry ∷ []) ≡ Long entry.label ∷ [] = faults_asked ∙ rw e refl in
      (Err (Long entry.label), (entry ∷ [], are_said line whole (Some entry) is, ([], first)), refl)
  fits_asked line whole is false e =
      let none : faults (entry.label ∷ []) (entry ∷ []) ≡ [] = faults_asked ∙ rw e refl in
      let value : value_of (entry ∷ []) entry.label ≡ Some entry.value = rw (bytes_eq-same entry.label) refl in
      let fitted : Fitted = record { values = entry.value ∷ []; seed = value_of (entry ∷ []) seed_label } in
      (Ok fitted, (entry ∷ [], are_said line whole (Some entry) is, none, ap (λ v. v ∷ []) (sym value), refl), refl)

  -- where nothing is asked for
  stranger : IsLabel entry.label → among (seed_label ∷ []) entry.label ≡ false
  stranger is =
      let other : bytes_eq seed_label entry.label ≡ false = bytes_differ seed_label entry.label (λ same. seed_is_no_label (subst IsLabel (sym same) is)) in
      rw other refl

  fits_label : (line : List ℕ) → IsWhole line → Spoken line (Some entry) → IsLabel entry.label → Fit line [] (Err (Extra entry.label))
  fits_label line whole is label =
      let h = stranger label in
      (entry ∷ [], are_said line whole (Some entry) is, (long entry ++ [] ++ [], rw h refl))

  fits_seed : (line : List ℕ) → IsWhole line → Spoken line (Some entry) → entry.label ≡ seed_label → length entry.value ≡ 32 → Fit line [] (Ok (record { values = []; seed = Some entry.value }))
  fits_seed line whole is label size =
      let same : bytes_eq seed_label entry.label ≡ true = rw label refl in
      let found : bytes_eq entry.label seed_label ≡ true = rw label refl in
      let short : nat_lt ARRIVAL (length entry.value) ≡ false = rw size refl in
      (entry ∷ [], are_said line whole (Some entry) is, rw (same, short) refl, refl, rw found refl)

  said_alone : (line : List ℕ) → IsWhole line → Spoken line (Some entry) → (outcome : Outcome) × Fit line [] outcome × (alone outcome ≡ Label entry.label)
  said_alone line whole is = by is.1.1 where
    by : IsGiven entry.label (value_text (content line)) entry.value → (outcome : Outcome) × Fit line [] outcome × (alone outcome ≡ Label entry.label)
    by (inl (label, value)) = (Err (Extra entry.label), fits_label line whole is label, refl)
    by (inr (label, digits, size)) = (Ok (record { values = []; seed = Some entry.value }), fits_seed line whole is label size, ap Label (sym label))

nothing_alone : (line : List ℕ) → IsWhole line → Spoken line None → Fit line [] (Ok (record { values = []; seed = None }))
nothing_alone line whole is = ([], are_said line whole None is, refl, refl, refl)

-- a line that is of the grammar
pub read_alone : (line : List ℕ) → IsWhole line → (said : Option Entry) → Spoken line said → (read : ReadLine) → IsRead line read → Reads said read
read_alone line whole None said read is =
    let same : is.says.0 ≡ Ok (record { values = []; seed = None }) = one_fit line [] is.says.0 (Ok (record { values = []; seed = None })) is.says.1 (nothing_alone line whole said) in
    let says : read.said ≡ Nothing = is.says.2 ∙ ap alone same in
    (says, subst (λ s. IsLong line s read.is_long) says is.long)
read_alone line whole (Some entry) said read is =
    let due = said_alone entry line whole said in
    let same : is.says.0 ≡ due.0 = one_fit line [] is.says.0 due.0 is.says.1 due.1 in
    let says : read.said ≡ Label entry.label = is.says.2 ∙ ap alone same ∙ due.2 in
    let asked : IsLong line (Label entry.label) read.is_long = subst (λ s. IsLong line s read.is_long) says is.long in
    let long = fits_asked entry line whole said (nat_lt ARRIVAL (length entry.value)) refl in
    let also : asked.0 ≡ long.0 = one_fit line (entry.label ∷ []) asked.0 long.0 asked.1 long.1 in
    (says, asked.2 ∙ ap is_long also ∙ long.2)

-- a line that isn't
pub faulty_alone : (line : List ℕ) → IsWhole line → ((said : Option Entry) → Spoken line said → ⊥) → (read : ReadLine) → IsRead line read → read.said ≡ Faulty
faulty_alone line whole unsaid read is =
    let first : Fit line [] (Err (Line 1)) = ([], line, [], [], whole, refl, ([], tt, refl), unsaid) in
    let same : is.says.0 ≡ Err (Line 1) = one_fit line [] is.says.0 (Err (Line 1)) is.says.1 first in
    is.says.2 ∙ ap alone same

-- ---- one line is read once

pub one_read : (line : List ℕ) (read other : ReadLine) → IsRead line read → IsRead line other → read ≡ other
one_read line read other is also =
    let same : is.says.0 ≡ also.says.0 = one_fit line [] is.says.0 also.says.0 is.says.1 also.says.1 in
    let said : read.said ≡ other.said = is.says.2 ∙ ap alone same ∙ sym also.says.2 in
    let long : read.is_long ≡ other.is_long = one_long other.said read.is_long other.is_long (subst (λ s. IsLong line s read.is_long) said is.long) also.long in
    let lines : read.line ≡ other.line = is.line ∙ sym also.line in
    λ i. record { line = lines i; said = said i; is_long = long i } where
      one_long : (said : Saying) (long other : Bool) → IsLong line said long → IsLong line said other → long ≡ other
      one_long (Label label) long other is also = is.2 ∙ ap is_long (one_fit line (label ∷ []) is.0 also.0 is.1 also.1) ∙ sym also.2
      one_long Nothing long other is also = is ∙ sym also
      one_long Faulty long other is also = is ∙ sym also

pub all_read : (lines : List (List ℕ)) (reads others : List ReadLine) → AllZip IsRead lines reads → AllZip IsRead lines others → reads ≡ others
all_read [] [] [] is also = refl
all_read [] [] (y ∷ ys) is also = absurd also
all_read [] (x ∷ xs) others is also = absurd is
all_read (l ∷ ls) [] others is also = absurd is
all_read (l ∷ ls) (x ∷ xs) [] is also = absurd also
all_read (l ∷ ls) (x ∷ xs) (y ∷ ys) is also =
    let first = one_read l x y is.0 also.0 in let rest = all_read ls xs ys is.1 also.1 in λ i. first i ∷ rest i
