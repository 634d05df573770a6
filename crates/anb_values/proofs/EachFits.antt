-- Each text gives an outcome.
use Rattle.std.proofs.Common.{◌≡◌, ◌≢◌, ◌⊎◌, ◌+◌, ℕ, Bool, true, false, List, [], ◌∷◌, ◌++◌, length, map, Option, Some, None, Ok, Err, refl, sym, ap, subst, inl, inr, ◌∙◌, append_assoc}
use Rattle.std.specs.Prelude.{filter, nat_lt, not}
use Rattle.std.specs.List.{AllByRecursion}
use Rattle.std.proofs.lemmas.List.{append-nil}
use Rattle.anb_base.specs.declared.TheConstants.{ARRIVAL}
use Rattle.anb_index.specs.Places.{among}
use Rattle.anb_values.specs.declared.lines.Entry.{Entry}
use Rattle.anb_values.specs.declared.refusal.ValuesNo.{ValuesNo}
use Rattle.anb_values.specs.declared.refusal.ValuesNo.TheVariants.{Line, Extra, Twice, Long, Missing, NoMemory}
use Rattle.anb_values.specs.Lines.{AreSaid, IsFirstFaulty, Says, lines_of, seed_label}
use Rattle.anb_values.specs.Fit.{BeginsWith, EachFits, Fit, Outcome, extra, faults, has_line, lines_faults, long, missing, twice, value_of}
use Rattle.anb_values.proofs.Deciding.{said_decided}
use Rattle.anb_values.proofs.FitLemmas.{missing_after, missing_here}
use Rattle.anb_values.proofs.LineLemmas.{said_none, said_some}
use Rattle.anb_lemmas.proofs.Searching.{Decided}

-- ---- the lines

module _ (lines : List (List ℕ)) where
  abbrev AreLines : Type 0
  AreLines = ((entries : List Entry) × AreSaid lines entries) ⊎ ((n : ℕ) × IsFirstFaulty lines n)

  faulty_here : (before : List (List ℕ)) (entries : List Entry) (line : List ℕ) (rest : List (List ℕ)) → lines ≡ before ++ line ∷ rest → AreSaid before entries → ((said : Option Entry) → Says line said → ⊥) → IsFirstFaulty lines (length before + 1)
  faulty_here before entries line rest e said none = (before, line, rest, entries, e, refl, said, none)

  walk : (before : List (List ℕ)) (entries : List Entry) → AreSaid before entries → (rest : List (List ℕ)) → lines ≡ before ++ rest → AreLines
  walk before entries said [] e = inl (entries, subst (λ ls. AreSaid ls entries) (sym (e ∙ append-nil before)) said)
  walk before entries said (line ∷ rest) e =
      let next = e ∙ sym (append_assoc before (line ∷ []) rest) in
      one_line before entries line rest e said (λ says. walk (before ++ line ∷ []) entries (said_none before entries line said says) rest next)
      (λ entry says. walk (before ++ line ∷ []) (entries ++ entry ∷ []) (said_some before entries line entry said says) rest next) (said_decided line)
    where
      one_line : (before : List (List ℕ)) (entries : List Entry) (line : List ℕ) (rest : List (List ℕ)) → lines ≡ before ++ line ∷ rest → AreSaid before entries
          → (Says line None → AreLines) → ((entry : Entry) → Says line (Some entry) → AreLines) → Decided ((said : Option Entry) × Says line said) → AreLines
      one_line before entries line rest e said passed given (inl (None, says)) = passed says
      one_line before entries line rest e said passed given (inl (Some entry, says)) = given entry says
      one_line before entries line rest e said passed given (inr none) = inr (length before + 1, faulty_here before entries line rest e said (λ s says. none (s, says)))

  are_lines : AreLines
  are_lines = walk [] [] ([], tt, refl) lines refl

-- ---- the faults

-- a fault of a line's or a name's
abbrev IsOther : ValuesNo → Type 0
IsOther (Line n) = ⊥
IsOther NoMemory = ⊥
IsOther fault = Unit {0}

both_other : (xs ys : List ValuesNo) → AllByRecursion IsOther xs → AllByRecursion IsOther ys → AllByRecursion IsOther (xs ++ ys)
both_other [] ys all also = also
both_other (x ∷ xs) ys all also = (all.0, both_other xs ys all.1 also)

extra_other : (asked : List (List ℕ)) (entry : Entry) → AllByRecursion IsOther (extra asked entry)
extra_other asked entry = by (among asked entry.label) refl where
  by : (b : Bool) → among asked entry.label ≡ b → AllByRecursion IsOther (extra asked entry)
  by true e = rw e tt
  by false e = rw e (tt, tt)

twice_other : (before : List (List ℕ)) (entry : Entry) → AllByRecursion IsOther (twice before entry)
twice_other before entry = by (among before entry.label) refl where
  by : (b : Bool) → among before entry.label ≡ b → AllByRecursion IsOther (twice before entry)
  by true e = rw e (tt, tt)
  by false e = rw e tt

long_other : (entry : Entry) → AllByRecursion IsOther (long entry)
long_other entry = by (nat_lt ARRIVAL (length entry.value)) refl where
  by : (b : Bool) → nat_lt ARRIVAL (length entry.value) ≡ b → AllByRecursion IsOther (long entry)
  by true e = rw e (tt, tt)
  by false e = rw e tt

lines_other : (asked before : List (List ℕ)) (entries : List Entry) → AllByRecursion IsOther (lines_faults asked before entries)
lines_other asked before [] = tt
lines_other asked before (entry ∷ entries) =
    both_other _ _ (both_other _ _ (both_other _ _ (extra_other asked entry) (twice_other before entry)) (long_other entry)) (lines_other asked (before ++ entry.label ∷ []) entries)

missing_other : (names : List (List ℕ)) → AllByRecursion IsOther (map Missing names)
missing_other [] = tt
missing_other (name ∷ names) = (tt, missing_other names)

all_other : (names : List (List ℕ)) (entries : List Entry) → AllByRecursion IsOther (faults names entries)
all_other names entries = both_other _ _ (lines_other (seed_label ∷ names) [] entries) (missing_other (filter (λ name. not (has_line entries name)) names))

-- ---- the values

both_empty : (xs ys : List ValuesNo) → xs ++ ys ≡ [] → (xs ≡ []) × (ys ≡ [])
both_empty [] ys e = (refl, e)
both_empty (x ∷ xs) ys e = cc

module _ (entries : List Entry) where
  abbrev AreValues : List (List ℕ) → Type 0
  AreValues names = (values : List (List ℕ)) × (map Some values ≡ map (value_of entries) names)

  one_more : (name : List ℕ) (names : List (List ℕ)) → missing (name ∷ names) entries ≡ [] → (missing names entries ≡ [] → AreValues names) → (found : Option (List ℕ)) → value_of entries name ≡ found → AreValues (name ∷ names)
  one_more name names none others None e = let never = sym (missing_here name names entries e) ∙ none in cc
  one_more name names none others (Some value) e =
      let rest = others (sym (missing_after name names entries value e) ∙ none) in
      (value ∷ rest.0, ap (λ o. o ∷ map Some rest.0) (sym e) ∙ ap (λ os. value_of entries name ∷ os) rest.1)

  values_for : (names : List (List ℕ)) → missing names entries ≡ [] → AreValues names
  values_for [] none = ([], refl)
  values_for (name ∷ names) none = one_more name names none (values_for names) (value_of entries name) refl

module _ (text : List ℕ) (names : List (List ℕ)) where
  abbrev Fits : Type 0
  Fits = (outcome : Outcome) × Fit text names outcome × (outcome ≢ Err NoMemory)

  refused : (entries : List Entry) → AreSaid (lines_of text) entries → (fault : ValuesNo) → IsOther fault → BeginsWith (faults names entries) fault → Fits
  refused entries said (Line n) never first = absurd never
  refused entries said NoMemory never first = absurd never
  refused entries said (Extra name) other first = (Err (Extra name), (entries, said, first), λ same. cc)
  refused entries said (Twice name) other first = (Err (Twice name), (entries, said, first), λ same. cc)
  refused entries said (Long name) other first = (Err (Long name), (entries, said, first), λ same. cc)
  refused entries said (Missing name) other first = (Err (Missing name), (entries, said, first), λ same. cc)

  of_lines : (entries : List Entry) → AreSaid (lines_of text) entries → (all : List ValuesNo) → faults names entries ≡ all → AllByRecursion IsOther all → Fits
  of_lines entries said [] none others =
      let values = values_for entries names (both_empty (lines_faults (seed_label ∷ names) [] entries) (missing names entries) none).1 in
      (Ok (record { values = values.0; seed = value_of entries seed_label }), (entries, said, none, values.1, refl), λ same. cc)
  of_lines entries said (fault ∷ rest) first others = refused entries said fault others.0 (rest, first)

  fits : AreLines (lines_of text) → Fits
  fits (inl (entries, said)) = of_lines entries said (faults names entries) refl (all_other names entries)
  fits (inr (n, first)) = (Err (Line n), first, λ same. cc)

pub each_fits : EachFits
each_fits text names = fits text names (are_lines (lines_of text))
