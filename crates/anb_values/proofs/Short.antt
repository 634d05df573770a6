-- Values that are given are no longer than an arrival.
use Rattle.std.proofs.Common.{◌≡◌, ◌≤◌, ◌⊎◌, ℕ, Bool, true, false, List, [], ◌∷◌, ◌++◌, length, map, Option, Some, None, refl, subst, inl, inr, cond}
use Rattle.std.specs.Prelude.{find}
use Rattle.std.specs.List.{All, AllByRecursion}
use Rattle.std.specs.Option.{option_map}
use Rattle.std.specs.Str.{bytes_eq}
use Rattle.std.proofs.lemmas.Bool.{ltb-false}
use Rattle.std.proofs.lemmas.List.Elements.{All-from_recursion}
use Rattle.anb_base.specs.declared.TheConstants.{ARRIVAL}
use Rattle.anb_values.specs.declared.lines.Entry.{Entry}
use Rattle.anb_values.specs.declared.refusal.ValuesNo.{ValuesNo}
use Rattle.anb_values.specs.declared.refusal.ValuesNo.TheVariants.{Long}
use Rattle.anb_values.specs.Fit.{extra, twice, long, line_faults, lines_faults, value_of}

abbrev IsShort : List ℕ → Type 0
IsShort v = length v ≤ ARRIVAL

no_front : {A : Type 0} (xs ys : List A) → xs ++ ys ≡ [] → xs ≡ []
no_front [] ys e = refl
no_front (x ∷ xs) ys e = cc

no_back : {A : Type 0} (xs ys : List A) → xs ++ ys ≡ [] → ys ≡ []
no_back [] ys e = e
no_back (x ∷ xs) ys e = cc

no_long : (b : Bool) (l : List ℕ) → cond b (Long l ∷ []) [] ≡ [] → b ≡ false
no_long true l e = cc
no_long false l e = refl

short_entry : (x : Entry) → long x ≡ [] → IsShort x.value
short_entry x e = ltb-false ARRIVAL (length x.value) (no_long _ x.label e)

entries_short : (asked before : List (List ℕ)) (entries : List Entry) → lines_faults asked before entries ≡ [] → AllByRecursion (λ x. IsShort x.value) entries
entries_short asked before [] e = tt
entries_short asked before (x ∷ xs) e =
    let front = no_front (line_faults asked before x) _ e in
    let rest = no_back (line_faults asked before x) _ e in
    (short_entry x (no_back (extra asked x ++ twice before x) (long x) front), entries_short asked (before ++ x.label ∷ []) xs rest)

picked : (b : Bool) (x : Entry) (o : Option Entry) (v : List ℕ) → option_map (λ (e : Entry). e.value) (cond b (Some x) o) ≡ Some v
    → (x.value ≡ v) ⊎ (option_map (λ (e : Entry). e.value) o ≡ Some v)
picked true x o v e = inl cc
picked false x o v e = inr e

short_value : (entries : List Entry) (label v : List ℕ) → AllByRecursion (λ x. IsShort x.value) entries → value_of entries label ≡ Some v → IsShort v
short_value [] label v all e = cc
short_value (x ∷ xs) label v all e = elim (picked (bytes_eq x.label label) x (find (λ (y : Entry). bytes_eq y.label label) xs) v e) [
  | inl h ↦ subst IsShort h all.0
  | inr h ↦ short_value xs label v all.1 h
]

each_short : (entries : List Entry) (names values : List (List ℕ)) → AllByRecursion (λ x. IsShort x.value) entries → map Some values ≡ map (value_of entries) names → AllByRecursion IsShort values
each_short entries names [] all e = tt
each_short entries [] (v ∷ vs) all e = cc
each_short entries (n ∷ names) (v ∷ vs) all e =
    let here : value_of entries n ≡ Some v = cc in
    (short_value entries n v all here, each_short entries names vs all cc)

-- where no line has a fault, the values of names are short
pub values_short : (asked names values : List (List ℕ)) (entries : List Entry) → lines_faults asked [] entries ≡ [] → map Some values ≡ map (value_of entries) names → All (λ v. length v ≤ ARRIVAL) values
values_short asked names values entries fine e = All-from_recursion IsShort values (each_short entries names values (entries_short asked [] entries fine) e)
