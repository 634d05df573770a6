-- The faults of lines and names.
use Rattle.std.proofs.Common.{◌≡◌, ◌<◌, ◌+◌, ◌||◌, ℕ, Bool, true, false, cond, List, [], ◌∷◌, ◌++◌, length, take, drop, get_or, map, Some, None, Err, inl, inr, refl, arith, sym, ap, ◌∙◌, All}
use Rattle.std.specs.Bool.{Decides}
use Rattle.std.specs.List.{find, slice_get}
use Rattle.std.specs.Option.{option_map, is_some}
use Rattle.std.specs.Str.{bytes_eq}
use Rattle.std.proofs.lemmas.Bool.{cases_Bool}
use Rattle.std.proofs.lemmas.List.{drop_more, map_push, map_more}
use Rattle.std.proofs.lemmas.List.Elements.{All-head, All-tail}
use Rattle.anb_lemmas.proofs.Items.{bytes_are_one}
use Rattle.anb_index.specs.Places.{among, place_of}
use Rattle.anb_index.proofs.PlaceLemmas.{find-at, find-none}
use Rattle.anb_values.specs.declared.lines.Entry.{Entry}
use Rattle.anb_values.specs.declared.refusal.ValuesNo.{ValuesNo}
use Rattle.anb_values.specs.declared.refusal.ValuesNo.TheVariants.{Line, Extra, Twice, Long, Missing, NoMemory}
use Rattle.anb_values.specs.Lines.{seed_label, lines_of, AreSaid}
use Rattle.anb_values.specs.Fit.{BeginsWith, has_line, labels_of, value_of, twice, long, line_faults, lines_faults, missing, faults, Fit, UnlessNoMemory}
use Rattle.anb_values.specs.Reading.{IsFirst, IsFaulty}

pub extra_first : (asked before : List (List ℕ)) (entry : Entry) → among asked entry.label ≡ false → BeginsWith (line_faults asked before entry) (Extra entry.label)
extra_first asked before entry h = (twice before entry ++ long entry, rw h refl)

pub twice_first : (asked before : List (List ℕ)) (entry : Entry) → among asked entry.label ≡ true → among before entry.label ≡ true → BeginsWith (line_faults asked before entry) (Twice entry.label)
twice_first asked before entry h k = (long entry, rw (h, k) refl)

pub differs : (b : Bool) (P : Type 0) → Decides b P → (P → ⊥) → b ≡ false
differs true P d n = absurd (n (d.0 refl))
differs false P d n = refl

pub is_some-value_of : (entries : List Entry) (label : List ℕ) → is_some (value_of entries label) ≡ has_line entries label
is_some-value_of [] label = refl
is_some-value_of (entry ∷ entries) label =
    elim (bytes_eq entry.label label) as (λ b. is_some (option_map (λ (e : Entry). e.value) (cond b (Some entry) (find (λ (e : Entry). bytes_eq e.label label) entries))) ≡ (b || has_line entries label)) [
      | true ↦ refl
      | false ↦ is_some-value_of entries label
    ]

pub missing_here : (name : List ℕ) (names : List (List ℕ)) (entries : List Entry) → value_of entries name ≡ None → missing (name ∷ names) entries ≡ Missing name ∷ missing names entries
missing_here name names entries none = let h : has_line entries name ≡ false = sym (is_some-value_of entries name) ∙ ap is_some none in rw h refl

pub missing_after : (name : List ℕ) (names : List (List ℕ)) (entries : List Entry) (value : List ℕ) → value_of entries name ≡ Some value → missing (name ∷ names) entries ≡ missing names entries
missing_after name names entries value some = let h : has_line entries name ≡ true = sym (is_some-value_of entries name) ∙ ap is_some some in rw h refl

next_name : (names : List (List ℕ)) (i : ℕ) (name : List ℕ) → i < length names → name ≡ get_or names i name → drop i names ≡ name ∷ drop (i + 1) names
next_name names i name h e = drop_more names i name h ∙ ap (λ x. x ∷ drop (i + 1) names) (sym e)

pub missing_at : (names : List (List ℕ)) (entries : List Entry) (i : ℕ) (name : List ℕ) → i < length names → name ≡ get_or names i name → value_of entries name ≡ None → missing (drop i names) entries ≡ Missing name ∷ missing (drop (i + 1) names) entries
missing_at names entries i name h e none = ap (λ ns. missing ns entries) (next_name names i name h e) ∙ missing_here name (drop (i + 1) names) entries none

pub missing_past : (names : List (List ℕ)) (entries : List Entry) (i : ℕ) (name value : List ℕ) → i < length names → name ≡ get_or names i name → value_of entries name ≡ Some value → missing (drop i names) entries ≡ missing (drop (i + 1) names) entries
missing_past names entries i name value h e some = ap (λ ns. missing ns entries) (next_name names i name h e) ∙ missing_after name (drop (i + 1) names) entries value some

pub values_push : (names : List (List ℕ)) (entries : List Entry) (i : ℕ) (name : List ℕ) (values : List (List ℕ)) (value : List ℕ) → i < length names → name ≡ get_or names i name → value_of entries name ≡ Some value → map Some values ≡ map (value_of entries) (take i names) → map Some (values ++ value ∷ []) ≡ map (value_of entries) (take (i + 1) names)
values_push names entries i name values value h e some so_far =
    map_push Some values value
    ∙ ap (λ t. t ++ Some value ∷ []) so_far
    ∙ ap (λ o. map (value_of entries) (take i names) ++ o ∷ []) (sym some ∙ ap (value_of entries) e)
    ∙ sym (map_more (value_of entries) names i name h)

pub seed_value : (entries : List Entry) (value : List ℕ) → All (λ (entry : Entry). entry.label ≡ seed_label → length entry.value ≡ 32) entries → value_of entries seed_label ≡ Some value → length value ≡ 32
seed_value [] value all some = cc
seed_value (entry ∷ entries) value all some = elim (cases_Bool (bytes_eq entry.label seed_label)) [
  | inl here ↦
      let found : Some entry.value ≡ Some value = rw here at some in
      let same : entry.value ≡ value = cc in
      rw (sym same) (All-head (λ (e : Entry). e.label ≡ seed_label → length e.value ≡ 32) entry entries all (bytes_are_one entry.label seed_label here))
  | inr other ↦ seed_value entries value (All-tail (λ (e : Entry). e.label ≡ seed_label → length e.value ≡ 32) entry entries all) (rw other at some)
]

-- which refusals are the first fault of a text
pub refused_by_line : (text : List ℕ) (names : List (List ℕ)) (refused : ValuesNo) → IsFaulty text refused → UnlessNoMemory refused (Fit text names (Err refused))
refused_by_line text names (Line n) h = h
refused_by_line text names NoMemory h = h
refused_by_line text names (Extra name) h = absurd h
refused_by_line text names (Twice name) h = absurd h
refused_by_line text names (Long name) h = absurd h
refused_by_line text names (Missing name) h = absurd h

begins_more : (faults more : List ValuesNo) (first : ValuesNo) → BeginsWith faults first → BeginsWith (faults ++ more) first
begins_more faults more first b = (b.0 ++ more, ap (λ t. t ++ more) b.1)

pub refused_by_entry : (text : List ℕ) (names : List (List ℕ)) (entries : List Entry) (refused : ValuesNo) → AreSaid (lines_of text) entries → IsFirst (lines_faults (seed_label ∷ names) [] entries) refused → UnlessNoMemory refused (Fit text names (Err refused))
refused_by_entry text names entries (Line n) s h = absurd h
refused_by_entry text names entries NoMemory s h = h
refused_by_entry text names entries (Extra name) s h = (entries, s, begins_more _ (missing names entries) _ h)
refused_by_entry text names entries (Twice name) s h = (entries, s, begins_more _ (missing names entries) _ h)
refused_by_entry text names entries (Long name) s h = (entries, s, begins_more _ (missing names entries) _ h)
refused_by_entry text names entries (Missing name) s h = (entries, s, begins_more _ (missing names entries) _ h)

begins_after : (names : List (List ℕ)) (entries : List Entry) (first : ValuesNo) → lines_faults (seed_label ∷ names) [] entries ≡ [] → BeginsWith (missing names entries) first → BeginsWith (faults names entries) first
begins_after names entries first none b = (b.0, ap (λ t. t ++ missing names entries) none ∙ b.1)

pub refused_by_name : (text : List ℕ) (names : List (List ℕ)) (entries : List Entry) (refused : ValuesNo) → AreSaid (lines_of text) entries → lines_faults (seed_label ∷ names) [] entries ≡ [] → IsFirst (missing names entries) refused → UnlessNoMemory refused (Fit text names (Err refused))
refused_by_name text names entries (Line n) s none h = absurd h
refused_by_name text names entries NoMemory s none h = h
refused_by_name text names entries (Extra name) s none h = (entries, s, begins_after names entries _ none h)
refused_by_name text names entries (Twice name) s none h = (entries, s, begins_after names entries _ none h)
refused_by_name text names entries (Long name) s none h = (entries, s, begins_after names entries _ none h)
refused_by_name text names entries (Missing name) s none h = (entries, s, begins_after names entries _ none h)

-- the value at the place of a label
pub no_value : (entries : List Entry) (label : List ℕ) → place_of (labels_of entries) label ≡ None → value_of entries label ≡ None
no_value entries label h = ap (option_map (λ (e : Entry). e.value)) (find-none (λ y. bytes_eq y label) (λ (e : Entry). e.label) 0 entries h)

pub value_at : (entries : List Entry) (label : List ℕ) (place : ℕ) → place_of (labels_of entries) label ≡ Some place → value_of entries label ≡ option_map (λ (e : Entry). e.value) (slice_get entries place)
value_at entries label place h = ap (option_map (λ (e : Entry). e.value)) (find-at (λ y. bytes_eq y label) (λ (e : Entry). e.label) 0 place place entries h (omega arith))
