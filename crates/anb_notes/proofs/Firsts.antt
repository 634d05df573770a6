-- A table of first places with one place more.
use Rattle.std.proofs.Common.{◌≡◌, ℕ, zero, suc, ◌+◌, ◌<◌, ◌≤◌, ◌⊎◌, inl, inr, List, [], ◌∷◌, ◌++◌, get_or, length, take, Bool, true, false, cond, Option, Some, None, refl, sym, ap, ◌∙◌, subst, arith}
use Rattle.std.specs.Prelude.{◌==◌, filter, slice_get, slice_set}
use Rattle.std.specs.Option.{option_or}
use Rattle.std.proofs.lemmas.Bool.{cases_lt}
use Rattle.std.proofs.lemmas.List.{append-nil}
use Rattle.std.proofs.lemmas.List.Elements.{filter-append}
use Rattle.anb_lemmas.proofs.Lists.{set_apart, set_gets, set_long}
use Rattle.anb_lemmas.proofs.Numbers.{nat_eq-differs, nat_eq-same, same_or_not}
use Rattle.anb_lemmas.proofs.Options.{or_none}
use Rattle.anb_notes.specs.declared.places.Place.{Place}
use Rattle.anb_notes.specs.Places.{first_of}
use Rattle.anb_notes.specs.Tables.{AreFirsts}

first_more : (x : ℕ) (all : List Place) (place : Place) → first_of x (all ++ place ∷ []) ≡ option_or (first_of x all) (first_of x (place ∷ []))
first_more x [] place = refl
first_more x (y ∷ all) place = by (y.name == x) (first_more x all place)
  where
    by : (b : Bool) → first_of x (all ++ place ∷ []) ≡ option_or (first_of x all) (first_of x (place ∷ []))
        → cond b (Some y.number) (first_of x (all ++ place ∷ [])) ≡ option_or (cond b (Some y.number) (first_of x all)) (first_of x (place ∷ []))
    by true more = refl
    by false more = more

first_here : (x : ℕ) (place : Place) → place.name ≡ x → first_of x (place ∷ []) ≡ Some place.number
first_here x place e = ap (λ b. cond b (Some place.number) None) (ap (λ n. n == x) e ∙ nat_eq-same x)

first_elsewhere : (x : ℕ) (place : Place) → (place.name ≡ x → ⊥) → first_of x (place ∷ []) ≡ None
first_elsewhere x place differs = ap (λ b. cond b (Some place.number) None) (nat_eq-differs place.name x differs)

apart : (x : ℕ) (all : List Place) (place : Place) → (place.name ≡ x → ⊥) → first_of x (all ++ place ∷ []) ≡ first_of x all
apart x all place differs = first_more x all place ∙ ap (option_or (first_of x all)) (first_elsewhere x place differs) ∙ or_none (first_of x all)

kept : (x : ℕ) (all : List Place) (place : Place) (v : ℕ) → first_of x all ≡ Some v → first_of x (all ++ place ∷ []) ≡ Some v
kept x all place v e = first_more x all place ∙ ap (λ o. option_or o (first_of x (place ∷ []))) e

last : (x : ℕ) (all : List Place) (place : Place) → place.name ≡ x → first_of x all ≡ None → first_of x (all ++ place ∷ []) ≡ Some place.number
last x all place here none = first_more x all place ∙ ap (λ o. option_or o (first_of x (place ∷ []))) none ∙ first_here x place here

module _ (many : ℕ) (all : List Place) (place : Place) (old : List (Option ℕ)) (are : AreFirsts many all old) where
  -- no name of the table
  pub past : many ≤ place.name → AreFirsts many (all ++ place ∷ []) old
  past h = record {
    long = are.long;
    each = λ x l. are.each x l ∙ ap Some (sym (apart x all place (λ e. omega (arith, h, l, e))));
  }

  -- the name has a place
  pub there : (v : ℕ) → place.name < many → slice_get old place.name ≡ Some (Some v) → AreFirsts many (all ++ place ∷ []) old
  there v within is = record { long = are.long; each = λ x l. by x l (same_or_not place.name x) }
    where
      had : first_of place.name all ≡ Some v
      had = let h = are.each place.name within in cc

      by : (x : ℕ) → x < many → (place.name ≡ x) ⊎ (place.name ≡ x → ⊥) → slice_get old x ≡ Some (first_of x (all ++ place ∷ []))
      by x l (inl e) = are.each x l ∙ ap Some (let h = ap (λ n. first_of n all) e in let k = kept x all place v (sym h ∙ had) in sym h ∙ had ∙ sym k)
      by x l (inr differs) = are.each x l ∙ ap Some (sym (apart x all place differs))

  -- the name has none
  pub new : place.name < many → slice_get old place.name ≡ Some None → AreFirsts many (all ++ place ∷ []) (slice_set old place.name (Some place.number))
  new within is = record { long = set_long old place.name (Some place.number) ∙ are.long; each = λ x l. by x l (same_or_not place.name x) }
    where
      none : first_of place.name all ≡ None
      none = let h = are.each place.name within in cc

      by : (x : ℕ) → x < many → (place.name ≡ x) ⊎ (place.name ≡ x → ⊥) → slice_get (slice_set old place.name (Some place.number)) x ≡ Some (first_of x (all ++ place ∷ []))
      by x l (inl e) =
          ap (slice_get (slice_set old place.name (Some place.number))) (sym e)
          ∙ set_gets old place.name (Some place.number) (let h = are.long in omega (arith, h, within))
          ∙ ap Some (sym (last x all place e (ap (λ n. first_of n all) (sym e) ∙ none)))
      by x l (inr differs) =
          set_apart old place.name x (Some place.number) (λ e. differs (sym e)) ∙ are.each x l ∙ ap Some (sym (apart x all place differs))

-- a place of no name of the table may be left out
dropped : (many : ℕ) (all : List Place) (place : Place) (table : List (Option ℕ)) → many ≤ place.name → AreFirsts many (all ++ place ∷ []) table → AreFirsts many all table
dropped many all place table h are = record {
  long = are.long;
  each = λ x l. are.each x l ∙ ap Some (apart x all place (λ e. omega (arith, h, l, e)));
}

module _ (many : ℕ) (all : List Place) (keep : Place → Bool) (place : Place) where
  abbrev Kept : List (Option ℕ) → Bool → Type 0
  Kept table b = AreFirsts many (all ++ cond b (place ∷ []) []) table

  none_more : (table : List (Option ℕ)) → AreFirsts many all table → Kept table false
  none_more table are = subst (λ (l : List Place). AreFirsts many l table) (sym (append-nil all)) are

  -- where it was put
  pub put : (new : List (Option ℕ)) → (place.name < many → true ≡ keep place) → AreFirsts many (all ++ place ∷ []) new → AreFirsts many (all ++ filter keep (place ∷ [])) new
  put new so are = by (cases_lt place.name many)
    where
      either : (b : Bool) → many ≤ place.name → Kept new b
      either true h = are
      either false h = none_more new (dropped many all place new h are)

      by : (place.name < many) ⊎ (many ≤ place.name) → Kept new (keep place)
      by (inl l) = subst (Kept new) (so l) are
      by (inr h) = either (keep place) h

  -- and where it wasn't
  pub left : (old : List (Option ℕ)) → (place.name < many → false ≡ keep place) → AreFirsts many all old → AreFirsts many (all ++ filter keep (place ∷ [])) old
  left old so are = by (cases_lt place.name many)
    where
      either : (b : Bool) → many ≤ place.name → Kept old b
      either true h = past many all place old are h
      either false h = none_more old are

      by : (place.name < many) ⊎ (many ≤ place.name) → Kept old (keep place)
      by (inl l) = subst (Kept old) (so l) (none_more old are)
      by (inr h) = either (keep place) h

-- ---- one place more of a list

pub take_at : (xs : List Place) (i : ℕ) (d : Place) → i < length xs → take (i + 1) xs ≡ take i xs ++ get_or xs i d ∷ []
take_at [] i d h = absurd (omega (arith, h))
take_at (x ∷ xs) zero d h = refl
take_at (x ∷ xs) (suc i) d h = let l : suc i + 1 ≡ suc (i + 1) = omega arith in ap (λ n. take n (x ∷ xs)) l ∙ ap (λ l. x ∷ l) (take_at xs i d (omega (arith, h)))

pub kept_at : (keep : Place → Bool) (xs : List Place) (i : ℕ) (d : Place) → i < length xs → filter keep (take (i + 1) xs) ≡ filter keep (take i xs) ++ filter keep (get_or xs i d ∷ [])
kept_at keep xs i d h = ap (filter keep) (take_at xs i d h) ∙ filter-append keep (take i xs) (get_or xs i d ∷ [])

-- ---- tables of the same

pub moved : (m n : ℕ) (xs ys : List Place) (table : List (Option ℕ)) → m ≡ n → xs ≡ ys → AreFirsts m xs table → AreFirsts n ys table
moved m n xs ys table e same are = subst (λ k. AreFirsts k ys table) e (subst (λ (l : List Place). AreFirsts m l table) same are)

-- what is read of a slice of the table
pub read : (many : ℕ) (all : List Place) (items slice : List (Option ℕ)) (x : ℕ) (o : Option ℕ) → slice ≡ items → AreFirsts many all items
    → ((n : ℕ) (places : List Place) → AreFirsts n places slice → x < n → o ≡ first_of x places) → x < many → o ≡ first_of x all
read many all items slice x o e are gives l = gives many all (subst (λ (l : List (Option ℕ)). AreFirsts many all l) (sym e) are) l
