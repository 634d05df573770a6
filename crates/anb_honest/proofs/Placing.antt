-- The places of atoms, by a table.
use Rattle.std.proofs.Common.{◌≡◌, ℕ, zero, suc, ◌+◌, ◌-◌, ◌<◌, ◌≤◌, List, [], ◌∷◌, ◌++◌, length, take, get_or, Bool, true, false, cond, Option, Some, None, refl, sym, ap, ◌∙◌, subst, arith, length-append}
use Rattle.std.specs.Prelude.{is_some, slice_get, nat_eq, option_and_then, unwrap_or, ◌==◌, ◌&&◌, ◌||◌}
use Rattle.std.specs.Option.{option_or, option_map_or}
use Rattle.std.specs.List.{list_any, position_from}
use Rattle.std.proofs.lemmas.Bool.{eqb-true, eq-eqb}
use Rattle.std.proofs.lemmas.Bool.Decides.{nat_tests}
use Rattle.std.proofs.lemmas.List.{append-nil}
use Rattle.anb_lemmas.proofs.Bools.{or_false}
use Rattle.anb_protocol.specs.Choices.{each_after}
use Rattle.anb_protocol.specs.Names.{distinct, first_new}
use Rattle.anb_protocol.proofs.Afters.{any-append, each_after_last}
use Rattle.anb_honest.specs.declared.given.Given.{Given}
use Rattle.anb_honest.specs.Given.{IsTable, value_in, Gives}
use Rattle.anb_honest.specs.Joint.{Cast, known_atoms, given}

pub distinct_last : (xs : List ℕ) (x : ℕ) → distinct nat_eq (xs ++ x ∷ []) ≡ distinct nat_eq xs ++ first_new nat_eq xs x
distinct_last xs x = each_after_last (first_new nat_eq) [] xs x

-- an atom occurs among the distinct ones exactly where it occurs at all
was_there : (a x : ℕ) (before : List ℕ) → list_any (λ y. y == x) before ≡ true → (x == a) ≡ true → list_any (λ y. y == a) before ≡ true
was_there a x before h e = let g : x ≡ a = eqb-true x a e in subst (λ n. list_any (λ y. y == n) before ≡ true) g h

or_regroup : (p q r s : Bool) → (p || q) ≡ s → (p || (q || r)) ≡ (s || r)
or_regroup true q r s e = ap (λ v. v || r) e
or_regroup false q r s e = ap (λ v. v || r) e

or_held : (b v r : Bool) → b ≡ true → (b || r) ≡ ((b || v) || r)
or_held true v r e = refl
or_held false v r e = cc

or_idle : (b v r : Bool) → v ≡ false → (b || r) ≡ ((b || v) || r)
or_idle true v r e = refl
or_idle false true r e = cc
or_idle false false r e = refl

one_new : (a x : ℕ) (before : List ℕ) (R b v : Bool) → list_any (λ y. y == x) before ≡ b → (x == a) ≡ v
    → (list_any (λ y. y == a) before || (list_any (λ y. y == a) (cond b [] (x ∷ [])) || R)) ≡ ((list_any (λ y. y == a) before || (x == a)) || R)
one_new a x before R true true hb hv = or_held (list_any (λ y. y == a) before) (x == a) R (was_there a x before hb hv)
one_new a x before R true false hb hv = or_idle (list_any (λ y. y == a) before) (x == a) R hv
one_new a x before R false v hb hv =
    or_regroup (list_any (λ y. y == a) before) ((x == a) || false) R (list_any (λ y. y == a) before || (x == a)) (ap (λ u. list_any (λ y. y == a) before || u) (or_false (x == a)))

any_new : (a : ℕ) (before xs : List ℕ)
    → (list_any (λ y. y == a) before || list_any (λ y. y == a) (each_after (first_new nat_eq) before xs)) ≡ (list_any (λ y. y == a) before || list_any (λ y. y == a) xs)
any_new a before [] = refl
any_new a before (x ∷ xs) =
    let B = list_any (λ y. y == a) before in
    let rest = each_after (first_new nat_eq) (before ++ x ∷ []) xs in
    let joined : list_any (λ y. y == a) (before ++ x ∷ []) ≡ (B || (x == a)) = any-append (λ y. y == a) before (x ∷ []) ∙ ap (λ v. B || v) (or_false (x == a)) in
    ap (λ v. B || v) (any-append (λ y. y == a) (first_new nat_eq before x) rest)
    ∙ one_new a x before (list_any (λ y. y == a) rest) (list_any (λ y. y == x) before) (x == a) refl refl
    ∙ ap (λ v. v || list_any (λ y. y == a) rest) (sym joined) ∙ any_new a (before ++ x ∷ []) xs ∙ ap (λ v. v || list_any (λ y. y == a) xs) joined
    ∙ sym (or_regroup B (x == a) (list_any (λ y. y == a) xs) (B || (x == a)) refl)

pub any_distinct : (a : ℕ) (xs : List ℕ) → list_any (λ y. y == a) (distinct nat_eq xs) ≡ list_any (λ y. y == a) xs
any_distinct a xs = any_new a [] xs

position_last : (p : ℕ → Bool) (i : ℕ) (xs : List ℕ) (x : ℕ) → position_from p i (xs ++ x ∷ []) ≡ option_or (position_from p i xs) (cond (p x) (Some (i + length xs)) None)
position_last p i [] x = let n : i + 0 ≡ i = omega arith in ap (λ k. cond (p x) (Some k) None) (sym n)
position_last p i (y ∷ xs) x =
    let n : i + 1 + length xs ≡ i + suc (length xs) = omega arith in
    by (p y) (position_last p (i + 1) xs x ∙ ap (λ k. option_or (position_from p (i + 1) xs) (cond (p x) (Some k) None)) n)
  where
    by : (b : Bool) → position_from p (i + 1) (xs ++ x ∷ []) ≡ option_or (position_from p (i + 1) xs) (cond (p x) (Some (i + suc (length xs))) None)
        → cond b (Some i) (position_from p (i + 1) (xs ++ x ∷ [])) ≡ option_or (cond b (Some i) (position_from p (i + 1) xs)) (cond (p x) (Some (i + suc (length xs))) None)
    by true ih = refl
    by false ih = ih

position_any : (p : ℕ → Bool) (i : ℕ) (xs : List ℕ) → is_some (position_from p i xs) ≡ list_any p xs
position_any p i [] = refl
position_any p i (x ∷ xs) = by (p x) (position_any p (i + 1) xs) where
  by : (b : Bool) → is_some (position_from p (i + 1) xs) ≡ list_any p xs → is_some (cond b (Some i) (position_from p (i + 1) xs)) ≡ (b || list_any p xs)
  by true ih = refl
  by false ih = ih

-- a table for the atoms so far, and their number
pub record IsPlaced (atoms table : List ℕ) (next : ℕ) : Type 0 where
  pub placed : IsTable (distinct nat_eq atoms) table
  pub count : next ≡ length (distinct nat_eq atoms)
  pub few : next ≤ length atoms

none_is : (o : Option ℕ) → option_map_or suc o 0 ≡ 0 → o ≡ None
none_is None e = refl
none_is (Some i) e = cc

some_is : (o : Option ℕ) → (option_map_or suc o 0 == 0) ≡ false → is_some o ≡ true
some_is None e = cc
some_is (Some i) e = refl

pub one_placed : (atoms old new : List ℕ) (next a : ℕ) (fresh : Bool) → IsPlaced atoms old next → fresh ≡ (get_or old a 0 == 0)
    → ((k : ℕ) → get_or new k 0 ≡ cond (fresh && (k == a)) (next + 1) (get_or old k 0)) → IsPlaced (atoms ++ a ∷ []) new (cond fresh (next + 1) next)
one_placed atoms old new next a true is e each =
    let absent : position_from (λ b. b == a) 0 (distinct nat_eq atoms) ≡ None = none_is (position_from (λ b. b == a) 0 (distinct nat_eq atoms)) (sym (is.placed a) ∙ eqb-true (get_or old a 0) 0 (sym e)) in
    let unseen : list_any (λ y. y == a) atoms ≡ false = sym (any_distinct a atoms) ∙ sym (position_any (λ b. b == a) 0 (distinct nat_eq atoms)) ∙ ap is_some absent in
    let more : distinct nat_eq (atoms ++ a ∷ []) ≡ distinct nat_eq atoms ++ a ∷ [] = distinct_last atoms a ∙ ap (λ v. distinct nat_eq atoms ++ cond v [] (a ∷ [])) unseen in
    record {
      placed = λ k. each k ∙ at k (k == a) refl absent ∙ ap (λ l. option_map_or suc (position_from (λ b. b == k) 0 l) 0) (sym more);
      count = ap (λ n. n + 1) is.count ∙ sym (length-append (distinct nat_eq atoms) (a ∷ [])) ∙ ap length (sym more);
      few = omega (arith, is.few, length-append atoms (a ∷ []));
    }
  where
    at : (k : ℕ) (v : Bool) → (k == a) ≡ v → position_from (λ b. b == a) 0 (distinct nat_eq atoms) ≡ None
        → cond v (next + 1) (get_or old k 0) ≡ option_map_or suc (position_from (λ b. b == k) 0 (distinct nat_eq atoms ++ a ∷ [])) 0
    at k true h absent =
        let g : k ≡ a = eqb-true k a h in
        let z : 0 + length (distinct nat_eq atoms) ≡ length (distinct nat_eq atoms) = omega arith in
        let here : position_from (λ b. b == a) 0 (distinct nat_eq atoms ++ a ∷ []) ≡ Some (length (distinct nat_eq atoms)) =
        position_last (λ b. b == a) 0 (distinct nat_eq atoms) a ∙ rw (absent, eq-eqb a a refl) (ap Some z) in
        let n : next + 1 ≡ suc (length (distinct nat_eq atoms)) = omega (arith, is.count) in
        n ∙ sym (ap (λ o. option_map_or suc o 0) here) ∙ ap (λ j. option_map_or suc (position_from (λ b. b == j) 0 (distinct nat_eq atoms ++ a ∷ [])) 0) (sym g)
    at k false h absent =
        let other : (a == k) ≡ false = flip k a h in
        is.placed k ∙ ap (λ o. option_map_or suc o 0) (sym (position_last (λ b. b == k) 0 (distinct nat_eq atoms) a ∙ ap (λ v. option_or (position_from (λ b. b == k) 0 (distinct nat_eq atoms)) (cond v (Some (0 + length (distinct nat_eq atoms))) None)) other ∙ or_none (position_from (λ b. b == k) 0 (distinct nat_eq atoms))))
      where
        or_none : (o : Option ℕ) → option_or o None ≡ o
        or_none None = refl
        or_none (Some x) = refl

        flip : (k a : ℕ) → (k == a) ≡ false → (a == k) ≡ false
        flip k a h = grind (arith, nat_tests, h)
one_placed atoms old new next a false is e each =
    let seen : list_any (λ y. y == a) atoms ≡ true =
    sym (any_distinct a atoms) ∙ sym (position_any (λ b. b == a) 0 (distinct nat_eq atoms))
    ∙ some_is (position_from (λ b. b == a) 0 (distinct nat_eq atoms)) (ap (λ n. n == 0) (sym (is.placed a)) ∙ sym e) in
    let same : distinct nat_eq (atoms ++ a ∷ []) ≡ distinct nat_eq atoms = distinct_last atoms a ∙ ap (λ v. distinct nat_eq atoms ++ cond v [] (a ∷ [])) seen ∙ append-nil (distinct nat_eq atoms) in
    record {
      placed = λ k. each k ∙ is.placed k ∙ ap (λ l. option_map_or suc (position_from (λ b. b == k) 0 l) 0) (sym same);
      count = is.count ∙ ap length (sym same);
      few = omega (arith, is.few, length-append atoms (a ∷ []));
    }

not_zero : (i : ℕ) → (suc i == 0) ≡ false
not_zero i = grind (arith, nat_tests)

-- what the table gives is the given value of each atom
pub table_gives : (c : Cast) (g : Given) → IsTable (known_atoms c.protocol) g.places.items → g.values.now ≡ c.values → Gives g (given c)
table_gives c g table values a = by (position_from (λ b. b == a) 0 (known_atoms c.protocol)) (table a) where
  by : (o : Option ℕ) → get_or g.places.items a 0 ≡ option_map_or suc o 0 → unwrap_or (option_and_then (slice_get c.values) o) [] ≡ value_in g.places.items g.values.now a
  by None e = rw e refl
  by (Some i) e =
      let n : suc i - 1 ≡ i = omega arith in
      ap (λ l. unwrap_or (slice_get l i) []) (sym values)
      ∙ sym (ap (λ k. cond (k == 0) [] (unwrap_or (slice_get g.values.now (k - 1)) [])) e ∙ ap (λ v. cond v [] (unwrap_or (slice_get g.values.now (suc i - 1)) [])) (not_zero i)
      ∙ ap (λ k. unwrap_or (slice_get g.values.now k) []) n)

pub take_read : (xs : List ℕ) (i : ℕ) → i < length xs → take (i + 1) xs ≡ take i xs ++ get_or xs i 0 ∷ []
take_read [] i h = absurd (omega arith)
take_read (x ∷ xs) zero h = refl
take_read (x ∷ xs) (suc i) h = let n : suc i + 1 ≡ suc (i + 1) = omega arith in rw n (ap (λ l. x ∷ l) (take_read xs i (omega arith)))
