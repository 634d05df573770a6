-- Places of lists: what is there, what is taken, dropped and set.
use Rattle.std.proofs.Common.{◌≡◌, ◌+◌, List, [], ◌∷◌, ◌++◌, length, Some, refl, ℕ, zero, suc, arith, ◌⊎◌, inl, inr, drop, ap, take, ◌<◌, map, ◌∙◌, sym, get_or, true, false, replicate, set, Bool}
use Rattle.std.specs.Prelude.{slice_get, slice_set, ◌≢◌, ◌||◌, ◌==◌, slice_index_or}
use Rattle.std.specs.List.{range_with_len}
use Rattle.std.proofs.lemmas.List.{map-append, drop_more}
use Rattle.std.proofs.Math.Dec.{eqb-zero-suc, eqb-suc-zero, eqb-suc-suc}
use Rattle.std.proofs.lemmas.Bool.{eq-eqb}
use Rattle.std.proofs.lemmas.Option.{slice_get-get_or}
use Rattle.anb_lemmas.proofs.Bools.{or_true}

pub get_last : {A : Type 0} (xs : List A) (x : A) → slice_get (xs ++ x ∷ []) (length xs) ≡ Some x
get_last [] x = refl
get_last (y ∷ xs) x = get_last xs x

pub get_seam : {A : Type 0} (before rest : List A) (x : A) → slice_get (before ++ x ∷ rest) (length before) ≡ Some x
get_seam [] rest x = refl
get_seam (y ∷ before) rest x = get_seam before rest x

pub get_either : {A : Type 0} (xs ys : List A) (n : ℕ) (x : A) → slice_get (xs ++ ys) n ≡ Some x → (slice_get xs n ≡ Some x) ⊎ ((j : ℕ) × (n ≡ length xs + j) × (slice_get ys j ≡ Some x))
get_either [] ys n x e = inr (n, omega arith, e)
get_either (y ∷ xs) ys zero x e = inl e
get_either (y ∷ xs) ys (suc n) x e = elim (get_either xs ys n x e) [ inl h ↦ inl h | inr h ↦ inr (h.0, (let a = h.1 in omega arith), h.2) ]

pub drop_got : {A : Type 0} (xs rest : List A) (i : ℕ) (x : A) → drop i xs ≡ x ∷ rest → (slice_get xs i ≡ Some x) × (drop (i + 1) xs ≡ rest)
drop_got [] rest zero x e = cc
drop_got [] rest (suc i) x e = cc
drop_got (y ∷ xs) rest zero x e = (let s : y ≡ x = cc in ap Some s, cc)
drop_got (y ∷ xs) rest (suc i) x e = let m : suc i + 1 ≡ suc (i + 1) = omega arith in rw m (drop_got xs rest i x e)

pub take_got : {A : Type 0} (xs : List A) (i : ℕ) (x : A) → slice_get xs i ≡ Some x → take (i + 1) xs ≡ take i xs ++ x ∷ []
take_got [] i x e = cc
take_got (y ∷ xs) zero x e = let s : y ≡ x = cc in ap (λ z. z ∷ []) s
take_got (y ∷ xs) (suc i) x e = let m : suc i + 1 ≡ suc (i + 1) = omega arith in rw m (ap (λ l. y ∷ l) (take_got xs i x e))

pub drop_at_got : {A : Type 0} (xs : List A) (i : ℕ) (x : A) → slice_get xs i ≡ Some x → drop i xs ≡ x ∷ drop (i + 1) xs
drop_at_got [] i x e = cc
drop_at_got (y ∷ xs) zero x e = let s : y ≡ x = cc in ap (λ z. z ∷ xs) s
drop_at_got (y ∷ xs) (suc i) x e = let m : suc i + 1 ≡ suc (i + 1) = omega arith in rw m (drop_at_got xs i x e)

pub take_suc_got : {A : Type 0} (xs : List A) (n : ℕ) (x : A) → slice_get xs n ≡ Some x → take (suc n) xs ≡ take n xs ++ x ∷ []
take_suc_got [] n x e = cc
take_suc_got (y ∷ ys) zero x e = let s : y ≡ x = cc in ap (λ z. z ∷ []) s
take_suc_got (y ∷ ys) (suc n) x e = ap (λ l. y ∷ l) (take_suc_got ys n x e)

pub got_within : {A : Type 0} (xs : List A) (i : ℕ) (x : A) → slice_get xs i ≡ Some x → i < length xs
got_within [] i x e = cc
got_within (y ∷ xs) zero x e = omega arith
got_within (y ∷ xs) (suc i) x e = omega (arith, got_within xs i x e)

pub set_gets : {A : Type 0} (xs : List A) (i : ℕ) (v : A) → i < length xs → slice_get (slice_set xs i v) i ≡ Some v
set_gets [] i v h = absurd (omega arith)
set_gets (x ∷ xs) zero v h = refl
set_gets (x ∷ xs) (suc i) v h = set_gets xs i v (omega arith)

pub set_apart : {A : Type 0} (xs : List A) (i j : ℕ) (v : A) → j ≢ i → slice_get (slice_set xs i v) j ≡ slice_get xs j
set_apart [] i j v h = refl
set_apart (x ∷ xs) zero zero v h = absurd (h refl)
set_apart (x ∷ xs) zero (suc j) v h = refl
set_apart (x ∷ xs) (suc i) zero v h = refl
set_apart (x ∷ xs) (suc i) (suc j) v h = set_apart xs i j v (λ e. h (ap suc e))

pub set_long : {A : Type 0} (xs : List A) (i : ℕ) (v : A) → length (slice_set xs i v) ≡ length xs
set_long [] i v = refl
set_long (x ∷ xs) zero v = refl
set_long (x ∷ xs) (suc i) v = ap suc (set_long xs i v)

pub get_front : {A : Type 0} (xs ys : List A) (i : ℕ) → i < length xs → slice_get (xs ++ ys) i ≡ slice_get xs i
get_front [] ys i h = absurd (omega arith)
get_front (x ∷ xs) ys zero h = refl
get_front (x ∷ xs) ys (suc i) h = get_front xs ys i (omega arith)

pub map_same : {A B : Type 0} (f g : A → B) (xs : List A) → ((x : A) → f x ≡ g x) → map f xs ≡ map g xs
map_same f g [] h = refl
map_same f g (x ∷ xs) h = cc (h x, map_same f g xs h)

pub lists_same : {A : Type 0} (xs ys : List A) → length xs ≡ length ys → ((i : ℕ) (x : A) → slice_get xs i ≡ Some x → slice_get ys i ≡ Some x) → xs ≡ ys
lists_same [] [] e h = refl
lists_same [] (y ∷ ys) e h = absurd (omega (arith, e))
lists_same (x ∷ xs) [] e h = absurd (omega (arith, e))
lists_same (x ∷ xs) (y ∷ ys) e h =
    let f : Some y ≡ Some x = h 0 x refl in
    let s : x ≡ y = cc in
    let r = lists_same xs ys (omega (arith, e)) (λ i z k. h (suc i) z k) in cc

pub both_empty : {A : Type 0} (xs ys : List A) → xs ++ ys ≡ [] → (xs ≡ []) × (ys ≡ [])
both_empty [] ys e = (refl, e)
both_empty (x ∷ xs) ys e = cc

pub range_last : (k n : ℕ) → range_with_len k (suc n) ≡ range_with_len k n ++ (k + n) ∷ []
range_last k zero = let e : k ≡ k + 0 = omega arith in ap (λ x. x ∷ []) e
range_last k (suc n) = let e : k + 1 + n ≡ k + suc n = omega arith in ap (λ l. k ∷ l) (range_last (k + 1) n ∙ ap (λ x. range_with_len (k + 1) n ++ x ∷ []) e)

pub ranged_next : {A : Type 0} (f : ℕ → A) (n : ℕ) (old new : List A) (y : A) → old ≡ map f (range_with_len 0 n) → new ≡ old ++ y ∷ [] → y ≡ f n → new ≡ map f (range_with_len 0 (n + 1))
ranged_next f n old new y before pushed is =
    let e : 0 + n ≡ n = omega arith in
    let m : n + 1 ≡ suc n = omega arith in
    pushed ∙ ap (λ l. l ++ y ∷ []) before ∙ ap (λ z. map f (range_with_len 0 n) ++ z ∷ []) (is ∙ ap f (sym e)) ∙ sym (map-append f (range_with_len 0 n) ((0 + n) ∷ []))
    ∙ ap (map f) (sym (range_last 0 n)) ∙ ap (λ k. map f (range_with_len 0 k)) (sym m)

pub drop_next : {A : Type 0} (xs : List A) (i : ℕ) (x : A) → i < length xs → x ≡ get_or xs i x → drop i xs ≡ x ∷ drop (i + 1) xs
drop_next xs i x within is = drop_more xs i x within ∙ ap (λ y. y ∷ drop (i + 1) xs) (sym is)

pub map_drop_next : {X Y : Type 0} (g : X → Y) (xs : List X) (i : ℕ) (x : X) → i < length xs → x ≡ get_or xs i x → map g (drop i xs) ≡ g x ∷ map g (drop (i + 1) xs)
map_drop_next g xs i x h e = ap (map g) (drop_more xs i x h ∙ ap (λ y. y ∷ drop (i + 1) xs) (sym e))

pub unflagged : (n a : ℕ) → a < n → get_or (replicate n false) a true ≡ false
unflagged zero a h = absurd (omega arith)
unflagged (suc n) zero h = refl
unflagged (suc n) (suc a) h = unflagged n a (omega arith)

pub flag_set : (flags : List Bool) (b a : ℕ) → get_or (set flags b true) a true ≡ ((b == a) || get_or flags a true)
flag_set [] b a = sym (or_true (b == a))
flag_set (f ∷ flags) zero zero = ap (λ v. v || f) (sym (eq-eqb 0 0 refl))
flag_set (f ∷ flags) zero (suc a) = ap (λ v. v || get_or flags a true) (sym (eqb-zero-suc a))
flag_set (f ∷ flags) (suc b) zero = ap (λ v. v || f) (sym (eqb-suc-zero b))
flag_set (f ∷ flags) (suc b) (suc a) = flag_set flags b a ∙ ap (λ v. v || get_or flags a true) (sym (eqb-suc-suc b a))

pub item_at : {X : Type 0} (xs : List X) (i : ℕ) (x : X) → i < length xs → x ≡ slice_index_or xs i x → slice_get xs i ≡ Some x
item_at xs i x within is = slice_get-get_or xs i x within ∙ ap Some (sym is)
