-- What a closure keeps.
use Rattle.std.proofs.Common.{◌≡◌, ℕ, zero, suc, ◌+◌, ◌<◌, ◌≤◌, List, [], ◌∷◌, ◌++◌, length, map, take, drop, get_or, Bool, true, false, cond, IsTrue, Some, refl, sym, ap, ◌∙◌, subst, arith, inl, inr, ◌⊎◌, ⊎_elim}
use Rattle.std.specs.Prelude.{slice_get}
use Rattle.std.specs.List.{AllByRecursion}
use Rattle.std.proofs.Math.Dec.{ltb}
use Rattle.std.proofs.Math.ListN.{set}
use Rattle.std.proofs.Math.Seq.{take-append_seam}
use Rattle.std.proofs.lemmas.Bool.{ltb-false}
use Rattle.anb_lemmas.proofs.Lists.{got_within}
use Rattle.anb_term.specs.declared.term.Term.{Term}
use Rattle.anb_close.specs.declared.entry.Entry.{Entry}
use Rattle.anb_close.specs.declared.entry.Origin.TheVariants.{Label}
use Rattle.anb_close.specs.Entries.{rows, labels_of, is_label, is_double, IsPart, IsRest, IsKept, GoesBack, HasGrown, HasAdded, cut_first, cut, IsLastLabel}
use Rattle.anb_term.specs.Tree.{nodes}
use Rattle.anb_close.proofs.Growing.{cut_past, cut_zero, nodes_less}
use Rattle.anb_term.proofs.Lists.{take-take}

set_suc : {A : Type 0} (g : A → A) (xs : List A) (i : ℕ) (v d : A) → i < length xs → v ≡ g (get_or (map g (take i xs) ++ drop i xs) i d) → set (map g (take i xs) ++ drop i xs) i v ≡ map g (take (suc i) xs) ++ drop (suc i) xs
set_suc g [] i v d h e = absurd (omega arith)
set_suc g (x ∷ xs) zero v d h e = ap (λ y. y ∷ xs) e
set_suc g (x ∷ xs) (suc i) v d h e = ap (λ l. g x ∷ l) (set_suc g xs i v d (omega arith) e)

pub set_next : {A : Type 0} (g : A → A) (xs ys : List A) (i : ℕ) (v d : A) → i < length xs → ys ≡ map g (take i xs) ++ drop i xs → v ≡ g (get_or ys i d) → set ys i v ≡ map g (take (i + 1) xs) ++ drop (i + 1) xs
set_next g xs ys i v d h is e =
    let n : i + 1 ≡ suc i = omega arith in
    rw (n, is) (set_suc g xs i v d h (rw is at e))

first_cut : (c : Bool) (b n f : ℕ) → b ≤ n → ltb f n ≡ c → cut_first b (cond c f 0) ≡ cut_first b f
first_cut true b n f h e = refl
first_cut false b n f h e = cut_zero b ∙ sym (cut_past b f (omega (arith, ltb-false f n e)))

cut_cut : (b n c m : ℕ) (fs : List ℕ) → b ≤ n → c ≤ m → map (cut_first b) (take c (map (cut_first n) (take m fs))) ≡ map (cut_first b) (take c fs)
cut_cut b n zero m fs h l = refl
cut_cut b n (suc c) zero fs h l = absurd (omega arith)
cut_cut b n (suc c) (suc m) [] h l = refl
cut_cut b n (suc c) (suc m) (f ∷ fs) h l = let k : c ≤ m = omega arith in cc (first_cut (ltb f n) b n f h refl, cut_cut b n c m fs h k)

pub cut_again : (b n : ℕ) (fs : List ℕ) → b ≤ n → cut b (cut n fs) ≡ cut b fs
cut_again b n fs h = cut_cut b n b n fs h h

pub parted : (xs ys : List Entry) (y : Entry) (b : ℕ) (e : Entry) → slice_get (xs ++ y ∷ ys) b ≡ Some e → (slice_get xs b ≡ Some e) ⊎ ((b ≡ length xs) ⊎ ((k : ℕ) × (slice_get ys k ≡ Some e)))
parted [] ys y zero e at = inr (inl refl)
parted [] ys y (suc b) e at = inr (inr (b, at))
parted (x ∷ xs) ys y zero e at = inl at
parted (x ∷ xs) ys y (suc b) e at = ⊎_elim (λ h. inl h) (λ h. inr (⊎_elim (λ z. inl (ap suc z)) (λ k. inr k) h)) (parted xs ys y b e at)

part_at : (ys : List Entry) (k : ℕ) (e : Entry) → AllByRecursion IsPart ys → slice_get ys k ≡ Some e → IsTrue (is_label e.origin) → ⊥
part_at [] k e h at l = cc
part_at (y ∷ ys) zero e h at l = let s : y ≡ e = cc in let f : is_label e.origin ≡ false = subst IsPart s h.0 in cc
part_at (y ∷ ys) (suc k) e h at l = part_at ys k e h.1 at l

rest_as : (es es' : List Entry) (fs fs' : List ℕ) → es ≡ es' → fs ≡ fs' → IsRest es fs → IsRest es' fs'
rest_as es es' fs fs' e f r = subst (λ l. IsRest l fs') e (subst (IsRest es) f r)

pub kept_next : (es es' : List Entry) (ds ds' : List Bool) (fs fs' : List ℕ) (t : Term) → IsKept es ds fs → nodes (labels_of es') < 4294967295 → GoesBack es fs es' fs' → HasGrown es t es' fs' → ds' ≡ map is_double (rows es') → IsKept es' ds' fs'
kept_next es es' ds ds' fs fs' t kept few back grown is = record {
  few = few;
  doubles = is;
  rest = grown.rest;
  before = λ b e at l.
      ⊎_elim
      (λ old.
      let h = got_within es b e old in
      let le : b ≤ length es = omega arith in
      rest_as (take b es) (take b es') (cut b fs) (cut b fs')
      (ap (take b) (sym back.entries) ∙ take-take es' b (length es) le)
      (ap (cut b) (sym back.firsts) ∙ cut_again b (length es) fs' le)
      (kept.before b e old l))
      (λ h. ⊎_elim
      (λ z. rest_as es (take b es') fs (cut b fs') (sym back.entries ∙ ap (λ n. take n es') (sym z)) (sym back.firsts ∙ ap (λ n. cut n fs') (sym z)) kept.rest)
      (λ (k, p). absurd (part_at grown.parts k e grown.are p l))
      h)
      (parted es grown.parts _ b e (rw grown.is at at));
}

taken_at : (xs : List Entry) (n i : ℕ) (x : Entry) → slice_get (take n xs) i ≡ Some x → (slice_get xs i ≡ Some x) × (i ≤ n)
taken_at xs zero i x e = cc
taken_at [] (suc n) i x e = cc
taken_at (y ∷ ys) (suc n) zero x e = (e, omega arith)
taken_at (y ∷ ys) (suc n) (suc i) x e = let h = taken_at ys n i x e in (h.0, omega (arith, h.1))

pub kept_back : (es es' : List Entry) (ds ds' : List Bool) (fs fs' : List ℕ) (at : ℕ) → IsKept es ds fs → IsLastLabel es at → es' ≡ take at es → fs' ≡ cut at fs → ds' ≡ map is_double (rows es') → IsKept es' ds' fs'
kept_back es es' ds ds' fs fs' at kept last is_es is_fs is_ds = record {
  few = omega (arith, kept.few, nodes_less es at, ap (λ l. nodes (labels_of l)) is_es);
  doubles = is_ds;
  rest = rest_as (take at es) es' (cut at fs) fs' (sym is_es) (sym is_fs) (kept.before at last.entry last.here last.label);
  before = λ b e here l.
      let h = taken_at es at b e (rw is_es at here) in
      rest_as (take b es) (take b es') (cut b fs) (cut b fs') (sym (ap (take b) is_es ∙ take-take es b at h.1)) (sym (ap (cut b) is_fs ∙ cut_again b at fs h.1)) (kept.before b e h.0 l);
}

drop_has : (P : Entry → Type 0) (xs ys : List Entry) (y : Entry) (at : ℕ) → at < length xs → AllByRecursion P (drop (suc at) (xs ++ y ∷ ys)) → P y
drop_has P [] ys y at h a = absurd (omega arith)
drop_has P (x ∷ []) ys y zero h a = a.0
drop_has P (x ∷ (z ∷ xs)) ys y zero h a = drop_has P (z ∷ xs) ys y zero (omega arith) a.1
drop_has P (x ∷ xs) ys y (suc at) h a = drop_has P xs ys y at (omega arith) a

-- the last label is the one that was added
pub last_is : (es es' : List Entry) (t : Term) (at : ℕ) → HasAdded es t es' → IsLastLabel es' at → at ≡ length es
last_is es es' t at added last =
    let y : Entry = record { origin = Label (length (labels_of es)); term = t } in
    ⊎_elim
    (λ old.
    let n : at + 1 ≡ suc at = omega arith in
    let a = rw (n, added.is) at last.parts in
    absurd (let no : ⊥ = (let z = drop_has IsPart es added.parts y at (got_within es at last.entry old) a in cc) in no))
    (λ h. ⊎_elim (λ z. z) (λ (k, p). absurd (part_at added.parts k last.entry added.are p last.label)) h)
    (parted es added.parts y at last.entry (rw added.is at last.here))

pub taken_back : (es es' : List Entry) (t : Term) (at : ℕ) → HasAdded es t es' → IsLastLabel es' at → take at es' ≡ es
taken_back es es' t at added last =
    ap (take at) added.is ∙ ap (λ n. take n (es ++ record { origin = Label (length (labels_of es)); term = t } ∷ added.parts)) (last_is es es' t at added last) ∙ take-append_seam es (record { origin = Label (length (labels_of es)); term = t } ∷ added.parts)
