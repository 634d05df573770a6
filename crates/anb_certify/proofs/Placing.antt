-- Lists that grow at their end.
use Rattle.std.proofs.Common.{◌≡◌, ℕ, zero, suc, ◌+◌, ◌<◌, List, [], ◌∷◌, ◌++◌, length, map, take, get_or, true, Option, Some, None, refl, sym, ap, ◌∙◌, subst, ⊎_elim, arith}
use Rattle.std.specs.Prelude.{slice_get}
use Rattle.std.specs.List.{AllByRecursion}
use Rattle.std.proofs.lemmas.List.{take_more}
use Rattle.anb_lemmas.proofs.Numbers.{below_or_it}
use Rattle.anb_term.specs.Lawful.{picked}
use Rattle.anb_term.proofs.Lists.{map-append, slice_get-at}
use Rattle.anb_certify.specs.Classes.{in_class}
use Rattle.anb_certify.specs.Links.{HasLinked, IsLinkOf}
use Rattle.anb_certify.specs.declared.links.Pair.{Pair}
use Rattle.anb_certify.proofs.Classing.{in_one}

pub picked_last : {A : Type 0} (xs : List A) (ns : List ℕ) (n : ℕ) (x : A) → slice_get xs n ≡ Some x → picked xs (ns ++ n ∷ []) ≡ picked xs ns ++ x ∷ []
picked_last xs [] n x e = rw e refl
picked_last {A} xs (k ∷ ns) n x e = go (slice_get xs k) refl (picked_last xs ns n x e) where
  go : (o : Option A) → slice_get xs k ≡ o → picked xs (ns ++ n ∷ []) ≡ picked xs ns ++ x ∷ [] → picked xs ((k ∷ ns) ++ n ∷ []) ≡ picked xs (k ∷ ns) ++ x ∷ []
  go None f h = rw f h
  go (Some y) f h = rw f (ap (λ l. y ∷ l) h)

-- one place more
pub picked_next : {A : Type 0} (xs : List A) (at : List ℕ) (i : ℕ) (d : ℕ) (x y : A) → i < length at → get_or at i d < length xs → x ≡ get_or xs (get_or at i d) y → picked xs (take (i + 1) at) ≡ picked xs (take i at) ++ x ∷ []
picked_next {A} xs at i d x y l h e =
    ap (picked xs) (take_more at i d l) ∙ picked_last xs (take i at) (get_or at i d) x (slice_get-at xs (get_or at i d) x h (e ∙ get_any xs (get_or at i d) y x h)) where
      get_any : (l : List A) (k : ℕ) (a b : A) → k < length l → get_or l k a ≡ get_or l k b
      get_any [] k a b h = absurd (omega (arith, h))
      get_any (z ∷ l) zero a b h = refl
      get_any (z ∷ l) (suc k) a b h = get_any l k a b (omega (arith, h))

pub map_next : {A B : Type 0} (f : A → B) (xs : List A) (i : ℕ) (d : A) → i < length xs → map f (take (i + 1) xs) ≡ map f (take i xs) ++ f (get_or xs i d) ∷ []
map_next f xs i d l = ap (map f) (take_more xs i d l) ∙ map-append f (take i xs) (get_or xs i d ∷ [])

-- ---- links

wider_links : (a b j : ℕ) (more : List Pair) → AllByRecursion (IsLinkOf a b j) more → AllByRecursion (IsLinkOf a b (j + 1)) more
wider_links a b j [] h = tt
wider_links a b j (m ∷ more) h = ((h.0.0, omega (arith, h.0.1), h.0.2, h.0.3), wider_links a b j more h.1)

pub one_skipped : (cs : List ℕ) (a b j : ℕ) (old new : List Pair) (d : ℕ) → HasLinked cs a b j old new → a + j < length cs → b + j < length cs → get_or cs (a + j) d ≡ get_or cs (b + j) d → HasLinked cs a b (j + 1) old new
one_skipped cs a b j old new d h la lb e = record {
  more = h.more;
  are = h.are;
  of = wider_links a b j h.more h.of;
  linked = λ i l none. ⊎_elim (λ less. h.linked i less none) (λ s. subst (λ k. in_class cs (a + k) (b + k) ≡ true) s here) (below_or_it i j l);
} where
  here : in_class cs (a + j) (b + j) ≡ true
  here = in_one cs (a + j) (b + j) (get_or cs (a + j) d) (at cs (a + j) d la) (at cs (b + j) d lb ∙ ap Some (sym e)) where
    at : (l : List ℕ) (k d : ℕ) → k < length l → slice_get l k ≡ Some (get_or l k d)
    at [] k d h = absurd (omega (arith, h))
    at (x ∷ l) zero d h = refl
    at (x ∷ l) (suc k) d h = at l k d (omega (arith, h))

pub one_pushed : (cs : List ℕ) (a b j : ℕ) (old new new2 : List Pair) (m : Pair) → HasLinked cs a b j old new → new2 ≡ new ++ m ∷ [] → m.0 ≡ a + j → m.1 ≡ b + j → HasLinked cs a b (j + 1) old new2
one_pushed cs a b j old new new2 m h e x y = record {
  more = h.more ++ m ∷ [];
  are = e ∙ ap (λ l. l ++ m ∷ []) h.are ∙ assoc old h.more;
  of = last h.more (wider_links a b j h.more h.of);
  linked = λ i l none. let f : new ++ m ∷ [] ≡ [] = sym e ∙ none in absurd (not_nil new f);
} where
  assoc : (l k : List Pair) → (l ++ k) ++ m ∷ [] ≡ l ++ (k ++ m ∷ [])
  assoc [] k = refl
  assoc (z ∷ l) k = ap (λ q. z ∷ q) (assoc l k)

  last : (l : List Pair) → AllByRecursion (IsLinkOf a b (j + 1)) l → AllByRecursion (IsLinkOf a b (j + 1)) (l ++ m ∷ [])
  last [] h = ((j, omega arith, x, y), tt)
  last (z ∷ l) h = (h.0, last l h.1)

  not_nil : (l : List Pair) → l ++ m ∷ [] ≡ [] → ⊥
  not_nil [] f = cc
  not_nil (z ∷ l) f = cc
