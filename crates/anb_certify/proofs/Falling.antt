-- Classes whose names fall while they are tied.
use Rattle.std.proofs.Common.{◌≡◌, ℕ, zero, suc, ◌+◌, ◌<◌, List, [], ◌∷◌, ◌++◌, length, set, get_or, Bool, Some, refl, sym, ap, ◌∙◌, subst, inl, inr, ◌⊎◌, ⊎_elim, arith}
use Rattle.std.specs.Prelude.{slice_get}
use Rattle.std.proofs.lemmas.List.Sums.{sum_by-set}
use Rattle.anb_lemmas.proofs.Numbers.{below_or_it, same_or_not}
use Rattle.anb_lemmas.proofs.Each.{each_in_both}
use Rattle.anb_lemmas.proofs.Lists.{got_within}
use Rattle.anb_term.proofs.Lists.{set-at, set-other, set-same, slice_get-there}
use Rattle.anb_plays.specs.Codes.{Work}
use Rattle.anb_certify.specs.Classes.{AreNamed}
use Rattle.anb_certify.specs.Tied.{Tied}
use Rattle.anb_certify.specs.declared.links.Pair.{Pair}
use Rattle.anb_certify.specs.Falling.{AreApart, AreFlat, AreLow, LinkApart, weight}
use Rattle.anb_certify.specs.Numbered.{AreBegun}
use Rattle.anb_certify.proofs.Grouping.{get_here}

-- one link more
pub apart_next : (cs : List ℕ) (links links2 : List Pair) (m : Pair) (d : ℕ) → links2 ≡ links ++ m ∷ [] → m.0 < length cs → m.1 < length cs → (get_or cs m.0 d ≡ get_or cs m.1 d → ⊥) → LinkApart cs links → LinkApart cs links2
apart_next cs links links2 m d is la lb apart h =
    let own : AreApart cs m.0 m.1 = λ e. apart (let f : Some (get_or cs m.0 d) ≡ Some (get_or cs m.1 d) = sym (get_here cs m.0 d la) ∙ e ∙ get_here cs m.1 d lb in cc) in
    subst (LinkApart cs) (sym is) (each_in_both (λ l. AreApart cs l.0 l.1) links (m ∷ []) h (own, tt))

-- ---- the start

pub begun_low : (firsts : List ℕ) (flags : List Bool) (names : List ℕ) → AreBegun firsts flags names → AreLow firsts → AreLow names
begun_low firsts flags names h low i c e = ⊎_elim (λ a. low i c a.1) (λ s. omega (arith, s)) (h.each i c e)

pub begun_flat : (firsts : List ℕ) (flags : List Bool) (names : List ℕ) → length names ≡ length firsts → AreBegun firsts flags names → AreFlat firsts → AreFlat names
begun_flat firsts flags names long h flat i c e = ⊎_elim
    (λ a. let own = flat i c a.1 in let x = slice_get-there names c (omega (arith, got_within firsts c c own, long)) in
    x.1 ∙ ap Some (⊎_elim (λ b. (let f : Some c ≡ Some x.0 = sym own ∙ b.1 in let g : c ≡ x.0 = cc in sym g)) (λ s. s) (h.each c x.0 x.1)))
    (λ s. subst (λ z. slice_get names z ≡ Some c) (sym s) e) (h.each i c e)

-- ---- one name more falls

pub set_low : (cs : List ℕ) (i y : ℕ) → AreLow cs → y < suc i → AreLow (set cs i y)
set_low cs i y low l k c e = ⊎_elim (λ a. omega (arith, a.0, a.1, l)) (λ b. low k c b) (set-at cs i k y c e)

pub weight_set : (cs : List ℕ) (i y x : ℕ) → slice_get cs i ≡ Some x → weight (set cs i y) + x ≡ weight cs + y
weight_set cs i y x e =
    let l = got_within cs i x e in
    let f : Some (get_or cs i 0) ≡ Some x = sym (get_here cs i 0 l) ∙ e in
    let g : get_or cs i 0 ≡ x = cc in
    let s = sum_by-set (λ c. c) cs i y 0 l in
    subst (λ z. weight (set cs i y) + z ≡ weight cs + y) g s

-- a root is renamed by an earlier one
pub falls : (cs : List ℕ) (i y : ℕ) → slice_get cs i ≡ Some i → y < i → weight (set cs i y) < weight cs
falls cs i y e l = omega (arith, weight_set cs i y i e, l)

pub falls_or : (cs : List ℕ) (i y : ℕ) → slice_get cs i ≡ Some i → y < suc i → weight (set cs i y) < suc (weight cs)
falls_or cs i y e l = omega (arith, weight_set cs i y i e, l)

-- ---- names that are followed back

-- those below are flat
abbrev pub AreFlatBelow : List ℕ → ℕ → Type 0
AreFlatBelow cs n = (i c : ℕ) → i < n → slice_get cs i ≡ Some c → slice_get cs c ≡ Some c

below_or : (c i : ℕ) → c < suc i → (c < i) ⊎ (c ≡ i)
below_or zero zero l = inr refl
below_or zero (suc i) l = inl (omega arith)
below_or (suc c) zero l = absurd (omega (arith, l))
below_or (suc c) (suc i) l = ⊎_elim (λ a. inl (omega (arith, a))) (λ b. inr (ap suc b)) (below_or c i (omega (arith, l)))

module _ (cs : List ℕ) (i c d : ℕ) (here : slice_get cs i ≡ Some c) (then : slice_get cs c ≡ Some d) (low : AreLow cs) where
  pub follow_low : AreLow (set cs i d)
  follow_low = set_low cs i d low (omega (arith, low i c here, low c d then))

  pub follow_less : weight (set cs i d) < suc (weight cs)
  follow_less = omega (arith, weight_set cs i d c here, low c d then)

  -- what names it is named by itself
  own_root : AreFlatBelow cs i → slice_get cs d ≡ Some d
  own_root flat = ⊎_elim (λ l. flat c d l then) (λ s. (let e : Some c ≡ Some d = sym here ∙ ap (slice_get cs) (sym s) ∙ then in let g : c ≡ d = cc in subst (λ z. slice_get cs z ≡ Some z) g (subst (λ z. slice_get cs z ≡ Some c) (sym s) here))) (below_or c i (low i c here))

  -- a name that is its own stays so
  stays : (x : ℕ) → slice_get cs x ≡ Some x → slice_get (set cs i d) x ≡ Some x
  stays x own = ⊎_elim (λ s. (let e : Some c ≡ Some x = sym here ∙ ap (slice_get cs) s ∙ own in let g : c ≡ x = cc in
      let f : Some d ≡ Some x = sym then ∙ ap (slice_get cs) g ∙ own in let q : d ≡ x = cc in
      subst (λ z. slice_get (set cs i d) z ≡ Some x) s (set-same cs i d c here ∙ ap Some q)))
      (λ n. set-other cs i x d x own n) (same_or_not i x)

  pub follow_flat : AreFlatBelow cs i → AreFlatBelow (set cs i d) (i + 1)
  follow_flat flat k x l e = ⊎_elim (λ a. by_root x (sym a.1)) (λ b. ⊎_elim (λ less. stays x (flat k x less b))
      (λ s. by_root x (let f : Some d ≡ Some x = sym (set-same cs i d c here) ∙ ap (slice_get (set cs i d)) s ∙ e in cc)) (below_or_it k i l)) (set-at cs i k d x e) where
        by_root : (x : ℕ) → d ≡ x → slice_get (set cs i d) x ≡ Some x
        by_root x s = subst (λ z. slice_get (set cs i d) z ≡ Some z) s (stays d (own_root flat))

-- ---- what is tied

pub named_set : (did : List (ℕ × Work)) (cs : List ℕ) (i y : ℕ) → AreNamed did cs → Tied did i y → AreNamed did (set cs i y)
named_set did cs i y h t k c e = ⊎_elim (λ a. subst (λ z. Tied did z c) (sym a.0) (subst (Tied did i) (sym a.1) t)) (λ b. h k c b) (set-at cs i k y c e)

pub roots_tied : (did : List (ℕ × Work)) (a b x y : ℕ) → Tied did a b → Tied did a x → Tied did b y → Tied did y x
roots_tied did a b x y t u v = λ Q s. s.joined y b x (s.turned b y (v Q s)) (s.joined b a x (s.turned a b (t Q s)) (u Q s))

pub back_tied : (did : List (ℕ × Work)) (a b : ℕ) → Tied did a b → Tied did b a
back_tied did a b t = λ Q s. s.turned a b (t Q s)

pub on_tied : (did : List (ℕ × Work)) (a b c : ℕ) → Tied did a b → Tied did b c → Tied did a c
on_tied did a b c t u = λ Q s. s.joined a b c (t Q s) (u Q s)
