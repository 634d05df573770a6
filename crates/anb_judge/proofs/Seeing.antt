-- Labels that others see: each has a recipe over the others' labels, with its term and its value.
use Rattle.std.proofs.Common.{◌≡◌, ℕ, zero, suc, List, [], ◌∷◌, ◌++◌, length, Some, refl, sym, ap, ◌∙◌, subst, arith, append_assoc, length-append}
use Rattle.std.specs.Prelude.{slice_get, unwrap_or}
use Rattle.anb_term.specs.Tree.{Tree}
use Rattle.anb_term.specs.Value.{Meaning, RecipeTree, label, value}
use Rattle.anb_term.specs.FreeAlgebra.{terms_over}
use Rattle.anb_term.specs.Agree.{Agree}
use Rattle.anb_term.proofs.Frames.{value_more}
use Rattle.anb_judge.proofs.Putting.{put, AreAt, value_put, same_put}

module _ {A : Type 0} (m : Meaning A) where
  -- over labels with terms F and values vs, of labels with terms G and values ws
  abbrev pub Seen : (F : List Tree) (vs : List A) (G : List Tree) (ws : List A) → Type 0
  Seen F vs [] [] = Unit {0}
  Seen F vs [] (x ∷ ws) = ⊥
  Seen F vs (t ∷ G) [] = ⊥
  Seen F vs (t ∷ G) (x ∷ ws) = (r : RecipeTree) × (value (terms_over m.has) F r ≡ Some t) × (value m vs r ≡ Some x) × Seen F vs G ws

  -- their recipes
  abbrev recipes : (F : List Tree) (vs : List A) (G : List Tree) (ws : List A) → Seen F vs G ws → List RecipeTree
  recipes F vs [] [] h = []
  recipes F vs [] (x ∷ ws) h = absurd h
  recipes F vs (t ∷ G) [] h = absurd h
  recipes F vs (t ∷ G) (x ∷ ws) h = h.0 ∷ recipes F vs G ws h.3

  terms_at : (F : List Tree) (vs : List A) (G : List Tree) (ws : List A) (h : Seen F vs G ws) (n : ℕ) (t : Tree) (or : RecipeTree) → slice_get G n ≡ Some t
      → value (terms_over m.has) F (unwrap_or (slice_get (recipes F vs G ws h) n) or) ≡ Some t
  terms_at F vs [] [] h n t or e = cc
  terms_at F vs [] (x ∷ ws) h n t or e = absurd h
  terms_at F vs (u ∷ G) [] h n t or e = absurd h
  terms_at F vs (u ∷ G) (x ∷ ws) h zero t or e = h.1 ∙ e
  terms_at F vs (u ∷ G) (x ∷ ws) h (suc n) t or e = terms_at F vs G ws h.3 n t or e

  values_at : (F : List Tree) (vs : List A) (G : List Tree) (ws : List A) (h : Seen F vs G ws) (n : ℕ) (x : A) (or : RecipeTree) → slice_get ws n ≡ Some x
      → value m vs (unwrap_or (slice_get (recipes F vs G ws h) n) or) ≡ Some x
  values_at F vs [] [] h n y or e = cc
  values_at F vs [] (x ∷ ws) h n y or e = absurd h
  values_at F vs (u ∷ G) [] h n y or e = absurd h
  values_at F vs (u ∷ G) (x ∷ ws) h zero y or e = h.2 ∙ e
  values_at F vs (u ∷ G) (x ∷ ws) h (suc n) y or e = values_at F vs G ws h.3 n y or e

  there : (F : List Tree) (vs : List A) (G : List Tree) (ws : List A) → Seen F vs G ws → (n : ℕ) (t : Tree) → slice_get G n ≡ Some t → (x : A) × (slice_get ws n ≡ Some x)
  there F vs [] [] h n t e = cc
  there F vs [] (x ∷ ws) h n t e = absurd h
  there F vs (u ∷ G) [] h n t e = absurd h
  there F vs (u ∷ G) (x ∷ ws) h zero t e = (x, refl)
  there F vs (u ∷ G) (x ∷ ws) h (suc n) t e = there F vs G ws h.3 n t e

  seen_long : (F : List Tree) (vs : List A) (G : List Tree) (ws : List A) → Seen F vs G ws → length ws ≡ length G
  seen_long F vs [] [] h = refl
  seen_long F vs [] (x ∷ ws) h = absurd h
  seen_long F vs (t ∷ G) [] h = absurd h
  seen_long F vs (t ∷ G) (x ∷ ws) h = ap suc (seen_long F vs G ws h.3)

  module _ (F : List Tree) (vs : List A) (G : List Tree) (ws : List A) (seen : Seen F vs G ws) where
    -- a recipe over the seen labels, over the others
    abbrev pub over_others : RecipeTree → RecipeTree
    over_others r = put (recipes F vs G ws seen) r

    pub term_over : (r : RecipeTree) (t : Tree) → value (terms_over m.has) G r ≡ Some t → value (terms_over m.has) F (over_others r) ≡ Some t
    term_over r t e = value_put (terms_over m.has) F G (recipes F vs G ws seen) (λ n u h. terms_at F vs G ws seen n u (label n) h) r t e

    pub value_over : (r : RecipeTree) (t : Tree) → value (terms_over m.has) G r ≡ Some t → value m vs (over_others r) ≡ value m ws r
    value_over r t e = same_put (terms_over m.has) m G vs ws (recipes F vs G ws seen) (λ n u h. values_at F vs G ws seen n u (label n) h) (there F vs G ws seen) r t e

    -- where the others agree, so do they
    pub agree_seen : Agree m F vs → Agree m G ws
    agree_seen agree = record {
      long = seen_long F vs G ws seen;
      one = λ r s t er es.
          let h = agree.one (over_others r) (over_others s) t (term_over r t er) (term_over s t es) in
          (h.0, sym (value_over r t er) ∙ h.1, sym (value_over s t es) ∙ h.2);
    }

  -- also over more labels
  pub seen_more : (F more : List Tree) (vs ws : List A) (G : List Tree) (xs : List A) → Seen F vs G xs → Seen (F ++ more) (vs ++ ws) G xs
  seen_more F more vs ws [] [] h = tt
  seen_more F more vs ws [] (x ∷ xs) h = absurd h
  seen_more F more vs ws (t ∷ G) [] h = absurd h
  seen_more F more vs ws (t ∷ G) (x ∷ xs) h =
      (h.0, value_more (terms_over m.has) F more h.0 t h.1, value_more m vs ws h.0 x h.2, seen_more F more vs ws G xs h.3)

  -- and with one more that is seen
  pub seen_and : (F : List Tree) (vs : List A) (G : List Tree) (ws : List A) (t : Tree) (x : A) (r : RecipeTree)
      → value (terms_over m.has) F r ≡ Some t → value m vs r ≡ Some x → Seen F vs G ws → Seen F vs (G ++ t ∷ []) (ws ++ x ∷ [])
  seen_and F vs [] [] t x r et ex h = (r, et, ex, tt)
  seen_and F vs [] (y ∷ ws) t x r et ex h = absurd h
  seen_and F vs (u ∷ G) [] t x r et ex h = absurd h
  seen_and F vs (u ∷ G) (y ∷ ws) t x r et ex h = (h.0, h.1, h.2, seen_and F vs G ws t x r et ex h.3)

  -- labels see themselves, as the first ones among more
  pub seen_itself : (before : List Tree) (xs : List A) (F : List Tree) (vs : List A) → length xs ≡ length before → length vs ≡ length F → Seen (before ++ F) (xs ++ vs) F vs
  seen_itself before xs [] [] l k = tt
  seen_itself before xs [] (v ∷ vs) l k = absurd (omega arith)
  seen_itself before xs (t ∷ F) [] l k = absurd (omega arith)
  seen_itself before xs (t ∷ F) (v ∷ vs) l k = (
    label (length before),
    at_seam before F t,
    subst (λ n. slice_get (xs ++ v ∷ vs) n ≡ Some v) l (at_seam xs vs v),
    subst2 before xs t v F vs (seen_itself (before ++ t ∷ []) (xs ++ v ∷ []) F vs (omega (arith, l, length-append before (t ∷ []), length-append xs (v ∷ []))) (omega (arith, k))),
  ) where
    at_seam : {B : Type 0} (ys zs : List B) (z : B) → slice_get (ys ++ z ∷ zs) (length ys) ≡ Some z
    at_seam [] zs z = refl
    at_seam (y ∷ ys) zs z = at_seam ys zs z

    subst2 : (ys : List Tree) (ws : List A) (y : Tree) (w : A) (H : List Tree) (us : List A) → Seen ((ys ++ y ∷ []) ++ H) ((ws ++ w ∷ []) ++ us) H us → Seen (ys ++ y ∷ H) (ws ++ w ∷ us) H us
    subst2 ys ws y w H us h = subst (λ l. Seen l (ws ++ w ∷ us) H us) (append_assoc ys (y ∷ []) H) (subst (λ l. Seen ((ys ++ y ∷ []) ++ H) l H us) (append_assoc ws (w ∷ []) us) h)
