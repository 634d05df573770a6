-- Words with no term too deep.
use Rattle.std.proofs.Common.{◌≡◌, ℕ, ◌+◌, ◌<◌, List, [], ◌∷◌, ◌++◌, true, refl, sym, ap, ◌∙◌, inl, inr, ◌⊎◌, arith}
use Rattle.anb_syntax.specs.Words.{Word}
use Rattle.anb_read.specs.Productions.{begins_term}
use Rattle.anb_read.proofs.Readers.{opens, closes, Shallow}

pub opens_joined : (a b : List Word) → opens (a ++ b) ≡ opens a + opens b
opens_joined [] b = omega arith
opens_joined (x ∷ a) b = omega (arith, opens_joined a b)

pub closes_joined : (a b : List Word) → closes (a ++ b) ≡ closes a + closes b
closes_joined [] b = omega arith
closes_joined (x ∷ a) b = omega (arith, closes_joined a b)

-- where a word of two lists in a row stands
pub cut : (a b f m : List Word) (x : Word) → a ++ b ≡ f ++ x ∷ m → ((n : List Word) × (a ≡ f ++ x ∷ n)) ⊎ ((g : List Word) × (f ≡ a ++ g) × (b ≡ g ++ x ∷ m))
cut [] b f m x e = inr (f, refl, e)
cut (y ∷ a) b [] m x e = let h : y ≡ x = cc in inl (a, ap (λ z. z ∷ a) h)
cut (y ∷ a) b (z ∷ f) m x e =
    let h : y ≡ z = cc in
    let t : a ++ b ≡ f ++ x ∷ m = cc in
    elim (cut a b f m x t) [
      | inl k ↦ inl (k.0, ap (λ u. u ∷ a) h ∙ ap (λ (us : List Word). z ∷ us) k.1)
      | inr k ↦ inr (k.0, ap (λ u. u ∷ f) (sym h) ∙ ap (λ (us : List Word). y ∷ us) k.1, k.2)
    ]

pub not_none : (f m : List Word) (x : Word) → [] ≡ f ++ x ∷ m → ⊥
not_none [] m x e = cc
not_none (y ∷ f) m x e = cc

pub shallow_none : (l : ℕ) → Shallow l []
shallow_none l [] x m e s = cc
shallow_none l (y ∷ f) x m e s = cc

pub shallow_one : (l : ℕ) (y : Word) → (begins_term y ≡ true → 0 < l) → Shallow l (y ∷ [])
shallow_one l y h [] x m e s = let k : y ≡ x = cc in let p : 0 < l = h (ap begins_term k ∙ s) in omega arith
shallow_one l y h (z ∷ f) x m e s = let k : [] ≡ f ++ x ∷ m = cc in absurd (not_none f m x k)

pub shallow_joined : (l m : ℕ) (a b : List Word) → opens a + m ≡ closes a + l → Shallow l a → Shallow m b → Shallow l (a ++ b)
shallow_joined l m a b e ha hb f x n g s = elim (cut a b f n x g) [
  | inl k ↦ ha f x k.0 k.1 s
  | inr k ↦ omega (arith, ap opens k.1, ap closes k.1, opens_joined a k.0, closes_joined a k.0, hb k.0 x n k.2 s)
]
