-- The places after each event that is received.
use Rattle.std.proofs.Common.{◌≡◌, ℕ, zero, suc, ◌+◌, ◌<◌, ◌≤◌, List, [], ◌∷◌, length, Some, None, refl, sym, ap, ◌∙◌, subst, arith, inl, inr, ◌⊎◌}
use Rattle.std.specs.Prelude.{slice_get}
use Rattle.anb_term.specs.Tree.{Tree}
use Rattle.anb_plays.specs.Plans.{Event, know, fresh, send, recv}
use Rattle.anb_outsider.specs.Recordings.{ReceivesAt}
use Rattle.anb_outsider.specs.Searching.{ends_from}

-- a place after something that is received
pub record IsEnd (plan : List Event) (n e : ℕ) : Type 0 where
  pub place : ℕ
  pub is : e ≡ n + (place + 1)
  pub receives : ReceivesAt plan place

one_on : (plan : List Event) (x : Event) (n e : ℕ) → IsEnd plan (n + 1) e → IsEnd (x ∷ plan) n e
one_on plan x n e h = record { place = suc h.place; is = omega (arith, h.is); receives = h.receives }

pub end_is : (plan : List Event) (n i e : ℕ) → slice_get (ends_from n plan) i ≡ Some e → IsEnd plan n e
end_is [] n i e h = cc
end_is (know t ∷ es) n i e h = one_on es (know t) n e (end_is es (n + 1) i e h)
end_is (fresh t ∷ es) n i e h = one_on es (fresh t) n e (end_is es (n + 1) i e h)
end_is (send t ∷ es) n i e h = one_on es (send t) n e (end_is es (n + 1) i e h)
end_is (recv t ∷ es) n zero e h = let s : n + 1 ≡ e = cc in record { place = 0; is = omega (arith, s); receives = (t, refl) }
end_is (recv t ∷ es) n (suc i) e h = one_on es (recv t) n e (end_is es (n + 1) i e h)

-- each that is received has one
pub end_of : (plan : List Event) (n k : ℕ) → ReceivesAt plan k → (i : ℕ) × (slice_get (ends_from n plan) i ≡ Some (n + (k + 1)))
end_of [] n k (t, h) = cc
end_of (know u ∷ es) n zero (t, h) = cc
end_of (know u ∷ es) n (suc k) (t, h) = let r = end_of es (n + 1) k (t, h) in let z : n + 1 + (k + 1) ≡ n + (suc k + 1) = omega arith in (r.0, r.1 ∙ ap Some z)
end_of (fresh u ∷ es) n zero (t, h) = cc
end_of (fresh u ∷ es) n (suc k) (t, h) = let r = end_of es (n + 1) k (t, h) in let z : n + 1 + (k + 1) ≡ n + (suc k + 1) = omega arith in (r.0, r.1 ∙ ap Some z)
end_of (send u ∷ es) n zero (t, h) = cc
end_of (send u ∷ es) n (suc k) (t, h) = let r = end_of es (n + 1) k (t, h) in let z : n + 1 + (k + 1) ≡ n + (suc k + 1) = omega arith in (r.0, r.1 ∙ ap Some z)
end_of (recv u ∷ es) n zero (t, h) = let z : n + 1 ≡ n + (0 + 1) = omega arith in (0, ap Some z)
end_of (recv u ∷ es) n (suc k) (t, h) = let r = end_of es (n + 1) k (t, h) in let z : n + 1 + (k + 1) ≡ n + (suc k + 1) = omega arith in (suc r.0, r.1 ∙ ap Some z)

pub rises : (plan : List Event) (n i j a b : ℕ) → i < j → slice_get (ends_from n plan) i ≡ Some a → slice_get (ends_from n plan) j ≡ Some b → a < b
rises [] n i j a b l h g = cc
rises (know t ∷ es) n i j a b l h g = rises es (n + 1) i j a b l h g
rises (fresh t ∷ es) n i j a b l h g = rises es (n + 1) i j a b l h g
rises (send t ∷ es) n i j a b l h g = rises es (n + 1) i j a b l h g
rises (recv t ∷ es) n i zero a b l h g = absurd (omega (arith, l))
rises (recv t ∷ es) n zero (suc j) a b l h g = let s : n + 1 ≡ a = cc in let e = end_is es (n + 1) j b g in omega (arith, s, e.is)
rises (recv t ∷ es) n (suc i) (suc j) a b l h g = rises es (n + 1) i j a b (omega (arith, l)) h g

within : {A : Type 0} (xs : List A) (i : ℕ) (x : A) → slice_get xs i ≡ Some x → i < length xs
within [] i x h = cc
within (y ∷ xs) zero x h = omega arith
within (y ∷ xs) (suc i) x h = omega (arith, within xs i x h)

-- each is within the plan
pub end_within : (plan : List Event) (j e : ℕ) → slice_get (ends_from 0 plan) j ≡ Some e → e ≤ length plan
end_within plan j e h = let d = end_is plan 0 j e h in let w = within plan d.place (recv d.receives.0) d.receives.1 in omega (arith, d.is, w)

less_or_same : (i j : ℕ) → (i < j) ⊎ (j ≤ i)
less_or_same i zero = inr (omega arith)
less_or_same zero (suc j) = inl (omega arith)
less_or_same (suc i) (suc j) = elim (less_or_same i j) [ inl l ↦ inl (omega (arith, l)) | inr l ↦ inr (omega (arith, l)) ]

module _ (plan : List Event) where
  not_after : (i j a b : ℕ) → slice_get (ends_from 0 plan) i ≡ Some a → slice_get (ends_from 0 plan) j ≡ Some b → i ≤ j → a ≤ b
  not_after i j a b h g l = by (less_or_same i j)
    where
      by : (i < j) ⊎ (j ≤ i) → a ≤ b
      by (inl m) = let r = rises plan 0 i j a b m h g in omega (arith, r)
      by (inr m) = let e : i ≡ j = omega (arith, l, m) in let s : a ≡ b = cc in omega (arith, s)

  -- nothing is received after the last end
  pub by_last : (j e k : ℕ) → j + 1 ≡ length (ends_from 0 plan) → slice_get (ends_from 0 plan) j ≡ Some e → ReceivesAt plan k → k + 1 ≤ e
  by_last j e k is h r =
      let i = end_of plan 0 k r in
      let w = within (ends_from 0 plan) i.0 (0 + (k + 1)) i.1 in
      let m = not_after i.0 j (0 + (k + 1)) e i.1 h (omega (arith, is, w)) in omega (arith, m)

  -- nor before the first
  pub by_first : (e k : ℕ) → slice_get (ends_from 0 plan) 0 ≡ Some e → ReceivesAt plan k → k + 1 < e → ⊥
  by_first e k h r l =
      let i = end_of plan 0 k r in
      let m = not_after 0 i.0 e (0 + (k + 1)) h i.1 (omega arith) in
      omega (arith, m, l)

  -- nor between two
  pub between : (j a b k : ℕ) → slice_get (ends_from 0 plan) j ≡ Some a → slice_get (ends_from 0 plan) (j + 1) ≡ Some b → ReceivesAt plan k → k + 1 < b → k + 1 ≤ a
  between j a b k h g r l = by (less_or_same i.0 (j + 1))
    where
      i : (n : ℕ) × (slice_get (ends_from 0 plan) n ≡ Some (0 + (k + 1)))
      i = end_of plan 0 k r

      by : (i.0 < j + 1) ⊎ (j + 1 ≤ i.0) → k + 1 ≤ a
      by (inl m) = let n = not_after i.0 j (0 + (k + 1)) a i.1 h (omega (arith, m)) in omega (arith, n)
      by (inr m) = let n = not_after (j + 1) i.0 b (0 + (k + 1)) g i.1 m in absurd (omega (arith, n, l))

  pub none_received : ends_from 0 plan ≡ [] → (k : ℕ) → ReceivesAt plan k → ⊥
  none_received none k r = let i = end_of plan 0 k r in let w = within (ends_from 0 plan) i.0 (0 + (k + 1)) i.1 in let z = ap length none in omega (arith, w, z)
