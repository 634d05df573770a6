-- Events up to the choice.
use Rattle.std.proofs.Common.{◌≡◌, ◌↔◌, ℕ, zero, suc, ◌+◌, ◌<◌, ◌≤◌, List, [], ◌∷◌, length, map, take, drop, get_or, Bool, true, false, IsTrue, refl, sym, ap, ◌∙◌, arith, cond}
use Rattle.std.proofs.lemmas.List.{drop-map, take-map}
use Rattle.anb_lemmas.proofs.Lists.{map_drop_next}
use Rattle.anb_term.specs.declared.term.Term.{Term}
use Rattle.anb_term.specs.View.{tree_of}
use Rattle.anb_term.proofs.Lists.{one_term}
use Rattle.anb_protocol.specs.declared.plans.Event.{Event}
use Rattle.anb_protocol.specs.Plans.{PlanEvent, to_know, to_make, to_send, to_receive, term_in}
use Rattle.anb_protocol.specs.Views.{plan_event}
use Rattle.anb_choice.specs.Lawful.{arm_part, is_of_stem, stem_len, stem_part}

pub next_event : (xs : List Event) (i : ℕ) (x : Event) → i < length xs → x ≡ get_or xs i x → drop i (map plan_event xs) ≡ plan_event x ∷ drop (i + 1) (map plan_event xs)
next_event xs i x h e = drop-map plan_event i xs ∙ map_drop_next plan_event xs i x h e ∙ ap (λ l. plan_event x ∷ l) (sym (drop-map plan_event (i + 1) xs))

-- an event that tells whether the events belong to the stem
pub told_here : (stem : ℕ) (xs : List Event) (i : ℕ) (x : Event) (v : Bool) → i < length xs → x ≡ get_or xs i x
    → ((es : List PlanEvent) → is_of_stem stem (plan_event x ∷ es) ≡ v) → is_of_stem stem (drop i (map plan_event xs)) ≡ is_of_stem stem (map plan_event xs) → v ≡ is_of_stem stem (map plan_event xs)
told_here stem xs i x v h e tells so_far = sym (ap (is_of_stem stem) (next_event xs i x h e) ∙ tells (drop (i + 1) (map plan_event xs))) ∙ so_far

-- a name that is made leaves it to the next
pub told_later : (stem : ℕ) (xs : List Event) (i : ℕ) (x : Event) → i < length xs → x ≡ get_or xs i x
    → ((es : List PlanEvent) → is_of_stem stem (plan_event x ∷ es) ≡ is_of_stem stem es) → is_of_stem stem (drop i (map plan_event xs)) ≡ is_of_stem stem (map plan_event xs)
    → is_of_stem stem (drop (i + 1) (map plan_event xs)) ≡ is_of_stem stem (map plan_event xs)
told_later stem xs i x h e passes so_far = sym (ap (is_of_stem stem) (next_event xs i x h e) ∙ passes (drop (i + 1) (map plan_event xs))) ∙ so_far

-- one event more of the stem
pub stem_more : (stem : ℕ) (es : List PlanEvent) (i : ℕ) → is_of_stem stem (drop i es) ≡ true → stem_len stem (drop i es) ≡ 1 + stem_len stem (drop (i + 1) es)
stem_more stem [] zero t = cc
stem_more stem [] (suc i) t = cc
stem_more stem (e ∷ es) zero t = ap (λ b. cond b (1 + stem_len stem es) 0) t
stem_more stem (e ∷ es) (suc i) t = rw (after i) (stem_more stem es i t) where
  after : (n : ℕ) → suc n + 1 ≡ suc (n + 1)
  after n = omega arith

pub stem_stops : (stem : ℕ) (es : List PlanEvent) → is_of_stem stem es ≡ false → stem_len stem es ≡ 0
stem_stops stem [] t = refl
stem_stops stem (e ∷ es) t = ap (λ b. cond b (1 + stem_len stem es) 0) t

within_more : (b : Bool) (n m : ℕ) → n ≤ m → cond b (1 + n) 0 ≤ suc m
within_more true n m h = omega (arith, h)
within_more false n m h = omega arith

-- the part of a plan before the choice, and the part behind it, by what the code has of them
pub stem_seen : (stem : ℕ) (plan : List PlanEvent) (es : List Event) (k : ℕ) → map plan_event es ≡ plan → k ≡ stem_len stem (map plan_event es) → map plan_event (take k es) ≡ stem_part stem plan
stem_seen stem plan es k e f = sym (take-map plan_event k es) ∙ ap (λ n. take n (map plan_event es)) f ∙ ap (stem_part stem) e

pub arm_seen : (stem : ℕ) (plan : List PlanEvent) (es : List Event) (k : ℕ) → map plan_event es ≡ plan → k ≡ stem_len stem (map plan_event es) → map plan_event (drop k es) ≡ arm_part stem plan
arm_seen stem plan es k e f = sym (drop-map plan_event k es) ∙ ap (λ n. drop n (map plan_event es)) f ∙ ap (arm_part stem) e

-- events are the same where their terms and numbers are
pub same_know : (r : Bool) (t u : Term) → IsTrue r ↔ (t ≡ u) → IsTrue r ↔ (to_know (tree_of t) ≡ to_know (tree_of u))
same_know r t u h = (λ q. ap (λ v. to_know (tree_of v)) (h.0 q), λ e. h.1 (one_term t u (ap term_in e)))

pub same_make : (r : Bool) (t u : Term) → IsTrue r ↔ (t ≡ u) → IsTrue r ↔ (to_make (tree_of t) ≡ to_make (tree_of u))
same_make r t u h = (λ q. ap (λ v. to_make (tree_of v)) (h.0 q), λ e. h.1 (one_term t u (ap term_in e)))

pub same_send : (r : Bool) (i j : ℕ) (t u : Term) → i ≡ j → IsTrue r ↔ (t ≡ u) → IsTrue r ↔ (to_send i (tree_of t) ≡ to_send j (tree_of u))
same_send r i j t u n h = (λ q. ap (λ k. to_send k (tree_of t)) n ∙ ap (λ v. to_send j (tree_of v)) (h.0 q), λ e. h.1 (one_term t u (ap term_in e)))

pub same_receive : (r : Bool) (i j : ℕ) (t u : Term) → i ≡ j → IsTrue r ↔ (t ≡ u) → IsTrue r ↔ (to_receive i (tree_of t) ≡ to_receive j (tree_of u))
same_receive r i j t u n h = (λ q. ap (λ k. to_receive k (tree_of t)) n ∙ ap (λ v. to_receive j (tree_of v)) (h.0 q), λ e. h.1 (one_term t u (ap term_in e)))

-- lists that differ at a place differ
pub same_at : {X Y : Type 0} (f : X → Y) (xs ys : List X) (i : ℕ) (x y : X) → i < length xs → i < length ys → x ≡ get_or xs i x → y ≡ get_or ys i y → map f xs ≡ map f ys → f x ≡ f y
same_at f [] ys i x y h k e g same = absurd (omega (arith, h))
same_at f (a ∷ xs) [] i x y h k e g same = absurd (omega (arith, k))
same_at f (a ∷ xs) (b ∷ ys) zero x y h k e g same = let first : f a ≡ f b = cc in ap f e ∙ first ∙ ap f (sym g)
same_at f (a ∷ xs) (b ∷ ys) (suc i) x y h k e g same = let rest : map f xs ≡ map f ys = cc in same_at f xs ys i x y (omega (arith, h)) (omega (arith, k)) e g rest

-- and are the same where all places are
pub same_more : {X Y : Type 0} (f : X → Y) (xs ys : List X) (i : ℕ) (x y : X) → i < length xs → i < length ys → x ≡ get_or xs i x → y ≡ get_or ys i y → f x ≡ f y
    → take i (map f xs) ≡ take i (map f ys) → take (i + 1) (map f xs) ≡ take (i + 1) (map f ys)
same_more f [] ys i x y h k e g here same = absurd (omega (arith, h))
same_more f (a ∷ xs) [] i x y h k e g here same = absurd (omega (arith, k))
same_more f (a ∷ xs) (b ∷ ys) zero x y h k e g here same = ap (λ z. z ∷ []) (ap f (sym e) ∙ here ∙ ap f g)
same_more f (a ∷ xs) (b ∷ ys) (suc i) x y h k e g here same =
    rw (after i) (let first : f a ≡ f b = cc in let rest : take i (map f xs) ≡ take i (map f ys) = cc in
    ap (λ z. z ∷ take (i + 1) (map f xs)) first ∙ ap (λ l. f b ∷ l) (same_more f xs ys i x y (omega (arith, h)) (omega (arith, k)) e g here rest)) where
      after : (n : ℕ) → suc n + 1 ≡ suc (n + 1)
      after n = omega arith
