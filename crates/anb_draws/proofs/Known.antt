-- The names that a role knows have their values.
use Rattle.std.proofs.Common.{◌≡◌, ℕ, suc, ◌+◌, ◌<◌, List, [], ◌∷◌, ◌++◌, length, map, Option, Some, refl, sym, ◌∙◌, subst, arith}
use Rattle.std.specs.Prelude.{slice_get}
use Rattle.std.specs.List.{AllByRecursion}
use Rattle.anb_lemmas.proofs.Lists.{get_front, got_within}
use Rattle.anb_term.specs.Tree.{Tree, leaf, node}
use Rattle.anb_term.specs.Value.{Meaning, label}
use Rattle.anb_term.specs.Agree.{Agree, Gives}
use Rattle.anb_protocol.specs.Protocols.{ProtocolValue}
use Rattle.anb_protocol.specs.Texts.{IsTermOf}
use Rattle.anb_draws.specs.Telling.{name_of, named, value_of}
use Rattle.anb_draws.proofs.Walking.{GivesEach}

pub named_within : (p : ProtocolValue) (ts : List Tree) (vs : List (List ℕ)) → AllByRecursion (IsTermOf p) ts → AllByRecursion (λ a. a < length p.atoms) (map name_of (named ts vs))
named_within p [] vs all = tt
named_within p (t ∷ ts) [] all = tt
named_within p (leaf a ∷ ts) (v ∷ vs) all = (all.0, named_within p ts vs all.1)
named_within p (node o us ∷ ts) (v ∷ vs) all = named_within p ts vs all.1

later : (k i : ℕ) → k + suc i ≡ k + 1 + i
later k i = omega arith

module _ (m : Meaning (List ℕ)) (F : List Tree) (ws : List (List ℕ)) (agree : Agree m F ws) where
  given : (k a : ℕ) (v : List ℕ) → slice_get F k ≡ Some (leaf a) → slice_get ws k ≡ Some v → Gives m F ws (leaf a) v
  given k a v here there = ((label k, here), λ r is. by (agree.one r (label k) (leaf a) is here)) where
    by : {r : Option (List ℕ)} → (b : List ℕ) × (r ≡ Some b) × (slice_get ws k ≡ Some b) → r ≡ Some v
    by (b, is, at) = is ∙ sym at ∙ there

  named_given : (k : ℕ) (ts : List Tree) (vs : List (List ℕ)) → ((i : ℕ) (t : Tree) → slice_get ts i ≡ Some t → slice_get F (k + i) ≡ Some t)
      → ((i : ℕ) (v : List ℕ) → slice_get vs i ≡ Some v → slice_get ws (k + i) ≡ Some v) → GivesEach m F ws (map name_of (named ts vs)) (map value_of (named ts vs))
  named_given k [] vs terms values = tt
  named_given k (t ∷ ts) [] terms values = tt
  named_given k (leaf a ∷ ts) (v ∷ vs) terms values =
      let e : k + 0 ≡ k = omega arith in (
        given k a v (subst (λ i. slice_get F i ≡ Some (leaf a)) e (terms 0 (leaf a) refl)) (subst (λ i. slice_get ws i ≡ Some v) e (values 0 v refl)),
        named_given (k + 1) ts vs (λ i t at. subst (λ j. slice_get F j ≡ Some t) (later k i) (terms (suc i) t at)) (λ i w at. subst (λ j. slice_get ws j ≡ Some w) (later k i) (values (suc i) w at)),
      )
  named_given k (node o us ∷ ts) (v ∷ vs) terms values =
      named_given (k + 1) ts vs (λ i t at. subst (λ j. slice_get F j ≡ Some t) (later k i) (terms (suc i) t at)) (λ i w at. subst (λ j. slice_get ws j ≡ Some w) (later k i) (values (suc i) w at))

front_got : {X : Type 0} (xs ys : List X) (i : ℕ) (x : X) → slice_get xs i ≡ Some x → slice_get (xs ++ ys) (0 + i) ≡ Some x
front_got xs ys i x at = let e : i ≡ 0 + i = omega arith in subst (λ j. slice_get (xs ++ ys) j ≡ Some x) e (get_front xs ys i (got_within xs i x at) ∙ at)

-- where they lead what is had
pub known_given : (m : Meaning (List ℕ)) (ts F : List Tree) (vs ws : List (List ℕ)) → Agree m (ts ++ F) (vs ++ ws) → GivesEach m (ts ++ F) (vs ++ ws) (map name_of (named ts vs)) (map value_of (named ts vs))
known_given m ts F vs ws agree = named_given m (ts ++ F) (vs ++ ws) agree 0 ts vs (λ i t at. front_got ts F i t at) (λ i v at. front_got vs ws i v at)

-- and others behind them
pub both_given : (m : Meaning (List ℕ)) (F : List Tree) (vs : List (List ℕ)) (xs ys : List ℕ) (bs cs : List (List ℕ)) → GivesEach m F vs xs bs → GivesEach m F vs ys cs → GivesEach m F vs (xs ++ ys) (bs ++ cs)
both_given m F vs [] ys [] cs one other = other
both_given m F vs [] ys (b ∷ bs) cs one other = absurd one
both_given m F vs (x ∷ xs) ys [] cs one other = absurd one
both_given m F vs (x ∷ xs) ys (b ∷ bs) cs one other = (one.0, both_given m F vs xs ys bs cs one.1 other)

-- ---- one after another

pub named_next : (t : Tree) (ts : List Tree) (v : List ℕ) (vs : List (List ℕ)) → named (t ∷ []) (v ∷ []) ++ named ts vs ≡ named (t ∷ ts) (v ∷ vs)
named_next (leaf a) ts v vs = refl
named_next (node o us) ts v vs = refl

pub named_none : (ts : List Tree) → named ts [] ≡ []
named_none [] = refl
named_none (t ∷ ts) = refl
