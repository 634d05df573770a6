-- Nodes of terms, counted.
use Rattle.std.proofs.Common.{◌≡◌, ℕ, ◌+◌, ◌<◌, ◌^◌, List, [], ◌∷◌, ◌++◌, length, map, take, get_or, true, Option, Some, None, refl, sym, ap, ◌∙◌, subst, arith}
use Rattle.std.specs.Prelude.{IfSome, SomeIff}
use Rattle.std.proofs.lemmas.List.{take_more}
use Rattle.anb_term.specs.declared.term.Op.{Op}
use Rattle.anb_term.specs.declared.term.Term.{Term}
use Rattle.anb_term.specs.declared.term.Term.TheVariants.{Node}
use Rattle.anb_term.specs.Operator.{arity}
use Rattle.anb_term.specs.Tree.{Tree, trees_of, tree_size, trees_size, nodes, IsFormed, AreFormed}
use Rattle.anb_term.specs.TreeSame.{list_of-trees_of}
use Rattle.anb_term.specs.View.{tree_of}
use Rattle.anb_term.proofs.Lists.{map-append}

pub one_more : (r : Option ℕ) (n k : ℕ) → SomeIff r (n + 1 < 2 ^ 64) (n + 1) → n + 1 ≡ k → IfSome r (λ m. m ≡ k)
one_more None n k s e = tt
one_more (Some x) n k s e = s.1 ∙ e

listed : (ts : List Tree) → trees_size (trees_of ts) ≡ nodes ts
listed [] = refl
listed (t ∷ ts) = ap (λ n. tree_size t + n) (listed ts)

module _ (t : Term) (o : Op) (ts : List Tree) (xs : List Term) (is : t ≡ Node o ts) (slice : map tree_of xs ≡ ts) where
  pub node_formed : length ts ≡ arity o → AreFormed (λ p. true) (trees_of (map tree_of xs)) → IsFormed (λ p. true) (tree_of t)
  node_formed n f = subst (λ u. IsFormed (λ p. true) (tree_of u)) (sym is) (refl, ap length (list_of-trees_of ts) ∙ n, subst (λ l. AreFormed (λ p. true) (trees_of l)) slice f)

  pub node_sized : (n : ℕ) → n ≡ nodes (map tree_of xs) → n + 1 ≡ tree_size (tree_of t)
  node_sized n e = subst (λ u. n + 1 ≡ tree_size (tree_of u)) (sym is) (omega (arith, e, ap nodes slice, listed ts))

pub taken : (ts : List Term) (i : ℕ) (t : Term) → i < length ts → t ≡ get_or ts i t → map tree_of (take (i + 1) ts) ≡ map tree_of (take i ts) ++ tree_of t ∷ []
taken ts i t h own = ap (map tree_of) (take_more ts i t h) ∙ map-append tree_of (take i ts) (get_or ts i t ∷ []) ∙ ap (λ y. map tree_of (take i ts) ++ tree_of y ∷ []) (sym own)
