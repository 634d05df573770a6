-- Registers that hold terms, as variables.
use Rattle.std.proofs.Common.{◌≡◌, ℕ, zero, suc, ◌+◌, ◌-◌, ◌<◌, List, [], ◌∷◌, ◌++◌, length, map, Some, refl, ap, ◌∙◌, arith, ⊎_elim}
use Rattle.std.specs.Prelude.{slice_get}
use Rattle.std.specs.List.{AllByRecursion, range_with_len}
use Rattle.std.proofs.lemmas.Bool.{le-ltb, lt-ltb}
use Rattle.anb_lemmas.proofs.Lists.{get_either}
use Rattle.anb_term.specs.declared.term.Op.{Op}
use Rattle.anb_term.specs.Tree.{Tree, leaf, node, trees_of}
use Rattle.anb_term.specs.Lawful.{picked}
use Rattle.anb_term.proofs.Lists.{map-append, slice_get-there}
use Rattle.anb_unify.specs.Substitutions.{put_in, KeepsNames}
use Rattle.anb_unify.proofs.Putting.{put_node}
use Rattle.anb_distinguish.specs.Equations.{registers, assigned}

-- the terms of the registers are in the places of their variables
abbrev pub Holds : ℕ → (ℕ → Tree) → List Tree → Type 0
Holds names put table = (k : ℕ) (t : Tree) → slice_get table k ≡ Some t → put (names + k) ≡ t

-- those of some registers from number n on
abbrev pub HoldsFrom : ℕ → (ℕ → Tree) → ℕ → List Tree → Type 0
HoldsFrom names put n ws = (j : ℕ) (t : Tree) → slice_get ws j ≡ Some t → put (names + (n + j)) ≡ t

module _ (names : ℕ) (put : ℕ → Tree) where
  pub holds_one : (n : ℕ) (t : Tree) → put (names + n) ≡ t → HoldsFrom names put n (t ∷ [])
  holds_one n t h zero u e = let z : n + 0 ≡ n = omega arith in let s : t ≡ u = cc in ap (λ k. put (names + k)) z ∙ h ∙ s
  holds_one n t h (suc j) u e = cc

  pub holds_more : (table ws : List Tree) (n : ℕ) → length table ≡ n → Holds names put table → HoldsFrom names put n ws → Holds names put (table ++ ws)
  holds_more table ws n long h g k t e =
      ⊎_elim (λ old. h k t old) (λ (j, is, at). ap (λ x. put (names + x)) (is ∙ ap (λ l. l + j) long) ∙ g j t at) (get_either table ws k t e)

  pub picked_are : (table : List Tree) → Holds names put table → (rs : List ℕ) → AllByRecursion (λ r. r < length table) rs → map (put_in put) (registers names rs) ≡ picked table rs
  picked_are table h [] w = refl
  picked_are table h (r ∷ rs) w =
      let x = slice_get-there table r w.0 in
      rw x.1 (ap (λ t. t ∷ map (put_in put) (registers names rs)) (h r x.0 x.1) ∙ ap (λ l. x.0 ∷ l) (picked_are table h rs w.1))

  pub ranged_are : (n c : ℕ) → map (put_in put) (registers names (range_with_len n c)) ≡ map (λ r. put (names + r)) (range_with_len n c)
  ranged_are n zero = refl
  ranged_are n (suc c) = ap (λ l. put (names + n) ∷ l) (ranged_are (n + 1) c)

  pub made_is : (table : List Tree) → Holds names put table → (o : Op) (rs : List ℕ) → AllByRecursion (λ r. r < length table) rs → put_in put (node o (trees_of (registers names rs))) ≡ node o (trees_of (picked table rs))
  made_is table h o rs w = put_node put o (registers names rs) ∙ ap (λ l. node o (trees_of l)) (picked_are table h rs w)

  pub undone_is : (table : List Tree) → Holds names put table → (o : Op) (ks : List ℕ) (n c : ℕ) → AllByRecursion (λ r. r < length table) ks
      → put_in put (node o (trees_of (registers names ks ++ registers names (range_with_len n c)))) ≡ node o (trees_of (picked table ks ++ map (λ r. put (names + r)) (range_with_len n c)))
  undone_is table h o ks n c w =
      put_node put o (registers names ks ++ registers names (range_with_len n c))
      ∙ ap (λ l. node o (trees_of l)) (map-append (put_in put) (registers names ks) (registers names (range_with_len n c)))
      ∙ ap (λ l. node o (trees_of (l ++ map (put_in put) (registers names (range_with_len n c))))) (picked_are table h ks w)
      ∙ ap (λ l. node o (trees_of (picked table ks ++ l))) (ranged_are n c)

pub picked_long : (table : List Tree) (rs : List ℕ) → AllByRecursion (λ r. r < length table) rs → length (picked table rs) ≡ length rs
picked_long table [] w = refl
picked_long table (r ∷ rs) w = let x = slice_get-there table r w.0 in rw x.1 (ap suc (picked_long table rs w.1))

-- ---- the terms of a table in the places of its registers

pub assigned_keeps : (names : ℕ) (table : List Tree) → KeepsNames names (assigned names table)
assigned_keeps names table n h = rw (lt-ltb n names h) refl

pub assigned_at : (names : ℕ) (table : List Tree) (k : ℕ) (t : Tree) → slice_get table k ≡ Some t → assigned names table (names + k) ≡ t
assigned_at names table k t e =
    let z : names + k - names ≡ k = omega arith in
    rw (le-ltb (names + k) names (omega arith), z, e) refl
