-- Agreement when a label comes, and what is given where labels agree.
use Rattle.std.proofs.Common.{◌≡◌, ℕ, List, [], ◌∷◌, ◌++◌, IsTrue, Some, sym, ◌∙◌, subst, Bool, refl}
use Rattle.anb_plays.specs.Codes.{Act, takes, draws, receives, sends, works}
use Rattle.anb_plays.specs.Exec.{IsVerified, NoTakes, HasTakes}
use Rattle.anb_term.specs.Tree.{Tree, leaf, AvoidsEach}
use Rattle.anb_term.specs.Value.{Meaning, RecipeTree, value}
use Rattle.anb_term.specs.Lawful.{AreValues}
use Rattle.anb_term.specs.FreeAlgebra.{terms_over}
use Rattle.anb_term.specs.Agree.{Agree, Gives}
use Rattle.anb_term.specs.Statements.{NewAtomAgrees}
use Rattle.anb_term.specs.declared.term.Op.{Op}

module _ {A : Type 0} (m : Meaning A) where
  -- a fresh atom may have any value
  pub still_agrees : NewAtomAgrees m → (frame : List Tree) (vs : List A) (t : Tree) (x : A) (a : ℕ) → t ≡ leaf a → AvoidsEach a frame → AreValues m vs → IsTrue (m.is_value x)
      → Agree m frame vs → Agree m (frame ++ t ∷ []) (vs ++ x ∷ [])
  still_agrees new_atom frame vs t x a is avoids are vx agree =
      let P : Tree → Type 0 = λ u. Agree m (frame ++ u ∷ []) (vs ++ x ∷ []) in subst P (sym is) (new_atom frame vs a x are vx avoids agree)

  -- what one recipe with the term has is given
  pub is_given : (frame : List Tree) (vs : List A) (t : Tree) (r : RecipeTree) (b : A) → Agree m frame vs → value (terms_over m.has) frame r ≡ Some t → value m vs r ≡ Some b → Gives m frame vs t b
  is_given frame vs t r b agree er eb =
      ((r, er), λ s es. let h = agree.one r s t er es in let h1 = h.1 in h.2 ∙ (let k : Some h.0 ≡ Some b = sym h1 ∙ eb in k))

pub goes_on : (has : Op → Bool) (acts : List Act) (k : ℕ) → IsVerified has acts k → NoTakes has acts → HasTakes has acts k k
goes_on has (takes ∷ acts) k v none = absurd none
goes_on has [] k v none = (refl, v, none)
goes_on has (draws ∷ acts) k v none = (refl, v, none)
goes_on has (receives ∷ acts) k v none = (refl, v, none)
goes_on has (sends r ∷ acts) k v none = (refl, v, none)
goes_on has (works w ∷ acts) k v none = (refl, v, none)

pub no_next : {X : Type 0} (has : Op → Bool) (acts later : List Act) → NoTakes has acts → acts ≡ takes ∷ later → X
no_next has (takes ∷ acts) later none e = absurd none
no_next has [] later none e = cc
no_next has (draws ∷ acts) later none e = cc
no_next has (receives ∷ acts) later none e = cc
no_next has (sends r ∷ acts) later none e = cc
no_next has (works w ∷ acts) later none e = cc
