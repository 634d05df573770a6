-- Draws that are the values of what is made, and plays that go on to their end over them.
use Rattle.std.proofs.Common.{◌≡◌, ℕ, suc, ◌+◌, List, [], ◌∷◌, Some, refl, subst, arith}
use Rattle.std.specs.Prelude.{slice_get}
use Rattle.anb_term.specs.Tree.{Tree}
use Rattle.anb_term.specs.Value.{Meaning}
use Rattle.anb_plays.specs.Plans.{Event}
use Rattle.anb_plays.specs.Plays.{Played, Walk, done}
use Rattle.anb_plays.specs.Honest.{honest}

module _ {A : Type 0} (m : Meaning A) (draw : ℕ → A) where
  -- what comes of some events over these arrivals: all of them are used, and the play is done
  pub record Over (es : List Event) (F : List Tree) (V : List A) (e i : ℕ) (arrivals : List A) : Type 0 where
    pub played : Played A
    pub is : Walk m draw es F V e i arrivals played
    pub end : played.end ≡ done
    pub used : played.left ≡ []

module _ {A : Type 0} (m : Meaning A) (draw atoms : ℕ → A) where
  -- the draws from this one on are the values of these terms
  abbrev pub DrawsFrom : ℕ → List Tree → Type 0
  DrawsFrom i ts = (k : ℕ) (t : Tree) → slice_get ts k ≡ Some t → draw (i + k) ≡ honest m atoms t

  pub draws_on : (i : ℕ) (t : Tree) (ts : List Tree) → DrawsFrom i (t ∷ ts) → DrawsFrom (i + 1) ts
  draws_on i t ts h k u e = let n : i + suc k ≡ i + 1 + k = omega arith in subst (λ j. draw j ≡ honest m atoms u) n (h (suc k) u e)

  pub draws_now : (i : ℕ) (t : Tree) (ts : List Tree) → DrawsFrom i (t ∷ ts) → draw i ≡ honest m atoms t
  draws_now i t ts h = let n : i + 0 ≡ i = omega arith in subst (λ j. draw j ≡ honest m atoms t) n (h 0 t refl)
