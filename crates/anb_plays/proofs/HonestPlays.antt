-- A role that hears honest values alone.
use Rattle.std.proofs.Common.{◌≡◌, ℕ, zero, suc, ◌+◌, List, [], ◌∷◌, ◌++◌, map, take, IsTrue, Some, refl, sym, ap, ◌∙◌, subst, inl, arith}
use Rattle.std.specs.Prelude.{slice_get}
use Rattle.anb_term.specs.Tree.{Tree, trees_of, IsFormed, AreFormed}
use Rattle.anb_term.specs.Value.{Meaning, value}
use Rattle.anb_term.specs.Agree.{Agree}
use Rattle.anb_term.proofs.Lists.{map-append}
use Rattle.anb_plays.specs.Plans.{Event, know, fresh, send, recv, known, CanSend}
use Rattle.anb_plays.specs.Plays.{Walk}
use Rattle.anb_plays.specs.Honest.{honest, honest_from, heard, made, LabelsAreFormed}
use Rattle.anb_plays.specs.Statements.{HonestAgree, HonestPlays}

one_formed : {A : Type 0} (m : Meaning A) (frame : List Tree) (t : Tree) → AreFormed m.has (trees_of frame) → IsFormed m.has t → AreFormed m.has (trees_of (frame ++ t ∷ []))
one_formed m [] t all f = (f, tt)
one_formed m (u ∷ us) t all f = (all.0, one_formed m us t all.1 f)

known_formed : {A : Type 0} (m : Meaning A) (plan : List Event) → LabelsAreFormed m.has plan → AreFormed m.has (trees_of (known plan))
known_formed m [] f = tt
known_formed m (know t ∷ es) f = (f.0, known_formed m es f.1)
known_formed m (fresh t ∷ es) f = known_formed m es f.1
known_formed m (send t ∷ es) f = known_formed m es f
known_formed m (recv t ∷ es) f = known_formed m es f.1

module _ {A : Type 0} (m : Meaning A) (agrees : HonestAgree m) (draw atoms : ℕ → A) (good : (k : ℕ) → IsTrue (m.is_value (atoms k))) where
  -- the draws from number i on are those of these atoms
  Draws : ℕ → List Tree → Type 0
  Draws i ts = (k : ℕ) (t : Tree) → slice_get ts k ≡ Some t → draw (i + k) ≡ honest m atoms t

  draws_on : (i : ℕ) (t : Tree) (ts : List Tree) → Draws i (t ∷ ts) → Draws (i + 1) ts
  unfolding Draws
  draws_on i t ts h k u e = let n : i + suc k ≡ i + 1 + k = omega arith in subst (λ j. draw j ≡ honest m atoms u) n (h (suc k) u e)

  draws_now : (i : ℕ) (t : Tree) (ts : List Tree) → Draws i (t ∷ ts) → draw i ≡ honest m atoms t
  unfolding Draws
  draws_now i t ts h = let n : i + 0 ≡ i = omega arith in subst (λ j. draw j ≡ honest m atoms t) n (h 0 t refl)

  -- what comes of these events, over labels that have honest values
  walks : (es : List Event) (frame : List Tree) (vs : List A) (e i n : ℕ) → vs ≡ map (honest m atoms) frame → CanSend m.has frame es → LabelsAreFormed m.has es → AreFormed m.has (trees_of frame) → Draws i (made es)
      → Walk m draw es frame vs e i (map (honest m atoms) (take n (heard es))) (honest_from m atoms es e n)
  unfolding Draws
  walks [] frame vs e i zero is can formed all drawn = refl
  walks [] frame vs e i (suc n) is can formed all drawn = refl
  walks (know t ∷ es) frame vs e i n is can formed all drawn = walks es frame vs e i n is can formed.1 all drawn
  walks (fresh t ∷ es) frame vs e i n is can formed all drawn =
      let grown : vs ++ draw i ∷ [] ≡ map (honest m atoms) (frame ++ t ∷ []) =
      ap (λ l. l ++ draw i ∷ []) is ∙ ap (λ x. map (honest m atoms) frame ++ x ∷ []) (draws_now i t (made es) drawn) ∙ sym (map-append (honest m atoms) frame (t ∷ [])) in
      walks es (frame ++ t ∷ []) (vs ++ draw i ∷ []) e (i + 1) n grown can formed.1 (one_formed m frame t all formed.0) (draws_on i t (made es) drawn)
  walks (send t ∷ es) frame vs e i n is can formed all drawn =
      let own = (agrees atoms frame good all).2 in
      (honest m atoms t, honest_from m atoms es (e + 1) n, (can.0, λ r er. ap (λ l. value m l r) is ∙ own r t er), walks es frame vs (e + 1) i n is can.1 formed all drawn, refl)
  walks (recv t ∷ es) frame vs e i zero is can formed all drawn = refl
  walks (recv t ∷ es) frame vs e i (suc n) is can formed all drawn =
      let grown : vs ++ honest m atoms t ∷ [] ≡ map (honest m atoms) (frame ++ t ∷ []) = ap (λ l. l ++ honest m atoms t ∷ []) is ∙ sym (map-append (honest m atoms) frame (t ∷ [])) in
      let later = one_formed m frame t all formed.0 in
      inl (
        subst (Agree m (frame ++ t ∷ [])) (sym grown) (agrees atoms (frame ++ t ∷ []) good later).1,
        walks es (frame ++ t ∷ []) (vs ++ honest m atoms t ∷ []) (e + 1) i n grown can formed.1 later drawn,
      )

pub honest_plays : {A : Type 0} (m : Meaning A) → HonestAgree m → HonestPlays m
unfolding Draws
honest_plays m agrees draw atoms plan n good can formed drawn =
    let all = known_formed m plan formed in
    let from_none : (k : ℕ) (t : Tree) → slice_get (made plan) k ≡ Some t → draw (0 + k) ≡ honest m atoms t =
    λ k t e. (let none : k ≡ 0 + k = omega arith in subst (λ j. draw j ≡ honest m atoms t) none (drawn k t e)) in
    inl ((agrees atoms (known plan) good all).1, walks m agrees draw atoms good plan (known plan) (map (honest m atoms) (known plan)) 0 0 n refl can formed all from_none)
