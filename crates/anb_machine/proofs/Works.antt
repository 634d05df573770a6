-- Works on registers.
use Rattle.std.proofs.Common.{◌≡◌, ◌<◌, ℕ, List, [], ◌∷◌, ◌++◌, length, Bool, true, false, cond, IsTrue, Some, None, option_map, refl, sym, ap, ◌∙◌, subst, arith, length-append}
use Rattle.std.specs.Prelude.{slice_get, ◌↔◌}
use Rattle.std.proofs.lemmas.List.Elements.{recursion_from_All}
use Rattle.std.proofs.lemmas.List.{append-nil}
use Rattle.anb_term.specs.Demand.{alike}
use Rattle.anb_term.specs.Lawful.{Lawful, picked}
use Rattle.anb_term.specs.Value.{Meaning}
use Rattle.anb_term.proofs.Lists.{slice_get-there, picked_length}
use Rattle.anb_term.proofs.Steps.{bound}
use Rattle.anb_term.proofs.Values.{counted}
use Rattle.anb_plays.specs.Codes.{Work, make, undo, equal}
use Rattle.anb_plays.specs.Exec.{worked, IsReady, count_written}

module _ {A : Type 0} (m : Meaning A) (lawful : Lawful m) (table : List A) (a b : ℕ) where
  -- the result of comparing is whether the demand is true
  alike_as : (x y : A) (same went : Bool) → m.same x y ≡ same → slice_get table a ≡ Some x → slice_get table b ≡ Some y → (IsTrue went ↔ (slice_get table a ≡ slice_get table b))
      → option_map (λ ws. table ++ ws) (worked m table (equal a b)) ≡ cond went (Some table) None
  alike_as x y true true e ea eb h = rw (ea, eb, e, append-nil table) refl
  alike_as x y true false e ea eb h = let is : x ≡ y = lawful.tells x y e in let no : false ≡ true = h.1 (ea ∙ ap Some is ∙ sym eb) in cc
  alike_as x y false true e ea eb h =
      let is : Some x ≡ Some y = sym ea ∙ h.0 refl ∙ eb in
      let one : x ≡ y = cc in
      let yes : m.same x y ≡ true = subst (λ z. m.same x z ≡ true) one (lawful.itself x) in cc
  alike_as x y false false e ea eb h = rw (ea, eb, e) refl

  pub compared : (went : Bool) → a < length table → b < length table → (IsTrue went ↔ (slice_get table a ≡ slice_get table b))
      → option_map (λ ws. table ++ ws) (worked m table (equal a b)) ≡ cond went (Some table) None
  compared went ha hb h =
      let x = slice_get-there table a ha in
      let y = slice_get-there table b hb in
      alike_as x.0 y.0 (m.same x.0 y.0) went refl x.1 y.1 h

nothing_written : {A : Type 0} (b : Bool) (ws : List A) → cond b (Some []) None ≡ Some ws → length ws ≡ 0
nothing_written true ws e = let s : [] ≡ ws = cc in sym (ap length s)
nothing_written false ws e = cc

-- as many registers are written as the work says
pub written_count : {A : Type 0} (m : Meaning A) → Lawful m → (table ws : List A) (w : Work) → IsReady m.has (length table) w → worked m table w ≡ Some ws → length ws ≡ count_written w
written_count m lawful table ws (make o ns) ready e = let s : m.built o (picked table ns) ∷ [] ≡ ws = cc in sym (ap length s)
written_count m lawful table ws (undo o ks n) ready e =
    let v = bound (m.undone o (picked table ks)) (slice_get table n) ws e in
    let k = picked_length table ks (recursion_from_All (λ j. j < length table) ks ready.2) in
    omega (arith, counted m lawful o (picked table ks) ws v.0 ready.0 (k ∙ ready.1) v.2, length-append (picked table ks) ws, k, ready.1)
written_count m lawful table ws (equal a b) ready e = nothing_written (alike m (slice_get table a) (slice_get table b)) ws e
