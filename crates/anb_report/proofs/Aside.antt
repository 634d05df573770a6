-- A register that nothing opens gets the value that it is changed to.
use Rattle.std.proofs.Common.{◌≡◌, ℕ, zero, suc, ◌+◌, List, [], ◌∷◌, ◌++◌, length, take, drop, true, false, Option, Some, None, refl, sym, ap, ◌∙◌, arith}
use Rattle.std.specs.Prelude.{slice_get, option_map}
use Rattle.anb_term.specs.Value.{Meaning}
use Rattle.anb_term.specs.Lawful.{picked}
use Rattle.anb_plays.specs.Codes.{Act, takes, draws, receives, sends, works, Work, make, undo, equal}
use Rattle.anb_plays.specs.Exec.{worked, on_written}
use Rattle.anb_report.specs.Looking.{is_among}
use Rattle.anb_report.specs.Laws.{registers, changed, built_anew, renewed}
use Rattle.anb_report.proofs.Tables.{among_first, among_neither, set_apart}
use Rattle.anb_report.proofs.Walking.{opens}
use Rattle.anb_report.proofs.Bridging.{opened_acts}

no_more : (n r : ℕ) → is_among (n ∷ []) r ≡ false → n ≡ r → ⊥
no_more n r f s = let t : is_among (n ∷ []) r ≡ true = ap (λ k. is_among (n ∷ []) k) (sym s) ∙ among_first n [] in cc

module _ {A : Type 0} (m : Meaning A) (draw : ℕ → A) (change : ℕ → A → A) where
  changed_each : (k : ℕ) (T : List A) (r : ℕ) → slice_get (changed m draw change k T) r ≡ option_map (change (k + r)) (slice_get T r)
  changed_each k [] r = refl
  changed_each k (x ∷ T) zero = let z : k ≡ k + 0 = omega arith in ap (λ n. Some (change n x)) z
  changed_each k (x ∷ T) (suc r) =
      let z : (k + 1) + r ≡ k + suc r = omega arith in
      changed_each (k + 1) T r ∙ ap (λ n. option_map (change n) (slice_get T r)) z

  changed_one : (T : List A) (r : ℕ) → slice_get (changed m draw change 0 T) r ≡ option_map (change r) (slice_get T r)
  changed_one T r = let z : 0 + r ≡ r = omega arith in changed_each 0 T r ∙ ap (λ n. option_map (change n) (slice_get T r)) z

  apart_from : (w : Work) (first count : ℕ) (X : List A) (r : ℕ) → is_among (opens w) r ≡ false → slice_get (built_anew m draw change w first count X) r ≡ slice_get X r
  apart_from (make o ns) first count X r f = refl
  apart_from (undo o ks n) first count X r f = set_apart X n r (m.built o (picked X ks ++ take count (drop first X))) (no_more n r f)
  apart_from (equal a b) first count X r f = refl

  pub unopened : (acts : List Act) (T : List A) (i : ℕ) (arrivals : List A) (r : ℕ) → is_among (opened_acts acts) r ≡ false
      → slice_get (renewed m draw change acts T i arrivals) r ≡ option_map (change r) (slice_get (registers m draw acts T i arrivals) r)
  unopened [] T i arrivals r f = changed_one T r
  unopened (takes ∷ acts) T i arrivals r f = unopened acts T i arrivals r f
  unopened (draws ∷ acts) T i arrivals r f = unopened acts (T ++ draw i ∷ []) (i + 1) arrivals r f
  unopened (receives ∷ acts) T i [] r f = changed_one T r
  unopened (receives ∷ acts) T i (x ∷ arrivals) r f = unopened acts (T ++ x ∷ []) i arrivals r f
  unopened (sends n ∷ acts) T i arrivals r f = unopened acts T i arrivals r f
  unopened (works w ∷ acts) T i arrivals r f =
      let both = among_neither (opens w) (opened_acts acts) r f in
      by both.0 (worked m T w) (λ ws. unopened acts (T ++ ws) i arrivals r both.1)
    where
      by : is_among (opens w) r ≡ false → (o : Option (List A))
          → ((ws : List A) → slice_get (renewed m draw change acts (T ++ ws) i arrivals) r ≡ option_map (change r) (slice_get (registers m draw acts (T ++ ws) i arrivals) r))
          → slice_get (on_written o (λ ws. built_anew m draw change w (length T) (length ws) (renewed m draw change acts (T ++ ws) i arrivals)) (changed m draw change 0 T)) r
          ≡ option_map (change r) (slice_get (on_written o (λ ws. registers m draw acts (T ++ ws) i arrivals) T) r)
      by apart None ih = changed_one T r
      by apart (Some ws) ih = apart_from w (length T) (length ws) (renewed m draw change acts (T ++ ws) i arrivals) r apart ∙ ih ws
