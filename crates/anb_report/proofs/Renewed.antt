-- The registers of a run, and what they are where parts of arrivals are replaced.
use Rattle.std.proofs.Common.{◌≡◌, ℕ, zero, suc, ◌+◌, ◌≤◌, ◌<◌, List, [], ◌∷◌, ◌++◌, length, take, drop, IsTrue, Option, Some, None, refl, sym, ap, ◌∙◌, arith, length-append}
use Rattle.std.specs.Prelude.{slice_get, option_and_then}
use Rattle.std.specs.List.{AllByRecursion}
use Rattle.std.proofs.lemmas.List.{length-set}
use Rattle.std.proofs.lemmas.List.Elements.{All-from_recursion, recursion_from_All}
use Rattle.anb_lemmas.proofs.Each.{each_got}
use Rattle.anb_term.specs.declared.term.Op.{Op}
use Rattle.anb_term.specs.Operator.{arity, keys, undoable}
use Rattle.anb_term.specs.Value.{Meaning}
use Rattle.anb_term.specs.Lawful.{Lawful, AreValues, picked}
use Rattle.anb_term.proofs.Lists.{slice_get-append, slice_get-there}
use Rattle.anb_term.proofs.Values.{could}
use Rattle.anb_plays.specs.Codes.{Act, takes, draws, receives, sends, works, Work, make, undo, equal}
use Rattle.anb_plays.specs.Exec.{worked, on_written, count_written, IsReady}
use Rattle.anb_report.specs.Laws.{registers, changed, built_anew, renewed}
use Rattle.anb_report.proofs.Tables.{picked_count, picked_all}

module _ {A : Type 0} (m : Meaning A) (draw : ℕ → A) where
  -- what is written stays
  pub registers_keep : (acts : List Act) (T : List A) (i : ℕ) (arrivals : List A) (r : ℕ) (x : A) → slice_get T r ≡ Some x → slice_get (registers m draw acts T i arrivals) r ≡ Some x
  registers_keep [] T i arrivals r x e = e
  registers_keep (takes ∷ acts) T i arrivals r x e = registers_keep acts T i arrivals r x e
  registers_keep (draws ∷ acts) T i arrivals r x e = registers_keep acts (T ++ draw i ∷ []) (i + 1) arrivals r x (slice_get-append T (draw i ∷ []) r x e)
  registers_keep (receives ∷ acts) T i [] r x e = e
  registers_keep (receives ∷ acts) T i (y ∷ arrivals) r x e = registers_keep acts (T ++ y ∷ []) i arrivals r x (slice_get-append T (y ∷ []) r x e)
  registers_keep (sends n ∷ acts) T i arrivals r x e = registers_keep acts T i arrivals r x e
  registers_keep (works w ∷ acts) T i arrivals r x e = by (worked m T w) (λ ws. registers_keep acts (T ++ ws) i arrivals r x (slice_get-append T ws r x e))
    where
      by : (o : Option (List A)) → ((ws : List A) → slice_get (registers m draw acts (T ++ ws) i arrivals) r ≡ Some x)
          → slice_get (on_written o (λ ws. registers m draw acts (T ++ ws) i arrivals) T) r ≡ Some x
      by None ih = e
      by (Some ws) ih = ih ws

  pub registers_long : (acts : List Act) (T : List A) (i : ℕ) (arrivals : List A) → length T ≤ length (registers m draw acts T i arrivals)
  registers_long [] T i arrivals = omega arith
  registers_long (takes ∷ acts) T i arrivals = registers_long acts T i arrivals
  registers_long (draws ∷ acts) T i arrivals = omega (arith, registers_long acts (T ++ draw i ∷ []) (i + 1) arrivals, length-append T (draw i ∷ []))
  registers_long (receives ∷ acts) T i [] = omega arith
  registers_long (receives ∷ acts) T i (y ∷ arrivals) = omega (arith, registers_long acts (T ++ y ∷ []) i arrivals, length-append T (y ∷ []))
  registers_long (sends n ∷ acts) T i arrivals = registers_long acts T i arrivals
  registers_long (works w ∷ acts) T i arrivals = by (worked m T w) (λ ws. registers_long acts (T ++ ws) i arrivals)
    where
      by : (o : Option (List A)) → ((ws : List A) → length (T ++ ws) ≤ length (registers m draw acts (T ++ ws) i arrivals))
          → length T ≤ length (on_written o (λ ws. registers m draw acts (T ++ ws) i arrivals) T)
      by None ih = omega arith
      by (Some ws) ih = omega (arith, ih ws, length-append T ws)

  module _ (change : ℕ → A → A) where
    pub changed_at : (k : ℕ) (T : List A) (r : ℕ) (x : A) → slice_get T r ≡ Some x → slice_get (changed m draw change k T) r ≡ Some (change (k + r) x)
    changed_at k [] r x e = cc
    changed_at k (y ∷ T) zero x e =
        let s : y ≡ x = cc in
        let z : k ≡ k + 0 = omega arith in
        ap (λ v. Some (change k v)) s ∙ ap (λ n. Some (change n x)) z
    changed_at k (y ∷ T) (suc r) x e =
        let z : (k + 1) + r ≡ k + suc r = omega arith in
        changed_at (k + 1) T r x e ∙ ap (λ n. Some (change n x)) z

    pub changed_here : (T : List A) (r : ℕ) (x : A) → slice_get T r ≡ Some x → slice_get (changed m draw change 0 T) r ≡ Some (change r x)
    changed_here T r x e = let z : 0 + r ≡ r = omega arith in changed_at 0 T r x e ∙ ap (λ n. Some (change n x)) z

    pub changed_length : (k : ℕ) (T : List A) → length (changed m draw change k T) ≡ length T
    changed_length k [] = refl
    changed_length k (x ∷ T) = ap suc (changed_length (k + 1) T)

    anew_length : (w : Work) (first count : ℕ) (X : List A) → length (built_anew m draw change w first count X) ≡ length X
    anew_length (make o ns) first count X = refl
    anew_length (undo o ks n) first count X = length-set X n (m.built o (picked X ks ++ take count (drop first X)))
    anew_length (equal a b) first count X = refl

    pub renewed_length : (acts : List Act) (T : List A) (i : ℕ) (arrivals : List A) → length (renewed m draw change acts T i arrivals) ≡ length (registers m draw acts T i arrivals)
    renewed_length [] T i arrivals = changed_length 0 T
    renewed_length (takes ∷ acts) T i arrivals = renewed_length acts T i arrivals
    renewed_length (draws ∷ acts) T i arrivals = renewed_length acts (T ++ draw i ∷ []) (i + 1) arrivals
    renewed_length (receives ∷ acts) T i [] = changed_length 0 T
    renewed_length (receives ∷ acts) T i (y ∷ arrivals) = renewed_length acts (T ++ y ∷ []) i arrivals
    renewed_length (sends n ∷ acts) T i arrivals = renewed_length acts T i arrivals
    renewed_length (works w ∷ acts) T i arrivals = by (worked m T w) (λ ws. renewed_length acts (T ++ ws) i arrivals)
      where
        by : (o : Option (List A)) → ((ws : List A) → length (renewed m draw change acts (T ++ ws) i arrivals) ≡ length (registers m draw acts (T ++ ws) i arrivals))
            → length (on_written o (λ ws. built_anew m draw change w (length T) (length ws) (renewed m draw change acts (T ++ ws) i arrivals)) (changed m draw change 0 T))
            ≡ length (on_written o (λ ws. registers m draw acts (T ++ ws) i arrivals) T)
        by None ih = changed_length 0 T
        by (Some ws) ih = anew_length w (length T) (length ws) (renewed m draw change acts (T ++ ws) i arrivals) ∙ ih ws

-- ---- values

-- each is a value of the algebra
abbrev pub Valued : {A : Type 0} → Meaning A → List A → Type 0
Valued m vs = AllByRecursion (λ x. IsTrue (m.is_value x)) vs

module _ {A : Type 0} (m : Meaning A) (lawful : Lawful m) (draw : ℕ → A) (draw_is : (i : ℕ) → IsTrue (m.is_value (draw i))) where
  pub picked_values : (T : List A) (ns : List ℕ) → Valued m T → Valued m (picked T ns)
  picked_values T ns valued = picked_all (λ x. IsTrue (m.is_value x)) T ns (λ n x e. each_got (λ z. IsTrue (m.is_value z)) T n x valued e)

  pub as_values : (xs : List A) → Valued m xs → AreValues m xs
  as_values xs h = All-from_recursion (λ x. IsTrue (m.is_value x)) xs h

  -- what is made is a value
  pub made_is : (T : List A) (o : Op) (ns : List ℕ) → IsReady m.has (length T) (make o ns) → Valued m T → IsTrue (m.is_value (m.built o (picked T ns)))
  made_is T o ns ready valued =
      let long : length (picked T ns) ≡ arity o = picked_count T ns (recursion_from_All (λ k. k < length T) ns ready.2) ∙ ready.1 in
      lawful.builds o (picked T ns) ready.0 long (as_values (picked T ns) (picked_values T ns valued))

  -- what an undoing is of
  pub record Undone (T : List A) (o : Op) (ks : List ℕ) (n : ℕ) (ws : List A) : Type 0 where
    pub of : A
    pub at : slice_get T n ≡ Some of
    pub undone : m.undone o (picked T ks) of ≡ Some ws
    pub could_be : IsTrue (undoable o)
    pub keys_long : length (picked T ks) ≡ keys o
    pub built : m.built o (picked T ks ++ ws) ≡ of
    pub long : length (picked T ks ++ ws) ≡ arity o
    pub parts : Valued m ws

  pub undone_of_table : (T : List A) (o : Op) (ks : List ℕ) (n : ℕ) (ws : List A) → IsReady m.has (length T) (undo o ks n) → Valued m T → worked m T (undo o ks n) ≡ Some ws → Undone T o ks n ws
  undone_of_table T o ks n ws ready valued e =
      let v = slice_get-there T n ready.3 in
      let u : m.undone o (picked T ks) v.0 ≡ Some ws = sym (ap (option_and_then (m.undone o (picked T ks))) v.1) ∙ e in
      let long : length (picked T ks) ≡ keys o = picked_count T ks (recursion_from_All (λ k. k < length T) ks ready.2) ∙ ready.1 in
      let c = could m lawful o (picked T ks) ws v.0 u in
      let is = each_got (λ z. IsTrue (m.is_value z)) T n v.0 valued v.1 in
      let d = lawful.undoes o (picked T ks) ws v.0 c ready.0 long (as_values (picked T ks) (picked_values T ks valued)) is u in
      record {
        of = v.0;
        at = v.1;
        undone = u;
        could_be = c;
        keys_long = long;
        built = d.0;
        long = d.1;
        parts = recursion_from_All (λ x. IsTrue (m.is_value x)) ws d.2;
      }

  pub parts_count : (T : List A) (o : Op) (ks : List ℕ) (n : ℕ) (ws : List A) → Undone T o ks n ws → length ws ≡ count_written (undo o ks n)
  parts_count T o ks n ws u = omega (arith, u.long, u.keys_long, length-append (picked T ks) ws)
