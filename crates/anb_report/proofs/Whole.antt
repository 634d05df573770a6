-- What is looked at as a whole is the same after parts of arrivals were replaced, and all is a value still.
use Rattle.std.proofs.Common.{◌≡◌, ℕ, zero, suc, ◌+◌, ◌≤◌, ◌<◌, List, [], ◌∷◌, ◌++◌, length, take, drop, Bool, true, false, IsTrue, Option, Some, None, refl, sym, ap, ◌∙◌, subst, arith, length-append, ◌⊎◌, inl, inr}
use Rattle.std.specs.Prelude.{slice_get, slice_set, if◌then◌else◌}
use Rattle.std.specs.List.{AllByRecursion}
use Rattle.std.proofs.lemmas.List.Elements.{recursion_from_All}
use Rattle.anb_lemmas.proofs.Numbers.{same_or_not}
use Rattle.anb_lemmas.proofs.Each.{each_in_both}
use Rattle.anb_lemmas.proofs.Lists.{got_within}
use Rattle.anb_term.specs.declared.term.Op.{Op}
use Rattle.anb_term.specs.Operator.{arity, keys}
use Rattle.anb_term.specs.Value.{Meaning}
use Rattle.anb_term.specs.Lawful.{Lawful, picked}
use Rattle.anb_term.proofs.Lists.{slice_get-append, slice_get-there, all_take, all_drop}
use Rattle.anb_plays.specs.Codes.{Act, takes, draws, receives, sends, works, make, undo, equal}
use Rattle.anb_plays.specs.Exec.{worked, on_written, count_written, IsReady, IsVerified, NoTakes}
use Rattle.anb_report.specs.Looking.{is_among}
use Rattle.anb_report.specs.Laws.{registers, changed, renewed}
use Rattle.anb_report.proofs.Tables.{among_first, among_rest, get_behind, get_window, window_length, same_lists, set_apart, set_there, picked_count}
use Rattle.anb_report.proofs.Renewed.{registers_keep, registers_long, changed_here, renewed_length, Valued, picked_values, as_values, made_is, Undone, undone_of_table, parts_count}
use Rattle.anb_report.proofs.Walking.{Walks, UndoesWell}

-- where a list is there or not
pub written_or : {B : Type 0} (o : Option B) → (o ≡ None) ⊎ ((x : B) × (o ≡ Some x))
written_or None = inl refl
written_or (Some x) = inr (x, refl)

module _ {A : Type 0} (m : Meaning A) (lawful : Lawful m) (draw : ℕ → A) (draw_is : (i : ℕ) → IsTrue (m.is_value (draw i)))
    (change : ℕ → A → A) (change_is : (n : ℕ) (x : A) → IsTrue (m.is_value x) → IsTrue (m.is_value (change n x)))
    (whole brought fixed : ℕ → Bool) (keeps : (n : ℕ) (x : A) → fixed n ≡ true → change n x ≡ x) (kept : (n : ℕ) → whole n ≡ true → fixed n ≡ true) where
  changed_values : (k : ℕ) (T : List A) → Valued m T → Valued m (changed m draw change k T)
  changed_values k [] h = tt
  changed_values k (x ∷ T) h = (change_is k x h.0, changed_values (k + 1) T h.1)

  set_values : (X : List A) (n : ℕ) (v : A) → Valued m X → IsTrue (m.is_value v) → Valued m (slice_set X n v)
  set_values [] n v h is = tt
  set_values (x ∷ X) zero v h is = (is, h.1)
  set_values (x ∷ X) (suc n) v h is = (h.0, set_values X n v h.1 is)

  pub one_value : (x : A) → IsTrue (m.is_value x) → Valued m (x ∷ [])
  one_value x is = (is, tt)

  pub more_values : (T ws : List A) → Valued m T → Valued m ws → Valued m (T ++ ws)
  more_values T ws h k = each_in_both (λ x. IsTrue (m.is_value x)) T ws h k

  -- what was opened is a value when it is built anew
  pub anew_is : (T : List A) (o : Op) (ks : List ℕ) (n : ℕ) (ws X : List A) → IsReady m.has (length T) (undo o ks n) → Undone m lawful draw draw_is T o ks n ws
      → Valued m X → length T + length ws ≤ length X → IsTrue (m.is_value (m.built o (picked X ks ++ take (length ws) (drop (length T) X))))
  anew_is T o ks n ws X ready u valued long =
      let within : AllByRecursion (λ k. k < length X) ks = less ks (recursion_from_All (λ k. k < length T) ks ready.2) in
      let parts = take (length ws) (drop (length T) X) in
      let count = window_length X (length T) (length ws) long in
      let many : length (picked X ks ++ parts) ≡ arity o = omega (arith, length-append (picked X ks) parts, length-append (picked T ks) ws, picked_count X ks within, ready.1, u.keys_long, u.long, count) in
      let are = more_values (picked X ks) parts (picked_values m lawful draw draw_is X ks valued)
      (all_take (λ x. IsTrue (m.is_value x)) (length ws) (drop (length T) X) (all_drop (λ x. IsTrue (m.is_value x)) (length T) X valued)) in
      lawful.builds o (picked X ks ++ parts) ready.0 many (as_values m lawful draw draw_is (picked X ks ++ parts) are)
    where
      less : (ks : List ℕ) → AllByRecursion (λ k. k < length T) ks → AllByRecursion (λ k. k < length X) ks
      less [] h = tt
      less (k ∷ ks) h = (omega (arith, h.0, long), less ks h.1)

  -- a run's registers, where they are replaced so, are values
  pub renewed_values : (acts : List Act) (T : List A) (next i : ℕ) (arrivals : List A) → length T ≡ next → NoTakes m.has acts → IsVerified m.has acts next → Valued m T → Valued m arrivals
      → Valued m (renewed m draw change acts T i arrivals)
  renewed_values [] T next i arrivals long none verified h k = changed_values 0 T h
  renewed_values (takes ∷ acts) T next i arrivals long none verified h k = absurd none
  renewed_values (draws ∷ acts) T next i arrivals long none verified h k =
      renewed_values acts (T ++ draw i ∷ []) (next + 1) (i + 1) arrivals (omega (arith, length-append T (draw i ∷ []), long)) none verified (more_values T (draw i ∷ []) h (one_value (draw i) (draw_is i))) k
  renewed_values (receives ∷ acts) T next i [] long none verified h k = changed_values 0 T h
  renewed_values (receives ∷ acts) T next i (x ∷ arrivals) long none verified h k =
      renewed_values acts (T ++ x ∷ []) (next + 1) i arrivals (omega (arith, length-append T (x ∷ []), long)) none verified (more_values T (x ∷ []) h (one_value x k.0)) k.1
  renewed_values (sends r ∷ acts) T next i arrivals long none verified h k = renewed_values acts T next i arrivals long none verified.1 h k
  renewed_values (works (make o ns) ∷ acts) T next i arrivals long none verified h k =
      let b = m.built o (picked T ns) in
      let is = made_is m lawful draw draw_is T o ns (subst (λ n. IsReady m.has n (make o ns)) (sym long) verified.0) h in
      renewed_values acts (T ++ b ∷ []) (next + 1) i arrivals (omega (arith, length-append T (b ∷ []), long)) none verified.1 (more_values T (b ∷ []) h (one_value b is)) k
  renewed_values (works (undo o ks n) ∷ acts) T next i arrivals long none verified h k =
      by (written_or (worked m T (undo o ks n)))
      (λ ws at are. renewed_values acts (T ++ ws) (next + count_written (undo o ks n)) i arrivals at none verified.1 (more_values T ws h are) k)
    where
      Rest : Type 0
      Rest = (ws : List A) → length (T ++ ws) ≡ next + count_written (undo o ks n) → Valued m ws → Valued m (renewed m draw change acts (T ++ ws) i arrivals)

      ready : IsReady m.has (length T) (undo o ks n)
      ready = subst (λ j. IsReady m.has j (undo o ks n)) (sym long) verified.0

      by : (worked m T (undo o ks n) ≡ None) ⊎ ((ws : List A) × (worked m T (undo o ks n) ≡ Some ws)) → Rest → Valued m (renewed m draw change (works (undo o ks n) ∷ acts) T i arrivals)
      by (inl e) ih = rw e (changed_values 0 T h)
      by (inr x) ih =
          let ws = x.0 in
          let u = undone_of_table m lawful draw draw_is T o ks n ws ready h x.1 in
          let count = parts_count m lawful draw draw_is T o ks n ws u in
          let X = renewed m draw change acts (T ++ ws) i arrivals in
          let at : length (T ++ ws) ≡ next + count_written (undo o ks n) = omega (arith, length-append T ws, long, count) in
          let are = ih ws at u.parts in
          let wide : length T + length ws ≤ length X = omega (arith, renewed_length m draw change acts (T ++ ws) i arrivals, registers_long m draw acts (T ++ ws) i arrivals, length-append T ws) in
          rw x.1 (set_values X n _ are (anew_is T o ks n ws X ready u are wide))
  renewed_values (works (equal a b) ∷ acts) T next i arrivals long none verified h k =
      by (written_or (worked m T (equal a b))) (λ ws at are. renewed_values acts (T ++ ws) (next + 0) i arrivals at none verified.1 (more_values T ws h are) k)
    where
      Rest : Type 0
      Rest = (ws : List A) → length (T ++ ws) ≡ next + 0 → Valued m ws → Valued m (renewed m draw change acts (T ++ ws) i arrivals)

      nothing : (c : Bool) (ws : List A) → (if c then Some [] else None) ≡ Some ws → [] ≡ ws
      nothing true ws e = cc
      nothing false ws e = cc

      by : (worked m T (equal a b) ≡ None) ⊎ ((ws : List A) × (worked m T (equal a b) ≡ Some ws)) → Rest → Valued m (renewed m draw change (works (equal a b) ∷ acts) T i arrivals)
      by (inl e) ih = rw e (changed_values 0 T h)
      by (inr x) ih =
          let none_written : [] ≡ x.0 = nothing _ x.0 x.1 in
          let at : length (T ++ x.0) ≡ next + 0 = omega (arith, length-append T x.0, long, ap length none_written) in
          let ws_are : Valued m x.0 = subst (λ l. Valued m l) none_written tt in
          rw x.1 (ih x.0 at ws_are)

  -- ---- what is looked at as a whole

  -- what an undoing wrote stands behind the table, also in the whole run's registers
  pub written_there : (acts : List Act) (T ws : List A) (i : ℕ) (arrivals : List A) (j : ℕ) (y : A) → slice_get ws j ≡ Some y
      → slice_get (registers m draw acts (T ++ ws) i arrivals) (length T + j) ≡ Some y
  written_there acts T ws i arrivals j y e = registers_keep m draw acts (T ++ ws) i arrivals (length T + j) y (get_behind T ws j ∙ e)

  -- the parts of what is looked at so are the same
  pub parts_same : (T ws F X : List A) → length T + length ws ≤ length X
      → ((j : ℕ) (y : A) → slice_get ws j ≡ Some y → slice_get F (length T + j) ≡ Some y)
      → ((r : ℕ) (y : A) → length T ≤ r → r < length T + length ws → slice_get F r ≡ Some y → slice_get X r ≡ Some y)
      → take (length ws) (drop (length T) X) ≡ ws
  parts_same T ws F X wide there same =
      same_lists (take (length ws) (drop (length T) X)) ws (window_length X (length T) (length ws) wide) each
    where
      each : (j : ℕ) → j < length (take (length ws) (drop (length T) X)) → slice_get (take (length ws) (drop (length T) X)) j ≡ slice_get ws j
      each j h =
          let less : j < length ws = omega (arith, h, window_length X (length T) (length ws) wide) in
          let y = slice_get-there ws j less in
          get_window X (length T) (length ws) j less ∙ same (length T + j) y.0 (omega arith) (omega (arith, less)) (there j y.0 y.1) ∙ sym y.1

  abbrev pub StaysWhole : List Act → Type 0
  StaysWhole acts = (T : List A) (next i : ℕ) (arrivals : List A) (before : List ℕ) → length T ≡ next → NoTakes m.has acts → IsVerified m.has acts next → Walks whole brought fixed acts next before
      → Valued m T → Valued m arrivals → (r : ℕ) (x : A) → whole r ≡ true → slice_get (registers m draw acts T i arrivals) r ≡ Some x → slice_get (renewed m draw change acts T i arrivals) r ≡ Some x

  ends_whole : (T : List A) (r : ℕ) (x : A) → whole r ≡ true → slice_get T r ≡ Some x → slice_get (changed m draw change 0 T) r ≡ Some x
  ends_whole T r x w e = changed_here m draw change T r x e ∙ ap Some (keeps r x (kept r w))

  -- the keys are the same
  pub keys_same : (T ws F X : List A) (ks : List ℕ) → AllByRecursion (λ k. k < length T) ks → ((k : ℕ) → is_among ks k ≡ true → whole k ≡ true)
      → ((k : ℕ) (y : A) → slice_get T k ≡ Some y → slice_get F k ≡ Some y) → ((r : ℕ) (y : A) → whole r ≡ true → slice_get F r ≡ Some y → slice_get X r ≡ Some y)
      → picked X ks ≡ picked T ks
  keys_same T ws F X [] below keys grows same = refl
  keys_same T ws F X (k ∷ ks) below keys grows same =
      let y = slice_get-there T k below.0 in
      let here : slice_get X k ≡ slice_get T k = same k y.0 (keys k (among_first k ks)) (grows k y.0 y.1) ∙ sym y.1 in
      let rest = keys_same T ws F X ks below.1 (λ j e. keys j (among_rest k ks j e)) grows same in
      rw (here, rest) refl

  undo_whole : (acts : List Act) (ih : StaysWhole acts) (o : Op) (ks : List ℕ) (n : ℕ) (T ws : List A) (next i : ℕ) (arrivals : List A) (before : List ℕ) → length T ≡ next → NoTakes m.has acts
      → IsReady m.has (length T) (undo o ks n) → IsVerified m.has acts (next + count_written (undo o ks n)) → UndoesWell whole brought fixed ks n next (count_written (undo o ks n)) before
      → Walks whole brought fixed acts (next + count_written (undo o ks n)) (before ++ n ∷ []) → Valued m T → Valued m arrivals → Undone m lawful draw draw_is T o ks n ws
      → (r : ℕ) (x : A) → whole r ≡ true → slice_get (registers m draw acts (T ++ ws) i arrivals) r ≡ Some x
      → slice_get (slice_set (renewed m draw change acts (T ++ ws) i arrivals) n (m.built o (picked (renewed m draw change acts (T ++ ws) i arrivals) ks ++ take (length ws) (drop (length T) (renewed m draw change acts (T ++ ws) i arrivals))))) r ≡ Some x
  undo_whole acts ih o ks n T ws next i arrivals before long none ready verified well walks h k u r x w e = by (same_or_not n r)
    where
      count : length ws ≡ count_written (undo o ks n)
      count = parts_count m lawful draw draw_is T o ks n ws u

      F : List A
      F = registers m draw acts (T ++ ws) i arrivals

      X : List A
      X = renewed m draw change acts (T ++ ws) i arrivals

      at : length (T ++ ws) ≡ next + count_written (undo o ks n)
      at = omega (arith, length-append T ws, long, count)

      same : (r : ℕ) (y : A) → whole r ≡ true → slice_get F r ≡ Some y → slice_get X r ≡ Some y
      same r y w e = ih (T ++ ws) (next + count_written (undo o ks n)) i arrivals (before ++ n ∷ []) at none verified walks (more_values T ws h u.parts) k r y w e

      wide : length T + length ws ≤ length X
      wide = omega (arith, renewed_length m draw change acts (T ++ ws) i arrivals, registers_long m draw acts (T ++ ws) i arrivals, length-append T ws)

      grows : (k : ℕ) (y : A) → slice_get T k ≡ Some y → slice_get F k ≡ Some y
      grows k y e = registers_keep m draw acts (T ++ ws) i arrivals k y (slice_get-append T ws k y e)

      by : (n ≡ r) ⊎ (n ≡ r → ⊥) → slice_get (slice_set X n (m.built o (picked X ks ++ take (length ws) (drop (length T) X)))) r ≡ Some x
      by (inr other) = set_apart X n r _ other ∙ same r x w e
      by (inl s) =
          let wn : whole n ≡ true = ap whole s ∙ w in
          let keyed : picked X ks ≡ picked T ks = keys_same T ws F X ks (recursion_from_All (λ k. k < length T) ks ready.2) well.keys grows same in
          let parts : take (length ws) (drop (length T) X) ≡ ws = parts_same T ws F X wide (λ j y e. written_there acts T ws i arrivals j y e)
          (λ r y a b e. same r y (well.parts wn r (omega (arith, a, long)) (omega (arith, b, long, count))) e) in
          let built : m.built o (picked X ks ++ take (length ws) (drop (length T) X)) ≡ u.of = ap (λ l. m.built o (l ++ take (length ws) (drop (length T) X))) keyed ∙ ap (λ l. m.built o (picked T ks ++ l)) parts ∙ u.built in
          let here : slice_get F n ≡ Some u.of = grows n u.of u.at in
          let of_x : Some u.of ≡ Some x = sym here ∙ ap (slice_get F) s ∙ e in
          let within : n < length X = omega (arith, got_within T n u.of u.at, wide) in
          ap (slice_get (slice_set X n (m.built o (picked X ks ++ take (length ws) (drop (length T) X))))) (sym s)
          ∙ set_there X n (m.built o (picked X ks ++ take (length ws) (drop (length T) X))) within ∙ ap Some built ∙ of_x

  pub stays_whole : (acts : List Act) → StaysWhole acts
  stays_whole [] T next i arrivals before long none verified walks h k r x w e = ends_whole T r x w e
  stays_whole (takes ∷ acts) T next i arrivals before long none verified walks h k r x w e = absurd none
  stays_whole (draws ∷ acts) T next i arrivals before long none verified walks h k r x w e =
      stays_whole acts (T ++ draw i ∷ []) (next + 1) (i + 1) arrivals before (omega (arith, length-append T (draw i ∷ []), long)) none verified walks.1 (more_values T (draw i ∷ []) h (one_value (draw i) (draw_is i))) k r x w e
  stays_whole (receives ∷ acts) T next i [] before long none verified walks h k r x w e = ends_whole T r x w e
  stays_whole (receives ∷ acts) T next i (y ∷ arrivals) before long none verified walks h k r x w e =
      stays_whole acts (T ++ y ∷ []) (next + 1) i arrivals before (omega (arith, length-append T (y ∷ []), long)) none verified walks (more_values T (y ∷ []) h (one_value y k.0)) k.1 r x w e
  stays_whole (sends q ∷ acts) T next i arrivals before long none verified walks h k r x w e = stays_whole acts T next i arrivals before long none verified.1 walks h k r x w e
  stays_whole (works (make o ns) ∷ acts) T next i arrivals before long none verified walks h k r x w e =
      let b = m.built o (picked T ns) in
      let is = made_is m lawful draw draw_is T o ns (subst (λ n. IsReady m.has n (make o ns)) (sym long) verified.0) h in
      stays_whole acts (T ++ b ∷ []) (next + 1) i arrivals (before ++ []) (omega (arith, length-append T (b ∷ []), long)) none verified.1 walks.1 (more_values T (b ∷ []) h (one_value b is)) k r x w e
  stays_whole (works (undo o ks n) ∷ acts) T next i arrivals before long none verified walks h k r x w e = by (written_or (worked m T (undo o ks n))) (stays_whole acts)
    where
      ready : IsReady m.has (length T) (undo o ks n)
      ready = subst (λ j. IsReady m.has j (undo o ks n)) (sym long) verified.0

      by : (worked m T (undo o ks n) ≡ None) ⊎ ((ws : List A) × (worked m T (undo o ks n) ≡ Some ws)) → StaysWhole acts
          → slice_get (renewed m draw change (works (undo o ks n) ∷ acts) T i arrivals) r ≡ Some x
      by (inl f) ih =
          let there : slice_get T r ≡ Some x = ap (λ o. slice_get (on_written o (λ ws. registers m draw acts (T ++ ws) i arrivals) T) r) (sym f) ∙ e in
          rw f (ends_whole T r x w there)
      by (inr y) ih =
          let ws = y.0 in
          let there : slice_get (registers m draw acts (T ++ ws) i arrivals) r ≡ Some x = ap (λ o. slice_get (on_written o (λ ws. registers m draw acts (T ++ ws) i arrivals) T) r) (sym y.1) ∙ e in
          let u = undone_of_table m lawful draw draw_is T o ks n ws ready h y.1 in
          rw y.1 (undo_whole acts ih o ks n T ws next i arrivals before long none ready verified.1 walks.0 walks.1 h k u r x w there)
  stays_whole (works (equal a b) ∷ acts) T next i arrivals before long none verified walks h k r x w e = by (written_or (worked m T (equal a b))) (stays_whole acts)
    where
      nothing : (c : Bool) (ws : List A) → (if c then Some [] else None) ≡ Some ws → [] ≡ ws
      nothing true ws e = cc
      nothing false ws e = cc

      by : (worked m T (equal a b) ≡ None) ⊎ ((ws : List A) × (worked m T (equal a b) ≡ Some ws)) → StaysWhole acts
          → slice_get (renewed m draw change (works (equal a b) ∷ acts) T i arrivals) r ≡ Some x
      by (inl f) ih =
          let there : slice_get T r ≡ Some x = ap (λ o. slice_get (on_written o (λ ws. registers m draw acts (T ++ ws) i arrivals) T) r) (sym f) ∙ e in
          rw f (ends_whole T r x w there)
      by (inr y) ih =
          let none_written : [] ≡ y.0 = nothing _ y.0 y.1 in
          let at : length (T ++ y.0) ≡ next + 0 = omega (arith, length-append T y.0, long, ap length none_written) in
          let ws_are : Valued m y.0 = subst (λ l. Valued m l) none_written tt in
          let there : slice_get (registers m draw acts (T ++ y.0) i arrivals) r ≡ Some x = ap (λ o. slice_get (on_written o (λ ws. registers m draw acts (T ++ ws) i arrivals) T) r) (sym y.1) ∙ e in
          rw y.1 (ih (T ++ y.0) (next + 0) i arrivals (before ++ []) at none verified.1 walks.1 (more_values T y.0 h ws_are) k r x w there)
