-- What is certified fits.
use Rattle.std.proofs.Common.{◌≡◌, ℕ, zero, suc, ◌+◌, ◌-◌, ◌<◌, ◌≤◌, List, [], ◌∷◌, ◌++◌, length, map, take, Bool, true, false, ◌&&◌, IsTrue, Option, Some, None, refl, sym, ap, ◌∙◌, subst, inl, inr, ◌⊎◌, ⊎_elim, arith, length-append}
use Rattle.std.proofs.lemmas.List.{length-map, take_all}
use Rattle.std.proofs.lemmas.List.Elements.{recursion_from_All}
use Rattle.std.proofs.lemmas.Bool.{eq-eqb, and_parts}
use Rattle.std.specs.Prelude.{slice_get, option_and_then}
use Rattle.std.specs.List.{AllByRecursion}
use Rattle.anb_lemmas.proofs.Each.{each_in_parts}
use Rattle.anb_lemmas.proofs.Lists.{get_last, take_suc_got}
use Rattle.anb_term.specs.declared.term.Op.{Op}
use Rattle.anb_term.specs.Operator.{arity, keys}
use Rattle.anb_term.specs.Tree.{Tree, node, trees_of}
use Rattle.anb_term.specs.TreeSame.{tree_same}
use Rattle.anb_term.specs.Lawful.{Lawful, picked}
use Rattle.anb_term.specs.Value.{Meaning, RecipeTree, label, build, part, RecipeTrees, recipe_trees, value, values}
use Rattle.anb_term.specs.FreeAlgebra.{terms_over}
use Rattle.anb_term.specs.FreeLawful.{parts_are}
use Rattle.anb_term.specs.Demand.{Demand, opens, equals, all_hold, holds, undoing, undone_if, is_there}
use Rattle.anb_term.proofs.Lists.{map-append, slice_get-append, slice_get-last, slice_get-there, slice_get-map, is_there_some, picked_length, values_length, hold_split}
use Rattle.anb_term.proofs.Steps.{bound}
use Rattle.anb_term.proofs.Frames.{values_more, value_same, values_same}
use Rattle.anb_term.proofs.Values.{Valued, values_are, counted}
use Rattle.anb_term.proofs.Demands.{hold_both, all_hold_more, alike_are, undone_is}
use Rattle.anb_basis.specs.Chosen.{terms_in}
use Rattle.anb_plays.specs.Plans.{Event, know, fresh, send, recv, known}
use Rattle.anb_plays.specs.Codes.{Act, takes, draws, receives, sends, works, Work, make, undo, equal, at_register, at_registers, parts, writes, demands}
use Rattle.anb_plays.specs.Exec.{IsReady, count_written, IsVerified, HasTakes, NoTakes}
use Rattle.anb_plays.specs.Fits.{Place, Along, after_take, after_label, after_work, start, AnySend, AnyWork, AnyBorder, SendsIt, IsSound, IsEnough}
use Rattle.anb_plays.proofs.Registers.{values_join, register, registers, part_values}
use Rattle.anb_certify.specs.Tied.{Did, AreEnough}
use Rattle.anb_certify.specs.Along.{then_did, IsTight, AtBorder, Finds}
use Rattle.anb_outcomes.specs.declared.certificates.CertifyNo.{CertifyNo}
use Rattle.anb_certify.specs.Statements.{CertifiedFits}
use Rattle.anb_certify.specs.Tables.{vals_in, Opened, Told}
use Rattle.anb_certify.proofs.Tied.{tied_agree, pair_is, one_row}

abbrev none_yet : Option CertifyNo
none_yet = None

pub get_after : {A : Type 0} (xs ys : List A) (n j : ℕ) → n ≡ length xs + j → slice_get (xs ++ ys) n ≡ slice_get ys j
get_after [] ys n j e = let s : n ≡ j = omega (arith, e) in ap (slice_get ys) s
get_after (x ∷ xs) ys zero j e = absurd (omega (arith, e))
get_after (x ∷ xs) ys (suc n) j e = get_after xs ys n j (omega (arith, e))

pub picked_more : {A : Type 0} (es more : List A) (ns : List ℕ) → AllByRecursion (λ n. n < length es) ns → picked (es ++ more) ns ≡ picked es ns
picked_more es more [] h = refl
picked_more es more (n ∷ ns) h = let x = slice_get-there es n h.0 in rw (x.1, slice_get-append es more n x.0 x.1) (ap (λ l. x.0 ∷ l) (picked_more es more ns h.1))

picked_map : {A B : Type 0} (f : A → B) (es : List A) (ns : List ℕ) → AllByRecursion (λ n. n < length es) ns → picked (map f es) ns ≡ map f (picked es ns)
picked_map f es [] h = refl
picked_map f es (n ∷ ns) h = let x = slice_get-there es n h.0 in rw (x.1, slice_get-map f es n x.0 x.1) (ap (λ l. f x.0 ∷ l) (picked_map f es ns h.1))

pub wider : (ns : List ℕ) (a b : ℕ) → a ≤ b → AllByRecursion (λ n. n < a) ns → AllByRecursion (λ n. n < b) ns
wider [] a b l h = tt
wider (n ∷ ns) a b l h = (omega (arith, l, h.0), wider ns a b l h.1)

zipped : {A : Type 0} (ts : List Tree) (xs : List A) → length ts ≡ length xs → (es : List (Tree × A)) × (terms_in es ≡ ts) × (vals_in es ≡ xs)
zipped [] [] e = ([], refl, refl)
zipped [] (x ∷ xs) e = absurd (omega (arith, e))
zipped (t ∷ ts) [] e = absurd (omega (arith, e))
zipped (t ∷ ts) (x ∷ xs) e = let z = zipped ts xs (omega (arith, e)) in ((t, x) ∷ z.0, ap (λ l. t ∷ l) z.1, ap (λ l. x ∷ l) z.2)

-- a list that is not empty has a last
last_of : {A : Type 0} (n : ℕ) (xs : List A) → length xs ≡ suc n → (ys : List A) × (y : A) × (xs ≡ ys ++ y ∷ []) × (length ys ≡ n)
last_of n [] e = absurd (omega (arith, e))
last_of zero (x ∷ []) e = ([], x, refl, refl)
last_of zero (x ∷ y ∷ xs) e = absurd (omega (arith, e))
last_of (suc n) (x ∷ xs) e = let l = last_of n xs (omega (arith, e)) in (x ∷ l.0, l.1, ap (λ z. x ∷ z) l.2, ap suc l.3)

pub did_cases : (did : List (ℕ × Work)) (at bt : ℕ) (w v : Work) → Did (did ++ (at, w) ∷ []) bt v → Did did bt v ⊎ ((at ≡ bt) × (w ≡ v))
did_cases [] at bt w v (inl h) = inr h
did_cases [] at bt w v (inr h) = absurd h
did_cases (d ∷ did) at bt w v (inl h) = inl (inl h)
did_cases (d ∷ did) at bt w v (inr h) = ⊎_elim (λ a. inl (inr a)) (λ a. inr a) (did_cases did at bt w v h)

one_true : (b : Bool) → (b && true) ≡ true → b ≡ true
one_true true e = refl
one_true false e = cc

-- a demand that is open is known by its values
open_is : {A : Type 0} (m : Meaning A) (vs : List A) (o : Op) (ks : RecipeTrees) (r : RecipeTree) (kv : List A) (v : A) → values m vs ks ≡ Some kv → value m vs r ≡ Some v → holds m vs (opens o ks r) ≡ true
    → (ps : List A) × (m.has o ≡ true) × (length kv ≡ keys o) × (m.undone o kv v ≡ Some ps)
open_is m vs o ks r kv v ek er h =
    let x = is_there_some (undoing m vs o ks r) h in
    let e : undone_if m o kv v ≡ Some x.0 = (let f : undoing m vs o ks r ≡ undone_if m o kv v = rw (ek, er) refl in sym f ∙ x.1) in
    let u = undone_is m o kv v x.0 e in
    (x.0, u.0, u.1, u.2)

equal_is : {A : Type 0} (m : Meaning A) (vs : List A) (r s : RecipeTree) (x y : A) → value m vs r ≡ Some x → value m vs s ≡ Some y → holds m vs (equals r s) ≡ true → m.same x y ≡ true
equal_is m vs r s x y ex ey h = let f : holds m vs (equals r s) ≡ m.same x y = rw (ex, ey) refl in sym f ∙ h

module _ {A : Type 0} (m : Meaning A) (vs ws : List A) (frame : List Tree) (long : length vs ≡ length frame) where
  -- a demand that is true in terms looks at earlier labels only
  holds_back : (d : Demand) → holds (terms_over m.has) frame d ≡ true → holds m (vs ++ ws) d ≡ true → holds m vs d ≡ true
  holds_back (opens o ks r) e h =
      let x = is_there_some (undoing (terms_over m.has) frame o ks r) e in
      let a = bound (λ kv. option_and_then (undone_if (terms_over m.has) o kv) (value (terms_over m.has) frame r)) (values (terms_over m.has) frame ks) x.0 x.1 in
      let b = bound (undone_if (terms_over m.has) o a.0) (value (terms_over m.has) frame r) x.0 a.2 in
      let f : undoing m (vs ++ ws) o ks r ≡ undoing m vs o ks r = rw (values_same (terms_over m.has) m frame vs ws long ks a.0 a.1, value_same (terms_over m.has) m frame vs ws long r b.0 b.1) refl in
      ap is_there (sym f) ∙ h
  holds_back (equals r s) e h =
      let x = alike_are (terms_over m.has) (value (terms_over m.has) frame r) (value (terms_over m.has) frame s) e in
      let f : holds m (vs ++ ws) (equals r s) ≡ holds m vs (equals r s) = rw (value_same (terms_over m.has) m frame vs ws long r x.0 x.2, value_same (terms_over m.has) m frame vs ws long s x.1 x.3) refl in
      sym f ∙ h

  all_back : (ds : List Demand) → all_hold (terms_over m.has) frame ds ≡ true → all_hold m (vs ++ ws) ds ≡ true → all_hold m vs ds ≡ true
  all_back [] e h = refl
  all_back (d ∷ ds) e h =
      let b = and_parts (holds (terms_over m.has) frame d) (all_hold (terms_over m.has) frame ds) e in
      let c = and_parts (holds m (vs ++ ws) d) (all_hold m (vs ++ ws) ds) h in
      rw (holds_back d b.0 c.0) (all_back ds b.1 c.1)

labelled : {A : Type 0} (m : Meaning A) (regs : List RecipeTree) (vs table : List A) (x : A) → values m vs (recipe_trees regs) ≡ Some table → values m (vs ++ x ∷ []) (recipe_trees (regs ++ label (length vs) ∷ [])) ≡ Some (table ++ x ∷ [])
labelled m regs vs table x e =
    values_join m (vs ++ x ∷ []) regs (label (length vs) ∷ []) table (x ∷ []) (values_more m vs (x ∷ []) (recipe_trees regs) table e) (rw (get_last vs x) refl)

module _ {A : Type 0} (m : Meaning A) (lawful : Lawful m) where
  -- what an instruction at `at` tells of the table
  abbrev TellsOf : List (Tree × A) → ℕ → Work → Type 0
  TellsOf es at (make o ns) = IsTrue (m.has o) × (length ns ≡ arity o) × AllByRecursion (λ k. k < length es) ns
      × (slice_get es at ≡ Some (node o (trees_of (terms_in (picked es ns))), m.built o (vals_in (picked es ns))))
  TellsOf es at (undo o ks n) = AllByRecursion (λ k. k < length es) ks × (ps : List (Tree × A)) × (v : A) × Opened m es at o ks n ps v
  TellsOf es at (equal a b) = (e : Tree × A) × (slice_get es a ≡ Some e) × (slice_get es b ≡ Some e)

  abbrev AllTell : List (Tree × A) → List (ℕ × Work) → Type 0
  AllTell es did = (at : ℕ) (w : Work) → Did did at w → TellsOf es at w

  abbrev Labelled : List Tree → List A → List (Tree × A) → Type 0
  Labelled frame vs es = (n : ℕ) (t : Tree) → slice_get frame n ≡ Some t → (i : ℕ) × (x : A) × (slice_get es i ≡ Some (t, x)) × (slice_get vs n ≡ Some x)

  record Sees (frame : List Tree) (regs : List RecipeTree) (vs : List A) (did : List (ℕ × Work)) (es : List (Tree × A)) : Type 0 where
    terms : values (terms_over m.has) frame (recipe_trees regs) ≡ Some (terms_in es)
    vals : values m vs (recipe_trees regs) ≡ Some (vals_in es)
    tells : AllTell es did
    labels : Labelled frame vs es

  long_rows : (regs : List RecipeTree) (vs : List A) (es : List (Tree × A)) → values m vs (recipe_trees regs) ≡ Some (vals_in es) → length es ≡ length regs
  long_rows regs vs es e = sym (length-map es (λ e. e.1)) ∙ values_length m vs regs (vals_in es) e

  -- a longer table tells the same
  tells_more : (es qs : List (Tree × A)) (at : ℕ) (w : Work) → TellsOf es at w → TellsOf (es ++ qs) at w
  tells_more es qs at (make o ns) h =
      let same = picked_more es qs ns h.2 in (
        h.0,
        h.1,
        wider ns (length es) (length (es ++ qs)) (omega (arith, length-append es qs)) h.2,
        rw same (slice_get-append es qs at _ h.3),
      )
  tells_more es qs at (undo o ks n) h =
      let same = picked_more es qs ks h.0 in
      let u = h.3 in (
        wider ks (length es) (length (es ++ qs)) (omega (arith, length-append es qs)) h.0,
        h.1,
        h.2,
        (
          u.0,
          u.1,
          rw same u.2,
          rw same u.3,
          rw same (slice_get-append es qs n _ u.4),
          rw same u.5,
          λ j l. let x = slice_get-there h.1 j l in slice_get-append es qs (at + j) x.0 (u.6 j l ∙ x.1) ∙ sym x.1,
        ),
      )
  tells_more es qs at (equal a b) h = (h.0, slice_get-append es qs a h.0 h.1, slice_get-append es qs b h.0 h.2)

  told : (did : List (ℕ × Work)) (es : List (Tree × A)) → AllTell es did → Told m did es
  told did es tells = record {
    built = λ at o ns d. let h = tells at (make o ns) d in (h.0, picked_length es ns h.2 ∙ h.1, h.3);
    undone = λ at o ks n d. let h = tells at (undo o ks n) d in (h.1, h.2, h.3);
    compared = λ at a b d. let h = tells at (equal a b) d in h.1 ∙ sym h.2;
  }

  -- over these labels' values the registers have terms and values of which the instructions tell
  Holds : Place → List (ℕ × Work) → Type 0
  Holds s did = (vs : List A) → length vs ≡ length s.frame → Valued m vs → all_hold m vs s.asked ≡ true → (es : List (Tree × A)) × Sees s.frame s.regs vs did es

  enough_here : (s : Place) (did : List (ℕ × Work)) → IsTight m s did → Holds s did → IsEnough m s
  unfolding Holds
  enough_here s did tight holds vs long are ok =
      let valued : Valued m vs = recursion_from_All (λ x. IsTrue (m.is_value x)) vs are in
      let h = holds vs long valued ok in
      let es = h.0 in
      let sees = h.1 in
      tied_agree m lawful did s.frame vs es (told did es sees.tells)
      (record { long = long; labels = sees.labels; are_values = λ i e at. value_at es i e at (values_are m lawful vs valued (recipe_trees s.regs) (vals_in es) sees.vals) })
      (let same : tight.0 ≡ terms_in es = (let e = tight.1 in let k = sees.terms in cc) in subst (AreEnough did) same tight.2) where
        value_at : (rows : List (Tree × A)) (i : ℕ) (e : Tree × A) → slice_get rows i ≡ Some e → Valued m (vals_in rows) → IsTrue (m.is_value e.1)
        value_at [] i e at v = cc
        value_at (r ∷ rows) zero e at v = let same : r ≡ e = cc in subst (λ z. IsTrue (m.is_value z.1)) same v.0
        value_at (r ∷ rows) (suc i) e at v = value_at rows i e at v.1

  -- a further label
  label_seen : (s : Place) (t : Tree) (did : List (ℕ × Work)) (vs : List A) (x : A) (es : List (Tree × A)) → length vs ≡ length s.frame → Sees s.frame s.regs vs did es
      → Sees (s.frame ++ t ∷ []) (s.regs ++ label (length s.frame) ∷ []) (vs ++ x ∷ []) did (es ++ (t, x) ∷ [])
  label_seen s t did vs x es long sees = record {
    terms = labelled (terms_over m.has) s.regs s.frame (terms_in es) t sees.terms ∙ ap Some (sym (map-append (λ e. e.0) es ((t, x) ∷ [])));
    vals = (let P : ℕ → Type 0 = λ n. values m (vs ++ x ∷ []) (recipe_trees (s.regs ++ label n ∷ [])) ≡ Some (vals_in es ++ x ∷ []) in subst P long (labelled m s.regs vs (vals_in es) x sees.vals))
        ∙ ap Some (sym (map-append (λ e. e.1) es ((t, x) ∷ [])));
    tells = λ at w d. tells_more es ((t, x) ∷ []) at w (sees.tells at w d);
    labels = λ n u e. by_cases n u (slice_get-last s.frame t u n e);
  } where
    by_cases : (n : ℕ) (u : Tree) → (slice_get s.frame n ≡ Some u) ⊎ ((n ≡ length s.frame) × (t ≡ u)) → (i : ℕ) × (y : A) × (slice_get (es ++ (t, x) ∷ []) i ≡ Some (u, y)) × (slice_get (vs ++ x ∷ []) n ≡ Some y)
    by_cases n u (inl e) = let l = sees.labels n u e in (l.0, l.1, slice_get-append es ((t, x) ∷ []) l.0 (u, l.1) l.2, slice_get-append vs (x ∷ []) n l.1 l.3)
    by_cases n u (inr e) =
        let at : n ≡ length vs = e.0 ∙ sym long in
        (length es, x, get_last es (t, x) ∙ ap (λ z. one_row z x) e.1, subst (λ k. slice_get (vs ++ x ∷ []) k ≡ Some x) (sym at) (get_last vs x))

  after_label_holds : (s : Place) (t : Tree) (did : List (ℕ × Work)) → all_hold (terms_over m.has) s.frame s.asked ≡ true → Holds s did → Holds (after_label s t) did
  unfolding Holds
  after_label_holds s t did sound holds vs long valued ok =
      let l = last_of (length s.frame) vs (long ∙ (let f : length (s.frame ++ t ∷ []) ≡ suc (length s.frame) = omega (arith, length-append s.frame (t ∷ [])) in f)) in
      let before : Valued m l.0 = (each_in_parts (λ x. IsTrue (m.is_value x)) l.0 (l.1 ∷ []) (subst (Valued m) l.2 valued)).0 in
      let h = holds l.0 l.3 before (all_back m l.0 (l.1 ∷ []) s.frame l.3 s.asked sound (subst (λ z. all_hold m z s.asked ≡ true) l.2 ok)) in
      let seen = label_seen s t did l.0 l.1 h.0 l.3 h.1 in
      (h.0 ++ (t, l.1) ∷ [], subst (λ z. Sees (s.frame ++ t ∷ []) (s.regs ++ label (length s.frame) ∷ []) z did (h.0 ++ (t, l.1) ∷ [])) (sym l.2) seen)

  -- rows added by an instruction
  work_seen : (s : Place) (w : Work) (did : List (ℕ × Work)) (vs : List A) (es qs : List (Tree × A)) → Sees s.frame s.regs vs did es
      → values (terms_over m.has) s.frame (recipe_trees (writes s.regs w)) ≡ Some (terms_in qs) → values m vs (recipe_trees (writes s.regs w)) ≡ Some (vals_in qs)
      → TellsOf (es ++ qs) (length s.regs) w → Sees s.frame (s.regs ++ writes s.regs w) vs (then_did did s w) (es ++ qs)
  work_seen s w did vs es qs sees e f tells = record {
    terms = values_join (terms_over m.has) s.frame s.regs (writes s.regs w) (terms_in es) (terms_in qs) sees.terms e ∙ ap Some (sym (map-append (λ e. e.0) es qs));
    vals = values_join m vs s.regs (writes s.regs w) (vals_in es) (vals_in qs) sees.vals f ∙ ap Some (sym (map-append (λ e. e.1) es qs));
    tells = λ at v d. by_cases at v (did_cases did (length s.regs) at w v d);
    labels = λ n t e. let l = sees.labels n t e in (l.0, l.1, slice_get-append es qs l.0 (t, l.1) l.2, l.3);
  } where
    by_cases : (at : ℕ) (v : Work) → Did did at v ⊎ ((length s.regs ≡ at) × (w ≡ v)) → TellsOf (es ++ qs) at v
    by_cases at v (inl d) = tells_more es qs at v (sees.tells at v d)
    by_cases at v (inr d) = let P : ℕ → Type 0 = λ n. TellsOf (es ++ qs) n v in subst P d.0 (subst (TellsOf (es ++ qs) (length s.regs)) d.1 tells)

  regs_at : (s : Place) (vs : List A) (did : List (ℕ × Work)) (es : List (Tree × A)) → Sees s.frame s.regs vs did es → (ns : List ℕ) → AllByRecursion (λ k. k < length es) ns
      → (values (terms_over m.has) s.frame (at_registers s.regs ns) ≡ Some (terms_in (picked es ns))) × (values m vs (at_registers s.regs ns) ≡ Some (vals_in (picked es ns)))
  regs_at s vs did es sees ns h =
      let a = registers (terms_over m.has) s.frame s.regs (terms_in es) ns sees.terms (wider ns (length es) (length (terms_in es)) (omega (arith, length-map es (λ e. e.0))) h) in
      let b = registers m vs s.regs (vals_in es) ns sees.vals (wider ns (length es) (length (vals_in es)) (omega (arith, length-map es (λ e. e.1))) h) in
      (a.0 ∙ ap Some (picked_map (λ e. e.0) es ns h), b.0 ∙ ap Some (picked_map (λ e. e.1) es ns h))

  reg_at : (s : Place) (vs : List A) (did : List (ℕ × Work)) (es : List (Tree × A)) → Sees s.frame s.regs vs did es → (n : ℕ) (e : Tree × A) → slice_get es n ≡ Some e
      → (value (terms_over m.has) s.frame (at_register s.regs n) ≡ Some (e.0)) × (value m vs (at_register s.regs n) ≡ Some (e.1))
  reg_at s vs did es sees n e h = (
    register (terms_over m.has) s.frame s.regs (terms_in es) n e.0 sees.terms (slice_get-map (λ z. z.0) es n e h),
    register m vs s.regs (vals_in es) n e.1 sees.vals (slice_get-map (λ z. z.1) es n e h),
  )

  built_is : {B : Type 0} (k : Meaning B) (us : List B) (o : Op) (rs : RecipeTrees) (xs : List B) → values k us rs ≡ Some xs → k.has o ≡ true → length xs ≡ arity o
      → values k us (recipe_trees (build o rs ∷ [])) ≡ Some (k.built o xs ∷ [])
  built_is k us o rs xs e h n = rw (e, h, eq-eqb (length xs) (arity o) n) refl

  Grown : Place → List (ℕ × Work) → List A → Work → Type 0
  Grown s did vs w = (es : List (Tree × A)) × Sees s.frame (s.regs ++ writes s.regs w) vs (then_did did s w) es

  made_seen : (s : Place) (o : Op) (ns : List ℕ) (did : List (ℕ × Work)) (vs : List A) (es : List (Tree × A)) → Sees s.frame s.regs vs did es → IsReady m.has (length s.regs) (make o ns) → Grown s did vs (make o ns)
  unfolding Grown
  made_seen s o ns did vs es sees ready =
      let long : length es ≡ length s.regs = long_rows s.regs vs es sees.vals in
      let within = wider ns (length s.regs) (length es) (omega (arith, long)) (recursion_from_All (λ k. k < length s.regs) ns ready.2) in
      let K = picked es ns in
      let n : length K ≡ arity o = picked_length es ns within ∙ ready.1 in
      let row : Tree × A = (node o (trees_of (terms_in K)), m.built o (vals_in K)) in
      let r = regs_at s vs did es sees ns within in
      let same = picked_more es (row ∷ []) ns within in (
        es ++ row ∷ [],
        work_seen s (make o ns) did vs es (row ∷ []) sees
            (built_is (terms_over m.has) s.frame o (at_registers s.regs ns) (terms_in K) r.0 ready.0 (length-map K (λ e. e.0) ∙ n))
            (built_is m vs o (at_registers s.regs ns) (vals_in K) r.1 ready.0 (length-map K (λ e. e.1) ∙ n)) (
              ready.0,
              ready.1,
              wider ns (length es) (length (es ++ row ∷ [])) (omega (arith, length-append es (row ∷ []))) within,
              rw (same, ← long) (get_last es row),
            ),
      )

  undone_seen : (s : Place) (o : Op) (ks : List ℕ) (n : ℕ) (did : List (ℕ × Work)) (vs : List A) (es : List (Tree × A)) → Sees s.frame s.regs vs did es → IsReady m.has (length s.regs) (undo o ks n)
      → holds (terms_over m.has) s.frame (opens o (at_registers s.regs ks) (at_register s.regs n)) ≡ true → holds m vs (opens o (at_registers s.regs ks) (at_register s.regs n)) ≡ true
      → Grown s did vs (undo o ks n)
  unfolding Grown
  undone_seen s o ks n did vs es sees ready sound ok =
      let long : length es ≡ length s.regs = long_rows s.regs vs es sees.vals in
      let within = wider ks (length s.regs) (length es) (omega (arith, long)) (recursion_from_All (λ k. k < length s.regs) ks ready.2) in
      let K = picked es ks in
      let count : length K ≡ keys o = picked_length es ks within ∙ ready.1 in
      let e = slice_get-there es n (omega (arith, ready.3, long)) in
      let r = regs_at s vs did es sees ks within in
      let q = reg_at s vs did es sees n e.0 e.1 in
      let a = open_is (terms_over m.has) s.frame o (at_registers s.regs ks) (at_register s.regs n) (terms_in K) e.0.0 r.0 q.0 sound in
      let b = open_is m vs o (at_registers s.regs ks) (at_register s.regs n) (vals_in K) e.0.1 r.1 q.1 ok in
      let p = parts_are o (terms_in K) e.0.0 a.0 a.3 in
      let c = counted m lawful o (vals_in K) b.0 e.0.1 b.1 b.2 b.3 in
      let na : length a.0 ≡ arity o - keys o = omega (arith, p.2, length-append (terms_in K) a.0, a.2) in
      let nb : length b.0 ≡ arity o - keys o = omega (arith, c, length-append (vals_in K) b.0, b.2) in
      let z = zipped a.0 b.0 (na ∙ sym nb) in
      let ps = z.0 in
      let nz : length ps ≡ arity o - keys o = sym (length-map ps (λ y. y.0)) ∙ ap length z.1 ∙ na in
      let same = picked_more es ps ks within in
      let ta = part_values (terms_over m.has) s.frame (arity o - keys o) o (at_registers s.regs ks) (at_register s.regs n) (terms_in K) a.0 e.0.0 (omega (arith, na)) r.0 q.0 a.1 a.2 a.3 in
      let tb = part_values m vs (arity o - keys o) o (at_registers s.regs ks) (at_register s.regs n) (vals_in K) b.0 e.0.1 (omega (arith, nb)) r.1 q.1 b.1 b.2 b.3 in
      let is_row : e.0.0 ≡ node o (trees_of (terms_in (K ++ ps))) = p.1 ∙ ap (λ l. node o (trees_of l)) (ap (λ l. terms_in K ++ l) (sym z.1) ∙ sym (map-append (λ y. y.0) K ps)) in
      let full : length (K ++ ps) ≡ arity o = length-append K ps ∙ omega (arith, count, nz, p.2, length-append (terms_in K) a.0, a.2) in (
        es ++ ps,
        work_seen s (undo o ks n) did vs es ps sees
            (ta ∙ ap Some (take_all (arity o - keys o) a.0 (omega (arith, na))) ∙ ap Some (sym z.1))
            (tb ∙ ap Some (take_all (arity o - keys o) b.0 (omega (arith, nb))) ∙ ap Some (sym z.2)) (
              wider ks (length es) (length (es ++ ps)) (omega (arith, length-append es ps)) within,
              ps,
              e.0.1,
              (
                b.1,
                p.0,
                rw same count,
                rw same full,
                rw same (slice_get-append es ps n _ (e.1 ∙ ap (λ t. one_row t e.0.1) is_row)),
                rw same (b.3 ∙ ap Some (sym z.2)),
                λ j l. get_after es ps (length s.regs + j) j (omega (arith, long)),
              ),
            ),
      )

  equal_seen : (s : Place) (a b : ℕ) (did : List (ℕ × Work)) (vs : List A) (es : List (Tree × A)) → Sees s.frame s.regs vs did es → IsReady m.has (length s.regs) (equal a b)
      → holds (terms_over m.has) s.frame (equals (at_register s.regs a) (at_register s.regs b)) ≡ true → holds m vs (equals (at_register s.regs a) (at_register s.regs b)) ≡ true
      → Grown s did vs (equal a b)
  unfolding Grown
  equal_seen s a b did vs es sees ready sound ok =
      let long : length es ≡ length s.regs = long_rows s.regs vs es sees.vals in
      let x = slice_get-there es a (omega (arith, ready.0, long)) in
      let y = slice_get-there es b (omega (arith, ready.1, long)) in
      let p = reg_at s vs did es sees a x.0 x.1 in
      let q = reg_at s vs did es sees b y.0 y.1 in
      let t = tree_same _ _ (equal_is (terms_over m.has) s.frame (at_register s.regs a) (at_register s.regs b) x.0.0 y.0.0 p.0 q.0 sound) in
      let v = lawful.tells _ _ (equal_is m vs (at_register s.regs a) (at_register s.regs b) x.0.1 y.0.1 p.1 q.1 ok) in
      let same : x.0 ≡ y.0 = pair_is x.0 y.0 t v in (
        es ++ [],
        work_seen s (equal a b) did vs es [] sees refl refl
            (x.0, slice_get-append es [] a x.0 x.1, slice_get-append es [] b x.0 (y.1 ∙ ap Some (sym same))),
      )

  grown : (s : Place) (w : Work) (did : List (ℕ × Work)) (vs : List A) (es : List (Tree × A)) → Sees s.frame s.regs vs did es → IsReady m.has (length s.regs) w
      → all_hold (terms_over m.has) s.frame (demands s.regs w) ≡ true → all_hold m vs (demands s.regs w) ≡ true → Grown s did vs w
  grown s (make o ns) did vs es sees ready sound ok = made_seen s o ns did vs es sees ready
  grown s (undo o ks n) did vs es sees ready sound ok = undone_seen s o ks n did vs es sees ready (one_true _ sound) (one_true _ ok)
  grown s (equal a b) did vs es sees ready sound ok = equal_seen s a b did vs es sees ready (one_true _ sound) (one_true _ ok)

  after_work_holds : (s : Place) (w : Work) (did : List (ℕ × Work)) → IsReady m.has (length s.regs) w → all_hold (terms_over m.has) s.frame (demands s.regs w) ≡ true → Holds s did → Holds (after_work s w) (then_did did s w)
  unfolding Holds Grown
  after_work_holds s w did ready sound holds vs long valued ok =
      let o = hold_split m vs s.asked (demands s.regs w) ok in
      let h = holds vs long valued o.0 in
      grown s w did vs h.0 h.1 ready sound o.1

  count_writes : (regs : List RecipeTree) (w : Work) → length (writes regs w) ≡ count_written w
  count_writes regs (make o ns) = refl
  count_writes regs (undo o ks n) = count_parts (arity o - keys o) o (at_registers regs ks) (at_register regs n) where
    count_parts : (n : ℕ) (o : Op) (ks : RecipeTrees) (r : RecipeTree) → length (parts n o ks r) ≡ n
    count_parts zero o ks r = refl
    count_parts (suc n) o ks r = omega (arith, length-append (parts n o ks r) (part o n ks r ∷ []), count_parts n o ks r)
  count_writes regs (equal a b) = refl

  -- nothing was found at a border, at a work, at a send
  border : {X : Type 0} (s : Place) (did : List (ℕ × Work)) (n : ℕ) → AtBorder m s did n None X → IsTight m s did × X
  border s did n (inl h) = h
  border s did n (inr h) = let e = h.2 in cc

  goes_on : {X Y Z : Type 0} {no : CertifyNo} → (X × Y) ⊎ (Z × (none_yet ≡ Some no)) → X × Y
  goes_on (inl h) = h
  goes_on (inr h) = let e = h.1 in cc

  AllAlong : List Act → List Event → Place → Type 0
  AllAlong acts es s = Along (SendsIt m) (IsSound m) (IsEnough m) acts es s

  -- where nothing is found, each place agrees
  along : (acts : List Act) (es : List Event) (s : Place) (did : List (ℕ × Work)) (n : ℕ) → IsVerified m.has acts (length s.regs) → NoTakes m.has acts → Finds m acts es s did n None
      → all_hold (terms_over m.has) s.frame s.asked ≡ true → Holds s did → AllAlong acts es s
  unfolding AllAlong
  along [] [] s did n ver none found asked seen = enough_here s did (border s did n found).0 seen
  along (works w ∷ acts) es s did n ver none found asked seen =
      let count : length s.regs + count_written w ≡ length (s.regs ++ writes s.regs w) = omega (arith, length-append s.regs (writes s.regs w), count_writes s.regs w) in
      let f = goes_on found in (
        f.0,
        along acts es (after_work s w) (then_did did s w) (n + 1) (subst (IsVerified m.has acts) count ver.1) none f.1
            (hold_both (terms_over m.has) s.frame s.asked (demands s.regs w) asked f.0) (after_work_holds s w did ver.0 f.0 seen),
      )
  along (takes ∷ acts) es s did n ver none found asked seen = absurd none
  along (draws ∷ acts) (fresh t ∷ es) s did n ver none found asked seen =
      let count : length s.regs + 1 ≡ length (s.regs ++ label (length s.frame) ∷ []) = sym (length-append s.regs (label (length s.frame) ∷ [])) in
      along acts es (after_label s t) did (n + 1) (subst (IsVerified m.has acts) count ver) none found (all_hold_more (terms_over m.has) s.frame (t ∷ []) s.asked asked) (after_label_holds s t did asked seen)
  along (receives ∷ acts) (recv t ∷ es) s did n ver none found asked seen =
      let count : length s.regs + 1 ≡ length (s.regs ++ label (length s.frame) ∷ []) = sym (length-append s.regs (label (length s.frame) ∷ [])) in
      let f = border s did n found in (
        enough_here s did f.0 seen,
        along acts es (after_label s t) did (n + 1) (subst (IsVerified m.has acts) count ver) none f.1 (all_hold_more (terms_over m.has) s.frame (t ∷ []) s.asked asked) (after_label_holds s t did asked seen),
      )
  along (sends r ∷ acts) (send t ∷ es) s did n ver none found asked seen =
      let f = goes_on found in
      let g = border s did n f.1 in
      (enough_here s did g.0 seen, f.0, along acts es s did (n + 1) ver.1 none g.1 asked seen)
  along [] (e ∷ es) s did n ver none found asked seen = absurd found
  along (act ∷ acts) es s did n ver none found asked seen = absurd found

  labels : ℕ → List RecipeTree
  labels zero = []
  labels (suc k) = labels k ++ label k ∷ []

  length-labels : (k : ℕ) → length (labels k) ≡ k
  unfolding labels
  length-labels zero = refl
  length-labels (suc k) = omega (arith, length-append (labels k) (label k ∷ []), length-labels k)

  label_values : {B : Type 0} (q : Meaning B) (vs : List B) (k : ℕ) → k ≤ length vs → values q vs (recipe_trees (labels k)) ≡ Some (take k vs)
  unfolding labels
  label_values q vs zero h = refl
  label_values q vs (suc k) h =
      let x = slice_get-there vs k (omega arith) in
      values_join q vs (labels k) (label k ∷ []) (take k vs) (x.0 ∷ []) (label_values q vs k (omega arith)) (rw x.1 refl) ∙ ap Some (sym (take_suc_got vs k x.0 x.1))

  begin : List Tree → ℕ → Place
  begin frame k = record { frame = frame; regs = labels k; asked = [] }

  known_labels : (es : List (Tree × A)) → Labelled (terms_in es) (vals_in es) es
  known_labels [] n t e = cc
  known_labels (e ∷ es) zero t h = let s : e.0 ≡ t = cc in (0, e.1, (let p : e ≡ (t, e.1) = pair_is e (t, e.1) s refl in ap Some p), refl)
  known_labels (e ∷ es) (suc n) t h = let l = known_labels es n t h in (suc l.0, l.1, l.2, l.3)

  begun : (frame : List Tree) (k : ℕ) → k ≡ length frame → Holds (begin frame k) []
  unfolding Holds begin
  begun frame k n vs long valued ok =
      let z = zipped frame vs (sym long) in
      let ls : Labelled frame vs z.0 = (let P : List Tree → Type 0 = λ l. Labelled l vs z.0 in subst P z.1 (let Q : List A → Type 0 = λ l. Labelled (terms_in z.0) l z.0 in subst Q z.2 (known_labels z.0))) in (
        z.0,
        record {
          terms = label_values (terms_over m.has) frame k (omega (arith, n)) ∙ ap Some (take_all k frame (omega (arith, n)) ∙ sym z.1);
          vals = label_values m vs k (omega (arith, n, long)) ∙ ap Some (take_all k vs (omega (arith, n, long)) ∙ sym z.2);
          tells = λ at w d. absurd d;
          labels = ls;
        },
      )

  starts : (acts : List Act) (es : List Event) (frame : List Tree) (k n : ℕ) → HasTakes m.has acts k (length frame) → Finds m acts es (begin frame k) [] n None → AllAlong acts es (begin frame k)
  unfolding AllAlong begin labels
  starts (takes ∷ acts) (know t ∷ es) frame k n h found =
      let Q : ℕ → Type 0 = λ j. Finds m acts es (record { frame = frame; regs = labels k ++ label j ∷ []; asked = [] }) [] (n + 1) None in
      let R : ℕ → Type 0 = λ j. AllAlong acts es (record { frame = frame; regs = labels k ++ label j ∷ []; asked = [] }) in
      subst R (sym (length-labels k)) (starts acts es frame (suc k) (n + 1) h (subst Q (length-labels k) found))
  starts (takes ∷ acts) es frame k n h found = absurd found
  starts acts es frame k n h found =
      let count : length frame ≡ length (labels k) = sym h.0 ∙ sym (length-labels k) in
      along acts es (begin frame k) [] n (subst (IsVerified m.has acts) count h.1) h.2 found refl (begun frame k h.0)

-- what holds along a code, less of it
module _ (P Q : Place → ℕ → Tree → Type 0) (V W : Place → Work → Type 0) (B C : Place → Type 0)
    (p : (s : Place) (n : ℕ) (t : Tree) → P s n t → Q s n t) (v : (s : Place) (w : Work) → V s w → W s w) (b : (s : Place) → B s → C s) where
  less : (acts : List Act) (es : List Event) (s : Place) → Along P V B acts es s → Along Q W C acts es s
  less [] [] s h = b s h
  less (works w ∷ acts) es s h = (v s w h.0, less acts es (after_work s w) h.1)
  less (takes ∷ acts) (know t ∷ es) s h = less acts es (after_take s) h
  less (draws ∷ acts) (fresh t ∷ es) s h = less acts es (after_label s t) h
  less (receives ∷ acts) (recv t ∷ es) s h = (b s h.0, less acts es (after_label s t) h.1)
  less (sends n ∷ acts) (send t ∷ es) s h = (b s h.0, p s n t h.1, less acts es s h.2)
  less [] (e ∷ es) s h = absurd h
  less (act ∷ acts) es s h = absurd h

pub certified_fits : {A : Type 0} (m : Meaning A) → Lawful m → CertifiedFits m
unfolding AllAlong begin labels
certified_fits m lawful code plan ready found =
    let all = starts m lawful code plan (known plan) 0 1 ready found in
    record {
      order = less (SendsIt m) AnySend (IsSound m) AnyWork (IsEnough m) AnyBorder (λ s n t h. tt) (λ s w h. tt) (λ s h. tt) code plan (start plan) all;
      sends = less (SendsIt m) (SendsIt m) (IsSound m) AnyWork (IsEnough m) AnyBorder (λ s n t h. h) (λ s w h. tt) (λ s h. tt) code plan (start plan) all;
      sound = less (SendsIt m) AnySend (IsSound m) (IsSound m) (IsEnough m) AnyBorder (λ s n t h. tt) (λ s w h. h) (λ s h. tt) code plan (start plan) all;
      enough = less (SendsIt m) AnySend (IsSound m) AnyWork (IsEnough m) (IsEnough m) (λ s n t h. tt) (λ s w h. tt) (λ s h. h) code plan (start plan) all;
    }
