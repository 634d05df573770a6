-- The patterns of a plan, put together.
use Rattle.std.proofs.Common.{◌≡◌, ℕ, suc, ◌+◌, ◌<◌, ◌≤◌, List, [], ◌∷◌, ◌++◌, length, map, Bool, true, false, cond, Some, refl, sym, ap, ◌∙◌, subst, arith, inl, inr}
use Rattle.std.specs.Prelude.{slice_get}
use Rattle.std.proofs.lemmas.List.{length-map}
use Rattle.anb_lemmas.proofs.Lists.{got_within}
use Rattle.anb_term.specs.declared.term.Op.{Op}
use Rattle.anb_term.specs.Tree.{Tree, trees_of, AreFormed}
use Rattle.anb_term.specs.View.{tree_of}
use Rattle.anb_term.specs.FreeAlgebra.{terms_over}
use Rattle.anb_term.specs.Agree.{Agree}
use Rattle.anb_plays.specs.Plans.{Event, know, fresh, send, recv, known}
use Rattle.anb_plays.specs.Honest.{heard}
use Rattle.anb_close.specs.declared.entry.Entry.{Entry}
use Rattle.anb_close.specs.Entries.{rows, terms_of, labels_of, IsKnown}
use Rattle.anb_close.proofs.Finding.{rows_length}
use Rattle.anb_basis.specs.declared.check.Check.{Check}
use Rattle.anb_basis.specs.declared.check.Check.TheVariants.{Open, Equal}
use Rattle.anb_basis.specs.Checks.{AreAll, AllFit, Fits, trues}
use Rattle.anb_accept.specs.Taking.{later, later_with, labels, labels_with, Takes}
use Rattle.anb_accept.specs.Patterns.{ArePatterns}
use Rattle.anb_unify.specs.Substitutions.{put_in, AreNamed}
use Rattle.anb_accept.specs.Equations.{equation_of, own_equations, equations_of, heard_variables, heard_entries, heard_labels, is_own, is_heard}
use Rattle.anb_unify.specs.Equations.{EquationValue, IsSolution, IsMostGeneral, Solves, HasSolution, AreOfVariables, AreVariables, atoms_of}
use Rattle.anb_unify.proofs.Putting.{each_formed_before}
use Rattle.anb_unify.proofs.Solutions.{after_keeps, after_solves, map_after}
use Rattle.anb_accept.proofs.Filling.{filled, labels_filled, labels_trues, labels_long, own_filled, heard_many}
use Rattle.anb_accept.proofs.Solving.{worths, worths_entry, worths_solve, solution_agrees, either_holds, both_hold, gives}

narrated_with : (es : List Event) → later_with es (heard es) ≡ later es
narrated_with [] = refl
narrated_with (know t ∷ es) = narrated_with es
narrated_with (fresh t ∷ es) = ap (λ l. t ∷ l) (narrated_with es)
narrated_with (send t ∷ es) = narrated_with es
narrated_with (recv t ∷ es) = ap (λ l. t ∷ l) (narrated_with es)

heard_formed : (has : Op → Bool) (es : List Event) → AreFormed has (trees_of (later es)) → AreFormed has (trees_of (heard es))
heard_formed has [] f = tt
heard_formed has (know t ∷ es) f = heard_formed has es f
heard_formed has (fresh t ∷ es) f = heard_formed has es f.1
heard_formed has (send t ∷ es) f = heard_formed has es f
heard_formed has (recv t ∷ es) f = (f.0, heard_formed has es f.1)

last_formed : (has : Op → Bool) (xs ys : List Tree) → AreFormed has (trees_of (xs ++ ys)) → AreFormed has (trees_of ys)
last_formed has [] ys f = f
last_formed has (x ∷ xs) ys f = last_formed has xs ys f.1

agree_itself : (has : Op → Bool) (frame : List Tree) → Agree (terms_over has) frame frame
agree_itself has frame = record { long = refl; one = λ r s t a b. (t, a, b) }

-- what is narrated is taken
pub takes_itself : (has : Op → Bool) (plan : List Event) → Takes has plan (heard plan)
takes_itself has plan = record { count = refl; agree = subst (Agree (terms_over has) (labels plan)) (sym (ap (λ l. known plan ++ l) (narrated_with plan))) (agree_itself has (labels plan)) }

module _ (has : Op → Bool) (names : ℕ) (plan : List Event) (es : List Entry) (cs : List Check) (known_es : IsKnown es) (all : AreAll es cs) (fits : AllFit es cs) (are : labels_of es ≡ labels plan)
    (formed : AreFormed has (trees_of (labels plan))) (named : AreNamed names (trees_of (labels plan))) where
  es_formed : AreFormed has (trees_of (labels_of es))
  es_formed = subst (λ l. AreFormed has (trees_of l)) (sym are) formed

  es_named : AreNamed names (trees_of (labels_of es))
  es_named = subst (λ l. AreNamed names (trees_of l)) (sym are) named

  long : length (heard_labels plan) ≡ length (labels_of es)
  long = labels_long plan ∙ sym (ap length are)

  filled_is : (xs : List Tree) → filled (labels_of es) (heard_labels plan) xs ≡ labels_with plan xs
  filled_is xs = ap (λ l. filled l (heard_labels plan) xs) are ∙ labels_filled plan xs

  -- what is taken is a solution
  taken_solution : (xs : List Tree) → Takes has plan xs → (put : ℕ → Tree) × IsSolution names (equations_of names (heard_labels plan) es cs) put × (map put (heard_variables names (heard_labels plan) 0 es) ≡ xs)
  taken_solution xs takes =
      let vs = labels_with plan xs in
      let agree = subst (λ l. Agree (terms_over has) l vs) (sym are) takes.agree in
      let s = worths_solve has names es cs known_es es_formed vs agree fits (heard_labels plan) xs long es_named (labels_trues plan ∙ sym takes.count) (sym (filled_is xs)) in
      (worths has names es cs known_es es_formed vs agree fits, s.0, s.1)

  -- a solution is taken
  solution_taken : (put : ℕ → Tree) → IsSolution names (equations_of names (heard_labels plan) es cs) put → Takes has plan (map put (heard_variables names (heard_labels plan) 0 es))
  solution_taken put s =
      let parts = either_holds (Solves names put) (own_equations (heard_labels plan) 0 es) (map (equation_of names) cs) s.solves in
      let agree = solution_agrees has names es cs known_es es_formed put all fits parts.1 in
      let vals = own_filled names (heard_labels plan) es known_es.follow long es_named put s.keeps parts.0 in
      let xs = map put (heard_variables names (heard_labels plan) 0 es) in
      record {
        count = length-map (heard_variables names (heard_labels plan) 0 es) put ∙ heard_many names (heard_labels plan) es known_es.follow long es_named ∙ labels_trues plan;
        agree = subst (λ l. Agree (terms_over has) l (labels_with plan xs)) are (subst (Agree (terms_over has) (labels_of es)) (vals ∙ filled_is xs) agree);
      }

  pub patterns_are : (patterns : List Tree) → IsMostGeneral names (equations_of names (heard_labels plan) es cs) (heard_variables names (heard_labels plan) 0 es) patterns → ArePatterns has names plan patterns
  patterns_are patterns general =
      let vars = heard_variables names (heard_labels plan) 0 es in
      let h = taken_solution (heard plan) (takes_itself has plan) in
      record {
        formed = each_formed_before has h.0 patterns (subst (λ l. AreFormed has (trees_of l)) (sym h.2 ∙ general.general h.0 h.1) (heard_formed has plan (last_formed has (known plan) (later plan) formed)));
        instances = λ xs takes. (let s = taken_solution xs takes in record { put = s.0; keeps = s.1.keeps; is = sym s.2 ∙ general.general s.0 s.1 });
        taken = λ xs i.
            let q = general.put in
            let s : IsSolution names (equations_of names (heard_labels plan) es cs) (λ n. put_in i.put (q n)) =
            record { keeps = after_keeps names i.put q i.keeps general.solution.keeps; solves = after_solves names i.put q i.keeps (equations_of names (heard_labels plan) es cs) general.solution.solves } in
            let same : map (λ n. put_in i.put (q n)) vars ≡ xs = sym (map_after i.put q vars) ∙ ap (map (put_in i.put)) (sym general.is) ∙ sym i.is in
            subst (Takes has plan) same (solution_taken (λ n. put_in i.put (q n)) s);
      }

-- ---- the narrated terms solve the equations, whichever labels are heard

heard_of : List Tree → List Bool → List Tree
heard_of [] hs = []
heard_of (t ∷ ts) [] = []
heard_of (t ∷ ts) (true ∷ hs) = t ∷ heard_of ts hs
heard_of (t ∷ ts) (false ∷ hs) = heard_of ts hs

filled_again : (ts : List Tree) (hs : List Bool) → length hs ≡ length ts → filled ts hs (heard_of ts hs) ≡ ts
unfolding heard_of
filled_again [] hs e = refl
filled_again (t ∷ ts) [] e = absurd (omega arith)
filled_again (t ∷ ts) (true ∷ hs) e = ap (λ l. t ∷ l) (filled_again ts hs (omega arith))
filled_again (t ∷ ts) (false ∷ hs) e = ap (λ l. t ∷ l) (filled_again ts hs (omega arith))

heard_trues : (ts : List Tree) (hs : List Bool) → length hs ≡ length ts → trues hs ≡ length (heard_of ts hs)
unfolding heard_of
heard_trues [] [] e = refl
heard_trues [] (h ∷ hs) e = absurd (omega arith)
heard_trues (t ∷ ts) [] e = absurd (omega arith)
heard_trues (t ∷ ts) (true ∷ hs) e = ap suc (heard_trues ts hs (omega arith))
heard_trues (t ∷ ts) (false ∷ hs) e = heard_trues ts hs (omega arith)

module _ (names : ℕ) (H : List Bool) (es : List Entry) (cs : List Check) (known_es : IsKnown es) (fits : AllFit es cs) (formed : AreFormed (λ o. true) (trees_of (labels_of es))) (named : AreNamed names (trees_of (labels_of es))) (long : length H ≡ length (labels_of es)) where
  pub has_narrated : HasSolution names (terms_of es) (equations_of names H es cs)
  has_narrated =
      let frame = labels_of es in
      let agree = agree_itself (λ o. true) frame in
      let s = worths_solve (λ o. true) names es cs known_es formed frame agree fits H (heard_of frame H) long named (heard_trues frame H long) (sym (filled_again frame H long)) in
      record {
        put = worths (λ o. true) names es cs known_es formed frame agree fits;
        solution = s.0;
        each = λ k t at. worths_entry (λ o. true) names es cs known_es formed frame agree fits k t (gives (λ o. true) names es cs known_es formed k t at);
      }

  own_within : (k n : ℕ) (xs : List Entry) → k + length xs ≤ n → AreOfVariables n (own_equations H k xs)
  own_within k n [] l = tt
  own_within k n (e ∷ xs) l = both_hold (λ (q : EquationValue). q.variable < n) (cond (is_own H e.origin) (record { variable = k; term = tree_of e.term } ∷ []) []) (own_equations H (k + 1) xs) (one (is_own H e.origin) (omega arith)) (own_within (k + 1) n xs (omega arith))
    where
      one : (b : Bool) → k < n → AreOfVariables n (cond b (record { variable = k; term = tree_of e.term } ∷ []) [])
      one true h = (h, tt)
      one false h = tt

  check_within : (c : Check) → Fits es c → (equation_of names c).variable < length es
  check_within (Open x) (e, at, is) =
      let p = known_es.parted x.first e x.op 0 x.keys x.of at is in
      let q = p.opened in
      omega (arith, got_within (rows q.front) x.of _ q.own, rows_length q.front, q.at, p.counts, got_within es x.first e at)
  check_within (Equal i w) (inl (t, row, at, made)) = omega (arith, got_within (terms_of es) i t at, length-map es (λ (y : Entry). tree_of y.term))
  check_within (Equal i w) (inr (o, us, ms, row, u, made, is)) = omega (arith, got_within (rows es) i _ row, rows_length es)

  checks_within : (ds : List Check) → ((k : ℕ) (c : Check) → slice_get ds k ≡ Some c → Fits es c) → AreOfVariables (length es) (map (equation_of names) ds)
  checks_within [] f = tt
  checks_within (d ∷ ds) f = (check_within d (f 0 d refl), checks_within ds (λ k. f (suc k)))

  pub of_entries : AreOfVariables (length es) (equations_of names H es cs)
  of_entries = both_hold (λ (q : EquationValue). q.variable < length es) (own_equations H 0 es) (map (equation_of names) cs) (own_within 0 (length es) es (omega arith)) (checks_within cs fits)

-- ---- the entries of labels that are heard

pub heard_atoms : (names : ℕ) (H : List Bool) (k : ℕ) (es : List Entry) → atoms_of names (heard_entries H k es) ≡ heard_variables names H k es
heard_atoms names H k [] = refl
heard_atoms names H k (e ∷ es) = either (is_heard H e.origin) (heard_atoms names H (k + 1) es)
  where
    either : (b : Bool) → atoms_of names (heard_entries H (k + 1) es) ≡ heard_variables names H (k + 1) es → atoms_of names (cond b (k ∷ []) [] ++ heard_entries H (k + 1) es) ≡ cond b ((names + k) ∷ []) [] ++ heard_variables names H (k + 1) es
    either true r = ap (λ l. (names + k) ∷ l) r
    either false r = r

pub heard_within : (H : List Bool) (k n : ℕ) (es : List Entry) → k + length es ≤ n → AreVariables n (heard_entries H k es)
heard_within H k n [] l = tt
heard_within H k n (e ∷ es) l = either (is_heard H e.origin) (omega arith) (heard_within H (k + 1) n es (omega arith))
  where
    either : (b : Bool) → k < n → AreVariables n (heard_entries H (k + 1) es) → AreVariables n (cond b (k ∷ []) [] ++ heard_entries H (k + 1) es)
    either true h r = (h, r)
    either false h r = r
