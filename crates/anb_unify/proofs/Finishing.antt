-- What was solved and read is the most general solution.
use Rattle.std.proofs.Common.{◌≡◌, ℕ, suc, ◌+◌, ◌<◌, List, [], ◌∷◌, length, map, Some, refl, sym, ap, ◌∙◌, arith}
use Rattle.std.specs.Prelude.{slice_get, unwrap_or}
use Rattle.std.specs.List.{AllByRecursion}
use Rattle.anb_lemmas.proofs.Each.{each_got}
use Rattle.anb_term.specs.Tree.{Tree, leaf}
use Rattle.anb_term.proofs.Lists.{slice_get-map, slice_get-there}
use Rattle.anb_intern.specs.declared.node.NodeId.{NodeId}
use Rattle.anb_intern.specs.Nodes.{AreDistinct, AreBefore}
use Rattle.anb_unify.specs.Substitutions.{put_in}
use Rattle.anb_unify.specs.Equations.{EquationValue, IsSolution, IsMostGeneral, Solves, HasSolution, AreVariables, atoms_of}
use Rattle.anb_unify.specs.Classes.{AreClasses, IsShortened, Respects}
use Rattle.anb_unify.specs.Reading.{read, Settles, Keeps, AreRoots, AreSolved}
use Rattle.anb_unify.specs.Solving.{AreAt, first_variables, terms_of_equations, CanBeRead, read_at}
use Rattle.anb_unify.proofs.Steps.{at_got, variable_at}
use Rattle.anb_unify.proofs.Settling.{rep, rep_respects, settles, read_same, most, most_keeps, most_at, most_read, read_general}

-- solved, where parents were shortened
pub solved_on : (names : ℕ) (ts : List Tree) (qs : List EquationValue) (ps ps' : List NodeId) → IsShortened names ts ps ps' → AreSolved names ts qs ps → AreSolved names ts qs ps'
solved_on names ts qs ps ps' s a = record {
  same = λ f h. a.same f (s.back f h);
  closed = λ f h i t at plain. (let r = a.closed f (s.back f h) i t at plain in record { root = r.root; term = r.term; is_root = s.roots r.root r.is_root; here = r.here; same = r.same; like = r.like });
  general = λ put sol. s.on (put_in put) (a.general put sol);
}

module _ (names : ℕ) (ts : List Tree) (ps roots : List NodeId) (classes : AreClasses names ts ps) (distinct : AreDistinct ts) (qs : List EquationValue) (solved : AreSolved names ts qs ps) (long : length roots ≡ length ts) (are : AreRoots ts ps roots) where
  pub stands_for : Tree → Tree
  stands_for t = rep names ts ps classes distinct t

  pub settled : Settles names ts roots stands_for
  unfolding stands_for
  settled = settles names ts ps classes distinct roots long are (solved.closed (rep names ts ps classes distinct) (rep_respects names ts ps classes distinct))

  -- a solution gives each term what it gives for its class
  pub solution_kept : (put : ℕ → Tree) → IsSolution names qs put → Keeps ts stands_for put
  solution_kept put sol i t at =
      let r = settled.at i t at in
      are.same i r.0 r.1 (put_in put) (solved.general put sol) t (stands_for t) at r.2

  respects_it : Respects ts stands_for ps
  unfolding stands_for
  respects_it = rep_respects names ts ps classes distinct

  module _ (narrated : List Tree) (given : HasSolution names narrated qs) where
    pub can_be_read : CanBeRead names ts roots narrated
    can_be_read = record { rep = stands_for; settles = settled; put = given.put; kept = solution_kept given.put given.solution; each = given.each }

    module _ (before : AreBefore ts) (variables sides : List NodeId) (variables_at : AreAt ts variables (first_variables names (length narrated))) (sides_at : AreAt ts sides (terms_of_equations qs)) where
      kept : Keeps ts stands_for given.put
      kept = solution_kept given.put given.solution

      found : ℕ → Tree
      found n = most names ts roots stands_for settled before given.put given.solution.keeps kept n

      variable_in : (k : ℕ) → k < length narrated → (i : ℕ) × (slice_get ts i ≡ Some (leaf (names + k)))
      variable_in k l = let g = at_got ts variables (first_variables names (length narrated)) k (leaf (names + k)) variables_at (variable_at names (length narrated) k l) in (g.0.0, g.2)

      side_in : (i : ℕ) (q : EquationValue) → slice_get qs i ≡ Some q → (j : ℕ) × (slice_get ts j ≡ Some q.term)
      side_in i q at = let g = at_got ts sides (terms_of_equations qs) i q.term sides_at (slice_get-map (λ (x : EquationValue). x.term) qs i q at) in (g.0.0, g.2)

      found_at : (k : ℕ) → found (names + k) ≡ read stands_for (leaf (names + k)) (given.put (names + k))
      unfolding found
      found_at k = most_at names ts roots stands_for settled before given.put given.solution.keeps kept (names + k) (omega arith)

      found_solves : (i : ℕ) (q : EquationValue) → slice_get qs i ≡ Some q → Solves names found q
      unfolding found
      found_solves i q at =
          let r = most_read names ts roots stands_for settled before given.put given.solution.keeps kept q.term (side_in i q at) in
          let s : stands_for (leaf (names + q.variable)) ≡ stands_for q.term = each_got (λ (x : EquationValue). stands_for (leaf (names + x.variable)) ≡ stands_for x.term) qs i q (solved.same stands_for respects_it) at in
          let n : given.put (names + q.variable) ≡ put_in given.put q.term = each_got (Solves names given.put) qs i q given.solution.solves at in
          found_at q.variable ∙ read_same stands_for (leaf (names + q.variable)) q.term (given.put (names + q.variable)) s ∙ ap (read stands_for q.term) n ∙ sym r

      all_solved : (xs : List EquationValue) → ((i : ℕ) (q : EquationValue) → slice_get xs i ≡ Some q → Solves names found q) → AllByRecursion (Solves names found) xs
      all_solved [] f = tt
      all_solved (x ∷ xs) f = (f 0 x refl, all_solved xs (λ i. f (suc i)))

      -- what is read of a variable is what the solution has
      found_variable : (k : ℕ) → k < length narrated → read_at stands_for names narrated k ≡ found (names + k)
      found_variable k l =
          let t = slice_get-there narrated k l in
          let e : unwrap_or (slice_get narrated k) (leaf 0) ≡ t.0 = ap (λ o. unwrap_or o (leaf 0)) t.1 in
          ap (read stands_for (leaf (names + k))) (e ∙ sym (given.each k t.0 t.1)) ∙ sym (found_at k)

      all_found : (at : List ℕ) → AreVariables (length narrated) at → map (read_at stands_for names narrated) at ≡ map found (atoms_of names at)
      all_found [] h = refl
      all_found (k ∷ at) h = ap (λ t. t ∷ map (read_at stands_for names narrated) at) (found_variable k h.0) ∙ ap (λ l. found (names + k) ∷ l) (all_found at h.1)

      general_at : (other : ℕ → Tree) → IsSolution names qs other → (k : ℕ) → k < length narrated → other (names + k) ≡ put_in other (found (names + k))
      general_at other sol k l =
          read_general names ts roots stands_for settled before given.put given.solution.keeps kept other (solution_kept other sol) (given.put (names + k)) (leaf (names + k)) (variable_in k l) refl ∙ ap (put_in other) (sym (found_at k))

      all_general : (other : ℕ → Tree) → IsSolution names qs other → (at : List ℕ) → AreVariables (length narrated) at → map other (atoms_of names at) ≡ map (put_in other) (map found (atoms_of names at))
      all_general other sol [] h = refl
      all_general other sol (k ∷ at) h = ap (λ t. t ∷ map other (atoms_of names at)) (general_at other sol k h.0) ∙ ap (λ l. put_in other (found (names + k)) ∷ l) (all_general other sol at h.1)

      pub is_most_general : (at : List ℕ) → AreVariables (length narrated) at → (patterns : List Tree) → patterns ≡ map (read_at stands_for names narrated) at → IsMostGeneral names qs (atoms_of names at) patterns
      unfolding found
      is_most_general at within patterns is =
          let whole = is ∙ all_found at within in
          record {
            put = found;
            solution = record { keeps = most_keeps names ts roots stands_for settled before given.put given.solution.keeps kept; solves = all_solved qs found_solves };
            is = whole;
            general = λ other sol. all_general other sol at within ∙ ap (map (put_in other)) (sym whole);
          }
