-- What the most general solution has at the two sides of a check.
use Rattle.std.proofs.Common.{◌≡◌, ℕ, zero, suc, ◌+◌, List, [], ◌∷◌, ◌++◌, length, map, Bool, refl, sym, ap, ◌∙◌, arith}
use Rattle.std.specs.Prelude.{slice_get, unwrap_or}
use Rattle.anb_lemmas.proofs.Each.{each_in_both, each_in_parts}
use Rattle.anb_term.specs.declared.term.Op.{Op}
use Rattle.anb_term.specs.Tree.{Tree, leaf, node, Trees, none, more, trees_of}
use Rattle.anb_plays.specs.Plans.{Event, known}
use Rattle.anb_plays.specs.Codes.{Act}
use Rattle.anb_plays.specs.Honest.{made}
use Rattle.anb_unify.specs.Substitutions.{put_in, IsNamed, AreNamed}
use Rattle.anb_unify.specs.Equations.{Solves, atoms_of}
use Rattle.anb_probe.specs.Cases.{less, drawn, IsImplied}
use Rattle.anb_distinguish.specs.Equations.{equations_from, held_from, AreSolved}
use Rattle.anb_distinguish.specs.Finding.{IsOverNames, IsCheck, received_in, HasPatterns}
use Rattle.anb_distinguish.specs.Laws.{SameSidesAreImplied}
use Rattle.anb_distinguish.proofs.Dropped.{solved_with, received_less, taking_less}
use Rattle.anb_distinguish.proofs.Solved.{over_solved, solved_over}

mutual
  -- terms over some names are over more
  pub named_more : (names : ℕ) (t : Tree) → IsNamed names t → IsNamed (names + 1) t
  named_more names (leaf n) h = omega (arith, h)
  named_more names (node o ts) h = all_named_more names ts h

  pub all_named_more : (names : ℕ) (ts : Trees) → AreNamed names ts → AreNamed (names + 1) ts
  all_named_more names none h = tt
  all_named_more names (more t ts) h = (named_more names t h.0, all_named_more names ts h.1)

nth_named : (names : ℕ) (ts : List Tree) (i : ℕ) → AreNamed names (trees_of ts) → IsNamed (names + 1) (unwrap_or (slice_get ts i) (leaf 0))
nth_named names [] i h = omega arith
nth_named names (t ∷ ts) zero h = named_more names t h.0
nth_named names (t ∷ ts) (suc i) h = nth_named names ts i h.1

pub drawn_named : (names : ℕ) (plan : List Event) → AreNamed names (trees_of (made plan)) → (i : ℕ) → IsNamed (names + 1) (drawn plan i)
drawn_named names plan h i = nth_named names (made plan) i h

-- what stands at some registers, and at two more
module _ (N a b : ℕ) (f : ℕ → Tree) where
  pub sides_of : (g : Tree → Tree) (rs : List ℕ) (ps : List Tree) (one other : Tree) → length ps ≡ length rs → map f (atoms_of N (rs ++ a ∷ b ∷ [])) ≡ map g (ps ++ one ∷ other ∷ [])
      → (map f (atoms_of N rs) ≡ map g ps) × (f (N + a) ≡ g one) × (f (N + b) ≡ g other)
  sides_of g [] [] one other n e = (refl, cc, cc)
  sides_of g [] (p ∷ ps) one other n e = absurd (omega arith)
  sides_of g (r ∷ rs) [] one other n e = absurd (omega arith)
  sides_of g (r ∷ rs) (p ∷ ps) one other n e =
      let first : f (N + r) ≡ g p = cc in
      let rest : map f (atoms_of N (rs ++ a ∷ b ∷ [])) ≡ map g (ps ++ one ∷ other ∷ []) = cc in
      let ih = sides_of g rs ps one other (omega arith) rest in
      (ap (λ x. x ∷ map f (atoms_of N rs)) first ∙ ap (λ l. g p ∷ l) ih.0, ih.1, ih.2)

  pub parts_are : (rs : List ℕ) (ps : List Tree) (one other : Tree) → length ps ≡ length rs → ps ++ one ∷ other ∷ [] ≡ map f (atoms_of N (rs ++ a ∷ b ∷ []))
      → (ps ≡ map f (atoms_of N rs)) × (one ≡ f (N + a)) × (other ≡ f (N + b))
  parts_are [] [] one other n e = (refl, cc, cc)
  parts_are [] (p ∷ ps) one other n e = absurd (omega arith)
  parts_are (r ∷ rs) [] one other n e = absurd (omega arith)
  parts_are (r ∷ rs) (p ∷ ps) one other n e =
      let first : p ≡ f (N + r) = cc in
      let rest : ps ++ one ∷ other ∷ [] ≡ map f (atoms_of N (rs ++ a ∷ b ∷ [])) = cc in
      let ih = parts_are rs ps one other (omega arith) rest in
      (ap (λ x. x ∷ ps) first ∙ ap (λ l. f (N + r) ∷ l) ih.0, ih.1, ih.2)

module _ (has : Op → Bool) (names : ℕ) (plan : List Event) (code : List Act) (check a b : ℕ) (over : IsOverNames has names plan code) (is : IsCheck code check a b) where
  abbrev n : ℕ
  n = length (known plan)

  -- a solution of the rest that has one term at both sides solves all
  pub whole_solved : (arrivals : List Tree) (s : AreSolved (names + 1) (known plan) (drawn plan) (less check code) arrivals) → s.put (names + 1 + a) ≡ s.put (names + 1 + b) → AreSolved (names + 1) (known plan) (drawn plan) code arrivals
  whole_solved arrivals s same =
      let parts = each_in_parts (Solves (names + 1) s.put) (held_from (known plan) 0) (equations_from (names + 1) (drawn plan) (less check code) n 0) s.solution.solves in
      let rest = solved_with check (names + 1) s.put (drawn plan) a b same code n 0 is.at is.counts is.here parts.1 in
      record {
        put = s.put;
        solution = record { keeps = s.solution.keeps; solves = each_in_both (Solves (names + 1) s.put) (held_from (known plan) 0) (equations_from (names + 1) (drawn plan) code n 0) parts.0 rest };
        are = s.are ∙ ap (λ l. map s.put (atoms_of (names + 1) l)) (received_less check code 0 n);
      }

  pub implied : (patterns : List Tree) (one : Tree) → HasPatterns names plan code check a b patterns one one → IsImplied has plan code check
  implied patterns one found arrivals ends =
      let named = all_named_more names (trees_of (known plan)) over.known in
      let drawn_are = drawn_named names plan over.made in
      let s = over_solved has (names + 1) (known plan) (drawn plan) (less check code) arrivals (taking_less check has code 0 0 n over.taking) named drawn_are ends in
      let g = sides_of (names + 1) a b s.put (put_in s.put) (received_in plan code) patterns one one found.count (found.are.general s.put s.solution) in
      solved_over has (names + 1) (known plan) (drawn plan) code arrivals over.taking named drawn_are over.can (whole_solved arrivals s (g.1 ∙ sym g.2))

pub same_sides_are_implied : SameSidesAreImplied
same_sides_are_implied has names plan code check a b arrivals one over is found = implied has names plan code check a b over is arrivals one found
