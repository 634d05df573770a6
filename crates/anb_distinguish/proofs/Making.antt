-- A case out of the most general solution of a code less a check.
use Rattle.std.proofs.Common.{◌≡◌, ◌≢◌, ℕ, ◌+◌, ◌<◌, List, [], ◌∷◌, ◌++◌, length, map, Bool, true, false, cond, Some, refl, sym, ap, ◌∙◌, subst, arith}
use Rattle.std.specs.Prelude.{◌==◌}
use Rattle.std.specs.List.{AllByRecursion}
use Rattle.std.proofs.lemmas.Bool.{eqb-true, eq-eqb}
use Rattle.std.proofs.lemmas.List.{length-map}
use Rattle.anb_lemmas.proofs.Each.{each_in_parts}
use Rattle.anb_term.specs.declared.term.Op.{Op}
use Rattle.anb_term.specs.Tree.{Tree, leaf, node, Trees, none, more, trees_of, list_of, tree_eqb, IsFormed, AreFormed}
use Rattle.anb_term.specs.TreeSame.{list_of-trees_of, tree_same}
use Rattle.anb_term.specs.FreeAlgebra.{terms, terms_over}
use Rattle.anb_plays.specs.Plans.{Event, known}
use Rattle.anb_plays.specs.Codes.{Act}
use Rattle.anb_plays.specs.Honest.{honest_all, heard}
use Rattle.anb_unify.specs.Substitutions.{put_in, KeepsNames, IsNamed, AreNamed}
use Rattle.anb_unify.specs.Equations.{Solves, atoms_of}
use Rattle.anb_unify.proofs.Putting.{put_all, named_stays}
use Rattle.anb_unify.proofs.Solutions.{after_keeps, after_solves, map_after}
use Rattle.anb_probe.specs.Cases.{less, drawn, for_spare, Sides, compared, IsCase}
use Rattle.anb_probe.proofs.Dropping.{at_check}
use Rattle.anb_distinguish.specs.Equations.{equations_from, held_from, AreSolved}
use Rattle.anb_distinguish.specs.Finding.{IsOverNames, IsCheck, less_equations, received_in, HasPatterns, spared, case_with}
use Rattle.anb_distinguish.specs.Laws.{IsHonest, TwoSidesMakeACase}
use Rattle.anb_distinguish.proofs.Registers.{Holds}
use Rattle.anb_distinguish.proofs.Solved.{solved_over, solved_held}
use Rattle.anb_distinguish.proofs.Dropped.{received_less, can_less, taking_less}
use Rattle.anb_distinguish.proofs.Sides.{all_named_more, drawn_named, sides_of, parts_are}
use Rattle.anb_distinguish.proofs.Comparing.{finds}

module _ (names v : ℕ) (honest : ℕ → Tree) where
  abbrev wrong : Tree
  wrong = honest v

  abbrev back : ℕ → Tree
  back n = for_spare names wrong n

  -- one atom
  at_variable : (n : ℕ) → (n == v) ≡ true → spared names v honest n ≡ leaf names
  at_variable n e = ap (λ b. cond b (leaf names) (honest n)) e

  elsewhere : (n : ℕ) → (n == v) ≡ false → spared names v honest n ≡ honest n
  elsewhere n e = ap (λ b. cond b (leaf names) (honest n)) e

  back_keeps : KeepsNames names back
  back_keeps n h = kept (n == names) refl
    where
      kept : (b : Bool) → (n == names) ≡ b → cond b wrong (leaf n) ≡ leaf n
      kept true e = absurd (let s : n ≡ names = eqb-true n names e in omega arith)
      kept false e = refl

  back_spare : back names ≡ wrong
  back_spare = ap (λ b. cond b wrong (leaf names)) (eq-eqb names names refl)

  again_atom : (n : ℕ) (b : Bool) → (n == v) ≡ b → IsNamed names (honest n) → put_in back (spared names v honest n) ≡ honest n
  again_atom n true e h = ap (put_in back) (at_variable n e) ∙ back_spare ∙ ap honest (sym (eqb-true n v e))
  again_atom n false e h = ap (put_in back) (elsewhere n e) ∙ named_stays names back back_keeps (honest n) h

  mutual
    -- with the wrong value's term in the place of the spare name it is the honest one
    again : (t : Tree) → IsNamed names (put_in honest t) → put_in back (put_in (spared names v honest) t) ≡ put_in honest t
    again (leaf n) h = again_atom n (n == v) refl h
    again (node o ts) h = ap (λ l. node o (trees_of l)) (all_again ts h)

    all_again : (ts : Trees) → AreNamed names (trees_of (honest_all terms honest ts)) → honest_all terms back (trees_of (honest_all terms (spared names v honest) ts)) ≡ honest_all terms honest ts
    all_again none h = refl
    all_again (more t ts) h = ap (λ x. x ∷ honest_all terms back (trees_of (honest_all terms (spared names v honest) ts))) (again t h.0) ∙ ap (λ l. put_in honest t ∷ l) (all_again ts h.1)

  each_again : (ts : List Tree) → AreNamed names (trees_of (map (put_in honest) ts)) → map (put_in back) (map (put_in (spared names v honest)) ts) ≡ map (put_in honest) ts
  each_again [] h = refl
  each_again (t ∷ ts) h = ap (λ x. x ∷ map (put_in back) (map (put_in (spared names v honest)) ts)) (again t h.0) ∙ ap (λ l. put_in honest t ∷ l) (each_again ts h.1)

  module _ (has : Op → Bool) where
    formed_atom : (n : ℕ) (b : Bool) → (n == v) ≡ b → IsFormed has (honest n) → IsFormed has (spared names v honest n)
    formed_atom n true e f = subst (IsFormed has) (sym (at_variable n e)) tt
    formed_atom n false e f = subst (IsFormed has) (sym (elsewhere n e)) f

    same_long : (p q : ℕ → Tree) (ts : Trees) → length (list_of (trees_of (honest_all terms p ts))) ≡ length (list_of (trees_of (honest_all terms q ts)))
    same_long p q ts =
        ap length (list_of-trees_of (honest_all terms p ts) ∙ put_all p ts) ∙ length-map (list_of ts) (put_in p) ∙ sym (length-map (list_of ts) (put_in q)) ∙ sym (ap length (list_of-trees_of (honest_all terms q ts) ∙ put_all q ts))

    mutual
      formed_still : (t : Tree) → IsFormed has (put_in honest t) → IsFormed has (put_in (spared names v honest) t)
      formed_still (leaf n) f = formed_atom n (n == v) refl f
      formed_still (node o ts) f = (f.0, same_long (spared names v honest) honest ts ∙ f.1, all_formed_still ts f.2)

      all_formed_still : (ts : Trees) → AreFormed has (trees_of (honest_all terms honest ts)) → AreFormed has (trees_of (honest_all terms (spared names v honest) ts))
      all_formed_still none f = tt
      all_formed_still (more t ts) f = (formed_still t f.0, all_formed_still ts f.1)

    pub each_formed_still : (ts : List Tree) → AreFormed has (trees_of (map (put_in honest) ts)) → AreFormed has (trees_of (map (put_in (spared names v honest)) ts))
    each_formed_still [] f = tt
    each_formed_still (t ∷ ts) f = (formed_still t f.0, each_formed_still ts f.1)

  pub spared_keeps : names < v → KeepsNames (names + 1) honest → KeepsNames (names + 1) (spared names v honest)
  spared_keeps behind keeps n h = kept (n == v) refl
    where
      kept : (b : Bool) → (n == v) ≡ b → cond b (leaf names) (honest n) ≡ leaf n
      kept true e = absurd (let s : n ≡ v = eqb-true n v e in omega (arith, h, behind, s))
      kept false e = keeps n h

-- two terms that aren't one differ as a test tells
told_apart : (x y : Tree) → x ≢ y → (b : Bool) → tree_eqb x y ≡ b → tree_eqb x y ≡ false
told_apart x y apart true e = absurd (apart (tree_same x y e))
told_apart x y apart false e = e

-- the last two of a list to its front
turned : (has : Op → Bool) (xs : List Tree) (y z : Tree) → AreFormed has (trees_of (xs ++ y ∷ z ∷ [])) → AreFormed has (trees_of (y ∷ z ∷ xs))
turned has [] y z f = f
turned has (x ∷ xs) y z f = let r = turned has xs y z f.1 in (r.0, (r.1.0, (f.0, r.1.1)))

module _ (has : Op → Bool) (names : ℕ) (plan : List Event) (code : List Act) (check a b : ℕ) (arrivals : List Tree) (one other : Tree) (honest : ℕ → Tree) (v : ℕ)
    (over : IsOverNames has names plan code) (is : IsCheck code check a b) (found : HasPatterns names plan code check a b arrivals one other) (true_one : IsHonest has names plan code check a b honest)
    (behind : names < v) (apart : put_in (spared names v honest) one ≢ put_in (spared names v honest) other) where
  abbrev N : ℕ
  N = names + 1

  abbrev n : ℕ
  n = length (known plan)

  abbrev s : ℕ → Tree
  s = spared names v honest

  abbrev put : ℕ → Tree
  put k = put_in s (found.are.put k)

  came : List Tree
  came = map (put_in s) arrivals

  keeps : KeepsNames N s
  keeps = spared_keeps names v honest behind true_one.solution.keeps

  put_keeps : KeepsNames N put
  put_keeps = after_keeps N s found.are.put keeps found.are.solution.keeps

  put_solves : AllByRecursion (Solves N put) (less_equations names plan code check)
  put_solves = after_solves N s found.are.put keeps (less_equations names plan code check) found.are.solution.solves

  -- what the most general solution has
  at_sides : (arrivals ≡ map found.are.put (atoms_of N (received_in plan code))) × (one ≡ found.are.put (N + a)) × (other ≡ found.are.put (N + b))
  at_sides = parts_are N a b found.are.put (received_in plan code) arrivals one other found.count found.are.is

  came_is : came ≡ map put (atoms_of N (received_in plan code))
  unfolding came
  came_is = ap (map (put_in s)) at_sides.0 ∙ map_after s found.are.put (atoms_of N (received_in plan code))

  solved : AreSolved N (known plan) (drawn plan) (less check code) came
  solved = record {
    put = put;
    solution = record { keeps = put_keeps; solves = put_solves };
    are = came_is ∙ ap (λ l. map put (atoms_of N l)) (sym (received_less check code 0 n));
  }

  known_named : AreNamed N (trees_of (known plan))
  known_named = all_named_more names (trees_of (known plan)) over.known

  parts : AllByRecursion (Solves N put) (held_from (known plan) 0) × AllByRecursion (Solves N put) (equations_from N (drawn plan) (less check code) n 0)
  parts = each_in_parts (Solves N put) (held_from (known plan) 0) (equations_from N (drawn plan) (less check code) n 0) put_solves

  holds : Holds N put (known plan)
  holds k t e = let z : k ≡ 0 + k = omega arith in ap (λ x. put (N + x)) z ∙ solved_held N put put_keeps (known plan) 0 known_named parts.0 k t e

  the_sides : Sides Tree
  the_sides = record { one = put_in s one; other = put_in s other }

  compared_is : compared (terms_over has) (drawn plan) check code (known plan) came ≡ Some the_sides
  unfolding the_sides
  compared_is =
      let f = finds has N put put_keeps (drawn plan) (drawn_named names plan over.made) check a b (known plan) holds code is.at over.taking over.can is.counts is.here parts.1 in
      let p : put (N + a) ≡ put_in s one = ap (put_in s) (sym at_sides.1) in
      let q : put (N + b) ≡ put_in s other = ap (put_in s) (sym at_sides.2) in
      ap (compared (terms_over has) (drawn plan) check code (known plan)) came_is ∙ f ∙ ap (λ x. Some (record { one = x; other = put (N + b) })) p ∙ ap (λ y. Some (record { one = put_in s one; other = y })) q

  at_honest : (map honest (atoms_of N (received_in plan code)) ≡ map (put_in honest) arrivals) × (honest (N + a) ≡ put_in honest one) × (honest (N + b) ≡ put_in honest other)
  at_honest = sides_of N a b honest (put_in honest) (received_in plan code) arrivals one other found.count (found.are.general honest true_one.solution)

  heard_is : map (put_in honest) arrivals ≡ heard plan
  heard_is = sym at_honest.0 ∙ true_one.narrated

  pub is_case : IsCase has names plan code check (case_with names v honest arrivals one other)
  unfolding came the_sides
  is_case =
      let goes = solved_over has N (known plan) (drawn plan) (less check code) came (taking_less check has code 0 0 n over.taking) known_named (drawn_named names plan over.made) (can_less check code 0 over.can) solved in
      let test = told_apart (put_in s one) (put_in s other) apart (tree_eqb (put_in s one) (put_in s other)) refl in
      let told = at_check (terms_over has) (drawn plan) check code 0 [] (known plan) 0 0 0 came the_sides goes compared_is in
      let all = subst (λ l. AreFormed has (trees_of l)) (found.are.general honest true_one.solution) true_one.formed in
      let split = map_split (arrivals) in
      record {
        formed = turned has came (put_in s one) (put_in s other) (subst (λ l. AreFormed has (trees_of l)) split (each_formed_still names v honest has (arrivals ++ one ∷ other ∷ []) all));
        narrated = each_again names v honest arrivals (subst (λ l. AreNamed names (trees_of l)) (sym heard_is) true_one.named) ∙ heard_is;
        goes_on = goes;
        finds = compared_is;
        stops = told.differ test;
      }
    where
      map_split : (ps : List Tree) → map (put_in s) (ps ++ one ∷ other ∷ []) ≡ map (put_in s) ps ++ put_in s one ∷ put_in s other ∷ []
      map_split [] = refl
      map_split (p ∷ ps) = ap (λ l. put_in s p ∷ l) (map_split ps)

pub two_sides_make_a_case : TwoSidesMakeACase
two_sides_make_a_case has names plan code check a b arrivals one other honest v over is found true_one behind apart =
    is_case has names plan code check a b arrivals one other honest v over is found true_one behind apart
