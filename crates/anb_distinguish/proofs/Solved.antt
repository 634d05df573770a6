-- The runs of a code that are over are the solutions of its equations.
use Rattle.std.proofs.Common.{◌≡◌, ℕ, zero, suc, ◌+◌, List, [], ◌∷◌, length, Bool, refl, sym, ap, ◌∙◌, subst, arith}
use Rattle.std.specs.List.{AllByRecursion}
use Rattle.anb_lemmas.proofs.Each.{each_in_both, each_in_parts}
use Rattle.anb_term.specs.declared.term.Op.{Op}
use Rattle.anb_term.specs.Tree.{Tree, trees_of}
use Rattle.anb_term.specs.FreeAlgebra.{terms_over}
use Rattle.anb_term.specs.FreeLawful.{free_lawful}
use Rattle.anb_plays.specs.Codes.{Act}
use Rattle.anb_plays.specs.Runs.{run}
use Rattle.anb_plays.specs.Exec.{exec, HasTakes}
use Rattle.anb_plays.proofs.Exec.{exec_is_run, takes_ready}
use Rattle.anb_unify.specs.Substitutions.{KeepsNames, IsNamed, AreNamed}
use Rattle.anb_unify.specs.Equations.{Solves}
use Rattle.anb_unify.proofs.Putting.{named_stays}
use Rattle.anb_probe.specs.Cases.{IsOver}
use Rattle.anb_distinguish.specs.Equations.{equations_from, held_from, CanUndoAll, AreSolved, assigned}
use Rattle.anb_distinguish.specs.Laws.{RunsAreSolutions}
use Rattle.anb_distinguish.proofs.Registers.{Holds, HoldsFrom, assigned_keeps, assigned_at}
use Rattle.anb_distinguish.proofs.GoingOn.{goes_on}
use Rattle.anb_distinguish.proofs.Ending.{ended}

module _ (names : ℕ) (put : ℕ → Tree) (keeps : KeepsNames names put) where
  pub held_solved : (ts : List Tree) (n : ℕ) → HoldsFrom names put n ts → AreNamed names (trees_of ts) → AllByRecursion (Solves names put) (held_from ts n)
  held_solved [] n h named = tt
  held_solved (t ∷ ts) n h named =
      let z : n ≡ n + 0 = omega arith in (
        ap (λ k. put (names + k)) z ∙ h 0 t refl ∙ sym (named_stays names put keeps t named.0),
        held_solved ts (n + 1) (λ j u e. let s : n + 1 + j ≡ n + suc j = omega arith in ap (λ k. put (names + k)) s ∙ h (suc j) u e) named.1,
      )

  pub solved_held : (ts : List Tree) (n : ℕ) → AreNamed names (trees_of ts) → AllByRecursion (Solves names put) (held_from ts n) → HoldsFrom names put n ts
  solved_held [] n named h j t e = cc
  solved_held (u ∷ ts) n named h zero t e =
      let z : n + 0 ≡ n = omega arith in
      let s : u ≡ t = cc in
      ap (λ k. put (names + k)) z ∙ h.0 ∙ named_stays names put keeps u named.0 ∙ s
  solved_held (u ∷ ts) n named h (suc j) t e =
      let z : n + suc j ≡ n + 1 + j = omega arith in
      ap (λ k. put (names + k)) z ∙ solved_held ts (n + 1) named.1 h.1 j t e

module _ (has : Op → Bool) (names : ℕ) (init : List Tree) (draw : ℕ → Tree) (code : List Act) (arrivals : List Tree) (taking : HasTakes has code 0 (length init)) (named : AreNamed names (trees_of init)) (drawn : (i : ℕ) → IsNamed names (draw i)) where
  abbrev same : exec (terms_over has) draw code init 0 0 0 arrivals ≡ run (terms_over has) draw code init arrivals
  same = exec_is_run (terms_over has) (free_lawful has) draw code init arrivals taking

  pub over_solved : IsOver (run (terms_over has) draw code init arrivals) → AreSolved names init draw code arrivals
  over_solved over =
      let r = ended has names draw drawn code (length init) 0 0 0 init arrivals refl (takes_ready has code 0 (length init) taking) (subst IsOver (sym same) over) in
      let put = assigned names r.whole in
      let keeps = assigned_keeps names r.whole in
      record {
        put = put;
        solution = record {
          keeps = keeps;
          solves = each_in_both (Solves names put) (held_from init 0) (equations_from names draw code (length init) 0) (held_solved names put keeps init 0 (λ j t e. let z : 0 + j ≡ j = omega arith in ap (λ k. put (names + k)) z ∙ assigned_at names r.whole j t (r.front j t e)) named) r.solves;
        };
        are = r.came;
      }

  pub solved_over : CanUndoAll code → AreSolved names init draw code arrivals → IsOver (run (terms_over has) draw code init arrivals)
  solved_over can s =
      let put = s.put in
      let keeps = s.solution.keeps in
      let parts = each_in_parts (Solves names put) (held_from init 0) (equations_from names draw code (length init) 0) s.solution.solves in
      let holds : Holds names put init = λ k t e. (let z : k ≡ 0 + k = omega arith in ap (λ x. put (names + x)) z ∙ solved_held names put keeps init 0 named parts.0 k t e) in
      let over = goes_on has names put keeps draw drawn code (length init) 0 0 0 init refl holds (takes_ready has code 0 (length init) taking) can parts.1 in
      subst IsOver same (subst (λ l. IsOver (exec (terms_over has) draw code init 0 0 0 l)) (sym s.are) over)

pub runs_are_solutions : RunsAreSolutions
runs_are_solutions has names init draw code arrivals taking can named drawn =
    (over_solved has names init draw code arrivals taking named drawn, solved_over has names init draw code arrivals taking named drawn can)
