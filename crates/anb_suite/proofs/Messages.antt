-- What a code sends over a solution of its equations, and where it stops.
use Rattle.std.proofs.Common.{◌≡◌, ℕ, suc, ◌+◌, List, [], ◌∷◌, ◌++◌, length, map, take, Bool, true, false, cond, Option, Some, refl, sym, ap, ◌∙◌, arith, length-append}
use Rattle.std.specs.Prelude.{slice_get, count_by}
use Rattle.std.specs.List.{AllByRecursion}
use Rattle.std.proofs.lemmas.List.Sums.{sum_by-cons}
use Rattle.anb_lemmas.proofs.Each.{each_in_parts}
use Rattle.anb_term.specs.declared.term.Op.{Op}
use Rattle.anb_term.specs.Tree.{Tree, trees_of}
use Rattle.anb_term.specs.Value.{Meaning, RecipeTree, label, value}
use Rattle.anb_term.specs.Demand.{all_hold}
use Rattle.anb_term.specs.FreeAlgebra.{terms_over}
use Rattle.anb_term.specs.FreeLawful.{free_lawful}
use Rattle.anb_term.proofs.Lists.{slice_get-there}
use Rattle.anb_plays.specs.Plays.{Played, stopped, ends}
use Rattle.anb_plays.specs.Codes.{Act, takes, draws, receives, sends, works, Work, writes, demands, at_register}
use Rattle.anb_plays.specs.Runs.{run, run_from, says_if}
use Rattle.anb_plays.specs.Exec.{exec, on_written, worked, count_written, IsVerified, HasTakes}
use Rattle.anb_plays.proofs.Exec.{exec_is_run, takes_ready}
use Rattle.anb_probe.proofs.Dropping.{end_said}
use Rattle.anb_unify.specs.Substitutions.{IsNamed, AreNamed}
use Rattle.anb_unify.specs.Equations.{Solves, atoms_of}
use Rattle.anb_unify.proofs.Putting.{named_stays}
use Rattle.anb_distinguish.specs.Equations.{equations_from, held_from, received_from, CanUndoAll, AreSolved}
use Rattle.anb_distinguish.proofs.Registers.{Holds, holds_one, holds_more}
use Rattle.anb_distinguish.proofs.GoingOn.{work_on}
use Rattle.anb_distinguish.proofs.Solved.{solved_held}
use Rattle.anb_unify.specs.Substitutions.{KeepsNames}
use Rattle.anb_suite.specs.Walks.{sent_in}

-- ---- what is sent

sent_with : (o : Option (List Tree)) (ws : List Tree) (next : List Tree → Played Tree) (stop : Played Tree) → o ≡ Some ws → (on_written o next stop).sent ≡ (next ws).sent
sent_with o ws next stop e = rw e refl

-- where there is something to say, a run sends it first
pub sent_if : {A : Type 0} (o : Option A) (x : A) (p : Played A) → o ≡ Some x → (says_if o p).sent ≡ x ∷ p.sent
sent_if o x p e = rw e refl

module _ (has : Op → Bool) (N : ℕ) (put : ℕ → Tree) (keeps : KeepsNames N put) (draw : ℕ → Tree) (named : (i : ℕ) → IsNamed N (draw i)) where
  abbrev m : Meaning Tree
  m = terms_over has

  said : (acts : List Act) (n i e at : ℕ) (table : List Tree) → length table ≡ n → Holds N put table → IsVerified has acts n → CanUndoAll acts → AllByRecursion (Solves N put) (equations_from N draw acts n i)
      → (exec m draw acts table e at i (map put (atoms_of N (received_from acts n)))).sent ≡ map put (atoms_of N (sent_in acts))
  said [] n i e at table long h verified can solved = refl
  said (takes ∷ acts) n i e at table long h verified can solved = said acts n i e (at + 1) table long h verified can solved
  said (draws ∷ acts) n i e at table long h verified can solved =
      let here = holds_one N put n (draw i) (solved.0 ∙ named_stays N put keeps (draw i) (named i)) in
      said acts (n + 1) (i + 1) e (at + 1) (table ++ draw i ∷ []) (length-append table (draw i ∷ []) ∙ ap (λ l. l + 1) long) (holds_more N put table (draw i ∷ []) n long h here) verified can solved.1
  said (receives ∷ acts) n i e at table long h verified can solved =
      let x = put (N + n) in
      said acts (n + 1) i (e + 1) (at + 1) (table ++ x ∷ []) (length-append table (x ∷ []) ∙ ap (λ l. l + 1) long) (holds_more N put table (x ∷ []) n long h (holds_one N put n x refl)) verified can solved
  said (sends r ∷ acts) n i e at table long h verified can solved =
      let t = slice_get-there table r (omega (arith, verified.0, long)) in
      let rest = said acts n i (e + 1) (at + 1) table long h verified.1 can solved in
      sent_if (slice_get table r) t.0 _ t.1 ∙ ap (λ l. t.0 ∷ l) rest ∙ ap (λ x. x ∷ map put (atoms_of N (sent_in acts))) (sym (h r t.0 t.1))
  said (works w ∷ acts) n i e at table long h verified can solved =
      let k = work_on has N put keeps w table n long h verified.0 can.0 solved.0 in
      sent_with (worked m table w) k.written _ _ k.is
      ∙ said acts (n + count_written w) i e (at + 1) (table ++ k.written) (length-append table k.written ∙ ap (λ l. l + length k.written) long ∙ ap (λ l. n + l) k.long)
      (holds_more N put table k.written n long h k.holds) verified.1 can.1 solved.1

-- the run of a code over a solution sends what the solution has at the registers that are sent
pub sends_solved : (has : Op → Bool) (N : ℕ) (init : List Tree) (draw : ℕ → Tree) (code : List Act) (arrivals : List Tree) → HasTakes has code 0 (length init) → CanUndoAll code → AreNamed N (trees_of init) → ((i : ℕ) → IsNamed N (draw i))
    → (s : AreSolved N init draw code arrivals) → (run (terms_over has) draw code init arrivals).sent ≡ map s.put (atoms_of N (sent_in code))
sends_solved has N init draw code arrivals taking can known named s =
    let put = s.put in
    let keeps = s.solution.keeps in
    let parts = each_in_parts (Solves N put) (held_from init 0) (equations_from N draw code (length init) 0) s.solution.solves in
    let holds : Holds N put init = λ k t e. (let z : k ≡ 0 + k = omega arith in ap (λ x. put (N + x)) z ∙ solved_held N put keeps init 0 known parts.0 k t e) in
    let same = exec_is_run (terms_over has) (free_lawful has) draw code init arrivals taking in
    ap (λ (p : Played Tree). p.sent) (sym same)
    ∙ ap (λ l. (exec (terms_over has) draw code init 0 0 0 l).sent) s.are
    ∙ said has N put keeps draw named code (length init) 0 0 0 init refl holds (takes_ready has code 0 (length init) taking) can parts.1

-- ---- where it stops

abbrev pub exchanges : Act → Bool
exchanges takes = false
exchanges draws = false
exchanges receives = true
exchanges (sends r) = true
exchanges (works w) = false

module _ {A : Type 0} (m : Meaning A) (draw : ℕ → A) where
  -- the sends and receives before an instruction are done
  pub record StopsBehind (acts : List Act) (e at stop place : ℕ) : Type 0 where
    pub before : ℕ
    pub counts : place ≡ at + suc before
    pub done : stop ≡ e + count_by exchanges (take before acts)

  -- one act more before it
  behind_one : (act : Act) (acts : List Act) (e e' at stop place : ℕ) → e' ≡ e + cond {A = ℕ} (exchanges act) 1 0 → StopsBehind acts e' (at + 1) stop place → StopsBehind (act ∷ acts) e at stop place
  behind_one act acts e e' at stop place is r = record {
    before = suc r.before;
    counts = omega (arith, r.counts);
    done = omega (arith, r.done, is, sum_by-cons (λ x. cond {A = ℕ} (exchanges x) 1 0) act (take r.before acts));
  }

  by_demand : (w : Work) (acts : List Act) (e at stop place : ℕ) (p : Played A) (arrivals : List A) → (p.end ≡ stopped stop place → StopsBehind acts e (at + 1) stop place)
      → (b : Bool) → (cond b p (ends (stopped e (at + 1)) arrivals)).end ≡ stopped stop place → StopsBehind (works w ∷ acts) e at stop place
  by_demand w acts e at stop place p arrivals ih true s = behind_one (works w) acts e e at stop place (omega arith) (ih s)
  by_demand w acts e at stop place p arrivals ih false s =
      let z : e ≡ stop = cc in
      let q : at + 1 ≡ place = cc in
      record { before = 0; counts = sym q; done = omega (arith, z) }

  pub stops_behind : (acts : List Act) (regs : List RecipeTree) (vs : List A) (e at i : ℕ) (arrivals : List A) (stop place : ℕ) → (run_from m draw acts regs vs e at i arrivals).end ≡ stopped stop place → StopsBehind acts e at stop place
  stops_behind [] regs vs e at i arrivals stop place s = cc
  stops_behind (takes ∷ acts) regs vs e at i arrivals stop place s = behind_one takes acts e e at stop place (omega arith) (stops_behind acts (regs ++ label (length regs) ∷ []) vs e (at + 1) i arrivals stop place s)
  stops_behind (draws ∷ acts) regs vs e at i arrivals stop place s = behind_one draws acts e e at stop place (omega arith) (stops_behind acts (regs ++ label (length vs) ∷ []) (vs ++ draw i ∷ []) e (at + 1) (i + 1) arrivals stop place s)
  stops_behind (receives ∷ acts) regs vs e at i [] stop place s = cc
  stops_behind (receives ∷ acts) regs vs e at i (x ∷ arrivals) stop place s =
      behind_one receives acts e (e + 1) at stop place (omega arith) (stops_behind acts (regs ++ label (length vs) ∷ []) (vs ++ x ∷ []) (e + 1) (at + 1) i arrivals stop place s)
  stops_behind (sends r ∷ acts) regs vs e at i arrivals stop place s =
      behind_one (sends r) acts e (e + 1) at stop place (omega arith)
      (stops_behind acts regs vs (e + 1) (at + 1) i arrivals stop place (sym (end_said (value m vs (at_register regs r)) (run_from m draw acts regs vs (e + 1) (at + 1) i arrivals)) ∙ s))
  stops_behind (works w ∷ acts) regs vs e at i arrivals stop place s =
      by_demand w acts e at stop place (run_from m draw acts (regs ++ writes regs w) vs e (at + 1) i arrivals) arrivals (λ t. stops_behind acts (regs ++ writes regs w) vs e (at + 1) i arrivals stop place t) (all_hold m vs (demands regs w)) s
