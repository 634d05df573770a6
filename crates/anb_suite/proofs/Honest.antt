-- A role's code less a check: what is solved, and its narrated solution.
use Rattle.std.proofs.Common.{◌≡◌, ℕ, suc, ◌+◌, ◌<◌, List, [], ◌∷◌, ◌++◌, length, map, Bool, Some, refl, sym, ap, ◌∙◌, subst, arith}
use Rattle.std.specs.Prelude.{slice_get, unwrap_or}
use Rattle.std.specs.List.{AllByRecursion}
use Rattle.std.proofs.lemmas.List.{length-map}
use Rattle.anb_lemmas.proofs.Each.{each_in_both, each_as, each_got}
use Rattle.anb_lemmas.proofs.Lists.{got_within}
use Rattle.anb_format.specs.Formats.{FormatValue}
use Rattle.anb_term.specs.declared.term.Op.{Op}
use Rattle.anb_term.specs.Tree.{Tree, leaf, trees_of, IsFormed}
use Rattle.anb_term.specs.Value.{values, recipe_trees}
use Rattle.anb_term.specs.FreeAlgebra.{terms_over}
use Rattle.anb_term.proofs.Lists.{slice_get-there}
use Rattle.anb_algebra.specs.ByteMeaning.{has_operator}
use Rattle.anb_plays.specs.Plans.{Event, known}
use Rattle.anb_plays.specs.Codes.{Act}
use Rattle.anb_plays.specs.Exec.{HasTakes}
use Rattle.anb_plays.specs.Honest.{heard, made}
use Rattle.anb_code.specs.declared.instr.Instr.{Instr}
use Rattle.anb_code.specs.declared.instr.Instr.TheVariants.{Take, Fresh, Recv, Hash, Mac, Seal, Unseal, Wrap, Unwrap, Build, Parse, Equal, Send}
use Rattle.anb_code.specs.CodeValue.{CodeValue}
use Rattle.anb_code.specs.Meaning.{act_of, acts_of}
use Rattle.anb_code.specs.Taking.{take_texts}
use Rattle.anb_protocol.specs.Protocols.{ProtocolValue}
use Rattle.anb_protocol.specs.Plans.{PlanEvent, to_know, to_make, to_send, to_receive, plan_of, term_in}
use Rattle.anb_protocol.specs.Plays.{event_of, events_of}
use Rattle.anb_protocol.specs.Texts.{IsTermOf, term_text, known_by}
use Rattle.anb_protocol.proofs.KnowLemmas.{formed}
use Rattle.anb_compile.specs.Fitting.{FitsRole}
use Rattle.anb_compile.specs.Registers.{register_recipes, all_labels}
use Rattle.anb_compile.proofs.Events.{known_events}
use Rattle.anb_compile.proofs.Protocols.{known_of_plan}
use Rattle.anb_explain.specs.Explained.{register_terms}
use Rattle.anb_accept.proofs.OfPlans.{labels_named}
use Rattle.anb_unify.specs.Substitutions.{IsNamed, AreNamed}
use Rattle.anb_unify.specs.Equations.{EquationValue, Solves, IsSolution, HasSolution, AreOfVariables, AreVariables, atoms_of}
use Rattle.anb_probe.specs.Cases.{drawn, less}
use Rattle.anb_distinguish.specs.Equations.{equations_from, held_from, CanUndoAll, assigned}
use Rattle.anb_distinguish.specs.Finding.{IsOverNames, IsCheck, less_equations, received_in}
use Rattle.anb_distinguish.specs.Laws.{IsHonest}
use Rattle.anb_distinguish.proofs.Registers.{HoldsFrom, assigned_keeps, assigned_at}
use Rattle.anb_distinguish.proofs.Sides.{all_named_more, drawn_named}
use Rattle.anb_distinguish.proofs.Solved.{held_solved}
use Rattle.anb_suite.specs.Reading.{read_by}
use Rattle.anb_suite.specs.declared.reading.Reading.{Reading}
use Rattle.anb_suite.specs.Walks.{sent_in}
use Rattle.anb_suite.specs.Sparing.{asked}
use Rattle.anb_suite.proofs.Narrated.{begun, whole_is}
use Rattle.anb_suite.proofs.Lessening.{each_less, sides_same}
use Rattle.anb_suite.proofs.Replaced.{can_by, check_by, received_by, sent_by, solved_by, taking_by, within_by}
use Rattle.anb_suite.proofs.Spared.{assigned_holds, formed_atoms}

-- ---- terms of a protocol are over its names

pub term_named : (p : ProtocolValue) (t : Tree) → IsTermOf p t → IsNamed (length p.atoms) t
term_named p t h = (labels_named p (to_know t ∷ []) (h, tt)).0

module _ (p : ProtocolValue) where
  known_named : (es : List PlanEvent) → AllByRecursion (λ e. IsTermOf p (term_in e)) es → AreNamed (length p.atoms) (trees_of (known (map event_of es)))
  known_named [] h = tt
  known_named (to_know t ∷ es) h = (term_named p t h.0, known_named es h.1)
  known_named (to_make t ∷ es) h = known_named es h.1
  known_named (to_send j t ∷ es) h = known_named es h.1
  known_named (to_receive j t ∷ es) h = known_named es h.1

  made_named : (es : List PlanEvent) → AllByRecursion (λ e. IsTermOf p (term_in e)) es → AreNamed (length p.atoms) (trees_of (made (map event_of es)))
  made_named [] h = tt
  made_named (to_know t ∷ es) h = made_named es h.1
  made_named (to_make t ∷ es) h = (term_named p t h.0, made_named es h.1)
  made_named (to_send j t ∷ es) h = made_named es h.1
  made_named (to_receive j t ∷ es) h = made_named es h.1

  heard_named : (es : List PlanEvent) → AllByRecursion (λ e. IsTermOf p (term_in e)) es → AreNamed (length p.atoms) (trees_of (heard (map event_of es)))
  heard_named [] h = tt
  heard_named (to_know t ∷ es) h = heard_named es h.1
  heard_named (to_make t ∷ es) h = heard_named es h.1
  heard_named (to_send j t ∷ es) h = heard_named es h.1
  heard_named (to_receive j t ∷ es) h = (term_named p t h.0, heard_named es h.1)

-- ---- a code undoes only what can be undone

pub can_undo : (formats : List FormatValue) (instrs : List Instr) → CanUndoAll (map (act_of formats) instrs)
can_undo formats [] = tt
can_undo formats (Take text ∷ instrs) = can_undo formats instrs
can_undo formats (Fresh ∷ instrs) = can_undo formats instrs
can_undo formats (Recv ∷ instrs) = can_undo formats instrs
can_undo formats (Hash r ∷ instrs) = (tt, can_undo formats instrs)
can_undo formats (Mac k b ∷ instrs) = (tt, can_undo formats instrs)
can_undo formats (Seal k b ∷ instrs) = (tt, can_undo formats instrs)
can_undo formats (Unseal k c ∷ instrs) = (refl, can_undo formats instrs)
can_undo formats (Wrap k d b ∷ instrs) = (tt, can_undo formats instrs)
can_undo formats (Unwrap k d c ∷ instrs) = (refl, can_undo formats instrs)
can_undo formats (Build f rs ∷ instrs) = (tt, can_undo formats instrs)
can_undo formats (Parse f r ∷ instrs) = (refl, can_undo formats instrs)
can_undo formats (Equal a b ∷ instrs) = (tt, can_undo formats instrs)
can_undo formats (Send r ∷ instrs) = can_undo formats instrs

-- ---- as many takes as what is known

pub takes_are_known : (p : ProtocolValue) (role : ℕ) (code : CodeValue) → FitsRole p role code → length (take_texts code.instrs) ≡ length (known (events_of p role))
takes_are_known p role code fits =
    ap length fits.texts ∙ length-map (known_by p role) (term_text p) ∙ sym (ap length (known_events (plan_of p role) ∙ known_of_plan p role))

-- ---- what is held

held_within : (us : List Tree) (k m : ℕ) → ((j : ℕ) (t : Tree) → slice_get us j ≡ Some t → k + j < m) → AllByRecursion (λ (q : EquationValue). q.variable < m) (held_from us k)
held_within [] k m h = tt
held_within (t ∷ us) k m h = (omega (arith, h 0 t refl), held_within us (k + 1) m (λ j u e. omega (arith, h (suc j) u e)))

-- What is told of all registers of acts, with their terms.
module _ (p : ProtocolValue) (role : ℕ) (acts : List Act) (a b : ℕ) (ts : List Tree) where
  abbrev told_names : ℕ
  told_names = length p.atoms + 1

  abbrev told_plan : List Event
  told_plan = events_of p role

  abbrev told_count : ℕ
  told_count = length (known (events_of p role))

  pub record Narrated : Type 0 where
    pub knows : (k : ℕ) (t : Tree) → slice_get (known told_plan) k ≡ Some t → slice_get ts k ≡ Some t
    pub solves : AllByRecursion (Solves told_names (assigned told_names ts)) (equations_from told_names (drawn told_plan) acts told_count 0)
    pub within : AreOfVariables (length ts) (equations_from told_names (drawn told_plan) acts told_count 0)
    pub came : heard told_plan ≡ map (assigned told_names ts) (atoms_of told_names (received_in told_plan acts))
    pub came_within : AreVariables (length ts) (received_in told_plan acts)
    pub sent_within : AreVariables (length ts) (sent_in acts)
    pub sides_within : (a < length ts) × (b < length ts)

-- those of a role's code
module _ (p : ProtocolValue) (role : ℕ) (code : CodeValue) (check a b : ℕ) (ts : List Tree) (fits : FitsRole p role code) (taking : HasTakes (has_operator p.formats) (acts_of code) 0 (length (known (events_of p role))))
    (of_plan : AllByRecursion (λ e. IsTermOf p (term_in e)) (plan_of p role)) (are : register_terms p role code ≡ Some ts) (is : IsCheck (acts_of code) check a b) where
  abbrev own : List Act
  own = acts_of code

  narrated : Narrated p role own a b ts
  narrated =
      let N = length p.atoms + 1 in
      let plan = events_of p role in
      let n = length (known plan) in
      let named = drawn_named (length p.atoms) plan (made_named p (plan_of p role) of_plan) in
      let g = begun p.formats p.suite plan own N (drawn plan) named n refl (plan_of p role) refl taking fits.fits.sound (λ k t e. ap (λ o. unwrap_or o (leaf 0)) e) in
      let r = g.rest in
      let P : List FormatValue → Type 0 = λ f. values (terms_over (has_operator f)) (all_labels plan) (recipe_trees (register_recipes own)) ≡ Some ts in
      let whole : r.whole ≡ ts = whole_is p.formats p.suite plan own N (drawn plan) named r.whole ts r.ends (subst P fits.formats are) in
      record {
        knows = λ k t e. subst (λ l. slice_get l k ≡ Some t) whole (g.knows k t e);
        solves = subst (λ l. AllByRecursion (Solves N (assigned N l)) (equations_from N (drawn plan) own n 0)) whole r.solves;
        within = subst (λ l. AreOfVariables (length l) (equations_from N (drawn plan) own n 0)) whole r.within;
        came = subst (λ l. heard plan ≡ map (assigned N l) (atoms_of N (received_in plan own))) whole r.came;
        came_within = subst (λ l. AreVariables (length l) (received_in plan own)) whole r.came_within;
        sent_within = subst (λ l. AreVariables (length l) (sent_in own)) whole r.sent_within;
        sides_within = subst (λ l. (a < length l) × (b < length l)) whole (r.sides_within is.at a b is.here);
      }

  -- and of the code as it is read behind a check
  pub narrated_as : (reading : Reading) → Narrated p role (read_by reading check a b own) a b ts
  narrated_as reading =
      let g = narrated in
      let N = length p.atoms + 1 in
      let plan = events_of p role in
      let n = length (known plan) in
      let put = assigned N ts in
      let same : put (N + a) ≡ put (N + b) = sides_same N put (drawn plan) own n 0 is.at a b g.solves is.here in
      let came : received_in plan (read_by reading check a b own) ≡ received_in plan own = received_by reading check a b own n in
      record {
        knows = g.knows;
        solves = solved_by N (drawn plan) put reading check a b own n 0 same g.solves;
        within = within_by N (drawn plan) reading check a b own (length ts) n 0 g.sides_within.0 g.sides_within.1 g.within;
        came = g.came ∙ ap (λ l. map put (atoms_of N l)) (sym came);
        came_within = subst (AreVariables (length ts)) (sym came) g.came_within;
        sent_within = sent_by reading check a b own (length ts) g.sides_within.0 g.sides_within.1 g.sent_within;
        sides_within = g.sides_within;
      }

-- what is told of a code as it is read behind a check
pub record ToldAs (p : ProtocolValue) (role : ℕ) (code : CodeValue) (reading : Reading) (check a b : ℕ) (ts : List Tree) : Type 0 where
  pub taking : HasTakes (has_operator p.formats) (read_by reading check a b (acts_of code)) 0 (length (known (events_of p role)))
  pub can : CanUndoAll (read_by reading check a b (acts_of code))
  pub of_plan : AllByRecursion (λ e. IsTermOf p (term_in e)) (plan_of p role)
  pub ours : AllByRecursion (IsTermOf p) ts
  pub told : Narrated p role (read_by reading check a b (acts_of code)) a b ts
  pub is : IsCheck (read_by reading check a b (acts_of code)) check a b

pub reads_told : (p : ProtocolValue) (role : ℕ) (code : CodeValue) (reading : Reading) (check a b : ℕ) (ts : List Tree) → FitsRole p role code → HasTakes (has_operator p.formats) (acts_of code) 0 (length (known (events_of p role)))
    → AllByRecursion (λ e. IsTermOf p (term_in e)) (plan_of p role) → register_terms p role code ≡ Some ts → AllByRecursion (IsTermOf p) ts → IsCheck (acts_of code) check a b → ToldAs p role code reading check a b ts
reads_told p role code reading check a b ts fits taking of_plan are ours is = record {
  taking = taking_by (has_operator p.formats) reading check a b (acts_of code) (length (known (events_of p role))) is taking;
  can = can_by reading check a b (acts_of code) (can_undo code.formats code.instrs);
  of_plan = of_plan;
  ours = ours;
  told = narrated_as p role code check a b ts fits taking of_plan are is reading;
  is = check_by reading check a b (acts_of code) is;
}

-- what it comes to, of acts that follow the plan
module _ (p : ProtocolValue) (role : ℕ) (acts : List Act) (check a b : ℕ) (ts : List Tree) (taking : HasTakes (has_operator p.formats) acts 0 (length (known (events_of p role)))) (can : CanUndoAll acts)
    (of_plan : AllByRecursion (λ e. IsTermOf p (term_in e)) (plan_of p role)) (ours : AllByRecursion (IsTermOf p) ts) (g : Narrated p role acts a b ts) (is : IsCheck acts check a b) where
  abbrev names : ℕ
  names = length p.atoms

  abbrev N : ℕ
  N = names + 1

  abbrev has : Op → Bool
  has = has_operator p.formats

  abbrev plan : List Event
  plan = events_of p role

  abbrev n : ℕ
  n = length (known plan)

  abbrev put : ℕ → Tree
  put = assigned N ts

  pub over_names : IsOverNames has names plan acts
  over_names = record { taking = taking; can = can; known = known_named p (plan_of p role) of_plan; made = made_named p (plan_of p role) of_plan }

  solution : IsSolution N (less_equations names plan acts check) put
  solution =
      let keeps = assigned_keeps N ts in
      let held : HoldsFrom N put 0 (known plan) = λ j t e. (let z : 0 + j ≡ j = omega arith in ap (λ k. put (N + k)) z ∙ assigned_at N ts j t (g.knows j t e)) in
      record {
        keeps = keeps;
        solves = each_in_both (Solves N put) (held_from (known plan) 0) (equations_from N (drawn plan) (less check acts) n 0)
            (held_solved N put keeps (known plan) 0 held (all_named_more names (trees_of (known plan)) (known_named p (plan_of p role) of_plan)))
            (each_less check (Solves N put) N (drawn plan) acts 0 n 0 g.solves);
      }

  pub has_solution : HasSolution N ts (less_equations names plan acts check)
  has_solution = record { put = put; solution = solution; each = λ k t e. assigned_at N ts k t e }

  pub of_registers : AreOfVariables (length ts) (less_equations names plan acts check)
  of_registers =
      each_in_both (λ (q : EquationValue). q.variable < length ts) (held_from (known plan) 0) (equations_from N (drawn plan) (less check acts) n 0)
      (held_within (known plan) 0 (length ts) (λ j t e. omega (arith, got_within ts j t (g.knows j t e))))
      (each_less check (λ (q : EquationValue). q.variable < length ts) N (drawn plan) acts 0 n 0 g.within)

  pub asked_within : AreVariables (length ts) (asked p role acts a b)
  asked_within =
      each_in_both (λ i. i < length ts) (received_in plan acts) (a ∷ b ∷ sent_in acts) g.came_within (g.sides_within.0, (g.sides_within.1, g.sent_within))

  pub terms_formed : (k : ℕ) → IsFormed has (put k)
  terms_formed k = assigned_holds (IsFormed has) N (λ i l. tt) (omega arith) ts k (each_as (IsTermOf p) (IsFormed has) ts (formed p) ours)

  pub is_honest : IsHonest has names plan acts check a b put
  is_honest = record {
    solution = solution;
    narrated = sym g.came;
    named = heard_named p (plan_of p role) of_plan;
    formed = formed_atoms has put (atoms_of N (received_in plan acts ++ a ∷ b ∷ [])) terms_formed;
  }

  pub sides_one : put (N + a) ≡ put (N + b)
  sides_one = sides_same N put (drawn plan) acts n 0 is.at a b g.solves is.here

  pub side_named : IsNamed names (put (N + a))
  side_named =
      let t = slice_get-there ts a g.sides_within.0 in
      subst (IsNamed names) (sym (assigned_at N ts a t.0 t.1)) (term_named p t.0 (each_got (IsTermOf p) ts a t.0 ours t.1))
