-- The turns of the walk over the instructions of a code.
use Rattle.std.proofs.Common.{◌≡◌, ℕ, ◌+◌, List, [], ◌∷◌, length, map, drop, cond, Bool, Some, sym, ap, ◌∙◌, subst, arith}
use Rattle.std.specs.Prelude.{slice_get, ◌==◌}
use Rattle.std.proofs.lemmas.Bool.{eq-eqb, lt-ltb, ne_eqb}
use Rattle.anb_term.proofs.Lists.{map-drop, slice_get-map}
use Rattle.anb_plays.specs.Plans.{Event, known}
use Rattle.anb_plays.specs.Codes.{Act, works, equal}
use Rattle.anb_code.specs.declared.instr.Instr.{Instr}
use Rattle.anb_code.specs.CodeValue.{CodeValue}
use Rattle.anb_code.specs.Meaning.{act_of, acts_of}
use Rattle.anb_probe.specs.Cases.{drawn, without, less}
use Rattle.anb_unify.specs.Equations.{EquationValue}
use Rattle.anb_distinguish.specs.Equations.{equations_of, received_from}
use Rattle.anb_suite.specs.declared.walking.Walk.{Walk}
use Rattle.anb_suite.specs.Reading.{act_for, read_behind}
use Rattle.anb_suite.specs.Suites.{HasCheck}
use Rattle.anb_suite.specs.Walks.{act_at, sent_in, HasStepped, IsWalkedTo, IsWalked, IsBegun}
use Rattle.anb_suite.proofs.Replaced.{ended_behind, got_at, left_acts}
use Rattle.anb_suite.proofs.Stepping.{stepped, skipped, kept, dropped, walked_all, walked_none}

module _ (N : ℕ) (plan : List Event) (code : CodeValue) (check gone used : ℕ) where
  abbrev acts : List Act
  acts = read_behind check gone used (acts_of code)

  abbrev E : List EquationValue
  E = equations_of N (known plan) (drawn plan) (less check acts)

  abbrev R : List ℕ
  R = received_from acts (length (known plan))

  -- the walk came to an instruction
  abbrev pub WalkedTo : ℕ → Walk → Type 0
  WalkedTo i walk = IsWalkedTo N (drawn plan) E R (sent_in acts) (without (λ n. n == check) i (drop i acts)) (drop i acts) walk

  pub turn_begins : (walk : Walk) → IsBegun plan walk → WalkedTo 0 walk
  turn_begins walk b = walked_none check N plan acts walk b

  pub turn_steps : (i : ℕ) (x : Instr) (old new : Walk) → slice_get code.instrs i ≡ Some x → (i + 1 ≡ check → ⊥) → HasStepped N (drawn plan) (act_at check gone used i (act_of code.formats x)) old new → WalkedTo i old → WalkedTo (i + 1) new
  turn_steps i x old new here apart s w =
      let act = act_at check gone used i (act_of code.formats x) in
      let at : slice_get acts i ≡ Some act = got_at gone used check i (acts_of code) (act_of code.formats x) (slice_get-map (act_of code.formats) code.instrs i x here) in
      let rest = drop (i + 1) acts in
      let P : List Act → Type 0 = λ l. IsWalkedTo N (drawn plan) E R (sent_in acts) (without (λ n. n == check) i l) l old in
      let Q : List Act → Type 0 = λ l. IsWalkedTo N (drawn plan) E R (sent_in acts) l (act ∷ rest) old in
      let one = subst P (left_acts acts i act at) w in
      let two = subst Q (kept check act rest i (ne_eqb (i + 1) check apart)) one in
      stepped N (drawn plan) E R (sent_in acts) act (without (λ n. n == check) (i + 1) rest) rest old new s two

  pub turn_skips : (i : ℕ) (x : Instr) (walk : Walk) → slice_get code.instrs i ≡ Some x → i + 1 ≡ check → HasCheck code check → WalkedTo i walk → WalkedTo (i + 1) walk
  turn_skips i x walk here e (a, b, is) w =
      let same : is.at ≡ i = omega (arith, is.counts, e) in
      let act = works (equal a b) in
      let own : slice_get (acts_of code) i ≡ Some act = subst (λ k. slice_get (acts_of code) k ≡ Some act) same is.here in
      let at : slice_get acts i ≡ Some act = got_at gone used check i (acts_of code) act own ∙ ap (λ (t : Bool). Some (cond t act (act_for gone used act))) (lt-ltb i check (omega (arith, e))) in
      let rest = drop (i + 1) acts in
      let P : List Act → Type 0 = λ l. IsWalkedTo N (drawn plan) E R (sent_in acts) (without (λ n. n == check) i l) l walk in
      let Q : List Act → Type 0 = λ l. IsWalkedTo N (drawn plan) E R (sent_in acts) l (act ∷ rest) walk in
      let one = subst P (left_acts acts i act at) w in
      let two = subst Q (dropped check a b rest i (eq-eqb (i + 1) check e)) one in
      skipped N (drawn plan) E R (sent_in acts) a b (without (λ n. n == check) (i + 1) rest) rest walk two

  pub turn_ends : (i : ℕ) (walk : Walk) → drop i code.instrs ≡ [] → WalkedTo i walk → IsWalked N plan acts check walk
  turn_ends i walk none w =
      let over : drop i (acts_of code) ≡ [] = sym (map-drop (act_of code.formats) i code.instrs) ∙ ap (map (act_of code.formats)) none in
      let P : List Act → Type 0 = λ l. IsWalkedTo N (drawn plan) E R (sent_in acts) (without (λ n. n == check) i l) l walk in
      walked_all check N plan acts walk (subst P (ended_behind gone used check i (acts_of code) over) w)
