-- The code goes on over the narrated arrivals, and its registers hold their narrated terms.
use Rattle.std.proofs.Common.{◌≡◌, ℕ, suc, ◌+◌, List, [], ◌∷◌, ◌++◌, length, map, Bool, Some, refl, sym, ap, ◌∙◌, subst, arith, length-append, append_assoc}
use Rattle.std.specs.Prelude.{slice_get}
use Rattle.std.specs.Option.{option_map, option_and_then}
use Rattle.std.proofs.lemmas.List.{append-nil}
use Rattle.anb_base.specs.declared.content.Suite.{Suite}
use Rattle.anb_format.specs.Formats.{FormatValue}
use Rattle.anb_term.specs.declared.term.Op.{Op}
use Rattle.anb_term.specs.Tree.{Tree}
use Rattle.anb_term.specs.Value.{values, recipe_trees}
use Rattle.anb_term.specs.FreeAlgebra.{terms, terms_over}
use Rattle.anb_term.proofs.Lists.{slice_get-there}
use Rattle.anb_algebra.specs.ByteMeaning.{has_operator}
use Rattle.anb_plays.specs.Plans.{Event, known}
use Rattle.anb_plays.specs.Codes.{Act, takes, draws, receives, sends, works}
use Rattle.anb_plays.specs.Exec.{NoTakes, HasTakes}
use Rattle.anb_plays.specs.Honest.{heard, made}
use Rattle.anb_code.specs.CodeValue.{CodeValue}
use Rattle.anb_code.specs.Meaning.{acts_of}
use Rattle.anb_protocol.specs.Plans.{PlanEvent, to_know, to_make, to_send, to_receive, plan_of}
use Rattle.anb_protocol.specs.Plays.{event_of, events_of}
use Rattle.anb_protocol.specs.Protocols.{ProtocolValue}
use Rattle.anb_compile.specs.Fitting.{FitsRole}
use Rattle.anb_compile.specs.Registers.{register_recipes, all_labels}
use Rattle.anb_compile.specs.Valued.{Walked}
use Rattle.anb_compile.proofs.Valuing.{walked_start, walked_take, walked_draw, walked_receive, walked_send, walked_work, work_writes}
use Rattle.anb_explain.specs.Explained.{register_terms}
use Rattle.anb_openings.specs.Steps.{Progress, begun, writing, drawing, saying, hearing, after, after_all}
use Rattle.anb_openings.proofs.Stepping.{worked_same}

module _ (formats : List FormatValue) (suite : Suite) (plan : List Event) (all : List Act) where
  abbrev has : Op → Bool
  has = has_operator formats

  -- from here these acts go on to the end of the code
  pub record Ends (acts : List Act) (s : Progress Tree) : Type 0 where
    pub end : Progress Tree
    pub goes : after_all terms (made plan) acts s ≡ Some end
    pub walked : Walked formats suite plan all [] [] end.table
    pub used : end.left ≡ []

  -- what is made from here on
  abbrev AreMade : List PlanEvent → ℕ → Type 0
  AreMade es i = (k : ℕ) (t : Tree) → slice_get (made (map event_of es)) k ≡ Some t → slice_get (made plan) (i + k) ≡ Some t

  on : (act : Act) (acts : List Act) (s t : Progress Tree) → after terms (made plan) act s ≡ Some t → Ends acts t → Ends (act ∷ acts) s
  on act acts s t e r = record { end = r.end; goes = ap (option_and_then (after_all terms (made plan) acts)) e ∙ r.goes; walked = r.walked; used = r.used }

  ends : (acts : List Act) (es : List PlanEvent) (s : Progress Tree) → Walked formats suite plan all acts (map event_of es) s.table → NoTakes has acts → s.left ≡ heard (map event_of es) → AreMade es s.drawn → Ends acts s
  ends [] [] s w none left d = record { end = s; goes = refl; walked = w; used = left }
  ends [] (e ∷ es) s w none left d = absurd w.sound
  ends (takes ∷ acts) es s w none left d = absurd none
  ends (draws ∷ acts) [] s w none left d = absurd w.sound
  ends (draws ∷ acts) (to_know t ∷ es) s w none left d = absurd w.sound
  ends (draws ∷ acts) (to_send j t ∷ es) s w none left d = absurd w.sound
  ends (draws ∷ acts) (to_receive j t ∷ es) s w none left d = absurd w.sound
  ends (draws ∷ acts) (to_make t ∷ es) s w none left d =
      let z : s.drawn ≡ s.drawn + 0 = omega arith in
      let at : slice_get (made plan) s.drawn ≡ Some t = ap (slice_get (made plan)) z ∙ d 0 t refl in
      let later : AreMade es (s.drawn + 1) = λ k u e. (let y : s.drawn + 1 + k ≡ s.drawn + suc k = omega arith in ap (slice_get (made plan)) y ∙ d (suc k) u e) in
      on draws acts s (drawing t s) (ap (option_map (λ x. drawing x s)) at) (ends acts es (drawing t s) (walked_draw formats suite plan all acts (to_make t) (map event_of es) s.table w) none left later)
  ends (receives ∷ acts) [] s w none left d = absurd w.sound
  ends (receives ∷ acts) (to_know t ∷ es) s w none left d = absurd w.sound
  ends (receives ∷ acts) (to_make t ∷ es) s w none left d = absurd w.sound
  ends (receives ∷ acts) (to_send j t ∷ es) s w none left d = absurd w.sound
  ends (receives ∷ acts) (to_receive j t ∷ es) s w none left d =
      let next : Progress Tree = record s { table = s.table ++ t ∷ []; event = s.event + 1; left = heard (map event_of es) } in
      on receives acts s next (ap (λ l. hearing l s) left) (ends acts es next (walked_receive formats suite plan all acts (to_receive j t) (map event_of es) s.table w) none refl d)
  ends (sends n ∷ acts) [] s w none left d = absurd w.sound
  ends (sends n ∷ acts) (to_know t ∷ es) s w none left d = absurd w.sound
  ends (sends n ∷ acts) (to_make t ∷ es) s w none left d = absurd w.sound
  ends (sends n ∷ acts) (to_receive j t ∷ es) s w none left d = absurd w.sound
  ends (sends n ∷ acts) (to_send j t ∷ es) s w none left d =
      let ready = w.ready in
      let x = slice_get-there s.table n (omega (arith, ready.0, ready.1.0)) in
      on (sends n) acts s (saying x.0 s) (ap (option_map (λ y. saying y s)) x.1) (ends acts es (saying x.0 s) (walked_send formats suite plan all acts n (to_send j t) (map event_of es) s.table w) none left d)
  ends (works x ∷ acts) es s w none left d =
      let k = work_writes formats suite plan all acts x (map event_of es) s.table w in
      on (works x) acts s (writing k.0 s) (ap (option_map (λ ws. writing ws s)) (sym (worked_same has s.table x) ∙ k.1))
      (ends acts es (writing k.0 s) (walked_work formats suite plan all acts x (map event_of es) s.table k.0 w k.1) none left d)

  -- ---- from the first act on

  begins : (acts : List Act) (es : List PlanEvent) (ts : List Tree) (n : ℕ) → Walked formats suite plan all acts (map event_of es) ts → HasTakes has acts (length ts) n → length (known plan) ≡ n
      → ts ++ known (map event_of es) ≡ known plan → heard (map event_of es) ≡ heard plan → made (map event_of es) ≡ made plan → Ends acts (begun (known plan) (heard plan))
  begins (takes ∷ acts) [] ts n w ready many front h m = absurd w.sound
  begins (takes ∷ acts) (to_make t ∷ es) ts n w ready many front h m = absurd w.sound
  begins (takes ∷ acts) (to_send j t ∷ es) ts n w ready many front h m = absurd w.sound
  begins (takes ∷ acts) (to_receive j t ∷ es) ts n w ready many front h m = absurd w.sound
  begins (takes ∷ acts) (to_know t ∷ es) ts n w ready many front h m =
      let one : suc (length ts) ≡ length (ts ++ t ∷ []) = omega (arith, length-append ts (t ∷ [])) in
      on takes acts (begun (known plan) (heard plan)) (begun (known plan) (heard plan)) refl
      (begins acts es (ts ++ t ∷ []) n (walked_take formats suite plan all acts (to_know t) (map event_of es) ts w) (subst (λ k. HasTakes has acts k n) one ready) many (append_assoc ts (t ∷ []) (known (map event_of es)) ∙ front) h m)
  begins acts es ts n w ready many front h m =
      let later = known (map event_of es) in
      let none : later ≡ [] = nothing later (omega (arith, ap length front, length-append ts later, ready.0, many)) in
      let is : ts ≡ known plan = sym (append-nil ts) ∙ ap (λ l. ts ++ l) (sym none) ∙ front in
      ends acts es (begun (known plan) (heard plan)) (subst (λ l. Walked formats suite plan all acts (map event_of es) l) is w) ready.2 (sym h) (λ k t e. subst (λ l. slice_get l (0 + k) ≡ Some t) m (let z : k ≡ 0 + k = omega arith in subst (λ j. slice_get (made (map event_of es)) j ≡ Some t) z e))
    where
      nothing : (l : List Tree) → length l ≡ 0 → l ≡ []
      nothing [] z = refl
      nothing (x ∷ l) z = absurd (omega (arith, z))

  -- they are the values of the registers' recipes
  whole_is : (whole ts : List Tree) → Walked formats suite plan all [] [] whole → values (terms_over has) (all_labels plan) (recipe_trees (register_recipes all)) ≡ Some ts → whole ≡ ts
  whole_is whole ts w e =
      let frame : w.place.frame ≡ all_labels plan = sym (append-nil w.place.frame) ∙ w.labels in
      let a = subst (λ l. values (terms_over has) l (recipe_trees w.place.regs) ≡ Some whole) frame w.have in
      let b = subst (λ l. values (terms_over has) (all_labels plan) (recipe_trees l) ≡ Some whole) w.recipes a in
      let c : Some whole ≡ Some ts = sym b ∙ e in
      cc

-- the narrated run of a role's code
pub record Narrated (p : ProtocolValue) (role : ℕ) (code : CodeValue) (ts : List Tree) : Type 0 where
  pub end : Progress Tree
  pub goes : after_all terms (made (events_of p role)) (acts_of code) (begun (known (events_of p role)) (heard (events_of p role))) ≡ Some end
  pub table : end.table ≡ ts
  pub used : end.left ≡ []

pub narrated : (p : ProtocolValue) (role : ℕ) (code : CodeValue) (ts : List Tree) → FitsRole p role code → HasTakes (has_operator p.formats) (acts_of code) 0 (length (known (events_of p role))) → register_terms p role code ≡ Some ts → Narrated p role code ts
narrated p role code ts fits taking are =
    let plan = events_of p role in
    let acts = acts_of code in
    let w = walked_start p.formats p.suite plan acts (length (known plan)) taking fits.fits.sound in
    let r = begins p.formats p.suite plan acts acts (plan_of p role) [] (length (known plan)) w taking refl refl refl refl in
    let P : List FormatValue → Type 0 = λ f. values (terms_over (has_operator f)) (all_labels plan) (recipe_trees (register_recipes acts)) ≡ Some ts in
    record { end = r.end; goes = r.goes; table = whole_is p.formats p.suite plan acts r.end.table ts r.walked (subst P fits.formats are); used = r.used }
