-- The terms of registers.
use Rattle.std.proofs.Common.{◌≡◌, ℕ, zero, suc, ◌+◌, ◌<◌, ◌≤◌, List, [], ◌∷◌, ◌++◌, length, map, drop, Bool, true, false, cond, IsTrue, Option, Some, None, Result, Ok, Err, OnOk, refl, sym, ap, ◌∙◌, subst, arith, length-append, append_assoc, inl, inr}
use Rattle.std.specs.Prelude.{slice_get, count_by, option_and_then, option_map}
use Rattle.std.specs.List.{AllByRecursion, cons_option}
use Rattle.std.proofs.lemmas.Bool.{eq-eqb}
use Rattle.std.proofs.lemmas.List.{append-nil, length-map, length-drop}
use Rattle.std.proofs.lemmas.List.Sums.{sum_by-cons}
use Rattle.std.proofs.lemmas.Option.{cond_some}
use Rattle.anb_lemmas.proofs.Lists.{get_last, drop_got}
use Rattle.anb_base.specs.declared.content.Suite.{Suite}
use Rattle.anb_format.specs.Formats.{FormatValue, field_count}
use Rattle.anb_format.proofs.BuiltLemmas.{passes_sound}
use Rattle.anb_term.specs.declared.term.Op.{Op}
use Rattle.anb_term.specs.declared.term.Op.TheVariants.{Hash, Mac, Seal, Wrap, Format}
use Rattle.anb_term.specs.declared.term.Term.{Term}
use Rattle.anb_term.specs.declared.term.Term.TheVariants.{Node}
use Rattle.anb_term.specs.Tree.{Tree, node, trees_of}
use Rattle.anb_term.specs.View.{tree_of, term_of}
use Rattle.anb_term.specs.Value.{RecipeTree, label, values, recipe_trees}
use Rattle.anb_term.specs.Lawful.{picked}
use Rattle.anb_term.specs.FreeAlgebra.{terms_over, parts_of, term_meaning}
use Rattle.anb_term.specs.Demand.{alike}
use Rattle.anb_term.specs.FreeLawful.{free_lawful}
use Rattle.anb_term.proofs.Lists.{slice_get-map, slice_get-there, map-append}
use Rattle.anb_term.proofs.Steps.{consed}
use Rattle.anb_term.proofs.Frames.{values_more}
use Rattle.anb_algebra.specs.ByteMeaning.{has_operator, byte_meaning}
use Rattle.anb_plays.specs.Plans.{Event, know, fresh, send, recv, known}
use Rattle.anb_plays.specs.Codes.{Act, takes, draws, receives, sends, works, Work, make, undo, equal, writes}
use Rattle.anb_plays.specs.Exec.{worked, IsReady, IsVerified, NoTakes, HasTakes, count_written}
use Rattle.anb_plays.specs.Fits.{Place, Along, AnySend, AnyBorder, IsSound, start, after_take, after_label, after_work}
use Rattle.anb_plays.proofs.Registers.{values_join, work}
use Rattle.anb_plays.proofs.Growing.{goes_on, no_next}
use Rattle.anb_protocol.specs.Plans.{PlanEvent, to_know, to_make, to_send, to_receive, term_in}
use Rattle.anb_protocol.specs.declared.plans.Event as code
use Rattle.anb_protocol.specs.Plays.{event_of}
use Rattle.anb_protocol.specs.Views.{plan_event}
use Rattle.anb_compile.specs.Registers.{is_take, recipes_after, later_labels}
use Rattle.anb_code.specs.declared.instr.Instr.{Instr}
use Rattle.anb_code.specs.CodeValue.{CodeValue}
use Rattle.anb_code.specs.Meaning.{IsOperator}
use Rattle.anb_code.specs.Verified.{EachAfter, HasItsFormat, IsInstrAfter, IsVerifiedCode}
use Rattle.anb_code.proofs.Accepted.{fields_after}
use Rattle.anb_compile.specs.Valued.{Walked, HasWalked, Writes}

values_long : (has : Op → Bool) (frame : List Tree) (regs : List RecipeTree) (ts : List Tree) → values (terms_over has) frame (recipe_trees regs) ≡ Some ts → length ts ≡ length regs
values_long has frame [] ts e = let s : [] ≡ ts = cc in sym (ap length s)
values_long has frame (r ∷ regs) ts e =
    let c = consed _ _ ts e in
    let n = values_long has frame regs c.1 c.3 in
    ap length c.4 ∙ (let m : suc (length c.1) ≡ suc (length regs) = omega (arith, n) in m)

-- as many takes as there are terms that are known
takes_known : (AtSend : Place → ℕ → Tree → Type 0) (AtWork : Place → Work → Type 0) (AtBorder : Place → Type 0) (acts : List Act) (es : List Event) (s : Place) → Along AtSend AtWork AtBorder acts es s → count_by is_take acts ≡ length (known es)
takes_known S W B [] [] s a = refl
takes_known S W B [] (e ∷ es) s a = absurd a
takes_known S W B (works w ∷ acts) es s a = omega (arith, takes_known S W B acts es (after_work s w) a.1, sum_by-cons (λ x. cond {A = ℕ} (is_take x) 1 0) (works w) acts)
takes_known S W B (takes ∷ acts) (know t ∷ es) s a = omega (arith, takes_known S W B acts es (after_take s) a, sum_by-cons (λ x. cond {A = ℕ} (is_take x) 1 0) takes acts)
takes_known S W B (draws ∷ acts) (fresh t ∷ es) s a = omega (arith, takes_known S W B acts es (after_label s t) a, sum_by-cons (λ x. cond {A = ℕ} (is_take x) 1 0) draws acts)
takes_known S W B (receives ∷ acts) (recv t ∷ es) s a = omega (arith, takes_known S W B acts es (after_label s t) a.1, sum_by-cons (λ x. cond {A = ℕ} (is_take x) 1 0) receives acts)
takes_known S W B (sends n ∷ acts) (send t ∷ es) s a = omega (arith, takes_known S W B acts es s a.2, sum_by-cons (λ x. cond {A = ℕ} (is_take x) 1 0) (sends n) acts)
takes_known S W B (takes ∷ acts) [] s a = absurd a
takes_known S W B (takes ∷ acts) (fresh t ∷ es) s a = absurd a
takes_known S W B (takes ∷ acts) (send t ∷ es) s a = absurd a
takes_known S W B (takes ∷ acts) (recv t ∷ es) s a = absurd a
takes_known S W B (draws ∷ acts) [] s a = absurd a
takes_known S W B (draws ∷ acts) (know t ∷ es) s a = absurd a
takes_known S W B (draws ∷ acts) (send t ∷ es) s a = absurd a
takes_known S W B (draws ∷ acts) (recv t ∷ es) s a = absurd a
takes_known S W B (receives ∷ acts) [] s a = absurd a
takes_known S W B (receives ∷ acts) (know t ∷ es) s a = absurd a
takes_known S W B (receives ∷ acts) (fresh t ∷ es) s a = absurd a
takes_known S W B (receives ∷ acts) (send t ∷ es) s a = absurd a
takes_known S W B (sends n ∷ acts) [] s a = absurd a
takes_known S W B (sends n ∷ acts) (know t ∷ es) s a = absurd a
takes_known S W B (sends n ∷ acts) (fresh t ∷ es) s a = absurd a
takes_known S W B (sends n ∷ acts) (recv t ∷ es) s a = absurd a

module _ (formats : List FormatValue) (suite : Suite) (plan : List Event) (all : List Act) where
  abbrev has : Op → Bool
  has = has_operator formats

  pub walked_start : (count : ℕ) → HasTakes has all 0 count → Along AnySend (IsSound (byte_meaning formats suite)) AnyBorder all plan (start plan) → Walked formats suite plan all all plan []
  walked_start count ready sound = record {
    place = start plan;
    sound = sound;
    have = refl;
    labels = refl;
    recipes = ap (recipes_after all []) (sym (takes_known AnySend (IsSound (byte_meaning formats suite)) AnyBorder all plan (start plan) sound));
    count = count;
    ready = ready;
    takes_next = λ later e. refl;
  }

  -- an initial value
  pub walked_take : (acts : List Act) (e : PlanEvent) (es : List Event) (ts : List Tree) → Walked formats suite plan all (takes ∷ acts) (event_of e ∷ es) ts → Walked formats suite plan all acts es (ts ++ term_in e ∷ [])
  walked_take acts (to_know t) es ts w =
      let s = w.place in
      let long = values_long has s.frame s.regs ts w.have in
      let next = drop_got s.frame (known es) (length ts) t (w.takes_next acts refl) in
      let at : slice_get s.frame (length s.regs) ≡ Some t = ap (slice_get s.frame) (sym long) ∙ next.0 in
      let one : values (terms_over has) s.frame (recipe_trees (label (length s.regs) ∷ [])) ≡ Some (t ∷ []) = rw at refl in
      let n : length (ts ++ t ∷ []) ≡ length ts + 1 = length-append ts (t ∷ []) in
      let m : suc (length ts) ≡ length (ts ++ t ∷ []) = omega (arith, n) in
      record {
        place = after_take s;
        sound = w.sound;
        have = values_join (terms_over has) s.frame s.regs (label (length s.regs) ∷ []) ts (t ∷ []) w.have one;
        labels = w.labels;
        recipes = w.recipes;
        count = w.count;
        ready = subst (λ k. HasTakes has acts k w.count) m w.ready;
        takes_next = λ later e. ap (λ k. drop k s.frame) n ∙ next.1;
      }
  walked_take acts (to_make t) es ts w = absurd w.sound
  walked_take acts (to_send i t) es ts w = absurd w.sound
  walked_take acts (to_receive i t) es ts w = absurd w.sound

  -- a label with this term comes
  label_comes : (act : Act) (acts : List Act) (e : Event) (es : List Event) (ts : List Tree) (t : Tree) (w : Walked formats suite plan all (act ∷ acts) (e ∷ es) ts) → Along AnySend (IsSound (byte_meaning formats suite)) AnyBorder acts es (after_label w.place t)
      → later_labels (e ∷ es) ≡ t ∷ later_labels es → recipes_after (act ∷ acts) w.place.regs (length w.place.frame) ≡ recipes_after acts (w.place.regs ++ label (length w.place.frame) ∷ []) (length w.place.frame + 1)
      → IsVerified has acts (length ts + 1) → NoTakes has acts → Walked formats suite plan all acts es (ts ++ t ∷ [])
  label_comes act acts e es ts t w sound later recipes verified none =
      let s = w.place in
      let frame = s.frame ++ t ∷ [] in
      let n : length (ts ++ t ∷ []) ≡ length ts + 1 = length-append ts (t ∷ []) in
      let one : values (terms_over has) frame (recipe_trees (label (length s.frame) ∷ [])) ≡ Some (t ∷ []) = rw (get_last s.frame t) refl in
      let v : IsVerified has acts (length (ts ++ t ∷ [])) = subst (IsVerified has acts) (sym n) verified in
      record {
        place = after_label s t;
        sound = sound;
        have = values_join (terms_over has) frame s.regs (label (length s.frame) ∷ []) ts (t ∷ []) (values_more (terms_over has) s.frame (t ∷ []) (recipe_trees s.regs) ts w.have) one;
        labels = append_assoc s.frame (t ∷ []) (later_labels es) ∙ ap (λ l. s.frame ++ l) (sym later) ∙ w.labels;
        recipes = ap (recipes_after acts (s.regs ++ label (length s.frame) ∷ [])) (length-append s.frame (t ∷ [])) ∙ sym recipes ∙ w.recipes;
        count = length (ts ++ t ∷ []);
        ready = goes_on has acts (length (ts ++ t ∷ [])) v none;
        takes_next = λ later e. no_next has acts later none e;
      }

  pub walked_draw : (acts : List Act) (e : PlanEvent) (es : List Event) (ts : List Tree) → Walked formats suite plan all (draws ∷ acts) (event_of e ∷ es) ts → Walked formats suite plan all acts es (ts ++ term_in e ∷ [])
  walked_draw acts (to_make t) es ts w =
      let r = w.ready in
      let P : ℕ → Type 0 = λ k. IsVerified has acts (k + 1) in
      label_comes draws acts (fresh t) es ts t w w.sound refl refl (subst P (sym r.0) r.1) r.2
  walked_draw acts (to_know t) es ts w = absurd w.sound
  walked_draw acts (to_send i t) es ts w = absurd w.sound
  walked_draw acts (to_receive i t) es ts w = absurd w.sound

  pub walked_receive : (acts : List Act) (e : PlanEvent) (es : List Event) (ts : List Tree) → Walked formats suite plan all (receives ∷ acts) (event_of e ∷ es) ts → Walked formats suite plan all acts es (ts ++ term_in e ∷ [])
  walked_receive acts (to_receive i t) es ts w =
      let r = w.ready in
      let P : ℕ → Type 0 = λ k. IsVerified has acts (k + 1) in
      label_comes receives acts (recv t) es ts t w w.sound.1 refl refl (subst P (sym r.0) r.1) r.2
  walked_receive acts (to_know t) es ts w = absurd w.sound
  walked_receive acts (to_make t) es ts w = absurd w.sound
  walked_receive acts (to_send i t) es ts w = absurd w.sound

  pub walked_send : (acts : List Act) (n : ℕ) (e : PlanEvent) (es : List Event) (ts : List Tree) → Walked formats suite plan all (sends n ∷ acts) (event_of e ∷ es) ts → Walked formats suite plan all acts es ts
  walked_send acts n (to_send i t) es ts w =
      let r = w.ready in
      record {
        place = w.place;
        sound = w.sound.2;
        have = w.have;
        labels = w.labels;
        recipes = w.recipes;
        count = length ts;
        ready = goes_on has acts (length ts) (subst (IsVerified has acts) (sym r.0) r.1.1) r.2;
        takes_next = λ later e. no_next has acts later r.2 e;
      }
  walked_send acts n (to_know t) es ts w = absurd w.sound
  walked_send acts n (to_make t) es ts w = absurd w.sound
  walked_send acts n (to_receive i t) es ts w = absurd w.sound

  -- ---- works

  -- what it works on is there, and it writes something
  pub work_ready : (acts : List Act) (x : Work) (es : List Event) (ts : List Tree) → Walked formats suite plan all (works x ∷ acts) es ts → IsReady has (length ts) x
  work_ready acts x es ts w = let r = w.ready in subst (λ k. IsReady has k x) (sym r.0) r.1.0

  pub work_writes : (acts : List Act) (x : Work) (es : List Event) (ts : List Tree) (w : Walked formats suite plan all (works x ∷ acts) es ts)
      → (ws : List Tree) × (worked (terms_over has) ts x ≡ Some ws) × (values (terms_over has) w.place.frame (recipe_trees (writes w.place.regs x)) ≡ Some ws) × (length ws ≡ count_written x)
  work_writes acts x es ts w =
      let s = w.place in
      elim (work (terms_over has) s.frame (free_lawful has) s.regs ts w.have x (work_ready acts x es ts w)) [
        | inl f ↦ (let a = w.sound.0 in let b = f.0 in absurd (cc))
        | inr k ↦ (k.0, k.2, k.3, k.4)
      ]

  pub walked_work : (acts : List Act) (x : Work) (es : List Event) (ts ws : List Tree) → Walked formats suite plan all (works x ∷ acts) es ts → worked (terms_over has) ts x ≡ Some ws → Walked formats suite plan all acts es (ts ++ ws)
  walked_work acts x es ts ws w is =
      let s = w.place in
      let r = w.ready in
      let k = work_writes acts x es ts w in
      let same : k.0 ≡ ws = (let q = sym k.1 ∙ is in cc) in
      let V : List Tree → Type 0 = λ l. values (terms_over has) s.frame (recipe_trees (writes s.regs x)) ≡ Some l in
      let n : length (ts ++ ws) ≡ length ts + count_written x = length-append ts ws ∙ ap (λ j. length ts + j) (sym (ap length same) ∙ k.3) in
      let v : IsVerified has acts (length (ts ++ ws)) = (let P : ℕ → Type 0 = λ j. IsVerified has acts (j + count_written x) in subst (IsVerified has acts) (sym n) (subst P (sym r.0) r.1.1)) in
      record {
        place = after_work s x;
        sound = w.sound.1;
        have = values_join (terms_over has) s.frame s.regs (writes s.regs x) ts ws w.have (subst V same k.2);
        labels = w.labels;
        recipes = w.recipes;
        count = length (ts ++ ws);
        ready = goes_on has acts (length (ts ++ ws)) v r.2;
        takes_next = λ later e. no_next has acts later r.2 e;
      }

-- ---- from the code's terms to trees

slice_get-mapped : {A B : Type 0} (f : A → B) (xs : List A) (n : ℕ) → slice_get (map f xs) n ≡ option_map f (slice_get xs n)
slice_get-mapped f [] n = refl
slice_get-mapped f (x ∷ xs) zero = refl
slice_get-mapped f (x ∷ xs) (suc n) = slice_get-mapped f xs n

picked-mapped : (ts : List Term) (ns : List ℕ) → picked (map tree_of ts) ns ≡ map tree_of (picked ts ns)
picked-mapped ts [] = refl
picked-mapped ts (n ∷ ns) = go (slice_get ts n) (slice_get (map tree_of ts) n) (picked ts ns) (picked (map tree_of ts) ns) (slice_get-mapped tree_of ts n) (picked-mapped ts ns)
  where
    go : (o : Option Term) (p : Option Tree) (us : List Term) (vs : List Tree) → p ≡ option_map tree_of o → vs ≡ map tree_of us → cons_option p vs ≡ map tree_of (cons_option o us)
    go None p us vs e f = ap (λ q. cons_option q vs) e ∙ f
    go (Some t) p us vs e f = ap (λ q. cons_option q vs) e ∙ ap (λ l. tree_of t ∷ l) f

module _ (formats : List FormatValue) where
  pub made_written : (o : Op) (ns : List ℕ) (old new : List Term) → new ≡ old ++ Node o (map tree_of (picked old ns)) ∷ [] → (ws : List Tree) × Writes formats (make o ns) old ws × (map tree_of new ≡ map tree_of old ++ ws)
  made_written o ns old new is = (
    node o (trees_of (picked (map tree_of old) ns)) ∷ [],
    refl,
    ap (map tree_of) is ∙ map-append tree_of old (Node o (map tree_of (picked old ns)) ∷ []) ∙ ap (λ l. map tree_of old ++ node o (trees_of l) ∷ []) (sym (picked-mapped old ns)),
  )

  -- what an undoing writes
  pub undone_of : (o : Op) (ks : List ℕ) (n : ℕ) (old : List Term) (v : Term) (ws : List Tree) → slice_get old n ≡ Some v → Writes formats (undo o ks n) old ws → term_meaning.undone o (picked old ks) v ≡ Some (map term_of ws)
  undone_of o ks n old v ws at is =
      let there : slice_get (map tree_of old) n ≡ Some (tree_of v) = slice_get-map tree_of old n v at in
      let parts : parts_of o (picked (map tree_of old) ks) (tree_of v) ≡ Some ws = ap (option_and_then (parts_of o (picked (map tree_of old) ks))) (sym there) ∙ is in
      ap (λ l. option_map (map term_of) (parts_of o l (tree_of v))) (sym (picked-mapped old ks)) ∙ ap (option_map (map term_of)) parts

  pub equal_written : (a b : ℕ) (old : List Term) (ws : List Tree) → Writes formats (equal a b) old ws → ws ≡ []
  equal_written a b old ws is = sym (cond_some (alike (terms_over (has_operator formats)) (slice_get (map tree_of old) a) (slice_get (map tree_of old) b)) [] ws is).1

-- ---- events that are left

pub left_events : {A B : Type 0} (f : A → B) (xs : List A) (n : ℕ) (x : A) → slice_get xs n ≡ Some x → map f (drop n xs) ≡ f x ∷ map f (drop (n + 1) xs)
left_events f [] n x e = cc
left_events f (y ∷ xs) zero x e = let s : y ≡ x = cc in ap (λ z. f z ∷ map f xs) s
left_events f (y ∷ xs) (suc n) x e = let m : suc n + 1 ≡ suc (n + 1) = omega arith in rw m (left_events f xs n x e)

-- an act that does an event has one
abbrev pub has_event : Act → Bool
has_event (works w) = false
has_event takes = true
has_event draws = true
has_event receives = true
has_event (sends n) = true

some_event : (AtSend : Place → ℕ → Tree → Type 0) (AtWork : Place → Work → Type 0) (AtBorder : Place → Type 0) (act : Act) (acts : List Act) (es : List Event) (s : Place) → has_event act ≡ true → Along AtSend AtWork AtBorder (act ∷ acts) es s → 0 < length es
some_event S W B act acts (e ∷ es) s h a = omega arith
some_event S W B takes acts [] s h a = absurd a
some_event S W B draws acts [] s h a = absurd a
some_event S W B receives acts [] s h a = absurd a
some_event S W B (sends n) acts [] s h a = absurd a
some_event S W B (works w) acts [] s h a = cc

pub event_left : {C : Type 0} (formats : List FormatValue) (suite : Suite) (plan : List Event) (all acts : List Act) (act : Act) (f : C → Event) (xs : List C) (n : ℕ) (ts : List Tree) → has_event act ≡ true
    → Walked formats suite plan all (act ∷ acts) (map f (drop n xs)) ts → n < length xs
event_left formats suite plan all acts act f xs n ts h w =
    let some = some_event AnySend (IsSound (byte_meaning formats suite)) AnyBorder act acts (map f (drop n xs)) w.place h w.sound in
    omega (arith, some, length-map (drop n xs) f, length-drop n xs)

-- ---- operators

pub is_operator : (formats : List FormatValue) (o : Op) → IsOperator formats o → IsTrue (has_operator formats o)
is_operator formats Hash is = refl
is_operator formats Mac is = refl
is_operator formats Seal is = refl
is_operator formats Wrap is = refl
is_operator formats (Format i n) is = rw (is.1, passes_sound is.0.pieces is.2, eq-eqb (field_count is.0.pieces) n is.3) refl

-- ---- one instruction

maps : (l : List code.Event) → map event_of (map plan_event l) ≡ map (λ e. event_of (plan_event e)) l
maps [] = refl
maps (x ∷ l) = ap (λ q. event_of (plan_event x) ∷ q) (maps l)

module _ (formats : List FormatValue) (events : List code.Event) (n : ℕ) (old new : List Term) where
  -- after an act, where so many events are done
  abbrev Goes : Act → ℕ → Type 0
  Goes act n' = (suite : Suite) (plan : List Event) (all later : List Act) → HasWalked formats suite plan all (act ∷ later) (drop n events) old → HasWalked formats suite plan all later (drop n' events) new

  -- the term of the next event came
  abbrev Heard : Type 0
  Heard = (e : code.Event) × (slice_get events n ≡ Some e) × (map tree_of new ≡ map tree_of old ++ term_in (plan_event e) ∷ [])

  heard_event : (act : Act) → ((suite : Suite) (plan : List Event) (all acts : List Act) (e : PlanEvent) (es : List Event) (ts : List Tree) → Walked formats suite plan all (act ∷ acts) (event_of e ∷ es) ts → Walked formats suite plan all acts es (ts ++ term_in e ∷ []))
      → (n' : ℕ) → n' ≡ n + 1 → Heard → Goes act n'
  heard_event act step n' next heard suite plan all later w =
      let f : code.Event → Event = λ e. event_of (plan_event e) in
      let left : map event_of (map plan_event (drop n events)) ≡ f heard.0 ∷ map event_of (map plan_event (drop (n + 1) events)) =
      maps (drop n events) ∙ left_events f events n heard.0 heard.1 ∙ ap (λ l. f heard.0 ∷ l) (sym (maps (drop (n + 1) events))) in
      let P : List Event → Type 0 = λ l. Walked formats suite plan all (act ∷ later) l (map tree_of old) in
      let Q : List Tree → Type 0 = λ l. Walked formats suite plan all later (map event_of (map plan_event (drop n' events))) l in
      let R : ℕ → Type 0 = λ k. Walked formats suite plan all later (map event_of (map plan_event (drop k events))) (map tree_of old ++ term_in (plan_event heard.0) ∷ []) in
      subst Q (sym heard.2) (subst R (sym next) (step suite plan all later (plan_event heard.0) _ (map tree_of old) (subst P left w)))

  pub takes_on : {A E : Type 0} (r : Result A E) (n' : ℕ) → OnOk r (n' ≡ n + 1) → OnOk r Heard → OnOk r (Goes takes n')
  takes_on (Ok x) n' next heard = heard_event takes (walked_take formats) n' next heard
  takes_on (Err e) n' next heard = tt

  pub draws_on : {A E : Type 0} (r : Result A E) (n' : ℕ) → OnOk r (n' ≡ n + 1) → OnOk r Heard → OnOk r (Goes draws n')
  draws_on (Ok x) n' next heard = heard_event draws (walked_draw formats) n' next heard
  draws_on (Err e) n' next heard = tt

  pub receives_on : {A E : Type 0} (r : Result A E) (n' : ℕ) → OnOk r (n' ≡ n + 1) → OnOk r Heard → OnOk r (Goes receives n')
  receives_on (Ok x) n' next heard = heard_event receives (walked_receive formats) n' next heard
  receives_on (Err e) n' next heard = tt

  written_on : (x : Work) → ((ts : List Tree) → Writes formats x old ts → map tree_of new ≡ map tree_of old ++ ts) → Goes (works x) n
  written_on x new_is suite plan all later w =
      let es = map event_of (map plan_event (drop n events)) in
      let ws = work_writes formats suite plan all later x es (map tree_of old) w in
      let P : List Tree → Type 0 = λ l. Walked formats suite plan all later es l in
      subst P (sym (new_is ws.0 ws.1)) (walked_work formats suite plan all later x es (map tree_of old) ws.0 w ws.1)

  pub made_on : {A E : Type 0} (r : Result A E) (o : Op) (ns : List ℕ) → OnOk r ((fs : List FormatValue) → (ts : List Tree) × Writes fs (make o ns) old ts × (map tree_of new ≡ map tree_of old ++ ts)) → OnOk r (Goes (works (make o ns)) n)
  made_on (Ok x) o ns is =
      let m = is formats in
      written_on (make o ns) (λ ts w. let same : m.0 ≡ ts = (let q = sym m.1 ∙ w in cc) in m.2 ∙ ap (λ l. map tree_of old ++ l) same)
  made_on (Err e) o ns is = tt

  pub parts_on : {A E : Type 0} (r : Result A E) (o : Op) (ks : List ℕ) (k : ℕ) → OnOk r ((fs : List FormatValue) (ts : List Tree) → Writes fs (undo o ks k) old ts → map tree_of new ≡ map tree_of old ++ ts) → OnOk r (Goes (works (undo o ks k)) n)
  parts_on (Ok x) o ks k is = written_on (undo o ks k) (is formats)
  parts_on (Err e) o ks k is = tt

module _ (formats : List FormatValue) (events : List code.Event) (n : ℕ) (terms : List Term) where
  pub equal_on : (a b : ℕ) → Goes formats events n terms terms (works (equal a b)) n
  equal_on a b = written_on formats events n terms terms (equal a b) (λ ts w. sym (append-nil (map tree_of terms)) ∙ ap (λ l. map tree_of terms ++ l) (sym (equal_written formats a b terms ts w)))

  pub sends_on : (r : ℕ) → Goes formats events n terms terms (sends r) (n + 1)
  sends_on r suite plan all later w =
      let f : code.Event → Event = λ e. event_of (plan_event e) in
      let P : List Event → Type 0 = λ l. Walked formats suite plan all (sends r ∷ later) l (map tree_of terms) in
      let e = slice_get-there events n (event_left formats suite plan all later (sends r) f events n (map tree_of terms) refl (subst P (maps (drop n events)) w)) in
      let left : map event_of (map plan_event (drop n events)) ≡ f e.0 ∷ map event_of (map plan_event (drop (n + 1) events)) =
      maps (drop n events) ∙ left_events f events n e.0 e.1 ∙ ap (λ l. f e.0 ∷ l) (sym (maps (drop (n + 1) events))) in
      walked_send formats suite plan all later r (plan_event e.0) (map event_of (map plan_event (drop (n + 1) events))) (map tree_of terms) (subst P left w)

-- ---- what is known of a verified code

pub few_fields : (arrival wide : ℕ) (code : CodeValue) → IsVerifiedCode arrival wide code → AllByRecursion (λ (format : FormatValue). field_count format.pieces ≤ 32) code.formats
few_fields arrival wide code verified = fields_after [] code.formats verified.formats

instr_after : (formats : List FormatValue) (before instrs : List Instr) (i : ℕ) (x : Instr) → EachAfter (IsInstrAfter formats) before instrs → slice_get instrs i ≡ Some x → HasItsFormat formats x
instr_after formats before [] i x each e = cc
instr_after formats before (y ∷ instrs) zero x each e = let s : y ≡ x = cc in subst (HasItsFormat formats) s each.0.format
instr_after formats before (y ∷ instrs) (suc i) x each e = instr_after formats (before ++ y ∷ []) instrs i x each.1 e

pub its_format : (arrival wide : ℕ) (code : CodeValue) (i : ℕ) (x : Instr) → IsVerifiedCode arrival wide code → slice_get code.instrs i ≡ Some x → HasItsFormat code.formats x
its_format arrival wide code i x verified e = instr_after code.formats [] code.instrs i x verified.instrs e
