-- From the takes to a whole code.
use Rattle.std.proofs.Common.{◌≡◌, ℕ, zero, suc, ◌+◌, ◌<◌, ◌≤◌, List, [], ◌∷◌, ◌++◌, length, map, take, drop, get_or, true, cond, Some, refl, sym, ap, ◌∙◌, subst, arith, length-append, append_assoc}
use Rattle.std.specs.Prelude.{slice_get, count_by}
use Rattle.std.proofs.lemmas.List.{append-nil, length-map}
use Rattle.std.proofs.lemmas.List.Sums.{sum_by-cons}
use Rattle.anb_format.specs.Formats.{FormatValue}
use Rattle.anb_term.specs.Tree.{Tree, nodes}
use Rattle.anb_term.specs.Value.{Meaning, RecipeTree, label}
use Rattle.anb_close.specs.Entries as closure
use Rattle.anb_close.specs.Recipes.{recipes}
use Rattle.anb_plays.specs.Plans.{Event, know, fresh, send, recv, known}
use Rattle.anb_plays.specs.Codes.{Act, takes, draws, receives, sends, works, make, undo, equal, demands}
use Rattle.anb_plays.specs.Fits.{Place, start, after_take, after_label, after_work}
use Rattle.anb_plays.specs.Reaches.{Reaches}
use Rattle.anb_plays.proofs.Reaching.{reaches_fit}
use Rattle.anb_code.specs.declared.instr.Instr.{Instr}
use Rattle.anb_code.specs.declared.instr.Instr.TheVariants.{Take}
use Rattle.anb_code.specs.Meaning.{act_of}
use Rattle.anb_code.specs.Taking.{take_texts}
use Rattle.anb_protocol.specs.Plans.{PlanEvent, to_send}
use Rattle.anb_compile.specs.declared.refusal.CompileNo.{CompileNo}
use Rattle.anb_compile.specs.declared.refusal.CompileNo.TheVariants.{CannotSend, NoMemory}
use Rattle.anb_compile.specs.declared.emission.Emission.{Emission}
use Rattle.anb_compile.specs.Counted.{is_demanding, is_building}
use Rattle.anb_compile.specs.Once.{subterms_in}
use Rattle.anb_compile.specs.Writing.{Context, meaning_in, demand_in}
use Rattle.anb_compile.specs.Emitting.{others, known_in, IsPlan, HasDone, Blocks, IsBegun, RefusesPlan, Emits, WasKnown}
use Rattle.anb_compile.proofs.Events.{known_events, whole_plan}
use Rattle.anb_compile.proofs.Sharing.{few_differ, none_sharing, takes_build_none}
use Rattle.anb_compile.proofs.Laying.{count_widths, verifiable_takes}
use Rattle.anb_compile.proofs.Doing.{enough_now, room_left}

pub texts_taken : (texts : List (List ℕ)) → take_texts (map Take texts) ≡ texts
texts_taken [] = refl
texts_taken (t ∷ texts) = ap (λ l. t ∷ l) (texts_taken texts)

-- the first labels, from one on
labels_from : ℕ → ℕ → List RecipeTree
labels_from n zero = []
labels_from n (suc k) = label n ∷ labels_from (n + 1) k

length-labels : (n k : ℕ) → length (labels_from n k) ≡ k
unfolding labels_from
length-labels n zero = refl
length-labels n (suc k) = omega (arith, length-labels (n + 1) k)

label_at : (n k i : ℕ) → i < k → slice_get (labels_from n k) i ≡ Some (label (n + i))
unfolding labels_from
label_at n zero i h = absurd (omega arith)
label_at n (suc k) zero h = ap (λ q. Some (label q)) (let e : n ≡ n + 0 = omega arith in e)
label_at n (suc k) (suc i) h = label_at (n + 1) k i (omega arith) ∙ ap (λ q. Some (label q)) (let e : n + 1 + i ≡ n + suc i = omega arith in e)

with_regs : Place → List RecipeTree → Place
with_regs s l = record { frame = s.frame; regs = l; asked = s.asked }

takes_reach : {A : Type 0} (m : Meaning A) (formats : List FormatValue) (texts : List (List ℕ)) (ts : List Tree) (s : Place) → length texts ≡ length ts
    → Reaches m (map (act_of formats) (map Take texts)) (map know ts) s (with_regs s (s.regs ++ labels_from (length s.regs) (length ts)))
unfolding labels_from with_regs
takes_reach m formats [] [] s h = let mk : List RecipeTree → Place = λ l. record { frame = s.frame; regs = l; asked = s.asked } in ap mk (sym (append-nil s.regs))
takes_reach m formats [] (t ∷ ts) s h = absurd (omega (arith, h))
takes_reach m formats (x ∷ texts) [] s h = absurd (omega (arith, h))
takes_reach m formats (x ∷ texts) (t ∷ ts) s h =
    let mk : List RecipeTree → Place = λ l. record { frame = s.frame; regs = l; asked = s.asked } in
    let next = after_take s in
    let go = takes_reach m formats texts ts next (omega (arith, h)) in
    let n : length next.regs ≡ length s.regs + 1 = length-append s.regs (label (length s.regs) ∷ []) in
    let same : next.regs ++ labels_from (length next.regs) (length ts) ≡ s.regs ++ (label (length s.regs) ∷ labels_from (length s.regs + 1) (length ts)) =
    append_assoc s.regs (label (length s.regs) ∷ []) (labels_from (length next.regs) (length ts)) ∙ ap (λ k. s.regs ++ (label (length s.regs) ∷ labels_from k (length ts))) n in
    let P : Place → Type 0 = λ q. Reaches m (map (act_of formats) (map Take texts)) (map know ts) next q in
    subst P (ap mk same) go

pub begun_done : (c : Context) (plan : List PlanEvent) (x : Emission) (texts : List (List ℕ)) → IsPlan c plan → length texts ≡ length (known_in plan) → IsBegun x texts → HasDone c [] plan x
unfolding labels_from with_regs
begun_done c plan x texts is long begun =
    let k : known c.plan ≡ known_in plan = ap known is.events ∙ known_events plan in
    let n : length texts ≡ length (known c.plan) = long ∙ ap length (sym k) in
    let s = start c.plan in
    let labels = labels_from 0 (length (known c.plan)) in
    let place : Place = record { frame = known c.plan; regs = labels; asked = [] } in
    let go = takes_reach (meaning_in c) c.formats texts (known c.plan) s n in
    let P : List Instr → Type 0 = λ l. Reaches (meaning_in c) (map (act_of c.formats) l) (map know (known c.plan) ++ []) s place in
    let Q : List Event → Type 0 = λ l. Reaches (meaning_in c) (map (act_of c.formats) (map Take texts)) l s place in
    let v = verifiable_takes c.formats x.writer texts begun.code begun.next begun.places begun.built begun.differ in
    let b : (x.basis.0 ≡ []) × (x.basis.1 ≡ []) = (ap (λ q. q.0) begun.basis, ap (λ q. q.1) begun.basis) in
    record {
      place = place;
      stands = record {
        reaches = subst P (sym begun.code) (subst Q (sym (append-nil (map know (known c.plan)))) go);
        next = omega (arith, begun.next, n, length-labels 0 (length (known c.plan)));
        tracks = λ i j e. (let h = ap (λ l. slice_get l i) begun.places in cc);
        built = λ key r e. (let h = begun.built key in cc);
      };
      labels = ap closure.labels_of b.0;
      frame = k;
      asked = sym (ap (λ l. map (demand_in (recipes x.basis.0)) l) b.1);
      placed = ap length begun.places ∙ ap length (sym b.0);
      counted = begun.known;
      takes = λ i h. label_at 0 (length (known c.plan)) i h ∙ ap (λ q. Some (label q)) (let e : 0 + i ≡ i = omega arith in e);
      sendable = λ before after i t e. none_sent before after i t e;
      verifiable = v.0;
      takes_wide = λ i h. v.1 i (omega (arith, n, h));
      within = record { instrs = omega (arith, n, ap length begun.code, length-map texts Take); registers = omega (arith, n, begun.next) };
      sharing = none_sharing (subterms_in c) (closure.rows x.basis.0) x.writer (ap (count_by is_building) begun.code ∙ takes_build_none texts);
    }
  where
    none_sent : {X : Type 0} (before after : List PlanEvent) (i : ℕ) (t : Tree) → [] ≡ before ++ (to_send i t ∷ after) → X
    none_sent [] after i t e = cc
    none_sent (y ∷ before) after i t e = cc

-- ---- one event after another

pub events_parted : {A B : Type 0} (f : A → B) (xs : List A) (i : ℕ) (x : A) → i < length xs → x ≡ get_or xs i x → map f xs ≡ map f (take i xs) ++ (f x ∷ map f (drop (i + 1) xs))
events_parted f [] i x h e = absurd (omega arith)
events_parted f (y ∷ ys) zero x h e = ap (λ z. f z ∷ map f ys) (sym e)
events_parted f (y ∷ ys) (suc i) x h e = let n : suc i + 1 ≡ suc (i + 1) = omega arith in rw n (ap (λ l. f y ∷ l) (events_parted f ys i x (omega arith) e))

pub refused_by : (plan before after : List PlanEvent) (e : PlanEvent) (x : Emission) (role : ℕ) (no : CompileNo) → plan ≡ before ++ (e ∷ after)
    → ((c : Context) → IsPlan c plan → HasDone c before (e ∷ after) x) → Blocks x role e no → RefusesPlan plan role no
refused_by plan before after e x role (CannotSend action sender) is done blocks =
    let t = blocks.1 in
    let same : plan ≡ before ++ (to_send action t ∷ after) = is ∙ ap (λ q. before ++ (q ∷ after)) blocks.2 in (
      blocks.0,
      λ c p.
          let d = done c p in
          let P : List PlanEvent → Type 0 = λ l. IsPlan c l in
          record { before = before; message = t; after = after; is = same; no_recipe = blocks.3 c before after (subst P is p) d; sendable = d.sendable },
    )
refused_by plan before after e x role NoMemory is done blocks = tt

-- ---- the whole code

one_less : (acts : List Act) (act : Act) (a b : ℕ) → is_demanding act ≡ true → b ≡ a + 1 → b + count_by is_demanding acts ≡ a + count_by is_demanding (act ∷ acts)
one_less acts act a b d e =
    let f = sum_by-cons (λ x. cond {A = ℕ} (is_demanding x) 1 0) act acts in
    let one : cond {A = ℕ} (is_demanding act) 1 0 ≡ 1 = ap (λ b. cond {A = ℕ} b 1 0) d in
    omega (arith, e, f, one)

asks : {A : Type 0} (m : Meaning A) (acts : List Act) (es : List Event) (s t : Place) → Reaches m acts es s t → length t.asked ≡ length s.asked + count_by is_demanding acts
asks m [] [] s t h = let e = ap (λ p. length p.asked) h in omega (arith, e)
asks m [] (e ∷ es) s t h = absurd h
asks m (works (make o ns) ∷ acts) es s t h = asks m acts es (after_work s (make o ns)) t h.1 ∙ ap (λ l. length l + count_by is_demanding acts) (append-nil s.asked)
asks m (works (undo o ks n) ∷ acts) es s t h =
    let ds = demands s.regs (undo o ks n) in
    asks m acts es (after_work s (undo o ks n)) t h.1 ∙ one_less acts (works (undo o ks n)) (length s.asked) (length (s.asked ++ ds)) refl (length-append s.asked ds)
asks m (works (equal i j) ∷ acts) es s t h =
    let ds = demands s.regs (equal i j) in
    asks m acts es (after_work s (equal i j)) t h.1 ∙ one_less acts (works (equal i j)) (length s.asked) (length (s.asked ++ ds)) refl (length-append s.asked ds)
asks m (takes ∷ acts) (know u ∷ es) s t h = asks m acts es (after_take s) t h
asks m (draws ∷ acts) (fresh u ∷ es) s t h = asks m acts es (after_label s u) t h
asks m (receives ∷ acts) (recv u ∷ es) s t h = asks m acts es (after_label s u) t h.1
asks m (sends n ∷ acts) (send u ∷ es) s t h = asks m acts es s t h.2
asks m (act ∷ acts) es s t h = absurd h

pub whole : (c : Context) (plan : List PlanEvent) (x : Emission) → IsPlan c plan → HasDone c plan [] x → WasKnown x.basis.0 x.basis.1 → length x.basis.1 ≤ nodes (closure.labels_of x.basis.0) → Emits c plan x.writer.code.items
whole c plan x is done was few =
    let m = meaning_in c in
    let acts = map (act_of c.formats) x.writer.code.items in
    let P : List PlanEvent → Type 0 = λ l. IsPlan c l in
    let plan_is = subst P (sym (append-nil plan)) is in
    let enough = enough_now c plan [] x plan_is done was refl done.place refl refl in
    let events : map know (known c.plan) ++ others plan ≡ c.plan =
    ap (λ l. map know l ++ others plan) (ap known is.events ∙ known_events plan) ∙ whole_plan plan is.leads ∙ sym is.events in
    let E : List Event → Type 0 = λ l. Reaches m acts l (start c.plan) done.place in
    let reach = subst E events done.stands.reaches in
    let count = asks m acts c.plan (start c.plan) done.place reach in
    let most = is.few in
    let room = room_left c plan [] (length x.basis.1) plan_is (omega (arith, few, most, ap nodes done.labels)) in
    let wi = done.within.instrs in
    let wr = done.within.registers in
    let asked = ap length done.asked ∙ length-map x.basis.1 (demand_in (recipes x.basis.0)) in
    record {
      fits = reaches_fit m acts c.plan done.place reach enough;
      few = omega (arith, count, asked, few, ap nodes done.labels);
      once = (let a = done.sharing in let few = few_differ a.terms (subterms_in c) a.differ a.among in omega (arith, few, a.counted));
      sendable = done.sendable;
      admitted = record {
        instrs = done.verifiable.instrs;
        narrow = done.verifiable.narrow;
        few_instrs = omega (arith, wi, room);
        few_registers = omega (arith, wr, room, done.verifiable.next, count_widths c.formats x.writer);
      };
    }
