-- One event after another is done.
use Rattle.std.proofs.Common.{◌≡◌, ℕ, zero, suc, ◌+◌, ◌*◌, ◌<◌, ◌≤◌, List, [], ◌∷◌, ◌++◌, length, map, drop, Bool, true, false, Some, refl, sym, ap, ◌∙◌, subst, arith, length-append, append_assoc, ◌⊎◌, inl, inr}
use Rattle.std.specs.Prelude.{slice_get, count_by, if◌then◌else◌}
use Rattle.std.specs.List.{AllByRecursion}
use Rattle.std.proofs.lemmas.List.{append-nil}
use Rattle.std.proofs.Math.Seq.{drop-append_seam}
use Rattle.std.proofs.lemmas.Bool.{and_parts}
use Rattle.anb_lemmas.proofs.Lists.{get_last}
use Rattle.anb_format.specs.Formats.{FormatValue}
use Rattle.anb_term.specs.declared.term.Op.{Op}
use Rattle.anb_term.specs.declared.term.Term.{Term}
use Rattle.anb_term.specs.View.{tree_of}
use Rattle.anb_base.specs.declared.TheConstants.{ARRIVAL}
use Rattle.anb_term.specs.Tree.{Tree, Trees, trees_of, tree_size, nodes, IsFormed, AreFormed}
use Rattle.anb_term.specs.Value.{Meaning, RecipeTree, label, value}
use Rattle.anb_term.specs.FreeAlgebra.{terms_over}
use Rattle.anb_term.specs.Agree.{HasRecipe}
use Rattle.anb_term.specs.Demand.{Demand, all_hold, holds, Suffices}
use Rattle.anb_term.proofs.Lists.{slice_get-append, slice_get-last, map-append, all_drop, size_some}
use Rattle.anb_term.proofs.Demands.{all_hold_more}
use Rattle.anb_algebra.specs.ByteMeaning.{has_operator}
use Rattle.anb_algebra.specs.ByteLawful.{bytes_are_lawful}
use Rattle.anb_close.specs.declared.entry.Entry.{Entry}
use Rattle.anb_close.specs.declared.entry.Origin.TheVariants.{Label}
use Rattle.anb_close.specs.Entries as closure
use Rattle.anb_close.specs.Entries.{terms_of, rows, HasAdded, IsKnown}
use Rattle.anb_close.specs.Recipes.{recipes}
use Rattle.anb_close.specs.Rows.{made_recipe, mades_for}
use Rattle.anb_close.proofs.Growing as growing
use Rattle.anb_close.proofs.Growing.{no_labels}
use Rattle.anb_close.proofs.Origins.{recipes_stay}
use Rattle.anb_close.proofs.Sound.{formed_all}
use Rattle.anb_basis.specs.declared.check.Check.{Check}
use Rattle.anb_basis.specs.declared.check.Check.TheVariants.{Open, Equal}
use Rattle.anb_basis.specs.Checks.{InOrder, AllFit, demand_of, demands_of}
use Rattle.anb_basis.proofs.Exact.{in_terms, enough}
use Rattle.anb_plays.specs.Plans.{Event, know, send, known}
use Rattle.anb_plays.specs.Codes.{Act, sends, at_register}
use Rattle.anb_plays.specs.Fits.{Place, after_label, start, IsEnough, SendsIt}
use Rattle.anb_plays.specs.Reaches.{Reaches}
use Rattle.anb_plays.proofs.Reaching.{reaches_on}
use Rattle.anb_code.specs.declared.instr.Instr.{Instr}
use Rattle.anb_code.specs.declared.instr.Instr.TheVariants.{Send}
use Rattle.anb_code.specs.Meaning.{act_of}
use Rattle.anb_code.specs.Registers.{register_widths}
use Rattle.anb_protocol.specs.Plans.{PlanEvent, to_know, to_make, to_send, to_receive, term_in}
use Rattle.anb_compile.specs.declared.writer.Writer.{Writer}
use Rattle.anb_compile.specs.declared.emission.Emission.{Emission}
use Rattle.anb_compile.specs.Unsent.{label_of, labels_of}
use Rattle.anb_compile.specs.Counted.{is_building}
use Rattle.anb_compile.specs.Once.{IsChosen, IsChosenCheck, Shares, SharesChecks, subterms_in, AllAmong}
use Rattle.anb_compile.proofs.Sharing.{sharing_on, none_put, mades_kept, operands_among, plan_among, labels_build_none}
use Rattle.anb_compile.specs.Writing.{Context, meaning_in, Tracks, Stands, IsOver, further, Composes, demand_in, AreChecksOf, Asks, count_all_opened}
use Rattle.anb_compile.specs.Verifying.{widths_in, IsVerifiable, IsWithin, GrowsBy, IsNarrow, IsLonger, Lays, IsNarrowCheck, LaysChecks, room_for}
use Rattle.anb_compile.specs.Emitting.{others, known_in, KnowsLead, IsPlan, CanSendAll, Done, HasDone, Labelled, WasKnown}
use Rattle.anb_compile.proofs.Writing.{acts_put, tracks_more, tracks_longer, built_more, built_same, read}
use Rattle.anb_compile.proofs.Opened.{label_checks, demands_stay, recipe_here}
use Rattle.anb_compile.proofs.Laying.{IsLabelling, verifiable_known, verifiable_heard, verifiable_sent, longer_on}
use Rattle.anb_compile.proofs.Small.{terms_have, sizes_within, narrow_within, check_narrow, check_room, all_checks, all_chosen}
use Rattle.anb_compile.proofs.Events.{labels_have, labels_first, labels_append, known_append, others_append, known_events, leads_behind, leads_before, formed_labels}

-- ---- demands

demand_same : (es : List Entry) (x : Check) → demand_of es x ≡ demand_in (recipes es) x
demand_same es (Open x) = refl
demand_same es (Equal i w) = refl

pub demands_same : (es : List Entry) (cs : List Check) → demands_of es cs ≡ map (demand_in (recipes es)) cs
demands_same es [] = refl
demands_same es (c ∷ cs) = cc (demand_same es c, demands_same es cs)

hold_behind : {A : Type 0} (m : Meaning A) (vs : List A) (f : Check → Demand) (n : ℕ) (cs : List Check) → all_hold m vs (map f cs) ≡ true → all_hold m vs (map f (drop n cs)) ≡ true
hold_behind m vs f zero cs h = h
hold_behind m vs f (suc n) [] h = h
hold_behind m vs f (suc n) (c ∷ cs) h = hold_behind m vs f n cs (and_parts (holds m vs (f c)) (all_hold m vs (map f cs)) h).1

-- ---- entries

pub formed_terms : (has : Op → Bool) (es : List Entry) → IsKnown es → AreFormed has (trees_of (closure.labels_of es)) → AreFormed has (trees_of (terms_of es))
formed_terms has es known labels = formed_all has [] es tt known.follow labels

pub one_more_label : (es es' : List Entry) (t : Term) → HasAdded es t es' → closure.labels_of es' ≡ closure.labels_of es ++ tree_of t ∷ []
one_more_label es es' t added =
    ap closure.labels_of added.is ∙ growing.labels_append es _ ∙ ap (λ l. closure.labels_of es ++ tree_of t ∷ l) (no_labels added.parts added.are)

pub longer : (es es' : List Entry) (t : Term) → HasAdded es t es' → (xs : List RecipeTree) × (recipes es' ≡ recipes es ++ xs)
longer es es' t added =
    let a = recipes_stay es (record { origin = Label (length (closure.labels_of es)); term = t } ∷ added.parts) in
    (a.0, ap recipes added.is ∙ a.1)

label_entry : (xs : List Entry) (y : Entry) (ys : List Entry) → slice_get (xs ++ y ∷ ys) (length xs) ≡ Some y
label_entry [] y ys = refl
label_entry (x ∷ xs) y ys = label_entry xs y ys

-- the recipe of the label's entry
pub label_recipe : (has : Op → Bool) (es es' : List Entry) (t : Term) → IsKnown es' → AreFormed has (trees_of (terms_of es')) → HasAdded es t es'
    → slice_get (recipes es') (length es) ≡ Some (label (length (closure.labels_of es)))
label_recipe has es es' t known formed added =
    let lab : Entry = record { origin = Label (length (closure.labels_of es)); term = t } in
    let P : List Entry → Type 0 = λ l. slice_get l (length es) ≡ Some lab in
    recipe_here has es' known formed (length es) lab (subst P (sym added.is) (label_entry es lab added.parts))

-- ---- what was sent

-- a list with one more item, cut somewhere
pub cut_last : (xs front back : List PlanEvent) (e x : PlanEvent) → xs ++ e ∷ [] ≡ front ++ (x ∷ back) → ((xs ≡ front) × (e ≡ x)) ⊎ ((rest : List PlanEvent) × (xs ≡ front ++ (x ∷ rest)))
cut_last [] [] back e x h = inl (refl, cc)
cut_last [] (y ∷ []) back e x h = cc
cut_last [] (y ∷ z ∷ front) back e x h = cc
cut_last (y ∷ xs) [] back e x h = inr (xs, (let s : y ≡ x = cc in ap (λ z. z ∷ xs) s))
cut_last (y ∷ xs) (z ∷ front) back e x h =
    let s : y ≡ z = cc in
    let r : xs ++ e ∷ [] ≡ front ++ (x ∷ back) = cc in
    elim (cut_last xs front back e x r) [
      | inl a ↦ inl ((ap (λ l. y ∷ l) a.0 ∙ ap (λ q. q ∷ front) s), a.1)
      | inr a ↦ inr (a.0, ap (λ l. y ∷ l) a.1 ∙ ap (λ q. q ∷ (front ++ (x ∷ a.0))) s)
    ]

no_send : (e : PlanEvent) (t : Tree) (i : ℕ) (u : Tree) → label_of e ≡ t ∷ [] → e ≡ to_send i u → ⊥
no_send (to_know v) t i u a b = cc
no_send (to_make v) t i u a b = cc
no_send (to_send j v) t i u a b = cc
no_send (to_receive j v) t i u a b = cc

can_label : (c : Context) (before : List PlanEvent) (e : PlanEvent) (t : Tree) → label_of e ≡ t ∷ [] → CanSendAll c before → CanSendAll c (before ++ e ∷ [])
can_label c before e t is can front back i u h = elim (cut_last before front back e (to_send i u) h) [
  | inl a ↦ absurd (no_send e t i u is a.1)
  | inr a ↦ can front a.0 i u a.1
]

pub can_send : (c : Context) (before : List PlanEvent) (i : ℕ) (t : Tree) → HasRecipe (has_operator c.formats) (labels_of before) t → CanSendAll c before → CanSendAll c (before ++ to_send i t ∷ [])
can_send c before i t has can front back j u h = elim (cut_last before front back (to_send i t) (to_send j u) h) [
  | inl a ↦
      let s : t ≡ u = (let q = a.1 in cc) in
      let P : Tree → Type 0 = λ x. HasRecipe (has_operator c.formats) (labels_of before) x in
      let Q : List PlanEvent → Type 0 = λ l. HasRecipe (has_operator c.formats) (labels_of l) u in
      subst Q a.0 (subst P s has)
  | inr a ↦ can front a.0 j u a.1
]

-- ---- registers keep their widths

still_wide : (formats : List FormatValue) (old new : Writer) → IsLonger formats old new → (k : ℕ) → slice_get (widths_in formats old) k ≡ Some ARRIVAL → slice_get (widths_in formats new) k ≡ Some ARRIVAL
still_wide formats old new l k e =
    let P : List ℕ → Type 0 = λ q. slice_get q k ≡ Some ARRIVAL in
    subst P (sym l.grown) (slice_get-append (widths_in formats old) l.since k ARRIVAL e)

-- ---- states

module _ (c : Context) (before after : List PlanEvent) (plan : IsPlan c (before ++ after)) where
  abbrev has : Op → Bool
  has = has_operator c.formats

  -- the entries' terms are small and narrow, and so are their checks
  pub checks_of : (es : List Entry) (cs : List Check) {ds : List Check} {w : Writer} {places count : ℕ} → Done c before after es ds places w count → IsKnown es → AllFit es cs
      → AllByRecursion (IsNarrowCheck c.formats) cs × AllByRecursion (λ q. room_for q ≤ 1025) cs × AllByRecursion (IsChosenCheck (subterms_in c) (rows es)) cs
  checks_of es cs s knows fit =
      let F : List Tree → Type 0 = λ q. AreFormed has (trees_of q) in
      let formed = formed_terms has es knows (subst F (sym s.labels) (formed_labels has before after plan.formed)) in
      let S : List Tree → Type 0 = λ q. AllByRecursion (λ t. tree_size t ≤ 1024) q in
      let N : List Tree → Type 0 = λ q. AllByRecursion (IsNarrow c.formats) q in
      let small = terms_have (λ t. tree_size t ≤ 1024) sizes_within es knows (subst S (sym s.labels) (labels_have (λ t. tree_size t ≤ 1024) before after plan.small)) in
      let ts = subterms_in c in
      let A : List Tree → Type 0 = λ q. AllByRecursion (AllAmong ts) q in
      let among = terms_have (AllAmong ts) (operands_among ts) es knows (subst A (sym s.labels) (labels_have (AllAmong ts) before after (plan_among c (before ++ after) plan.events))) in
      let narrow = terms_have (IsNarrow c.formats) (narrow_within c.formats) es knows (subst N (sym s.labels) (labels_have (IsNarrow c.formats) before after plan.narrow)) in (
        all_checks c.formats has es knows formed small narrow (IsNarrowCheck c.formats) (check_narrow c.formats has es knows formed small narrow) cs fit,
        all_checks c.formats has es knows formed small narrow (λ q. room_for q ≤ 1025) (check_room c.formats has es knows formed small narrow) cs fit,
        all_chosen (subterms_in c) es knows among cs fit,
      )

  -- the checks of a label are of the entries that have a register by then
  pub to_check : (es : List Entry) (cs : List Check) (x : Emission) (first : ℕ) → x.basis ≡ (es, cs) → IsKnown es → AllFit es cs → Labelled c before after x first
      → AreChecksOf has (recipes es) (length x.writer.places.items) (drop first cs)
  to_check es cs x first basis knows fit l =
      let B : List Entry × List Check → Type 0 = λ b. HasAdded l.entries l.term b.0 × (InOrder (length l.entries) b.0 l.checks b.1 × Done c before after b.0 l.checks (length l.entries + 1) x.writer x.known) in
      let at = subst B basis (l.added, (l.order, l.done)) in
      let s = at.1.1 in
      let labels : AreFormed has (trees_of (closure.labels_of es)) = (let F : List Tree → Type 0 = λ q. AreFormed has (trees_of q) in subst F (sym s.labels) (formed_labels has before after plan.formed)) in
      let g = label_checks has es knows (formed_terms has es knows labels) l.entries l.term l.checks cs at.0 fit at.1.0 in
      let P : ℕ → Type 0 = λ k. AreChecksOf has (recipes es) k (drop (length l.checks) cs) in
      let Q : ℕ → Type 0 = λ k. AreChecksOf has (recipes es) (length x.writer.places.items) (drop k cs) in
      subst Q (sym l.from) (subst P (sym s.placed) g.0)

  pub within_given : (x : Emission) (first : ℕ) → Labelled c before after x first → first ≤ length x.basis.1
  within_given x first l =
      let o = l.order in
      let n = ap length o.is ∙ length-append l.checks _ in
      let f = l.from in
      omega (arith, n, f)

  -- the checks of a label are written
  pub checked : (es : List Entry) (cs : List Check) (x : Emission) (first : ℕ) (w : Writer) → x.basis ≡ (es, cs) → IsKnown es → AllFit es cs → Labelled c before after x first
      → Asks x.writer w (drop first cs) → length w.places.items ≡ length x.writer.places.items + count_all_opened (drop first cs)
      → LaysChecks x.writer w (drop first cs) → SharesChecks x.writer w (drop first cs) → GrowsBy x.writer w (1025 * length (drop first cs))
      → Done c before after es cs (length es) w x.known
  checked es cs x first w basis knows fit l asks places lays shares grows =
      let m = meaning_in c in
      let d = l.done in
      let R = recipes es in
      let B : List Entry × List Check → Type 0 = λ b. HasAdded l.entries l.term b.0 × (InOrder (length l.entries) b.0 l.checks b.1 × Done c before after b.0 l.checks (length l.entries + 1) x.writer x.known) in
      let at = subst B basis (l.added, (l.order, d)) in
      let s = at.1.1 in
      let labels : AreFormed has (trees_of (closure.labels_of es)) = (let F : List Tree → Type 0 = λ q. AreFormed has (trees_of q) in subst F (sym s.labels) (formed_labels has before after plan.formed)) in
      let formed = formed_terms has es knows labels in
      let n = length l.checks in
      let now = drop n cs in
      let from : first ≡ n = l.from in
      let g = label_checks has es knows formed l.entries l.term l.checks cs at.0 fit at.1.0 in
      let C : ℕ → Type 0 = λ k. AreChecksOf has R k now in
      let hold : all_hold (terms_over has) (closure.labels_of es) (map (demand_in R) cs) ≡ true =
      (let H : List Demand → Type 0 = λ q. all_hold (terms_over has) (closure.labels_of es) q ≡ true in subst H (demands_same es cs) (in_terms m es cs knows fit labels)) in
      let behind = hold_behind (terms_over has) (closure.labels_of es) (demand_in R) n cs hold in
      let wide = all_hold_more (terms_over has) (closure.labels_of es) (known_in after) (map (demand_in R) now) behind in
      let frame : closure.labels_of es ++ known_in after ≡ s.place.frame = ap (λ q. q ++ known_in after) s.labels ∙ sym s.frame in
      let H : List Tree → Type 0 = λ q. all_hold (terms_over has) q (map (demand_in R) now) ≡ true in
      let A : ℕ → Type 0 = λ k. Asks x.writer w (drop k cs) in
      let ask = subst A from asks in
      let a = ask c (map know (known c.plan) ++ others before) R s.place (subst C (sym s.placed) g.0) (subst H frame wide) s.stands in
      let whole : l.checks ++ now ≡ cs =
      (let parts = at.1.0 in ap (λ q. l.checks ++ drop n q) parts.is ∙ ap (λ q. l.checks ++ q) (drop-append_seam l.checks _) ∙ sym parts.is) in
      let K : ℕ → Type 0 = λ k. length w.places.items ≡ length x.writer.places.items + count_all_opened (drop k cs) in
      let many = subst K from places in
      let V : ℕ → Type 0 = λ k. LaysChecks x.writer w (drop k cs) in
      let longer = subst V from lays c.formats R (subst C (sym s.placed) g.0) (subst (λ k. AllByRecursion (IsNarrowCheck c.formats) (drop k cs)) from (all_drop (IsNarrowCheck c.formats) first cs (checks_of es cs s knows fit).0)) s.verifiable in
      let G : ℕ → Type 0 = λ k. GrowsBy x.writer w (1025 * length (drop k cs)) in
      let grown = subst G from grows in
      let gi = grown.instrs in
      let gr = grown.registers in
      let wi = s.within.instrs in
      let wr = s.within.registers in
      let chosen = all_drop (IsChosenCheck (subterms_in c) (rows es)) first cs (checks_of es cs s knows fit).2 in
      let total : length l.checks + length now ≡ length cs = sym (length-append l.checks now) ∙ ap length whole in
      record {
        place = record { frame = s.place.frame; regs = s.place.regs ++ a.since; asked = s.place.asked ++ map (demand_in R) now };
        stands = a.stands;
        labels = s.labels;
        frame = s.frame;
        asked = ap (λ q. q ++ map (demand_in R) now) s.asked ∙ sym (map-append (demand_in R) l.checks now) ∙ ap (map (demand_in R)) whole;
        placed = omega (arith, many, s.placed, g.1);
        counted = s.counted;
        takes = λ k h. slice_get-append s.place.regs a.since k (label k) (s.takes k h);
        sendable = s.sendable;
        verifiable = longer.verifiable;
        takes_wide = λ k h. still_wide c.formats x.writer w longer k (s.takes_wide k h);
        within = record { instrs = omega (arith, gi, wi, total); registers = omega (arith, gr, wr, total) };
        sharing = shares (subterms_in c) (rows es) chosen s.sharing;
      }

-- ---- the next event brings a label

module _ (c : Context) (before after : List PlanEvent) (e : PlanEvent) (plan : IsPlan c (before ++ (e ∷ after))) (x : Emission) (done : HasDone c before (e ∷ after) x) (was : WasKnown x.basis.0 x.basis.1)
    (es : List Entry) (cs : List Check) (t : Term) (knows : IsKnown es) (added : HasAdded x.basis.0 t es) (order : InOrder (length x.basis.0) es x.basis.1 cs) (is : label_of e ≡ tree_of t ∷ []) where
  old_formed : AreFormed (has_operator c.formats) (trees_of (closure.labels_of x.basis.0))
  old_formed = let F : List Tree → Type 0 = λ q. AreFormed (has_operator c.formats) (trees_of q) in subst F (sym done.labels) (formed_labels (has_operator c.formats) before (e ∷ after) plan.formed)

  new_labels : closure.labels_of es ≡ labels_of (before ++ e ∷ [])
  new_labels =
      one_more_label x.basis.0 es t added ∙ ap (λ q. q ++ tree_of t ∷ []) done.labels ∙ ap (λ q. labels_of before ++ q) (sym (append-nil (label_of e) ∙ is)) ∙ sym (labels_append before (e ∷ []))

  new_formed : AreFormed (has_operator c.formats) (trees_of (closure.labels_of es))
  new_formed =
      let F : List Tree → Type 0 = λ q. AreFormed (has_operator c.formats) (trees_of q) in
      let E : List PlanEvent → Type 0 = λ q. AllByRecursion (λ y. IsFormed (has_operator c.formats) (term_in y)) q in
      subst F (sym new_labels) (formed_labels (has_operator c.formats) (before ++ e ∷ []) after (subst E (sym (append_assoc before (e ∷ []) after)) plan.formed))

  -- a place whose label's entry has a register
  labelled : (place : Place) (w : Writer) (count register : ℕ) → Stands c (map know (known c.plan) ++ others (before ++ e ∷ [])) (recipes x.basis.0) (record w { places = x.writer.places }) place
      → w.places.items ≡ x.writer.places.items ++ register ∷ [] → slice_get place.regs register ≡ Some (label (length (labels_of before)))
      → place.frame ≡ labels_of (before ++ e ∷ []) ++ known_in after → place.asked ≡ done.place.asked → count ≡ length (known_in (before ++ e ∷ []))
      → ((n : ℕ) → n < length (known c.plan) → slice_get place.regs n ≡ Some (label n))
      → IsVerifiable c.formats w → ((n : ℕ) → n < length (known c.plan) → slice_get (widths_in c.formats w) n ≡ Some ARRIVAL) → IsWithin w (length (known c.plan) + 1025 * (length x.basis.1 + length (before ++ e ∷ [])))
      → w.built ≡ x.writer.built → count_by is_building w.code.items ≡ count_by is_building x.writer.code.items
      → Done c (before ++ e ∷ []) after es x.basis.1 (length x.basis.0 + 1) w count
  labelled place w count register stands places here frame asked counted takes verifiable takes_wide within built builds =
      let h = has_operator c.formats in
      let R = recipes x.basis.0 in
      let l = longer x.basis.0 es t added in
      let T : List RecipeTree → Type 0 = λ q. Tracks place.regs q x.writer.places.items in
      let wide = subst T (sym l.1) (tracks_longer place.regs R l.0 x.writer.places.items stands.tracks) in
      let own : slice_get (recipes es) (length x.basis.0) ≡ Some (label (length (labels_of before))) =
      label_recipe h x.basis.0 es t knows (formed_terms h es knows new_formed) added ∙ ap (λ q. Some (label (length q))) done.labels in
      let P : List ℕ → Type 0 = λ q. Tracks place.regs (recipes es) q in
      record {
        place = place;
        stands = record {
          reaches = stands.reaches;
          next = stands.next;
          tracks = subst P (sym places) (one_tracked place.regs (recipes es) x.writer.places.items register (label (length (labels_of before))) wide
              (let A : ℕ → Type 0 = λ q. slice_get (recipes es) q ≡ Some (label (length (labels_of before))) in subst A (sym done.placed) own) here);
          built = stands.built;
        };
        labels = new_labels;
        frame = frame;
        asked = asked ∙ done.asked ∙ sym (demands_stay h x.basis.0 was.known (formed_terms h x.basis.0 was.known old_formed) l.0 x.basis.1 was.fit) ∙ ap (λ q. map (demand_in q) x.basis.1) (sym l.1);
        placed = ap length places ∙ length-append x.writer.places.items (register ∷ []) ∙ ap (λ q. q + 1) done.placed;
        counted = counted;
        takes = takes;
        sendable = can_label c before e (tree_of t) is done.sendable;
        verifiable = verifiable;
        takes_wide = takes_wide;
        within = within;
        sharing = sharing_on (subterms_in c) (rows x.basis.0) (rows es) x.writer w mades_stay entries_stay built builds done.sharing;
      }
    where
      mades_stay : (us ms : Trees) → mades_for (rows x.basis.0) us ≡ Some ms → mades_for (rows es) us ≡ Some ms
      mades_stay us ms h = mades_kept x.basis.0 _ es added.is us ms h

      entries_stay : (n k : ℕ) → slice_get x.writer.places.items n ≡ Some k → slice_get w.places.items n ≡ Some k
      entries_stay n k h = let P : List ℕ → Type 0 = λ l. slice_get l n ≡ Some k in subst P (sym places) (slice_get-append x.writer.places.items (register ∷ []) n k h)

      one_tracked : (regs entries : List RecipeTree) (places : List ℕ) (k : ℕ) (r : RecipeTree) → Tracks regs entries places → slice_get entries (length places) ≡ Some r → slice_get regs k ≡ Some r
          → Tracks regs entries (places ++ k ∷ [])
      one_tracked regs entries places k r tracks entry reg n j at = elim (slice_get-last places k j n at) [
        | inl a ↦ tracks n j a
        | inr a ↦
            let P : ℕ → Type 0 = λ q. slice_get entries q ≡ Some r in
            let Q : ℕ → Type 0 = λ q. slice_get regs q ≡ Some r in
            (r, subst P (sym a.0) entry, subst Q a.1 reg)
      ]

  labelled_at : (first : ℕ) (y : Emission) (w : Writer) (count : ℕ) → y.basis ≡ (es, cs) → y.writer ≡ w → y.known ≡ count → first ≡ length x.basis.1
      → Done c (before ++ e ∷ []) after es x.basis.1 (length x.basis.0 + 1) w count → Labelled c (before ++ e ∷ []) after y first
  labelled_at first y w count basis writer num from d =
      let A : List Entry × List Check → Type 0 = λ b. HasAdded x.basis.0 t b.0 × (InOrder (length x.basis.0) b.0 x.basis.1 b.1 × Done c (before ++ e ∷ []) after b.0 x.basis.1 (length x.basis.0 + 1) w count) in
      let at = subst A (sym basis) (added, (order, d)) in
      let W : Writer → Type 0 = λ q. Done c (before ++ e ∷ []) after y.basis.0 x.basis.1 (length x.basis.0 + 1) q count in
      let K : ℕ → Type 0 = λ q. Done c (before ++ e ∷ []) after y.basis.0 x.basis.1 (length x.basis.0 + 1) y.writer q in
      record { entries = x.basis.0; term = t; checks = x.basis.1; added = at.0; order = at.1.0; from = from; done = subst K (sym num) (subst W (sym writer) at.1.1) }

  -- ---- an initial value

  pub known_labelled : (u : Tree) (w : Writer) (count first : ℕ) (y : Emission) → e ≡ to_know u → w.code ≡ x.writer.code → w.next ≡ x.writer.next → w.places.items ≡ x.writer.places.items ++ x.known ∷ [] → w.built ≡ x.writer.built → count ≡ x.known + 1
      → y.basis ≡ (es, cs) → y.writer ≡ w → y.known ≡ count → first ≡ length x.basis.1
      → Labelled c (before ++ e ∷ []) after y first
  known_labelled u w count first y kind code next places built counted basis writer num from =
      let s = done.place in
      let known_e : (l : List PlanEvent) → known_in (e ∷ l) ≡ u ∷ known_in l = λ l. ap (λ q. known_in (q ∷ l)) kind in
      let lead : labels_of before ≡ known_in before =
      (let L : PlanEvent → Type 0 = λ q. KnowsLead (before ++ (q ∷ after)) in leads_before before after u (subst L kind plan.leads)) in
      let all : known c.plan ≡ known_in before ++ (u ∷ known_in after) = ap known plan.events ∙ known_events (before ++ (e ∷ after)) ∙ known_append before (e ∷ after) ∙ ap (λ q. known_in before ++ q) (known_e after) in
      let below : x.known < length (known c.plan) = omega (arith, done.counted, ap length all, length-append (known_in before) (u ∷ known_in after)) in
      let reg = done.takes x.known below in
      let number : x.known ≡ length (labels_of before) = done.counted ∙ ap length (sym lead) in
      let same : others (before ++ e ∷ []) ≡ others before = others_append before (e ∷ []) ∙ ap (λ q. others before ++ others (q ∷ [])) kind ∙ append-nil (others before) in
      let term : tree_of t ∷ [] ≡ u ∷ [] = sym is ∙ ap label_of kind in
      let stands : Stands c (map know (known c.plan) ++ others (before ++ e ∷ [])) (recipes x.basis.0) (record w { places = x.writer.places }) s =
      (let E : List Event → Type 0 = λ q. Stands c (map know (known c.plan) ++ q) (recipes x.basis.0) (record w { places = x.writer.places }) s in
      let i = done.stands in
      let M : List Instr → Type 0 = λ q. Reaches (meaning_in c) (map (act_of c.formats) q) (map know (known c.plan) ++ others before) (start c.plan) s in
      subst E (sym same) (record { reaches = subst M (sym (ap (λ v. v.items) code)) i.reaches; next = next ∙ i.next; tracks = i.tracks; built = built_same s.regs x.writer.built w.built built i.built })) in
      let frame : s.frame ≡ labels_of (before ++ e ∷ []) ++ known_in after =
      done.frame ∙ ap (λ q. labels_of before ++ q) (known_e after) ∙ sym (append_assoc (labels_of before) (u ∷ []) (known_in after))
      ∙ ap (λ q. (labels_of before ++ q) ++ known_in after) (sym term ∙ sym is ∙ sym (append-nil (label_of e))) ∙ ap (λ q. q ++ known_in after) (sym (labels_append before (e ∷ []))) in
      let count_is : count ≡ length (known_in (before ++ e ∷ [])) =
      omega (arith, counted, done.counted, ap length (known_append before (e ∷ [])), length-append (known_in before) (known_in (e ∷ [])), ap length (known_e [])) in
      let v = verifiable_known c.formats x.writer w x.known code next places built (done.takes_wide x.known below) done.verifiable in
      let same_code : widths_in c.formats x.writer ≡ widths_in c.formats w = ap (λ q. register_widths ARRIVAL c.formats q.items) (sym code) in
      let wi = done.within.instrs in
      let wr = done.within.registers in
      let more = length-append before (e ∷ []) in
      let d = labelled s w count x.known stands places (reg ∙ ap (λ q. Some (label q)) number) frame refl count_is done.takes v
      (λ k h. let P : List ℕ → Type 0 = λ q. slice_get q k ≡ Some ARRIVAL in subst P same_code (done.takes_wide k h)) (record { instrs = omega (arith, wi, more, ap (λ q. length q.items) code); registers = omega (arith, wr, more, next) }) built (ap (λ q. count_by is_building q.items) code) in
      labelled_at first y w count basis writer num from d

  -- ---- a name that is made, or a message that is received

  pub heard_labelled : (w : Writer) (first : ℕ) (y : Emission) (i : Instr) (a : Act) (ev : Event) → IsLabelling i → w.code.items ≡ x.writer.code.items ++ i ∷ [] → w.next ≡ x.writer.next + 1 → w.places.items ≡ x.writer.places.items ++ x.writer.next ∷ [] → w.built ≡ x.writer.built
      → act_of c.formats i ≡ a → others (e ∷ []) ≡ ev ∷ [] → known_in (e ∷ []) ≡ [] → Reaches (meaning_in c) (a ∷ []) (ev ∷ []) done.place (after_label done.place (tree_of t))
      → y.basis ≡ (es, cs) → y.writer ≡ w → y.known ≡ x.known → first ≡ length x.basis.1
      → Labelled c (before ++ e ∷ []) after y first
  heard_labelled w first y i a ev labelling code next places built act event unknown reach basis writer num from =
      let s = done.place in
      let m = meaning_in c in
      let st = done.stands in
      let later = after_label s (tree_of t) in
      let nothing : known_in after ≡ [] = leads_behind before after e plan.leads unknown in
      let frame_is : s.frame ≡ labels_of before =
      done.frame ∙ ap (λ q. labels_of before ++ q) (known_append (e ∷ []) after ∙ ap (λ q. q ++ known_in after) unknown ∙ nothing) ∙ append-nil (labels_of before) in
      let acts = acts_put c.formats x.writer.code.items w.code.items i a code act in
      let on = reaches_on m (map (act_of c.formats) x.writer.code.items) (a ∷ []) (map know (known c.plan) ++ others before) (ev ∷ []) (start c.plan) s later st.reaches reach in
      let events : (map know (known c.plan) ++ others before) ++ ev ∷ [] ≡ map know (known c.plan) ++ others (before ++ e ∷ []) =
      append_assoc (map know (known c.plan)) (others before) (ev ∷ []) ∙ ap (λ q. map know (known c.plan) ++ q) (ap (λ q. others before ++ q) (sym event) ∙ sym (others_append before (e ∷ []))) in
      let A : List Act → Type 0 = λ q. Reaches m q (map know (known c.plan) ++ others (before ++ e ∷ [])) (start c.plan) later in
      let E : List Event → Type 0 = λ q. Reaches m (map (act_of c.formats) x.writer.code.items ++ a ∷ []) q (start c.plan) later in
      let stands : Stands c (map know (known c.plan) ++ others (before ++ e ∷ [])) (recipes x.basis.0) (record w { places = x.writer.places }) later =
      record {
        reaches = subst A (sym acts) (subst E events on);
        next = omega (arith, next, st.next, length-append s.regs (label (length s.frame) ∷ []));
        tracks = tracks_more s.regs (label (length s.frame) ∷ []) (recipes x.basis.0) x.writer.places.items st.tracks;
        built = built_more s.regs (label (length s.frame) ∷ []) w.built (built_same s.regs x.writer.built w.built built st.built);
      } in
      let here : slice_get later.regs x.writer.next ≡ Some (label (length (labels_of before))) =
      (let P : ℕ → Type 0 = λ q. slice_get later.regs q ≡ Some (label (length s.frame)) in subst P (sym st.next) (get_last s.regs (label (length s.frame))) ∙ ap (λ q. Some (label (length q))) frame_is) in
      let frame : later.frame ≡ labels_of (before ++ e ∷ []) ++ known_in after =
      ap (λ q. q ++ tree_of t ∷ []) frame_is ∙ ap (λ q. labels_of before ++ q) (sym (append-nil (label_of e) ∙ is)) ∙ sym (labels_append before (e ∷ []))
      ∙ sym (append-nil (labels_of (before ++ e ∷ []))) ∙ ap (λ q. labels_of (before ++ e ∷ []) ++ q) (sym nothing) in
      let count_is : x.known ≡ length (known_in (before ++ e ∷ [])) =
      omega (arith, done.counted, ap length (known_append before (e ∷ [])), length-append (known_in before) (known_in (e ∷ [])), ap length unknown) in
      let v = verifiable_heard c.formats x.writer w i labelling code next places built done.verifiable in
      let wi = done.within.instrs in
      let wr = done.within.registers in
      let more = length-append before (e ∷ []) in
      let d = labelled later w x.known x.writer.next stands places here frame refl count_is (λ k h. slice_get-append s.regs (label (length s.frame) ∷ []) k (label k) (done.takes k h)) v.0
      (λ k h. still_wide c.formats x.writer w v.1 k (done.takes_wide k h)) (record { instrs = omega (arith, wi, more, ap length code, length-append x.writer.code.items (i ∷ [])); registers = omega (arith, wr, more, next) })
      built (none_put x.writer.code.items w.code.items i code (labels_build_none i labelling)) in
      labelled_at first y w x.known basis writer num from d

-- ---- before a message is sent or received, and at the end, enough was asked

pub enough_now : (c : Context) (before rest : List PlanEvent) (x : Emission) (plan : IsPlan c (before ++ rest)) (done : HasDone c before rest x) → WasKnown x.basis.0 x.basis.1 → known_in rest ≡ []
    → (s : Place) → s.frame ≡ done.place.frame → s.asked ≡ done.place.asked → IsEnough (meaning_in c) s
enough_now c before rest x plan done was nothing s frame asked =
    let m = meaning_in c in
    let es = x.basis.0 in
    let F : List Tree → Type 0 = λ q. AreFormed (has_operator c.formats) (trees_of q) in
    let formed = subst F (sym done.labels) (formed_labels (has_operator c.formats) before rest plan.formed) in
    let a = enough m es x.basis.1 was.known (bytes_are_lawful c.formats c.suite) was.all formed in
    let at : closure.labels_of es ≡ s.frame = done.labels ∙ sym (append-nil (labels_of before)) ∙ ap (λ q. labels_of before ++ q) (sym nothing) ∙ sym done.frame ∙ sym frame in
    let ask : demands_of es x.basis.1 ≡ s.asked = demands_same es x.basis.1 ∙ sym done.asked ∙ sym asked in
    let P : List Tree → Type 0 = λ q. Suffices m q (demands_of es x.basis.1) in
    let Q : List Demand → Type 0 = λ q. Suffices m s.frame q in
    subst Q ask (subst P at a)

-- ---- a message is sent

pub message_sent : (c : Context) (before after : List PlanEvent) (i : ℕ) (u : Tree) (x : Emission) (plan : IsPlan c (before ++ (to_send i u ∷ after))) (done : HasDone c before (to_send i u ∷ after) x) → WasKnown x.basis.0 x.basis.1
    → (made : Tree) (mid w : Writer) (r : ℕ) → value (terms_over (has_operator c.formats)) (closure.labels_of x.basis.0) (made_recipe (recipes x.basis.0) made) ≡ Some u
    → IsOver (has_operator c.formats) (length x.writer.places.items) made → Composes x.writer mid made r → mid.places ≡ x.writer.places
    → IsNarrow c.formats made → tree_size made ≤ 1024 → Lays x.writer mid made r → GrowsBy x.writer mid (tree_size made)
    → w.code.items ≡ mid.code.items ++ Send r ∷ [] → w.next ≡ mid.next → w.places ≡ mid.places → w.built ≡ mid.built → Shares x.writer mid made r → IsChosen (subterms_in c) (rows x.basis.0) made
    → Done c (before ++ to_send i u ∷ []) after x.basis.0 x.basis.1 (length x.basis.0) w x.known
message_sent c before after i u x plan done was made mid w r gives over composes same narrow small lays grows code next places built shares chosen =
    let m = meaning_in c in
    let e = to_send i u in
    let R = recipes x.basis.0 in
    let nothing : known_in after ≡ [] = leads_behind before after e plan.leads refl in
    let evs = map know (known c.plan) ++ others before in
    let a = composes c evs R done.place over done.stands in
    let s = further done.place a.since in
    let frame_is : s.frame ≡ closure.labels_of x.basis.0 = done.frame ∙ ap (λ q. labels_of before ++ q) nothing ∙ append-nil (labels_of before) ∙ sym done.labels in
    let is : at_register s.regs r ≡ made_recipe R made = read s.regs r (made_recipe R made) a.holds in
    let V : RecipeTree → Type 0 = λ q. value (terms_over (has_operator c.formats)) (closure.labels_of x.basis.0) q ≡ Some u in
    let W : List Tree → Type 0 = λ q. value (terms_over (has_operator c.formats)) q (at_register s.regs r) ≡ Some u in
    let sends_it : SendsIt m s r u = subst W (sym frame_is) (subst V (sym is) gives) in
    let ready = enough_now c before (e ∷ after) x plan done was nothing s refl refl in
    let acts = acts_put c.formats mid.code.items w.code.items (Send r) (sends r) code refl in
    let reach : Reaches m (sends r ∷ []) (send u ∷ []) s s = (ready, sends_it, refl) in
    let on = reaches_on m (map (act_of c.formats) mid.code.items) (sends r ∷ []) evs (send u ∷ []) (start c.plan) s s a.stands.reaches reach in
    let events : evs ++ send u ∷ [] ≡ map know (known c.plan) ++ others (before ++ e ∷ []) =
    append_assoc (map know (known c.plan)) (others before) (send u ∷ []) ∙ ap (λ q. map know (known c.plan) ++ q) (sym (others_append before (e ∷ []))) in
    let A : List Act → Type 0 = λ q. Reaches m q (map know (known c.plan) ++ others (before ++ e ∷ [])) (start c.plan) s in
    let E : List Event → Type 0 = λ q. Reaches m (map (act_of c.formats) mid.code.items ++ sends r ∷ []) q (start c.plan) s in
    let T : List ℕ → Type 0 = λ q. Tracks s.regs R q in
    let labels : labels_of before ≡ labels_of (before ++ e ∷ []) = sym (append-nil (labels_of before)) ∙ sym (labels_append before (e ∷ [])) in
    let H : List Tree → Type 0 = λ q. value (terms_over (has_operator c.formats)) q (made_recipe R made) ≡ Some u in
    let l = lays c.formats over narrow done.verifiable in
    let sent = verifiable_sent c.formats mid w r _ code next places built l.holds l.longer.verifiable in
    let longer = longer_on c.formats x.writer mid w l.longer sent in
    let gi = grows.instrs in
    let gr = grows.registers in
    let wi = done.within.instrs in
    let wr = done.within.registers in
    let more = length-append before (e ∷ []) in
    record {
      place = s;
      stands = record {
        reaches = subst A (sym acts) (subst E events on);
        next = next ∙ a.stands.next;
        tracks = subst T (sym (ap (λ q. q.items) places)) a.stands.tracks;
        built = built_same s.regs mid.built w.built built a.stands.built;
      };
      labels = done.labels ∙ labels;
      frame = done.frame ∙ ap (λ q. q ++ known_in after) labels;
      asked = done.asked;
      placed = ap (λ q. length q.items) places ∙ ap (λ q. length q.items) same ∙ done.placed;
      counted = done.counted ∙ ap length (sym (append-nil (known_in before)) ∙ sym (known_append before (e ∷ [])));
      takes = λ k h. slice_get-append done.place.regs a.since k (label k) (done.takes k h);
      sendable = can_send c before i u (made_recipe R made, subst H done.labels gives) done.sendable;
      verifiable = longer.verifiable;
      takes_wide = λ k h. still_wide c.formats x.writer w longer k (done.takes_wide k h);
      within = record { instrs = omega (arith, small, gi, wi, more, ap length code, length-append mid.code.items (Send r ∷ [])); registers = omega (arith, small, gr, wr, more, next) };
      sharing = sharing_on (subterms_in c) (rows x.basis.0) (rows x.basis.0) mid w (λ us ms h. h) (λ n k h. ap (λ q. slice_get q.items n) places ∙ h) built (none_put mid.code.items w.code.items (Send r) code refl)
          (shares (subterms_in c) (rows x.basis.0) chosen done.sharing).sharing;
    }

-- ---- counts

labels_few : (es : List Entry) → length (closure.labels_of es) ≤ length es
labels_few [] = omega arith
labels_few (e ∷ es) = few (closure.is_label e.origin) (tree_of e.term) (closure.labels_of es) (length es) (labels_few es)
  where
    few : (b : Bool) (t : Tree) (ts : List Tree) (n : ℕ) → length ts ≤ n → length (if b then t ∷ ts else ts) ≤ suc n
    few true t ts n h = omega arith
    few false t ts n h = omega arith

known_few : (es : List PlanEvent) → length (known_in es) ≤ length (labels_of es)
known_few [] = omega arith
known_few (to_know t ∷ es) = omega (arith, known_few es)
known_few (to_make t ∷ es) = omega (arith, known_few es)
known_few (to_send i t ∷ es) = omega (arith, known_few es)
known_few (to_receive i t ∷ es) = omega (arith, known_few es)

pub count_small : (c : Context) (before after : List PlanEvent) (x : Emission) → HasDone c before after x → IsKnown x.basis.0 → x.known < 4294967295
count_small c before after x done knows =
    let a = done.counted in
    let b = knows.few in
    let d = knows.bounded in
    omega (arith, a, b, d, known_few before, labels_few x.basis.0, ap length done.labels)

pub many_nodes : (ts : List Tree) → length ts ≤ nodes ts
many_nodes [] = omega arith
many_nodes (t ∷ ts) = omega (arith, many_nodes ts, size_some t)

pub known_most : (c : Context) (plan : List PlanEvent) → IsPlan c plan → length (known_in plan) ≤ 65536
known_most c plan is = let most = is.few in omega (arith, most, known_few plan, many_nodes (labels_of plan))

-- what is written stays far below the most that can be numbered
pub room_left : (c : Context) (before after : List PlanEvent) (n : ℕ) → IsPlan c (before ++ after) → n ≤ 65536 → length (known c.plan) + 1025 * (n + length before) < 136000000
room_left c before after n plan few =
    let k = ap length (ap known plan.events ∙ known_events (before ++ after)) in
    let short = plan.short in
    omega (arith, few, k, short, known_most c (before ++ after) plan, length-append before after)

-- so there is room for a label, and for a message
pub message_fits : (c : Context) (before after : List PlanEvent) (e : PlanEvent) (x : Emission) → IsPlan c (before ++ (e ∷ after)) → HasDone c before (e ∷ after) x → length x.basis.1 ≤ nodes (closure.labels_of x.basis.0) → x.writer.next + 1024 < 4294967296
message_fits c before after e x plan done few =
    let most = plan.few in
    let room = room_left c before (e ∷ after) (length x.basis.1) plan (omega (arith, few, most, labels_first before (e ∷ after), ap nodes done.labels)) in
    let wide = done.within.registers in
    omega (arith, room, wide)

-- the same plan, with an event among those that are done
pub plan_on : (c : Context) (before after : List PlanEvent) (e : PlanEvent) → IsPlan c (before ++ (e ∷ after)) → IsPlan c ((before ++ e ∷ []) ++ after)
plan_on c before after e plan = let P : List PlanEvent → Type 0 = λ l. IsPlan c l in subst P (sym (append_assoc before (e ∷ []) after)) plan

pub enough_heard : (c : Context) (before after : List PlanEvent) (i : ℕ) (t : Tree) (x : Emission) (plan : IsPlan c (before ++ (to_receive i t ∷ after))) (done : HasDone c before (to_receive i t ∷ after) x) → WasKnown x.basis.0 x.basis.1 → IsEnough (meaning_in c) done.place
enough_heard c before after i t x plan done was =
    enough_now c before (to_receive i t ∷ after) x plan done was (leads_behind before after (to_receive i t) plan.leads refl) done.place refl refl
