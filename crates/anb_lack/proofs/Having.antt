-- From which event on a role can have a term, by the entries that the term is composed from.
use Rattle.std.proofs.Common.{◌≡◌, ℕ, zero, suc, ◌+◌, ◌<◌, ◌≤◌, ◌↔◌, List, [], ◌∷◌, ◌++◌, length, map, take, drop, get_or, Bool, true, false, Option, Some, None, refl, sym, ap, ◌∙◌, subst, arith, inl, inr, ◌⊎◌, ⊎_elim, option_map, length-append, length-take-le, take-append-drop}
use Rattle.std.specs.Prelude.{slice_get, ◌==◌, cond, replicate}
use Rattle.std.specs.List.{AllByRecursion, AllZip}
use Rattle.std.proofs.lemmas.Bool.{cases_order}
use Rattle.std.proofs.lemmas.List.{append-nil, length-map, take-map, take_all}
use Rattle.std.proofs.Math.Seq.{take-append_seam}
use Rattle.anb_lemmas.proofs.Each.{each_by, each_in_parts}
use Rattle.anb_lemmas.proofs.Lists.{get_either, get_front, get_last, got_within}
use Rattle.anb_lemmas.proofs.Options.{mapped_from}
use Rattle.anb_term.specs.declared.term.Op.{Op}
use Rattle.anb_term.specs.Agree.{HasRecipe}
use Rattle.anb_term.specs.FreeAlgebra.{terms_over}
use Rattle.anb_term.specs.Operator.{arity}
use Rattle.anb_term.specs.Tree.{Tree, leaf, node, Trees, none, more, list_of, nodes, trees_of, AreFormed, IsFormed}
use Rattle.anb_term.specs.View.{tree_of}
use Rattle.anb_term.proofs.Frames.{value_more}
use Rattle.anb_term.proofs.Lists.{slice_get-append, slice_get-last, slice_get-there, take-take}
use Rattle.anb_algebra.specs.ByteMeaning.{has_operator}
use Rattle.anb_close.specs.declared.entry.Entry.{Entry}
use Rattle.anb_close.specs.Entries as entries
use Rattle.anb_close.specs.Entries.{rows, terms_of, IsKnown}
use Rattle.anb_close.specs.Recipes.{recipes}
use Rattle.anb_close.specs.Rows.{place, made_for, mades_for, made_recipe, rows_from, rows_of}
use Rattle.anb_close.proofs.Finding.{rows_append, rows_length}
use Rattle.anb_close.proofs.Growing as growing
use Rattle.anb_close.proofs.Growing.{formed_front, nodes_append, prefix}
use Rattle.anb_close.proofs.Rows.{both_are, both_some, built_is, built_some, length_rows, made_later, made_leaf, optional, place_at, place_own, row_later, rows_more, stands}
use Rattle.anb_close.proofs.Sound.{no_recipe, some_recipe}
use Rattle.anb_protocol.specs.Laws.{HoldsOf}
use Rattle.anb_protocol.specs.Plans.{PlanEvent, to_know, to_make, to_send, to_receive, plan_of, term_in}
use Rattle.anb_protocol.specs.Protocols.{ProtocolValue}
use Rattle.anb_protocol.specs.Views.{plan_event}
use Rattle.anb_protocol.specs.declared.plans.Event.{Event}
use Rattle.anb_compile.specs.Unsent.{label_of, labels_of}
use Rattle.anb_compile.proofs.Events.{formed_any, formed_labels, labels_append, labels_have}
use Rattle.anb_compile.proofs.Protocols.{plan_is}
use Rattle.anb_compile.proofs.Whole.{events_parted}
use Rattle.anb_lack.specs.declared.origins.Origin.{Origin}
use Rattle.anb_lack.specs.declared.origins.Origin.TheVariants.{Built, Known}
use Rattle.anb_lack.specs.Held.{AreWithin, CameFrom, IsHeld, IsStage, IsWithin}
use Rattle.anb_lack.specs.Before.{unless_built}
use Rattle.anb_lack.specs.Origins.{ComesFrom, HasBy, IsFrom, IsListedFrom, is_out}

-- ---- the entries that a composition names

-- all of them are there
module _ (rs : List (Option Tree)) where
  mutual
    pub made_within : (t m : Tree) → made_for rs t ≡ Some m → IsWithin (length rs) m
    made_within (leaf n) m e =
        let h = mapped_from leaf (place rs (leaf n)) m e in
        subst (IsWithin (length rs)) h.2 (got_within rs h.0 (Some (leaf n)) (place_at rs (leaf n) h.0 h.1))
    made_within (node o ts) m e =
        ⊎_elim
        (λ (i, p). let s : leaf i ≡ m = (let q = rw p at e in cc) in subst (IsWithin (length rs)) s (got_within rs i (Some (node o ts)) (place_at rs (node o ts) i p)))
        (λ p. let h = built_some o (length (list_of ts) == arity o) (mades_for rs ts) m (rw p at e) in subst (IsWithin (length rs)) h.3 (mades_within ts h.1 h.2))
        (optional (place rs (node o ts)))

    mades_within : (ts ms : Trees) → mades_for rs ts ≡ Some ms → AreWithin (length rs) ms
    mades_within none ms e = let s : none ≡ ms = cc in subst (AreWithin (length rs)) s tt
    mades_within (more t ts) ms e =
        let h = both_some (made_for rs t) (mades_for rs ts) ms e in
        subst (AreWithin (length rs)) h.4 (made_within t h.0 h.2, mades_within ts h.1 h.3)

-- a composition that names the first rows alone is chosen for them, too
module _ (ts : List Tree) (c : ℕ) (h : c ≤ length ts) where
  front_rows : rows_of ts ≡ rows_from (rows_of (take c ts)) (drop c ts)
  front_rows = ap (rows_from []) (sym (take-append-drop c ts)) ∙ rows_more [] (take c ts) (drop c ts)

  front_long : length (rows_of (take c ts)) ≡ c
  front_long = omega (arith, length_rows [] (take c ts), length-take-le c ts h)

  place_front : (t : Tree) (i : ℕ) → place (rows_of ts) t ≡ Some i → i < c → place (rows_of (take c ts)) t ≡ Some i
  place_front t i e below =
      let p = prefix (rows_of (take c ts)) (drop c ts) in
      let whole : rows_of ts ≡ rows_of (take c ts) ++ p.0 = front_rows ∙ p.1 in
      let here : slice_get (rows_of ts) i ≡ Some (Some t) = place_at (rows_of ts) t i e in
      let same : slice_get (rows_of (take c ts) ++ p.0) i ≡ slice_get (rows_of (take c ts)) i = get_front (rows_of (take c ts)) p.0 i (omega (arith, below, front_long)) in
      place_own (take c ts) i t (sym same ∙ ap (λ rs. slice_get rs i) (sym whole) ∙ here)

  none_front : (t : Tree) → place (rows_of ts) t ≡ None → place (rows_of (take c ts)) t ≡ None
  none_front t e = by (optional (place (rows_of (take c ts)) t)) where
    by : ((j : ℕ) × (place (rows_of (take c ts)) t ≡ Some j)) ⊎ (place (rows_of (take c ts)) t ≡ None) → place (rows_of (take c ts)) t ≡ None
    by (inr is) = is
    by (inl (j, q)) =
        let later = row_later (rows_of (take c ts)) (drop c ts) j (Some t) (place_at (rows_of (take c ts)) t j q) in
        let there = stands (rows_of ts) t j (ap (λ rs. slice_get rs j) front_rows ∙ later) in
        let never : None ≡ Some there.0 = sym e ∙ there.1 in cc

  mutual
    pub made_front : (t m : Tree) → made_for (rows_of ts) t ≡ Some m → IsWithin c m → made_for (rows_of (take c ts)) t ≡ Some m
    made_front (leaf n) m e w =
        let g = mapped_from leaf (place (rows_of ts) (leaf n)) m e in
        ap (option_map leaf) (place_front (leaf n) g.0 g.1 (subst (IsWithin c) (sym g.2) w)) ∙ ap Some g.2
    made_front (node o us) m e w =
        ⊎_elim
        (λ (i, p).
        let s : leaf i ≡ m = (let q = rw p at e in cc) in
        made_leaf (rows_of (take c ts)) (node o us) i (place_front (node o us) i p (subst (IsWithin c) (sym s) w)) ∙ ap Some s)
        (λ p.
        let b = built_some o (length (list_of us) == arity o) (mades_for (rows_of ts) us) m (rw p at e) in
        built_is o (place (rows_of (take c ts)) (node o us)) (length (list_of us) == arity o) (mades_for (rows_of (take c ts)) us) b.1 (none_front (node o us) p) b.0
        (mades_front us b.1 b.2 (subst (IsWithin c) (sym b.3) w)) ∙ ap Some b.3)
        (optional (place (rows_of ts) (node o us)))

    mades_front : (us ms : Trees) → mades_for (rows_of ts) us ≡ Some ms → AreWithin c ms → mades_for (rows_of (take c ts)) us ≡ Some ms
    mades_front none ms e w = e
    mades_front (more u us) ms e w =
        let g = both_some (made_for (rows_of ts) u) (mades_for (rows_of ts) us) ms e in
        let parts : AreWithin c (more g.0 g.1) = subst (AreWithin c) (sym g.4) w in
        both_are (made_for (rows_of (take c ts)) u) (mades_for (rows_of (take c ts)) us) g.0 g.1 (made_front u g.0 g.2 parts.0) (mades_front us g.1 g.3 parts.1) ∙ ap Some g.4

-- ---- what the first entries give

module _ (has : Op → Bool) (es : List Entry) (c : ℕ) (h : c ≤ length es) (known : IsKnown (take c es)) (t m : Tree) (made : made_for (rows es) t ≡ Some m) where
  front_terms : terms_of (take c es) ≡ take c (terms_of es)
  front_terms = sym (take-map (λ (e : Entry). tree_of e.term) c es)

  -- what has a recipe over their labels names them alone
  pub has_within : HasRecipe has (entries.labels_of (take c es)) t → IsWithin c m
  has_within recipe = by (optional (made_for (rows (take c es)) t)) where
    long : length (rows (take c es)) ≡ c
    long = rows_length (take c es) ∙ length-take-le c es h

    whole : rows es ≡ rows_from (rows (take c es)) (terms_of (drop c es))
    whole = ap rows (sym (take-append-drop c es)) ∙ rows_append (take c es) (drop c es)

    by : ((n : Tree) × (made_for (rows (take c es)) t ≡ Some n)) ⊎ (made_for (rows (take c es)) t ≡ None) → IsWithin c m
    by (inr unmade) = absurd (no_recipe has (take c es) t known unmade recipe)
    by (inl (n, is)) =
        let later : made_for (rows es) t ≡ Some n = ap (λ rs. made_for rs t) whole ∙ made_later (rows (take c es)) (terms_of (drop c es)) t n is in
        let same : n ≡ m = (let both : Some n ≡ Some m = sym later ∙ made in cc) in
        subst (IsWithin c) same (subst (λ l. IsWithin l n) long (made_within (rows (take c es)) t n is))

  -- and what names them alone has one
  pub within_has : AreFormed has (trees_of (entries.labels_of (take c es))) → IsFormed has t → IsWithin c m → HasRecipe has (entries.labels_of (take c es)) t
  within_has labels formed within =
      let short : c ≤ length (terms_of es) = omega (arith, h, length-map es (λ (e : Entry). tree_of e.term)) in
      let front : made_for (rows (take c es)) t ≡ Some m = ap (λ us. made_for (rows_of us) t) front_terms ∙ made_front (terms_of es) c short t m made within in
      (made_recipe (recipes (take c es)) m, some_recipe has (take c es) t m known labels formed front)

-- ---- what is held after some events

none_known : IsKnown []
none_known = record {
  follow = tt;
  formed = tt;
  closed = λ o ts among can keys. absurd among;
  opened = λ i o us ms at can some made. cc;
  firsts = [];
  parted = λ k e o j ks i at is. cc;
  small = λ k e o j ks i us at is own. cc;
  few = omega arith;
  bounded = omega arith;
}

-- at the beginning nothing is
pub nothing_held : (plan : List PlanEvent) → IsHeld plan 0 [] []
nothing_held plan = record {
  counts = 0 ∷ [];
  long = refl;
  last = refl;
  stage = first;
  rises = rising;
  each = λ k origin at. cc;
  all = refl;
} where
  first : (m c : ℕ) → slice_get (0 ∷ []) m ≡ Some c → IsStage plan [] m c
  first zero c at = let is : 0 ≡ c = cc in subst (IsStage plan [] 0) is (record { within = omega arith; known = none_known; labels = refl })
  first (suc m) c at = cc

  rising : (m n c d : ℕ) → m ≤ n → slice_get (0 ∷ []) m ≡ Some c → slice_get (0 ∷ []) n ≡ Some d → c ≤ d
  rising m zero c d le one two = let zeros : m ≡ 0 = omega arith in let a : slice_get (0 ∷ []) 0 ≡ Some c = subst (λ k. slice_get (0 ∷ []) k ≡ Some c) zeros one in let b : 0 ≡ c = cc in omega (arith, b)
  rising m (suc n) c d le one two = cc

-- the labels of what is held are those of the events
pub held_labels : (plan : List PlanEvent) (i : ℕ) (es : List Entry) (from : List Origin) → IsHeld plan i es from → entries.labels_of es ≡ labels_of (take i plan)
held_labels plan i es from held =
    ap entries.labels_of (sym (take_all (length es) es (omega arith))) ∙ (held.stage i (length es) held.last).labels

pub held_all : (plan : List PlanEvent) (i : ℕ) (es : List Entry) (from : List Origin) → length plan ≤ i → IsHeld plan i es from → entries.labels_of es ≡ labels_of plan
held_all plan i es from past held = held_labels plan i es from held ∙ ap labels_of (take_all i plan past)

replicated : {A : Type 0} (k : ℕ) (a b : A) (j : ℕ) → slice_get (replicate k a) j ≡ Some b → (a ≡ b) × (j < k)
replicated zero a b j at = cc
replicated (suc k) a b zero at = (cc, omega arith)
replicated (suc k) a b (suc j) at = let r = replicated k a b j at in (r.0, omega (arith, r.1))

length-replicated : {A : Type 0} (k : ℕ) (a : A) → length (replicate k a) ≡ k
length-replicated zero a = refl
length-replicated (suc k) a = ap suc (length-replicated k a)

nothing_behind : (ts : List Tree) → ts ++ [] ≡ ts
nothing_behind ts = append-nil ts

-- one event more
module _ (plan : List PlanEvent) (i : ℕ) (e : PlanEvent) (es : List Entry) (from : List Origin) (later : List Entry) (origin : Origin)
    (held : IsHeld plan i es from) (at : slice_get plan i ≡ Some e) (known : IsKnown (es ++ later)) (labels : entries.labels_of (es ++ later) ≡ entries.labels_of es ++ label_of e)
    (brings : (length later ≡ 0) ⊎ IsFrom e origin) where
  abbrev all_counts : List ℕ
  all_counts = held.counts ++ length (es ++ later) ∷ []

  plan_more : labels_of (take (i + 1) plan) ≡ labels_of (take i plan) ++ label_of e
  plan_more =
      let n : i + 1 ≡ suc i = omega arith in
      ap (λ k. labels_of (take k plan)) n ∙ ap labels_of (next plan i at) ∙ labels_append (take i plan) (e ∷ []) ∙ ap (λ l. labels_of (take i plan) ++ l) (nothing_behind (label_of e)) where
        next : (xs : List PlanEvent) (k : ℕ) → slice_get xs k ≡ Some e → take (suc k) xs ≡ take k xs ++ e ∷ []
        next [] k is = cc
        next (x ∷ xs) zero is = let same : x ≡ e = cc in ap (λ y. y ∷ []) same
        next (x ∷ xs) (suc k) is = ap (λ l. x ∷ l) (next xs k is)

  stages : (m c : ℕ) → slice_get all_counts m ≡ Some c → IsStage plan (es ++ later) m c
  stages m c is = elim (slice_get-last held.counts (length (es ++ later)) c m is) [
    | inl old ↦
        let s = held.stage m c old in
        let front : take c (es ++ later) ≡ take c es =
        sym (take-take (es ++ later) c (length es) s.within) ∙ ap (take c) (take-append_seam es later) in
        record {
          within = omega (arith, s.within, length-append es later);
          known = subst IsKnown (sym front) s.known;
          labels = ap entries.labels_of front ∙ s.labels;
        }
    | inr (m_is, c_is) ↦
        let all : take c (es ++ later) ≡ es ++ later = take_all c (es ++ later) (omega (arith, c_is)) in
        let n : m ≡ i + 1 = m_is ∙ held.long in
        record {
          within = omega (arith, c_is);
          known = subst IsKnown (sym all) known;
          labels = ap entries.labels_of all ∙ labels ∙ ap (λ l. l ++ label_of e) (held_labels plan i es from held) ∙ sym plan_more ∙ ap (λ k. labels_of (take k plan)) (sym n);
        }
  ]

  rising : (m n c d : ℕ) → m ≤ n → slice_get all_counts m ≡ Some c → slice_get all_counts n ≡ Some d → c ≤ d
  rising m n c d le one two = elim (slice_get-last held.counts (length (es ++ later)) d n two) [
    | inl there ↦
        let before : slice_get held.counts m ≡ Some c = sym (get_front held.counts (length (es ++ later) ∷ []) m (omega (arith, le, got_within held.counts n d there))) ∙ one in
        held.rises m n c d le before there
    | inr (n_is, d_is) ↦ elim (slice_get-last held.counts (length (es ++ later)) c m one) [
      | inl there ↦ let s = held.stage m c there in omega (arith, s.within, d_is, length-append es later)
      | inr (m_is, c_is) ↦ omega (arith, c_is, d_is)
    ]
  ]

  came : (k : ℕ) (o : Origin) → slice_get (from ++ replicate (length later) origin) k ≡ Some o → CameFrom plan all_counts k o
  came k o is = elim (get_either from (replicate (length later) origin) k o is) [
    | inl old ↦
        let c = held.each k o old in
        record {
          n = c.n;
          event = c.event;
          before = c.before;
          after = c.after;
          is_event = c.is_event;
          is_from = c.is_from;
          is_before = slice_get-append held.counts (length (es ++ later) ∷ []) c.n c.before c.is_before;
          is_after = slice_get-append held.counts (length (es ++ later) ∷ []) (c.n + 1) c.after c.is_after;
          above = c.above;
          below = c.below;
        }
    | inr (j, k_is, new) ↦
        let r = replicated (length later) origin o j new in
        record {
          n = i;
          event = e;
          before = length es;
          after = length (es ++ later);
          is_event = at;
          is_from = subst (IsFrom e) r.0 (elim brings [ inl nothing ↦ absurd (omega (arith, nothing, r.1)) | inr h ↦ h ]);
          is_before = slice_get-append held.counts (length (es ++ later) ∷ []) i (length es) held.last;
          is_after = ap (slice_get all_counts) (sym held.long) ∙ get_last held.counts (length (es ++ later));
          above = omega (arith, k_is, held.all);
          below = omega (arith, k_is, held.all, r.1, length-append es later);
        }
  ]

  pub held_next : IsHeld plan (i + 1) (es ++ later) (from ++ replicate (length later) origin)
  held_next = record {
    counts = all_counts;
    long = omega (arith, length-append held.counts (length (es ++ later) ∷ []), held.long);
    last = ap (slice_get all_counts) (sym held.long) ∙ get_last held.counts (length (es ++ later));
    stage = stages;
    rises = rising;
    each = came;
    all = omega (arith, length-append from (replicate (length later) origin), length-append es later, held.all, length-replicated (length later) origin);
  }

-- ---- where a term is from

module _ (p : ProtocolValue) (plan : List PlanEvent) (i : ℕ) (es : List Entry) (from : List Origin) (held : IsHeld plan i es from)
    (labels : AreFormed (has_operator p.formats) (trees_of (entries.labels_of es))) (t m : Tree) (formed : IsFormed (has_operator p.formats) t) (made : made_for (rows es) t ≡ Some m) where
  stage_within : (n c : ℕ) → slice_get held.counts n ≡ Some c → HasBy p plan n t → IsWithin c m
  stage_within n c at has =
      let s = held.stage n c at in
      has_within (has_operator p.formats) es c s.within s.known t m made (subst (λ l. HasRecipe (has_operator p.formats) l t) (sym s.labels) has)

  stage_has : (n c : ℕ) → slice_get held.counts n ≡ Some c → IsWithin c m → HasBy p plan n t
  stage_has n c at within =
      let s = held.stage n c at in
      let parted : entries.labels_of es ≡ entries.labels_of (take c es) ++ entries.labels_of (drop c es) =
      ap entries.labels_of (sym (take-append-drop c es)) ∙ growing.labels_append (take c es) (drop c es) in
      let front = formed_front (has_operator p.formats) (entries.labels_of (take c es)) (entries.labels_of (drop c es)) (subst (λ l. AreFormed (has_operator p.formats) (trees_of l)) parted labels) in
      subst (λ l. HasRecipe (has_operator p.formats) l t) s.labels (within_has (has_operator p.formats) es c s.within s.known t m made front formed within)

  -- that needs nothing
  pub from_nothing : (n : ℕ) → ((c : ℕ) → (n ≤ c) ↔ IsWithin c m) → n ≡ 0 → ComesFrom p plan t Known
  from_nothing n needs nothing =
      let c = slice_get-there held.counts 0 (omega (arith, held.long)) in
      inl (stage_has 0 c.0 c.1 ((needs c.0).0 (omega (arith, none))), refl)

  -- that needs the entry k as the last
  pub from_entry : (n k : ℕ) (origin : Origin) → ((c : ℕ) → (n ≤ c) ↔ IsWithin c m) → n ≡ k + 1 → slice_get from k ≡ Some origin → ComesFrom p plan t origin
  from_entry n k origin needs is at =
      let c = held.each k origin at in
      inr (
        c.n,
        c.event,
        record {
          event = c.is_event;
          has = stage_has (c.n + 1) c.after c.is_after ((needs c.after).0 (omega (arith, is, c.below)));
          new = earlier c;
        },
        c.is_from,
      ) where
        earlier : (c : CameFrom plan held.counts k origin) (l : ℕ) → l ≤ c.n → HasBy p plan l t → ⊥
        earlier c l le has =
            let there = slice_get-there held.counts l (omega (arith, le, got_within held.counts c.n c.before c.is_before)) in
            let less = held.rises l c.n there.0 c.before le there.1 c.is_before in
            let count = (needs there.0).1 (stage_within l there.0 there.1 has) in
            absurd (omega (arith, is, count, less, c.above))

-- ---- a term is from one place

from_one : (e : PlanEvent) (one other : Origin) → IsFrom e one → IsFrom e other → one ≡ other
from_one (to_know t) one other is js = is ∙ sym js
from_one (to_make t) one other is js = is ∙ sym js
from_one (to_send action t) one other never js = absurd never
from_one (to_receive action t) one other is js = is ∙ sym js

event_one : (plan : List PlanEvent) (n m : ℕ) (d e : PlanEvent) → n ≡ m → slice_get plan n ≡ Some d → slice_get plan m ≡ Some e → d ≡ e
event_one plan n m d e same is js = let both : Some d ≡ Some e = sym is ∙ ap (slice_get plan) same ∙ js in cc

pub origin_one : (p : ProtocolValue) (plan : List PlanEvent) (t : Tree) (one other : Origin) → ComesFrom p plan t one → ComesFrom p plan t other → one ≡ other
origin_one p plan t one other (inl (has, is)) (inl (also, js)) = is ∙ sym js
origin_one p plan t one other (inl (has, is)) (inr (n, e, origin, from)) = absurd (origin.new 0 (omega arith) has)
origin_one p plan t one other (inr (n, e, origin, from)) (inl (has, is)) = absurd (origin.new 0 (omega arith) has)
origin_one p plan t one other (inr (n, d, a, is)) (inr (m, e, b, js)) = elim (cases_order n m) [
  | inl same ↦ from_one e one other (subst (λ (x : PlanEvent). IsFrom x one) (event_one plan n m d e same a.event b.event) is) js
  | inr apart ↦ elim apart [
    | inl less ↦ absurd (b.new (n + 1) (omega (arith, less)) a.has)
    | inr later ↦ absurd (a.new (m + 1) (omega (arith, later)) b.has)
  ]
]

pub listed_one : (p : ProtocolValue) (S : List Tree) (plan before : List PlanEvent) (t : Tree) (one other : Origin) → IsListedFrom p S plan before t one → IsListedFrom p S plan before t other → one ≡ other
listed_one p S plan before t one other (inl (out, is)) (inl (out', js)) = origin_one p plan t one other is js
listed_one p S plan before t one other (inl (out, is)) (inr (built, js)) = absurd (let never : true ≡ false = sym out ∙ built in cc)
listed_one p S plan before t one other (inr (built, is)) (inl (out, js)) = absurd (let never : true ≡ false = sym out ∙ built in cc)
listed_one p S plan before t one other (inr (built, is)) (inr (built', js)) = is ∙ sym js

-- where a term comes out it keeps its origin, and else it is built
pub listed_each : (p : ProtocolValue) (S : List Tree) (plan before : List PlanEvent) (ts : List Tree) (came : List Origin) → AllZip (ComesFrom p plan) ts came
    → AllZip (IsListedFrom p S plan before) ts (unless_built (map (is_out S before) ts) came)
listed_each p S plan before [] [] all = tt
listed_each p S plan before [] (o ∷ came) all = absurd all
listed_each p S plan before (t ∷ ts) [] all = absurd all
listed_each p S plan before (t ∷ ts) (o ∷ came) all = (by (is_out S before t) refl, listed_each p S plan before ts came all.1) where
  by : (b : Bool) → is_out S before t ≡ b → IsListedFrom p S plan before t (cond b o Built)
  by true is = inl (is, all.0)
  by false is = inr (is, refl)

-- what can be had by fewer events can be had by more
pub has_later : (p : ProtocolValue) (before after : List PlanEvent) (t : Tree) → HasRecipe (has_operator p.formats) (labels_of before) t → HasRecipe (has_operator p.formats) (labels_of (before ++ after)) t
has_later p before after t (r, is) =
    subst (λ l. HasRecipe (has_operator p.formats) l t) (sym (labels_append before after)) (r, value_more (terms_over (has_operator p.formats)) (labels_of before) (labels_of after) r t is)

-- ---- the labels of a plan's events

-- an event's label among them
pub label_at : (P : Tree → Type 0) (events : List Event) (i : ℕ) (x : Event) → i < length events → x ≡ get_or events i x → AllByRecursion P (labels_of (map plan_event events)) → AllByRecursion P (label_of (plan_event x))
label_at P events i x h own all =
    let before = map plan_event (take i events) in
    let after = map plan_event (drop (i + 1) events) in
    let parted : labels_of (map plan_event events) ≡ labels_of before ++ (label_of (plan_event x) ++ labels_of after) =
    ap labels_of (events_parted plan_event events i x h own) ∙ labels_append before (plan_event x ∷ after) in
    let back = (each_in_parts P (labels_of before) (label_of (plan_event x) ++ labels_of after) (subst (AllByRecursion P) parted all)).1 in
    (each_in_parts P (label_of (plan_event x)) (labels_of after) back).0

-- they are few with those before
pub few_at : (events : List Event) (i : ℕ) (x : Event) (frame : List Tree) → i < length events → x ≡ get_or events i x → frame ≡ labels_of (take i (map plan_event events))
    → nodes (labels_of (map plan_event events)) < 4294967295 → nodes frame + nodes (label_of (plan_event x)) < 4294967295
few_at events i x frame h own is few =
    let before = map plan_event (take i events) in
    let after = map plan_event (drop (i + 1) events) in
    let parted : labels_of (map plan_event events) ≡ labels_of before ++ (label_of (plan_event x) ++ labels_of after) =
    ap labels_of (events_parted plan_event events i x h own) ∙ labels_append before (plan_event x ∷ after) in
    let front : frame ≡ labels_of before = is ∙ ap labels_of (take-map plan_event i events) in
    let all = ap nodes parted ∙ nodes_append (labels_of before) (label_of (plan_event x) ++ labels_of after) in
    let rest = nodes_append (label_of (plan_event x)) (labels_of after) in
    omega (arith, ap nodes front, all, rest, few)

-- ---- what all of some compositions need

-- one more
pub within_more : (count : ℕ) (ms : List Tree) (m : Tree) → AreWithin count (trees_of ms) → IsWithin count m → AreWithin count (trees_of (ms ++ m ∷ []))
within_more count [] m all one = (one, tt)
within_more count (x ∷ ms) m all one = (all.0, within_more count ms m all.1 one)

pub within_less : (count : ℕ) (ms : List Tree) (m : Tree) → AreWithin count (trees_of (ms ++ m ∷ [])) → AreWithin count (trees_of ms) × IsWithin count m
within_less count [] m all = (tt, all.0)
within_less count (x ∷ ms) m all = let rest = within_less count ms m all.1 in ((all.0, rest.0), rest.1)

pub needed_next : (ms later : List Tree) (m : Tree) (most own next : ℕ) → later ≡ ms ++ m ∷ [] → ((count : ℕ) → (most ≤ count) ↔ AreWithin count (trees_of ms)) → ((count : ℕ) → (own ≤ count) ↔ IsWithin count m)
    → most ≤ next → own ≤ next → ((next ≡ most) ⊎ (next ≡ own)) → (count : ℕ) → (next ≤ count) ↔ AreWithin count (trees_of later)
needed_next ms later m most own next is all one above below either count = (
  λ h. subst (λ l. AreWithin count (trees_of l)) (sym is) (within_more count ms m ((all count).0 (omega (arith, h, above))) ((one count).0 (omega (arith, h, below)))),
  λ h.
      let parts = within_less count ms m (subst (λ l. AreWithin count (trees_of l)) is h) in
      let a = (all count).1 parts.0 in
      let b = (one count).1 parts.1 in
      ⊎_elim (λ e. omega (arith, e, a)) (λ e. omega (arith, e, b)) either,
)

-- ---- the labels of a role's plan are formed and few

pub plan_formed : (p : ProtocolValue) (role : ℕ) → HoldsOf p → AllByRecursion (IsFormed (λ o. true)) (labels_of (plan_of p role))
plan_formed p role holds =
    let has = has_operator p.formats in
    each_by (IsFormed has) (IsFormed (λ o. true)) (λ t f. formed_any has t f) (labels_of (plan_of p role))
    (labels_have (IsFormed has) (plan_of p role) [] (subst (AllByRecursion (λ e. IsFormed has (term_in e))) (sym (append-nil (plan_of p role))) (plan_is p role holds).formed))

pub plan_few : (p : ProtocolValue) (role : ℕ) → HoldsOf p → nodes (labels_of (plan_of p role)) < 4294967295
plan_few p role holds = omega (arith, (plan_is p role holds).few)

pub plan_has : (p : ProtocolValue) (role : ℕ) → HoldsOf p → AreFormed (has_operator p.formats) (trees_of (labels_of (plan_of p role)))
plan_has p role holds =
    let has = has_operator p.formats in
    formed_labels has (plan_of p role) [] (subst (AllByRecursion (λ e. IsFormed has (term_in e))) (sym (append-nil (plan_of p role))) (plan_is p role holds).formed)
