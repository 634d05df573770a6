-- One role among honest ones: its play and its run.
use Rattle.std.proofs.Common.{◌≡◌, ℕ, zero, suc, ◌+◌, List, [], ◌∷◌, ◌++◌, length, map, take, Bool, true, false, cond, Some, None, refl, ap, ◌∙◌, arith, IsTrue}
use Rattle.std.specs.Prelude.{slice_get, unwrap_or, option_and_then, ◌==◌, ◌||◌}
use Rattle.std.specs.List.{AllByRecursion, list_any, position_from}
use Rattle.std.specs.Option.{option_or}
use Rattle.std.proofs.lemmas.Bool.{eqb-true, eq-eqb}
use Rattle.anb_compile.proofs.Protocols.{all_known}
use Rattle.anb_base.specs.Bytes.{is_bytes-IsBytes}
use Rattle.anb_term.specs.declared.term.Op.{Op}
use Rattle.anb_term.specs.Tree.{Tree, leaf, node, Trees, none, more, trees_of, IsFormed, AreFormed}
use Rattle.anb_term.specs.Value.{Meaning}
use Rattle.anb_lemmas.proofs.Each.{each_in_both, each_in_parts}
use Rattle.anb_lemmas.proofs.Bools.{or_true}
use Rattle.anb_plays.specs.Plans.{Event, know, fresh, send, recv}
use Rattle.anb_plays.specs.Plays.{End, stopped, waiting, done}
use Rattle.anb_plays.specs.Honest.{honest, honest_all, honest_from, heard, LabelsAreFormed}
use Rattle.anb_plays.specs.Runs.{no_place}
use Rattle.anb_protocol.specs.Choices.{each_after, first}
use Rattle.anb_protocol.specs.Protocols.{ActionValue, ProtocolValue}
use Rattle.anb_protocol.specs.Texts.{atoms_in, atoms_in_all, atoms_in_each, known_by, known_terms}
use Rattle.anb_protocol.specs.Plans.{PlanEvent, to_know, to_make, to_send, to_receive, events_at, plan_of, messages}
use Rattle.anb_protocol.specs.Plans as plans
use Rattle.anb_protocol.specs.Plays.{event_of, events_of, honest_bytes, meaning_of}
use Rattle.anb_honest.specs.Joint.{Cast, known_atoms, given, given_bytes, halt_behind, long_end}
use Rattle.anb_honest.specs.Honest.{AreHonest}
use Rattle.anb_honest.proofs.Placing.{any_distinct}

-- ---- it never stops

pub never_stops : {A : Type 0} (m : Meaning A) (atoms : ℕ → A) (es : List Event) (e n : ℕ) (l : List (List ℕ)) (end : End) → no_place end ≡ (honest_from m atoms es e n).end → halt_behind l end ≡ None
never_stops m atoms es e n l (waiting x) h = by l where
  by : (l : List (List ℕ)) → halt_behind l (waiting x) ≡ None
  by [] = refl
  by (b ∷ bs) = refl
never_stops m atoms es e n l done h = by l where
  by : (l : List (List ℕ)) → halt_behind l done ≡ None
  by [] = refl
  by (b ∷ bs) = refl
never_stops m atoms es e n l (stopped x at) h = absurd (not_stopped es e n h) where
  not_stopped : (es : List Event) (e n : ℕ) → stopped x 0 ≡ (honest_from m atoms es e n).end → ⊥
  not_stopped [] e n h = cc
  not_stopped (know t ∷ es) e n h = not_stopped es e n h
  not_stopped (fresh t ∷ es) e n h = not_stopped es e n h
  not_stopped (send t ∷ es) e n h = not_stopped es (e + 1) n h
  not_stopped (recv t ∷ es) e zero h = cc
  not_stopped (recv t ∷ es) e (suc n) h = not_stopped es (e + 1) n h

-- ---- the given values are those of the atoms

module _ {A : Type 0} (m : Meaning A) (f g : ℕ → A) where
  mutual
    pub honest_same : (t : Tree) → AllByRecursion (λ a. f a ≡ g a) (atoms_in t) → honest m f t ≡ honest m g t
    honest_same (leaf a) all = all.0
    honest_same (node o ts) all = ap (m.built o) (honest_all_same ts all)

    honest_all_same : (ts : Trees) → AllByRecursion (λ a. f a ≡ g a) (atoms_in_all ts) → honest_all m f ts ≡ honest_all m g ts
    honest_all_same none all = refl
    honest_all_same (more t ts) all =
        let parts = each_in_parts (λ a. f a ≡ g a) (atoms_in t) (atoms_in_all ts) all in
        ap (λ x. x ∷ honest_all m f ts) (honest_same t parts.0) ∙ ap (λ l. honest m g t ∷ l) (honest_all_same ts parts.1)

all_members : (P : ℕ → Type 0) (xs : List ℕ) → ((a : ℕ) → list_any (λ y. y == a) xs ≡ true → P a) → AllByRecursion P xs
all_members P [] each = tt
all_members P (x ∷ xs) each = (
  each x (ap (λ b. b || list_any (λ y. y == x) xs) (eq-eqb x x refl)),
  all_members P xs (λ a h. each a (ap (λ b. (x == a) || b) h ∙ or_true (x == a))),
)

place_there : (a i : ℕ) (xs : List ℕ) → list_any (λ y. y == a) xs ≡ true → (k : ℕ) × (position_from (λ b. b == a) i xs ≡ Some (i + k)) × (slice_get xs k ≡ Some a)
place_there a i [] h = cc
place_there a i (x ∷ xs) h = by (x == a) refl h (place_there a (i + 1) xs) where
  by : (b : Bool) → (x == a) ≡ b → (b || list_any (λ y. y == a) xs) ≡ true
      → (list_any (λ y. y == a) xs ≡ true → (k : ℕ) × (position_from (λ y. y == a) (i + 1) xs ≡ Some (i + 1 + k)) × (slice_get xs k ≡ Some a))
      → (k : ℕ) × (cond b (Some i) (position_from (λ y. y == a) (i + 1) xs) ≡ Some (i + k)) × (slice_get (x ∷ xs) k ≡ Some a)
  by true e g ih = (0, (let n : i ≡ i + 0 = omega arith in ap Some n), ap Some (eqb-true x a e))
  by false e g ih =
      let there = ih g in
      let n : i + 1 + there.0 ≡ i + suc there.0 = omega arith in
      (suc there.0, there.1 ∙ ap Some n, there.2)

module _ (c : Cast) (atoms : ℕ → List ℕ) (are : AreHonest c atoms) where
  given_is : (a : ℕ) → list_any (λ y. y == a) (atoms_in_each (known_terms c.protocol)) ≡ true → given c a ≡ atoms a
  given_is a h =
      let place = place_there a 0 (known_atoms c.protocol) (any_distinct a (atoms_in_each (known_terms c.protocol)) ∙ h) in
      let n : 0 + place.0 ≡ place.0 = omega arith in
      ap (λ o. unwrap_or (option_and_then (slice_get c.values) o) []) (place.1 ∙ ap Some n) ∙ ap (λ o. unwrap_or o []) (are.known place.0 a place.2)

  terms_given : (ts : List Tree) → AllByRecursion (λ a. given c a ≡ atoms a) (atoms_in_each ts) → AllByRecursion (λ t. given_bytes c t ≡ honest_bytes c.protocol atoms t) ts
  terms_given [] all = tt
  terms_given (t ∷ ts) all =
      let parts = each_in_parts (λ a. given c a ≡ atoms a) (atoms_in t) (atoms_in_each ts) all in
      (honest_same (meaning_of c.protocol) (given c) atoms t parts.0, terms_given ts parts.1)

  pub known_given : AllByRecursion (λ t. given_bytes c t ≡ honest_bytes c.protocol atoms t) (known_terms c.protocol)
  known_given = terms_given (known_terms c.protocol) (all_members (λ a. given c a ≡ atoms a) (atoms_in_each (known_terms c.protocol)) given_is)

  same_map : (ts : List Tree) → AllByRecursion (λ t. given_bytes c t ≡ honest_bytes c.protocol atoms t) ts → map (given_bytes c) ts ≡ map (honest_bytes c.protocol atoms) ts
  same_map [] all = refl
  same_map (t ∷ ts) all = ap (λ x. x ∷ map (given_bytes c) ts) all.0 ∙ ap (λ l. honest_bytes c.protocol atoms t ∷ l) (same_map ts all.1)

  pub initial_honest : (role : ℕ) → map (given_bytes c) (known_by c.protocol role) ≡ map (honest_bytes c.protocol atoms) (known_by c.protocol role)
  initial_honest role = same_map (known_by c.protocol role) (all_known (λ t. given_bytes c t ≡ honest_bytes c.protocol atoms t) c.protocol.knows role known_given)

  same_first : (ts : List Tree) → AllByRecursion (λ t. given_bytes c t ≡ honest_bytes c.protocol atoms t) ts
      → first (λ t. long_end 0 (given_bytes c t)) ts ≡ first (λ t. long_end 0 (honest_bytes c.protocol atoms t)) ts
  same_first [] all = refl
  same_first (t ∷ ts) all =
      ap (λ b. option_or (long_end 0 b) (first (λ u. long_end 0 (given_bytes c u)) ts)) all.0
      ∙ ap (option_or (long_end 0 (honest_bytes c.protocol atoms t))) (same_first ts all.1)

  pub first_honest : first (λ t. long_end 0 (given_bytes c t)) (known_terms c.protocol) ≡ first (λ t. long_end 0 (honest_bytes c.protocol atoms t)) (known_terms c.protocol)
  first_honest = same_first (known_terms c.protocol) known_given

-- ---- the labels of plans are formed

abbrev pub EventIsFormed : (Op → Bool) → PlanEvent → Type 0
EventIsFormed has (to_know t) = IsFormed has t
EventIsFormed has (to_make t) = IsFormed has t
EventIsFormed has (to_send i t) = Unit {0}
EventIsFormed has (to_receive i t) = IsFormed has t

module _ (has : Op → Bool) where
  knows_formed : (ts : List Tree) → AllByRecursion (IsFormed has) ts → AllByRecursion (EventIsFormed has) (map to_know ts)
  knows_formed [] all = tt
  knows_formed (t ∷ ts) all = (all.0, knows_formed ts all.1)

  makes_formed : (names : List ℕ) → AllByRecursion (EventIsFormed has) (map (λ x. to_make (leaf x)) names)
  makes_formed [] = tt
  makes_formed (x ∷ names) = (tt, makes_formed names)

  one_formed : (n : ℕ) (names : List ℕ) (t : Tree) (b d : Bool) → IsFormed has t
      → AllByRecursion (EventIsFormed has) (cond b (map (λ x. to_make (leaf x)) names ++ to_send n t ∷ []) (cond d (to_receive n t ∷ []) []))
  one_formed n names t true d f = each_in_both (EventIsFormed has) (map (λ x. to_make (leaf x)) names) (to_send n t ∷ []) (makes_formed names) (tt, tt)
  one_formed n names t false true f = (f, tt)
  one_formed n names t false false f = tt

  each_formed : (p : ProtocolValue) (role : ℕ) (before acts : List ActionValue) → AllByRecursion (IsFormed has) (messages acts) → AllByRecursion (EventIsFormed has) (each_after (events_at p role) before acts)
  each_formed p role before [] all = tt
  each_formed p role before (a ∷ acts) all =
      each_in_both (EventIsFormed has) (events_at p role before a) (each_after (events_at p role) (before ++ a ∷ []) acts)
      (one_formed (length before + 1) (plans.made p before a.message) a.message (a.from == role) (a.to == role) all.0) (each_formed p role (before ++ a ∷ []) acts all.1)

  labels_formed : (plan : List PlanEvent) → AllByRecursion (EventIsFormed has) plan → LabelsAreFormed has (map event_of plan)
  labels_formed [] all = tt
  labels_formed (to_know t ∷ plan) all = (all.0, labels_formed plan all.1)
  labels_formed (to_make t ∷ plan) all = (all.0, labels_formed plan all.1)
  labels_formed (to_send i t ∷ plan) all = labels_formed plan all.1
  labels_formed (to_receive i t ∷ plan) all = (all.0, labels_formed plan all.1)

  heard_formed : (plan : List PlanEvent) (n : ℕ) → AllByRecursion (EventIsFormed has) plan → AllByRecursion (IsFormed has) (take n (heard (map event_of plan)))
  heard_formed [] zero all = tt
  heard_formed [] (suc n) all = tt
  heard_formed (to_know t ∷ plan) n all = heard_formed plan n all.1
  heard_formed (to_make t ∷ plan) n all = heard_formed plan n all.1
  heard_formed (to_send i t ∷ plan) n all = heard_formed plan n all.1
  heard_formed (to_receive i t ∷ plan) zero all = tt
  heard_formed (to_receive i t ∷ plan) (suc n) all = (all.0, heard_formed plan n all.1)

  pub formed_list : (ts : List Tree) → AllByRecursion (IsFormed has) ts → AreFormed has (trees_of ts)
  formed_list [] all = tt
  formed_list (t ∷ ts) all = (all.0, formed_list ts all.1)

  pub plan_formed : (p : ProtocolValue) (role : ℕ) → AllByRecursion (IsFormed has) (known_terms p ++ messages p.actions) → AllByRecursion (EventIsFormed has) (plan_of p role)
  unfolding plan_of
  plan_formed p role all =
      let parts = each_in_parts (IsFormed has) (known_terms p) (messages p.actions) all in
      each_in_both (EventIsFormed has) (map to_know (known_by p role)) (each_after (events_at p role) [] p.actions)
      (knows_formed (known_by p role) (all_known (IsFormed has) p.knows role parts.0)) (each_formed p role [] p.actions parts.1)

  pub events_formed : (p : ProtocolValue) (role : ℕ) → AllByRecursion (IsFormed has) (known_terms p ++ messages p.actions) → LabelsAreFormed has (events_of p role)
  events_formed p role all = labels_formed (plan_of p role) (plan_formed p role all)

  pub heard_all_formed : (p : ProtocolValue) (role n : ℕ) → AllByRecursion (IsFormed has) (known_terms p ++ messages p.actions) → AreFormed has (trees_of (take n (heard (events_of p role))))
  heard_all_formed p role n all = formed_list (take n (heard (events_of p role))) (heard_formed (plan_of p role) n (plan_formed p role all))

  pub known_formed : (p : ProtocolValue) (role : ℕ) → AllByRecursion (IsFormed has) (known_terms p ++ messages p.actions) → AreFormed has (trees_of (known_by p role))
  known_formed p role all =
      let parts = each_in_parts (IsFormed has) (known_terms p) (messages p.actions) all in formed_list (known_by p role) (all_known (IsFormed has) p.knows role parts.0)

pub atoms_good : (c : Cast) (atoms : ℕ → List ℕ) → AreHonest c atoms → (k : ℕ) → IsTrue ((meaning_of c.protocol).is_value (atoms k))
atoms_good c atoms are k = is_bytes-IsBytes (atoms k) (are.strings k)
