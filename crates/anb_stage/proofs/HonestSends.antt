-- What a role hears and sends in the first actions of a protocol.
use Rattle.std.proofs.Common.{◌≡◌, ℕ, zero, suc, ◌+◌, ◌==◌, List, [], ◌∷◌, ◌++◌, length, map, Bool, true, false, cond, Some, refl, sym, ap, ◌∙◌, subst, arith, inl, inr, append_assoc}
use Rattle.std.specs.Prelude.{slice_get, filter, flat_map}
use Rattle.std.specs.Option.{option_map_or}
use Rattle.std.specs.List.{AllByRecursion}
use Rattle.std.proofs.lemmas.Bool.{cases_Bool, eqb-true}
use Rattle.std.proofs.lemmas.List.{map-append}
use Rattle.anb_term.specs.declared.term.Op.{Op}
use Rattle.anb_term.specs.Tree.{Tree, leaf, IsFormed}
use Rattle.anb_lemmas.proofs.Each.{each_in_parts}
use Rattle.anb_term.specs.Value.{Meaning}
use Rattle.anb_plays.specs.Plans.{Event, know, fresh, send, recv, known}
use Rattle.anb_plays.specs.Plays.{Played, stopped, done}
use Rattle.anb_plays.specs.Honest.{honest, honest_from, heard, LabelsAreFormed}
use Rattle.anb_protocol.specs.Choices.{each_after}
use Rattle.anb_protocol.specs.Protocols.{ActionValue, ProtocolValue}
use Rattle.anb_protocol.specs.Texts.{known_by, known_terms}
use Rattle.anb_protocol.specs.Plans.{PlanEvent, to_know, to_make, to_send, to_receive, events_at, messages, plan_of}
use Rattle.anb_protocol.specs.Plans as plans
use Rattle.anb_protocol.specs.Plays.{event_of, events_of}
use Rattle.anb_protocol.specs.Laws.{IsActionOf}

abbrev pub tells : ℕ → ActionValue → Bool
tells role a = a.from == role

abbrev pub hears : ℕ → ActionValue → Bool
hears role a = a.to == role

-- how many of these actions a role sends, and hears
abbrev pub count_told : ℕ → List ActionValue → ℕ
count_told role actions = length (filter (tells role) actions)

abbrev pub count_heard : ℕ → List ActionValue → ℕ
count_heard role actions = length (filter (hears role) actions)

told_one : (role : ℕ) (b : ActionValue) (bs : List ActionValue) → (b.from == role) ≡ true → count_told role (b ∷ bs) ≡ suc (count_told role bs)
told_one role b bs e = ap (λ v. length (cond v (b ∷ filter (tells role) bs) (filter (tells role) bs))) e

told_not : (role : ℕ) (b : ActionValue) (bs : List ActionValue) → (b.from == role) ≡ false → count_told role (b ∷ bs) ≡ count_told role bs
told_not role b bs e = ap (λ v. length (cond v (b ∷ filter (tells role) bs) (filter (tells role) bs))) e

heard_one : (role : ℕ) (b : ActionValue) (bs : List ActionValue) → (b.to == role) ≡ true → count_heard role (b ∷ bs) ≡ suc (count_heard role bs)
heard_one role b bs e = ap (λ v. length (cond v (b ∷ filter (hears role) bs) (filter (hears role) bs))) e

heard_not : (role : ℕ) (b : ActionValue) (bs : List ActionValue) → (b.to == role) ≡ false → count_heard role (b ∷ bs) ≡ count_heard role bs
heard_not role b bs e = ap (λ v. length (cond v (b ∷ filter (hears role) bs) (filter (hears role) bs))) e

-- a sender doesn't hear its own message
pub not_both : (p : ProtocolValue) (a : ActionValue) (role : ℕ) → IsActionOf p a → (a.from == role) ≡ true → (a.to == role) ≡ false
not_both p a role is sends = elim (cases_Bool (a.to == role)) [
  | inl hears ↦ absurd (is.apart (eqb-true a.from role sends ∙ sym (eqb-true a.to role hears)))
  | inr other ↦ other
]

module _ {A : Type 0} (m : Meaning A) (atoms : ℕ → A) where
  made_honest : (names : List ℕ) (es : List Event) (e n : ℕ)
      → honest_from m atoms (map event_of (map (λ x. to_make (leaf x)) names) ++ es) e n ≡ honest_from m atoms es e n
  made_honest [] es e n = refl
  made_honest (x ∷ names) es e n = made_honest names es e n

  known_honest : (ts : List Tree) (es : List Event) (e n : ℕ) → honest_from m atoms (map event_of (map to_know ts) ++ es) e n ≡ honest_from m atoms es e n
  known_honest [] es e n = refl
  known_honest (t ∷ ts) es e n = known_honest ts es e n

-- the events of one action, and what follows
module _ (p : ProtocolValue) (role : ℕ) where
  told_events : (past : List ActionValue) (a : ActionValue) (rest : List PlanEvent) → (a.from == role) ≡ true
      → map event_of (events_at p role past a ++ rest)
      ≡ map event_of (map (λ x. to_make (leaf x)) (plans.made p past a.message)) ++ (send a.message ∷ map event_of rest)
  told_events past a rest sends =
      let makes = map (λ x. to_make (leaf x)) (plans.made p past a.message) in
      ap (λ b. map event_of (cond b (makes ++ to_send (length past + 1) a.message ∷ []) (cond (a.to == role) (to_receive (length past + 1) a.message ∷ []) []) ++ rest)) sends
      ∙ ap (map event_of) (append_assoc makes (to_send (length past + 1) a.message ∷ []) rest)
      ∙ map-append event_of makes (to_send (length past + 1) a.message ∷ rest)

  heard_events : (past : List ActionValue) (a : ActionValue) (rest : List PlanEvent) → (a.from == role) ≡ false → (a.to == role) ≡ true
      → map event_of (events_at p role past a ++ rest) ≡ recv a.message ∷ map event_of rest
  heard_events past a rest sends receives = rw (sends, receives) refl

  no_events : (past : List ActionValue) (a : ActionValue) (rest : List PlanEvent) → (a.from == role) ≡ false → (a.to == role) ≡ false
      → map event_of (events_at p role past a ++ rest) ≡ map event_of rest
  no_events past a rest sends receives = rw (sends, receives) refl

  -- ---- what is heard

  made_heard : (names : List ℕ) (es : List Event) → heard (map event_of (map (λ x. to_make (leaf x)) names) ++ es) ≡ heard es
  made_heard [] es = refl
  made_heard (x ∷ names) es = made_heard names es

  known_heard : (ts : List Tree) (es : List Event) → heard (map event_of (map to_know ts) ++ es) ≡ heard es
  known_heard [] es = refl
  known_heard (t ∷ ts) es = known_heard ts es

  heard_in : (past acts : List ActionValue) → AllByRecursion (IsActionOf p) acts
      → heard (map event_of (each_after (events_at p role) past acts)) ≡ map (λ (a : ActionValue). a.message) (filter (hears role) acts)
  heard_in past [] all = refl
  heard_in past (a ∷ acts) all =
      let rest = each_after (events_at p role) (past ++ a ∷ []) acts in
      let ih = heard_in (past ++ a ∷ []) acts all.1 in
      elim (cases_Bool (a.from == role)) [
        | inl sends ↦
            let other = not_both p a role all.0 sends in
            ap heard (told_events past a rest sends) ∙ made_heard (plans.made p past a.message) (send a.message ∷ map event_of rest)
            ∙ ih ∙ rw other refl
        | inr silent ↦ elim (cases_Bool (a.to == role)) [
          | inl receives ↦ ap heard (heard_events past a rest silent receives) ∙ ap (λ l. a.message ∷ l) ih ∙ rw receives refl
          | inr none ↦ ap heard (no_events past a rest silent none) ∙ ih ∙ rw none refl
        ]
      ]

  pub heard_all : AllByRecursion (IsActionOf p) p.actions → heard (events_of p role) ≡ map (λ (a : ActionValue). a.message) (filter (hears role) p.actions)
  unfolding plan_of
  heard_all all =
      ap heard (map-append event_of (map to_know (known_by p role)) (each_after (events_at p role) [] p.actions))
      ∙ known_heard (known_by p role) (map event_of (each_after (events_at p role) [] p.actions)) ∙ heard_in [] p.actions all

  -- ---- what is sent

  module _ {A : Type 0} (m : Meaning A) (atoms : ℕ → A) where
    -- behind the actions before it, a sender has sent its message
    sent_in : (past before after : List ActionValue) (a : ActionValue) (e : ℕ) → AllByRecursion (IsActionOf p) (before ++ a ∷ after) → (a.from == role) ≡ true
        → slice_get (honest_from m atoms (map event_of (each_after (events_at p role) past (before ++ a ∷ after))) e (count_heard role before)).sent (count_told role before)
        ≡ Some (honest m atoms a.message)
    sent_in past [] after a e all sends =
        let rest = each_after (events_at p role) (past ++ a ∷ []) after in
        ap (λ es. slice_get (honest_from m atoms es e 0).sent 0) (told_events past a rest sends)
        ∙ ap (λ (q : Played A). slice_get q.sent 0) (made_honest m atoms (plans.made p past a.message) (send a.message ∷ map event_of rest) e 0)
    sent_in past (b ∷ before) after a e all sends =
        let rest = each_after (events_at p role) (past ++ b ∷ []) (before ++ a ∷ after) in
        let whole = map event_of (events_at p role past b ++ rest) in
        let n = count_heard role before in
        let k = count_told role before in
        elim (cases_Bool (b.from == role)) [
          | inl told ↦
              let other = not_both p b role all.0 told in
              ap (λ x. slice_get (honest_from m atoms whole e x).sent (count_told role (b ∷ before))) (heard_not role b before other)
              ∙ ap (slice_get (honest_from m atoms whole e n).sent) (told_one role b before told)
              ∙ ap (λ es. slice_get (honest_from m atoms es e n).sent (suc k)) (told_events past b rest told)
              ∙ ap (λ (q : Played A). slice_get q.sent (suc k)) (made_honest m atoms (plans.made p past b.message) (send b.message ∷ map event_of rest) e n)
              ∙ sent_in (past ++ b ∷ []) before after a (e + 1) all.1 sends
          | inr silent ↦ elim (cases_Bool (b.to == role)) [
            | inl receives ↦
                ap (λ x. slice_get (honest_from m atoms whole e x).sent (count_told role (b ∷ before))) (heard_one role b before receives)
                ∙ ap (slice_get (honest_from m atoms whole e (suc n)).sent) (told_not role b before silent)
                ∙ ap (λ es. slice_get (honest_from m atoms es e (suc n)).sent k) (heard_events past b rest silent receives)
                ∙ sent_in (past ++ b ∷ []) before after a (e + 1) all.1 sends
            | inr none ↦
                ap (λ x. slice_get (honest_from m atoms whole e x).sent (count_told role (b ∷ before))) (heard_not role b before none)
                ∙ ap (slice_get (honest_from m atoms whole e n).sent) (told_not role b before silent)
                ∙ ap (λ es. slice_get (honest_from m atoms es e n).sent k) (no_events past b rest silent none)
                ∙ sent_in (past ++ b ∷ []) before after a e all.1 sends
          ]
        ]

    pub sent_next : (before after : List ActionValue) (a : ActionValue) → p.actions ≡ before ++ a ∷ after → AllByRecursion (IsActionOf p) p.actions → (a.from == role) ≡ true
        → slice_get (honest_from m atoms (events_of p role) 0 (count_heard role before)).sent (count_told role before) ≡ Some (honest m atoms a.message)
    unfolding plan_of
    sent_next before after a split all sends =
        let events = each_after (events_at p role) [] p.actions in
        ap (λ es. slice_get (honest_from m atoms es 0 (count_heard role before)).sent (count_told role before)) (map-append event_of (map to_know (known_by p role)) events)
        ∙ ap (λ (q : Played A). slice_get q.sent (count_told role before)) (known_honest m atoms (known_by p role) (map event_of events) 0 (count_heard role before))
        ∙ ap (λ l. slice_get (honest_from m atoms (map event_of (each_after (events_at p role) [] l)) 0 (count_heard role before)).sent (count_told role before)) split
        ∙ sent_in [] before after a 0 (subst (AllByRecursion (IsActionOf p)) split all) sends

-- ---- it doesn't stop

module _ {A : Type 0} (m : Meaning A) (atoms : ℕ → A) where
  pub never_stops : (es : List Event) (e n x at : ℕ) → (honest_from m atoms es e n).end ≡ stopped x at → ⊥
  never_stops [] e n x at h = cc
  never_stops (know t ∷ es) e n x at h = never_stops es e n x at h
  never_stops (fresh t ∷ es) e n x at h = never_stops es e n x at h
  never_stops (send t ∷ es) e n x at h = never_stops es (e + 1) n x at h
  never_stops (recv t ∷ es) e zero x at h = cc
  never_stops (recv t ∷ es) e (suc n) x at h = never_stops es (e + 1) n x at h

  pub ends_done : (es : List Event) (e n : ℕ) → n ≡ length (heard es) → (honest_from m atoms es e n).end ≡ done
  ends_done [] e n all = refl
  ends_done (know t ∷ es) e n all = ends_done es e n all
  ends_done (fresh t ∷ es) e n all = ends_done es e n all
  ends_done (send t ∷ es) e n all = ends_done es (e + 1) n all
  ends_done (recv t ∷ es) e zero all = absurd (omega (arith, all))
  ends_done (recv t ∷ es) e (suc n) all = ends_done es (e + 1) n (omega (arith, all))

-- ---- what is known, and labels that are formed

module _ (p : ProtocolValue) (role : ℕ) where
  made_known : (names : List ℕ) (es : List Event) → known (map event_of (map (λ x. to_make (leaf x)) names) ++ es) ≡ known es
  made_known [] es = refl
  made_known (x ∷ names) es = made_known names es

  known_none : (past acts : List ActionValue) → known (map event_of (each_after (events_at p role) past acts)) ≡ []
  known_none past [] = refl
  known_none past (a ∷ acts) =
      let rest = each_after (events_at p role) (past ++ a ∷ []) acts in
      let ih = known_none (past ++ a ∷ []) acts in
      elim (cases_Bool (a.from == role)) [
        | inl sends ↦ ap known (told_events p role past a rest sends) ∙ made_known (plans.made p past a.message) (send a.message ∷ map event_of rest) ∙ ih
        | inr silent ↦ elim (cases_Bool (a.to == role)) [
          | inl receives ↦ ap known (heard_events p role past a rest silent receives) ∙ ih
          | inr none ↦ ap known (no_events p role past a rest silent none) ∙ ih
        ]
      ]

  known_first : (ts : List Tree) (es : List Event) → known (map event_of (map to_know ts) ++ es) ≡ ts ++ known es
  known_first [] es = refl
  known_first (t ∷ ts) es = ap (λ l. t ∷ l) (known_first ts es)

  nothing_more : (ts : List Tree) → ts ++ [] ≡ ts
  nothing_more [] = refl
  nothing_more (t ∷ ts) = ap (λ l. t ∷ l) (nothing_more ts)

  pub knows_all : known (events_of p role) ≡ known_by p role
  unfolding plan_of
  knows_all =
      let events = each_after (events_at p role) [] p.actions in
      ap known (map-append event_of (map to_know (known_by p role)) events) ∙ known_first (known_by p role) (map event_of events)
      ∙ ap (λ l. known_by p role ++ l) (known_none [] p.actions) ∙ nothing_more (known_by p role)

module _ (has : Op → Bool) where
  labels_both : (xs ys : List Event) → LabelsAreFormed has xs → LabelsAreFormed has ys → LabelsAreFormed has (xs ++ ys)
  labels_both [] ys f g = g
  labels_both (know t ∷ xs) ys f g = (f.0, labels_both xs ys f.1 g)
  labels_both (fresh t ∷ xs) ys f g = (f.0, labels_both xs ys f.1 g)
  labels_both (send t ∷ xs) ys f g = labels_both xs ys f g
  labels_both (recv t ∷ xs) ys f g = (f.0, labels_both xs ys f.1 g)

  knows_formed : (ts : List Tree) → AllByRecursion (IsFormed has) ts → LabelsAreFormed has (map event_of (map to_know ts))
  knows_formed [] all = tt
  knows_formed (t ∷ ts) all = (all.0, knows_formed ts all.1)

  makes_formed : (names : List ℕ) → LabelsAreFormed has (map event_of (map (λ x. to_make (leaf x)) names))
  makes_formed [] = tt
  makes_formed (x ∷ names) = (tt, makes_formed names)

  each_formed : (p : ProtocolValue) (role : ℕ) (past acts : List ActionValue) → AllByRecursion (IsFormed has) (messages acts)
      → LabelsAreFormed has (map event_of (each_after (events_at p role) past acts))
  each_formed p role past [] all = tt
  each_formed p role past (a ∷ acts) all =
      let rest = each_after (events_at p role) (past ++ a ∷ []) acts in
      let ih = each_formed p role (past ++ a ∷ []) acts all.1 in
      elim (cases_Bool (a.from == role)) [
        | inl sends ↦ subst (LabelsAreFormed has) (sym (told_events p role past a rest sends))
            (labels_both (map event_of (map (λ x. to_make (leaf x)) (plans.made p past a.message))) (send a.message ∷ map event_of rest) (makes_formed (plans.made p past a.message)) ih)
        | inr silent ↦ elim (cases_Bool (a.to == role)) [
          | inl receives ↦ subst (LabelsAreFormed has) (sym (heard_events p role past a rest silent receives)) (all.0, ih)
          | inr none ↦ subst (LabelsAreFormed has) (sym (no_events p role past a rest silent none)) ih
        ]
      ]

  known_part : (all : List (List Tree)) (role : ℕ) → AllByRecursion (IsFormed has) (flat_map (λ ts. ts) all)
      → AllByRecursion (IsFormed has) (option_map_or (λ (ts : List Tree). ts) (slice_get all role) [])
  known_part [] role f = tt
  known_part (ts ∷ all) zero f = (each_in_parts (IsFormed has) ts (flat_map (λ us. us) all) f).0
  known_part (ts ∷ all) (suc role) f = known_part all role (each_in_parts (IsFormed has) ts (flat_map (λ us. us) all) f).1

  pub events_formed : (p : ProtocolValue) (role : ℕ) → AllByRecursion (IsFormed has) (known_terms p ++ messages p.actions) → LabelsAreFormed has (events_of p role)
  unfolding plan_of
  events_formed p role all =
      let parts = each_in_parts (IsFormed has) (known_terms p) (messages p.actions) all in
      let events = each_after (events_at p role) [] p.actions in
      subst (LabelsAreFormed has) (sym (map-append event_of (map to_know (known_by p role)) events))
      (labels_both (map event_of (map to_know (known_by p role))) (map event_of events) (knows_formed (known_by p role) (known_part p.knows role parts.0)) (each_formed p role [] p.actions parts.1))
