-- Schedules: a role's taken turns are the first of its parts.
use Rattle.std.proofs.Common.{◌≡◌, ℕ, zero, suc, ◌+◌, ◌-◌, ◌<◌, List, [], ◌∷◌, ◌++◌, length, map, take, Bool, true, false, cond, not, Option, Some, None, refl, sym, ap, ◌∙◌, subst, arith, append_assoc, IsTrue}
use Rattle.std.specs.Prelude.{filter, filter_map, count_by, slice_get, is_none, ◌==◌, ◌&&◌, ◌↔◌}
use Rattle.std.specs.Option.{option_map_or}
use Rattle.std.specs.List.{AllByRecursion}
use Rattle.std.proofs.lemmas.Bool.{eqb-true, and_parts}
use Rattle.std.proofs.lemmas.List.{append-nil}
use Rattle.std.proofs.lemmas.List.Elements.{filter-append}
use Rattle.anb_term.specs.Tree.{Tree, leaf}
use Rattle.anb_term.specs.Value.{Meaning}
use Rattle.anb_lemmas.proofs.Each.{each_in_both, each_got}
use Rattle.anb_lemmas.proofs.Lists.{get_seam, take_got}
use Rattle.anb_plays.specs.Honest.{honest, honest_from, heard}
use Rattle.std.proofs.lemmas.Bool.Decides.{nat_tests}
use Rattle.anb_protocol.specs.Choices.{each_after}
use Rattle.anb_protocol.specs.Protocols.{ActionValue, ProtocolValue}
use Rattle.anb_protocol.specs.Texts.{known_by}
use Rattle.anb_protocol.specs.Plans.{PlanEvent, to_know, to_make, to_send, to_receive, events_at, made, plan_of}
use Rattle.anb_protocol.specs.Plays.{event_of}
use Rattle.anb_protocol.specs.Schedules.{Turn, parts_of, next_of, turn_of, append_if, taken_after, taken, IsComplete}
use Rattle.anb_honest.specs.Joint.{Cast, is_complete}
use Rattle.anb_honest.specs.Honest.{term_at}
use Rattle.anb_honest.specs.Inside.{part_of}
use Rattle.anb_honest.proofs.Moving.{count_last}
use Rattle.anb_honest.proofs.Parts.{IsPartOf, parts_of_role}
use Rattle.anb_honest.proofs.Turning.{ready_next}

abbrev pub is_of : ℕ → Turn → Bool
is_of role t = t.role == role

abbrev pub hears : Turn → Bool
hears t = not t.sends

abbrev pub tells : Turn → Bool
tells t = t.sends

-- the turn that is taken is a part of the role
pub part_taken : (p : ProtocolValue) (ts : List Turn) (role : ℕ) (t : Turn) → turn_of p ts role ≡ Some t → IsPartOf role (length p.actions) t
part_taken p ts role t e =
    each_got (IsPartOf role (length p.actions)) (parts_of p role) (count_by (is_of role) ts) t (parts_of_role p role) (ready_next ts (next_of p ts role) t e)

-- the taken turns of each role are the first of its parts
abbrev pub InOrder : ProtocolValue → List Turn → Type 0
InOrder p ts = (role : ℕ) → filter (is_of role) ts ≡ take (count_by (is_of role) ts) (parts_of p role)

pub none_in_order : (p : ProtocolValue) → InOrder p []
none_in_order p role = refl

pub more_in_order : (p : ProtocolValue) (ts : List Turn) (role : ℕ) (t : Turn) → InOrder p ts → turn_of p ts role ≡ Some t → InOrder p (ts ++ t ∷ [])
more_in_order p ts role t order e q = by (t.role == q) refl where
  own : IsPartOf role (length p.actions) t
  own = part_taken p ts role t e

  by : (b : Bool) → (t.role == q) ≡ b → filter (is_of q) (ts ++ t ∷ []) ≡ take (count_by (is_of q) (ts ++ t ∷ [])) (parts_of p q)
  by true h =
      let o = own in
      let g : role ≡ q = sym o.own ∙ eqb-true t.role q h in
      let at : slice_get (parts_of p q) (count_by (is_of q) ts) ≡ Some t = subst (λ r. slice_get (parts_of p r) (count_by (is_of r) ts) ≡ Some t) g (ready_next ts (next_of p ts role) t e) in
      filter-append (is_of q) ts (t ∷ []) ∙ ap (λ v. filter (is_of q) ts ++ cond v (t ∷ []) []) h ∙ ap (λ l. l ++ t ∷ []) (order q)
      ∙ sym (take_got (parts_of p q) (count_by (is_of q) ts) t at)
      ∙ ap (λ n. take n (parts_of p q)) (sym (count_last (is_of q) ts t ∙ ap (λ v. count_by (is_of q) ts + cond v 1 0) h))
  by false h =
      let n : count_by (is_of q) ts + 0 ≡ count_by (is_of q) ts = omega arith in
      filter-append (is_of q) ts (t ∷ []) ∙ ap (λ v. filter (is_of q) ts ++ cond v (t ∷ []) []) h ∙ append-nil (filter (is_of q) ts) ∙ order q
      ∙ ap (λ k. take k (parts_of p q)) (sym (count_last (is_of q) ts t ∙ ap (λ v. count_by (is_of q) ts + cond v 1 0) h ∙ n))

-- the turns that are newly taken
abbrev pub new_with : Option Turn → List Turn → List Turn
new_with None rest = rest
new_with (Some t) rest = t ∷ rest

abbrev pub new_turns : ProtocolValue → List Turn → List ℕ → List Turn
new_turns p ts [] = []
new_turns p ts (role ∷ turns) = new_with (turn_of p ts role) (new_turns p (append_if ts (turn_of p ts role)) turns)

pub taken_is : (p : ProtocolValue) (ts : List Turn) (turns : List ℕ) → taken_after p ts turns ≡ ts ++ new_turns p ts turns
taken_is p ts [] = sym (append-nil ts)
taken_is p ts (role ∷ turns) = by (turn_of p ts role) (λ us. taken_is p us turns) where
  by : (o : Option Turn) → ((us : List Turn) → taken_after p us turns ≡ us ++ new_turns p us turns)
      → taken_after p (append_if ts o) turns ≡ ts ++ new_with o (new_turns p (append_if ts o) turns)
  by None ih = ih ts
  by (Some t) ih = ih (ts ++ t ∷ []) ∙ append_assoc ts (t ∷ []) (new_turns p (ts ++ t ∷ []) turns)

pub taken_in_order : (p : ProtocolValue) (ts : List Turn) (turns : List ℕ) → InOrder p ts → InOrder p (taken_after p ts turns)
taken_in_order p ts [] order = order
taken_in_order p ts (role ∷ turns) order = taken_in_order p (append_if ts (turn_of p ts role)) turns (by (turn_of p ts role) refl) where
  by : (o : Option Turn) → turn_of p ts role ≡ o → InOrder p (append_if ts o)
  by None e = order
  by (Some t) e = more_in_order p ts role t order e

pub filter_both : {A : Type 0} (f g : A → Bool) (xs : List A) → filter (λ x. f x && g x) xs ≡ filter g (filter f xs)
filter_both {A = A} f g [] = refl
filter_both {A = A} f g (x ∷ xs) = by (f x) (g x) refl (filter_both f g xs) where
  by : (b v : Bool) → g x ≡ v → filter (λ y. f y && g y) xs ≡ filter g (filter f xs)
      → cond (b && v) (x ∷ filter (λ y. f y && g y) xs) (filter (λ y. f y && g y) xs) ≡ filter g (cond b (x ∷ filter f xs) (filter f xs))
  by true true e ih = ap (λ l. x ∷ l) ih ∙ sym (ap (λ w. cond w (x ∷ filter g (filter f xs)) (filter g (filter f xs))) e)
  by true false e ih = ih ∙ sym (ap (λ w. cond w (x ∷ filter g (filter f xs)) (filter g (filter f xs))) e)
  by false v e ih = ih

-- ---- the terms of actions

-- each message of the plan is that of its action
abbrev pub HasTerm : ProtocolValue → PlanEvent → Type 0
HasTerm p (to_know t) = Unit {0}
HasTerm p (to_make t) = Unit {0}
HasTerm p (to_send action t) = term_at p action ≡ t
HasTerm p (to_receive action t) = term_at p action ≡ t

knows_have : (p : ProtocolValue) (ts : List Tree) → AllByRecursion (HasTerm p) (map to_know ts)
knows_have p [] = tt
knows_have p (t ∷ ts) = (tt, knows_have p ts)

makes_have : (p : ProtocolValue) (names : List ℕ) → AllByRecursion (HasTerm p) (map (λ x. to_make (leaf x)) names)
makes_have p [] = tt
makes_have p (x ∷ names) = (tt, makes_have p names)

one_has : (p : ProtocolValue) (n : ℕ) (names : List ℕ) (t : Tree) (b d : Bool) → term_at p n ≡ t
    → AllByRecursion (HasTerm p) (cond b (map (λ x. to_make (leaf x)) names ++ to_send n t ∷ []) (cond d (to_receive n t ∷ []) []))
one_has p n names t true d e = each_in_both (HasTerm p) (map (λ x. to_make (leaf x)) names) (to_send n t ∷ []) (makes_have p names) (e, tt)
one_has p n names t false true e = (e, tt)
one_has p n names t false false e = tt

each_has : (p : ProtocolValue) (role : ℕ) (before acts : List ActionValue) → p.actions ≡ before ++ acts → AllByRecursion (HasTerm p) (each_after (events_at p role) before acts)
each_has p role before [] e = tt
each_has p role before (a ∷ acts) e =
    let n : length before + 1 - 1 ≡ length before = omega arith in
    let at : term_at p (length before + 1) ≡ a.message =
    ap (λ k. option_map_or (λ (x : ActionValue). x.message) (slice_get p.actions k) (leaf 0)) n
    ∙ ap (λ o. option_map_or (λ (x : ActionValue). x.message) o (leaf 0)) (ap (λ l. slice_get l (length before)) e ∙ get_seam before acts a) in
    each_in_both (HasTerm p) (events_at p role before a) (each_after (events_at p role) (before ++ a ∷ []) acts)
    (one_has p (length before + 1) (made p before a.message) a.message (a.from == role) (a.to == role) at)
    (each_has p role (before ++ a ∷ []) acts (e ∙ sym (append_assoc before (a ∷ []) acts)))

pub plan_has : (p : ProtocolValue) (role : ℕ) → AllByRecursion (HasTerm p) (plan_of p role)
unfolding plan_of
plan_has p role =
    each_in_both (HasTerm p) (map to_know (known_by p role)) (each_after (events_at p role) [] p.actions) (knows_have p (known_by p role)) (each_has p role [] p.actions refl)

module _ (p : ProtocolValue) (role : ℕ) where
  -- what was heard are the first terms that the plan hears
  pub heard_first : (plan : List PlanEvent) (n : ℕ) → AllByRecursion (HasTerm p) plan
      → map (λ (t : Turn). term_at p t.action) (filter hears (take n (filter_map (part_of role) plan)))
      ≡ take (length (filter hears (take n (filter_map (part_of role) plan)))) (heard (map event_of plan))
  heard_first [] zero has = refl
  heard_first [] (suc n) has = refl
  heard_first (to_know t ∷ plan) n has = heard_first plan n has.1
  heard_first (to_make t ∷ plan) n has = heard_first plan n has.1
  heard_first (to_send i t ∷ plan) zero has = refl
  heard_first (to_send i t ∷ plan) (suc n) has = heard_first plan n has.1
  heard_first (to_receive i t ∷ plan) zero has = refl
  heard_first (to_receive i t ∷ plan) (suc n) has =
      ap (λ u. u ∷ map (λ (x : Turn). term_at p x.action) (filter hears (take n (filter_map (part_of role) plan)))) has.0 ∙ ap (λ l. t ∷ l) (heard_first plan n has.1)

  -- what is told next is the next message of one who heard honest ones alone
  module _ {A : Type 0} (m : Meaning A) (atoms : ℕ → A) where
    pub told_next : (plan : List PlanEvent) (n e : ℕ) (u : Turn) → AllByRecursion (HasTerm p) plan → slice_get (filter_map (part_of role) plan) n ≡ Some u → u.sends ≡ true
        → slice_get (honest_from m atoms (map event_of plan) e (length (filter hears (take n (filter_map (part_of role) plan))))).sent (length (filter tells (take n (filter_map (part_of role) plan))))
        ≡ Some (honest m atoms (term_at p u.action))
    told_next [] n e u has at sends = cc
    told_next (to_know t ∷ plan) n e u has at sends = told_next plan n e u has.1 at sends
    told_next (to_make t ∷ plan) n e u has at sends = told_next plan n e u has.1 at sends
    told_next (to_send i t ∷ plan) zero e u has at sends =
        let same : record { role = role; action = i; sends = true } ≡ u = cc in
        ap (λ x. Some (honest m atoms x)) (sym has.0) ∙ ap (λ (x : Turn). Some (honest m atoms (term_at p x.action))) same
    told_next (to_send i t ∷ plan) (suc n) e u has at sends = told_next plan n (e + 1) u has.1 at sends
    told_next (to_receive i t ∷ plan) zero e u has at sends =
        let same : record { role = role; action = i; sends = false } ≡ u = cc in let f : false ≡ u.sends = ap (λ (x : Turn). x.sends) same in cc
    told_next (to_receive i t ∷ plan) (suc n) e u has at sends = told_next plan n (e + 1) u has.1 at sends

-- ---- complete schedules

none_is : (o : Option Turn) → is_none o ≡ true → o ≡ None
none_is None e = refl
none_is (Some t) e = cc

complete_each : (c : Cast) (ts : List Turn) (n : ℕ) → is_complete c ts n ≡ true → (role : ℕ) → role < n → next_of c.protocol ts role ≡ None
complete_each c ts zero e role h = absurd (omega arith)
complete_each c ts (suc n) e role h =
    let parts = and_parts (is_complete c ts n) (is_none (next_of c.protocol ts n)) e in
    by (role == n) refl parts.1 (complete_each c ts n parts.0 role)
  where
    by : (b : Bool) → (role == n) ≡ b → is_none (next_of c.protocol ts n) ≡ true → (role < n → next_of c.protocol ts role ≡ None) → next_of c.protocol ts role ≡ None
    by true f last ih = let g : role ≡ n = eqb-true role n f in subst (λ r. next_of c.protocol ts r ≡ None) (sym g) (none_is (next_of c.protocol ts n) last)
    by false f last ih = ih (grind (arith, nat_tests, f))

each_complete : (c : Cast) (ts : List Turn) (n : ℕ) → ((role : ℕ) → role < n → next_of c.protocol ts role ≡ None) → is_complete c ts n ≡ true
each_complete c ts zero all = refl
each_complete c ts (suc n) all = rw (each_complete c ts n (λ role h. all role (omega arith)), all n (omega arith)) refl

pub complete_tested : (c : Cast) (turns : List ℕ) → IsTrue (is_complete c (taken c.protocol turns) (length c.protocol.roles)) ↔ IsComplete c.protocol turns
complete_tested c turns =
    (λ e role h. complete_each c (taken c.protocol turns) (length c.protocol.roles) e role h, λ all. each_complete c (taken c.protocol turns) (length c.protocol.roles) all)
