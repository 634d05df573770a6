-- Plans begin with what is known, and what is made is new.
use Rattle.std.proofs.Common.{◌≡◌, ℕ, zero, suc, ◌+◌, List, [], ◌∷◌, ◌++◌, length, map, ap, sym, ◌∙◌, subst, refl, Bool, true, false, cond, append_assoc, append-nil}
use Rattle.std.specs.Prelude.{◌==◌, ◌||◌, ◌&&◌, not, nat_eq, filter, slice_get}
use Rattle.std.specs.Option.{option_map_or}
use Rattle.std.proofs.lemmas.List.Elements.{filter-append}
use Rattle.std.specs.List.{list_any, flat_map}
use Rattle.std.proofs.lemmas.Bool.{eqb-false, or_parts}
use Rattle.std.proofs.lemmas.List.{map-append}
use Rattle.anb_term.specs.Tree.{Tree, leaf, node, Trees, none, more, Avoids, AvoidsAll, AvoidsEach}
use Rattle.anb_plays.specs.Plans.{Event, know, send, known, IsFreshAfter, FreshIsNew}
use Rattle.anb_plays.proofs.Plays.{known-append}
use Rattle.anb_protocol.specs.Choices.{each_after}
use Rattle.anb_protocol.specs.Names.{first_new}
use Rattle.anb_protocol.specs.Protocols.{ActionValue, ProtocolValue}
use Rattle.anb_protocol.specs.Texts.{atoms_in, atoms_in_all, atoms_in_each, known_by, known_terms}
use Rattle.anb_protocol.specs.Plans.{PlanEvent, to_know, to_make, to_send, to_receive, events_at, names_number_or_key, is_made, made, messages, occurs, plan_of}
use Rattle.anb_protocol.specs.Plays.{event_of, events_of}
use Rattle.anb_protocol.specs.Laws.{KnowsFirst}
use Rattle.anb_protocol.proofs.Afters.{any-append}
use Rattle.anb_protocol.proofs.SeenLemmas.{occurs-append}

known-knows : (ts : List Tree) → known (map know ts) ≡ ts
known-knows [] = refl
known-knows (t ∷ ts) = ap (λ l. t ∷ l) (known-knows ts)

events-knows : (ts : List Tree) → map event_of (map to_know ts) ≡ map know ts
events-knows [] = refl
events-knows (t ∷ ts) = ap (λ l. know t ∷ l) (events-knows ts)

known-makes : (names : List ℕ) → known (map event_of (map (λ x. to_make (leaf x)) names)) ≡ []
known-makes [] = refl
known-makes (x ∷ names) = known-makes names

nothing_known : (p : ProtocolValue) (role : ℕ) (number : ℕ) (names : List ℕ) (a : ActionValue) (b d : Bool)
    → known (map event_of (cond b (map (λ x. to_make (leaf x)) names ++ to_send number a.message ∷ []) (cond d (to_receive number a.message ∷ []) []))) ≡ []
nothing_known p role number names a true d =
    ap known (map-append event_of (map (λ x. to_make (leaf x)) names) (to_send number a.message ∷ []))
    ∙ known-append (map event_of (map (λ x. to_make (leaf x)) names)) (send a.message ∷ []) ∙ ap (λ l. l ++ []) (known-makes names)
nothing_known p role number names a false true = refl
nothing_known p role number names a false false = refl

known-rest : (p : ProtocolValue) (role : ℕ) (before acts : List ActionValue) → known (map event_of (each_after (events_at p role) before acts)) ≡ []
known-rest p role before [] = refl
known-rest p role before (a ∷ acts) =
    let rest = each_after (events_at p role) (before ++ a ∷ []) acts in
    ap known (map-append event_of (events_at p role before a) rest) ∙ known-append (map event_of (events_at p role before a)) (map event_of rest)
    ∙ ap (λ l. l ++ known (map event_of rest)) (nothing_known p role (length before + 1) (made p before a.message) a (a.from == role) (a.to == role))
    ∙ known-rest p role (before ++ a ∷ []) acts

pub events_are : (p : ProtocolValue) (role : ℕ) → events_of p role ≡ map know (known_by p role) ++ map event_of (each_after (events_at p role) [] p.actions)
unfolding plan_of
events_are p role =
    map-append event_of (map to_know (known_by p role)) (each_after (events_at p role) [] p.actions)
    ∙ ap (λ l. l ++ map event_of (each_after (events_at p role) [] p.actions)) (events-knows (known_by p role))

pub knows_first : (p : ProtocolValue) (role : ℕ) → KnowsFirst (events_of p role)
knows_first p role = (known_by p role, map event_of (each_after (events_at p role) [] p.actions), events_are p role, known-rest p role [] p.actions)

-- ---- what is made is new

mutual
  avoids : (a : ℕ) (t : Tree) → list_any (λ b. b == a) (atoms_in t) ≡ false → Avoids a t
  avoids a (leaf n) e = λ same. absurd (eqb-false n a (or_parts (n == a) false e).0 same)
  avoids a (node o ts) e = avoids_all a ts e

  avoids_all : (a : ℕ) (ts : Trees) → list_any (λ b. b == a) (atoms_in_all ts) ≡ false → AvoidsAll a ts
  avoids_all a none e = tt
  avoids_all a (more t ts) e =
      let h = or_parts (list_any (λ b. b == a) (atoms_in t)) (list_any (λ b. b == a) (atoms_in_all ts)) (sym (any-append (λ b. b == a) (atoms_in t) (atoms_in_all ts)) ∙ e) in
      (avoids a t h.0, avoids_all a ts h.1)

avoids_each : (a : ℕ) (ts : List Tree) → occurs ts a ≡ false → AvoidsEach a ts
avoids_each a [] e = tt
avoids_each a (t ∷ ts) e =
    let h = or_parts (list_any (λ b. b == a) (atoms_in t)) (occurs ts a) (sym (any-append (λ b. b == a) (atoms_in t) (atoms_in_each ts)) ∙ e) in
    (avoids a t h.0, avoids_each a ts h.1)

skip_known : (ts : List Tree) (frame : List Tree) (es : List Event) → IsFreshAfter frame es → IsFreshAfter frame (map know ts ++ es)
skip_known [] frame es h = h
skip_known (t ∷ ts) frame es h = skip_known ts frame es h

module _ (p : ProtocolValue) where
  -- what stands in a frame was known, or sent before, or is one of these
  abbrev Covered : List ActionValue → List ℕ → List Tree → Type 0
  Covered before bef frame = (a : ℕ) → occurs frame a ≡ true → (occurs (known_terms p) a || (occurs (messages before) a || list_any (λ b. b == a) bef)) ≡ true

  clash : (k m b q : Bool) → (k || (m || b)) ≡ true → (q && not k && not m) ≡ true → b ≡ false → ⊥
  clash true m b true e f g = cc
  clash true m b false e f g = cc
  clash false true b true e f g = cc
  clash false true b false e f g = cc
  clash false false b q e f g = cc

  unmet : (before : List ActionValue) (bef : List ℕ) (frame : List Tree) (a : ℕ) (v : Bool) → occurs frame a ≡ v → Covered before bef frame
      → is_made p before a ≡ true → list_any (λ b. b == a) bef ≡ false → v ≡ false
  unmet before bef frame a true e cov mk nb = absurd (clash (occurs (known_terms p) a) (occurs (messages before) a) (list_any (λ b. b == a) bef) (names_number_or_key p a) (cov a e) mk nb)
  unmet before bef frame a false e cov mk nb = refl

  wider : (k m b c : Bool) → (k || (m || b)) ≡ true → (k || (m || (b || c))) ≡ true
  wider true m b c e = refl
  wider false true b c e = refl
  wider false false true c e = refl
  wider false false false c e = cc

  last_true : (k m b c : Bool) → c ≡ true → (k || (m || (b || c))) ≡ true
  last_true true m b c e = refl
  last_true false true b c e = refl
  last_true false false true c e = refl
  last_true false false false c e = e

  or_case : (a b : Bool) (P : Type 0) → (a || b) ≡ true → (a ≡ true → P) → (b ≡ true → P) → P
  or_case true b P e f g = f refl
  or_case false b P e f g = g e

  more_before : (before : List ActionValue) (bef : List ℕ) (x : ℕ) (frame : List Tree) → Covered before bef frame → Covered before (bef ++ x ∷ []) frame
  more_before before bef x frame cov a e =
      ap (λ v. occurs (known_terms p) a || (occurs (messages before) a || v)) (any-append (λ b. b == a) bef (x ∷ []))
      ∙ wider (occurs (known_terms p) a) (occurs (messages before) a) (list_any (λ b. b == a) bef) (list_any (λ b. b == a) (x ∷ [])) (cov a e)

  with_leaf : (before : List ActionValue) (bef : List ℕ) (x : ℕ) (frame : List Tree) → Covered before bef frame → Covered before (bef ++ x ∷ []) (frame ++ leaf x ∷ [])
  with_leaf before bef x frame cov a e =
      or_case (occurs frame a) (occurs (leaf x ∷ []) a) _ (sym (occurs-append frame (leaf x ∷ []) a) ∙ e) (more_before before bef x frame cov a)
      (λ h. ap (λ v. occurs (known_terms p) a || (occurs (messages before) a || v)) (any-append (λ b. b == a) bef (x ∷ []))
      ∙ last_true (occurs (known_terms p) a) (occurs (messages before) a) (list_any (λ b. b == a) bef) (list_any (λ b. b == a) (x ∷ [])) h)

  abbrev makes_of : List ℕ → List Event
  makes_of names = map event_of (map (λ x. to_make (leaf x)) names)

  one_fresh : (before : List ActionValue) (bef : List ℕ) (x : ℕ) (rest : List ℕ) (frame : List Tree) (es : List Event) (b d : Bool)
      → list_any (λ y. y == x) bef ≡ b → is_made p before x ≡ d → Covered before bef frame
      → ((f : List Tree) → Covered before (bef ++ x ∷ []) f → IsFreshAfter f (makes_of rest ++ es))
      → IsFreshAfter frame (makes_of (filter (is_made p before) (cond b [] (x ∷ [])) ++ rest) ++ es)
  one_fresh before bef x rest frame es true d eb ed cov next = next frame (more_before before bef x frame cov)
  one_fresh before bef x rest frame es false true eb ed cov next =
      let P : Bool → Type 0 = λ v. IsFreshAfter frame (makes_of (cond v (x ∷ []) [] ++ rest) ++ es) in
      subst P (sym ed) ((x, refl, avoids_each x frame (unmet before bef frame x (occurs frame x) refl cov ed eb)), next (frame ++ leaf x ∷ []) (with_leaf before bef x frame cov))
  one_fresh before bef x rest frame es false false eb ed cov next =
      let P : Bool → Type 0 = λ v. IsFreshAfter frame (makes_of (cond v (x ∷ []) [] ++ rest) ++ es) in
      subst P (sym ed) (next frame (more_before before bef x frame cov))

  fresh_names : (before : List ActionValue) (bef atoms : List ℕ) (frame : List Tree) (es : List Event) → Covered before bef frame
      → ((f : List Tree) → Covered before (bef ++ atoms) f → IsFreshAfter f es)
      → IsFreshAfter frame (makes_of (filter (is_made p before) (each_after (first_new nat_eq) bef atoms)) ++ es)
  fresh_names before bef [] frame es cov next = let P : List ℕ → Type 0 = λ l. Covered before l frame in next frame (subst P (sym (append-nil bef)) cov)
  fresh_names before bef (x ∷ atoms) frame es cov next =
      let rest = filter (is_made p before) (each_after (first_new nat_eq) (bef ++ x ∷ []) atoms) in
      let joined : (f : List Tree) → Covered before ((bef ++ x ∷ []) ++ atoms) f → Covered before (bef ++ x ∷ atoms) f =
      λ f c. let P : List ℕ → Type 0 = λ l. Covered before l f in subst P (append_assoc bef (x ∷ []) atoms) c in
      let one = one_fresh before bef x rest frame es (list_any (λ y. y == x) bef) (is_made p before x) refl refl cov
      (λ f c. fresh_names before (bef ++ x ∷ []) atoms f es c (λ g d. next g (joined g d))) in
      let P : List ℕ → Type 0 = λ l. IsFreshAfter frame (makes_of l ++ es) in
      subst P (sym (filter-append (is_made p before) (first_new nat_eq bef x) (each_after (first_new nat_eq) (bef ++ x ∷ []) atoms))) one

  messages-last : (before : List ActionValue) (x : ActionValue) → messages (before ++ x ∷ []) ≡ messages before ++ x.message ∷ []
  messages-last [] x = refl
  messages-last (y ∷ before) x = ap (λ l. y.message ∷ l) (messages-last before x)

  or-false : (b : Bool) → (b || false) ≡ b
  or-false true = refl
  or-false false = refl

  occurs-last : (before : List ActionValue) (x : ActionValue) (a : ℕ) → occurs (messages (before ++ x ∷ [])) a ≡ (occurs (messages before) a || list_any (λ b. b == a) (atoms_in x.message))
  occurs-last before x a =
      ap (λ ts. occurs ts a) (messages-last before x) ∙ occurs-append (messages before) (x.message ∷ []) a
      ∙ ap (λ v. occurs (messages before) a || v) (any-append (λ b. b == a) (atoms_in x.message) [] ∙ or-false (list_any (λ b. b == a) (atoms_in x.message)))

  -- what was covered with the atoms of a message is covered behind it
  covered_after : (before : List ActionValue) (x : ActionValue) (frame : List Tree) → Covered before (atoms_in x.message) frame → Covered (before ++ x ∷ []) [] frame
  covered_after before x frame cov a e =
      ap (λ v. occurs (known_terms p) a || v) (or-false (occurs (messages (before ++ x ∷ [])) a) ∙ occurs-last before x a) ∙ cov a e

  widen : (k m c : Bool) → (k || (m || false)) ≡ true → (k || (m || c)) ≡ true
  widen true m c e = refl
  widen false true c e = refl
  widen false false c e = cc

  covered_wide : (before : List ActionValue) (bef : List ℕ) (frame : List Tree) → Covered before [] frame → Covered before bef frame
  covered_wide before bef frame cov a e = widen (occurs (known_terms p) a) (occurs (messages before) a) (list_any (λ b. b == a) bef) (cov a e)

  last_one : (k m c : Bool) → c ≡ true → (k || (m || c)) ≡ true
  last_one true m c e = refl
  last_one false true c e = refl
  last_one false false c e = e

  covered_message : (before : List ActionValue) (x : ActionValue) (frame : List Tree) → Covered before [] frame → Covered before (atoms_in x.message) (frame ++ x.message ∷ [])
  covered_message before x frame cov a e =
      or_case (occurs frame a) (occurs (x.message ∷ []) a) _ (sym (occurs-append frame (x.message ∷ []) a) ∙ e) (covered_wide before (atoms_in x.message) frame cov a)
      (λ h. last_one (occurs (known_terms p) a) (occurs (messages before) a) _ (sym (any-append (λ b. b == a) (atoms_in x.message) [] ∙ or-false (list_any (λ b. b == a) (atoms_in x.message))) ∙ h))

  one_action : (number : ℕ) (before : List ActionValue) (x : ActionValue) (rest : List PlanEvent) (frame : List Tree) (b d : Bool) → Covered before [] frame
      → ((f : List Tree) → Covered (before ++ x ∷ []) [] f → IsFreshAfter f (map event_of rest))
      → IsFreshAfter frame (map event_of (cond b (map (λ y. to_make (leaf y)) (made p before x.message) ++ to_send number x.message ∷ []) (cond d (to_receive number x.message ∷ []) []) ++ rest))
  one_action number before x rest frame true d cov next =
      let names = made p before x.message in
      let put = map (λ y. to_make (leaf y)) names in
      let is : map event_of ((put ++ to_send number x.message ∷ []) ++ rest) ≡ makes_of names ++ (send x.message ∷ map event_of rest) =
      ap (map event_of) (append_assoc put (to_send number x.message ∷ []) rest) ∙ map-append event_of put (to_send number x.message ∷ rest) in
      let P : List Event → Type 0 = λ es. IsFreshAfter frame es in
      subst P (sym is) (fresh_names before [] (atoms_in x.message) frame (send x.message ∷ map event_of rest) cov (λ f c. next f (covered_after before x f c)))
  one_action number before x rest frame false true cov next = next (frame ++ x.message ∷ []) (covered_after before x (frame ++ x.message ∷ []) (covered_message before x frame cov))
  one_action number before x rest frame false false cov next = next frame (covered_after before x frame (covered_wide before (atoms_in x.message) frame cov))

  fresh_walk : (role : ℕ) (before acts : List ActionValue) (frame : List Tree) → Covered before [] frame → IsFreshAfter frame (map event_of (each_after (events_at p role) before acts))
  fresh_walk role before [] frame cov = tt
  fresh_walk role before (x ∷ acts) frame cov =
      one_action (length before + 1) before x (each_after (events_at p role) (before ++ x ∷ []) acts) frame (x.from == role) (x.to == role) cov (λ f c. fresh_walk role (before ++ x ∷ []) acts f c)

  known_part : (knows : List (List Tree)) (role : ℕ) (a : ℕ) → occurs (option_map_or (λ (ts : List Tree). ts) (slice_get knows role) []) a ≡ true → occurs (flat_map (λ (ts : List Tree). ts) knows) a ≡ true
  known_part [] role a e = e
  known_part (ts ∷ knows) zero a e = occurs-append ts (flat_map (λ (us : List Tree). us) knows) a ∙ ap (λ v. v || occurs (flat_map (λ (us : List Tree). us) knows) a) e
  known_part (ts ∷ knows) (suc role) a e = occurs-append ts (flat_map (λ (us : List Tree). us) knows) a ∙ or_any (occurs ts a) (known_part knows role a e)
    where
      or_any : (b : Bool) {c : Bool} → c ≡ true → (b || c) ≡ true
      or_any true e = refl
      or_any false e = e

  pub made_new : (role : ℕ) → FreshIsNew (events_of p role)
  made_new role =
      let ks = known_by p role in
      let rest = map event_of (each_after (events_at p role) [] p.actions) in
      let is : events_of p role ≡ map know ks ++ rest = events_are p role in
      let first : known (map know ks ++ rest) ≡ ks = known-append (map know ks) rest ∙ ap (λ l. l ++ known rest) (known-knows ks) ∙ ap (λ l. ks ++ l) (known-rest p role [] p.actions) ∙ append-nil ks in
      let cov : Covered [] [] ks = λ a e. ap (λ v. v || (false || false)) (known_part p.knows role a e) in
      let P : List Tree → Type 0 = λ frame. IsFreshAfter frame (map know ks ++ rest) in
      let Q : List Event → Type 0 = λ es. FreshIsNew es in
      subst Q (sym is) (subst P (sym first) (skip_known ks ks rest (fresh_walk role [] p.actions ks cov)))
