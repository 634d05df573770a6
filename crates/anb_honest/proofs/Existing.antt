-- Bytes of atoms that are honest: there always are some.
use Rattle.std.proofs.Common.{◌≡◌, ℕ, zero, suc, ◌+◌, ◌<◌, List, [], ◌∷◌, ◌++◌, length, map, Bool, true, false, cond, Option, Some, None, refl, sym, ap, ◌∙◌, arith, inl, inr, ◌⊎◌}
use Rattle.std.specs.Prelude.{filter, slice_get, unwrap_or, option_and_then, nat_eq, not, ◌==◌, ◌&&◌, ◌||◌, ◌≢◌}
use Rattle.std.specs.Option.{option_map_or}
use Rattle.std.specs.List.{AllByRecursion, list_any, position_from}
use Rattle.std.proofs.lemmas.Bool.{eqb-true, eqb-false, or_parts}
use Rattle.std.proofs.lemmas.List.{map-append}
use Rattle.anb_base.specs.Bytes.{IsBytes, IsBytes-pass}
use Rattle.anb_seal.specs.Streams.{draw_of}
use Rattle.anb_seal.proofs.ByteLemmas.{bytes-draw_of}
use Rattle.anb_term.specs.Tree.{Tree, leaf, node}
use Rattle.anb_term.proofs.Lists.{slice_get-there}
use Rattle.anb_plays.specs.Plans.{Event, know, fresh, send, recv}
use Rattle.anb_plays.specs.Honest.{made}
use Rattle.anb_lemmas.proofs.Each.{each_in_both, each_got, each_by, each_of_map}
use Rattle.anb_lemmas.proofs.Numbers.{nat_eq-same}
use Rattle.anb_lemmas.proofs.Lists.{get_either, got_within}
use Rattle.anb_protocol.specs.Choices.{each_after}
use Rattle.anb_protocol.specs.Names.{first_new, distinct}
use Rattle.anb_protocol.specs.Protocols.{ActionValue, ProtocolValue}
use Rattle.anb_protocol.specs.Texts.{atoms_in, atoms_in_each, known_by, known_terms}
use Rattle.anb_protocol.specs.Plans.{PlanEvent, to_know, to_make, to_send, to_receive, events_at, is_made, messages, names_number_or_key, occurs, plan_of}
use Rattle.anb_protocol.specs.Plans as plans
use Rattle.anb_protocol.specs.Plays.{event_of, events_of, honest_bytes}
use Rattle.anb_protocol.proofs.Afters.{any-append}
use Rattle.anb_protocol.proofs.AtomLemmas.{each-append}
use Rattle.anb_protocol.proofs.Distinct.{AllApart, apart-map}
use Rattle.anb_honest.specs.Joint.{Cast, given, known_atoms}
use Rattle.anb_honest.specs.Honest.{AreHonest}

-- ---- lists

-- no thing stands at two places
abbrev Once : {A : Type 0} → List A → Type 0
Once {A} xs = (i j : ℕ) (x : A) → slice_get xs i ≡ Some x → slice_get xs j ≡ Some x → i ≡ j

once : {A : Type 0} (xs : List A) → AllApart xs → Once xs
once [] apart i j x e d = cc
once (y ∷ xs) apart zero zero x e d = refl
once (y ∷ xs) apart zero (suc j) x e d = let same : y ≡ x = cc in absurd (each_got (λ z. y ≢ z) xs j x apart.0 d same)
once (y ∷ xs) apart (suc i) zero x e d = let same : y ≡ x = cc in absurd (each_got (λ z. y ≢ z) xs i x apart.0 e same)
once (y ∷ xs) apart (suc i) (suc j) x e d = ap suc (once xs apart.1 i j x e d)

kept_each : {A : Type 0} (P : A → Type 0) (f : A → Bool) (xs : List A) → AllByRecursion P xs → AllByRecursion (λ x. P x × (f x ≡ true)) (filter f xs)
kept_each P f [] all = tt
kept_each {A} P f (x ∷ xs) all = by (f x) refl (kept_each P f xs all.1) where
  by : (b : Bool) → f x ≡ b → AllByRecursion (λ y. P y × (f y ≡ true)) (filter f xs) → AllByRecursion (λ y. P y × (f y ≡ true)) (cond b (x ∷ filter f xs) (filter f xs))
  by true e rest = ((all.0, e), rest)
  by false e rest = rest

firsts : {A : Type 0} (P Q : A → Type 0) (xs : List A) → AllByRecursion (λ x. P x × Q x) xs → AllByRecursion P xs
firsts P Q [] all = tt
firsts P Q (x ∷ xs) all = (all.0.0, firsts P Q xs all.1)

apart_kept : {A : Type 0} (f : A → Bool) (xs : List A) → AllApart xs → AllApart (filter f xs)
apart_kept f [] apart = tt
apart_kept {A} f (x ∷ xs) apart = by (f x) (apart_kept f xs apart.1) where
  by : (b : Bool) → AllApart (filter f xs) → AllApart (cond b (x ∷ filter f xs) (filter f xs))
  by true rest = (firsts (λ y. x ≢ y) (λ y. f y ≡ true) (filter f xs) (kept_each (λ y. x ≢ y) f xs apart.0), rest)
  by false rest = rest

-- ---- each number once

abbrev has : List ℕ → ℕ → Bool
has xs a = list_any (λ b. b == a) xs

has_behind : (before : List ℕ) (x y : ℕ) → has (before ++ x ∷ []) y ≡ false → (has before y ≡ false) × (x ≢ y)
has_behind before x y e =
    let parts = or_parts (has before y) (has (x ∷ []) y) (sym (any-append (λ b. b == y) before (x ∷ [])) ∙ e) in
    (parts.0, eqb-false x y (or_parts (x == y) false parts.1).0)

pub distinct_apart : (before xs : List ℕ) → AllByRecursion (λ y. has before y ≡ false) (each_after (first_new nat_eq) before xs) × AllApart (each_after (first_new nat_eq) before xs)
distinct_apart before [] = (tt, tt)
distinct_apart before (x ∷ xs) = by (has before x) refl (distinct_apart (before ++ x ∷ []) xs) where
  rest : List ℕ
  rest = each_after (first_new nat_eq) (before ++ x ∷ []) xs

  not_before : AllByRecursion (λ y. has (before ++ x ∷ []) y ≡ false) rest → AllByRecursion (λ y. has before y ≡ false) rest
  not_before later = each_by (λ y. has (before ++ x ∷ []) y ≡ false) (λ y. has before y ≡ false) (λ y e. (has_behind before x y e).0) rest later

  by : (b : Bool) → has before x ≡ b → AllByRecursion (λ y. has (before ++ x ∷ []) y ≡ false) rest × AllApart rest
      → AllByRecursion (λ y. has before y ≡ false) (cond b [] (x ∷ []) ++ rest) × AllApart (cond b [] (x ∷ []) ++ rest)
  by true e later = (not_before later.0, later.1)
  by false e later =
      ((e, not_before later.0), (each_by (λ y. has (before ++ x ∷ []) y ≡ false) (λ y. x ≢ y) (λ y f. (has_behind before x y f).1) rest later.0, later.1))

distinct_in : (before xs : List ℕ) → AllByRecursion (λ y. has xs y ≡ true) (each_after (first_new nat_eq) before xs)
distinct_in before [] = tt
distinct_in before (x ∷ xs) = by (has before x) (distinct_in (before ++ x ∷ []) xs) where
  rest : List ℕ
  rest = each_after (first_new nat_eq) (before ++ x ∷ []) xs

  more : (b d : Bool) → d ≡ true → (b || d) ≡ true
  more true d e = refl
  more false d e = e

  all : AllByRecursion (λ y. has xs y ≡ true) rest → AllByRecursion (λ y. has (x ∷ xs) y ≡ true) rest
  all later = each_by (λ y. has xs y ≡ true) (λ y. has (x ∷ xs) y ≡ true) (λ y e. more (x == y) (has xs y) e) rest later

  by : (b : Bool) → AllByRecursion (λ y. has xs y ≡ true) rest → AllByRecursion (λ y. has (x ∷ xs) y ≡ true) (cond b [] (x ∷ []) ++ rest)
  by true later = all later
  by false later = (ap (λ v. v || has xs x) (nat_eq-same x), all later)

-- ---- places

-- the first that passes a test passes it
abbrev pub IsAt : {A : Type 0} → (A → Bool) → (k : ℕ) → List A → (j : ℕ) → Type 0
IsAt {A} test k xs j = (m : ℕ) × (x : A) × (j ≡ k + m) × (slice_get xs m ≡ Some x) × (test x ≡ true)

pub found : {A : Type 0} (test : A → Bool) (k : ℕ) (xs : List A) (j : ℕ) → position_from test k xs ≡ Some j → IsAt test k xs j
found test k [] j e = cc
found {A} test k (y ∷ xs) j e = by (test y) refl e (found test (k + 1) xs j) where
  by : (b : Bool) → test y ≡ b → cond b (Some k) (position_from test (k + 1) xs) ≡ Some j → (position_from test (k + 1) xs ≡ Some j → IsAt test (k + 1) xs j) → IsAt test k (y ∷ xs) j
  by true t f later = let same : k ≡ j = cc in (0, y, omega (arith, same), refl, t)
  by false t f later = let l = later f in (suc l.0, l.1, omega (arith, l.2), l.3, l.4)

pub not_found : {A : Type 0} (test : A → Bool) (k : ℕ) (xs : List A) → position_from test k xs ≡ None → (i : ℕ) (x : A) → slice_get xs i ≡ Some x → test x ≡ true → ⊥
not_found test k [] e i x at t = cc
not_found {A} test k (y ∷ xs) e i x at t = by (test y) refl e i at (not_found test (k + 1) xs) where
  by : (b : Bool) → test y ≡ b → cond b (Some k) (position_from test (k + 1) xs) ≡ None → (i : ℕ) → slice_get (y ∷ xs) i ≡ Some x
      → (position_from test (k + 1) xs ≡ None → (i : ℕ) (x : A) → slice_get xs i ≡ Some x → test x ≡ true → ⊥) → ⊥
  by true s f i at later = cc
  by false s f zero at later = let same : y ≡ x = cc in let never : true ≡ false = sym t ∙ ap test (sym same) ∙ s in cc
  by false s f (suc i) at later = later f i x at t

-- ---- what roles make

made-append : (xs ys : List Event) → made (xs ++ ys) ≡ made xs ++ made ys
made-append [] ys = refl
made-append (know t ∷ xs) ys = made-append xs ys
made-append (fresh t ∷ xs) ys = ap (λ l. t ∷ l) (made-append xs ys)
made-append (send t ∷ xs) ys = made-append xs ys
made-append (recv t ∷ xs) ys = made-append xs ys

made_names : (names : List ℕ) → made (map event_of (map (λ x. to_make (leaf x)) names)) ≡ map leaf names
made_names [] = refl
made_names (x ∷ names) = ap (λ l. leaf x ∷ l) (made_names names)

made_known : (ts : List Tree) (es : List PlanEvent) → made (map event_of (map to_know ts ++ es)) ≡ made (map event_of es)
made_known [] es = refl
made_known (t ∷ ts) es = made_known ts es

module _ (p : ProtocolValue) where
  -- the names that the sender of a message makes
  abbrev named_at : List ActionValue → ActionValue → List Tree
  named_at before x = map leaf (plans.made p before x.message)

  -- those that a role makes at an action
  abbrev mine : ℕ → List ActionValue → ActionValue → List Tree
  mine role before x = cond (x.from == role) (named_at before x) []

  abbrev makings : ℕ → (before acts : List ActionValue) → List Tree
  makings role before [] = []
  makings role before (x ∷ acts) = mine role before x ++ makings role (before ++ x ∷ []) acts

  own_made : (role number : ℕ) (names : List ℕ) (x : ActionValue) (b d : Bool)
      → made (map event_of (cond b (map (λ a. to_make (leaf a)) names ++ to_send number x.message ∷ []) (cond d (to_receive number x.message ∷ []) []))) ≡ cond b (map leaf names) []
  own_made role number names x true d =
      ap made (map-append event_of (map (λ a. to_make (leaf a)) names) (to_send number x.message ∷ []))
      ∙ made-append (map event_of (map (λ a. to_make (leaf a)) names)) (send x.message ∷ []) ∙ nothing (made (map event_of (map (λ a. to_make (leaf a)) names))) ∙ made_names names
    where
      nothing : (l : List Tree) → l ++ [] ≡ l
      nothing [] = refl
      nothing (t ∷ l) = ap (λ r. t ∷ r) (nothing l)
  own_made role number names x false true = refl
  own_made role number names x false false = refl

  makings_of : (role : ℕ) (before acts : List ActionValue) → made (map event_of (each_after (events_at p role) before acts)) ≡ makings role before acts
  makings_of role before [] = refl
  makings_of role before (x ∷ acts) =
      let rest = each_after (events_at p role) (before ++ x ∷ []) acts in
      ap made (map-append event_of (events_at p role before x) rest) ∙ made-append (map event_of (events_at p role before x)) (map event_of rest)
      ∙ ap (λ l. l ++ made (map event_of rest)) (own_made role (length before + 1) (plans.made p before x.message) x (x.from == role) (x.to == role))
      ∙ ap (λ l. mine role before x ++ l) (makings_of role (before ++ x ∷ []) acts)

  all_makings : (role : ℕ) → made (events_of p role) ≡ makings role [] p.actions
  unfolding plan_of
  all_makings role = made_known (known_by p role) (each_after (events_at p role) [] p.actions) ∙ makings_of role [] p.actions

  -- a name that no role knows, and that no message before these has
  pub record IsNew (before : List ActionValue) (t : Tree) : Type 0 where
    pub atom : ℕ
    pub is : t ≡ leaf atom
    pub unknown : occurs (known_terms p) atom ≡ false
    pub unsent : occurs (messages before) atom ≡ false

  -- and that this message has
  record IsNewIn (before : List ActionValue) (x : ActionValue) (t : Tree) : Type 0 where
    new : IsNew before t
    stands : has (atoms_in x.message) new.atom ≡ true

  made_parts : (q k m : Bool) → (q && not k && not m) ≡ true → (k ≡ false) × (m ≡ false)
  made_parts true false false e = (refl, refl)
  made_parts true false true e = absurd (cc)
  made_parts true true m e = absurd (cc)
  made_parts false k m e = absurd (cc)

  named_new : (before : List ActionValue) (x : ActionValue) → AllByRecursion (IsNewIn before x) (named_at before x)
  named_new before x =
      each_of_map (IsNewIn before x) leaf (plans.made p before x.message)
      (each_by (λ a. (has (atoms_in x.message) a ≡ true) × (is_made p before a ≡ true)) (λ a. IsNewIn before x (leaf a)) from (plans.made p before x.message)
      (kept_each (λ a. has (atoms_in x.message) a ≡ true) (is_made p before) (distinct nat_eq (atoms_in x.message)) (distinct_in [] (atoms_in x.message))))
    where
      from : (a : ℕ) → (has (atoms_in x.message) a ≡ true) × (is_made p before a ≡ true) → IsNewIn before x (leaf a)
      from a e =
          let parts = made_parts (names_number_or_key p a) (occurs (known_terms p) a) (occurs (messages before) a) e.1 in
          record { new = record { atom = a; is = refl; unknown = parts.0; unsent = parts.1 }; stands = e.0 }

  mine_new : (role : ℕ) (before : List ActionValue) (x : ActionValue) → AllByRecursion (IsNewIn before x) (mine role before x)
  mine_new role before x = by (x.from == role) where
    by : (b : Bool) → AllByRecursion (IsNewIn before x) (cond b (named_at before x) [])
    by true = named_new before x
    by false = tt

  sent_behind : (before : List ActionValue) (x : ActionValue) (a : ℕ) → occurs (messages (before ++ x ∷ [])) a ≡ false → (occurs (messages before) a ≡ false) × (has (atoms_in x.message) a ≡ false)
  sent_behind before x a e =
      let all : occurs (messages (before ++ x ∷ [])) a ≡ (occurs (messages before) a || occurs (x.message ∷ []) a) =
      ap (λ l. occurs l a) (map-append (λ (y : ActionValue). y.message) before (x ∷ [])) ∙ ap (λ l. has l a) (each-append (messages before) (x.message ∷ []))
      ∙ any-append (λ b. b == a) (atoms_in_each (messages before)) (atoms_in_each (x.message ∷ [])) in
      let parts = or_parts (occurs (messages before) a) (occurs (x.message ∷ []) a) (sym all ∙ e) in
      let one : occurs (x.message ∷ []) a ≡ (has (atoms_in x.message) a || false) = any-append (λ b. b == a) (atoms_in x.message) [] in
      (parts.0, (or_parts (has (atoms_in x.message) a) false (sym one ∙ parts.1)).0)

  all_new : (role : ℕ) (before acts : List ActionValue) → AllByRecursion (IsNew before) (makings role before acts)
  all_new role before [] = tt
  all_new role before (x ∷ acts) =
      each_in_both (IsNew before) (mine role before x) (makings role (before ++ x ∷ []) acts)
      (each_by (IsNewIn before x) (IsNew before) (λ t n. n.new) (mine role before x) (mine_new role before x))
      (each_by (IsNew (before ++ x ∷ [])) (IsNew before) earlier (makings role (before ++ x ∷ []) acts) (all_new role (before ++ x ∷ []) acts))
    where
      earlier : (t : Tree) → IsNew (before ++ x ∷ []) t → IsNew before t
      earlier t n = record { atom = n.atom; is = n.is; unknown = n.unknown; unsent = (sent_behind before x n.atom n.unsent).0 }

  same_leaf : (a b : ℕ) → leaf a ≡ leaf b → a ≡ b
  same_leaf a b e = cc

  -- what is made at an action isn't made behind it
  not_later : (before : List ActionValue) (x : ActionValue) (t : Tree) → IsNewIn before x t → IsNew (before ++ x ∷ []) t → ⊥
  not_later before x t now later =
      let same : later.atom ≡ now.new.atom = same_leaf later.atom now.new.atom (sym later.is ∙ now.new.is) in
      let never : true ≡ false = sym now.stands ∙ ap (has (atoms_in x.message)) (sym same) ∙ (sent_behind before x later.atom later.unsent).1 in
      cc

  named_once : (before : List ActionValue) (x : ActionValue) → Once (named_at before x)
  named_once before x =
      once (named_at before x) (apart-map (λ a. Unit {0}) leaf (λ a b _ _ e. same_leaf a b e) (plans.made p before x.message) (each_thing (plans.made p before x.message))
      (apart_kept (is_made p before) (distinct nat_eq (atoms_in x.message)) (distinct_apart [] (atoms_in x.message)).1))
    where
      each_thing : (xs : List ℕ) → AllByRecursion (λ a. Unit {0}) xs
      each_thing [] = tt
      each_thing (a ∷ xs) = (tt, each_thing xs)

  mine_once : (r s : ℕ) (before : List ActionValue) (x : ActionValue) (i j : ℕ) (t : Tree) → slice_get (mine r before x) i ≡ Some t → slice_get (mine s before x) j ≡ Some t → (r ≡ s) × (i ≡ j)
  mine_once r s before x i j t e d = by (x.from == r) (x.from == s) refl refl e d where
    by : (b c : Bool) → (x.from == r) ≡ b → (x.from == s) ≡ c → slice_get (cond b (named_at before x) []) i ≡ Some t → slice_get (cond c (named_at before x) []) j ≡ Some t → (r ≡ s) × (i ≡ j)
    by true true f g e d = (sym (eqb-true x.from r f) ∙ eqb-true x.from s g, named_once before x i j t e d)
    by true false f g e d = absurd (cc)
    by false c f g e d = absurd (cc)

  -- a name is made once
  made_once : (r s : ℕ) (before acts : List ActionValue) (i j : ℕ) (t : Tree) → slice_get (makings r before acts) i ≡ Some t → slice_get (makings s before acts) j ≡ Some t → (r ≡ s) × (i ≡ j)
  made_once r s before [] i j t e d = absurd (cc)
  made_once r s before (x ∷ acts) i j t e d =
      by (get_either (mine r before x) (makings r (before ++ x ∷ []) acts) i t e) (get_either (mine s before x) (makings s (before ++ x ∷ []) acts) j t d)
      (λ k l. made_once r s (before ++ x ∷ []) acts k l t)
    where
      here : (role k : ℕ) → slice_get (mine role before x) k ≡ Some t → IsNewIn before x t
      here role k e = each_got (IsNewIn before x) (mine role before x) k t (mine_new role before x) e

      later : (role k : ℕ) → slice_get (makings role (before ++ x ∷ []) acts) k ≡ Some t → IsNew (before ++ x ∷ []) t
      later role k e = each_got (IsNew (before ++ x ∷ [])) (makings role (before ++ x ∷ []) acts) k t (all_new role (before ++ x ∷ []) acts) e

      by : (slice_get (mine r before x) i ≡ Some t) ⊎ ((k : ℕ) × (i ≡ length (mine r before x) + k) × (slice_get (makings r (before ++ x ∷ []) acts) k ≡ Some t))
          → (slice_get (mine s before x) j ≡ Some t) ⊎ ((k : ℕ) × (j ≡ length (mine s before x) + k) × (slice_get (makings s (before ++ x ∷ []) acts) k ≡ Some t))
          → ((k l : ℕ) → slice_get (makings r (before ++ x ∷ []) acts) k ≡ Some t → slice_get (makings s (before ++ x ∷ []) acts) l ≡ Some t → (r ≡ s) × (k ≡ l)) → (r ≡ s) × (i ≡ j)
      by (inl e) (inl d) next = mine_once r s before x i j t e d
      by (inl e) (inr (k, is, d)) next = absurd (not_later before x t (here r i e) (later s k d))
      by (inr (k, is, e)) (inl d) next = absurd (not_later before x t (here s j d) (later r k e))
      by (inr (k, is, e)) (inr (l, js, d)) next =
          let same = next k l e d in
          let long : length (mine r before x) ≡ length (mine s before x) = ap (λ role. length (mine role before x)) same.0 in
          (same.0, omega (arith, is, js, same.1, long))

  pub new_at : (role i : ℕ) (t : Tree) → slice_get (made (events_of p role)) i ≡ Some t → IsNew [] t
  new_at role i t e =
      let e' : slice_get (makings role [] p.actions) i ≡ Some t = ap (λ l. slice_get l i) (sym (all_makings role)) ∙ e in
      each_got (IsNew []) (makings role [] p.actions) i t (all_new role [] p.actions) e'

  pub one_maker : (r s i j : ℕ) (t : Tree) → slice_get (made (events_of p r)) i ≡ Some t → slice_get (made (events_of p s)) j ≡ Some t → (r ≡ s) × (i ≡ j)
  one_maker r s i j t e d =
      made_once r s [] p.actions i j t (ap (λ l. slice_get l i) (sym (all_makings r)) ∙ e) (ap (λ l. slice_get l j) (sym (all_makings s)) ∙ d)

abbrev pub is_leaf : ℕ → Tree → Bool
is_leaf a (leaf b) = b == a
is_leaf a (node o ts) = false

pub leaf_is : (a : ℕ) (t : Tree) → is_leaf a t ≡ true → t ≡ leaf a
leaf_is a (leaf b) e = ap leaf (eqb-true b a e)
leaf_is a (node o ts) e = cc

-- ---- the draw of a name's maker, among the first roles

module _ (p : ProtocolValue) (seed : List ℕ) where
  abbrev drawn : ℕ → ℕ → List ℕ
  drawn zero a = []
  drawn (suc n) a = option_map_or (draw_of seed n) (position_from (is_leaf a) 0 (made (events_of p n))) (drawn n a)

  drawn_is : (r i a : ℕ) → slice_get (made (events_of p r)) i ≡ Some (leaf a) → (n : ℕ) → r < n → drawn n a ≡ draw_of seed r i
  drawn_is r i a at zero less = absurd (omega arith)
  drawn_is r i a at (suc n) less = by (position_from (is_leaf a) 0 (made (events_of p n))) refl (drawn_is r i a at n) where
    by : (o : Option ℕ) → position_from (is_leaf a) 0 (made (events_of p n)) ≡ o → (r < n → drawn n a ≡ draw_of seed r i) → option_map_or (draw_of seed n) o (drawn n a) ≡ draw_of seed r i
    by (Some j) e before =
        let f = found (is_leaf a) 0 (made (events_of p n)) j e in
        let there : slice_get (made (events_of p n)) f.0 ≡ Some (leaf a) = f.3 ∙ ap Some (leaf_is a f.1 f.4) in
        let same = one_maker p n r f.0 i (leaf a) there at in
        let j_is : j ≡ i = omega (arith, f.2, same.1) in
        ap (λ k. draw_of seed k j) same.0 ∙ ap (draw_of seed r) j_is
    by None e before = before (another (r == n) refl) where
      another : (b : Bool) → (r == n) ≡ b → r < n
      another true f =
          let same : r ≡ n = eqb-true r n f in
          absurd (not_found (is_leaf a) 0 (made (events_of p n)) e i (leaf a) (ap (λ k. slice_get (made (events_of p k)) i) (sym same) ∙ at) (nat_eq-same a))
      another false f = let other = eqb-false r n f in grind (arith, other, less)

  drawn_bytes : (n a : ℕ) → IsBytes (drawn n a)
  drawn_bytes zero a = IsBytes-pass [] refl
  drawn_bytes (suc n) a = by (position_from (is_leaf a) 0 (made (events_of p n))) (drawn_bytes n a) where
    by : (o : Option ℕ) → IsBytes (drawn n a) → IsBytes (option_map_or (draw_of seed n) o (drawn n a))
    by None before = before
    by (Some j) before = IsBytes-pass (draw_of seed n j) (bytes-draw_of seed n j)

-- ---- and the values that are given

-- the value that is given for a name, or else its maker's draw
abbrev pub honest_atom : Cast → ℕ → List ℕ
honest_atom c a = cond (occurs (known_terms c.protocol) a) (given c a) (drawn c.protocol c.seed (length c.protocol.roles) a)

module _ (c : Cast) (count : length c.values ≡ length (known_atoms c.protocol)) (bytes : AllByRecursion IsBytes c.values) where
  value_bytes : (o : Option ℕ) → IsBytes (unwrap_or (option_and_then (slice_get c.values) o) [])
  value_bytes None = IsBytes-pass [] refl
  value_bytes (Some i) = by (slice_get c.values i) refl where
    by : (v : Option (List ℕ)) → slice_get c.values i ≡ v → IsBytes (unwrap_or v [])
    by None e = IsBytes-pass [] refl
    by (Some v) e = each_got IsBytes c.values i v bytes e

  strings : (a : ℕ) → IsBytes (honest_atom c a)
  strings a = by (occurs (known_terms c.protocol) a) where
    by : (b : Bool) → IsBytes (cond b (given c a) (drawn c.protocol c.seed (length c.protocol.roles) a))
    by true = value_bytes (position_from (λ b. b == a) 0 (known_atoms c.protocol))
    by false = drawn_bytes c.protocol c.seed (length c.protocol.roles) a

  given_at : (i a : ℕ) → slice_get (known_atoms c.protocol) i ≡ Some a → slice_get c.values i ≡ Some (given c a)
  given_at i a at = by (position_from (λ b. b == a) 0 (known_atoms c.protocol)) refl where
    atoms_once : Once (known_atoms c.protocol)
    atoms_once = once (known_atoms c.protocol) (distinct_apart [] (atoms_in_each (known_terms c.protocol))).1

    by : (o : Option ℕ) → position_from (λ b. b == a) 0 (known_atoms c.protocol) ≡ o → slice_get c.values i ≡ Some (unwrap_or (option_and_then (slice_get c.values) o) [])
    by None e = absurd (not_found (λ b. b == a) 0 (known_atoms c.protocol) e i a at (nat_eq-same a))
    by (Some j) e =
        let f = found (λ b. b == a) 0 (known_atoms c.protocol) j e in
        let place = atoms_once f.0 i a (f.3 ∙ ap Some (eqb-true f.1 a f.4)) at in
        let same : j ≡ i = omega (arith, f.2, place) in
        let there = slice_get-there c.values i (let less = got_within (known_atoms c.protocol) i a at in omega (arith, less, count)) in
        there.1 ∙ ap (λ o. Some (unwrap_or o [])) (sym there.1 ∙ ap (slice_get c.values) (sym same))

  known : (i a : ℕ) → slice_get (known_atoms c.protocol) i ≡ Some a → slice_get c.values i ≡ Some (honest_atom c a)
  known i a at =
      let stands : occurs (known_terms c.protocol) a ≡ true =
      each_got (λ y. has (atoms_in_each (known_terms c.protocol)) y ≡ true) (known_atoms c.protocol) i a (distinct_in [] (atoms_in_each (known_terms c.protocol))) at in
      given_at i a at ∙ ap (λ b. Some (cond b (given c a) (drawn c.protocol c.seed (length c.protocol.roles) a))) (sym stands)

  made_honest : (role i : ℕ) (t : Tree) → role < length c.protocol.roles → slice_get (made (events_of c.protocol role)) i ≡ Some t → draw_of c.seed role i ≡ honest_bytes c.protocol (honest_atom c) t
  made_honest role i t less at =
      let new = new_at c.protocol role i t at in
      let at' : slice_get (made (events_of c.protocol role)) i ≡ Some (leaf new.atom) = at ∙ ap Some new.is in
      sym (drawn_is c.protocol c.seed role i new.atom at' (length c.protocol.roles) less)
      ∙ ap (λ b. cond b (given c new.atom) (drawn c.protocol c.seed (length c.protocol.roles) new.atom)) (sym new.unknown)
      ∙ ap (honest_bytes c.protocol (honest_atom c)) (sym new.is)

  pub are_honest : AreHonest c (honest_atom c)
  are_honest = record { strings = strings; known = known; made = made_honest }
