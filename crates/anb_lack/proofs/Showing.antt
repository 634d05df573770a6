-- What the lists of a text are worth.
use Rattle.std.proofs.Common.{◌≡◌, ℕ, ◌<◌, ◌≤◌, List, [], ◌∷◌, ◌++◌, length, map, take, drop, Bool, true, false, ◌&&◌, Some, None, Option, refl, sym, ap, ◌∙◌, subst, arith, inl, inr, ◌⊎◌}
use Rattle.std.specs.Prelude.{cond, filter, not}
use Rattle.std.specs.List.{AllByRecursion, flat_map, list_all, list_any}
use Rattle.std.proofs.lemmas.List.{take_all}
use Rattle.std.proofs.Math.Seq.{take-append_seam}
use Rattle.anb_lemmas.proofs.Each.{each_by, each_in_both}
use Rattle.anb_lemmas.proofs.Numbers.{below_or_not}
use Rattle.anb_term.specs.Operator.{keys, undoable}
use Rattle.anb_term.specs.Tree.{Tree, leaf, node, Trees, none, more, list_of, tree_eqb}
use Rattle.anb_term.specs.View.{tree_of}
use Rattle.anb_term.proofs.Lists.{all_drop, all_take}
use Rattle.anb_term.specs.Composes.{Among, Composes}
use Rattle.anb_term.specs.Agree.{HasRecipe}
use Rattle.anb_algebra.specs.ByteMeaning.{has_operator}
use Rattle.anb_protocol.specs.Choices.{each_after}
use Rattle.anb_protocol.specs.Names.{distinct, first_new}
use Rattle.anb_protocol.specs.Plans.{PlanEvent, to_know, to_make, to_receive, to_send, plan_of, term_in}
use Rattle.anb_protocol.specs.Protocols.{ProtocolValue}
use Rattle.anb_protocol.specs.Texts.{IsTermOf, AreTermsOf}
use Rattle.anb_compile.specs.Unsent.{labels_of}
use Rattle.anb_reason.specs.declared.reasons.Refusal.{Refusal}
use Rattle.anb_reason.specs.Decided.{composes}
use Rattle.anb_reason.specs.Reach.{IsReason}
use Rattle.anb_reason.specs.Shut.{ShutHasNone}
use Rattle.anb_reason.proofs.Deciding.{among_all, decided, decides}
use Rattle.anb_lack.specs.declared.origins.Origin.{Origin}
use Rattle.anb_lack.specs.declared.origins.Origin.TheVariants.{Known, Received}
use Rattle.anb_lack.specs.Laws.{HadIsFrom, HadIsMade, IsMade, KeysAreNotMade, LackingIsNotMade, MessageIsLacking}
use Rattle.anb_lack.specs.Opened.{all_of, are_had, come_out, comes_out, first_lacking, holds, is_locked, missing_key}
use Rattle.anb_lack.specs.Origins.{HasBy, IsOrigin}
use Rattle.anb_lack.specs.Parts.{lacking, lacks, parts, parts_of_all}
use Rattle.anb_lack.specs.Rooted.{HasTerms, LockHasTerms}
use Rattle.anb_lack.specs.Roots.{LockValue, RootValue, lock_around, lock_of, locks, locks_at, root_in, rooted, roots}
use Rattle.anb_lack.proofs.Having.{has_later}

among_split : (xs ys : List Tree) (u : Tree) → Among (xs ++ ys) u → Among xs u ⊎ Among ys u
among_split [] ys u h = inr h
among_split (x ∷ xs) ys u (inl e) = inl (inl e)
among_split (x ∷ xs) ys u (inr h) = step (among_split xs ys u h) where
  step : Among xs u ⊎ Among ys u → Among (x ∷ xs) u ⊎ Among ys u
  step (inl a) = inl (inr a)
  step (inr b) = inr b

-- ---- what the role has

pub had_is_from : HadIsFrom
had_is_from p r reason =
    among_all (λ t. (n : ℕ) (e : PlanEvent) → IsOrigin p (plan_of p r.role) t n e → n < length reason.unsent.before) r.terms
    (λ u h n e origin. by u n e (reason.reach.held u h).1 origin (below_or_not n (length reason.unsent.before))) where
      front : take (length reason.unsent.before) (plan_of p r.role) ≡ reason.unsent.before
      front = ap (take (length reason.unsent.before)) reason.unsent.plan ∙ take-append_seam reason.unsent.before (to_send r.action reason.unsent.message ∷ reason.unsent.after)

      by : (u : Tree) (n : ℕ) (e : PlanEvent) → HasRecipe (has_operator p.formats) (labels_of reason.unsent.before) u → IsOrigin p (plan_of p r.role) u n e
          → (n < length reason.unsent.before) ⊎ (length reason.unsent.before ≤ n) → n < length reason.unsent.before
      by u n e has origin (inl less) = less
      by u n e has origin (inr later) =
          absurd (origin.new (length reason.unsent.before) later (subst (λ es. HasRecipe (has_operator p.formats) (labels_of es) u) (sym front) has))

-- by the plan's end it has them still
pub had_at_end : (p : ProtocolValue) (r : Refusal) → IsReason p r → AllByRecursion (HasBy p (plan_of p r.role) (length (plan_of p r.role))) r.terms
had_at_end p r reason =
    among_all (HasBy p (plan_of p r.role) (length (plan_of p r.role))) r.terms
    (λ u h. subst (λ es. HasRecipe (has_operator p.formats) (labels_of es) u) (sym whole) (has_later p reason.unsent.before (to_send r.action reason.unsent.message ∷ reason.unsent.after) u (reason.reach.held u h).1)) where
      whole : take (length (plan_of p r.role)) (plan_of p r.role) ≡ reason.unsent.before ++ (to_send r.action reason.unsent.message ∷ reason.unsent.after)
      whole = take_all (length (plan_of p r.role)) (plan_of p r.role) (omega arith) ∙ reason.unsent.plan

pub had_is_made : HadIsMade
had_is_made p r reason = among_all (IsMade p r reason) r.terms (λ u h. (reason.reach.held u h).1)

-- ---- what is listed as lacking

module _ (P : Tree → Type 0) where
  first_all : (before : List Tree) (x : Tree) (b : Bool) → P x → AllByRecursion P (cond b [] (x ∷ []))
  first_all before x true h = tt
  first_all before x false h = (h, tt)

  all_behind : (xs ys : List Tree) → AllByRecursion P xs → AllByRecursion P ys → AllByRecursion P (xs ++ ys)
  all_behind [] ys a b = b
  all_behind (x ∷ xs) ys a b = (a.0, all_behind xs ys a.1 b)

  distinct_all : (before xs : List Tree) → AllByRecursion P xs → AllByRecursion P (each_after (first_new tree_eqb) before xs)
  distinct_all before [] all = tt
  distinct_all before (x ∷ xs) all =
      all_behind (first_new tree_eqb before x) _ (first_all before x (list_any (λ y. tree_eqb y x) before) all.0) (distinct_all (before ++ x ∷ []) xs all.1)

  filter_one : (b c : Bool) (x : Tree) (xs : List Tree) → c ≡ b → (c ≡ true → P x) → AllByRecursion P xs → AllByRecursion P (cond b (x ∷ xs) xs)
  filter_one true c x xs is one rest = (one is, rest)
  filter_one false c x xs is one rest = rest

  filter_all : (f : Tree → Bool) (xs : List Tree) → ((x : Tree) → Among xs x → f x ≡ true → P x) → AllByRecursion P (filter f xs)
  filter_all f [] each = tt
  filter_all f (x ∷ xs) each = filter_one (f x) (f x) x (filter f xs) refl (each x (inl refl)) (filter_all f xs (λ y h. each y (inr h)))

  -- what holds of the parts that don't compose holds of what is listed
  pub lacking_all : (S : List Tree) (t : Tree) → ((u : Tree) → Among (parts t) u → lacks S u ≡ true → P u) → AllByRecursion P (lacking S t)
  lacking_all S t each = distinct_all [] (filter (lacks S) (parts t)) (filter_all (lacks S) (parts t) each)

not_composed : (S : List Tree) (u : Tree) → lacks S u ≡ true → Composes S u → ⊥
not_composed S u is c = (let e = decides S u c in let f : not true ≡ true = ap not (sym e) ∙ is in cc)

pub lacking_is_not_made : ShutHasNone → LackingIsNotMade
lacking_is_not_made shown p r reason =
    lacking_all (λ u. IsMade p r reason u → ⊥) r.terms (tree_of r.term)
    (λ u h is made. shown (has_operator p.formats) (labels_of reason.unsent.before) r.terms u (record { labels = reason.shut.labels; parts = reason.shut.parts; apart = not_composed r.terms u is }) made)

-- the message stands first
parts_first : (t : Tree) → (others : List Tree) × (parts t ≡ t ∷ others)
parts_first (leaf n) = ([], refl)
parts_first (node o ts) = (parts_of_all ts, refl)

pub message_is_lacking : MessageIsLacking
message_is_lacking p r reason =
    let t = tree_of r.term in
    let rest = parts_first t in
    let is : lacks r.terms t ≡ true = not_true (composes r.terms t) (λ e. reason.shut.apart (decided r.terms t e)) in
    let all : filter (lacks r.terms) (parts t) ≡ t ∷ filter (lacks r.terms) rest.0 =
    ap (filter (lacks r.terms)) rest.1 ∙ ap (λ b. cond b (t ∷ filter (lacks r.terms) rest.0) (filter (lacks r.terms) rest.0)) is in
    (each_after (first_new tree_eqb) (t ∷ []) (filter (lacks r.terms) rest.0), ap (distinct tree_eqb) all) where
      not_true : (b : Bool) → (b ≡ true → ⊥) → not b ≡ true
      not_true true h = absurd (h refl)
      not_true false h = refl

-- ---- the keys that are asked for

-- what holds of each of these
each_of_all : {A B : Type 0} (P : B → Type 0) (Q : A → Type 0) (f : A → List B) → ((x : A) → Q x → AllByRecursion P (f x)) → (xs : List A) → AllByRecursion Q xs → AllByRecursion P (flat_map f xs)
each_of_all P Q f one [] all = tt
each_of_all P Q f one (x ∷ xs) all = each_in_both P (f x) (flat_map f xs) (one x all.0) (each_of_all P Q f one xs all.1)

each_of_any : {A B : Type 0} (P : B → Type 0) (f : A → List B) → ((x : A) → AllByRecursion P (f x)) → (xs : List A) → AllByRecursion P (flat_map f xs)
each_of_any P f one [] = tt
each_of_any P f one (x ∷ xs) = each_in_both P (f x) (flat_map f xs) (one x) (each_of_any P f one xs)

module _ (S : List Tree) where
  key_lacks : (t : Tree) (ks : List Tree) → list_all (composes S) ks ≡ false → composes S (first_lacking S t ks) ≡ false
  key_lacks t [] off = cc
  key_lacks t (k ∷ ks) off = by (composes S k) refl (key_lacks t ks) where
    by : (b : Bool) → composes S k ≡ b → (list_all (composes S) ks ≡ false → composes S (first_lacking S t ks) ≡ false) → composes S (cond b (first_lacking S t ks) k) ≡ false
    by true is later = later (sym (ap (λ c. c && list_all (composes S) ks) is) ∙ off)
    by false is later = is

  locked_lacks : (t : Tree) → is_locked S t ≡ true → composes S (missing_key S t) ≡ false
  locked_lacks (leaf n) is = cc
  locked_lacks (node o ts) is = key_lacks (node o ts) (take (keys o) (list_of ts)) (not_had (undoable o) (list_all (composes S) (take (keys o) (list_of ts))) is) where
    not_had : (a b : Bool) → (a && not b) ≡ true → b ≡ false
    not_had a false is = refl
    not_had true true is = cc
    not_had false true is = cc

  abbrev Lacks : LockValue → Type 0
  Lacks l = composes S l.key ≡ false

  filtered_lack : (from : Origin) (ts : List Tree) → AllByRecursion Lacks (map (lock_of S from) (filter (is_locked S) ts))
  filtered_lack from [] = tt
  filtered_lack from (t ∷ ts) = by (is_locked S t) refl (filtered_lack from ts) where
    by : (b : Bool) → is_locked S t ≡ b → AllByRecursion Lacks (map (lock_of S from) (filter (is_locked S) ts)) → AllByRecursion Lacks (map (lock_of S from) (cond b (t ∷ filter (is_locked S) ts) (filter (is_locked S) ts)))
    by true is later = (locked_lacks t is, later)
    by false is later = later

  event_lacks : (e : PlanEvent) → AllByRecursion Lacks (locks_at S e)
  event_lacks (to_know t) = filtered_lack Known (comes_out (composes S) t)
  event_lacks (to_make t) = tt
  event_lacks (to_send action t) = tt
  event_lacks (to_receive action t) = filtered_lack (Received action) (comes_out (composes S) t)

  locks_lack : (plan : List PlanEvent) → AllByRecursion Lacks (locks S plan)
  locks_lack plan = each_of_any Lacks (locks_at S) event_lacks plan

  abbrev KeyLacks : RootValue → Type 0
  KeyLacks r = composes S r.key ≡ false

  not_not : (b : Bool) → not b ≡ true → b ≡ false
  not_not true h = cc
  not_not false h = refl

  itself_lacks : (v : Tree) → lacks S v ≡ true → AllByRecursion KeyLacks (rooted v None)
  itself_lacks (leaf n) h = (not_not (composes S (leaf n)) h, tt)
  itself_lacks (node o ts) h = tt

  picked_lacks : (u : Tree) (l : LockValue) (o : Option LockValue) (b : Bool) → Lacks l → AllByRecursion KeyLacks (rooted u o) → AllByRecursion KeyLacks (rooted u (cond b (Some l) o))
  picked_lacks u l o true h later = (h, tt)
  picked_lacks u l o false h later = later

  root_lacks : (ls : List LockValue) (u : Tree) → AllByRecursion Lacks ls → lacks S u ≡ true → AllByRecursion KeyLacks (root_in ls u)
  root_lacks [] u all is = itself_lacks u is
  root_lacks (l ∷ ls) u all is = picked_lacks u l (lock_around ls u) (holds l.term u) all.0 (root_lacks ls u all.1 is)

  roots_lack : (plan : List PlanEvent) (us : List Tree) → AllByRecursion (λ u. lacks S u ≡ true) us → AllByRecursion KeyLacks (roots S plan us)
  roots_lack plan us all = each_of_all KeyLacks (λ u. lacks S u ≡ true) (root_in (locks S plan)) (λ u is. root_lacks (locks S plan) u (locks_lack plan) is) us all

pub keys_are_not_made : ShutHasNone → KeysAreNotMade
keys_are_not_made shown p r reason =
    let before = reason.unsent.before in
    let lacking_lacks = lacking_all (λ u. lacks r.terms u ≡ true) r.terms (tree_of r.term) (λ u h is. is) in
    each_by (KeyLacks r.terms) (λ (root : RootValue). IsMade p r reason root.key → ⊥)
    (λ root is made. shown (has_operator p.formats) (labels_of before) r.terms root.key
    (record { labels = reason.shut.labels; parts = reason.shut.parts; apart = λ c. (let e = decides r.terms root.key c in let never : true ≡ false = sym e ∙ is in cc) }) made)
    (roots r.terms before (lacking r.terms (tree_of r.term))) (roots_lack r.terms before (lacking r.terms (tree_of r.term)) lacking_lacks)

-- ---- parts are terms of the protocol

mutual
  pub parts_of_protocol : (p : ProtocolValue) (t u : Tree) → IsTermOf p t → Among (parts t) u → IsTermOf p u
  parts_of_protocol p (leaf n) u h (inl e) = subst (IsTermOf p) e h
  parts_of_protocol p (leaf n) u h (inr never) = absurd never
  parts_of_protocol p (node o ts) u h (inl e) = subst (IsTermOf p) e h
  parts_of_protocol p (node o ts) u h (inr later) = all_parts_of_protocol p ts u h.2 later

  all_parts_of_protocol : (p : ProtocolValue) (ts : Trees) (u : Tree) → AreTermsOf p ts → Among (parts_of_all ts) u → IsTermOf p u
  all_parts_of_protocol p none u h never = absurd never
  all_parts_of_protocol p (more t ts) u h among = elim (among_split (parts t) (parts_of_all ts) u among) [
    | inl a ↦ parts_of_protocol p t u h.0 a
    | inr b ↦ all_parts_of_protocol p ts u h.1 b
  ]

pub lacking_of_protocol : (p : ProtocolValue) (S : List Tree) (t : Tree) → IsTermOf p t → AllByRecursion (IsTermOf p) (lacking S t)
lacking_of_protocol p S t h = lacking_all (IsTermOf p) S t (λ u among is. parts_of_protocol p t u h among)

-- ---- so are those of locks and roots

module _ (p : ProtocolValue) where
  opened_of_protocol : (n : ℕ) (lists : List (List Tree)) (b : Bool) → AllByRecursion (AllByRecursion (IsTermOf p)) lists → AllByRecursion (IsTermOf p) (cond b (all_of (drop n lists)) [])
  opened_of_protocol n lists false all = tt
  opened_of_protocol n lists true all = each_of_all (IsTermOf p) (AllByRecursion (IsTermOf p)) (λ l. l) (λ l one. one) (drop n lists) (all_drop (AllByRecursion (IsTermOf p)) n lists all)

  mutual
    out_of_protocol : (has : Tree → Bool) (t : Tree) → IsTermOf p t → AllByRecursion (IsTermOf p) (comes_out has t)
    out_of_protocol has (leaf n) h = (h, tt)
    out_of_protocol has (node o ts) h = (h, opened_of_protocol (keys o) (come_out has ts) (undoable o && are_had has o ts) (all_out_of_protocol has ts h.2))

    all_out_of_protocol : (has : Tree → Bool) (ts : Trees) → AreTermsOf p ts → AllByRecursion (AllByRecursion (IsTermOf p)) (come_out has ts)
    all_out_of_protocol has none h = tt
    all_out_of_protocol has (more t ts) h = (out_of_protocol has t h.0, all_out_of_protocol has ts h.1)

  each_listed : (ts : Trees) → AreTermsOf p ts → AllByRecursion (IsTermOf p) (list_of ts)
  each_listed none h = tt
  each_listed (more t ts) h = (h.0, each_listed ts h.1)

  module _ (S : List Tree) where
    key_among : (t : Tree) (ks : List Tree) → IsTermOf p t → AllByRecursion (IsTermOf p) ks → IsTermOf p (first_lacking S t ks)
    key_among t [] h all = h
    key_among t (k ∷ ks) h all = by (composes S k) (key_among t ks h all.1) where
      by : (b : Bool) → IsTermOf p (first_lacking S t ks) → IsTermOf p (cond b (first_lacking S t ks) k)
      by true later = later
      by false later = all.0

    key_of_protocol : (t : Tree) → IsTermOf p t → IsTermOf p (missing_key S t)
    key_of_protocol (leaf n) h = h
    key_of_protocol (node o ts) h = key_among (node o ts) (take (keys o) (list_of ts)) h (all_take (IsTermOf p) (keys o) (list_of ts) (each_listed ts h.2))

    filtered_of_protocol : (from : Origin) (ts : List Tree) → AllByRecursion (IsTermOf p) ts → AllByRecursion (LockHasTerms p) (map (lock_of S from) (filter (is_locked S) ts))
    filtered_of_protocol from [] all = tt
    filtered_of_protocol from (t ∷ ts) all = by (is_locked S t) (filtered_of_protocol from ts all.1) where
      by : (b : Bool) → AllByRecursion (LockHasTerms p) (map (lock_of S from) (filter (is_locked S) ts)) → AllByRecursion (LockHasTerms p) (map (lock_of S from) (cond b (t ∷ filter (is_locked S) ts) (filter (is_locked S) ts)))
      by true later = ((all.0, key_of_protocol t all.0), later)
      by false later = later

    event_of_protocol : (e : PlanEvent) → IsTermOf p (term_in e) → AllByRecursion (LockHasTerms p) (locks_at S e)
    event_of_protocol (to_know t) h = filtered_of_protocol Known (comes_out (composes S) t) (out_of_protocol (composes S) t h)
    event_of_protocol (to_make t) h = tt
    event_of_protocol (to_send action t) h = tt
    event_of_protocol (to_receive action t) h = filtered_of_protocol (Received action) (comes_out (composes S) t) (out_of_protocol (composes S) t h)

    itself_of_protocol : (v : Tree) → IsTermOf p v → AllByRecursion (HasTerms p) (rooted v None)
    itself_of_protocol (leaf n) h = ((h, tt, h), tt)
    itself_of_protocol (node o ts) h = tt

    picked_of_protocol : (u : Tree) (l : LockValue) (o : Option LockValue) (b : Bool) → IsTermOf p u → LockHasTerms p l → AllByRecursion (HasTerms p) (rooted u o) → AllByRecursion (HasTerms p) (rooted u (cond b (Some l) o))
    picked_of_protocol u l o true is h later = ((is, h, h.1), tt)
    picked_of_protocol u l o false is h later = later

    root_of_protocol : (ls : List LockValue) (u : Tree) → AllByRecursion (LockHasTerms p) ls → IsTermOf p u → AllByRecursion (HasTerms p) (root_in ls u)
    root_of_protocol [] u all is = itself_of_protocol u is
    root_of_protocol (l ∷ ls) u all is = picked_of_protocol u l (lock_around ls u) (holds l.term u) is all.0 (root_of_protocol ls u all.1 is)

    pub roots_of_protocol : (plan : List PlanEvent) (us : List Tree) → AllByRecursion (λ e. IsTermOf p (term_in e)) plan → AllByRecursion (IsTermOf p) us → AllByRecursion (HasTerms p) (roots S plan us)
    roots_of_protocol plan us terms all =
        let ls = each_of_all (LockHasTerms p) (λ e. IsTermOf p (term_in e)) (locks_at S) event_of_protocol plan terms in
        each_of_all (HasTerms p) (IsTermOf p) (root_in (locks S plan)) (λ u is. root_of_protocol (locks S plan) u ls is) us all
