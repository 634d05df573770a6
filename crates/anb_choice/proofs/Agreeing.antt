-- Protocols of narrations that begin alike have the same plans up to there.
use Rattle.std.proofs.Common.{◌≡◌, ℕ, zero, suc, ◌+◌, ◌<◌, ◌≤◌, List, [], ◌∷◌, ◌++◌, length, map, take, Bool, true, false, cond, Option, Some, None, refl, sym, ap, ◌∙◌, arith, append_assoc, length-append}
use Rattle.std.specs.Prelude.{◌==◌, ◌&&◌, ◌||◌, not, nat_le, nat_eq, filter, slice_get, unwrap_or}
use Rattle.std.specs.Option.{option_map_or}
use Rattle.std.specs.List.{AllByRecursion, flat_map, list_all, list_any, position_from}
use Rattle.std.specs.Str.{bytes_eq}
use Rattle.std.proofs.lemmas.Bool.Decides.{nat_tests}
use Rattle.std.proofs.lemmas.List.{map-append, length-map}
use Rattle.anb_lemmas.proofs.Items.{bytes_are_one, bytes_eq-same}
use Rattle.anb_lemmas.proofs.Numbers.{nat_eq-same, nat_eq-differs}
use Rattle.anb_index.specs.Places.{among}
use Rattle.anb_syntax.specs.Grammar.{ActionItem, FormatItem, KnowItem, Narration, TypeItem}
use Rattle.anb_term.specs.Tree.{Tree, leaf, list_of}
use Rattle.anb_protocol.specs.Choices.{each_after}
use Rattle.anb_protocol.specs.declared.parts.Atom.{Atom}
use Rattle.anb_protocol.specs.Checks.{is_agent}
use Rattle.anb_protocol.specs.Names.{atoms, distinct, item_atoms, roles}
use Rattle.anb_protocol.specs.Plans.{PlanEvent, to_know, to_make, to_send, to_receive, events_at, is_made, made, messages, names_number_or_key, occurs, plan_of}
use Rattle.anb_protocol.specs.Protocols.{ActionValue, action_of, format_value, formats_of, line_of, protocol_of, resolved, resolved_all, role_number}
use Rattle.anb_protocol.specs.Texts.{atoms_in, known_by, known_terms}
use Rattle.anb_protocol.proofs.Building.{ends_are_roles}
use Rattle.anb_protocol.proofs.PlaceLemmas.{name_placed, place_none}
use Rattle.anb_protocol.proofs.SeenLemmas.{occurs-append}
use Rattle.anb_choice.specs.Lawful.{IsLike, are_same_names, is_of_stem, plan_named, stem_len, stem_part}
use Rattle.anb_choice.proofs.Names.{same_names_have}
use Rattle.anb_choice.proofs.Straights.{stem_of}

-- ---- roles by their names

-- a name that stands among these stands at its number
pub stands_at : (names : List (List ℕ)) (x : List ℕ) → among names x ≡ true → slice_get names (role_number names x) ≡ Some x
stands_at names x is = by (position_from (λ y. bytes_eq y x) 0 names) refl where
  by : (o : Option ℕ) → position_from (λ y. bytes_eq y x) 0 names ≡ o → slice_get names (role_number names x) ≡ Some x
  by None e = let never : true ≡ false = sym is ∙ place_none (λ y. bytes_eq y x) 0 names e in absurd (cc)
  by (Some i) e = ap (λ o. slice_get names (unwrap_or o 0)) e ∙ name_placed names x (Some i) (sym e)

some_one : (x y : List ℕ) → Some x ≡ Some y → x ≡ y
some_one x y e = cc

numbers_same : (names : List (List ℕ)) (x y : List ℕ) → among names x ≡ true → among names y ≡ true → (role_number names y == role_number names x) ≡ bytes_eq y x
numbers_same names x y a b = by (bytes_eq y x) refl where
  by : (v : Bool) → bytes_eq y x ≡ v → (role_number names y == role_number names x) ≡ bytes_eq y x
  by true e = ap (λ z. role_number names z == role_number names x) (bytes_are_one y x e) ∙ nat_eq-same (role_number names x) ∙ sym e
  by false e =
      nat_eq-differs (role_number names y) (role_number names x)
      (λ same. let one = some_one y x (sym (stands_at names y b) ∙ ap (slice_get names) same ∙ stands_at names x a) in
      let never : true ≡ false = sym (bytes_eq-same x) ∙ ap (λ z. bytes_eq z x) (sym one) ∙ e in cc)
      ∙ sym e

mapped_at : {A B : Type 0} (f : A → B) (xs : List A) (i : ℕ) (x : A) → slice_get xs i ≡ Some x → slice_get (map f xs) i ≡ Some (f x)
mapped_at f [] i x e = absurd (cc)
mapped_at f (y ∷ xs) zero x e = let same : y ≡ x = cc in ap (λ z. Some (f z)) same
mapped_at f (y ∷ xs) (suc i) x e = mapped_at f xs i x e

-- ---- what a role does, by names

-- what a role does at an action that it sends, or receives
abbrev block : Bool → Bool → ℕ → List ℕ → Tree → List PlanEvent
block sends hears number names t = cond sends (map (λ a. to_make (leaf a)) names ++ to_send number t ∷ []) (cond hears (to_receive number t ∷ []) [])

filter_by : (f g : ℕ → Bool) → ((a : ℕ) → f a ≡ g a) → (xs : List ℕ) → filter f xs ≡ filter g xs
filter_by f g same [] = refl
filter_by f g same (x ∷ xs) = ap (λ b. cond b (x ∷ filter f xs) (filter f xs)) (same x) ∙ by (g x) (filter_by f g same xs) where
  by : (b : Bool) → filter f xs ≡ filter g xs → cond b (x ∷ filter f xs) (filter f xs) ≡ cond b (x ∷ filter g xs) (filter g xs)
  by true e = ap (λ (l : List ℕ). x ∷ l) e
  by false e = e

module _ (n : Narration) where
  abbrev message_of : ActionItem → Tree
  message_of a = resolved (atoms n) (formats_of n) a.message

  abbrev terms_of : List ℕ → List Tree
  terms_of role = list_of (resolved_all (atoms n) (formats_of n) (line_of n.knows role))

  -- a name is made where it stands neither in knowledge nor in a message before
  abbrev makes_now : List ActionItem → ℕ → Bool
  makes_now before a = names_number_or_key (protocol_of n) a && not (occurs (known_terms (protocol_of n)) a) && not (occurs (map message_of before) a)

  abbrev named : List ℕ → List ActionItem → ActionItem → List PlanEvent
  named x before a =
      block (bytes_eq a.from x) (bytes_eq a.to x) (length before + 1) (filter (makes_now before) (distinct nat_eq (atoms_in (message_of a)))) (message_of a)

  abbrev valued : ActionItem → ActionValue
  valued a = action_of (atoms n) (formats_of n) (roles n) a

  messages_are : (before : List ActionItem) → messages (map valued before) ≡ map message_of before
  messages_are [] = refl
  messages_are (a ∷ before) = ap (λ l. message_of a ∷ l) (messages_are before)

  module _ (x : List ℕ) (is : among (roles n) x ≡ true) where
    abbrev place : ℕ
    place = role_number (roles n) x

    event_named : (before : List ActionItem) (a : ActionItem) → among (roles n) a.from ≡ true → among (roles n) a.to ≡ true → events_at (protocol_of n) place (map valued before) (valued a) ≡ named x before a
    event_named before a from to =
        ap (λ b. block b (role_number (roles n) a.to == place) (length (map valued before) + 1) (made (protocol_of n) (map valued before) (message_of a)) (message_of a)) (numbers_same (roles n) x a.from is from)
        ∙ ap (λ b. block (bytes_eq a.from x) b (length (map valued before) + 1) (made (protocol_of n) (map valued before) (message_of a)) (message_of a)) (numbers_same (roles n) x a.to is to)
        ∙ ap (λ k. block (bytes_eq a.from x) (bytes_eq a.to x) (k + 1) (made (protocol_of n) (map valued before) (message_of a)) (message_of a)) (length-map before valued)
        ∙ ap (λ l. block (bytes_eq a.from x) (bytes_eq a.to x) (length before + 1) l (message_of a))
        (filter_by (is_made (protocol_of n) (map valued before)) (makes_now before)
        (λ b. ap (λ l. names_number_or_key (protocol_of n) b && not (occurs (known_terms (protocol_of n)) b) && not (occurs l b)) (messages_are before)) (distinct nat_eq (atoms_in (message_of a))))

    each_named : (before acts : List ActionItem) → AllByRecursion (λ (a : ActionItem). (among (roles n) a.from ≡ true) × (among (roles n) a.to ≡ true)) acts
        → each_after (events_at (protocol_of n) place) (map valued before) (map valued acts) ≡ each_after (named x) before acts
    each_named before [] all = refl
    each_named before (a ∷ acts) all =
        ap (λ l. l ++ each_after (events_at (protocol_of n) place) (map valued before ++ valued a ∷ []) (map valued acts)) (event_named before a all.0.0 all.0.1)
        ∙ ap (λ l. named x before a ++ each_after (events_at (protocol_of n) place) l (map valued acts)) (sym (map-append valued before (a ∷ [])))
        ∙ ap (λ l. named x before a ++ l) (each_named (before ++ a ∷ []) acts all.1)

    known_named : known_by (protocol_of n) place ≡ terms_of x
    unfolding protocol_of
    known_named = ap (λ o. option_map_or (λ (ts : List Tree). ts) o []) (mapped_at terms_of (roles n) place x (stands_at (roles n) x is))

    plan_is : plan_of (protocol_of n) place ≡ map to_know (terms_of x) ++ each_after (named x) [] n.actions
    unfolding plan_of protocol_of
    plan_is = ap (λ l. map to_know l ++ each_after (events_at (protocol_of n) place) [] (map valued n.actions)) known_named ∙ ap (λ l. map to_know (terms_of x) ++ l) (each_named [] n.actions (ends_are_roles n))

-- ---- the part of a plan before the choice

in_stem : (stem : ℕ) (e : PlanEvent) (es : List PlanEvent) → is_of_stem stem (e ∷ es) ≡ true → stem_part stem (e ∷ es) ≡ e ∷ stem_part stem es
in_stem stem e es t = ap (λ b. take (cond b (1 + stem_len stem es) 0) (e ∷ es)) t ∙ ap (λ k. take k (e ∷ es)) (next (stem_len stem es)) where
  next : (n : ℕ) → 1 + n ≡ suc n
  next n = omega arith

past_stem : (stem : ℕ) (e : PlanEvent) (es : List PlanEvent) → is_of_stem stem (e ∷ es) ≡ false → stem_part stem (e ∷ es) ≡ []
past_stem stem e es t = ap (λ b. take (cond b (1 + stem_len stem es) 0) (e ∷ es)) t

known_part : (stem : ℕ) (ts : List Tree) (es : List PlanEvent) → stem_part stem (map to_know ts ++ es) ≡ map to_know ts ++ stem_part stem es
known_part stem [] es = refl
known_part stem (t ∷ ts) es = in_stem stem (to_know t) (map to_know ts ++ es) refl ∙ ap (λ (l : List PlanEvent). to_know t ∷ l) (known_part stem ts es)

abbrev makes : List ℕ → List PlanEvent
makes names = map (λ a. to_make (leaf a)) names

made_stem : (stem : ℕ) (names : List ℕ) (number : ℕ) (t : Tree) (es : List PlanEvent) → is_of_stem stem (makes names ++ to_send number t ∷ es) ≡ nat_le number stem
made_stem stem [] number t es = refl
made_stem stem (a ∷ names) number t es = made_stem stem names number t es

made_part : (stem : ℕ) (names : List ℕ) (number : ℕ) (t : Tree) (es : List PlanEvent) → nat_le number stem ≡ true
    → stem_part stem (makes names ++ to_send number t ∷ es) ≡ makes names ++ to_send number t ∷ stem_part stem es
made_part stem [] number t es low = in_stem stem (to_send number t) es low
made_part stem (a ∷ names) number t es low =
    in_stem stem (to_make (leaf a)) (makes names ++ to_send number t ∷ es) (made_stem stem names number t es ∙ low) ∙ ap (λ (l : List PlanEvent). to_make (leaf a) ∷ l) (made_part stem names number t es low)

made_past : (stem : ℕ) (names : List ℕ) (number : ℕ) (t : Tree) (es : List PlanEvent) → nat_le number stem ≡ false → stem_part stem (makes names ++ to_send number t ∷ es) ≡ []
made_past stem [] number t es high = past_stem stem (to_send number t) es high
made_past stem (a ∷ names) number t es high = past_stem stem (to_make (leaf a)) (makes names ++ to_send number t ∷ es) (made_stem stem names number t es ∙ high)

block_part : (s h : Bool) (stem number : ℕ) (names : List ℕ) (t : Tree) (es : List PlanEvent) → nat_le number stem ≡ true
    → stem_part stem (block s h number names t ++ es) ≡ block s h number names t ++ stem_part stem es
block_part true h stem number names t es low =
    ap (stem_part stem) (append_assoc (makes names) (to_send number t ∷ []) es) ∙ made_part stem names number t es low ∙ sym (append_assoc (makes names) (to_send number t ∷ []) (stem_part stem es))
block_part false true stem number names t es low = in_stem stem (to_receive number t) es low
block_part false false stem number names t es low = refl

block_past : (s h : Bool) (stem number : ℕ) (names : List ℕ) (t : Tree) (es : List PlanEvent) → nat_le number stem ≡ false → stem_part stem es ≡ [] → stem_part stem (block s h number names t ++ es) ≡ []
block_past true h stem number names t es high none = ap (stem_part stem) (append_assoc (makes names) (to_send number t ∷ []) es) ∙ made_past stem names number t es high
block_past false true stem number names t es high none = past_stem stem (to_receive number t) es high
block_past false false stem number names t es high none = none

is_low : (a b : ℕ) → a ≤ b → nat_le a b ≡ true
is_low a b h = grind (arith, nat_tests, h)

is_high : (a b : ℕ) → b < a → nat_le a b ≡ false
is_high a b h = grind (arith, nat_tests, h)

module _ (n : Narration) (x : List ℕ) (stem : ℕ) where
  past_each : (before acts : List ActionItem) → stem ≤ length before → stem_part stem (each_after (named n x) before acts) ≡ []
  past_each before [] h = refl
  past_each before (a ∷ acts) h =
      block_past (bytes_eq a.from x) (bytes_eq a.to x) stem (length before + 1) (filter (makes_now n before) (distinct nat_eq (atoms_in (message_of n a)))) (message_of n a) (each_after (named n x) (before ++ a ∷ []) acts)
      (is_high (length before + 1) stem (omega (arith, h))) (past_each (before ++ a ∷ []) acts (omega (arith, h, length-append before (a ∷ []))))

  stem_each : (left : ℕ) (before acts : List ActionItem) → stem ≡ length before + left → stem_part stem (each_after (named n x) before acts) ≡ each_after (named n x) before (take left acts)
  stem_each zero before acts e = past_each before acts (omega (arith, e))
  stem_each (suc left) before [] e = refl
  stem_each (suc left) before (a ∷ acts) e =
      block_part (bytes_eq a.from x) (bytes_eq a.to x) stem (length before + 1) (filter (makes_now n before) (distinct nat_eq (atoms_in (message_of n a)))) (message_of n a) (each_after (named n x) (before ++ a ∷ []) acts)
      (is_low (length before + 1) stem (omega (arith, e)))
      ∙ ap (λ l. named n x before a ++ l) (stem_each left (before ++ a ∷ []) acts (omega (arith, e, length-append before (a ∷ []))))

  pub stem_is : (is : among (roles n) x ≡ true) → stem_part stem (plan_named (protocol_of n) x) ≡ map to_know (terms_of n x) ++ each_after (named n x) [] (take stem n.actions)
  unfolding protocol_of
  stem_is is = ap (stem_part stem) (plan_is n x is) ∙ known_part stem (terms_of n x) (each_after (named n x) [] n.actions) ∙ ap (λ l. map to_know (terms_of n x) ++ l) (stem_each stem [] n.actions (omega arith))

-- ---- two narrations

-- whether a test passes on some name depends on the names alone
any_name : (test : List ℕ → Bool) (x : List ℕ) (xs : List (List ℕ)) → among xs x ≡ true → test x ≡ true → list_any test xs ≡ true
any_name test x [] is t = absurd (cc)
any_name test x (y ∷ xs) is t = by (bytes_eq y x) refl is (λ later. any_name test x xs later t) where
  or_last : (a : Bool) {b : Bool} → b ≡ true → (a || b) ≡ true
  or_last true e = refl
  or_last false e = e

  by : (b : Bool) → bytes_eq y x ≡ b → (b || among xs x) ≡ true → (among xs x ≡ true → list_any test xs ≡ true) → (test y || list_any test xs) ≡ true
  by true e f later = ap (λ b. b || list_any test xs) (ap test (bytes_are_one y x e) ∙ t)
  by false e f later = or_last (test y) (later f)

any_among : (test : List ℕ → Bool) (xs ys : List (List ℕ)) → list_all (among ys) xs ≡ true → list_any test xs ≡ true → list_any test ys ≡ true
any_among test [] ys all t = absurd (cc)
any_among test (x ∷ xs) ys all t = by (among ys x) (test x) refl refl all t (any_among test xs ys) where
  by : (a b : Bool) → among ys x ≡ a → test x ≡ b → (a && list_all (among ys) xs) ≡ true → (b || list_any test xs) ≡ true → (list_all (among ys) xs ≡ true → list_any test xs ≡ true → list_any test ys ≡ true) → list_any test ys ≡ true
  by true true is t all some later = any_name test x ys is t
  by true false is t all some later = later all some
  by false b is t all some later = absurd (cc)

same_tests : (a b : Bool) → (a ≡ true → b ≡ true) → (b ≡ true → a ≡ true) → a ≡ b
same_tests true true f g = refl
same_tests true false f g = sym (f refl)
same_tests false true f g = g refl
same_tests false false f g = refl

and_both : (a b : Bool) → (a && b) ≡ true → (a ≡ true) × (b ≡ true)
and_both true true e = (refl, refl)
and_both true false e = absurd (cc)
and_both false b e = absurd (cc)

any_same : (test : List ℕ → Bool) (xs ys : List (List ℕ)) → are_same_names xs ys ≡ true → list_any test xs ≡ list_any test ys
any_same test xs ys same =
    let parts = and_both (list_all (among ys) xs) (list_all (among xs) ys) same in
    same_tests (list_any test xs) (list_any test ys) (any_among test xs ys parts.0) (any_among test ys xs parts.1)

occurs_named : (f : List ℕ → List Tree) (a : ℕ) (names : List (List ℕ)) → occurs (flat_map (λ (ts : List Tree). ts) (map f names)) a ≡ list_any (λ x. occurs (f x) a) names
occurs_named f a [] = refl
occurs_named f a (x ∷ names) = occurs-append (f x) (flat_map (λ (ts : List Tree). ts) (map f names)) a ∙ ap (λ b. occurs (f x) a || b) (occurs_named f a names)

known_occurs : (n : Narration) (a : ℕ) → occurs (known_terms (protocol_of n)) a ≡ list_any (λ x. occurs (terms_of n x) a) (roles n)
unfolding protocol_of
known_occurs n a = occurs_named (terms_of n) a (roles n)

module _ (n m : Narration) (stem : ℕ) (same : stem_of n stem ≡ stem_of m stem) (names : are_same_names (roles n) (roles m) ≡ true) where
  same_types : n.types ≡ m.types
  same_types = ap (λ (k : Narration). k.types) same

  same_formats : n.formats ≡ m.formats
  same_formats = ap (λ (k : Narration). k.formats) same

  same_knows : n.knows ≡ m.knows
  same_knows = ap (λ (k : Narration). k.knows) same

  same_actions : take stem n.actions ≡ take stem m.actions
  same_actions = ap (λ (k : Narration). k.actions) same

  -- a narration of the other's sections, with its own title, suite and actions
  abbrev swapped : List TypeItem → List FormatItem → List KnowItem → Narration
  swapped ts fs ks = record n { types = ts; formats = fs; knows = ks }

  same_terms : (role : List ℕ) → terms_of n role ≡ terms_of m role
  same_terms role =
      ap (λ ts. terms_of (swapped ts n.formats n.knows) role) same_types ∙ ap (λ fs. terms_of (swapped m.types fs n.knows) role) same_formats ∙ ap (λ ks. terms_of (swapped m.types m.formats ks) role) same_knows

  same_messages : (a : ActionItem) → message_of n a ≡ message_of m a
  same_messages a = ap (λ ts. message_of (swapped ts n.formats n.knows) a) same_types ∙ ap (λ fs. message_of (swapped m.types fs n.knows) a) same_formats

  any_by : (f g : List ℕ → Bool) → ((x : List ℕ) → f x ≡ g x) → (xs : List (List ℕ)) → list_any f xs ≡ list_any g xs
  any_by f g e [] = refl
  any_by f g e (x ∷ xs) = ap (λ b. b || list_any f xs) (e x) ∙ ap (λ b. g x || b) (any_by f g e xs)

  same_known : (a : ℕ) → occurs (known_terms (protocol_of n)) a ≡ occurs (known_terms (protocol_of m)) a
  same_known a =
      known_occurs n a ∙ any_same (λ x. occurs (terms_of n x) a) (roles n) (roles m) names
      ∙ any_by (λ x. occurs (terms_of n x) a) (λ x. occurs (terms_of m x) a) (λ x. ap (λ ts. occurs ts a) (same_terms x)) (roles m) ∙ sym (known_occurs m a)

  same_sort : (a : ℕ) → names_number_or_key (protocol_of n) a ≡ names_number_or_key (protocol_of m) a
  unfolding protocol_of
  same_sort a = ap (λ (ts : List TypeItem). option_map_or (λ (z : Atom). not (is_agent z.sort)) (slice_get (flat_map item_atoms ts) a) false) same_types

  same_before : (before : List ActionItem) → map (message_of n) before ≡ map (message_of m) before
  same_before [] = refl
  same_before (a ∷ before) = ap (λ t. t ∷ map (message_of n) before) (same_messages a) ∙ ap (λ l. message_of m a ∷ l) (same_before before)

  same_makes : (before : List ActionItem) (a : ℕ) → makes_now n before a ≡ makes_now m before a
  same_makes before a =
      ap (λ b. b && not (occurs (known_terms (protocol_of n)) a) && not (occurs (map (message_of n) before) a)) (same_sort a)
      ∙ ap (λ b. names_number_or_key (protocol_of m) a && not b && not (occurs (map (message_of n) before) a)) (same_known a)
      ∙ ap (λ l. names_number_or_key (protocol_of m) a && not (occurs (known_terms (protocol_of m)) a) && not (occurs l a)) (same_before before)

  same_named : (x : List ℕ) (before : List ActionItem) (a : ActionItem) → named n x before a ≡ named m x before a
  same_named x before a =
      ap (λ t. block (bytes_eq a.from x) (bytes_eq a.to x) (length before + 1) (filter (makes_now n before) (distinct nat_eq (atoms_in t))) t) (same_messages a)
      ∙ ap (λ l. block (bytes_eq a.from x) (bytes_eq a.to x) (length before + 1) l (message_of m a)) (filter_by (makes_now n before) (makes_now m before) (same_makes before) (distinct nat_eq (atoms_in (message_of m a))))

  same_each : (x : List ℕ) (before acts : List ActionItem) → each_after (named n x) before acts ≡ each_after (named m x) before acts
  same_each x before [] = refl
  same_each x before (a ∷ acts) = ap (λ l. l ++ each_after (named n x) (before ++ a ∷ []) acts) (same_named x before a) ∙ ap (λ l. named m x before a ++ l) (same_each x (before ++ a ∷ []) acts)

  same_stem : (x : List ℕ) → among (roles n) x ≡ true → stem_part stem (plan_named (protocol_of m) x) ≡ stem_part stem (plan_named (protocol_of n) x)
  same_stem x is =
      let other = same_names_have (roles n) (roles m) x names is in
      stem_is m x stem other
      ∙ ap (λ l. map to_know l ++ each_after (named m x) [] (take stem m.actions)) (sym (same_terms x))
      ∙ ap (λ l. map to_know (terms_of n x) ++ l) (sym (same_each x [] (take stem m.actions)) ∙ ap (each_after (named n x) []) (sym same_actions))
      ∙ sym (stem_is n x stem is)

  each_stem : (xs : List (List ℕ)) → ((x : List ℕ) → among xs x ≡ true → among (roles n) x ≡ true) → AllByRecursion (λ x. stem_part stem (plan_named (protocol_of m) x) ≡ stem_part stem (plan_named (protocol_of n) x)) xs
  each_stem [] h = tt
  each_stem (x ∷ xs) h = (same_stem x (h x (ap (λ b. b || among xs x) (bytes_eq-same x))), each_stem xs (λ y is. h y (or_true_last (bytes_eq x y) is))) where
    or_true_last : (a : Bool) {b : Bool} → b ≡ true → (a || b) ≡ true
    or_true_last true e = refl
    or_true_last false e = e

  -- the second is like the first up to there
  pub is_like : IsLike stem (protocol_of n) (protocol_of m)
  unfolding protocol_of
  is_like = record {
    suite = sym (ap (λ (k : Narration). k.suite) same);
    formats = ap (λ (fs : List FormatItem). map format_value fs) (sym same_formats);
    atoms = ap (λ (ts : List TypeItem). flat_map item_atoms ts) (sym same_types);
    roles = names;
    plans = each_stem (roles n) (λ x is. is);
  }
