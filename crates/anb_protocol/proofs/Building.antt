-- A protocol from its parts.
use Rattle.std.proofs.Common.{◌≡◌, ℕ, ◌+◌, ◌<◌, List, [], ◌∷◌, ◌++◌, length, map, ap, sym, ◌∙◌, refl, arith, Bool, true, false, cond, Some, None}
use Rattle.std.specs.Prelude.{◌||◌, unwrap_or}
use Rattle.std.specs.List.{AllByRecursion, flat_map}
use Rattle.std.specs.Str.{bytes_eq}
use Rattle.std.proofs.lemmas.Slice.Eq.{bytes_eq-Decides}
use Rattle.std.proofs.lemmas.Bool.{or_right as or_second}
use Rattle.anb_index.specs.Places.{among}
use Rattle.anb_lemmas.proofs.Options.{or_is_none}
use Rattle.anb_lemmas.proofs.Each.{each_in_parts, each_by, each_of_map}
use Rattle.anb_base.specs.declared.content.Suite.{Suite}
use Rattle.anb_format.specs.Formats.{FormatValue, IsSound}
use Rattle.anb_format.proofs.BuiltLemmas.{sound_test}
use Rattle.anb_term.specs.Tree as term
use Rattle.anb_syntax.specs.Grammar.{FormatItem, KnowItem, ActionItem, Narration, IsSpellable}
use Rattle.anb_protocol.specs.declared.parts.Atom.{Atom}
use Rattle.anb_protocol.specs.Choices.{each_after}
use Rattle.anb_protocol.specs.Names.{atoms, roles, line_names, action_roles, first_new}
use Rattle.anb_protocol.specs.Protocols.{ProtocolValue, ActionValue, resolved_all, line_of, action_of, formats_of, role_number, protocol_of}
use Rattle.anb_protocol.specs.Checks.{fault, first_fault, limit_checks, name_checks, protocol_checks, declared_twice, misshapen, overlap}
use Rattle.anb_protocol.specs.declared.refusals.ResolveNo.{ResolveNo}
use Rattle.anb_protocol.specs.WellFormed.{CanBeChecked}
use Rattle.anb_protocol.specs.Texts.{IsTermOf, known_terms}
use Rattle.anb_protocol.specs.Plans.{messages}
use Rattle.anb_protocol.proofs.Afters.{any-append}
use Rattle.anb_protocol.proofs.OrLemmas.{skip, stop}
use Rattle.anb_protocol.proofs.ReadOnce.{text_once}
use Rattle.anb_protocol.proofs.Differing.{names_of_narration}
use Rattle.anb_protocol.proofs.Formed.{found}
use Rattle.anb_protocol.proofs.Holding.{sound_items, IsSoundItem, facts_of_narration}

abbrev pub knows_by : List Atom → List FormatValue → List KnowItem → List (List ℕ) → List (List term.Tree)
knows_by all formats lines names = map (λ role. term.list_of (resolved_all all formats (line_of lines role))) names

abbrev make : List ℕ → Suite → List FormatValue → List (List ℕ) → List Atom → List (List term.Tree) → List ActionValue → ProtocolValue
make n s f r a k m = record { name = n; suite = s; formats = f; roles = r; atoms = a; knows = k; actions = m }

same_value : (a b : ProtocolValue) → a.name ≡ b.name → a.suite ≡ b.suite → a.formats ≡ b.formats → a.roles ≡ b.roles → a.atoms ≡ b.atoms → a.knows ≡ b.knows → a.actions ≡ b.actions → a ≡ b
same_value a b e1 e2 e3 e4 e5 e6 e7 =
    ap (λ x. make x a.suite a.formats a.roles a.atoms a.knows a.actions) e1
    ∙ ap (λ x. make b.name x a.formats a.roles a.atoms a.knows a.actions) e2
    ∙ ap (λ x. make b.name b.suite x a.roles a.atoms a.knows a.actions) e3
    ∙ ap (λ x. make b.name b.suite b.formats x a.atoms a.knows a.actions) e4
    ∙ ap (λ x. make b.name b.suite b.formats b.roles x a.knows a.actions) e5
    ∙ ap (λ x. make b.name b.suite b.formats b.roles b.atoms x a.actions) e6
    ∙ ap (λ x. make b.name b.suite b.formats b.roles b.atoms b.knows x) e7

pub is_protocol : (n : Narration) (p : ProtocolValue) → p.name ≡ n.title → p.suite ≡ n.suite → p.formats ≡ formats_of n → p.roles ≡ roles n → p.atoms ≡ atoms n
    → p.knows ≡ knows_by p.atoms p.formats n.knows p.roles → p.actions ≡ map (action_of p.atoms p.formats p.roles) n.actions → p ≡ protocol_of n
unfolding protocol_of
is_protocol n p e1 e2 e3 e4 e5 e6 e7 =
    let k = e6 ∙ ap (λ all. knows_by all p.formats n.knows p.roles) e5 ∙ ap (λ fs. knows_by (atoms n) fs n.knows p.roles) e3 ∙ ap (λ rs. knows_by (atoms n) (formats_of n) n.knows rs) e4 in
    let a = e7 ∙ ap (λ all. map (action_of all p.formats p.roles) n.actions) e5 ∙ ap (λ fs. map (action_of (atoms n) fs p.roles) n.actions) e3 ∙ ap (λ rs. map (action_of (atoms n) (formats_of n) rs) n.actions) e4 in
    same_value p (protocol_of n) e1 e2 e3 e4 e5 k a

-- ---- ends of actions are roles

new_step : (before xs : List (List ℕ)) (x y : List ℕ) (b : Bool) → bytes_eq x y ≡ b → among (x ∷ xs) y ≡ true → among before y ≡ false
    → (among xs y ≡ true → among (before ++ x ∷ []) y ≡ false → among (each_after (first_new bytes_eq) (before ++ x ∷ []) xs) y ≡ true)
    → among (each_after (first_new bytes_eq) before (x ∷ xs)) y ≡ true
new_step before xs x y true e a f next =
    let same : x ≡ y = (bytes_eq-Decides x y).0 e in
    let new : first_new bytes_eq before x ≡ x ∷ [] = ap (λ v. cond v [] (x ∷ [])) (ap (among before) same ∙ f) in
    any-append (λ z. bytes_eq z y) (first_new bytes_eq before x) (each_after (first_new bytes_eq) (before ++ x ∷ []) xs)
    ∙ ap (λ l. among l y || among (each_after (first_new bytes_eq) (before ++ x ∷ []) xs) y) new
    ∙ ap (λ v. (v || false) || among (each_after (first_new bytes_eq) (before ++ x ∷ []) xs) y) e
new_step before xs x y false e a f next =
    let later = sym (ap (λ v. v || among xs y) e) ∙ a in
    let still : among (before ++ x ∷ []) y ≡ false = any-append (λ z. bytes_eq z y) before (x ∷ []) ∙ ap (λ v. v || (bytes_eq x y || false)) f ∙ ap (λ v. v || false) e in
    any-append (λ z. bytes_eq z y) (first_new bytes_eq before x) (each_after (first_new bytes_eq) (before ++ x ∷ []) xs)
    ∙ or_right (among (first_new bytes_eq before x) y) (next later still)
  where
    or_right : (b : Bool) {c : Bool} → c ≡ true → (b || c) ≡ true
    or_right true h = refl
    or_right false h = h

new_has : (before xs : List (List ℕ)) (y : List ℕ) → among xs y ≡ true → among before y ≡ false → among (each_after (first_new bytes_eq) before xs) y ≡ true
new_has before [] y a f = absurd (cc (a))
new_has before (x ∷ xs) y a f = new_step before xs x y (bytes_eq x y) refl a f (new_has (before ++ x ∷ []) xs y)

-- what stands among names has a place among them
pub role_below : (names : List (List ℕ)) (x : List ℕ) → among names x ≡ true → role_number names x < length names
role_below names x a =
    let f = found (λ y. bytes_eq y x) 0 names a in
    let is : role_number names x ≡ 0 + f.0 = ap (λ o. unwrap_or o 0) f.2 in
    omega (arith, is, f.4)

end_there : (xs : List (List ℕ)) (acts : List ActionItem) → ((y : List ℕ) → among (flat_map action_roles acts) y ≡ true → among xs y ≡ true) → AllByRecursion (λ (a : ActionItem). (among xs a.from ≡ true) × (among xs a.to ≡ true)) acts
end_there xs [] h = tt
end_there xs (a ∷ acts) h =
    let itself : (x : List ℕ) → bytes_eq x x ≡ true = λ x. (bytes_eq-Decides x x).1 refl in (
      (
        h a.from (ap (λ v. v || (bytes_eq a.to a.from || among (flat_map action_roles acts) a.from)) (itself a.from)),
        h a.to (or_second (bytes_eq a.from a.to) _ (ap (λ v. v || among (flat_map action_roles acts) a.to) (itself a.to))),
      ),
      end_there xs acts (λ y e. h y (or_second (bytes_eq a.from y) _ (or_second (bytes_eq a.to y) _ e))),
    )

-- both ends of each action are roles
pub ends_are_roles : (n : Narration) → AllByRecursion (λ (a : ActionItem). (among (roles n) a.from ≡ true) × (among (roles n) a.to ≡ true)) n.actions
ends_are_roles n =
    end_there (roles n) n.actions
    (λ y e. new_has [] (line_names n ++ flat_map action_roles n.actions) y (any-append (λ z. bytes_eq z y) (line_names n) (flat_map action_roles n.actions) ∙ or_second (among (line_names n) y) _ e) refl)

pub ends_below : (n : Narration) → AllByRecursion (λ (a : ActionValue). a.from < length (protocol_of n).roles) (protocol_of n).actions
unfolding protocol_of
ends_below n =
    each_of_map (λ (a : ActionValue). a.from < length (roles n)) (action_of (atoms n) (formats_of n) (roles n)) n.actions
    (each_by (λ (a : ActionItem). (among (roles n) a.from ≡ true) × (among (roles n) a.to ≡ true)) (λ (a : ActionItem). role_number (roles n) a.from < length (roles n)) (λ a h. role_below (roles n) a.from h.0) n.actions (ends_are_roles n))

pub tos_below : (n : Narration) → AllByRecursion (λ (a : ActionValue). a.to < length (protocol_of n).roles) (protocol_of n).actions
unfolding protocol_of
tos_below n =
    each_of_map (λ (a : ActionValue). a.to < length (roles n)) (action_of (atoms n) (formats_of n) (roles n)) n.actions
    (each_by (λ (a : ActionItem). (among (roles n) a.from ≡ true) × (among (roles n) a.to ≡ true)) (λ (a : ActionItem). role_number (roles n) a.to < length (roles n)) (λ a h. role_below (roles n) a.to h.1) n.actions (ends_are_roles n))

pub can_be_checked : (n : Narration) → IsSpellable n → first_fault limit_checks n ≡ None → first_fault name_checks n ≡ None → misshapen n ≡ None → CanBeChecked (protocol_of n)
can_be_checked n s l a m =
    let f = facts_of_narration n s l a m in
    let p = protocol_of n in
    let t = each_in_parts (IsTermOf p) (known_terms p) (messages p.actions) f.terms in
    record { actions = omega (arith, f.actions); knows = f.knows; known = t.0; sent = t.1; apart = text_once p (names_of_narration n s (or_is_none (declared_twice n) _ a).0) }

pub sound_formats : (n : Narration) → misshapen n ≡ None → IsSpellable n → AllByRecursion (λ (f : FormatItem). IsSound f.pieces) n.formats
sound_formats n m s = each_by IsSoundItem (λ (f : FormatItem). IsSound f.pieces) (λ f h. sound_test f.pieces h) n.formats (sound_items n m s.valid.formats)

-- ---- the stages in order

module _ (least most : ℕ) (n : Narration) where
  pub fault_limits : (r : ResolveNo) → first_fault limit_checks n ≡ Some r → fault least most n ≡ Some r
  unfolding fault
  fault_limits r e = stop _ _ r e

  pub fault_names : (r : ResolveNo) → first_fault limit_checks n ≡ None → first_fault name_checks n ≡ Some r → fault least most n ≡ Some r
  unfolding fault
  fault_names r l e = skip _ _ l ∙ stop _ _ r e

  pub fault_shapes : (r : ResolveNo) → first_fault limit_checks n ≡ None → first_fault name_checks n ≡ None → misshapen n ≡ Some r → fault least most n ≡ Some r
  unfolding fault
  fault_shapes r l a e = skip _ _ l ∙ skip _ _ a ∙ stop _ _ r (stop (misshapen n) _ r e)

  pub fault_overlaps : (r : ResolveNo) → first_fault limit_checks n ≡ None → first_fault name_checks n ≡ None → misshapen n ≡ None → overlap n ≡ Some r → fault least most n ≡ Some r
  unfolding fault
  fault_overlaps r l a m e = skip _ _ l ∙ skip _ _ a ∙ stop _ _ r (skip (misshapen n) _ m ∙ stop (overlap n) _ r e)

  pub fault_protocol : first_fault limit_checks n ≡ None → first_fault name_checks n ≡ None → misshapen n ≡ None → overlap n ≡ None → fault least most n ≡ first_fault (protocol_checks least most) (protocol_of n)
  unfolding fault
  fault_protocol l a m o = skip _ _ l ∙ skip _ _ a ∙ skip _ _ (skip (misshapen n) _ m ∙ skip (overlap n) _ o)
