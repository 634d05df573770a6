-- Bytes of names under which what a role drew are those of the names that it makes, and a wrong value is that of the spare name.
use Rattle.std.proofs.Common.{◌≡◌, ℕ, ◌<◌, List, [], ◌∷◌, length, map, Bool, true, false, cond, Option, Some, None, refl, sym, ap, ◌∙◌, subst, arith}
use Rattle.std.specs.Prelude.{slice_get, ◌==◌, ◌||◌, if◌then◌else◌}
use Rattle.std.specs.List.{AllByRecursion, flat_map, list_any, position_from, range_with_len}
use Rattle.std.proofs.lemmas.Bool.{eqb-true}
use Rattle.anb_lemmas.proofs.Each.{each_from_got, each_got, each_in_both}
use Rattle.anb_lemmas.proofs.Numbers.{nat_eq-differs, nat_eq-same}
use Rattle.anb_base.specs.Bytes.{IsBytes}
use Rattle.anb_term.specs.Tree.{Tree, leaf, node, Trees, none, more}
use Rattle.anb_term.specs.Value.{Meaning}
use Rattle.anb_plays.specs.Honest.{honest, honest_all, heard, made}
use Rattle.anb_plays.specs.Plans.{known}
use Rattle.anb_compile.proofs.Protocols.{all_known}
use Rattle.anb_protocol.specs.Plans.{PlanEvent, to_know, to_make, to_send, to_receive, occurs, plan_of}
use Rattle.anb_protocol.specs.Plays.{event_of, events_of, meaning_of}
use Rattle.anb_protocol.specs.Protocols.{ProtocolValue}
use Rattle.anb_protocol.specs.Texts.{IsTermOf, AreTermsOf, atoms_in, atoms_in_all, atoms_in_each, known_by, known_terms}
use Rattle.anb_protocol.proofs.Afters.{any-append}
use Rattle.anb_honest.proofs.Existing.{found, is_leaf, leaf_is, new_at, not_found, one_maker}
use Rattle.anb_partner.specs.Plans.{begins, handed_by, handed_terms, has_atom, said}
use Rattle.anb_tries.proofs.Narrated.{role_known}
use Rattle.anb_dues.proofs.Firsts.{Text}

-- ---- tests

pub or_left : (b c : Bool) → b ≡ true → (b || c) ≡ true
or_left true c e = refl
or_left false c e = absurd (cc)

pub or_right : (b c : Bool) → c ≡ true → (b || c) ≡ true
or_right true c e = refl
or_right false c e = e

pub or_either : {X : Type 0} (b c : Bool) → (b ≡ true → X) → (c ≡ true → X) → (b || c) ≡ true → X
or_either true c f g e = f refl
or_either false c f g e = g e

pub both_ways : {X : Type 0} (b : Bool) → b ≡ true → b ≡ false → X
both_ways true e f = absurd (cc)
both_ways false e f = absurd (cc)

-- ---- the names in a term

module _ {A : Type 0} (m : Meaning A) (f g : ℕ → A) where
  mutual
    -- the value of a term is that of its names
    pub same_in : (t : Tree) → ((n : ℕ) → has_atom n t ≡ true → f n ≡ g n) → honest m f t ≡ honest m g t
    same_in (leaf n) h = h n (or_left (n == n) false (nat_eq-same n))
    same_in (node o ts) h = ap (m.built o) (same_in_all ts h)

    same_in_all : (ts : Trees) → ((n : ℕ) → list_any (λ b. b == n) (atoms_in_all ts) ≡ true → f n ≡ g n) → honest_all m f ts ≡ honest_all m g ts
    same_in_all none h = refl
    same_in_all (more t ts) h =
        let first = same_in t (λ n e. h n (any-append (λ b. b == n) (atoms_in t) (atoms_in_all ts) ∙ or_left (list_any (λ b. b == n) (atoms_in t)) (list_any (λ b. b == n) (atoms_in_all ts)) e)) in
        let rest = same_in_all ts (λ n e. h n (any-append (λ b. b == n) (atoms_in t) (atoms_in_all ts) ∙ or_right (list_any (λ b. b == n) (atoms_in t)) (list_any (λ b. b == n) (atoms_in_all ts)) e)) in
        ap (λ x. x ∷ honest_all m f ts) first ∙ ap (λ l. honest m g t ∷ l) rest

  -- of each of these
  pub each_same : (ts : List Tree) → ((n : ℕ) → occurs ts n ≡ true → f n ≡ g n) → AllByRecursion (λ t. honest m f t ≡ honest m g t) ts
  each_same [] h = tt
  each_same (t ∷ ts) h = (
    same_in t (λ n e. h n (any-append (λ b. b == n) (atoms_in t) (atoms_in_each ts) ∙ or_left (list_any (λ b. b == n) (atoms_in t)) (occurs ts n) e)),
    each_same ts (λ n e. h n (any-append (λ b. b == n) (atoms_in t) (atoms_in_each ts) ∙ or_right (list_any (λ b. b == n) (atoms_in t)) (occurs ts n) e)),
  )

  pub same_map : (ts : List Tree) → AllByRecursion (λ t. honest m f t ≡ honest m g t) ts → map (honest m f) ts ≡ map (honest m g) ts
  same_map [] all = refl
  same_map (t ∷ ts) all = ap (λ x. x ∷ map (honest m f) ts) all.0 ∙ ap (λ l. honest m g t ∷ l) (same_map ts all.1)

module _ (p : ProtocolValue) where
  leaf_atom : (a n : ℕ) → a < length p.atoms → (b : Bool) → (a == n) ≡ b → (b || false) ≡ true → n < length p.atoms
  leaf_atom a n less true e f = let same = eqb-true a n e in omega (arith, same, less)
  leaf_atom a n less false e f = absurd (cc)

  mutual
    -- the names of a term of the protocol are the protocol's
    pub term_atoms : (t : Tree) → IsTermOf p t → (n : ℕ) → has_atom n t ≡ true → n < length p.atoms
    term_atoms (leaf a) h n e = leaf_atom a n h (a == n) refl e
    term_atoms (node o ts) h n e = term_atoms_all ts h.2 n e

    term_atoms_all : (ts : Trees) → AreTermsOf p ts → (n : ℕ) → list_any (λ b. b == n) (atoms_in_all ts) ≡ true → n < length p.atoms
    term_atoms_all none h n e = absurd (cc)
    term_atoms_all (more t ts) h n e =
        or_either (list_any (λ b. b == n) (atoms_in t)) (list_any (λ b. b == n) (atoms_in_all ts)) (term_atoms t h.0 n) (term_atoms_all ts h.1 n) (sym (any-append (λ b. b == n) (atoms_in t) (atoms_in_all ts)) ∙ e)

  pub each_atoms : (ts : List Tree) → AllByRecursion (IsTermOf p) ts → (n : ℕ) → occurs ts n ≡ true → n < length p.atoms
  each_atoms [] all n e = absurd (cc)
  each_atoms (t ∷ ts) all n e =
      or_either (list_any (λ b. b == n) (atoms_in t)) (occurs ts n) (term_atoms t all.0 n) (each_atoms ts all.1 n) (sym (any-append (λ b. b == n) (atoms_in t) (atoms_in_each ts)) ∙ e)

-- ---- what others begin with

begins_each : (P : Tree → Type 0) (es : List PlanEvent) → AllByRecursion P (known (map event_of es)) → AllByRecursion P (made (map event_of es)) → AllByRecursion P (begins es)
begins_each P [] knows makes = tt
begins_each P (to_know t ∷ es) knows makes = (knows.0, begins_each P es knows.1 makes)
begins_each P (to_make t ∷ es) knows makes = (makes.0, begins_each P es knows makes.1)
begins_each P (to_send i t ∷ es) knows makes = begins_each P es knows makes
begins_each P (to_receive i t ∷ es) knows makes = begins_each P es knows makes

-- what holds of all that each of the others begins with holds of all that a partner is handed
pub handed_each : (P : Tree → Type 0) (p : ProtocolValue) (role : ℕ) → ((other : ℕ) → (other == role) ≡ false → AllByRecursion P (begins (plan_of p other))) → (others : List ℕ) → AllByRecursion P (flat_map (handed_by p role) others)
handed_each P p role each [] = tt
handed_each P p role each (other ∷ others) = each_in_both P (handed_by p role other) (flat_map (handed_by p role) others) (one (other == role) refl) (handed_each P p role each others) where
  one : (b : Bool) → (other == role) ≡ b → AllByRecursion P (if b then [] else begins (plan_of p other))
  one true e = tt
  one false e = each other e

-- what roles know, make, say and hear are terms of the protocol
pub record AreOurs (p : ProtocolValue) : Type 0 where
  pub knows : AllByRecursion (IsTermOf p) (known_terms p)
  pub makes : (role : ℕ) → AllByRecursion (IsTermOf p) (made (events_of p role))
  pub says : (role : ℕ) → AllByRecursion (IsTermOf p) (said (events_of p role))
  pub hears : (role : ℕ) → AllByRecursion (IsTermOf p) (heard (events_of p role))

-- and so is all that a partner is handed
pub handed_ours : (p : ProtocolValue) (role : ℕ) → AreOurs p → AllByRecursion (IsTermOf p) (handed_terms p role)
handed_ours p role ours =
    handed_each (IsTermOf p) p role
    (λ other apart. begins_each (IsTermOf p) (plan_of p other) (subst (AllByRecursion (IsTermOf p)) (sym (role_known p other)) (all_known (IsTermOf p) p.knows other ours.knows)) (ours.makes other))
    (range_with_len 0 (length p.roles))

-- ---- the bytes

abbrev drawn_or : (ℕ → Text) → Text → Option ℕ → Text
drawn_or d x None = x
drawn_or d x (Some i) = d i

-- the draws of a role for the names that it makes, a wrong value for the spare name, and of all others these bytes
abbrev pub named : ProtocolValue → ℕ → (d atoms : ℕ → Text) → (wrong : Text) → ℕ → Text
named p role d atoms wrong a = if a == length p.atoms then wrong else drawn_or d (atoms a) (position_from (is_leaf a) 0 (made (events_of p role)))

module _ (p : ProtocolValue) (role : ℕ) (ours : AreOurs p) (d atoms : ℕ → Text) (wrong : Text) where
  abbrev makes : List Tree
  makes = made (events_of p role)

  abbrev as_named : ℕ → Text
  as_named n = named p role d atoms wrong n

  abbrev m : Meaning Text
  m = meaning_of p

  pub named_spare : as_named (length p.atoms) ≡ wrong
  named_spare = ap (λ b. cond b wrong (drawn_or d (atoms (length p.atoms)) (position_from (is_leaf (length p.atoms)) 0 makes))) (nat_eq-same (length p.atoms))

  not_spare : (a : ℕ) → a < length p.atoms → (a == length p.atoms) ≡ false
  not_spare a less = nat_eq-differs a (length p.atoms) (λ same. (let never : ⊥ = omega (arith, same, less) in never))

  named_is : (a : ℕ) → a < length p.atoms → (o : Option ℕ) → position_from (is_leaf a) 0 makes ≡ o → as_named a ≡ drawn_or d (atoms a) o
  named_is a less o e = ap (λ b. cond b wrong (drawn_or d (atoms a) (position_from (is_leaf a) 0 makes))) (not_spare a less) ∙ ap (drawn_or d (atoms a)) e

  named_made : (i a : ℕ) → slice_get makes i ≡ Some (leaf a) → a < length p.atoms → as_named a ≡ d i
  named_made i a at less = by (position_from (is_leaf a) 0 makes) refl where
    by : (o : Option ℕ) → position_from (is_leaf a) 0 makes ≡ o → as_named a ≡ d i
    by None e = absurd (not_found (is_leaf a) 0 makes e i (leaf a) at (nat_eq-same a))
    by (Some j) e =
        let f = found (is_leaf a) 0 makes j e in
        let there : slice_get makes f.0 ≡ Some (leaf a) = f.3 ∙ ap Some (leaf_is a f.1 f.4) in
        let same = one_maker p role role f.0 i (leaf a) there at in
        let j_is : j ≡ i = omega (arith, f.2, same.1) in
        named_is a less (Some j) e ∙ ap d j_is

  -- what the role drew are the bytes of the names that it makes
  pub draws_named : (i : ℕ) (t : Tree) → slice_get makes i ≡ Some t → d i ≡ honest m as_named t
  draws_named i t at =
      let new = new_at p role i t at in
      let here : slice_get makes i ≡ Some (leaf new.atom) = at ∙ ap Some new.is in
      let less : new.atom < length p.atoms = subst (IsTermOf p) new.is (each_got (IsTermOf p) makes i t (ours.makes role) at) in
      sym (named_made i new.atom here less) ∙ ap (honest m as_named) (sym new.is)

  same_leaf : (a b : ℕ) → leaf a ≡ leaf b → a ≡ b
  same_leaf a b e = cc

  -- a name that some role knows keeps its bytes
  known_kept : (n : ℕ) → occurs (known_terms p) n ≡ true → as_named n ≡ atoms n
  known_kept n knows = by (position_from (is_leaf n) 0 makes) refl where
    by : (o : Option ℕ) → position_from (is_leaf n) 0 makes ≡ o → as_named n ≡ atoms n
    by None e = named_is n (each_atoms p (known_terms p) ours.knows n knows) None e
    by (Some j) e =
        let f = found (is_leaf n) 0 makes j e in
        let there : slice_get makes f.0 ≡ Some (leaf n) = f.3 ∙ ap Some (leaf_is n f.1 f.4) in
        let new = new_at p role f.0 (leaf n) there in
        let same : n ≡ new.atom = same_leaf n new.atom new.is in
        both_ways (occurs (known_terms p) n) knows (ap (occurs (known_terms p)) same ∙ new.unknown)

  -- and so does one that another role makes
  made_kept : (other i : ℕ) (t : Tree) → (other == role) ≡ false → slice_get (made (events_of p other)) i ≡ Some t → honest m as_named t ≡ honest m atoms t
  made_kept other i t apart at =
      let new = new_at p other i t at in
      let here : slice_get (made (events_of p other)) i ≡ Some (leaf new.atom) = at ∙ ap Some new.is in
      let less : new.atom < length p.atoms = subst (IsTermOf p) new.is (each_got (IsTermOf p) (made (events_of p other)) i t (ours.makes other) at) in
      ap (honest m as_named) new.is ∙ by new.atom here less (position_from (is_leaf new.atom) 0 makes) refl ∙ ap (honest m atoms) (sym new.is) where
        by : (a : ℕ) → slice_get (made (events_of p other)) i ≡ Some (leaf a) → a < length p.atoms → (o : Option ℕ) → position_from (is_leaf a) 0 makes ≡ o → as_named a ≡ atoms a
        by a here less None e = named_is a less None e
        by a here less (Some j) e =
            let f = found (is_leaf a) 0 makes j e in
            let there : slice_get makes f.0 ≡ Some (leaf a) = f.3 ∙ ap Some (leaf_is a f.1 f.4) in
            let same = (one_maker p role other f.0 i (leaf a) there here).0 in
            both_ways (other == role) (ap (λ k. k == role) (sym same) ∙ nat_eq-same role) apart

  abbrev Kept : Tree → Type 0
  Kept t = honest m as_named t ≡ honest m atoms t

  all_known_kept : AllByRecursion Kept (known_terms p)
  all_known_kept = each_same m as_named atoms (known_terms p) known_kept

  pub knows_named : map (honest m as_named) (known_by p role) ≡ map (honest m atoms) (known_by p role)
  knows_named = same_map m as_named atoms (known_by p role) (all_known Kept p.knows role all_known_kept)

  pub hands_named : map (honest m as_named) (handed_terms p role) ≡ map (honest m atoms) (handed_terms p role)
  hands_named =
      same_map m as_named atoms (handed_terms p role) (handed_each Kept p role
      (λ other apart. begins_each Kept (plan_of p other) (subst (AllByRecursion Kept) (sym (role_known p other)) (all_known Kept p.knows other all_known_kept))
      (each_from_got Kept (made (events_of p other)) (λ i t at. made_kept other i t apart at)))
      (range_with_len 0 (length p.roles)))

  pub named_bytes : ((n : ℕ) → IsBytes (atoms n)) → ((i : ℕ) → IsBytes (d i)) → IsBytes wrong → (n : ℕ) → IsBytes (as_named n)
  named_bytes bytes drawn is n = by (n == length p.atoms) (position_from (is_leaf n) 0 makes) where
    by : (b : Bool) (o : Option ℕ) → IsBytes (cond b wrong (drawn_or d (atoms n) o))
    by true o = is
    by false None = bytes n
    by false (Some i) = drawn i

-- with another wrong value all but the spare name keep their bytes
pub named_else : (p : ProtocolValue) (role : ℕ) (d atoms : ℕ → Text) (one other : Text) (n : ℕ) → (n == length p.atoms) ≡ false → named p role d atoms one n ≡ named p role d atoms other n
named_else p role d atoms one other n apart =
    let x = drawn_or d (atoms n) (position_from (is_leaf n) 0 (made (events_of p role))) in
    ap (λ b. cond b one x) apart ∙ sym (ap (λ b. cond b other x) apart)
