-- The terms of a plan are the protocol's.
use Rattle.std.proofs.Common.{◌≡◌, ℕ, zero, suc, ◌+◌, ◌<◌, List, [], ◌∷◌, ◌++◌, length, map, Bool, true, false, cond, refl, arith}
use Rattle.std.specs.Prelude.{◌==◌, ◌&&◌, not, nat_eq, slice_get, filter, if◌then◌else◌}
use Rattle.std.specs.Option.{option_map_or}
use Rattle.std.specs.List.{AllByRecursion}
use Rattle.anb_lemmas.proofs.Bools.{first_of_and}
use Rattle.anb_lemmas.proofs.Each.{each_in_both, each_in_parts, each_of_map}
use Rattle.anb_term.specs.Tree.{Tree, leaf}
use Rattle.anb_protocol.specs.declared.parts.Atom.{Atom}
use Rattle.anb_protocol.specs.Choices.{each_after}
use Rattle.anb_protocol.specs.Names.{distinct}
use Rattle.anb_protocol.specs.Protocols.{ActionValue, ProtocolValue}
use Rattle.anb_protocol.specs.Texts.{IsTermOf, atoms_in, known_by, known_terms}
use Rattle.anb_protocol.specs.Plans.{PlanEvent, to_know, to_make, to_send, to_receive, term_in, names_number_or_key, is_made, made, messages, occurs, own_events, events_at, plan_of}
use Rattle.anb_protocol.specs.Checks.{is_agent}
use Rattle.anb_protocol.proofs.Holding.{known_ours}

-- what is there is within the list
within : (atoms : List Atom) (a : ℕ) (test : Atom → Bool) → option_map_or test (slice_get atoms a) false ≡ true → a < length atoms
within [] a test e = absurd (cc)
within (x ∷ atoms) zero test e = omega arith
within (x ∷ atoms) (suc a) test e = omega (arith, within atoms a test e)

filtered : (P : ℕ → Type 0) (q : ℕ → Bool) → ((x : ℕ) → q x ≡ true → P x) → (xs : List ℕ) → AllByRecursion P (filter q xs)
filtered P q f [] = tt
filtered P q f (x ∷ xs) = one (q x) refl (filter q xs) (filtered P q f xs)
  where
    one : (b : Bool) → q x ≡ b → (ys : List ℕ) → AllByRecursion P ys → AllByRecursion P (cond b (x ∷ ys) ys)
    one true e ys rest = (f x e, rest)
    one false e ys rest = rest

module _ (p : ProtocolValue) where
  abbrev IsOf : PlanEvent → Type 0
  IsOf e = IsTermOf p (term_in e)

  made_of : (before : List ActionValue) (message : Tree) → AllByRecursion (λ x. IsOf (to_make (leaf x))) (made p before message)
  made_of before message =
      filtered (λ x. x < length p.atoms) (is_made p before) there (distinct nat_eq (atoms_in message))
    where
      there : (x : ℕ) → is_made p before x ≡ true → x < length p.atoms
      there x e =
          let unknown = not (occurs (known_terms p) x) in
          let named = first_of_and (names_number_or_key p x) unknown (first_of_and (names_number_or_key p x && unknown) (not (occurs (messages before) x)) e) in
          within p.atoms x (λ a. not (is_agent a.sort)) named

  own_of : (role number : ℕ) (names : List ℕ) (a : ActionValue) → AllByRecursion (λ x. IsOf (to_make (leaf x))) names → IsTermOf p a.message → AllByRecursion IsOf (own_events role number names a)
  own_of role number names a made_are sent_is = go (a.from == role) (a.to == role)
    where
      go : (b d : Bool) → AllByRecursion IsOf (if b then map (λ x. to_make (leaf x)) names ++ to_send number a.message ∷ [] else (if d then to_receive number a.message ∷ [] else []))
      go true d = each_in_both IsOf (map (λ x. to_make (leaf x)) names) (to_send number a.message ∷ []) (each_of_map IsOf (λ x. to_make (leaf x)) names made_are) (sent_is, tt)
      go false true = (sent_is, tt)
      go false false = tt

  each_of : (role : ℕ) (before actions : List ActionValue) → AllByRecursion (IsTermOf p) (messages actions) → AllByRecursion IsOf (each_after (events_at p role) before actions)
  each_of role before [] all = tt
  each_of role before (a ∷ actions) all =
      each_in_both IsOf (events_at p role before a) (each_after (events_at p role) (before ++ a ∷ []) actions)
      (own_of role (length before + 1) (made p before a.message) a (made_of before a.message) all.0) (each_of role (before ++ a ∷ []) actions all.1)

  pub plan_of_terms : (role : ℕ) → AllByRecursion (IsTermOf p) (known_terms p ++ messages p.actions) → AllByRecursion IsOf (plan_of p role)
  unfolding plan_of
  plan_of_terms role all =
      let both = each_in_parts (IsTermOf p) (known_terms p) (messages p.actions) all in
      each_in_both IsOf (map to_know (known_by p role)) (each_after (events_at p role) [] p.actions)
      (each_of_map IsOf to_know (known_by p role) (known_ours p role both.0)) (each_of role [] p.actions both.1)
