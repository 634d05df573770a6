-- The values of terms over a table, and lists that grow item by item.
use Rattle.std.proofs.Common.{◌≡◌, ℕ, suc, ◌+◌, ◌<◌, List, [], ◌∷◌, ◌++◌, length, map, take, drop, get_or, Bool, refl, sym, ap, ◌∙◌, subst, arith, append_assoc}
use Rattle.std.specs.Prelude.{filter_map, flat_map}
use Rattle.std.proofs.lemmas.List.{length-map, take_all, map-append}
use Rattle.std.proofs.lemmas.List.Elements.{filter_map-append}
use Rattle.std.proofs.lemmas.Grind.{flat_map-append}
use Rattle.anb_lemmas.proofs.Each.{take_next}
use Rattle.anb_lemmas.proofs.Lists.{drop_next}
use Rattle.anb_term.specs.declared.term.Op.{Op}
use Rattle.anb_term.specs.declared.term.Term.{Term}
use Rattle.anb_term.specs.declared.term.Term.TheVariants.{Node}
use Rattle.anb_term.specs.Operator.{arity}
use Rattle.anb_term.specs.View.{tree_of}
use Rattle.anb_term.specs.Tree.{Tree, node, trees_of, IsFormed}
use Rattle.anb_term.specs.Value.{Meaning}
use Rattle.anb_term.specs.Lawful.{picked}
use Rattle.anb_term.specs.RecipeView.{first_places}
use Rattle.anb_term.specs.TreeSame.{list_of-trees_of}
use Rattle.anb_term.proofs.Places.{picked_first}
use Rattle.anb_plays.specs.Honest.{honest, honest_all}
use Rattle.anb_compile.specs.Emitting.{known_in}
use Rattle.anb_compile.proofs.Events.{known_append}
use Rattle.anb_protocol.specs.declared.plans.Event.{Event}
use Rattle.anb_protocol.specs.Texts.{atoms_in_each}
use Rattle.anb_protocol.specs.Views.{plan_event}
use Rattle.anb_protocol.proofs.AtomLemmas.{each-append}
use Rattle.anb_honest.specs.declared.player.Part.{Part}
use Rattle.anb_honest.specs.Inside.{part_of, turn_value}

pub places_next : (at at' : List ℕ) (i : ℕ) → at ≡ first_places i → at' ≡ at ++ i ∷ [] → at' ≡ first_places (i + 1)
places_next at at' i e p = let n : i + 1 ≡ suc i = omega arith in p ∙ ap (λ l. l ++ i ∷ []) e ∙ ap first_places (sym n)

-- what is known of a node that is formed
pub node_formed : (has : Op → Bool) (op : Op) (operands : List Tree) → IsFormed has (node op (trees_of operands)) → length operands ≡ arity op
node_formed has op operands f = ap length (sym (list_of-trees_of operands)) ∙ f.1

-- the value of a node, from those of its operands
pub node_value : {A : Type 0} (m : Meaning A) (atoms : ℕ → A) (op : Op) (operands : List Tree) (table : List A) (at : List ℕ) (b : A)
    → at ≡ first_places (arity op) → length table ≡ arity op → table ≡ honest_all m atoms (trees_of operands) → b ≡ m.built op (picked table at)
    → b ≡ honest m atoms (node op (trees_of operands))
node_value m atoms op operands table at b places count values built =
    let all : picked table (first_places (arity op)) ≡ table = picked_first (arity op) table (omega arith) ∙ take_all (arity op) table (omega arith) in
    built ∙ ap (λ l. m.built op (picked table l)) places ∙ ap (m.built op) (all ∙ values)

pub values_next : {A : Type 0} (m : Meaning A) (atoms : ℕ → A) (terms : List Term) (i : ℕ) (x : Term) (old new all : List A) (b : A) → i < length terms → x ≡ get_or terms i x
    → new ≡ old ++ b ∷ [] → b ≡ honest m atoms (tree_of x) → old ++ honest_all m atoms (trees_of (map tree_of (drop i terms))) ≡ all
    → new ++ honest_all m atoms (trees_of (map tree_of (drop (i + 1) terms))) ≡ all
values_next m atoms terms i x old new all b h e pushed value before =
    let rest = honest_all m atoms (trees_of (map tree_of (drop (i + 1) terms))) in
    ap (λ l. l ++ rest) (pushed ∙ ap (λ y. old ++ y ∷ []) value) ∙ append_assoc old (honest m atoms (tree_of x) ∷ []) rest
    ∙ ap (λ l. old ++ honest_all m atoms (trees_of (map tree_of l))) (sym (drop_next terms i x h e)) ∙ before

-- ---- lists by their first items

pub mapped_next : {A B : Type 0} (f : A → B) (xs : List A) (i : ℕ) (x : A) (old new : List B) (y : B) → i < length xs → x ≡ get_or xs i x
    → old ≡ map f (take i xs) → new ≡ old ++ y ∷ [] → y ≡ f x → new ≡ map f (take (i + 1) xs)
mapped_next f xs i x old new y h e before pushed is =
    pushed ∙ ap (λ l. l ++ y ∷ []) before ∙ ap (λ z. map f (take i xs) ++ z ∷ []) is ∙ sym (map-append f (take i xs) (x ∷ [])) ∙ ap (map f) (sym (take_next xs i x h e))

pub flat_next : {A B : Type 0} (f : A → List B) (xs : List A) (i : ℕ) (x : A) → i < length xs → x ≡ get_or xs i x → flat_map f (take (i + 1) xs) ≡ flat_map f (take i xs) ++ f x
flat_next f xs i x h e = ap (flat_map f) (take_next xs i x h e) ∙ flat_map-append f (take i xs) (x ∷ []) ∙ ap (λ l. flat_map f (take i xs) ++ l) (nothing (f x)) where
  nothing : {B : Type 0} (l : List B) → l ++ [] ≡ l
  nothing [] = refl
  nothing (y ∷ l) = ap (λ r. y ∷ r) (nothing l)

-- as many values as the operator takes
pub node_count : {A : Type 0} (has : Op → Bool) (t : Term) (op : Op) (operands : List Tree) (terms : List Term) (table : List A) → t ≡ Node op operands → IsFormed has (tree_of t)
    → map tree_of terms ≡ operands → length table ≡ length terms → length table ≡ arity op
node_count has t op operands terms table is formed same count =
    let f : IsFormed has (node op (trees_of operands)) = subst (λ x. IsFormed has (tree_of x)) is formed in
    count ∙ sym (length-map terms tree_of) ∙ ap length same ∙ node_formed has op operands f

-- ---- events of a plan, one after another

module _ (events : List Event) (i : ℕ) (x : Event) (within : i < length events) (at : x ≡ get_or events i x) where
  event_next : map plan_event (take (i + 1) events) ≡ map plan_event (take i events) ++ plan_event x ∷ []
  event_next = ap (map plan_event) (take_next events i x within at) ∙ map-append plan_event (take i events) (x ∷ [])

  known_next : known_in (map plan_event (take (i + 1) events)) ≡ known_in (map plan_event (take i events)) ++ known_in (plan_event x ∷ [])
  known_next = ap known_in event_next ∙ known_append (map plan_event (take i events)) (plan_event x ∷ [])

  pub atoms_next : (first old new : List ℕ) → old ≡ first ++ atoms_in_each (known_in (map plan_event (take i events))) → new ≡ old ++ atoms_in_each (known_in (plan_event x ∷ []))
      → new ≡ first ++ atoms_in_each (known_in (map plan_event (take (i + 1) events)))
  atoms_next first old new before put =
      put ∙ ap (λ l. l ++ atoms_in_each (known_in (plan_event x ∷ []))) before
      ∙ append_assoc first (atoms_in_each (known_in (map plan_event (take i events)))) (atoms_in_each (known_in (plan_event x ∷ [])))
      ∙ ap (λ l. first ++ l) (sym (each-append (known_in (map plan_event (take i events))) (known_in (plan_event x ∷ []))) ∙ ap atoms_in_each (sym known_next))

  pub bytes_next : {A : Type 0} (f : Tree → A) (old new : List A) → old ≡ map f (known_in (map plan_event (take i events))) → new ≡ old ++ map f (known_in (plan_event x ∷ []))
      → new ≡ map f (known_in (map plan_event (take (i + 1) events)))
  bytes_next f old new before put =
      put ∙ ap (λ l. l ++ map f (known_in (plan_event x ∷ []))) before
      ∙ sym (map-append f (known_in (map plan_event (take i events))) (known_in (plan_event x ∷ []))) ∙ ap (map f) (sym known_next)

  pub turns_next : (role : ℕ) (old new : List Part) → map (turn_value role) old ≡ filter_map (part_of role) (map plan_event (take i events))
      → map (turn_value role) new ≡ map (turn_value role) old ++ filter_map (part_of role) (plan_event x ∷ [])
      → map (turn_value role) new ≡ filter_map (part_of role) (map plan_event (take (i + 1) events))
  turns_next role old new before put =
      put ∙ ap (λ l. l ++ filter_map (part_of role) (plan_event x ∷ [])) before
      ∙ sym (filter_map-append (part_of role) (map plan_event (take i events)) (plan_event x ∷ [])) ∙ ap (filter_map (part_of role)) (sym event_next)

-- ---- numbers in order
