-- One action more.
use Rattle.std.proofs.Common.{◌≡◌, ℕ, zero, suc, ◌+◌, ◌<◌, List, [], ◌∷◌, ◌++◌, length, map, drop, get_or, Some, sym, ap, ◌∙◌, subst, arith, length-append}
use Rattle.std.specs.Prelude.{slice_get}
use Rattle.anb_lemmas.proofs.Each.{each_in_parts, each_got}
use Rattle.anb_lemmas.proofs.Lists.{drop_got, drop_next}
use Rattle.anb_term.proofs.Lists.{slice_get-map, slice_get-at}
use Rattle.anb_protocol.specs.declared.parts.Action.{Action}
use Rattle.anb_protocol.specs.Choices.{each_after}
use Rattle.anb_protocol.specs.Laws.{HoldsOf, IsActionOf}
use Rattle.anb_protocol.specs.Plans.{made_at, messages, names_made_at}
use Rattle.anb_protocol.specs.Protocols.{ActionValue, ProtocolValue}
use Rattle.anb_protocol.specs.Texts.{IsTermOf, atom_name, known_terms}
use Rattle.anb_protocol.specs.Views.{action_value}
use Rattle.anb_chart.specs.Charts.{action_lines, action_text}

-- an item there, whatever stands for a missing one
item_got : {A : Type 0} (xs : List A) (i : ℕ) (x other : A) → slice_get xs i ≡ Some x → get_or xs i other ≡ x
item_got [] i x other e = cc
item_got (y ∷ xs) zero x other e = cc
item_got (y ∷ xs) (suc i) x other e = item_got xs i x other e

module _ (p : ProtocolValue) (actions : List Action) (i : ℕ) (x : Action) (within : i < length actions) (is : x ≡ get_or actions i x) where
  abbrev pub value : ActionValue
  value = action_value x

  abbrev pub later : List ActionValue
  later = map action_value (drop (i + 1) actions)

  -- what holds of an action of a protocol

  module _ (all : map action_value actions ≡ p.actions) (holds : HoldsOf p) where
    stands : slice_get p.actions i ≡ Some value
    stands = subst (λ (l : List ActionValue). slice_get l i ≡ Some value) all (slice_get-map action_value actions i x (slice_get-at actions i x within is))

    pub ends : IsActionOf p value
    ends = each_got (IsActionOf p) p.actions i value holds.ends stands

    pub message_ours : IsTermOf p value.message
    message_ours =
        each_got (IsTermOf p) (messages p.actions) i value.message (each_in_parts (IsTermOf p) (known_terms p) (messages p.actions) holds.terms).1
        (slice_get-map (λ (a : ActionValue). a.message) p.actions i value stands)

  -- its lines are the first that are due

  module _ (made : List (List (List ℕ))) (before : List ActionValue) (many : length before ≡ i)
      (due : drop i made ≡ each_after (names_made_at p) before (map action_value (drop i actions))) where
    item : map action_value (drop i actions) ≡ value ∷ later
    item = ap (map action_value) (drop_next actions i x within is)

    abbrev its_names : List (List ℕ)
    its_names = map (atom_name p) (made_at p before value)

    here : (slice_get made i ≡ Some its_names) × (drop (i + 1) made ≡ each_after (names_made_at p) (before ++ value ∷ []) later)
    here = drop_got made (each_after (names_made_at p) (before ++ value ∷ []) later) i its_names (due ∙ ap (each_after (names_made_at p) before) item)

    pub counted : length (before ++ value ∷ []) ≡ i + 1
    counted = omega (arith, length-append before (value ∷ []), many)

    pub made_later : drop (i + 1) made ≡ each_after (names_made_at p) (before ++ value ∷ []) later
    made_later = here.1

    pub lines_first : (names : List (List ℕ)) → names ≡ get_or made i names
        → each_after (action_text p) before (map action_value (drop i actions)) ≡ action_lines p (i + 1) value names ++ each_after (action_text p) (before ++ value ∷ []) later
    lines_first names given =
        let these : its_names ≡ names = sym (given ∙ item_got made i its_names names here.0) in
        ap (each_after (action_text p) before) item
        ∙ ap (λ l. l ++ each_after (action_text p) (before ++ value ∷ []) later) (ap (λ n. action_lines p (n + 1) value its_names) many ∙ ap (action_lines p (i + 1) value) these)
