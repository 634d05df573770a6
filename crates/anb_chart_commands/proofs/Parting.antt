-- One action more of a part of a chart.
use Rattle.std.proofs.Common.{◌≡◌, ℕ, zero, suc, ◌+◌, ◌<◌, List, [], ◌∷◌, ◌++◌, length, map, drop, get_or, Some, sym, ap, ◌∙◌}
use Rattle.std.specs.Prelude.{slice_get}
use Rattle.anb_lemmas.proofs.Lists.{drop_got, drop_next}
use Rattle.anb_protocol.specs.declared.parts.Action.{Action}
use Rattle.anb_protocol.specs.Choices.{each_after}
use Rattle.anb_protocol.specs.Plans.{made_at, names_made_at}
use Rattle.anb_protocol.specs.Protocols.{ActionValue, ProtocolValue}
use Rattle.anb_protocol.specs.Texts.{atom_name}
use Rattle.anb_protocol.specs.Views.{action_value}
use Rattle.anb_chart_commands.specs.ChoiceCharts.{part_lines, part_text}

-- an item there, whatever stands for a missing one
item_got : {A : Type 0} (xs : List A) (i : ℕ) (x other : A) → slice_get xs i ≡ Some x → get_or xs i other ≡ x
item_got [] i x other e = cc
item_got (y ∷ xs) zero x other e = cc
item_got (y ∷ xs) (suc i) x other e = item_got xs i x other e

module _ (p : ProtocolValue) (from to : ℕ) (actions : List Action) (i : ℕ) (x : Action) (within : i < length actions) (is : x ≡ get_or actions i x)
    (made : List (List (List ℕ))) (before : List ActionValue) (many : length before ≡ i)
    (due : drop i made ≡ each_after (names_made_at p) before (map action_value (drop i actions))) where
  abbrev later : List ActionValue
  later = map action_value (drop (i + 1) actions)

  item : map action_value (drop i actions) ≡ action_value x ∷ later
  item = ap (map action_value) (drop_next actions i x within is)

  abbrev its_names : List (List ℕ)
  its_names = map (atom_name p) (made_at p before (action_value x))

  here : slice_get made i ≡ Some its_names
  here = (drop_got made (each_after (names_made_at p) (before ++ action_value x ∷ []) later) i its_names (due ∙ ap (each_after (names_made_at p) before) item)).0

  -- its lines are the first that are due
  pub part_first : (names : List (List ℕ)) → names ≡ get_or made i names
      → each_after (part_text p from to) before (map action_value (drop i actions))
      ≡ part_lines p from to (i + 1) (action_value x) names ++ each_after (part_text p from to) (before ++ action_value x ∷ []) later
  part_first names given =
      let these : its_names ≡ names = sym (given ∙ item_got made i its_names names here) in
      let rest = each_after (part_text p from to) (before ++ action_value x ∷ []) later in
      ap (each_after (part_text p from to) before) item
      ∙ ap (λ l. l ++ rest) (ap (λ n. part_lines p from to (n + 1) (action_value x) its_names) many ∙ ap (part_lines p from to (i + 1) (action_value x)) these)
