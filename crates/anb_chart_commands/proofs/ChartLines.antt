-- Lines of the chart of a choice, part by part.
use Rattle.std.proofs.Common.{◌≡◌, ℕ, ◌+◌, ◌<◌, List, [], ◌∷◌, ◌++◌, length, drop, get_or, ap, sym, ◌∙◌, append_assoc}
use Rattle.std.specs.Prelude.{codes}
use Rattle.anb_lemmas.proofs.Lists.{drop_next}
use Rattle.anb_protocol.specs.Protocols.{ProtocolValue}
use Rattle.anb_chart.specs.Charts.{line}
use Rattle.anb_chart_commands.specs.ChoiceCharts.{arm_line, arms_lines, lines_between}

-- the line that begins an arm
pub arm_put : (old word chooser number : List ℕ)
    → (((((old ++ codes "    ") ++ word) ++ chooser) ++ codes " chooses arm ") ++ number) ++ 10 ∷ []
    ≡ old ++ line (word ++ (chooser ++ (codes " chooses arm " ++ number)))
arm_put old word chooser number = simp append_assoc

module _ (chooser : List ℕ) (stem : ℕ) (arms : List ProtocolValue) (i : ℕ) (p : ProtocolValue) (within : i < length arms) (at : p ≡ get_or arms i p) where
  -- an arm more
  pub next_arm : (out : List ℕ)
      → ((out ++ arm_line chooser (i + 1)) ++ lines_between p stem (length p.actions)) ++ arms_lines chooser stem ((i + 1) + 1) (drop (i + 1) arms)
      ≡ out ++ arms_lines chooser stem (i + 1) (drop i arms)
  next_arm out =
      let first = arm_line chooser (i + 1) in
      let lines = lines_between p stem (length p.actions) in
      let rest = arms_lines chooser stem ((i + 1) + 1) (drop (i + 1) arms) in
      append_assoc (out ++ first) lines rest ∙ append_assoc out first (lines ++ rest)
      ∙ ap (λ (ps : List ProtocolValue). out ++ arms_lines chooser stem (i + 1) ps) (sym (drop_next arms i p within at))
