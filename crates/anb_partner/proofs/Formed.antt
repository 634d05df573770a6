-- When a term is formed, by its operator and its operands; and when it may stand in a plan.
use Rattle.std.proofs.Common.{◌≡◌, ◌≤◌, ◌↔◌, List, length, Bool, true, false, IsTrue, Result, Ok, Err, sym, ap, ◌∙◌, subst}
use Rattle.std.specs.Result.{IfOk}
use Rattle.std.specs.Prelude.{◌==◌, ◌&&◌}
use Rattle.std.proofs.lemmas.Bool.{and_from, and_parts, eq-eqb, eqb-true}
use Rattle.anb_base.specs.declared.TheConstants.{ARRIVAL, WIDE}
use Rattle.anb_format.specs.Formats.{FormatValue}
use Rattle.anb_term.specs.declared.term.Op.{Op}
use Rattle.anb_term.specs.Operator.{arity}
use Rattle.anb_term.specs.Tree.{Tree, node, trees_of, tree_size, list_of, IsFormed, AreFormed}
use Rattle.anb_term.specs.TreeSame.{list_of-trees_of}
use Rattle.anb_algebra.specs.ByteMeaning.{has_operator}
use Rattle.anb_protocol.specs.Protocols.{ProtocolValue}
use Rattle.anb_protocol.specs.Widths.{fits_width}
use Rattle.anb_partner.specs.Plans.{MayStand}

module _ (has : Op → Bool) (t : Tree) (o : Op) (us : List Tree) (is : t ≡ node o (trees_of us)) where
  pub formed_told : (vs : List Tree) (b : Bool) → vs ≡ us → (has o && (length us == arity o)) ≡ true → (IsTrue b → AreFormed has (trees_of vs)) × (AreFormed has (trees_of vs) → IsTrue b)
      → (IsTrue b → IsFormed has t) × (IsFormed has t → IsTrue b)
  formed_told vs b same test told =
      let both = and_parts (has o) (length us == arity o) test in
      let count : length (list_of (trees_of us)) ≡ arity o = ap length (list_of-trees_of us) ∙ eqb-true (length us) (arity o) both.1 in (
        λ e. subst (IsFormed has) (sym is) (both.0, count, subst (λ l. AreFormed has (trees_of l)) same (told.0 e)),
        λ f. (let g = subst (IsFormed has) is f in told.1 (subst (λ l. AreFormed has (trees_of l)) (sym same) g.2)),
      )

  pub formed_not : (has o && (length us == arity o)) ≡ false → (IsTrue false → IsFormed has t) × (IsFormed has t → IsTrue false)
  formed_not test = (
    λ e. (let bad : false ≡ true = e in absurd (cc)),
    λ f.
        (let g = subst (IsFormed has) is f in
        let n : length us ≡ arity o = sym (ap length (list_of-trees_of us)) ∙ g.1 in
        let yes : (has o && (length us == arity o)) ≡ true = and_from (has o) (length us == arity o) g.0 (eq-eqb (length us) (arity o) n) in
        let bad : false ≡ true = sym test ∙ yes in
        bad),
  )

-- ---- what may stand in a plan

module _ (p : ProtocolValue) (formats : List FormatValue) (are : formats ≡ p.formats) (t : Tree) where
  pub stands : {E : Type 0} (r : Result Bool E) → IsFormed (has_operator formats) t → tree_size t ≤ 1024 → IfOk r (λ b. b ≡ fits_width ARRIVAL formats WIDE t) → IfOk r (λ b. IsTrue b ↔ MayStand p t)
  stands (Err e) formed small fits = tt
  stands (Ok b) formed small fits =
      let narrow : b ≡ fits_width ARRIVAL p.formats WIDE t = subst (λ l. b ≡ fits_width ARRIVAL l WIDE t) are fits in
      (λ e. record { formed = subst (λ l. IsFormed (has_operator l) t) are formed; small = small; narrow = sym narrow ∙ e }, λ h. narrow ∙ h.narrow)

  pub stands_not : (b : Bool) → b ≡ false → (IsFormed (has_operator formats) t → IsTrue b) → (IsTrue false → MayStand p t) × (MayStand p t → IsTrue false)
  stands_not b absent told = (
    λ e. (let bad : false ≡ true = e in absurd (cc)),
    λ h. sym absent ∙ told (subst (λ l. IsFormed (has_operator l) t) (sym are) h.formed),
  )
