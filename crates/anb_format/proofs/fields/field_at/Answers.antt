use Rattle.std.proofs.Common.{◌∙◌, ◌≡◌, ◌++◌, [], ℕ, List, Option, Result, IfOk, IsSomeAnd, Bor}
use Rattle.std.proofs.lemmas.Result.{IfOk-weaker}
use Rattle.anb_base.specs.Bytes.{IsBytes}
use Rattle.anb_format.specs.declared.pieces.FieldKind.{FieldKind}
use Rattle.anb_format.specs.declared.pieces.FieldKind.TheVariants.{Rest}
use Rattle.anb_format.specs.Fields.{field_bytes}
use Rattle.anb_format.proofs.ReadingLemmas.{all_of_it}
use Rattle.anb_format.proofs.fields.field_at.Goals as goal

-- what is copied is what was found
carried : {E : Type 0} (found : Option (Bor (List ℕ) × Bor (List ℕ))) (kind : FieldKind) (bytes : List ℕ) (r : Result (Option (List ℕ × Bor (List ℕ))) E)
    → IfOk r (λ x. (b rest : List ℕ) → IsSomeAnd found (λ p. (p.0.now ≡ b) × (p.1.now ≡ rest)) → IsSomeAnd x (λ p. (p.0 ≡ b) × (p.1.now ≡ rest)))
    → ((b rest : List ℕ) → (kind ≡ Rest → rest ≡ []) → bytes ≡ field_bytes kind b ++ rest → IsSomeAnd found (λ p. (p.0.now ≡ b) × (p.1.now ≡ rest)))
    → IfOk r (λ x. (b rest : List ℕ) → IsBytes b → (kind ≡ Rest → rest ≡ []) → bytes ≡ field_bytes kind b ++ rest → IsSomeAnd x (λ p. (p.0 ≡ b) × (p.1.now ≡ rest)))
carried found kind bytes r same again =
    IfOk-weaker r (λ x. (b rest : List ℕ) → IsSomeAnd found (λ p. (p.0.now ≡ b) × (p.1.now ≡ rest)) → IsSomeAnd x (λ p. (p.0 ≡ b) × (p.1.now ≡ rest)))
    (λ x. (b rest : List ℕ) → IsBytes b → (kind ≡ Rest → rest ≡ []) → bytes ≡ field_bytes kind b ++ rest → IsSomeAnd x (λ p. (p.0 ≡ b) × (p.1.now ≡ rest)))
    (λ x h b rest small last e. h b rest (again b rest last e)) same

pub returns-in-Len-clause-again : goal.returns-in-Len-clause-again
returns-in-Len-clause-again c = carried _ _ _ _ c.copied.ensures.same (λ b rest last e. c.len_at.ensures.again b rest (rw c.in-Len.is at e))

pub returns-in-Net-clause-again : goal.returns-in-Net-clause-again
returns-in-Net-clause-again c = carried _ _ _ _ c.copied-in-Net.ensures.same (λ b rest last e. c.net_at.ensures.again b rest (rw c.in-Net.is at e))

pub returns-in_ok-from_slice-in-Rest-clause-again : goal.returns-in_ok-from_slice-in-Rest-clause-again
returns-in_ok-from_slice-in-Rest-clause-again c = λ b rest small last e.
    let parts = all_of_it c.args.bytes.now b rest (rw c.in-Rest.is at e) (last c.in-Rest.is) in
    (c.string-argument.ensures.value ∙ c.in_ok-from_slice-in-Rest.ensures.items ∙ parts.0, parts.1)
