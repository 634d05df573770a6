-- A text that is put together from its parts.
use Rattle.std.proofs.Common.{◌≡◌, ℕ, List, [], ◌++◌, ap, ◌∙◌, append_assoc}
use Rattle.std.specs.Prelude.{codes, decimal}
use Rattle.anb_term.specs.Tree.{Tree}
use Rattle.anb_term.specs.View.{tree_of}
use Rattle.anb_protocol.specs.Protocols.{ProtocolValue}
use Rattle.anb_protocol.specs.Texts.{term_text}
use Rattle.anb_reason.specs.declared.reasons.Refusal.{Refusal}
use Rattle.anb_certify_commands.specs.WhyCommand.{refusal_text, term_lines}

seven : (s t u v w x y : List ℕ) → (((((s ++ t) ++ u) ++ v) ++ w) ++ x) ++ y ≡ s ++ (t ++ (u ++ (v ++ (w ++ (x ++ y)))))
seven s t u v w x y =
    append_assoc ((((s ++ t) ++ u) ++ v) ++ w) x y ∙ append_assoc (((s ++ t) ++ u) ++ v) w (x ++ y) ∙ append_assoc ((s ++ t) ++ u) v (w ++ (x ++ y))
    ∙ append_assoc (s ++ t) u (v ++ (w ++ (x ++ y))) ∙ append_assoc s t (u ++ (v ++ (w ++ (x ++ y))))

-- the parts of a refusal's text, one behind another
pub refusal_put : (p : ProtocolValue) (sender : List ℕ) (r : Refusal) (start one two three four five six all message digits : List ℕ) (terms : List Tree)
    → start ≡ [] → one ≡ start ++ sender → two ≡ one ++ codes " can't compose " → three ≡ two ++ message → four ≡ three ++ codes " at action " → five ≡ four ++ digits
    → six ≡ five ++ codes "\n" → all ≡ six ++ term_lines p terms → message ≡ term_text p (tree_of r.term) → digits ≡ decimal r.action → terms ≡ r.terms → all ≡ refusal_text p sender r
refusal_put p sender r start one two three four five six all message digits terms empty first second third fourth fifth sixth last is_message is_digits are_terms =
    let begun : one ≡ sender = first ∙ ap (λ l. l ++ sender) empty in
    let parts : all ≡ (((((sender ++ codes " can't compose ") ++ term_text p (tree_of r.term)) ++ codes " at action ") ++ decimal r.action) ++ codes "\n") ++ term_lines p r.terms =
    last ∙ ap (λ l. l ++ term_lines p terms) (sixth ∙ ap (λ l. l ++ codes "\n") (fifth ∙ ap (λ l. l ++ digits) (fourth ∙ ap (λ l. l ++ codes " at action ")
    (third ∙ ap (λ l. l ++ message) (second ∙ ap (λ l. l ++ codes " can't compose ") begun)))))
    ∙ ap (λ m. (((((sender ++ codes " can't compose ") ++ m) ++ codes " at action ") ++ digits) ++ codes "\n") ++ term_lines p terms) is_message
    ∙ ap (λ d. (((((sender ++ codes " can't compose ") ++ term_text p (tree_of r.term)) ++ codes " at action ") ++ d) ++ codes "\n") ++ term_lines p terms) is_digits
    ∙ ap (λ ts. (((((sender ++ codes " can't compose ") ++ term_text p (tree_of r.term)) ++ codes " at action ") ++ decimal r.action) ++ codes "\n") ++ term_lines p ts) are_terms in
    parts ∙ seven sender (codes " can't compose ") (term_text p (tree_of r.term)) (codes " at action ") (decimal r.action) (codes "\n") (term_lines p r.terms)
