-- A text that is put together from its parts.
use Rattle.std.proofs.Common.{◌≡◌, ℕ, ◌+◌, ◌<◌, List, [], ◌∷◌, ◌++◌, length, map, drop, get_or, sym, ap, ◌∙◌, append_assoc}
use Rattle.std.proofs.lemmas.List.{drop_more}
use Rattle.anb_term.specs.declared.term.Term.{Term}
use Rattle.anb_term.specs.View.{tree_of}
use Rattle.anb_protocol.specs.Protocols.{ProtocolValue}
use Rattle.anb_lack.specs.declared.origins.Origin.{Origin}
use Rattle.anb_lack.specs.Lacking.{origin_line, origin_lines}

-- six parts, one behind another
pub six : (start one two three four five all a b c d e f : List ℕ) → one ≡ start ++ a → two ≡ one ++ b → three ≡ two ++ c → four ≡ three ++ d → five ≡ four ++ e → all ≡ five ++ f
    → all ≡ start ++ (a ++ (b ++ (c ++ (d ++ (e ++ f)))))
six start one two three four five all a b c d e f first second third fourth fifth last =
    last ∙ ap (λ l. l ++ f) (fifth ∙ ap (λ l. l ++ e) (fourth ∙ ap (λ l. l ++ d) (third ∙ ap (λ l. l ++ c) (second ∙ ap (λ l. l ++ b) first))))
    ∙ append_assoc ((((start ++ a) ++ b) ++ c) ++ d) e f ∙ append_assoc (((start ++ a) ++ b) ++ c) d (e ++ f) ∙ append_assoc ((start ++ a) ++ b) c (d ++ (e ++ f))
    ∙ append_assoc (start ++ a) b (c ++ (d ++ (e ++ f))) ∙ append_assoc start a (b ++ (c ++ (d ++ (e ++ f))))

-- five
pub five : (start one two three four all a b c d e : List ℕ) → one ≡ start ++ a → two ≡ one ++ b → three ≡ two ++ c → four ≡ three ++ d → all ≡ four ++ e → all ≡ start ++ (a ++ (b ++ (c ++ (d ++ e))))
five start one two three four all a b c d e first second third fourth last =
    last ∙ ap (λ l. l ++ e) (fourth ∙ ap (λ l. l ++ d) (third ∙ ap (λ l. l ++ c) (second ∙ ap (λ l. l ++ b) first)))
    ∙ append_assoc (((start ++ a) ++ b) ++ c) d e ∙ append_assoc ((start ++ a) ++ b) c (d ++ e) ∙ append_assoc (start ++ a) b (c ++ (d ++ e)) ∙ append_assoc start a (b ++ (c ++ (d ++ e)))

-- one more line
pub had_next : (p : ProtocolValue) (terms : List Term) (origins : List Origin) (i : ℕ) (t : Term) (d : Origin) (out out' whole : List ℕ)
    → i < length terms → i < length origins → t ≡ get_or terms i t → out' ≡ out ++ origin_line p (tree_of t) (get_or origins i d)
    → out ++ origin_lines p (map tree_of (drop i terms)) (drop i origins) ≡ whole → out' ++ origin_lines p (map tree_of (drop (i + 1) terms)) (drop (i + 1) origins) ≡ whole
had_next p terms origins i t d out out' whole h k own put so_far =
    let o = get_or origins i d in
    let rest = origin_lines p (map tree_of (drop (i + 1) terms)) (drop (i + 1) origins) in
    let split : drop i terms ≡ t ∷ drop (i + 1) terms = drop_more terms i t h ∙ ap (λ y. y ∷ drop (i + 1) terms) (sym own) in
    let lines : origin_lines p (map tree_of (drop i terms)) (drop i origins) ≡ origin_line p (tree_of t) o ++ rest =
    ap (λ l. origin_lines p (map tree_of l) (drop i origins)) split ∙ ap (origin_lines p (map tree_of (t ∷ drop (i + 1) terms))) (drop_more origins i d k) in
    ap (λ l. l ++ rest) put ∙ append_assoc out (origin_line p (tree_of t) o) rest ∙ ap (λ l. out ++ l) (sym lines) ∙ so_far

-- three parts from nothing
pub three : (start one two all a b c : List ℕ) → start ≡ [] → one ≡ start ++ a → two ≡ one ++ b → all ≡ two ++ c → all ≡ a ++ (b ++ c)
three start one two all a b c empty first second last =
    last ∙ ap (λ l. l ++ c) (second ∙ ap (λ l. l ++ b) (first ∙ ap (λ l. l ++ a) empty)) ∙ append_assoc a b c
