-- One after another.
use Rattle.std.proofs.Common.{◌≡◌, ℕ, List, ◌++◌, ap, ◌∙◌, append_assoc}
use Rattle.anb_notes.proofs.lines.put_made_head.Goals as goal

-- five in a row
in_row : (o o1 o2 o3 o4 o5 a b d e f : List ℕ) → o1 ≡ o ++ a → o2 ≡ o1 ++ b → o3 ≡ o2 ++ d → o4 ≡ o3 ++ e → o5 ≡ o4 ++ f → o5 ≡ o ++ (a ++ (b ++ (d ++ (e ++ f))))
in_row o o1 o2 o3 o4 o5 a b d e f h1 h2 h3 h4 h5 =
    h5 ∙ ap (λ l. l ++ f) h4 ∙ append_assoc o3 e f ∙ ap (λ l. l ++ (e ++ f)) h3 ∙ append_assoc o2 d (e ++ f) ∙ ap (λ l. l ++ (d ++ (e ++ f))) h2
    ∙ append_assoc o1 b (d ++ (e ++ f)) ∙ ap (λ l. l ++ (b ++ (d ++ (e ++ f)))) h1 ∙ append_assoc o a (b ++ (d ++ (e ++ f)))

pub returns : goal.returns
returns c =
    in_row _ _ _ _ _ _ _ _ _ _ _ c.in_ok-extend_from_slice.ensures.items c.in_ok-put_name.ensures c.in_ok-extend_from_slice-2.ensures.items c.in_ok-put_role.ensures
    c.in_ok-extend_from_slice-3.ensures.items
