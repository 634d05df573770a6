-- One after another.
use Rattle.std.proofs.Common.{◌≡◌, ℕ, List, ◌++◌, ap, ◌∙◌, append_assoc}
use Rattle.anb_notes.proofs.lines.put_used_tail.Goals as goal

-- seven in a row
in_row : (o o1 o2 o3 o4 o5 o6 o7 a b d e f g i : List ℕ) → o1 ≡ o ++ a → o2 ≡ o1 ++ b → o3 ≡ o2 ++ d → o4 ≡ o3 ++ e → o5 ≡ o4 ++ f → o6 ≡ o5 ++ g → o7 ≡ o6 ++ i
    → o7 ≡ o ++ (a ++ (b ++ (d ++ (e ++ (f ++ (g ++ i))))))
in_row o o1 o2 o3 o4 o5 o6 o7 a b d e f g i h1 h2 h3 h4 h5 h6 h7 =
    h7 ∙ ap (λ l. l ++ i) h6 ∙ append_assoc o5 g i ∙ ap (λ l. l ++ (g ++ i)) h5 ∙ append_assoc o4 f (g ++ i) ∙ ap (λ l. l ++ (f ++ (g ++ i))) h4
    ∙ append_assoc o3 e (f ++ (g ++ i)) ∙ ap (λ l. l ++ (e ++ (f ++ (g ++ i)))) h3 ∙ append_assoc o2 d (e ++ (f ++ (g ++ i))) ∙ ap (λ l. l ++ (d ++ (e ++ (f ++ (g ++ i))))) h2
    ∙ append_assoc o1 b (d ++ (e ++ (f ++ (g ++ i)))) ∙ ap (λ l. l ++ (b ++ (d ++ (e ++ (f ++ (g ++ i)))))) h1 ∙ append_assoc o a (b ++ (d ++ (e ++ (f ++ (g ++ i)))))

pub returns : goal.returns
returns c =
    in_row _ _ _ _ _ _ _ _ _ _ _ _ _ _ _ c.in_ok-extend_from_slice.ensures.items c.in_ok-put_action.ensures c.in_ok-extend_from_slice-2.ensures.items c.in_ok-put_receiver.ensures
    c.in_ok-extend_from_slice-3.ensures.items c.in_ok-put_unbrought.ensures c.in_ok-push.ensures.items
