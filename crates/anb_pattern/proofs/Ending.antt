-- The lines at a role's end, one after another.
use Rattle.std.proofs.Common.{◌≡◌, ℕ, List, ◌++◌, length, true, false, ap, ◌∙◌, append_assoc}
use Rattle.std.specs.Prelude.{codes}
use Rattle.anb_term.specs.Tree.{Tree}
use Rattle.anb_protocol.specs.Protocols.{ProtocolValue}
use Rattle.anb_pattern.specs.Variables.{meanings, unchecked, resting, picked_from}
use Rattle.anb_pattern.specs.Counts.{stands}
use Rattle.anb_pattern.specs.Taken.{end_lines, listed, received, unchecked_line}

pub lines_put : (p : ProtocolValue) (role : ℕ) (patterns ms us rs : List Tree) (out one two three : List ℕ) → ms ≡ meanings (length p.atoms) patterns (received p role)
    → us ≡ picked_from (stands patterns true) (length p.atoms) ms → rs ≡ picked_from (stands patterns false) (length p.atoms) ms
    → one ≡ out ++ listed p (codes "  ?1 stands for ") true ms → two ≡ one ++ unchecked_line p us → three ≡ two ++ listed p (codes "  rests on arrivals alone: ") false rs
    → three ≡ out ++ end_lines p role patterns
lines_put p role patterns ms us rs out one two three is takes rests a b c =
    let n = length p.atoms in
    let h = received p role in
    let l : List ℕ = listed p (codes "  ?1 stands for ") true (meanings n patterns h) in
    let u : List ℕ = unchecked_line p (unchecked n patterns h) in
    let r : List ℕ = listed p (codes "  rests on arrivals alone: ") false (resting n patterns h) in
    let first : one ≡ out ++ l = a ∙ ap (λ z. out ++ listed p (codes "  ?1 stands for ") true z) is in
    let second : two ≡ (out ++ l) ++ u = b ∙ ap (λ z. z ++ unchecked_line p us) first ∙ ap (λ z. (out ++ l) ++ unchecked_line p z) (takes ∙ ap (picked_from (stands patterns true) n) is) in
    c ∙ ap (λ z. z ++ listed p (codes "  rests on arrivals alone: ") false rs) second ∙ ap (λ z. ((out ++ l) ++ u) ++ listed p (codes "  rests on arrivals alone: ") false z) (rests ∙ ap (picked_from (stands patterns false) n) is)
    ∙ append_assoc (out ++ l) u r ∙ append_assoc out l (u ++ r)
