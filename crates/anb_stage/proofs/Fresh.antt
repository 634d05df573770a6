-- Children of which nothing was asked.
use Rattle.std.proofs.Common.{◌≡◌, ◌<◌, ◌+◌, ℕ, zero, suc, List, [], ◌∷◌, ◌++◌, length, drop, get_or, refl, sym, ap, ◌∙◌, arith, append_assoc, append-nil, length-append}
use Rattle.std.proofs.lemmas.List.{drop_more}
use Rattle.anb_stage.specs.Memory.{MemoryChild, absent, fresh_child, fresh_children}

-- one child more of the first
pub fresh_next : (room k : ℕ) (old new all : List MemoryChild) (output : List ℕ) (rest outputs : List (List ℕ)) (statuses : List ℕ) (status : ℕ)
    → k ≡ length old → k < length statuses → status ≡ get_or statuses k status → rest ≡ output ∷ outputs → new ≡ old ++ fresh_child room output status ∷ []
    → old ++ fresh_children room rest (drop (length old) statuses) ≡ all
    → new ++ fresh_children room outputs (drop (length new) statuses) ≡ all
fresh_next room k old new all output rest outputs statuses status count h e step pushed before =
    let next : drop k statuses ≡ status ∷ drop (k + 1) statuses =
    drop_more statuses k status h ∙ ap (λ s. s ∷ drop (k + 1) statuses) (sym e) in
    let more : length new ≡ k + 1 = ap length pushed ∙ omega (arith, length-append old (fresh_child room output status ∷ []), count) in
    ap (λ n. new ++ fresh_children room outputs (drop n statuses)) more
    ∙ ap (λ l. l ++ fresh_children room outputs (drop (k + 1) statuses)) pushed
    ∙ append_assoc old (fresh_child room output status ∷ []) (fresh_children room outputs (drop (k + 1) statuses))
    ∙ ap (λ l. old ++ fresh_children room (output ∷ outputs) l) (sym next) ∙ ap (λ l. old ++ fresh_children room l (drop k statuses)) (sym step)
    ∙ ap (λ n. old ++ fresh_children room rest (drop n statuses)) count ∙ before

pub fresh_unstarted : (room : ℕ) (outputs : List (List ℕ)) (statuses : List ℕ) (role : ℕ) → (get_or (fresh_children room outputs statuses) role absent).phase ≡ 0
fresh_unstarted room [] statuses role = refl
fresh_unstarted room (output ∷ outputs) [] role = refl
fresh_unstarted room (output ∷ outputs) (status ∷ statuses) zero = refl
fresh_unstarted room (output ∷ outputs) (status ∷ statuses) (suc role) = fresh_unstarted room outputs statuses role

-- no output is left
pub nothing_left : (room : ℕ) (children all : List MemoryChild) (rest : List (List ℕ)) (statuses : List ℕ) → length rest ≡ 0
    → children ++ fresh_children room rest statuses ≡ all → children ≡ all
nothing_left room children all [] statuses none is = sym (append-nil children) ∙ is
nothing_left room children all (output ∷ rest) statuses none is = absurd (omega (arith, none))
