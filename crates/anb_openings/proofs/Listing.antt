-- The openings of a code, one instruction after another.
use Rattle.std.proofs.Common.{◌≡◌, ℕ, ◌+◌, List, [], ◌∷◌, ◌++◌, map, drop, Bool, true, false, cond, Some, refl, sym, ap, ◌∙◌, subst, append_assoc}
use Rattle.std.specs.Prelude.{slice_get, ◌&&◌, ◌||◌}
use Rattle.std.proofs.lemmas.List.{append-nil}
use Rattle.anb_term.specs.declared.term.Op.{Op}
use Rattle.anb_term.proofs.Lists.{slice_get-map}
use Rattle.anb_plays.specs.Codes.{Act, takes, draws, receives, sends, works, make, undo, equal}
use Rattle.anb_code.specs.declared.instr.Instr.{Instr}
use Rattle.anb_code.specs.CodeValue.{CodeValue}
use Rattle.anb_code.specs.Meaning.{act_of, acts_of}
use Rattle.anb_compile.proofs.Valuing.{left_events}
use Rattle.anb_openings.specs.Openings.{is_arrival, is_opening, openings_from, openings_of, HasOpening}

-- an opening undoes a register with keys
opens : (act : Act) → is_opening act ≡ true → (o : Op) × (ks : List ℕ) × (r : ℕ) × (act ≡ works (undo o ks r))
opens takes e = cc
opens draws e = cc
opens receives e = cc
opens (sends r) e = cc
opens (works (make o rs)) e = cc
opens (works (undo o ks r)) e = (o, ks, r, refl)
opens (works (equal a b)) e = cc

module _ (code : CodeValue) where
  -- these openings, and those that are left, are all
  abbrev pub ListedTo : ℕ → Bool → List ℕ → Type 0
  ListedTo i came openings = openings ++ openings_from came i (map (act_of code.formats) (drop i code.instrs)) ≡ openings_of (acts_of code)

  module _ (i : ℕ) (x : Instr) (here : slice_get code.instrs i ≡ Some x) where
    abbrev act : Act
    act = act_of code.formats x

    abbrev rest : List Act
    rest = map (act_of code.formats) (drop (i + 1) code.instrs)

    turned : (came : Bool) (openings : List ℕ) → ListedTo i came openings → openings ++ openings_from came i (act ∷ rest) ≡ openings_of (acts_of code)
    turned came openings is = subst (λ l. openings ++ openings_from came i l ≡ openings_of (acts_of code)) (left_events (act_of code.formats) code.instrs i x here) is

    -- an opening, or none
    pub one_more : (came : Bool) (openings : List ℕ) → (came && is_opening act) ≡ true → ListedTo i came openings → ListedTo (i + 1) (came || is_arrival act) (openings ++ (i + 1) ∷ [])
    one_more came openings one is =
        let rest_is = openings_from (came || is_arrival act) (i + 1) rest in
        append_assoc openings ((i + 1) ∷ []) rest_is ∙ ap (λ b. openings ++ (cond b ((i + 1) ∷ []) [] ++ rest_is)) (sym one) ∙ turned came openings is

    pub none_more : (came : Bool) (openings : List ℕ) → (came && is_opening act) ≡ false → ListedTo i came openings → ListedTo (i + 1) (came || is_arrival act) openings
    none_more came openings none is = ap (λ b. openings ++ (cond b ((i + 1) ∷ []) [] ++ openings_from (came || is_arrival act) (i + 1) rest)) (sym none) ∙ turned came openings is

    pub is_one : is_opening act ≡ true → HasOpening code (i + 1)
    is_one e =
        let c = opens act e in
        (c.0, c.1, c.2, record { at = i; counts = refl; here = slice_get-map (act_of code.formats) code.instrs i x here ∙ ap Some c.3 })

  pub listed_all : (i : ℕ) (came : Bool) (openings : List ℕ) → drop i code.instrs ≡ [] → ListedTo i came openings → openings ≡ openings_of (acts_of code)
  listed_all i came openings none is = sym (append-nil openings) ∙ subst (λ l. openings ++ openings_from came i (map (act_of code.formats) l) ≡ openings_of (acts_of code)) none is
