-- The checks of a code, one instruction after another.
use Rattle.std.proofs.Common.{◌≡◌, ℕ, ◌+◌, List, [], ◌∷◌, ◌++◌, map, drop, Bool, true, false, cond, Some, refl, sym, ap, ◌∙◌, subst, append_assoc}
use Rattle.std.specs.Prelude.{slice_get, ◌&&◌, ◌||◌}
use Rattle.std.proofs.lemmas.List.{append-nil}
use Rattle.anb_term.proofs.Lists.{slice_get-map}
use Rattle.anb_plays.specs.Codes.{Act, takes, draws, receives, sends, works, make, undo, equal}
use Rattle.anb_code.specs.declared.instr.Instr.{Instr}
use Rattle.anb_code.specs.CodeValue.{CodeValue}
use Rattle.anb_code.specs.Meaning.{act_of, acts_of}
use Rattle.anb_compile.proofs.Valuing.{left_events}
use Rattle.anb_probe.specs.Cases.{is_comparison}
use Rattle.anb_suite.specs.Suites.{is_receive, checks_from, checks_of, HasCheck}

-- a comparison compares two registers
compares : (act : Act) → is_comparison act ≡ true → (a : ℕ) × (b : ℕ) × (act ≡ works (equal a b))
compares takes e = cc
compares draws e = cc
compares receives e = cc
compares (sends r) e = cc
compares (works (make o rs)) e = cc
compares (works (undo o ks r)) e = cc
compares (works (equal a b)) e = (a, b, refl)

module _ (code : CodeValue) where
  -- these checks, and those that are left, are all
  abbrev pub CheckedTo : ℕ → Bool → List ℕ → Type 0
  CheckedTo i came checks = checks ++ checks_from came i (map (act_of code.formats) (drop i code.instrs)) ≡ checks_of (acts_of code)

  module _ (i : ℕ) (x : Instr) (here : slice_get code.instrs i ≡ Some x) where
    abbrev act : Act
    act = act_of code.formats x

    abbrev rest : List Act
    rest = map (act_of code.formats) (drop (i + 1) code.instrs)

    turned : (came : Bool) (checks : List ℕ) → CheckedTo i came checks → checks ++ checks_from came i (act ∷ rest) ≡ checks_of (acts_of code)
    turned came checks is = subst (λ l. checks ++ checks_from came i l ≡ checks_of (acts_of code)) (left_events (act_of code.formats) code.instrs i x here) is

    -- a check, or none
    pub one_more : (came : Bool) (checks : List ℕ) → (came && is_comparison act) ≡ true → CheckedTo i came checks → CheckedTo (i + 1) (came || is_receive act) (checks ++ (i + 1) ∷ [])
    one_more came checks is_one is =
        let rest_is = checks_from (came || is_receive act) (i + 1) rest in
        append_assoc checks ((i + 1) ∷ []) rest_is ∙ ap (λ b. checks ++ (cond b ((i + 1) ∷ []) [] ++ rest_is)) (sym is_one) ∙ turned came checks is

    pub none_more : (came : Bool) (checks : List ℕ) → (came && is_comparison act) ≡ false → CheckedTo i came checks → CheckedTo (i + 1) (came || is_receive act) checks
    none_more came checks is_none is = ap (λ b. checks ++ (cond b ((i + 1) ∷ []) [] ++ checks_from (came || is_receive act) (i + 1) rest)) (sym is_none) ∙ turned came checks is

    pub is_check : is_comparison act ≡ true → HasCheck code (i + 1)
    is_check e =
        let c = compares act e in
        (c.0, c.1, record { at = i; counts = refl; here = slice_get-map (act_of code.formats) code.instrs i x here ∙ ap Some c.2 })

  pub checked_all : (i : ℕ) (came : Bool) (checks : List ℕ) → drop i code.instrs ≡ [] → CheckedTo i came checks → checks ≡ checks_of (acts_of code)
  checked_all i came checks none is = sym (append-nil checks) ∙ subst (λ l. checks ++ checks_from came i (map (act_of code.formats) l) ≡ checks_of (acts_of code)) none is
