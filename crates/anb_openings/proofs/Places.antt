-- Where an opening stands in its code.
use Rattle.std.proofs.Common.{◌≡◌, ◌≤◌, ℕ, ◌-◌, List, length, Some, subst, arith}
use Rattle.std.specs.Prelude.{slice_get}
use Rattle.std.proofs.lemmas.List.{length-map}
use Rattle.anb_lemmas.proofs.Lists.{got_within}
use Rattle.anb_term.specs.declared.term.Op.{Op}
use Rattle.anb_term.proofs.Lists.{slice_get-map}
use Rattle.anb_plays.specs.Codes.{works, undo}
use Rattle.anb_code.specs.declared.instr.Instr.{Instr}
use Rattle.anb_code.specs.CodeValue.{CodeValue}
use Rattle.anb_code.specs.Meaning.{act_of, acts_of}
use Rattle.anb_openings.specs.Openings.{HasOpening, IsOpening}

pub at_most : (code : CodeValue) (instruction : ℕ) → HasOpening code instruction → (1 ≤ instruction) × (instruction ≤ length code.instrs)
at_most code instruction (o, ks, r, is) =
    let within = got_within (acts_of code) is.at (works (undo o ks r)) is.here in
    (omega (arith, is.counts), omega (arith, is.counts, within, length-map code.instrs (act_of code.formats)))

-- the instruction there is the opening
pub is_there : (code : CodeValue) (instruction : ℕ) (x : Instr) (o : Op) (ks : List ℕ) (r : ℕ) → IsOpening (acts_of code) instruction o ks r → slice_get code.instrs (instruction - 1) ≡ Some x → act_of code.formats x ≡ works (undo o ks r)
is_there code instruction x o ks r is here =
    let place : is.at ≡ instruction - 1 = omega (arith, is.counts) in
    let at : slice_get (acts_of code) (instruction - 1) ≡ Some (works (undo o ks r)) = subst (λ j. slice_get (acts_of code) j ≡ Some (works (undo o ks r))) place is.here in
    let mine = slice_get-map (act_of code.formats) code.instrs (instruction - 1) x here in
    cc
