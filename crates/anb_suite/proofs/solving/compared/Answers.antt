-- The instruction of the check.
use Rattle.std.proofs.Common.{◌≡◌, ◌-◌, List, length, Some, sym, ap, subst, arith}
use Rattle.std.specs.Prelude.{slice_get}
use Rattle.std.proofs.lemmas.List.{length-map}
use Rattle.anb_lemmas.proofs.Lists.{got_within}
use Rattle.anb_term.proofs.Lists.{slice_get-at, slice_get-map}
use Rattle.anb_plays.specs.Codes.{works, equal}
use Rattle.anb_code.specs.declared.instr.Instr.{Instr}
use Rattle.anb_code.specs.Meaning.{act_of, acts_of}
use Rattle.anb_distinguish.specs.Finding.{IsCheck}
use Rattle.anb_suite.proofs.solving.compared.Goals as goal

pub returns : goal.returns
returns c =
    let code = c.args.code.now in
    let x = c.index-instrs-at.result in
    let k = c.args.check - 1 in
    let h = c.requires in
    let is = h.2 in
    let place : is.at ≡ k = omega (arith, is.counts) in
    let P : List Instr → Type 0 = λ l. slice_get l k ≡ Some x in
    let here = subst P c.instrs-instrs.ensures.instrs (slice_get-at c.instrs-instrs.result.now k x (omega (arith, place, got_within (acts_of code) is.at (works (equal h.0 h.1)) is.here, length-map code.instrs (act_of code.formats), ap length c.instrs-instrs.ensures.instrs)) c.index-instrs-at.is) in
    let at : slice_get (acts_of code) k ≡ Some (works (equal h.0 h.1)) = subst (λ j. slice_get (acts_of code) j ≡ Some (works (equal h.0 h.1))) place is.here in
    let mine = slice_get-map (act_of code.formats) code.instrs k x here in
    let act : act_of code.formats x ≡ works (equal h.0 h.1) = cc in
    let both = c.sides_of.ensures code.formats h.0 h.1 act in
    subst (λ b. IsCheck (acts_of code) c.args.check c.sides_of.result.0 b) (sym both.1) (subst (λ a. IsCheck (acts_of code) c.args.check a h.1) (sym both.0) is)
