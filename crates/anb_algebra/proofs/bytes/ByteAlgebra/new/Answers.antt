use Rattle.std.proofs.Common.{◌≡◌, ℕ, Some, true, ap, ◌∙◌, arith, below_more}
use Rattle.std.specs.Prelude.{slice_get}
use Rattle.anb_lemmas.proofs.Lists.{got_within}
use Rattle.anb_format.specs.Formats.{FormatValue}
use Rattle.anb_term.proofs.Lists.{slice_get-at}
use Rattle.anb_format.specs.Formats.{is_sound}
use Rattle.anb_format.proofs.BuiltLemmas.{passes_sound}
use Rattle.anb_algebra.proofs.Operators.{operators_from}
use Rattle.anb_algebra.proofs.bytes.ByteAlgebra.new.Goals as goal

pub loop-format-preserved : goal.loop-format-preserved
loop-format-preserved c =
    let here = slice_get-at c.args.formats.now c.loop-format.format-index c.format-item.result c.loop-format-test.true c.format-item.is in
    below_more (λ (k : ℕ). (format : FormatValue) → slice_get c.args.formats.now k ≡ Some format → is_sound format.pieces ≡ true) c.loop-format.format-index c.loop-format.invariant
    (λ format e. let same : format ≡ c.format-item.result = cc in ap (λ (f : FormatValue). is_sound f.pieces) same ∙ passes_sound c.format-item.result.pieces c.pieces.ensures.sound)

pub returns-clause-operators : goal.returns-clause-operators
returns-clause-operators c i fields = operators_from c.args.formats.now i fields (λ k format e. c.loop-format.invariant k (omega (arith, got_within c.args.formats.now k format e, c.loop-format-test.false)) format e)
