use Rattle.std.proofs.Common.{◌∙◌}
use Rattle.anb_format.proofs.Hexadecimals.{gives, never}
use Rattle.anb_format.proofs.fields.decoded.Goals as goal

pub returns-in-Ok-clause-again : goal.returns-in-Ok-clause-again
returns-in-Ok-clause-again c = λ b bytes e. c.string.ensures.value ∙ gives _ _ _ bytes e c.in-Ok.ensures.ok

pub returns-in-Err-InvalidHexCharacter-clause-again : goal.returns-in-Err-InvalidHexCharacter-clause-again
returns-in-Err-InvalidHexCharacter-clause-again c = λ b bytes e. never _ _ _ bytes e (λ p. cc) c.in-Err-InvalidHexCharacter.ensures.err

pub returns-in-Err-OddLength-clause-again : goal.returns-in-Err-OddLength-clause-again
returns-in-Err-OddLength-clause-again c = λ b bytes e. never _ _ _ bytes e (λ p. cc) c.in-Err-OddLength.ensures.err

pub returns-in-Err-InvalidStringLength-clause-again : goal.returns-in-Err-InvalidStringLength-clause-again
returns-in-Err-InvalidStringLength-clause-again c = λ b bytes e. never _ _ _ bytes e (λ p. cc) c.in-Err-InvalidStringLength.ensures.err
