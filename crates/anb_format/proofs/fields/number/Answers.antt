use Rattle.std.proofs.Common.{refl, ◌∙◌}
use Rattle.std.proofs.lemmas.Fmt.{parse-decimal}
use Rattle.anb_format.proofs.Decimals.{as_std, is_text}
use Rattle.anb_format.proofs.fields.number.Goals as goal

pub returns-in-Ok : goal.returns-in-Ok
returns-in-Ok c = record {
  again = λ n small e.
      let text = c.in-Ok.ensures.cases in
      let parsed = parse-decimal 64 n c.in-Ok.text.now _ small small (text.0 ∙ e ∙ as_std n small) c.parse.ensures.value.0 in
      rw (c.ok.ensures.value, parsed) refl;
}

pub returns-in-Err : goal.returns-in-Err
returns-in-Err c = record { again = λ n small e. absurd (c.in-Err.ensures.cases.0 (is_text n _ small e)) }
