use Rattle.std.proofs.Common.{arith, refl, ◌∙◌}
use Rattle.std.proofs.lemmas.Fmt.{IsAscii-decimal, parse-decimal}
use Rattle.std.proofs.lemmas.Str.{IsUtf8-from_ascii}
use Rattle.anb_trace.proofs.fronts.parsed.Goals as goal

pub returns-in-Ok : goal.returns-in-Ok
returns-in-Ok c = record {
  again = λ n small e.
      let parsed = parse-decimal 32 n c.in-Ok.text.now _ small (omega arith) (c.in-Ok.ensures.cases.0 ∙ e) c.parse.ensures.value.0 in
      rw (c.ok.ensures.value, parsed) refl;
}

pub returns-in-Err : goal.returns-in-Err
returns-in-Err c = record { again = λ n small e. absurd (c.in-Err.ensures.cases.0 (rw e (IsUtf8-from_ascii _ (IsAscii-decimal n (omega arith))))) }
