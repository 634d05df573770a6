use Rattle.std.proofs.Common.{arith, refl}
use Rattle.std.proofs.lemmas.Fmt.{parse-decimal}
use Rattle.anb_session_commands.proofs.words.parsed.Goals as goal

pub returns : goal.returns
returns c = λ n small e.
    let parsed = parse-decimal 32 n c.args.digits.now _ small (omega arith) e c.parse.ensures.value.0 in
    rw (c.ok.ensures.value, parsed) refl
