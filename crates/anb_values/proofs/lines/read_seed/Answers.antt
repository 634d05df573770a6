use Rattle.std.proofs.Common.{◌≡◌, length, arith}
use Rattle.std.proofs.lemmas.Result.{IfOk-weaker}
use Rattle.anb_values.proofs.LineLemmas.{seed_from}
use Rattle.anb_values.proofs.lines.read_seed.Goals as goal

pub returns-clause-some : goal.returns-clause-some
returns-clause-some c =
    let size : length c.in-Some.digits.now ≡ 64 = omega arith in
    IfOk-weaker c.decoded.result _ _ (λ r h. seed_from c.args.text.now c.in-Some.digits.now r c.in-Some.ensures size h) c.decoded.ensures.some
