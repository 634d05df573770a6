use Rattle.std.proofs.Common.{arith, ◌∙◌, sym, subst}
use Rattle.anb_text.specs.Refusals.{IsRefusal}
use Rattle.anb_text.proofs.Loaded.{fits, handed_on, loaded, not_a_code, not_accepted, pieces, read_code}
use Rattle.anb_text.proofs.Refused.{due, handed_due, not_refused}
use Rattle.anb_text.proofs.loading.load.Goals as goal

pub verify-requires-clause-formats : goal.verify-requires-clause-formats
verify-requires-clause-formats c = let few = (fits c.args.text.now c.in_ok-raw.raw c.in_ok-raw.ensures.spelled).formats in omega (arith, few, c.requires.size)

pub verify-requires-clause-pieces : goal.verify-requires-clause-pieces
verify-requires-clause-pieces c = pieces c.args.text.now c.in_ok-raw.raw c.in_ok-raw.ensures.spelled c.requires.size

pub verify-requires-clause-instrs : goal.verify-requires-clause-instrs
verify-requires-clause-instrs c = let few = (fits c.args.text.now c.in_ok-raw.raw c.in_ok-raw.ensures.spelled).instrs in omega (arith, few, c.requires.size)

pub verify-requires-clause-destinations : goal.verify-requires-clause-destinations
verify-requires-clause-destinations c = let few = (fits c.args.text.now c.in_ok-raw.raw c.in_ok-raw.ensures.spelled).destinations in omega (arith, few, c.requires.size)

pub returns-in_err-raw-clause-read : goal.returns-in_err-raw-clause-read
returns-in_err-raw-clause-read c = handed_on c.args.text.now c.in_err-raw.field-0.0 c.from_residual.result c.from_residual.ensures.1 c.in_err-raw.ensures.refused

pub returns-in_err-raw-clause-exact : goal.returns-in_err-raw-clause-exact
returns-in_err-raw-clause-exact c = handed_due c.args.text.now c.in_err-raw.field-0.0 c.from_residual.result c.from_residual.ensures.1 c.in_err-raw.ensures.refused

pub returns-in-Ok-clause-exact : goal.returns-in-Ok-clause-exact
returns-in-Ok-clause-exact c = not_refused c.args.text.now c.in_ok-raw.raw c.in_ok-raw.ensures.spelled c.in-Ok.ensures.accepted

pub returns-in-Ok-clause-spelled : goal.returns-in-Ok-clause-spelled
returns-in-Ok-clause-spelled c = loaded c.args.text.now c.in_ok-raw.raw c.in-Ok.code c.in_ok-raw.ensures.spelled c.in-Ok.ensures.accepted c.in-Ok.ensures.code

pub returns-in-Ok-clause-read : goal.returns-in-Ok-clause-read
returns-in-Ok-clause-read c = read_code c.args.text.now c.in_ok-raw.raw c.in-Ok.code c.in_ok-raw.ensures.spelled c.in-Ok.ensures.code

pub returns-in-Err : goal.returns-in-Err
returns-in-Err c = record {
  spelled = tt;
  read = λ code verified is. c.refusal_of.ensures ∙ not_a_code c.args.text.now c.in_ok-raw.raw c.in-Err.fault c.in_ok-raw.ensures.spelled c.in-Err.ensures.refused code verified is;
  exact = due c.args.text.now c.refusal_of.result (subst (IsRefusal c.args.text.now) (sym c.refusal_of.ensures) (not_accepted c.args.text.now c.in_ok-raw.raw c.in-Err.fault c.in_ok-raw.ensures.spelled c.in-Err.ensures.refused));
  refused = subst (IsRefusal c.args.text.now) (sym c.refusal_of.ensures) (not_accepted c.args.text.now c.in_ok-raw.raw c.in-Err.fault c.in_ok-raw.ensures.spelled c.in-Err.ensures.refused);
}
