use Rattle.anb_choice.specs.Views.{branched_of}
use Rattle.anb_branch.proofs.Refusals.{have_role}
use Rattle.anb_branch.proofs.compiling.compile_arms.Goals as goal

pub codes_of-requires-clause-roles : goal.codes_of-requires-clause-roles
codes_of-requires-clause-roles c = rw c.deref.ensures.value (have_role (branched_of c.args.b.now) c.args.role.now c.requires.lawful c.requires.is_role)

pub returns-clause-sendable : goal.returns-clause-sendable
returns-clause-sendable c = rw c.deref.ensures.value at c.codes_of.ensures.sendable
