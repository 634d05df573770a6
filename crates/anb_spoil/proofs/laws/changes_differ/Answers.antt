use Rattle.anb_spoil.proofs.Changing.{changes_differ}
use Rattle.anb_spoil.proofs.laws.changes_differ.Goals as goal

pub returns : goal.returns
returns c = changes_differ
