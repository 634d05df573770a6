use Rattle.std.proofs.Common.{◌≡◌, map, take}
use Rattle.anb_term.specs.View.{tree_of}
use Rattle.anb_close.specs.Entries.{terms_of}
use Rattle.anb_accept.proofs.patterns.terms_of.Given as goal

abbrev pub invariant-loop-entry : goal.invariant-loop-entry
invariant-loop-entry l = map tree_of l.terms.items ≡ terms_of (take l.entry-index l.entries)
