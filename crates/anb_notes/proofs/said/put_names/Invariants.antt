use Rattle.std.proofs.Common.{◌≡◌, ◌++◌, drop}
use Rattle.anb_stranger.specs.Texts.{names_text}
use Rattle.anb_notes.proofs.said.put_names.Given as goal

abbrev pub invariant-loop-i : goal.invariant-loop-i
invariant-loop-i l = l.out.items ++ names_text l.protocol l.i (drop l.i l.names) ≡ l.initial.out.items ++ names_text l.protocol 0 l.names
