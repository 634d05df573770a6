use Rattle.std.proofs.Common.{◌≡◌, ◌++◌, drop, map}
use Rattle.anb_term.specs.View.{tree_of}
use Rattle.anb_certify_commands.specs.WhyCommand.{term_lines}
use Rattle.anb_certify_commands.proofs.put_terms.Given as goal

abbrev pub invariant-loop-term : goal.invariant-loop-term
invariant-loop-term l =
    l.out.items ++ term_lines l.protocol (map tree_of (drop l.term-index l.terms)) ≡ l.initial.out.items ++ term_lines l.protocol (map tree_of l.terms)
