use Rattle.std.proofs.Common.{◌≡◌, ◌++◌, map, drop, cond}
use Rattle.anb_syntax.specs.Words.{close_sign}
use Rattle.anb_syntax.specs.Grammar.{trees_of, spell_trees, spell_others}
use Rattle.anb_syntax.specs.Canon.{words_bytes}
use Rattle.anb_syntax.specs.Views.{tree_of}
use Rattle.anb_syntax.proofs.writing.+put.Given as goal

abbrev pub invariant-put_arguments-loop-argument : goal.invariant-put_arguments-loop-argument
invariant-put_arguments-loop-argument l =
    let rest = trees_of (map tree_of (drop l.argument-index l.arguments.items)) in
    l.out.items ++ words_bytes (cond l.first (spell_trees close_sign rest) (spell_others close_sign rest)) ≡ l.initial.out.items ++ words_bytes (spell_trees close_sign (trees_of (map tree_of l.arguments.items)))
