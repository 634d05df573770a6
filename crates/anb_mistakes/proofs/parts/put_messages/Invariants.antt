use Rattle.std.proofs.Common.{◌≡◌, ◌++◌, map, drop}
use Rattle.anb_syntax.specs.Grammar.{ActionItem}
use Rattle.anb_syntax.specs.Views.{action_of}
use Rattle.anb_syntax.specs.Views.{tree_of}
use Rattle.anb_protocol.specs.Views.{pointed}
use Rattle.anb_mistakes.proofs.parts.put_messages.Given as goal

abbrev pub invariant-loop-item : goal.invariant-loop-item
invariant-loop-item l = map tree_of (pointed l.out.items) ++ map (λ (a : ActionItem). a.message) (map action_of (drop l.item-index l.actions.items)) ≡ map tree_of (pointed l.initial.out.items) ++ map (λ (a : ActionItem). a.message) (map action_of l.actions.items)
