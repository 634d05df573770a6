use Rattle.std.proofs.Common.{◌≡◌, ◌≤◌, take}
use Rattle.std.specs.List.{count_by}
use Rattle.anb_choice.specs.declared.marks.Kind.TheVariants.{Semicolon}
use Rattle.anb_choice.specs.declared.marks.Mark.{Mark}
use Rattle.anb_choice.specs.Order.{kind_eqb}
use Rattle.anb_choice.proofs.order.closed.Given as goal

abbrev pub invariant-loop-mark : goal.invariant-loop-mark
invariant-loop-mark l = record {
  few : l.count ≤ l.mark-index;
  so_far : l.count ≡ count_by (λ (m : Mark). kind_eqb m.kind Semicolon) (take l.mark-index l.marks);
}
