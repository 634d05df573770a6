use Rattle.std.proofs.Common.{◌≡◌, ◌≤◌, ℕ, List, length, map, take}
use Rattle.std.specs.List.{AllByRecursion}
use Rattle.anb_choice.specs.Order.{in_place}
use Rattle.anb_choice.proofs.placed.texts_of.Given as goal

abbrev pub invariant-loop-i : goal.invariant-loop-i
invariant-loop-i l = record {
  are : l.texts.items ≡ map (in_place l.text l.marks) (take l.i l.spans);
  short : AllByRecursion (λ (t : List ℕ). length t ≤ length l.text) l.texts.items;
}
