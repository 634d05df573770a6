use Rattle.std.proofs.Common.{◌≡◌, ◌+◌, length, map, take, Some}
use Rattle.anb_term.specs.View.{tree_of}
use Rattle.anb_term.specs.FreeAlgebra.{terms}
use Rattle.anb_code.specs.Meaning.{act_of}
use Rattle.anb_machine.specs.Standing.{registers_in}
use Rattle.anb_openings.specs.Steps.{after_all}
use Rattle.anb_openings.specs.Walks.{progress}
use Rattle.anb_openings.proofs.walking.walk_over.Given as goal

abbrev pub invariant-loop-i : goal.invariant-loop-i
invariant-loop-i l =
    let gone = take l.i (map (act_of l.formats) l.instrs) in
    record {
      goes : after_all terms (map tree_of l.made) gone (progress l.arrivals l.initial.walk) ≡ Some (progress l.arrivals l.walk);
      long : length l.walk.table.items ≡ length l.initial.walk.table.items + registers_in gone;
    }
