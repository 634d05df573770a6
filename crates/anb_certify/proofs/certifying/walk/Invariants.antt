use Rattle.anb_certify.specs.Numbered.{value_of}
use Rattle.anb_certify.specs.Progress.{IsTable}
use Rattle.anb_certify.specs.Walking.{IsAt}
use Rattle.anb_certify.proofs.certifying.walk.Given as goal

abbrev pub invariant-loop-i : goal.invariant-loop-i
invariant-loop-i l = record {
  table : IsTable l.table;
  at : IsAt l.p l.role l.code l.i l.next (value_of l.table);
}
