use Rattle.std.proofs.Common.{◌≡◌, [], take, drop}
use Rattle.anb_base.specs.declared.TheConstants.{ARRIVAL, WIDE}
use Rattle.anb_code.specs.Checking.{Knows, KnowsTakes}
use Rattle.anb_code.specs.Table.{faults_from, instr_faults}
use Rattle.anb_code.proofs.checks.check_code.Given as goal

abbrev pub invariant-loop-i : goal.invariant-loop-i
invariant-loop-i l = record {
  faults : faults_from (instr_faults ARRIVAL WIDE l.formats) (take l.i l.code) (drop l.i l.code) ≡ faults_from (instr_faults ARRIVAL WIDE l.formats) [] l.code;
  known : Knows l.formats (take l.i l.code) l.widths.items;
  takes : KnowsTakes (take l.i l.code) l.takes;
}
