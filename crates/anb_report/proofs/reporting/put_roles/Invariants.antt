use Rattle.std.proofs.Common.{◌≡◌, List, [], ◌++◌, length, drop}
use Rattle.anb_code.specs.CodeValue.{CodeValue}
use Rattle.anb_protocol.specs.Choices.{each_after}
use Rattle.anb_report.specs.Reporting.{role_after}
use Rattle.anb_report.proofs.reporting.put_roles.Given as goal

abbrev pub invariant-loop-role : goal.invariant-loop-role
invariant-loop-role l = record {
  before : List CodeValue;
  many : length before ≡ l.role;
  due : l.out.items ++ each_after (role_after l.protocol l.taken) before (drop l.role l.codes) ≡ l.initial.out.items ++ each_after (role_after l.protocol l.taken) [] l.codes;
}
