use Rattle.anb_text.proofs.StageLemmas.{only_version, only_protocol, only_role, only_suite, only_formats, only_code, only_nothing}
use Rattle.anb_text.proofs.stages.stage_after.Goals as goal
use Rattle.anb_text.proofs.stages.stage_after.Goals.{in_default-via-in-Start+in_default, in_default-via-in-Version+in_default, in_default-via-in-Protocol+in-One+in_default, in_default-via-in-Protocol+in-Two+in_default, in_default-via-in-Role+in_default, in_default-via-in-Formats+in_default, in_default-via-in-Code+in_default, in_default-via-in_default}

pub returns-in_default : goal.returns-in_default
returns-in_default c = elim c.in_default.branch [
  | in_default-via-in-Start+in_default w ↦ only_version _ _ w.in_default.is-0 w.in_default.not-Version-1
  | in_default-via-in-Version+in_default w ↦ only_protocol _ _ _ w.in_default.is-0 w.in_default.not-Protocol-1
  | in_default-via-in-Protocol+in-One+in_default w ↦ only_role _ _ _ _ w.in_default.is-0 w.in_default.not-Role-1
  | in_default-via-in-Protocol+in-Two+in_default w ↦ only_role _ _ _ _ w.in_default.is-0 w.in_default.not-Role-1
  | in_default-via-in-Role+in_default w ↦ only_suite _ _ _ _ w.in_default.is-0 w.in_default.not-Suite-1
  | in_default-via-in-Formats+in_default w ↦ only_formats _ _ _ _ w.in_default.is-0 w.in_default.not-Format-1 w.in_default.not-Code-1
  | in_default-via-in-Code+in_default w ↦ only_code _ _ _ _ w.in_default.is-0 w.in_default.not-Instr-1 w.in_default.not-End-1
  | in_default-via-in_default w ↦ only_nothing _ _ _ _ w.in_default.is-0
]
