-- The role file of a code is read as that code.
use Rattle.std.proofs.Common.{◌≡◌, List, ℕ, inl}
use Rattle.anb_base.specs.declared.TheConstants.{ARRIVAL, WIDE}
use Rattle.anb_code.specs.CodeValue.{CodeValue}
use Rattle.anb_code.specs.Spelling.{raw_of}
use Rattle.anb_code.specs.Verified.{IsVerifiedCode}
use Rattle.anb_text.specs.Laws.{CodesAreNotRefused, CodesAreUnique}
use Rattle.anb_text.specs.RoleFiles.{IsSpellable, IsTextOf, role_text}
use Rattle.anb_c.specs.Compiling.{IsReadAs}

pub read_as : (code : CodeValue) → IsVerifiedCode ARRIVAL WIDE code → IsSpellable (raw_of code) → CodesAreUnique → CodesAreNotRefused → (file : List ℕ) → file ≡ role_text code → IsReadAs file code
read_as code verified spellable unique unrefused file is =
    let text : IsTextOf file code = (spellable, inl is) in
    record {
      spelled = (verified, text);
      alone = λ other spelled. unique file other code spelled.0 verified spelled.1 text;
      faultless = λ why some fault. unrefused file code why verified text some fault;
    }
