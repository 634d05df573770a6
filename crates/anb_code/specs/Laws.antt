-- What holds of codes whatever they are.
use Rattle.std.specs.Prelude.{◌≡◌, ℕ, ◌+◌, ◌*◌, ◌^◌, ◌<◌, length, Bool, IsTrue, All}
use Rattle.anb_base.specs.declared.TheConstants.{ARRIVAL, WIDE}
use Rattle.anb_term.specs.declared.term.Op.{Op}
use Rattle.anb_plays.specs.Exec.{HasTakes}
use Rattle.anb_code.specs.CodeValue.{CodeValue}
use Rattle.anb_code.specs.RawValue.{RawValue}
use Rattle.anb_code.specs.Meaning.{IsOperator, acts_of}
use Rattle.anb_code.specs.Spelling.{code_of, raw_of}
use Rattle.anb_code.specs.Table.{HasCounts, IsAccepted, written}
use Rattle.anb_code.specs.Taking.{take_texts}
use Rattle.anb_code.specs.Verified.{IsVerifiedCode}

-- in an algebra that has all operators over the code's formats its takes stand first, and its acts name only registers that were
-- written before, as many as their operators want. So a run over the values of registers is its run
abbrev pub VerifiedIsRunnable : Type 0
VerifiedIsRunnable = (arrival wide : ℕ) (code : CodeValue) → IsVerifiedCode arrival wide code
    → (has : Op → Bool) → ((o : Op) → IsOperator code.formats o → IsTrue (has o)) → HasTakes has (acts_of code) 0 (length (take_texts code.instrs))

-- what is accepted with some limits is accepted with four times these
abbrev pub WiderAccepts : Type 0
WiderAccepts = (arrival wide : ℕ) (raw : RawValue) → IsAccepted arrival wide raw → IsAccepted (4 * arrival) (4 * wide) raw

-- so what is accepted with 65,536 and 16,777,216 is accepted
abbrev pub QuarterAccepts : Type 0
QuarterAccepts = (raw : RawValue) → IsAccepted 65536 16777216 raw → IsAccepted ARRIVAL WIDE raw

-- a raw code that spells this one: it can be verified, it is accepted, and this comes of it
pub record Spells (arrival wide : ℕ) (raw : RawValue) (code : CodeValue) : Type 0 where
  pub counts : All HasCounts raw.code
  pub few_formats : length raw.formats + 1 < 2 ^ 32
  pub few_instrs : length raw.code + 1 < 2 ^ 32
  pub few_destinations : length (written raw.code) + 1 < 2 ^ 32
  pub accepted : IsAccepted arrival wide raw
  pub same : code_of raw ≡ code

-- each verified code is spelled
abbrev pub VerifiedIsSpelled : Type 0
VerifiedIsSpelled = (arrival wide : ℕ) (code : CodeValue) → IsVerifiedCode arrival wide code → Spells arrival wide (raw_of code) code
