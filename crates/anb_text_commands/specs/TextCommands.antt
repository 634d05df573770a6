-- Commands that write one text and read nothing from the wire.
use Rattle.std.specs.Prelude.{◌≡◌, ℕ, List, ◌++◌, codes, Option, Some, None}
use Rattle.anb_base.specs.Moves.{PutPrefix}
use Rattle.anb_base.specs.Wires.{WireState}
use Rattle.anb_base.specs.declared.TheConstants.{ARRIVAL, WIDE}
use Rattle.anb_syntax.specs.Canon.{canon}
use Rattle.anb_syntax.specs.Grammar.{Narration}
use Rattle.anb_code.specs.CodeValue.{CodeValue}
use Rattle.anb_code.specs.Spelling.{raw_of}
use Rattle.anb_code.specs.Verified.{IsVerifiedCode}
use Rattle.anb_compile.specs.Fitting.{FitsRole}
use Rattle.anb_compile.specs.Laws.{FittingCodesPlay}
use Rattle.anb_text.specs.RoleFiles.{IsSpellable, role_text}
use Rattle.anb_protocol.specs.Protocols.{ProtocolValue}
use Rattle.anb_explain.specs.Explained.{IsExplained, explained_by}
use Rattle.anb_explain.specs.Explanations.{AreOurs, ExplanationValue}
use Rattle.anb_status.specs.declared.status.Status.{Status}
use Rattle.anb_status.specs.declared.status.Status.TheVariants.{NoMemory}
use Rattle.anb_command.specs.Fetches.{Files, IfTold}
use Rattle.anb_command.specs.Files.{NarrationInFile}
use Rattle.anb_command.specs.Roles.{Part, PartInFile}
use Rattle.anb_command.specs.Steps.{Answer, refused, given, AnswersWith, InTurn}
use Rattle.anb_command.specs.Writing.{CompletesText, IsWriting, IsWritingOne, IsWritten}
use Rattle.anb_text_commands.specs.Pages.{text_of}
use Rattle.anb_help.specs.declared.pages.Page.{Page}
use Rattle.anb_words.specs.declared.words.RoleText.{RoleText}
use Rattle.anb_words.specs.declared.words.RoleText.TheVariants.{RoleFile, Explanation}

-- `fmt` writes the canonical text of the narration in the file
abbrev pub CanonicalOf : Narration → Answer (List ℕ) → Type 0
CanonicalOf n answer = answer ≡ given (canon n)

abbrev pub FmtText : Files → List ℕ → Answer (List ℕ) → Type 0
FmtText files narration = InTurn (NarrationInFile files narration) CanonicalOf

module _ (narration : List ℕ) (told : Option Files) where
  abbrev pub DoesFmt : (old new : WireState) → Status → Type 0
  DoesFmt old new status =
      IfTold told (λ files. IsWritingOne (FmtText files narration) status old.written new.written)

  abbrev pub CompletesFmt : Status → Type 0
  CompletesFmt status = IfTold told (λ files. CompletesText (FmtText files narration) status)

-- the text is the code's role file; or it is the role's plan and the code, with the terms of its registers
abbrev pub IsTextOf : RoleText → Part → CodeValue → List ℕ → Type 0
IsTextOf RoleFile part code text = text ≡ role_text code
IsTextOf Explanation part code text = IsExplained part.protocol part.role code text

-- what is told of a role beside its code, where that is asked for, and the text that is so
abbrev pub text_by : ProtocolValue → CodeValue → Option ExplanationValue → List ℕ
text_by p code None = role_text code
text_by p code (Some e) = explained_by p e.plan code e.terms

abbrev pub CanBeTold : ProtocolValue → CodeValue → Option ExplanationValue → Type 0
CanBeTold p code None = Unit {0}
CanBeTold p code (Some e) = AreOurs p code e

-- what writing a text line by line leaves: with want of memory a prefix
abbrev pub IsWrittenByLines : List ℕ → Status → (written written_now : Option (List ℕ)) → Type 0
IsWrittenByLines text NoMemory written written_now = PutPrefix written written_now text
IsWrittenByLines text status written written_now = IsWritten text status written written_now

-- Such a text, of a code that fits the role and is accepted. The code can be written, so its role file is
-- read as the same code; and the runs of codes that fit are the role's plays.
pub record IsDescribed (kind : RoleText) (part : Part) (text : List ℕ) : Type 0 where
  pub code : CodeValue
  pub accepted : IsVerifiedCode ARRIVAL WIDE code
  pub spellable : IsSpellable (raw_of code)
  pub fits : FitsRole part.protocol part.role code
  pub plays : FittingCodesPlay part.protocol
  pub is : IsTextOf kind part code text

-- `compile` and `explain` write such a text of the role in the narration's file
abbrev pub Describes : RoleText → Part → Answer (List ℕ) → Type 0
Describes kind part (refused status) = ⊥
Describes kind part (given text) = IsDescribed kind part text

abbrev pub DescribedText : RoleText → Files → (narration role : List ℕ) → Answer (List ℕ) → Type 0
DescribedText kind files narration role = InTurn (PartInFile files narration role) (Describes kind)

module _ (kind : RoleText) (narration role : List ℕ) (told : Option Files) where
  abbrev pub DoesDescribe : (old new : WireState) → Status → Type 0
  DoesDescribe old new status = IfTold told (λ files.
      IsWriting (DescribedText kind files narration role) status old.written new.written)

  abbrev pub CompletesDescribe : Status → Type 0
  CompletesDescribe status =
      IfTold told (λ files. CompletesText (DescribedText kind files narration role) status)

-- `help` writes a line for each command
abbrev pub help_text : List ℕ
help_text =
    codes "anb fmt <narration>\n" ++ codes "anb compile <narration> <role>\n"
    ++ codes "anb explain <narration> <role>\n" ++ codes "anb play <narration> <role> <values> [place] [--record <folder>]\n"
    ++ codes "anb enact <rolefile> <values> [place] [--record <folder>]\n"
    ++ codes "anb replay <narration> <role> <values> <transcript> [--session <n>]\n"
    ++ codes "anb host <narration> <role> <values> [place] [--record <folder>]\n"
    ++ codes "anb rehearse <narration> <values> <schedule>\n" ++ codes "anb drill <n>\n"
    ++ codes "anb help\n"
    ++ codes "anb branch <narration> <role> <values> [--arm <n>] [place] [--record <folder>]\n"
    ++ codes "anb certify <narration> <role> <rolefile>\n"
    ++ codes "anb why <narration>\n"
    ++ codes "anb park <narration> <role> <values> <key> [place] [--record <file>]\n"
    ++ codes "anb resume <narration> <role> <record> <key> [place] [--record <file>]\n"
    ++ codes "anb stage <narration> <folder or values> [--as <role> <program>].. [--timeout <seconds>] [--record <folder>]\n"
    ++ codes "anb chart <narration> [--role <name>]\n"
    ++ codes "anb check <narration> [<role> <values>]\n"
    ++ codes "anb trace <narration> <role> <values> <transcript> [--session <n>]\n"
    ++ codes "anb values <narration> [<role> <values>]\n"
    ++ codes "anb judge <narration> <role> <values> <transcript>\n"
    ++ codes "anb probe <narration> <role> <values> [--all] [--case <n>] [--timeout <seconds>] [--record <folder>] --dial <where> or -- <program> <word>..\n"

abbrev pub HelpText : Answer (List ℕ) → Type 0
HelpText answer = answer ≡ given help_text

abbrev pub DoesHelp : (old new : WireState) → Status → Type 0
DoesHelp old new status = IsWritingOne HelpText status old.written new.written

abbrev pub CompletesHelp : Status → Type 0
CompletesHelp status = CompletesText HelpText status

-- `--help`, `--version` and `help` of a command write a page
module _ (about : Page) where
  abbrev pub PageText : Answer (List ℕ) → Type 0
  PageText = AnswersWith (text_of about)

  abbrev pub DoesPage : (old new : WireState) → Status → Type 0
  DoesPage old new status = IsWritingOne PageText status old.written new.written

  abbrev pub CompletesPage : Status → Type 0
  CompletesPage status = CompletesText PageText status
