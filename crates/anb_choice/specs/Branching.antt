-- What a branched text tells, and why a text is none.
use Rattle.std.specs.Prelude.{◌≡◌, ℕ, ◌+◌, List, [], ◌∷◌, ◌++◌, length, map, not, Option, Some, None}
use Rattle.std.specs.Option.{option_map, option_or}
use Rattle.std.specs.List.{AllZip}
use Rattle.anb_index.specs.Places.{among}
use Rattle.anb_base.specs.declared.TheConstants.{ARRIVAL, WIDE}
use Rattle.anb_syntax.specs.Grammar.{Narration}
use Rattle.anb_syntax.specs.Text.{Text}
use Rattle.anb_read.specs.Refusals as read
use Rattle.anb_protocol.specs.Checks.{IsWellFormed, fault}
use Rattle.anb_protocol.specs.Choices.{refuse_if, first_after}
use Rattle.anb_protocol.specs.Protocols.{ProtocolValue, protocol_of}
use Rattle.anb_choice.specs.declared.marks.Mark.{Mark}
use Rattle.anb_choice.specs.declared.order.Span.{Span}
use Rattle.anb_outcomes.specs.declared.choices.BranchNo.{BranchNo}
use Rattle.anb_outcomes.specs.declared.choices.BranchNo.TheVariants.{Token, Shape, ArmRead, ArmResolve, Roles, Chooser, Blind, NoMemory}
use Rattle.anb_choice.specs.Lawful.{BranchedValue, roles_in, are_same_names, blind}
use Rattle.anb_choice.specs.Order.{AreMarks, HasOrder, IsMisplaced, bad_at, chooser_in, in_place, stem_actions, straight}

-- the protocol of the text's narration, which is well formed
pub record Tells (text : List ℕ) (p : ProtocolValue) : Type 0 where
  pub narration : Narration
  pub is_text : Text narration text
  pub well_formed : IsWellFormed ARRIVAL WIDE narration
  pub is : p ≡ protocol_of narration

-- The text has a choice behind a stem, and these are its arms.
pub record IsOrdered (x : List ℕ) (ms : List Mark) (arms : List Span) : Type 0 where
  pub marks : AreMarks x ms
  pub tokens : bad_at ms ≡ None
  pub order : HasOrder ms arms

-- for each arm the text of the stem and the arm
abbrev pub straights : List ℕ → List Mark → List Span → List (List ℕ)
straights x ms arms = map (straight x ms) arms

-- the text is in the order of one with a choice
abbrev pub HasArms : List ℕ → Type 0
HasArms x = (ms : List Mark) × (spans : List Span) × IsOrdered x ms spans

-- for each arm the text of the stem and the arm, each token where it stands in the text
abbrev pub AreArmTexts : List ℕ → List (List ℕ) → Type 0
AreArmTexts x texts =
    (ms : List Mark) × (spans : List Span) × IsOrdered x ms spans × (texts ≡ map (in_place x ms) spans)

-- The text tells this choice: the stem and each arm are a narration that is well formed.
pub record BranchedText (x : List ℕ) (b : BranchedValue) : Type 0 where
  pub marks : List Mark
  pub spans : List Span
  pub ordered : IsOrdered x marks spans
  pub chooser : b.chooser ≡ chooser_in x marks
  pub stem : b.stem ≡ stem_actions marks
  pub arms : AllZip Tells (straights x marks spans) b.arms

-- Of these texts the one with this number, from 1, is refused for what it is, and none before is.
pub record FirstRefused (texts : List (List ℕ)) (number : ℕ) (Refused : List ℕ → Type 0) : Type 0 where
  pub before : List (List ℕ)
  pub text : List ℕ
  pub others : List (List ℕ)
  pub are : texts ≡ before ++ text ∷ others
  pub is : number ≡ length before + 1
  pub arms : List ProtocolValue
  pub told : AllZip Tells before arms
  pub refused : Refused text

abbrev pub ArmIsRefused : List (List ℕ) → BranchNo → Type 0
ArmIsRefused texts (ArmRead arm why) = FirstRefused texts arm (λ text. read.IsRefusal text why)
ArmIsRefused texts (ArmResolve arm why) = FirstRefused texts arm (λ text. (n : Narration) × Text n text × (fault ARRIVAL WIDE n ≡ Some why))
ArmIsRefused texts why = ⊥

-- the tokens are in order, and an arm is refused so
abbrev pub RefusesArm : List ℕ → BranchNo → Type 0
RefusesArm x why = (ms : List Mark) × (spans : List Span) × IsOrdered x ms spans × ArmIsRefused (straights x ms spans) why

-- the first arm with other role names than arm 1
abbrev pub other_roles : BranchedValue → Option ℕ
other_roles b = first_after (λ before (p : ProtocolValue). refuse_if (not (are_same_names (roles_in b) p.roles)) (length before + 1)) [] b.arms

abbrev pub blind_refusal : List ℕ × ℕ → BranchNo
blind_refusal r = Blind r.0 r.1

-- why a choice isn't lawful, though each arm is a narration
abbrev pub choice_fault : BranchedValue → Option BranchNo
choice_fault b =
    option_or (option_map Roles (other_roles b))
    (option_or (refuse_if (not (among (roles_in b) b.chooser)) Chooser)
    (option_map blind_refusal (blind b)))

-- the text tells a choice that is refused so
abbrev pub RefusesChoice : List ℕ → BranchNo → Type 0
RefusesChoice x why = (b : BranchedValue) × BranchedText x b × (choice_fault b ≡ Some why)

-- Why a text is no branched text: the first cause. Want of memory has none.
abbrev pub IsRefusal : List ℕ → BranchNo → Type 0
IsRefusal x (Token at) = (ms : List Mark) × AreMarks x ms × (bad_at ms ≡ Some at)
IsRefusal x (Shape at) = (ms : List Mark) × AreMarks x ms × (bad_at ms ≡ None) × IsMisplaced ms at
IsRefusal x (ArmRead arm why) = RefusesArm x (ArmRead arm why)
IsRefusal x (ArmResolve arm why) = RefusesArm x (ArmResolve arm why)
IsRefusal x (Roles arm) = RefusesChoice x (Roles arm)
IsRefusal x Chooser = RefusesChoice x Chooser
IsRefusal x (Blind role arm) = RefusesChoice x (Blind role arm)
IsRefusal x NoMemory = ⊥

-- why a text tells no choice at all: its tokens, their order, or an arm that is no narration or not well formed
abbrev pub IsUntold : List ℕ → BranchNo → Type 0
IsUntold x (Roles arm) = ⊥
IsUntold x Chooser = ⊥
IsUntold x (Blind role arm) = ⊥
IsUntold x why = IsRefusal x why
