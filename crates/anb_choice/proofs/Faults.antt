-- Refusals of a text, by what was found.
use Rattle.std.proofs.Common.{◌≡◌, ◌≢◌, ◌⊎◌, inl, inr, ℕ, List, Bool, true, false, Option, Some, None, refl, sym, ap, ◌∙◌}
use Rattle.std.specs.Prelude.{not}
use Rattle.std.specs.Option.{option_map, option_or}
use Rattle.anb_index.specs.Places.{among}
use Rattle.anb_protocol.specs.Choices.{refuse_if}
use Rattle.anb_outcomes.specs.declared.choices.BranchNo.{BranchNo}
use Rattle.anb_outcomes.specs.declared.choices.BranchNo.TheVariants.{Token, Shape, ArmRead, ArmResolve, Roles, Chooser, Blind, NoMemory}
use Rattle.anb_choice.specs.declared.marks.Mark.{Mark}
use Rattle.anb_choice.specs.declared.order.Span.{Span}
use Rattle.anb_choice.specs.Branching.{ArmIsRefused, BranchedText, IsOrdered, IsRefusal, IsUntold, blind_refusal, choice_fault, other_roles, straights}
use Rattle.anb_choice.specs.Laws.{NoneIsBoth, RefusalsAreUnique}
use Rattle.anb_choice.specs.Lawful.{BranchedValue, IsLawful, blind, roles_in}
use Rattle.anb_choice.proofs.Names.{alike_names}

is_of_choice : BranchNo → Bool
is_of_choice (Roles arm) = true
is_of_choice Chooser = true
is_of_choice (Blind role arm) = true
is_of_choice _ = false

of_choice : (o : Option ℕ) (t : Bool) (r : Option (List ℕ × ℕ)) (why : BranchNo)
    → option_or (option_map Roles o) (option_or (refuse_if t Chooser) (option_map blind_refusal r)) ≡ Some why → is_of_choice why ≡ true
unfolding is_of_choice
of_choice (Some arm) t r why e = let same : Roles arm ≡ why = cc in ap is_of_choice (sym same)
of_choice None true r why e = let same : Chooser ≡ why = cc in ap is_of_choice (sym same)
of_choice None false (Some b) why e = let same : Blind b.0 b.1 ≡ why = cc in ap is_of_choice (sym same)
of_choice None false None why e = cc

-- what is wrong with a choice is a refusal of its text
pub choice_refusal : (x : List ℕ) (b : BranchedValue) (why : BranchNo) → BranchedText x b → choice_fault b ≡ Some why → IsRefusal x why
unfolding is_of_choice
choice_refusal x b (Roles arm) text e = (b, text, e)
choice_refusal x b Chooser text e = (b, text, e)
choice_refusal x b (Blind role arm) text e = (b, text, e)
choice_refusal x b (Token at) text e = let never = of_choice (other_roles b) (not (among (roles_in b) b.chooser)) (blind b) (Token at) e in cc
choice_refusal x b (Shape at) text e = let never = of_choice (other_roles b) (not (among (roles_in b) b.chooser)) (blind b) (Shape at) e in cc
choice_refusal x b (ArmRead arm no1) text e = let never = of_choice (other_roles b) (not (among (roles_in b) b.chooser)) (blind b) (ArmRead arm no1) e in cc
choice_refusal x b (ArmResolve arm no1) text e = let never = of_choice (other_roles b) (not (among (roles_in b) b.chooser)) (blind b) (ArmResolve arm no1) e in cc
choice_refusal x b NoMemory text e = let never = of_choice (other_roles b) (not (among (roles_in b) b.chooser)) (blind b) NoMemory e in cc

-- ---- a text that tells no choice

pub untold_refusal : (x : List ℕ) (no : BranchNo) → IsUntold x no → IsRefusal x no
untold_refusal x (Token at) r = r
untold_refusal x (Shape at) r = r
untold_refusal x (ArmRead arm why) r = r
untold_refusal x (ArmResolve arm why) r = r
untold_refusal x (Roles arm) r = absurd r
untold_refusal x Chooser r = absurd r
untold_refusal x (Blind role arm) r = absurd r
untold_refusal x NoMemory r = r

pub arm_untold : (x : List ℕ) (ms : List Mark) (spans : List Span) (no : BranchNo) → IsOrdered x ms spans → ArmIsRefused (straights x ms spans) no → IsUntold x no
arm_untold x ms spans (Token at) ordered r = absurd r
arm_untold x ms spans (Shape at) ordered r = absurd r
arm_untold x ms spans (ArmRead arm why) ordered r = (ms, spans, ordered, r)
arm_untold x ms spans (ArmResolve arm why) ordered r = (ms, spans, ordered, r)
arm_untold x ms spans (Roles arm) ordered r = absurd r
arm_untold x ms spans Chooser ordered r = absurd r
arm_untold x ms spans (Blind role arm) ordered r = absurd r
arm_untold x ms spans NoMemory ordered r = absurd r

-- ---- the first that is wrong with a choice

module _ (b : BranchedValue) (roles : other_roles b ≡ None) where
  past_roles : choice_fault b ≡ option_or (refuse_if (not (among (roles_in b) b.chooser)) Chooser) (option_map blind_refusal (blind b))
  past_roles = ap (λ o. option_or (option_map Roles o) (option_or (refuse_if (not (among (roles_in b) b.chooser)) Chooser) (option_map blind_refusal (blind b)))) roles

  pub fault_of_chooser : among (roles_in b) b.chooser ≡ false → choice_fault b ≡ Some Chooser
  fault_of_chooser e = past_roles ∙ ap (λ t. option_or (refuse_if (not t) Chooser) (option_map blind_refusal (blind b))) e

  past_chooser : among (roles_in b) b.chooser ≡ true → choice_fault b ≡ option_map blind_refusal (blind b)
  past_chooser e = past_roles ∙ ap (λ t. option_or (refuse_if (not t) Chooser) (option_map blind_refusal (blind b))) e

  pub fault_of_blind : (role : List ℕ) (arm : ℕ) → among (roles_in b) b.chooser ≡ true → blind b ≡ Some (role, arm) → choice_fault b ≡ Some (Blind role arm)
  fault_of_blind role arm e f = past_chooser e ∙ ap (option_map blind_refusal) f

  pub no_fault : among (roles_in b) b.chooser ≡ true → blind b ≡ None → choice_fault b ≡ None
  no_fault e f = past_chooser e ∙ ap (option_map blind_refusal) f

-- nothing is wrong with a lawful choice
pub lawful_fault : (b : BranchedValue) → IsLawful b → choice_fault b ≡ None
lawful_fault b l = no_fault b (alike_names b.stem b.arms l.alike) l.chooser l.seeing

-- ---- each text is refused by its one refusal

pub exactly : RefusalsAreUnique → (x : List ℕ) (e why : BranchNo) → (e ≢ NoMemory → IsRefusal x e) → IsRefusal x why → (e ≡ why) ⊎ (e ≡ NoMemory)
exactly unique x (Token at) why given has = inl (unique x (Token at) why (given (λ q. cc)) has)
exactly unique x (Shape at) why given has = inl (unique x (Shape at) why (given (λ q. cc)) has)
exactly unique x (ArmRead arm r) why given has = inl (unique x (ArmRead arm r) why (given (λ q. cc)) has)
exactly unique x (ArmResolve arm r) why given has = inl (unique x (ArmResolve arm r) why (given (λ q. cc)) has)
exactly unique x (Roles arm) why given has = inl (unique x (Roles arm) why (given (λ q. cc)) has)
exactly unique x Chooser why given has = inl (unique x Chooser why (given (λ q. cc)) has)
exactly unique x (Blind role arm) why given has = inl (unique x (Blind role arm) why (given (λ q. cc)) has)
exactly unique x NoMemory why given has = inr refl

pub never_refused : NoneIsBoth → (x : List ℕ) (b : BranchedValue) (e : BranchNo) → BranchedText x b → IsLawful b → (e ≢ NoMemory → IsRefusal x e) → e ≡ NoMemory
never_refused law x b (Token at) text lawful given = absurd (law x b (Token at) text lawful (given (λ q. cc)))
never_refused law x b (Shape at) text lawful given = absurd (law x b (Shape at) text lawful (given (λ q. cc)))
never_refused law x b (ArmRead arm r) text lawful given = absurd (law x b (ArmRead arm r) text lawful (given (λ q. cc)))
never_refused law x b (ArmResolve arm r) text lawful given = absurd (law x b (ArmResolve arm r) text lawful (given (λ q. cc)))
never_refused law x b (Roles arm) text lawful given = absurd (law x b (Roles arm) text lawful (given (λ q. cc)))
never_refused law x b Chooser text lawful given = absurd (law x b Chooser text lawful (given (λ q. cc)))
never_refused law x b (Blind role arm) text lawful given = absurd (law x b (Blind role arm) text lawful (given (λ q. cc)))
never_refused law x b NoMemory text lawful given = refl
