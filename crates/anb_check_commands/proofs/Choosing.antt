-- The verdict on a text with a choice from those on its parts.
use Rattle.std.proofs.Common.{◌≡◌, ◌≤◌, ℕ, List, [], ◌∷◌, ◌++◌, length, Option, Some, refl, ap, sym, ◌∙◌, subst, arith, append_assoc}
use Rattle.std.specs.Prelude.{codes, decimal}
use Rattle.std.specs.List.{AllByRecursion}
use Rattle.std.proofs.lemmas.List.{length-map}
use Rattle.anb_lemmas.proofs.Each.{each_by}
use Rattle.anb_read.specs.Refusals.{offset}
use Rattle.anb_read.specs.declared.refusal.ReadNo.{ReadNo}
use Rattle.anb_outcomes.specs.declared.choices.BranchNo.{BranchNo}
use Rattle.anb_outcomes.specs.declared.choices.BranchNo.TheVariants.{Token, Shape, ArmRead, ArmResolve, Roles, Chooser, Blind, NoMemory}
use Rattle.anb_choice.specs.Branching.{AreArmTexts, HasArms, IsUntold}
use Rattle.anb_choice.specs.Lawful.{BranchedValue}
use Rattle.anb_choice.specs.Order.{in_place}
use Rattle.anb_mistakes.specs.Pointing.{pointed}
use Rattle.anb_mistakes.specs.Unsent.{IsUnsentText}
use Rattle.anb_check_commands.specs.declared.blindness.First.{First}
use Rattle.anb_check_commands.specs.CheckCommand.{IsBlindSaid, IsFaultSaid, IsSaidAt, IsSaidAtAction, refused_arm}
use Rattle.anb_check_commands.specs.ChoiceLines.{action_at, blind_line, blind_mend, fault_line, first_at, numbered, roles_mend, text_of_arm}

-- texts that are no longer than a short one are short
pub all_short : (n limit : ℕ) (texts : List (List ℕ)) → n ≤ limit → AllByRecursion (λ (t : List ℕ). length t ≤ n) texts → AllByRecursion (λ (t : List ℕ). length t ≤ limit) texts
all_short n limit texts within all = each_by (λ (t : List ℕ). length t ≤ n) (λ (t : List ℕ). length t ≤ limit) (λ t short. omega (arith, short, within)) texts all

-- there are eight at most
pub few_texts : (x : List ℕ) (texts : List (List ℕ)) → AreArmTexts x texts → length texts ≤ 8
few_texts x texts (ms, spans, ordered, are) = omega (arith, ap (λ (l : List (List ℕ)). length l) are, length-map spans (in_place x ms), ordered.order.most)

-- a text with an arm that is refused has arms
pub has_arms : (x : List ℕ) (no : BranchNo) (arm : ℕ) → IsUntold x no → refused_arm no ≡ Some arm → HasArms x
has_arms x (Token at) arm is e = cc
has_arms x (Shape at) arm is e = cc
has_arms x (ArmRead number why) arm is e = (is.0, is.1, is.2)
has_arms x (ArmResolve number why) arm is e = (is.0, is.1, is.2)
has_arms x (Roles number) arm is e = cc
has_arms x Chooser arm is e = cc
has_arms x (Blind role number) arm is e = cc
has_arms x NoMemory arm is e = cc

-- ---- a choice that isn't lawful

pub blind_text : (name x : List ℕ) (why : ReadNo) (b : BranchedValue) (role : List ℕ) (arm : ℕ) (first : First) (action : Option ℕ) (line said : List ℕ) → first ≡ first_at b role arm → action ≡ action_at b arm first
    → line ≡ blind_line role arm first → IsSaidAt name x why arm action line said → IsBlindSaid name x why b role arm said
blind_text name x why b role arm first action line said f g h is =
    subst (λ (r : First). IsSaidAt name x why arm (action_at b arm r) (blind_line role arm r) said) f
    (subst (λ (o : Option ℕ). IsSaidAt name x why arm o (blind_line role arm first) said) g
    (subst (λ (l : List ℕ). IsSaidAt name x why arm action l said) h is))

pub at_action : (name x own : List ℕ) (arm action : ℕ) (line mend said : List ℕ) (texts : List (List ℕ)) → AreArmTexts x texts → own ≡ text_of_arm x texts arm → mend ≡ blind_mend ++ codes "\n"
    → IsUnsentText name own action line mend said → IsSaidAtAction name x arm action line said
at_action name x own arm action line mend said texts are e m is =
    (texts, are, subst (λ (t : List ℕ). IsUnsentText name t action line (blind_mend ++ codes "\n") said) e (subst (λ (l : List ℕ). IsUnsentText name own action line l said) m is))

pub elsewhere : (name x : List ℕ) (why : ReadNo) (b : BranchedValue) (no : BranchNo) (said : List ℕ) → ((role : List ℕ) → (arm : ℕ) → no ≡ Blind role arm → ⊥)
    → said ≡ pointed name x (offset why) (fault_line b.chooser no) roles_mend → IsFaultSaid name x why b no said
elsewhere name x why b (Token at) said other is = is
elsewhere name x why b (Shape at) said other is = is
elsewhere name x why b (ArmRead arm r) said other is = is
elsewhere name x why b (ArmResolve arm r) said other is = is
elsewhere name x why b (Roles arm) said other is = is
elsewhere name x why b Chooser said other is = is
elsewhere name x why b (Blind role arm) said other is = absurd (other role arm refl)
elsewhere name x why b NoMemory said other is = is

pub nothing_said : (chooser : List ℕ) (no : BranchNo) → ((arm : ℕ) → no ≡ Roles arm → ⊥) → (no ≡ Chooser → ⊥) → [] ≡ fault_line chooser no
nothing_said chooser (Token at) roles chosen = refl
nothing_said chooser (Shape at) roles chosen = refl
nothing_said chooser (ArmRead arm r) roles chosen = refl
nothing_said chooser (ArmResolve arm r) roles chosen = refl
nothing_said chooser (Roles arm) roles chosen = absurd (roles arm refl)
nothing_said chooser Chooser roles chosen = absurd (chosen refl)
nothing_said chooser (Blind role arm) roles chosen = refl
nothing_said chooser NoMemory roles chosen = refl

-- ---- lines

pub numbered_put : (old digits rest : List ℕ) → ((old ++ codes "arm ") ++ digits) ++ rest ≡ old ++ (codes "arm " ++ (digits ++ rest))
numbered_put old digits rest = simp append_assoc

pub three_put : (old a b c : List ℕ) → ((old ++ a) ++ b) ++ c ≡ old ++ (a ++ (b ++ c))
three_put old a b c = simp append_assoc

pub blind_put : (role why rest : List ℕ) (arm : ℕ) → rest ≡ codes ": " ++ why
    → (role ++ codes " is blind in ") ++ numbered arm rest ≡ role ++ (codes " is blind in " ++ numbered arm (codes ": " ++ why))
blind_put role why rest arm e = append_assoc role (codes " is blind in ") (numbered arm rest) ∙ ap (λ (r : List ℕ). role ++ (codes " is blind in " ++ numbered arm r)) e
