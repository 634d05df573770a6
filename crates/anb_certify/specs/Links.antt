-- What is tied while works are looked up by their operators and the classes of their operands.
use Rattle.std.specs.Prelude.{◌≡◌, ℕ, ◌+◌, ◌-◌, ◌<◌, List, [], ◌∷◌, ◌++◌, length, map, true}
use Rattle.std.specs.List.{AllByRecursion}
use Rattle.anb_term.specs.declared.term.Op.{Op}
use Rattle.anb_term.specs.Operator.{arity, keys}
use Rattle.anb_term.specs.Tree.{Tree, leaf}
use Rattle.anb_plays.specs.Codes.{Work, make, undo, equal}
use Rattle.anb_certify.specs.declared.links.Pair.{Pair}
use Rattle.anb_certify.specs.Classes.{in_class, AreNamed}
use Rattle.anb_certify.specs.Signs.{SignsValue, sign_of, Owns}
use Rattle.anb_certify.specs.Tied.{Did, Tied}
use Rattle.anb_certify.specs.Works.{AreTold}

-- two registers below n, which are tied
abbrev pub IsTiedLink : ℕ → List (ℕ × Work) → Pair → Type 0
IsTiedLink n did l = (l.0 < n) × (l.1 < n) × Tied did l.0 l.1

abbrev pub AreTiedLinks : ℕ → List (ℕ × Work) → List Pair → Type 0
AreTiedLinks n did links = AllByRecursion (IsTiedLink n did) links

-- of one class, or there is a link
abbrev pub Linked : List ℕ → List Pair → ℕ → ℕ → Type 0
Linked cs links a b = links ≡ [] → in_class cs a b ≡ true

-- so many registers were linked
abbrev pub IsLinkOf : ℕ → ℕ → ℕ → Pair → Type 0
IsLinkOf a b count l = (j : ℕ) × (j < count) × (l.0 ≡ a + j) × (l.1 ≡ b + j)

pub record HasLinked (cs : List ℕ) (a b count : ℕ) (old new : List Pair) : Type 0 where
  pub more : List Pair
  pub are : new ≡ old ++ more
  pub of : AllByRecursion (IsLinkOf a b count) more
  pub linked : (j : ℕ) → j < count → Linked cs new (a + j) (b + j)

-- what some works that were seen come to
pub record AreLinked (did seen : List (ℕ × Work)) (cs : List ℕ) (made undone : SignsValue) (links : List Pair) : Type 0 where
  pub made_classes : made.classes ≡ map leaf cs
  pub undone_classes : undone.classes ≡ map leaf cs
  pub tied : AreTiedLinks (length cs) did links
  pub compared : (at a b : ℕ) → Did seen at (equal a b) → Linked cs links a b
  pub built : (at : ℕ) (o : Op) (ns : List ℕ) → Did seen at (make o ns) → (x : ℕ) × Owns made (sign_of (map leaf cs) o ns) x × Linked cs links x at
  pub builders : (s : Tree) (x : ℕ) → Owns made s x → (o : Op) × (ns : List ℕ) × Did did x (make o ns) × (s ≡ sign_of (map leaf cs) o ns)
  pub one_builder : (s : Tree) (x y : ℕ) → Owns made s x → Owns made s y → x ≡ y
  pub opened : (at : ℕ) (o : Op) (ks : List ℕ) (n : ℕ) → Did seen at (undo o ks n)
      → (x : ℕ) × Owns undone (sign_of (map leaf cs) o (ks ++ n ∷ [])) x × ((j : ℕ) → j < arity o - keys o → Linked cs links (x + j) (at + j))
  pub openers : (s : Tree) (x : ℕ) → Owns undone s x → (o : Op) × (ks : List ℕ) × (n : ℕ) × Did did x (undo o ks n) × (s ≡ sign_of (map leaf cs) o (ks ++ n ∷ []))
  pub one_opener : (s : Tree) (x y : ℕ) → Owns undone s x → Owns undone s y → x ≡ y

-- a work among those that tell of registers' terms, over classes that only tied registers share
pub record IsToLink (did : List (ℕ × Work)) (cs : List ℕ) (at : ℕ) (w : Work) : Type 0 where
  pub terms : List Tree
  pub long : length terms ≡ length cs
  pub told : AreTold terms did
  pub named : AreNamed did cs
  pub done : Did did at w
