-- A code while it is written builds each term once.
use Rattle.std.specs.Prelude.{◌≡◌, ℕ, ◌+◌, List, [], ◌∷◌, ◌++◌, length, map, true, Option, Some, None, slice_get, count_by, option_and_then, ◌⊎◌}
use Rattle.std.specs.List.{AllByRecursion, IsDistinct}
use Rattle.std.specs.Set.{is_member}
use Rattle.anb_format.specs.Formats.{FormatValue}
use Rattle.anb_term.specs.declared.term.Op.{Op}
use Rattle.anb_term.specs.Tree.{Tree, leaf, node, Trees, none, more, trees_of, tree_eqb}
use Rattle.anb_close.specs.Rows.{mades_for}
use Rattle.anb_close.specs.MadeView.{made_tree}
use Rattle.anb_basis.specs.declared.check.Check.{Check}
use Rattle.anb_basis.specs.declared.check.Check.TheVariants.{Open, Equal}
use Rattle.anb_plays.specs.Plans.{Event, know, fresh, send, recv}
use Rattle.anb_plays.specs.Codes.{works, make}
use Rattle.anb_code.specs.declared.instr.Instr.{Instr}
use Rattle.anb_code.specs.Meaning.{act_of}
use Rattle.anb_code.specs.Taking.{taken_text}
use Rattle.anb_compile.specs.declared.built.Built.{Built}
use Rattle.anb_compile.specs.declared.writer.Writer.{Writer}
use Rattle.anb_compile.specs.Counted.{is_building, subterms_of}
use Rattle.anb_compile.specs.Sharing.{key, register_at, Keeps}
use Rattle.anb_compile.specs.Writing.{Context}
use Rattle.anb_compile.specs.Verifying.{IsMaking}

-- ---- one step

-- it was built before
pub record IsFound (old new : Writer) (o : Op) (ns : List ℕ) (r : ℕ) : Type 0 where
  pub same : new ≡ old
  pub here : register_at old.built (key o ns) ≡ Some r

-- it is built now
pub record IsMade (old new : Writer) (o : Op) (ns : List ℕ) (r : ℕ) : Type 0 where
  pub instr : Instr
  pub code : new.code.items ≡ old.code.items ++ instr ∷ []
  pub act : (formats : List FormatValue) → act_of formats instr ≡ works (make o ns)
  pub other : taken_text instr ≡ None
  pub making : IsMaking o ns instr
  pub building : is_building instr ≡ true
  pub next : new.next ≡ old.next + 1
  pub places : new.places ≡ old.places
  pub is : r ≡ old.next
  pub absent : register_at old.built (key o ns) ≡ None
  pub keeps : Keeps old.built new.built (key o ns) r

abbrev pub Builds : Writer → Writer → Op → List ℕ → ℕ → Type 0
Builds old new o ns r = IsFound old new o ns r ⊎ IsMade old new o ns r

abbrev pub BuiltStays : Writer → Writer → Type 0
BuiltStays old new = (q : List ℕ) (s : ℕ) → register_at old.built q ≡ Some s → register_at new.built q ≡ Some s

-- ---- what was built, and of which terms

abbrev pub both_registers : Option ℕ → Option (List ℕ) → Option (List ℕ)
both_registers None rs = None
both_registers (Some r) None = None
both_registers (Some r) (Some rs) = Some (r ∷ rs)

-- the register of a composition over entries with these registers
abbrev mutual
  pub register_of : List ℕ → Built → Tree → Option ℕ
  register_of places b (leaf n) = slice_get places n
  register_of places b (node o ms) = option_and_then (λ ns. register_at b (key o ns)) (registers_of places b ms)

  pub registers_of : List ℕ → Built → Trees → Option (List ℕ)
  registers_of places b none = Some []
  registers_of places b (more m ms) = both_registers (register_of places b m) (registers_of places b ms)

-- this term, composed from its operands over the rows of entries, was built
pub record WasBuilt (rs : List (Option Tree)) (w : Writer) (t : Tree) : Type 0 where
  pub op : Op
  pub operands : Trees
  pub made : Trees
  pub register : ℕ
  pub is : t ≡ node op operands
  pub chosen : mades_for rs operands ≡ Some made
  pub here : register_of w.places.items w.built (node op made) ≡ Some register

-- As many instructions build as different terms were built, each among these.
pub record IsSharing (ts : List Tree) (rs : List (Option Tree)) (w : Writer) : Type 0 where
  pub terms : List Tree
  pub counted : count_by is_building w.code.items ≡ length terms
  pub differ : IsDistinct tree_eqb terms
  pub among : (t : Tree) → is_member tree_eqb terms t ≡ true → is_member tree_eqb ts t ≡ true
  pub were : AllByRecursion (WasBuilt rs w) terms

abbrev mutual
  -- a composition of chosen ones, that of a term among these at each node
  pub IsChosen : List Tree → List (Option Tree) → Tree → Type 0
  IsChosen ts rs (leaf n) = Unit {0}
  IsChosen ts rs (node o ms) = ((us : Trees) × (is_member tree_eqb ts (node o us) ≡ true) × (mades_for rs us ≡ Some ms)) × AreChosen ts rs ms

  pub AreChosen : List Tree → List (Option Tree) → Trees → Type 0
  AreChosen ts rs none = Unit {0}
  AreChosen ts rs (more m ms) = IsChosen ts rs m × AreChosen ts rs ms

pub record Shared (ts : List Tree) (rs : List (Option Tree)) (w : Writer) (m : Tree) (r : ℕ) : Type 0 where
  pub sharing : IsSharing ts rs w
  pub here : register_of w.places.items w.built m ≡ Some r

abbrev pub Shares : Writer → Writer → Tree → ℕ → Type 0
Shares old new m r = (ts : List Tree) (rs : List (Option Tree)) → IsChosen ts rs m → IsSharing ts rs old → Shared ts rs new m r

pub record SharedEach (ts : List Tree) (rs : List (Option Tree)) (w : Writer) (ms : Trees) (ns : List ℕ) : Type 0 where
  pub sharing : IsSharing ts rs w
  pub here : registers_of w.places.items w.built ms ≡ Some ns

abbrev pub SharesEach : Writer → Writer → List Tree → List ℕ → Type 0
SharesEach old new ms ns = (ts : List Tree) (rs : List (Option Tree)) → AreChosen ts rs (trees_of ms) → IsSharing ts rs old → SharedEach ts rs new (trees_of ms) ns

-- what a check composes is chosen
abbrev pub IsChosenCheck : List Tree → List (Option Tree) → Check → Type 0
IsChosenCheck ts rs (Open x) = AreChosen ts rs (trees_of x.keys)
IsChosenCheck ts rs (Equal i w) = IsChosen ts rs (made_tree w)

abbrev pub SharesChecks : Writer → Writer → List Check → Type 0
SharesChecks old new cs = (ts : List Tree) (rs : List (Option Tree)) → AllByRecursion (IsChosenCheck ts rs) cs → IsSharing ts rs old → IsSharing ts rs new

-- ---- the terms of a plan

abbrev pub event_term : Event → Tree
event_term (know t) = t
event_term (fresh t) = t
event_term (send t) = t
event_term (recv t) = t

abbrev pub subterms_in : Context → List Tree
subterms_in c = subterms_of (trees_of (map event_term c.plan))

abbrev mutual
  -- a term and each of its subterms are among these
  pub AllAmong : List Tree → Tree → Type 0
  AllAmong ts (leaf n) = is_member tree_eqb ts (leaf n) ≡ true
  AllAmong ts (node o us) = (is_member tree_eqb ts (node o us) ≡ true) × EachAmong ts us

  pub EachAmong : List Tree → Trees → Type 0
  EachAmong ts none = Unit {0}
  EachAmong ts (more t us) = AllAmong ts t × EachAmong ts us
