-- Entries, and how each follows from those before it.
use Rattle.std.specs.Prelude.{◌≡◌, ℕ, zero, suc, ◌+◌, ◌<◌, ◌≤◌, List, [], ◌∷◌, ◌++◌, length, map, take, drop, Bool, true, false, IsTrue, Option, Some, None, slice_get, if◌then◌else◌}
use Rattle.std.proofs.Math.Dec.{ltb}
use Rattle.std.specs.List.{AllByRecursion}
use Rattle.anb_term.specs.declared.term.Term.{Term}
use Rattle.anb_term.specs.declared.term.Op.{Op}
use Rattle.anb_term.specs.Tree.{Tree, node, Trees, trees_of, list_of, tree_size, nodes, AreFormed}
use Rattle.anb_term.specs.View.{tree_of, term_of}
use Rattle.anb_term.specs.Operator.{keys, undoable}
use Rattle.anb_close.specs.Rows.{mades_for, rows_of, seen}
use Rattle.anb_close.specs.Closed.{IsClosed}
use Rattle.anb_close.specs.Listed.{AreTouched}
use Rattle.anb_close.specs.declared.entry.Entry.{Entry}
use Rattle.anb_close.specs.declared.entry.Opening.{Opening}
use Rattle.anb_close.specs.declared.entry.Origin.{Origin}
use Rattle.anb_close.specs.declared.entry.Origin.TheVariants.{Label, Part}

abbrev pub terms_of : List Entry → List Tree
terms_of es = map (λ e. tree_of e.term) es

abbrev pub rows : List Entry → List (Option Tree)
rows es = rows_of (terms_of es)

abbrev pub is_label : Origin → Bool
is_label (Label n) = true
is_label (Part o j ks i) = false

-- the labels' terms
abbrev pub labels_of : List Entry → List Tree
labels_of [] = []
labels_of (e ∷ es) = if is_label e.origin then tree_of e.term ∷ labels_of es else labels_of es

-- what an origin says of an entry with this term, over the terms before it, of which so many are labels'
abbrev pub OriginFits : List Tree → ℕ → Origin → Tree → Type 0
OriginFits ts n (Label m) t = m ≡ n
OriginFits ts n (Part o j ks i) t = (us : Trees) × (slice_get ts i ≡ Some (node o us)) × IsTrue (undoable o)
    × (mades_for (rows_of ts) (trees_of (take (keys o) (list_of us))) ≡ Some (trees_of ks)) × (slice_get (drop (keys o) (list_of us)) j ≡ Some t)

-- entries that come after others, one after another
abbrev pub Follow : List Entry → List Entry → Type 0
Follow before [] = Unit {0}
Follow before (e ∷ es) = OriginFits (terms_of before) (length (labels_of before)) e.origin (tree_of e.term) × Follow (before ++ e ∷ []) es

-- the entries of some parts, from one part on
abbrev pub part_entries : Op → List Tree → ℕ → ℕ → List Tree → List Entry
part_entries o ks i j [] = []
part_entries o ks i j (t ∷ ts) = record { origin = Part o j ks i; term = term_of t } ∷ part_entries o ks i (j + 1) ts

-- entry i was opened, and its parts are the entries from `first` on
pub record IsOpened (es : List Entry) (i first : ℕ) : Type 0 where
  pub op : Op
  pub operands : Trees
  pub keys_made : List Tree
  pub front : List Entry
  pub back : List Entry
  pub own : slice_get (rows front) i ≡ Some (Some (node op operands))
  pub can : IsTrue (undoable op)
  pub some_part : keys op < length (list_of operands)
  pub made : mades_for (rows front) (trees_of (take (keys op) (list_of operands))) ≡ Some (trees_of keys_made)
  pub lies : es ≡ front ++ (part_entries op keys_made i 0 (drop (keys op) (list_of operands)) ++ back)
  pub at : length front ≡ first

abbrev pub is_double : Option Tree → Bool
is_double None = true
is_double (Some t) = false

-- an entry that was opened weighs one, and any other as much as its term has nodes
abbrev pub weight : ℕ → Tree → ℕ
weight zero t = tree_size t
weight (suc f) t = 1

abbrev pub load : List ℕ → List Tree → ℕ
load [] ts = 0
load (f ∷ fs) [] = 0
load (f ∷ fs) (t ∷ ts) = weight f t + load fs ts

-- entry k is part j of entry i, which was opened with these keys
pub record IsPartOf (es : List Entry) (fs : List ℕ) (k : ℕ) (o : Op) (j : ℕ) (ks : List Tree) (i : ℕ) : Type 0 where
  pub first : ℕ
  pub opened : IsOpened es i first
  pub marked : slice_get fs i ≡ Some first
  pub some : 0 < first
  pub op_is : opened.op ≡ o
  pub keys_are : opened.keys_made ≡ ks
  pub counts : k ≡ first + j
  pub within : j < length (drop (keys opened.op) (list_of opened.operands))

-- entries while they grow, with the place where each was opened, or 0
pub record IsGrown (es : List Entry) (fs : List ℕ) : Type 0 where
  pub long : length fs ≡ length es
  pub follow : Follow [] es
  pub formed : AreFormed (λ o. true) (trees_of (terms_of es))
  pub opened : (i f : ℕ) → slice_get fs i ≡ Some f → 0 < f → IsOpened es i f
  pub parted : (k : ℕ) (e : Entry) (o : Op) (j : ℕ) (ks : List Tree) (i : ℕ) → slice_get es k ≡ Some e → e.origin ≡ Part o j ks i → IsPartOf es fs k o j ks i
  pub light : load fs (terms_of es) ≤ nodes (labels_of es)

-- an entry with parts that was not opened
pub record CanOpen (es : List Entry) (fs : List ℕ) (i : ℕ) (op : Op) (operands : Trees) : Type 0 where
  pub own : slice_get (rows es) i ≡ Some (Some (node op operands))
  pub can : IsTrue (undoable op)
  pub some_part : keys op < length (list_of operands)
  pub closed : slice_get fs i ≡ Some 0

abbrev pub keys_for : List Entry → Op → Trees → Option Trees
keys_for es o us = mades_for (rows es) (trees_of (take (keys o) (list_of us)))

-- an entry that can be opened with these keys
pub record Opens (es : List Entry) (fs : List ℕ) (i : ℕ) (ks : List Tree) : Type 0 where
  pub op : Op
  pub operands : Trees
  pub able : CanOpen es fs i op operands
  pub made : keys_for es op operands ≡ Some (trees_of ks)

-- nothing is left to open
abbrev pub NoKeys : List Entry → List ℕ → ℕ → Type 0
NoKeys es fs i = (o : Op) (us : Trees) → CanOpen es fs i o us → keys_for es o us ≡ None

-- entries at rest: nothing is left to open
pub record IsRest (es : List Entry) (fs : List ℕ) : Type 0 where
  pub grown : IsGrown es fs
  pub shut : (i : ℕ) → NoKeys es fs i

-- entries that are not opened, in place of some entries
abbrev pub unopened : List Entry → List ℕ
unopened es = map (λ e. 0) es

-- what was there, and then more that was not opened
pub record Extends (es : List Entry) (fs : List ℕ) (es' : List Entry) (fs' : List ℕ) (more : List Entry) : Type 0 where
  pub entries : es' ≡ es ++ more
  pub firsts : fs' ≡ fs ++ unopened more

abbrev pub cut_first : ℕ → ℕ → ℕ
cut_first b f = if ltb f b then f else 0

-- where entries were opened, as it was when there were so many entries
abbrev pub cut : ℕ → List ℕ → List ℕ
cut b fs = map (cut_first b) (take b fs)

-- cut back, these are what there was
pub record GoesBack (es : List Entry) (fs : List ℕ) (es' : List Entry) (fs' : List ℕ) : Type 0 where
  pub entries : take (length es) es' ≡ es
  pub firsts : cut (length es) fs' ≡ fs
  pub within : length es ≤ length es'
  pub long : length fs' ≡ length es'

-- whatever could go back still can
abbrev pub Keeps : List Entry → List ℕ → List Entry → List ℕ → Type 0
Keeps es fs es' fs' = (es0 : List Entry) (fs0 : List ℕ) → GoesBack es0 fs0 es fs → GoesBack es0 fs0 es' fs'

abbrev pub IsPart : Entry → Type 0
IsPart e = is_label e.origin ≡ false

-- what a closure keeps of its entries, and of those before each label's entry
pub record IsKept (es : List Entry) (ds : List Bool) (fs : List ℕ) : Type 0 where
  pub few : nodes (labels_of es) < 4294967295
  pub doubles : ds ≡ map is_double (rows es)
  pub rest : IsRest es fs
  pub before : (b : ℕ) (e : Entry) → slice_get es b ≡ Some e → IsTrue (is_label e.origin) → IsRest (take b es) (cut b fs)

-- some parts came
pub record HasOpened (es es' : List Entry) : Type 0 where
  pub parts : List Entry
  pub are : AllByRecursion IsPart parts
  pub is : es' ≡ es ++ parts
  pub some : 0 < length parts

-- where entries came, these were listed, among them each whose first operands have come to compose
pub record HasTouched (es : List Entry) (ks : List ℕ) (es' : List Entry) (ks' : List ℕ) : Type 0 where
  pub later : List ℕ
  pub is : ks' ≡ ks ++ later
  pub touched : AreTouched (rows es) (rows es') later

-- what can be opened is listed from a place on
abbrev pub AreDue : List Entry → List ℕ → List ℕ → ℕ → Type 0
AreDue es fs ks n = (i : ℕ) (o : Op) (us ms : Trees) → CanOpen es fs i o us → keys_for es o us ≡ Some ms → (k : ℕ) × (n ≤ k) × (slice_get ks k ≡ Some i)

-- an entry was opened, and those of before that are not were not
abbrev pub HasShut : List ℕ → ℕ → List ℕ → Type 0
HasShut fs i fs' = (k : ℕ) → k < length fs → slice_get fs' k ≡ Some 0 → (k ≡ i → ⊥) × (slice_get fs k ≡ Some 0)

-- a label's entry, and then parts, came to entries that are at rest again
pub record HasGrown (es : List Entry) (t : Term) (es' : List Entry) (fs' : List ℕ) : Type 0 where
  pub parts : List Entry
  pub are : AllByRecursion IsPart parts
  pub is : es' ≡ es ++ record { origin = Label (length (labels_of es)); term = t } ∷ parts
  pub rest : IsRest es' fs'

-- a label's entry and then parts came
pub record HasAdded (es : List Entry) (t : Term) (es' : List Entry) : Type 0 where
  pub parts : List Entry
  pub are : AllByRecursion IsPart parts
  pub is : es' ≡ es ++ record { origin = Label (length (labels_of es)); term = t } ∷ parts

-- the last label's entry stands there
pub record IsLastLabel (es : List Entry) (at : ℕ) : Type 0 where
  pub entry : Entry
  pub here : slice_get es at ≡ Some entry
  pub label : IsTrue (is_label entry.origin)
  pub parts : AllByRecursion IsPart (drop (at + 1) es)

-- each of these compositions has at most as many nodes as the term in its place
abbrev pub EachSmall : List Tree → List Tree → Type 0
EachSmall [] [] = Unit {0}
EachSmall [] (t ∷ ts) = ⊥
EachSmall (m ∷ ms) [] = ⊥
EachSmall (m ∷ ms) (t ∷ ts) = (tree_size m ≤ tree_size t) × EachSmall ms ts

-- what is known of a closure's entries: each follows from those before it; each that is no double and whose keys compose is opened, and no other;
-- the keys are small, and there are at most as many entries as the labels' terms have nodes
pub record IsKnown (es : List Entry) : Type 0 where
  pub follow : Follow [] es
  pub formed : AreFormed (λ o. true) (trees_of (terms_of es))
  pub closed : IsClosed (seen (rows es))
  pub opened : (i : ℕ) (o : Op) (us ms : Trees) → slice_get (rows es) i ≡ Some (Some (node o us)) → IsTrue (undoable o) → keys o < length (list_of us) → keys_for es o us ≡ Some ms → (f : ℕ) × IsOpened es i f
  pub firsts : List ℕ
  pub parted : (k : ℕ) (e : Entry) (o : Op) (j : ℕ) (ks : List Tree) (i : ℕ) → slice_get es k ≡ Some e → e.origin ≡ Part o j ks i → IsPartOf es firsts k o j ks i
  pub small : (k : ℕ) (e : Entry) (o : Op) (j : ℕ) (ks : List Tree) (i : ℕ) (us : Trees) → slice_get es k ≡ Some e → e.origin ≡ Part o j ks i
      → slice_get (terms_of es) i ≡ Some (node o us) → EachSmall ks (take (keys o) (list_of us))
  pub few : length es ≤ nodes (labels_of es)
  pub bounded : nodes (labels_of es) < 4294967295

-- the opening whose first part is this entry
abbrev pub opening_at : ℕ → Origin → List Opening
opening_at p (Label n) = []
opening_at p (Part o zero ks i) = record { op = o; keys = ks; of = i; first = p } ∷ []
opening_at p (Part o (suc j) ks i) = []

-- the openings of entries that stand from a place on
abbrev pub openings_from : ℕ → List Entry → List Opening
openings_from p [] = []
openings_from p (e ∷ es) = opening_at p e.origin ++ openings_from (p + 1) es
