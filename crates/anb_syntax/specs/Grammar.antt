-- Narrations, and the words that spell them: the grammar.
use Rattle.std.specs.Prelude.{◌≡◌, ℕ, zero, suc, List, [], ◌∷◌, ◌++◌, map, Bool, true, false, ◌&&◌, Option, Some, None, unwrap_or}
use Rattle.std.specs.List.{flat_map, list_all, AllByRecursion}
use Rattle.anb_base.specs.Bytes.{IsBytes}
use Rattle.anb_base.specs.declared.content.Suite.{Suite}
use Rattle.anb_base.specs.declared.content.Suite.TheVariants.{One}
use Rattle.anb_format.specs.declared.pieces.Piece.{Piece}
use Rattle.anb_format.specs.declared.pieces.Piece.TheVariants.{Lit, Field}
use Rattle.anb_format.specs.Formats.{IsBytesPiece}
use Rattle.anb_syntax.specs.declared.narration.Sort.{Sort}
use Rattle.anb_syntax.specs.Words.{Word, name, literal, end, colon, semicolon, comma, open_sign, close_sign, equals, arrow, protocol_word, suite_word, types_word, formats_word, knowledge_word, actions_word, goals_word, hash_word, mac_word, seal_word, wrap_word, sort_word, hash_name, kind_word, is_name}

mutual
  -- a term: a name, a format's name with its arguments, or an operator on its own
  pub data Tree : Type 0 where
    atom : List ℕ → Tree
    apply : List ℕ → Trees → Tree
    hash : Tree → Tree
    mac : Tree → Tree → Tree
    seal : Tree → Tree → Tree
    wrap : Tree → Tree → Tree → Tree

  pub data Trees : Type 0 where
    none : Trees
    more : Tree → Trees → Trees

abbrev pub trees_of : List Tree → Trees
trees_of [] = none
trees_of (t ∷ ts) = more t (trees_of ts)

abbrev pub list_of : Trees → List Tree
list_of none = []
list_of (more t ts) = t ∷ list_of ts

pub record TypeItem : Type 0 where
  pub sort : Sort
  pub names : List (List ℕ)

pub record FormatItem : Type 0 where
  pub title : List ℕ
  pub pieces : List Piece

pub record KnowItem : Type 0 where
  pub role : List ℕ
  pub terms : Trees

pub record ActionItem : Type 0 where
  pub from : List ℕ
  pub to : List ℕ
  pub message : Tree

pub record Narration : Type 0 where
  pub title : List ℕ
  pub suite : Suite
  pub types : List TypeItem
  pub formats : List FormatItem
  pub knows : List KnowItem
  pub actions : List ActionItem

-- a narration as it is written, where a section may be left out
pub record Written : Type 0 where
  pub title : List ℕ
  pub suite : Option Suite
  pub types : List TypeItem
  pub formats : Option (List FormatItem)
  pub knows : Option (List KnowItem)
  pub actions : List ActionItem
  -- whether goals stand behind it, which are not read
  pub goals : Bool

-- The narration that is written so: without a suite it is over suite One, and a section of formats or
-- of knowledge that is left out has no items.
abbrev pub told : Written → Narration
told w = record {
  title = w.title;
  suite = unwrap_or w.suite One;
  types = w.types;
  formats = unwrap_or w.formats [];
  knows = unwrap_or w.knows [];
  actions = w.actions;
}

-- a name of the grammar
abbrev pub IsName : List ℕ → Type 0
IsName b = is_name b ≡ true

abbrev mutual
  pub IsTree : Tree → Type 0
  IsTree (atom n) = IsName n
  IsTree (apply n ts) = IsName n × AreTrees ts
  IsTree (hash t) = IsTree t
  IsTree (mac t u) = IsTree t × IsTree u
  IsTree (seal t u) = IsTree t × IsTree u
  IsTree (wrap t u v) = IsTree t × IsTree u × IsTree v

  pub AreTrees : Trees → Type 0
  AreTrees none = Unit {0}
  AreTrees (more t ts) = IsTree t × AreTrees ts

-- one name or more
abbrev pub AreNames : List (List ℕ) → Type 0
AreNames [] = ⊥
AreNames (n ∷ ns) = IsName n × AllByRecursion IsName ns

abbrev pub IsTypeItem : TypeItem → Type 0
IsTypeItem i = AreNames i.names

abbrev pub IsFormatItem : FormatItem → Type 0
IsFormatItem i = IsName i.title × AllByRecursion IsBytesPiece i.pieces

abbrev pub IsKnowItem : KnowItem → Type 0
IsKnowItem i = IsName i.role × AreTrees i.terms

abbrev pub IsActionItem : ActionItem → Type 0
IsActionItem a = IsName a.from × IsName a.to × IsTree a.message

-- a narration that can be written, but for the depth of its terms
pub record IsNarration (n : Narration) : Type 0 where
  pub title : IsName n.title
  pub types : AllByRecursion IsTypeItem n.types
  pub formats : AllByRecursion IsFormatItem n.formats
  pub knows : AllByRecursion IsKnowItem n.knows
  pub actions : AllByRecursion IsActionItem n.actions

-- no term stands deeper than so many levels
abbrev mutual
  pub fits_tree : ℕ → Tree → Bool
  fits_tree zero t = false
  fits_tree (suc l) (atom n) = true
  fits_tree (suc l) (apply n ts) = fits_trees l ts
  fits_tree (suc l) (hash t) = fits_tree l t
  fits_tree (suc l) (mac t u) = fits_tree l t && fits_tree l u
  fits_tree (suc l) (seal t u) = fits_tree l t && fits_tree l u
  fits_tree (suc l) (wrap t u v) = fits_tree l t && fits_tree l u && fits_tree l v

  pub fits_trees : ℕ → Trees → Bool
  fits_trees l none = true
  fits_trees l (more t ts) = fits_tree l t && fits_trees l ts

abbrev pub fits : ℕ → Narration → Bool
fits l n = list_all (λ (i : KnowItem). fits_trees l i.terms) n.knows && list_all (λ (a : ActionItem). fits_tree l a.message) n.actions

-- a narration that can be written, with terms of at most 64 levels
pub record IsSpellable (n : Narration) : Type 0 where
  pub valid : IsNarration n
  pub fit : fits 64 n ≡ true

-- The words.
abbrev pub comma_name : List ℕ → List Word
comma_name n = comma ∷ name n ∷ []

abbrev pub spell_names : List (List ℕ) → List Word
spell_names [] = []
spell_names (n ∷ ns) = name n ∷ flat_map comma_name ns

abbrev pub piece_word : Piece → Word
piece_word (Lit b) = literal b
piece_word (Field k) = name (kind_word k)

abbrev mutual
  pub spell_tree : Tree → List Word
  spell_tree (atom n) = name n ∷ []
  spell_tree (apply n ts) = name n ∷ open_sign ∷ spell_trees close_sign ts
  spell_tree (hash t) = name hash_word ∷ open_sign ∷ spell_tree t ++ close_sign ∷ []
  spell_tree (mac t u) = name mac_word ∷ open_sign ∷ spell_tree t ++ (comma ∷ spell_tree u ++ close_sign ∷ [])
  spell_tree (seal t u) = name seal_word ∷ open_sign ∷ spell_tree t ++ (comma ∷ spell_tree u ++ close_sign ∷ [])
  spell_tree (wrap t u v) = name wrap_word ∷ open_sign ∷ spell_tree t ++ (comma ∷ spell_tree u ++ (comma ∷ spell_tree v ++ close_sign ∷ []))

  -- terms, and the word behind the last
  pub spell_trees : Word → Trees → List Word
  spell_trees last none = last ∷ []
  spell_trees last (more t ts) = spell_tree t ++ spell_others last ts

  pub spell_others : Word → Trees → List Word
  spell_others last none = last ∷ []
  spell_others last (more t ts) = comma ∷ spell_tree t ++ spell_others last ts

abbrev pub spell_type : TypeItem → List Word
spell_type i = name (sort_word i.sort) ∷ spell_names i.names ++ semicolon ∷ []

abbrev pub spell_format : FormatItem → List Word
spell_format i = name i.title ∷ equals ∷ map piece_word i.pieces ++ semicolon ∷ []

abbrev pub spell_know : KnowItem → List Word
spell_know i = name i.role ∷ colon ∷ spell_trees semicolon i.terms

abbrev pub spell_action : ActionItem → List Word
spell_action a = name a.from ∷ arrow ∷ name a.to ∷ colon ∷ spell_tree a.message ++ semicolon ∷ []

abbrev pub spell_suite : Option Suite → List Word
spell_suite None = []
spell_suite (Some s) = name suite_word ∷ colon ∷ name (hash_name s) ∷ semicolon ∷ []

abbrev pub spell_formats : Option (List FormatItem) → List Word
spell_formats None = []
spell_formats (Some is) = name formats_word ∷ colon ∷ flat_map spell_format is

abbrev pub spell_knows : Option (List KnowItem) → List Word
spell_knows None = []
spell_knows (Some is) = name knowledge_word ∷ colon ∷ flat_map spell_know is

-- the end, or the word and the sign behind which nothing is looked at
abbrev pub spell_ending : Bool → List Word
spell_ending true = name goals_word ∷ colon ∷ []
spell_ending false = end ∷ []

abbrev pub spell : Written → List Word
spell w = name protocol_word ∷ colon ∷ name w.title ∷ semicolon ∷ spell_suite w.suite ++ (name types_word ∷ colon ∷ flat_map spell_type w.types
    ++ (spell_formats w.formats ++ (spell_knows w.knows ++ (name actions_word ∷ colon ∷ flat_map spell_action w.actions ++ spell_ending w.goals))))
