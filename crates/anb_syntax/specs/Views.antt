-- What the types of the code stand for.
use Rattle.std.specs.Prelude.{ℕ, List, [], map, take, drop, Option, Some, None}
use Rattle.anb_syntax.specs.Words as words
use Rattle.anb_syntax.specs.Words.{Tok}
use Rattle.anb_syntax.specs.Lexing.{characters_here}
use Rattle.anb_syntax.specs.Grammar as grammar
use Rattle.anb_syntax.specs.Grammar.{trees_of}
use Rattle.anb_syntax.specs.declared.narration.Tree.{Tree, fold-Tree}
use Rattle.anb_syntax.specs.declared.narration.Tree.TheOpen.{Tree-F}
use Rattle.anb_syntax.specs.declared.narration.TypeItem.{TypeItem}
use Rattle.anb_syntax.specs.declared.narration.FormatItem.{FormatItem}
use Rattle.anb_syntax.specs.declared.narration.KnowItem.{KnowItem}
use Rattle.anb_syntax.specs.declared.narration.ActionItem.{ActionItem}
use Rattle.anb_syntax.specs.declared.narration.Narration.{Narration}
use Rattle.anb_syntax.specs.declared.tokens.TokenKind.{TokenKind}
use Rattle.anb_syntax.specs.declared.tokens.TokenKind.TheVariants as kinds
use Rattle.anb_syntax.specs.declared.tokens.Token.{Token}

abbrev pub tree_step : Tree-F grammar.Tree → grammar.Tree
tree_step (Tree-F.Name n) = grammar.atom n
tree_step (Tree-F.Apply n ts) = grammar.apply n (trees_of ts.items)
tree_step (Tree-F.Hash t) = grammar.hash t.value
tree_step (Tree-F.Mac t u) = grammar.mac t.value u.value
tree_step (Tree-F.Seal t u) = grammar.seal t.value u.value
tree_step (Tree-F.Wrap t u v) = grammar.wrap t.value u.value v.value

abbrev pub tree_of : Tree → grammar.Tree
tree_of = fold-Tree grammar.Tree tree_step

abbrev pub type_of : TypeItem → grammar.TypeItem
type_of i = record { sort = i.sort; names = i.names.items }

abbrev pub format_of : FormatItem → grammar.FormatItem
format_of i = record { title = i.name; pieces = i.pieces.items }

abbrev pub know_of : KnowItem → grammar.KnowItem
know_of i = record { role = i.role; terms = trees_of (map tree_of i.terms.items) }

abbrev pub action_of : ActionItem → grammar.ActionItem
action_of a = record { from = a.from; to = a.to; message = tree_of a.message }

abbrev pub narration_of : Narration → grammar.Narration
narration_of n = record {
  title = n.name;
  suite = n.suite;
  types = map type_of n.types.items;
  formats = map format_of n.formats.items;
  knows = map know_of n.knows.items;
  actions = map action_of n.actions.items;
}

-- the bytes that characters stand for
abbrev pub meant : Option (List ℕ × ℕ) → List ℕ
meant None = []
meant (Some r) = r.0

-- the word that a token of this kind and length is at the front of a text
abbrev pub word_of : TokenKind → ℕ → List ℕ → words.Word
word_of kinds.Name n x = words.name (take n x)
word_of kinds.Literal n x = words.literal (meant (characters_here (drop 1 x)))
word_of kinds.Colon n x = words.colon
word_of kinds.Semicolon n x = words.semicolon
word_of kinds.Comma n x = words.comma
word_of kinds.Open n x = words.open_sign
word_of kinds.Close n x = words.close_sign
word_of kinds.Equals n x = words.equals
word_of kinds.Arrow n x = words.arrow

abbrev pub tok_of : List ℕ → Token → Tok
tok_of text t = record { word = word_of t.kind t.len (drop t.at text); at = t.at }
