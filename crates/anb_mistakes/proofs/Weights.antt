-- What is beyond a limit, one item after another.
use Rattle.std.proofs.Common.{◌≡◌, ◌≢◌, ℕ, suc, ◌+◌, ◌-◌, ◌<◌, ◌≤◌, List, [], ◌∷◌, length, drop, get_or, map, refl, ap, sym, ◌∙◌, arith}
use Rattle.std.specs.Prelude.{nat_lt}
use Rattle.std.proofs.lemmas.Bool.{lt-ltb, le-ltb}
use denote.Ref.{Bor}
use Rattle.anb_lemmas.proofs.Lists.{map_drop_next}
use Rattle.anb_format.specs.Formats.{field_count}
use Rattle.anb_syntax.specs.Grammar as grammar
use Rattle.anb_syntax.specs.Views.{format_of, tree_of}
use Rattle.anb_syntax.specs.declared.narration.FormatItem.{FormatItem}
use Rattle.anb_syntax.specs.declared.narration.Tree.{Tree}
use Rattle.anb_protocol.specs.Checks.{tree_nodes}
use Rattle.anb_protocol.specs.Views.{pointed}
use Rattle.anb_mistakes.specs.Beyond.{heavy_term, large_term, wide_format}

-- ---- formats

module _ (formats : List FormatItem) (i : ℕ) (f : FormatItem) (within : i < length formats) (at : f ≡ get_or formats i f) (count : ℕ) (counts : count ≡ field_count (format_of f).pieces) where
  first_format : map format_of (drop i formats) ≡ format_of f ∷ map format_of (drop (i + 1) formats)
  first_format = map_drop_next format_of formats i f within at

  pub this_format : 32 < count → i + wide_format (map format_of (drop i formats)) ≡ i
  this_format many = rw (first_format, sym counts, lt-ltb 32 count many) (omega arith)

  pub later_format : count ≤ 32 → (i + 1) + wide_format (map format_of (drop (i + 1) formats)) ≡ i + wide_format (map format_of (drop i formats))
  later_format few = rw (first_format, sym counts, le-ltb 32 count few) (omega arith)

-- ---- terms

module _ (terms : List (Bor Tree)) (i : ℕ) (t : Bor Tree) (within : i < length terms) (at : t ≡ get_or terms i t) where
  abbrev trees : ℕ → List grammar.Tree
  trees k = map tree_of (pointed (drop k terms))

  first_tree : trees i ≡ tree_of t.now ∷ trees (i + 1)
  first_tree = ap (map tree_of) (map_drop_next (λ (x : Bor Tree). x.now) terms i t within at)

  module _ (most left : ℕ) (is : left ≡ (most + 1) - tree_nodes (tree_of t.now)) where
    heavy : left ≡ 0 → most < tree_nodes (tree_of t.now)
    heavy none = omega (arith, is, none)

    light : left ≢ 0 → tree_nodes (tree_of t.now) ≤ most
    light some = omega (arith, is, some)

    pub this_large : left ≡ 0 → i + large_term most (trees i) ≡ i
    this_large none = rw (first_tree, lt-ltb most (tree_nodes (tree_of t.now)) (heavy none)) (omega arith)

    pub later_large : left ≢ 0 → (i + 1) + large_term most (trees (i + 1)) ≡ i + large_term most (trees i)
    later_large some = rw (first_tree, le-ltb most (tree_nodes (tree_of t.now)) (light some)) (omega arith)

    pub this_heavy : left ≡ 0 → i + heavy_term most (trees i) ≡ i
    this_heavy none = rw (first_tree, lt-ltb most (tree_nodes (tree_of t.now)) (heavy none)) (omega arith)

    pub later_heavy : left ≢ 0 → (k : ℕ) → k ≡ left - 1 → (i + 1) + heavy_term k (trees (i + 1)) ≡ i + heavy_term most (trees i)
    later_heavy some k e =
        let less : k ≡ most - tree_nodes (tree_of t.now) = omega (arith, is, e, some) in
        rw (first_tree, le-ltb most (tree_nodes (tree_of t.now)) (light some), less) (omega arith)
