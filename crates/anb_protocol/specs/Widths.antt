-- How many bytes a term has at most.
use Rattle.std.specs.Prelude.{ℕ, ◌+◌, List, [], ◌∷◌, Bool, true, ◌&&◌, nat_le, Option, Some, None, if◌then◌else◌}
use Rattle.std.specs.Option.{option_and_then}
use Rattle.std.specs.List.{list_all}
use Rattle.anb_format.specs.Formats.{FormatValue, pieces_at}
use Rattle.anb_format.specs.Widths.{format_width}
use Rattle.anb_term.specs.declared.term.Op.{Op}
use Rattle.anb_term.specs.declared.term.Op.TheVariants.{Hash, Mac, Seal, Wrap, Format}
use Rattle.anb_term.specs.Value.{cons_both}
use Rattle.anb_term.specs.Tree.{Tree, leaf, node, Trees, none, more}

-- A seal and a wrap are 32 bytes longer than what they hold, the last of their operands.
abbrev pub sealed_width : List ℕ → ℕ
sealed_width [] = 32
sealed_width (w ∷ []) = w + 32
sealed_width (w ∷ v ∷ ws) = sealed_width (v ∷ ws)

-- Atoms, hashes and keyed hashes have the least width, and a format's is at least that.
module _ (least : ℕ) (formats : List FormatValue) where
  abbrev pub op_width : Op → List ℕ → ℕ
  op_width Hash ws = least
  op_width Mac ws = least
  op_width Seal ws = sealed_width ws
  op_width Wrap ws = sealed_width ws
  op_width (Format i arity) ws = format_width least (pieces_at formats i) ws

  abbrev mutual
    pub width : Tree → ℕ
    width (leaf a) = least
    width (node o ts) = op_width o (widths ts)

    pub widths : Trees → List ℕ
    widths none = []
    widths (more t ts) = width t ∷ widths ts

  abbrev mutual
    -- no subterm is wider than this
    pub fits_width : ℕ → Tree → Bool
    fits_width most (leaf a) = nat_le least most
    fits_width most (node o ts) = fit_width most ts && nat_le (op_width o (widths ts)) most

    pub fit_width : ℕ → Trees → Bool
    fit_width most none = true
    fit_width most (more t ts) = fits_width most t && fit_width most ts

  -- the same of each of these
  abbrev pub all_fit_width : ℕ → List Tree → Bool
  all_fit_width most ts = list_all (fits_width most) ts

-- the same widths, where nothing is wider than the most: as the code finds them
abbrev pub at_most : ℕ → ℕ → Option ℕ
at_most most w = if nat_le w most then Some w else None

abbrev mutual
  pub width_if : ℕ → List FormatValue → ℕ → Tree → Option ℕ
  width_if least formats most (leaf a) = at_most most least
  width_if least formats most (node o ts) = option_and_then (λ ws. at_most most (op_width least formats o ws)) (widths_if least formats most ts)

  pub widths_if : ℕ → List FormatValue → ℕ → Trees → Option (List ℕ)
  widths_if least formats most none = Some []
  widths_if least formats most (more t ts) = cons_both (width_if least formats most t) (widths_if least formats most ts)
