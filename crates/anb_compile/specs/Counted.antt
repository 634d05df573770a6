-- How many demands a code has, and how many instructions that build.
use Rattle.std.specs.Prelude.{ℕ, List, [], ◌∷◌, ◌++◌, map, count_by, Bool, true, false}
use Rattle.std.specs.Set.{distinct_count}
use Rattle.anb_term.specs.Tree.{Tree, leaf, node, Trees, none, more, trees_of, tree_eqb}
use Rattle.anb_code.specs.declared.instr.Instr.{Instr}
use Rattle.anb_code.specs.declared.instr.Instr.TheVariants.{Take, Fresh, Recv, Hash, Mac, Seal, Unseal, Wrap, Unwrap, Build, Parse, Equal, Send}
use Rattle.anb_protocol.specs.Plans.{PlanEvent, term_in}
use Rattle.anb_plays.specs.Codes.{Act, takes, draws, receives, sends, works, make, undo, equal}
use Rattle.anb_code.specs.CodeValue.{CodeValue}
use Rattle.anb_code.specs.Meaning.{acts_of}

abbrev pub is_demanding : Act → Bool
is_demanding (works (undo op keys of)) = true
is_demanding (works (equal a b)) = true
is_demanding (works (make op operands)) = false
is_demanding takes = false
is_demanding draws = false
is_demanding receives = false
is_demanding (sends r) = false

-- how many instructions have a demand
abbrev pub count_demands : CodeValue → ℕ
count_demands code = count_by is_demanding (acts_of code)

-- a hash, a mac, a seal, a wrap or a build
abbrev pub is_building : Instr → Bool
is_building (Hash r) = true
is_building (Mac k r) = true
is_building (Seal k r) = true
is_building (Wrap k x r) = true
is_building (Build f rs) = true
is_building (Take text) = false
is_building Fresh = false
is_building Recv = false
is_building (Unseal k r) = false
is_building (Unwrap k x r) = false
is_building (Parse f r) = false
is_building (Equal a b) = false
is_building (Send r) = false

abbrev pub count_builds : CodeValue → ℕ
count_builds code = count_by is_building code.instrs

abbrev mutual
  -- a term and the subterms of its operands, as often as each stands there
  pub subterms : Tree → List Tree
  subterms (leaf n) = leaf n ∷ []
  subterms (node o ts) = node o ts ∷ subterms_of ts

  pub subterms_of : Trees → List Tree
  subterms_of none = []
  subterms_of (more t ts) = subterms t ++ subterms_of ts

-- how many different subterms the terms of these labels and messages have
abbrev pub count_subterms : List PlanEvent → ℕ
count_subterms plan = distinct_count tree_eqb (subterms_of (trees_of (map term_in plan)))
