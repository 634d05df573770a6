-- At which level the terms of a narration stand: for each of its words, the level of the term that the
-- word begins, and 0 where it begins none.
use Rattle.std.specs.Prelude.{ℕ, suc, List, [], ◌∷◌, ◌++◌, map, Option, Some, None}
use Rattle.std.specs.List.{flat_map}
use Rattle.anb_syntax.specs.Words.{Word}
use Rattle.anb_syntax.specs.Grammar.{Tree, atom, apply, hash, mac, seal, wrap, Trees, none, more, KnowItem, ActionItem, Written, spell_type, spell_suite, spell_formats, spell_ending}

-- words that begin no term
abbrev pub no_terms : List Word → List ℕ
no_terms words = map (λ x. 0) words

abbrev mutual
  pub levels_tree : ℕ → Tree → List ℕ
  levels_tree l (atom n) = l ∷ []
  levels_tree l (apply n ts) = l ∷ 0 ∷ levels_trees (suc l) ts
  levels_tree l (hash t) = l ∷ 0 ∷ levels_tree (suc l) t ++ 0 ∷ []
  levels_tree l (mac t u) = l ∷ 0 ∷ levels_tree (suc l) t ++ (0 ∷ levels_tree (suc l) u ++ 0 ∷ [])
  levels_tree l (seal t u) = l ∷ 0 ∷ levels_tree (suc l) t ++ (0 ∷ levels_tree (suc l) u ++ 0 ∷ [])
  levels_tree l (wrap t u v) = l ∷ 0 ∷ levels_tree (suc l) t ++ (0 ∷ levels_tree (suc l) u ++ (0 ∷ levels_tree (suc l) v ++ 0 ∷ []))

  pub levels_trees : ℕ → Trees → List ℕ
  levels_trees l none = 0 ∷ []
  levels_trees l (more t ts) = levels_tree l t ++ levels_others l ts

  pub levels_others : ℕ → Trees → List ℕ
  levels_others l none = 0 ∷ []
  levels_others l (more t ts) = 0 ∷ levels_tree l t ++ levels_others l ts

abbrev pub levels_know : KnowItem → List ℕ
levels_know i = 0 ∷ 0 ∷ levels_trees 1 i.terms

abbrev pub levels_action : ActionItem → List ℕ
levels_action a = 0 ∷ 0 ∷ 0 ∷ 0 ∷ levels_tree 1 a.message ++ 0 ∷ []

abbrev pub levels_knows : Option (List KnowItem) → List ℕ
levels_knows None = []
levels_knows (Some is) = 0 ∷ 0 ∷ flat_map levels_know is

abbrev pub levels : Written → List ℕ
levels w = 0 ∷ 0 ∷ 0 ∷ 0 ∷ no_terms (spell_suite w.suite) ++ (0 ∷ 0 ∷ no_terms (flat_map spell_type w.types)
    ++ (no_terms (spell_formats w.formats) ++ (levels_knows w.knows ++ (0 ∷ 0 ∷ flat_map levels_action w.actions ++ no_terms (spell_ending w.goals)))))
