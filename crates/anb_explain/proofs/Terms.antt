-- The terms of a code's registers: how many there are, and that they are terms of the protocol.
use Rattle.std.proofs.Common.{◌≡◌, ℕ, ◌+◌, ◌-◌, List, [], ◌∷◌, ◌++◌, length, map, take, drop, Some, sym, ap, ◌∙◌, subst, arith, length-append}
use Rattle.std.specs.Prelude.{count_by, ◌&&◌, ◌==◌}
use Rattle.std.specs.List.{AllByRecursion}
use Rattle.std.proofs.lemmas.List.{append-nil}
use Rattle.std.proofs.lemmas.List.Sums.{sum_by-cons}
use Rattle.std.proofs.lemmas.Option.{cond_some}
use Rattle.anb_lemmas.proofs.Each.{each_in_both, each_got}
use Rattle.anb_format.specs.Formats.{FormatValue, field_count, pieces_at}
use Rattle.anb_term.specs.declared.term.Op.{Op}
use Rattle.anb_term.specs.declared.term.Op.TheVariants.{Seal, Wrap, Format}
use Rattle.anb_term.specs.Operator.{arity, keys, undoable, op_eqb}
use Rattle.anb_term.specs.Tree.{Tree, leaf, node, Trees, none, more, trees_of, list_of, trees_eqb}
use Rattle.anb_term.specs.TreeSame.{list_of-trees_of}
use Rattle.anb_term.specs.Value.{RecipeTree, label, build, part, RecipeTrees, no_recipes, more_recipes, value, values}
use Rattle.anb_term.specs.FreeAlgebra.{terms_over, parts_of}
use Rattle.anb_term.proofs.Lists.{all_drop}
use Rattle.anb_term.proofs.Steps.{consed}
use Rattle.anb_term.proofs.Values.{builds_by_own, part_parts}
use Rattle.anb_algebra.specs.ByteMeaning.{has_operator}
use Rattle.anb_plays.specs.Plans.{known}
use Rattle.anb_plays.specs.Codes.{at_register, parts}
use Rattle.anb_plays.proofs.Registers.{length-parts}
use Rattle.anb_protocol.specs.Protocols.{ProtocolValue}
use Rattle.anb_protocol.specs.Texts.{IsTermOf, AreTermsOf}
use Rattle.anb_protocol.specs.Plans.{PlanEvent, to_know, to_make, to_send, to_receive, term_in}
use Rattle.anb_protocol.specs.Plays.{event_of}
use Rattle.anb_code.specs.declared.instr.Instr.{Instr}
use Rattle.anb_code.specs.declared.instr.Instr.TheVariants.{Take, Fresh, Recv, Hash, Mac, Build, Parse, Equal, Send}
use Rattle.anb_code.specs.declared.instr.Instr.TheVariants as instr
use Rattle.anb_code.specs.Meaning.{act_of}
use Rattle.anb_code.specs.Registers.{count_written}
use Rattle.anb_code.specs.Verified.{count_registers}
use Rattle.anb_compile.specs.Registers.{is_take, recipes_after, register_recipes, later_labels, all_labels}

-- ---- how many registers there are

-- as many as the instructions write
module _ (formats : List FormatValue) where
  abbrev Counted : List Instr → Type 0
  Counted instrs = (regs : List RecipeTree) (n : ℕ) → length (recipes_after (map (act_of formats) instrs) regs n) ≡ length regs + count_registers formats instrs

  module _ (xs : List Instr) (rest : Counted xs) (regs : List RecipeTree) where
    one_more : (r : RecipeTree) (n : ℕ) → length (recipes_after (map (act_of formats) xs) (regs ++ r ∷ []) n) ≡ length regs + (1 + count_registers formats xs)
    one_more r n = omega (arith, rest (regs ++ r ∷ []) n, length-append regs (r ∷ []))

    some_more : (m : ℕ) (o : Op) (ks : RecipeTrees) (r : RecipeTree) (n : ℕ) → length (recipes_after (map (act_of formats) xs) (regs ++ parts m o ks r) n) ≡ length regs + (m + count_registers formats xs)
    some_more m o ks r n = omega (arith, rest (regs ++ parts m o ks r) n, length-append regs (parts m o ks r), length-parts m o ks r)

    written_more : (x : Instr) (n : ℕ) → length (recipes_after (map (act_of formats) (x ∷ xs)) regs n) ≡ length regs + (count_written formats x + count_registers formats xs)
    written_more (Take text) n = one_more _ n
    written_more Fresh n = one_more _ (n + 1)
    written_more Recv n = one_more _ (n + 1)
    written_more (Hash r) n = one_more _ n
    written_more (Mac k m) n = one_more _ n
    written_more (instr.Seal k m) n = one_more _ n
    written_more (instr.Unseal k c) n = some_more 1 Seal _ _ n
    written_more (instr.Wrap k d m) n = one_more _ n
    written_more (instr.Unwrap k d c) n = some_more 1 Wrap _ _ n
    written_more (Build f rs) n = one_more _ n
    written_more (Parse f r) n =
        let fields = field_count (pieces_at formats f) in
        let all : fields - 0 ≡ fields = omega arith in
        some_more (fields - 0) (Format f fields) no_recipes (at_register regs r) n ∙ ap (λ m. length regs + (m + count_registers formats xs)) all
    written_more (Equal a b) n = omega (arith, rest (regs ++ []) n, ap length (append-nil regs))
    written_more (Send r) n = omega (arith, rest regs n)

  recipes_count : (instrs : List Instr) → Counted instrs
  recipes_count [] regs n = omega arith
  recipes_count (x ∷ xs) regs n = written_more xs (recipes_count xs) regs x n ∙ ap (λ k. length regs + k) (sym (sum_by-cons (count_written formats) x xs))

  pub registers_count : (instrs : List Instr) → length (register_recipes (map (act_of formats) instrs)) ≡ count_registers formats instrs
  registers_count instrs = omega (arith, recipes_count instrs [] (count_by is_take (map (act_of formats) instrs)))

-- ---- what is made and undone of terms of a protocol is one

module _ (p : ProtocolValue) where
  listed : (ts : Trees) → AreTermsOf p ts → AllByRecursion (IsTermOf p) (list_of ts)
  listed none are = tt
  listed (more t ts) are = (are.0, listed ts are.1)

  gathered : (ts : List Tree) → AllByRecursion (IsTermOf p) ts → AreTermsOf p (trees_of ts)
  gathered [] are = tt
  gathered (t ∷ ts) are = (are.0, gathered ts are.1)

  parts_are_terms : (o : Op) (ks : List Tree) (v : Tree) (ps : List Tree) → IsTermOf p v → parts_of o ks v ≡ Some ps → AllByRecursion (IsTermOf p) ps
  parts_are_terms o ks (leaf a) ps is e = cc
  parts_are_terms o ks (node q ts) ps is e =
      let c = cond_some (undoable o && op_eqb o q && (length (list_of ts) == arity o) && trees_eqb (trees_of ks) (trees_of (take (keys o) (list_of ts)))) (drop (keys o) (list_of ts)) ps e in
      subst (AllByRecursion (IsTermOf p)) c.1 (all_drop (IsTermOf p) (keys o) (list_of ts) (listed ts is.2))

  module _ (frame : List Tree) (are : AllByRecursion (IsTermOf p) frame) where
    mutual
      pub value_is_term : (r : RecipeTree) (t : Tree) → value (terms_over (has_operator p.formats)) frame r ≡ Some t → IsTermOf p t
      value_is_term (label n) t e = each_got (IsTermOf p) frame n t are e
      value_is_term (build o rs) t e =
          let b = builds_by_own (terms_over (has_operator p.formats)) frame o rs t e in
          subst (IsTermOf p) (sym b.4) (b.1, ap length (list_of-trees_of b.0) ∙ b.2, gathered b.0 (values_are_terms rs b.0 b.3))
      value_is_term (part o j ks r) t e =
          let b = part_parts (terms_over (has_operator p.formats)) frame o j ks r t e in
          each_got (IsTermOf p) b.2 j t (parts_are_terms o b.0 b.1 b.2 (value_is_term r b.1 b.6) b.7) b.8

      pub values_are_terms : (rs : RecipeTrees) (ts : List Tree) → values (terms_over (has_operator p.formats)) frame rs ≡ Some ts → AllByRecursion (IsTermOf p) ts
      values_are_terms no_recipes ts e = let s : [] ≡ ts = cc in subst (AllByRecursion (IsTermOf p)) s tt
      values_are_terms (more_recipes r rs) ts e =
          let c = consed (value (terms_over (has_operator p.formats)) frame r) (values (terms_over (has_operator p.formats)) frame rs) ts e in
          subst (AllByRecursion (IsTermOf p)) (sym c.4) (value_is_term r c.0 c.2, values_are_terms rs c.1 c.3)

  -- ---- the labels of a plan

  known_are : (es : List PlanEvent) → AllByRecursion (λ e. IsTermOf p (term_in e)) es → AllByRecursion (IsTermOf p) (known (map event_of es))
  known_are [] are = tt
  known_are (to_know t ∷ es) are = (are.0, known_are es are.1)
  known_are (to_make t ∷ es) are = known_are es are.1
  known_are (to_send i t ∷ es) are = known_are es are.1
  known_are (to_receive i t ∷ es) are = known_are es are.1

  later_are : (es : List PlanEvent) → AllByRecursion (λ e. IsTermOf p (term_in e)) es → AllByRecursion (IsTermOf p) (later_labels (map event_of es))
  later_are [] are = tt
  later_are (to_know t ∷ es) are = later_are es are.1
  later_are (to_make t ∷ es) are = (are.0, later_are es are.1)
  later_are (to_send i t ∷ es) are = later_are es are.1
  later_are (to_receive i t ∷ es) are = (are.0, later_are es are.1)

  pub labels_are : (es : List PlanEvent) → AllByRecursion (λ e. IsTermOf p (term_in e)) es → AllByRecursion (IsTermOf p) (all_labels (map event_of es))
  labels_are es are = each_in_both (IsTermOf p) (known (map event_of es)) (later_labels (map event_of es)) (known_are es are) (later_are es are)
