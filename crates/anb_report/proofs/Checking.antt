-- No term that is taken unchecked is checked.
use Rattle.std.proofs.Common.{◌≡◌, ◌<◌, ◌||◌, ℕ, zero, suc, List, [], ◌∷◌, ◌++◌, Bool, true, false, length, get_or, sym, ap, ◌∙◌, arith}
use Rattle.std.specs.Prelude.{filter, if◌then◌else◌}
use Rattle.std.specs.List.{AllByRecursion, flat_map, list_any}
use Rattle.std.specs.Option.{option_map_or}
use Rattle.std.proofs.lemmas.Bool.{or_right}
use Rattle.std.proofs.lemmas.List.Elements.{All-contains, All-from_recursion, filter_passes, recursion_from_All}
use Rattle.anb_lemmas.proofs.Bools.{never_from_not}
use Rattle.anb_lemmas.proofs.Each.{each_and_last}
use Rattle.anb_term.specs.Tree.{Tree, tree_eqb}
use Rattle.anb_term.specs.TreeSame.{tree_itself}
use Rattle.anb_report.specs.Laws.{ChecksNothingUnchecked}
use Rattle.anb_report.specs.Looking.{checked_by}
use Rattle.anb_report.specs.Noting.{checked, has_other, is_named, is_none_of, once_after, once_more}

-- what holds of each of some registers holds of each that is left of them
module _ (P : ℕ → Type 0) (terms : List Tree) where
  more_of : (b : Bool) (named : List ℕ) (r : ℕ) → AllByRecursion P named → P r → AllByRecursion P (if b then named else named ++ r ∷ [])
  more_of true named r all p = all
  more_of false named r all p = each_and_last P named r all p

  once_of : (named rs : List ℕ) → AllByRecursion P named → AllByRecursion P rs → AllByRecursion P (once_after terms named rs)
  once_of named [] all each = all
  once_of named (r ∷ rs) all each = once_of (once_more terms named r) rs (more_of (is_named terms named r) named r all each.0) each.1

any_here : (ts : List Tree) (t : Tree) (k : ℕ) → k < length ts → get_or ts k t ≡ t → list_any (tree_eqb t) ts ≡ true
any_here [] t k h e = absurd (omega (arith, h))
any_here (u ∷ ts) t zero h e = ap (λ z. tree_eqb t z || list_any (tree_eqb t) ts) e ∙ ap (λ b. b || list_any (tree_eqb t) ts) (tree_itself t)
any_here (u ∷ ts) t (suc k) h e = or_right (tree_eqb t u) (list_any (tree_eqb t) ts) (any_here ts t k (omega (arith, h)) e)

pub checks_nothing_unchecked : ChecksNothingUnchecked
checks_nothing_unchecked terms free instrs r t in_checked at in_free =
    let test = has_other terms free in
    let P : ℕ → Type 0 = λ n. test n ≡ true in
    let compared = flat_map checked_by instrs in
    let kept = recursion_from_All P (filter test compared) (filter_passes test compared) in
    let other = All-contains P (checked terms free instrs) r (All-from_recursion P (checked terms free instrs) (once_of P terms [] (filter test compared) tt kept)) in_checked in
    never_from_not (list_any (tree_eqb t) free) (ap (λ o. option_map_or (is_none_of free) o false) (sym at) ∙ other) (any_here free t in_free.0 in_free.1 in_free.2)
