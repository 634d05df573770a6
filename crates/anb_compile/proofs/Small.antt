-- Each entry's term is a part of a label's, and so checks are small and narrow as the labels' terms are.
use Rattle.std.proofs.Common.{◌≡◌, ℕ, zero, suc, ◌+◌, ◌-◌, ◌≤◌, List, [], ◌∷◌, ◌++◌, length, take, drop, Bool, true, Some, refl, sym, ap, subst, arith, append_assoc, cond, inl, inr}
use Rattle.std.specs.Prelude.{slice_get}
use Rattle.std.specs.List.{AllByRecursion}
use Rattle.std.proofs.lemmas.Bool.{and_parts}
use Rattle.std.proofs.lemmas.List.{append-nil}
use Rattle.anb_lemmas.proofs.Each.{each_in_both, each_got}
use Rattle.anb_base.specs.declared.TheConstants.{ARRIVAL, WIDE}
use Rattle.anb_format.specs.Formats.{FormatValue}
use Rattle.anb_term.specs.declared.term.Op.{Op}
use Rattle.anb_term.specs.Operator.{arity, keys}
use Rattle.anb_term.specs.Tree.{Tree, node, Trees, none, more, trees_of, list_of, tree_size, trees_size, AreFormed}
use Rattle.anb_term.specs.TreeSame.{trees_of-list_of}
use Rattle.anb_term.specs.View.{tree_of}
use Rattle.anb_term.proofs.Lists.{all_drop, size_some, formed_items, formed_take}
use Rattle.anb_close.specs.MadeView.{made_tree}
use Rattle.anb_close.specs.declared.entry.Entry.{Entry}
use Rattle.anb_close.specs.declared.entry.Origin.{Origin}
use Rattle.anb_close.specs.declared.entry.Origin.TheVariants.{Label, Part}
use Rattle.anb_close.specs.Entries.{rows, terms_of, is_label, labels_of, OriginFits, Follow, IsOpened, IsKnown}
use Rattle.anb_close.proofs.Rows.{made_small, mades_small, row_term}
use Rattle.anb_close.proofs.Growing.{terms_append, formed_at}
use Rattle.anb_close.proofs.Closing.{opened_row}
use Rattle.anb_basis.specs.declared.check.Check.{Check}
use Rattle.anb_basis.specs.declared.check.Check.TheVariants.{Open, Equal}
use Rattle.anb_basis.specs.Checks.{Fits, AllFit}
use Rattle.anb_protocol.specs.Widths.{fits_width, fit_width}
use Rattle.anb_compile.specs.Verifying.{IsNarrow, AreNarrow, IsNarrowCheck, room_for}
use Rattle.anb_compile.specs.Once.{IsChosen, AreChosen, IsChosenCheck, AllAmong}
use Rattle.anb_compile.proofs.Sharing.{made_chosen, mades_chosen, mades_kept, built_chosen, operands_among, all_among}
use Rattle.anb_compile.proofs.Narrow.{made_narrow, mades_narrow, built_narrow}
use Rattle.anb_compile.proofs.Opened.{opened_formed, count_parts}

-- ---- what holds of a term and of its operands

module _ (P : Tree → Type 0) (within : (o : Op) (us : Trees) → P (node o us) → AllByRecursion P (list_of us)) where
  origin_has : (x : Origin) (before : List Entry) (n : ℕ) (t : Tree) (ls : List Tree) → AllByRecursion P (terms_of before) → OriginFits (terms_of before) n x t → AllByRecursion P (cond (is_label x) (t ∷ ls) ls)
      → P t × AllByRecursion P ls
  origin_has (Label m) before n t ls all fits h = (h.0, h.1)
  origin_has (Part o j ks i) before n t ls all fits h =
      let us = fits.0 in
      (each_got P (drop (keys o) (list_of us)) j t (all_drop P (keys o) (list_of us) (within o us (each_got P (terms_of before) i (node o us) all fits.1))) fits.4, h)

  entries_have : (before later : List Entry) → AllByRecursion P (terms_of before) → Follow before later → AllByRecursion P (labels_of later) → AllByRecursion P (terms_of (before ++ later))
  entries_have before [] all follow labels = subst (λ l. AllByRecursion P (terms_of l)) (sym (append-nil before)) all
  entries_have before (e ∷ later) all follow labels =
      let h = origin_has e.origin before (length (labels_of before)) (tree_of e.term) (labels_of later) all follow.0 labels in
      let Q : List Tree → Type 0 = λ l. AllByRecursion P l in
      let next = subst Q (sym (terms_append before (e ∷ []))) (each_in_both P (terms_of before) (tree_of e.term ∷ []) all (h.0, tt)) in
      let R : List Entry → Type 0 = λ l. AllByRecursion P (terms_of l) in
      subst R (append_assoc before (e ∷ []) later) (entries_have (before ++ e ∷ []) later next follow.1 h.1)

  pub terms_have : (es : List Entry) → IsKnown es → AllByRecursion P (labels_of es) → AllByRecursion P (terms_of es)
  terms_have es known labels = entries_have [] es tt known.follow labels

-- ---- sizes

each_size : (n : ℕ) (us : Trees) → trees_size us ≤ n → AllByRecursion (λ t. tree_size t ≤ n) (list_of us)
each_size n none h = tt
each_size n (more t ts) h = (omega (arith, h), each_size n ts (omega (arith, h)))

pub sizes_within : (o : Op) (us : Trees) → tree_size (node o us) ≤ 1024 → AllByRecursion (λ t. tree_size t ≤ 1024) (list_of us)
sizes_within o us h = each_size 1024 us (omega (arith, h))

many_sizes : (ts : List Tree) → length ts ≤ trees_size (trees_of ts)
many_sizes [] = omega arith
many_sizes (t ∷ ts) = omega (arith, many_sizes ts, size_some t)

parted_sizes : (n : ℕ) (ts : List Tree) → trees_size (trees_of (take n ts)) + trees_size (trees_of (drop n ts)) ≡ trees_size (trees_of ts)
parted_sizes zero ts = omega arith
parted_sizes (suc n) [] = refl
parted_sizes (suc n) (t ∷ ts) = omega (arith, parted_sizes n ts)

-- ---- widths

each_narrow : (formats : List FormatValue) (us : Trees) → fit_width ARRIVAL formats WIDE us ≡ true → AllByRecursion (IsNarrow formats) (list_of us)
each_narrow formats none e = tt
each_narrow formats (more t ts) e = let h = and_parts (fits_width ARRIVAL formats WIDE t) (fit_width ARRIVAL formats WIDE ts) e in (h.0, each_narrow formats ts h.1)

pub narrow_within : (formats : List FormatValue) (o : Op) (us : Trees) → IsNarrow formats (node o us) → AllByRecursion (IsNarrow formats) (list_of us)
narrow_within formats o us e = each_narrow formats us (and_parts (fit_width ARRIVAL formats WIDE us) _ e).0

all_narrow : (formats : List FormatValue) (ts : List Tree) → AllByRecursion (IsNarrow formats) ts → AreNarrow formats ts
all_narrow formats [] all = refl
all_narrow formats (t ∷ ts) all = rw (all.0, all_narrow formats ts all.1) refl

front_of : (P : Tree → Type 0) (n : ℕ) (ts : List Tree) → AllByRecursion P ts → AllByRecursion P (take n ts)
front_of P zero ts all = tt
front_of P (suc n) [] all = tt
front_of P (suc n) (t ∷ ts) all = (all.0, front_of P n ts all.1)

-- ---- checks

module _ (formats : List FormatValue) (has : Op → Bool) (es : List Entry) (known : IsKnown es) (formed : AreFormed has (trees_of (terms_of es))) (small : AllByRecursion (λ t. tree_size t ≤ 1024) (terms_of es))
    (narrow : AllByRecursion (IsNarrow formats) (terms_of es)) where
  own_term : (i f : ℕ) (o : IsOpened es i f) → slice_get (terms_of es) i ≡ Some (node o.op o.operands)
  own_term i f o = row_term (terms_of es) i (node o.op o.operands) (opened_row es i f o)

  pub check_narrow : (c : Check) → Fits es c → IsNarrowCheck formats c
  check_narrow (Open x) fit =
      let p = known.parted x.first fit.0 x.op 0 x.keys x.of fit.1 fit.2 in
      let o = p.opened in
      let us = o.operands in
      let front = take (keys o.op) (list_of us) in
      let f = formed_take has (keys o.op) (list_of us) (formed_items has us (opened_formed has es known formed x.of p.first o).2) in
      let n = narrow_within formats o.op us (each_got (IsNarrow formats) (terms_of es) x.of (node o.op us) narrow (own_term x.of p.first o)) in
      let go = mades_narrow ARRIVAL WIDE formats has (rows o.front) (trees_of front) (trees_of o.keys_made) o.made f (all_narrow formats front (front_of (IsNarrow formats) (keys o.op) (list_of us) n)) in
      subst (AreNarrow formats) p.keys_are go.1
  check_narrow (Equal i w) fit = elim fit [
    | inl a ↦
        let f = formed_at has (terms_of es) i a.0 formed a.2 in
        (made_narrow ARRIVAL WIDE formats has (rows es) a.0 (made_tree w) a.3 f (each_got (IsNarrow formats) (terms_of es) i a.0 narrow a.2)).1
    | inr a ↦
        let t = node a.0 a.1 in
        let own = row_term (terms_of es) i t a.3 in
        subst (IsNarrow formats) a.6 (built_narrow ARRIVAL WIDE formats has (rows es) a.0 a.1 a.2 a.5 (formed_at has (terms_of es) i t formed own) (each_got (IsNarrow formats) (terms_of es) i t narrow own))
  ]

  pub check_room : (c : Check) → Fits es c → room_for c ≤ 1025
  check_room (Open x) fit =
      let p = known.parted x.first fit.0 x.op 0 x.keys x.of fit.1 fit.2 in
      let o = p.opened in
      let us = o.operands in
      let count = count_parts has es known formed x.of p.first o in
      let op : arity o.op - keys o.op ≡ arity x.op - keys x.op = ap (λ q. arity q - keys q) p.op_is in
      let size = each_got (λ t. tree_size t ≤ 1024) (terms_of es) x.of (node o.op us) small (own_term x.of p.first o) in
      let keys_small = mades_small (rows o.front) (trees_of (take (keys o.op) (list_of us))) (trees_of o.keys_made) o.made in
      let keys_are : trees_size (trees_of o.keys_made) ≡ trees_size (trees_of x.keys) = ap (λ l. trees_size (trees_of l)) p.keys_are in
      let all : trees_size (trees_of (list_of us)) ≡ trees_size us = ap trees_size (trees_of-list_of us) in
      omega (arith, count, op, size, keys_small, keys_are, all, many_sizes (drop (keys o.op) (list_of us)), parted_sizes (keys o.op) (list_of us))
  check_room (Equal i w) fit = elim fit [
    | inl a ↦ omega (arith, each_got (λ t. tree_size t ≤ 1024) (terms_of es) i a.0 small a.2, made_small (rows es) a.0 (made_tree w) a.3)
    | inr a ↦
        let t = node a.0 a.1 in
        omega (arith, each_got (λ q. tree_size q ≤ 1024) (terms_of es) i t small (row_term (terms_of es) i t a.3), mades_small (rows es) a.1 a.2 a.5, ap tree_size a.6)
  ]

  -- of each that is given
  pub all_checks : (P : Check → Type 0) → ((c : Check) → Fits es c → P c) → (cs : List Check) → AllFit es cs → AllByRecursion P cs
  all_checks P has_it [] fit = tt
  all_checks P has_it (c ∷ cs) fit = (has_it c (fit 0 c refl), all_checks P has_it cs (λ k. fit (suc k)))

-- what checks compose is chosen
module _ (ts : List Tree) (es : List Entry) (known : IsKnown es) (among : AllByRecursion (AllAmong ts) (terms_of es)) where
  pub check_chosen : (c : Check) → Fits es c → IsChosenCheck ts (rows es) c
  check_chosen (Open x) fit =
      let p = known.parted x.first fit.0 x.op 0 x.keys x.of fit.1 fit.2 in
      let o = p.opened in
      let us = o.operands in
      let front = take (keys o.op) (list_of us) in
      let own = row_term (terms_of es) x.of (node o.op us) (opened_row es x.of p.first o) in
      let each = front_of (AllAmong ts) (keys o.op) (list_of us) (operands_among ts o.op us (each_got (AllAmong ts) (terms_of es) x.of (node o.op us) among own)) in
      let made = mades_kept o.front _ es o.lies (trees_of front) (trees_of o.keys_made) o.made in
      let Q : List Tree → Type 0 = λ l. AreChosen ts (rows es) (trees_of l) in
      subst Q p.keys_are (mades_chosen ts (rows es) (trees_of front) (trees_of o.keys_made) made (all_among ts front each))
  check_chosen (Equal i w) fit = elim fit [
    | inl a ↦ made_chosen ts (rows es) a.0 (made_tree w) a.3 (each_got (AllAmong ts) (terms_of es) i a.0 among a.2)
    | inr a ↦
        let t = node a.0 a.1 in
        let here = each_got (AllAmong ts) (terms_of es) i t among (row_term (terms_of es) i t a.3) in
        subst (IsChosen ts (rows es)) a.6 (built_chosen ts (rows es) a.0 a.1 a.2 a.5 here)
  ]

  pub all_chosen : (cs : List Check) → AllFit es cs → AllByRecursion (IsChosenCheck ts (rows es)) cs
  all_chosen [] fit = tt
  all_chosen (c ∷ cs) fit = (check_chosen c (fit 0 c refl), all_chosen cs (λ k. fit (suc k)))
