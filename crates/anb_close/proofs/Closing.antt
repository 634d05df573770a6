-- Entries at rest are closed under opening.
use Rattle.std.proofs.Common.{◌≡◌, ℕ, zero, suc, ◌<◌, List, [], ◌∷◌, ◌++◌, length, take, drop, get_or, Bool, true, false, IsTrue, Some, refl, sym, ap, ◌∙◌, subst, arith}
use Rattle.std.specs.Prelude.{slice_get}
use Rattle.std.specs.List.{AllByRecursion}
use Rattle.std.proofs.Math.Dec.{ltb}
use Rattle.std.proofs.lemmas.Bool.{ltb-true, ltb-false}
use Rattle.std.proofs.lemmas.List.{drop_all}
use Rattle.std.proofs.lemmas.Option.{slice_get-get_or}
use Rattle.anb_lemmas.proofs.Each.{each_in_front, each_from_got}
use Rattle.anb_lemmas.proofs.Lists.{got_within}
use Rattle.anb_term.specs.declared.term.Op.{Op}
use Rattle.anb_term.specs.Tree.{Tree, node, Trees, trees_of, list_of, nodes}
use Rattle.anb_term.specs.TreeSame.{list_of-trees_of}
use Rattle.anb_term.specs.Operator.{keys, undoable}
use Rattle.anb_term.specs.Composes.{Composes}
use Rattle.anb_close.specs.Closed.{IsClosed}
use Rattle.anb_close.specs.Rows.{rows_of, seen, mades_for}
use Rattle.anb_close.proofs.Rows.{row_term, mades_each, row_among, compose_mades, made_composes, entry_made, row_later}
use Rattle.anb_close.proofs.Composing.{from_all}
use Rattle.anb_close.specs.declared.entry.Entry.{Entry}
use Rattle.anb_close.specs.Entries.{rows, terms_of, part_entries, labels_of, IsOpened, IsPartOf, IsRest, IsKnown, EachSmall, keys_for}
use Rattle.anb_close.proofs.Finding.{rows_length, rows_append}
use Rattle.anb_close.proofs.Growing.{terms_append, parts_terms, grown_few}

pub all_back : {A : Type 0} (P : A → Type 0) (xs ys : List A) → AllByRecursion P (xs ++ ys) → AllByRecursion P ys
all_back P [] ys h = h
all_back P (x ∷ xs) ys h = all_back P xs ys h.1

pub entries_compose : (ts : List Tree) → AllByRecursion (Composes (seen (rows_of ts))) ts
entries_compose ts = each_from_got (Composes (seen (rows_of ts))) ts (λ i t e. let m = entry_made [] ts i t e in made_composes (rows_of ts) t m.0 m.1)

-- the parts of an entry that was opened
pub opened_terms : (es : List Entry) (i f : ℕ) (o : IsOpened es i f) → AllByRecursion (Composes (seen (rows es))) (drop (keys o.op) (list_of o.operands))
opened_terms es i f o =
    let ts = drop (keys o.op) (list_of o.operands) in
    let ps = part_entries o.op o.keys_made i 0 ts in
    let P = Composes (seen (rows es)) in
    let is : terms_of es ≡ terms_of o.front ++ (ts ++ terms_of o.back) =
    ap terms_of o.lies ∙ terms_append o.front (ps ++ o.back) ∙ ap (λ l. terms_of o.front ++ l) (terms_append ps o.back ∙ ap (λ l. l ++ terms_of o.back) (parts_terms o.op o.keys_made i 0 ts)) in
    each_in_front P ts (terms_of o.back) (all_back P (terms_of o.front) (ts ++ terms_of o.back) (subst (AllByRecursion P) is (entries_compose (terms_of es))))

-- the row of an entry that was opened
pub opened_row : (es : List Entry) (i f : ℕ) (o : IsOpened es i f) → slice_get (rows es) i ≡ Some (Some (node o.op o.operands))
opened_row es i f o =
    let ps = part_entries o.op o.keys_made i 0 (drop (keys o.op) (list_of o.operands)) ++ o.back in
    ap (λ l. slice_get (rows l) i) o.lies ∙ ap (λ rs. slice_get rs i) (rows_append o.front ps) ∙ row_later (rows o.front) (terms_of ps) i _ o.own

-- the keys with which an entry was opened are small
keys_small : {fs : List ℕ} {k : ℕ} {o : Op} {j : ℕ} {ks : List Tree} (es : List Entry) (i : ℕ) (p : IsPartOf es fs k o j ks i) (us : Trees) → slice_get (terms_of es) i ≡ Some (node o us) → EachSmall ks (take (keys o) (list_of us))
keys_small {o = o} {ks = ks} es i p us own =
    let n = p.opened in
    let at = row_term (terms_of es) i (node n.op n.operands) (opened_row es i p.first n) in
    let same : n.operands ≡ us = cc in
    let made : mades_for (rows n.front) (trees_of (take (keys o) (list_of us))) ≡ Some (trees_of ks) = rw (← p.op_is, ← p.keys_are, ← same) n.made in
    rw (← list_of-trees_of ks, ← list_of-trees_of (take (keys o) (list_of us))) (mades_each (rows n.front) (trees_of (take (keys o) (list_of us))) (trees_of ks) made)

module _ (es : List Entry) (fs : List ℕ) (rest : IsRest es fs) where
  Parts : Op → Trees → Type 0
  Parts o us = AllByRecursion (Composes (seen (rows es))) (drop (keys o) (list_of us))

  by_first : (i f : ℕ) (o : Op) (us ms : Trees) → slice_get (rows es) i ≡ Some (Some (node o us)) → IsTrue (undoable o) → keys o < length (list_of us) → keys_for es o us ≡ Some ms → slice_get fs i ≡ Some f → Parts o us
  unfolding Parts
  by_first i zero o us ms row can some made at = let no = rest.shut i o us (record { own = row; can = can; some_part = some; closed = at }) in cc
  by_first i (suc f) o us ms row can some made at =
      let n = rest.grown.opened i (suc f) at (omega arith) in
      let own = opened_row es i (suc f) n in
      let a : n.op ≡ o = cc in
      let b : n.operands ≡ us = cc in
      let P : Op → Trees → Type 0 = λ p xs. AllByRecursion (Composes (seen (rows es))) (drop (keys p) (list_of xs)) in
      subst (P o) b (subst (λ p. P p n.operands) a (opened_terms es i (suc f) n))

  by_parts : (c : Bool) (i : ℕ) (o : Op) (us ms : Trees) → ltb (keys o) (length (list_of us)) ≡ c → slice_get (rows es) i ≡ Some (Some (node o us)) → IsTrue (undoable o) → keys_for es o us ≡ Some ms → Parts o us
  unfolding Parts
  by_parts false i o us ms is row can made = let none = drop_all (keys o) (list_of us) (ltb-false _ _ is) in subst (AllByRecursion (Composes (seen (rows es)))) (sym none) tt
  by_parts true i o us ms is row can made =
      let h : i < length fs = omega (arith, got_within (rows es) i _ row, rows_length es, rest.grown.long) in
      by_first i (get_or fs i 0) o us ms row can (ltb-true _ _ is) made (slice_get-get_or fs i 0 h)

  first_opened : (i f : ℕ) (o : Op) (us ms : Trees) → slice_get (rows es) i ≡ Some (Some (node o us)) → IsTrue (undoable o) → keys o < length (list_of us) → keys_for es o us ≡ Some ms → slice_get fs i ≡ Some f → (g : ℕ) × IsOpened es i g
  first_opened i zero o us ms row can some made at = let no = rest.shut i o us (record { own = row; can = can; some_part = some; closed = at }) in cc
  first_opened i (suc f) o us ms row can some made at = (suc f, rest.grown.opened i (suc f) at (omega arith))

  opened_at : (i : ℕ) (o : Op) (us ms : Trees) → slice_get (rows es) i ≡ Some (Some (node o us)) → IsTrue (undoable o) → keys o < length (list_of us) → keys_for es o us ≡ Some ms → (f : ℕ) × IsOpened es i f
  opened_at i o us ms row can some made =
      let h : i < length fs = omega (arith, got_within (rows es) i _ row, rows_length es, rest.grown.long) in
      first_opened i (get_or fs i 0) o us ms row can some made (slice_get-get_or fs i 0 h)

  pub closed : IsClosed (seen (rows es))
  unfolding Parts
  closed o us among can hk =
      let r = row_among (rows es) (node o us) among in
      let m = compose_mades (rows es) (trees_of (take (keys o) (list_of us))) (from_all (seen (rows es)) (take (keys o) (list_of us)) hk) in
      by_parts (ltb (keys o) (length (list_of us))) r.0 o us m.0 refl r.1 can m.1

  pub known : nodes (labels_of es) < 4294967295 → IsKnown es
  known bounded = record {
    follow = rest.grown.follow;
    formed = rest.grown.formed;
    closed = closed;
    opened = opened_at;
    firsts = fs;
    parted = rest.grown.parted;
    small = λ k e o j ks i us at is own. keys_small es i (rest.grown.parted k e o j ks i at is) us own;
    few = grown_few es fs rest.grown;
    bounded = bounded;
  }
