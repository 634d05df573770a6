-- Values differ where only operators stand above that can be undone.
use Rattle.std.proofs.Common.{◌≡◌, ℕ, zero, suc, List, [], ◌∷◌, ◌++◌, length, map, Bool, true, false, IsTrue, Some, refl, sym, ap, ◌∙◌, subst, inl, inr}
use Rattle.std.specs.Prelude.{slice_get}
use Rattle.std.proofs.lemmas.List.{length-map}
use Rattle.anb_term.specs.declared.term.Op.{Op}
use Rattle.anb_term.specs.Operator.{arity, keys, undoable}
use Rattle.anb_term.specs.Tree.{Tree, node, trees_of, IsFormed, AreFormed}
use Rattle.anb_term.specs.TreeSame.{list_of-trees_of}
use Rattle.anb_term.specs.Lawful.{Lawful, AreValues}
use Rattle.anb_term.specs.Value.{Meaning}
use Rattle.anb_term.proofs.Lists.{map-append, slice_get-map}
use Rattle.anb_plays.specs.Honest.{honest, honest_all}
use Rattle.anb_plays.specs.Statements.{HonestAgree}
use Rattle.anb_probe.specs.Cases.{DifferAt}
use Rattle.anb_probe.specs.Laws.{StopsThere, DiffersInPlace}

module _ {A : Type 0} (m : Meaning A) (lawful : Lawful m) (agrees : HonestAgree m) (atoms : ℕ → A) (good : (n : ℕ) → IsTrue (m.is_value (atoms n))) where
  abbrev of : Tree → A
  of t = honest m atoms t

  each_of : (ts : List Tree) → honest_all m atoms (trees_of ts) ≡ map of ts
  each_of [] = refl
  each_of (t ∷ ts) = ap (λ l. of t ∷ l) (each_of ts)

  are_values : (ts : List Tree) → AreFormed m.has (trees_of ts) → AreValues m (map of ts)
  are_values ts f = (agrees atoms ts good f).0

  parts_formed : (ks ps : List Tree) → AreFormed m.has (trees_of (ks ++ ps)) → AreFormed m.has (trees_of ks) × AreFormed m.has (trees_of ps)
  parts_formed [] ps f = (tt, f)
  parts_formed (k ∷ ks) ps f = let h = parts_formed ks ps f.1 in ((f.0, h.0), h.1)

  item_formed : (ts : List Tree) (i : ℕ) (t : Tree) → AreFormed m.has (trees_of ts) → slice_get ts i ≡ Some t → IsFormed m.has t
  item_formed [] i t f e = cc
  item_formed (x ∷ ts) zero t f e = let s : x ≡ t = cc in subst (IsFormed m.has) s f.0
  item_formed (x ∷ ts) (suc i) t f e = item_formed ts i t f.1 e

  -- the parts come back from the value
  undone : (o : Op) (ks ps : List Tree) → IsTrue (undoable o) → length ks ≡ keys o → IsFormed m.has (node o (trees_of (ks ++ ps))) → m.undone o (map of ks) (of (node o (trees_of (ks ++ ps)))) ≡ Some (map of ps)
  undone o ks ps can count f =
      let long : length (ks ++ ps) ≡ arity o = sym (ap length (list_of-trees_of (ks ++ ps))) ∙ f.1 in
      let split : map of (ks ++ ps) ≡ map of ks ++ map of ps = map-append of ks ps in
      let parts = parts_formed ks ps f.2 in
      let whole : length (map of ks ++ map of ps) ≡ arity o = sym (ap length split) ∙ length-map (ks ++ ps) of ∙ long in
      let built : of (node o (trees_of (ks ++ ps))) ≡ m.built o (map of ks ++ map of ps) = ap (m.built o) (each_of (ks ++ ps) ∙ split) in
      ap (m.undone o (map of ks)) built ∙ lawful.undone_of o (map of ks) (map of ps) can f.0 (length-map ks of ∙ count) whole (are_values ks parts.0) (are_values ps parts.1)

  -- so values that are one have one part at each place
  pub apart : (spare : ℕ) (wrong : Tree) (place : List ℕ) (one other : Tree) → IsFormed m.has one → IsFormed m.has other → DifferAt spare wrong place one other → of one ≡ of other → atoms spare ≡ of wrong
  apart spare wrong [] one other f g (inl d) e = ap of (sym d.0) ∙ e ∙ ap of d.1
  apart spare wrong [] one other f g (inr d) e = ap of (sym d.1) ∙ sym e ∙ ap of d.0
  apart spare wrong (i ∷ place) one other f g d e =
      let b = d.2 in
      let f' : IsFormed m.has (node b.op (trees_of (b.keyed ++ b.ones))) = subst (IsFormed m.has) b.one_is f in
      let g' : IsFormed m.has (node b.op (trees_of (b.keyed ++ b.others))) = subst (IsFormed m.has) b.other_is g in
      let u = undone b.op b.keyed b.ones b.can b.count f' in
      let v = undone b.op b.keyed b.others b.can b.count g' in
      let same : of (node b.op (trees_of (b.keyed ++ b.ones))) ≡ of (node b.op (trees_of (b.keyed ++ b.others))) = ap of (sym b.one_is) ∙ e ∙ ap of b.other_is in
      let parts : Some (map of b.ones) ≡ Some (map of b.others) = sym u ∙ ap (m.undone b.op (map of b.keyed)) same ∙ v in
      let lists : map of b.ones ≡ map of b.others = cc in
      let p : slice_get (map of b.ones) i ≡ Some (of d.0) = slice_get-map of b.ones i d.0 b.one_here in
      let q : slice_get (map of b.others) i ≡ Some (of d.1) = slice_get-map of b.others i d.1 b.other_here in
      let both : Some (of d.0) ≡ Some (of d.1) = sym p ∙ ap (λ l. slice_get l i) lists ∙ q in
      let here : of d.0 ≡ of d.1 = cc in
      apart spare wrong place d.0 d.1 (item_formed b.ones i d.0 (parts_formed b.keyed b.ones f'.2).1 b.one_here) (item_formed b.others i d.1 (parts_formed b.keyed b.others g'.2).1 b.other_here) d.3 here

  pub not_same : (spare : ℕ) (wrong one other : Tree) (b : Bool) → m.same (of one) (of other) ≡ b → (of one ≡ of other → atoms spare ≡ of wrong) → m.same (atoms spare) (of wrong) ≡ false → m.same (of one) (of other) ≡ false
  not_same spare wrong one other false e f n = e
  not_same spare wrong one other true e f n =
      let s = f (lawful.tells (of one) (of other) e) in
      let t : m.same (atoms spare) (of wrong) ≡ true = ap (λ x. m.same x (of wrong)) s ∙ lawful.itself (of wrong) in
      absurd (cc)

pub differs_in_place : {A : Type 0} (m : Meaning A) → Lawful m → HonestAgree m → StopsThere m → DiffersInPlace m
differs_in_place m lawful agrees stops names plan code check case place atoms draw is follows formed values differ wrong =
    let told = stops names plan code check case atoms draw is follows formed values in
    let one = case.sides.one in
    let other = case.sides.other in
    told.differ (not_same m lawful agrees atoms values.values names case.wrong one other (m.same (honest m atoms one) (honest m atoms other)) refl
    (apart m lawful agrees atoms values.values names case.wrong place one other is.formed.0 is.formed.1.0 differ) wrong)
