use Rattle.std.proofs.Common.{◌≡◌, ℕ, ◌+◌, ◌<◌, ◌≤◌, take_all, List, [], ◌∷◌, ◌++◌, length, map, take, Some, sym, ap, ◌∙◌, subst, arith, length-append}
use Rattle.std.specs.Prelude.{slice_get}
use Rattle.anb_term.specs.Tree.{Tree, trees_of, tree_size, trees_size}
use Rattle.anb_term.specs.TreeSame.{list_of-trees_of}
use Rattle.anb_term.proofs.Lists.{slice_get-at, slice_get-map, map-take}
use Rattle.anb_close.specs.declared.made.Made.{Made}
use Rattle.anb_close.specs.MadeView.{made_tree}
use Rattle.anb_compile.specs.Writing.{IsOver, Composes, ComposesEach}
use Rattle.anb_compile.specs.Verifying.{GrowsBy, Lays, LaysEach}
use Rattle.anb_compile.proofs.Lists.{map_taken}
use Rattle.anb_compile.specs.Once.{Shares, SharesEach}
use Rattle.anb_compile.proofs.Sharing.{entry_shares, more_share, built_shares, builds_stay}
use Rattle.anb_compile.proofs.Laying.{entry_lays, more_lay, built_lays, builds_grow, sizes_at, sizes_more, grows_on}
use Rattle.anb_compile.proofs.Writing.{over_at, size_at, entry_composes, more_compose, built_composes, builds_texts}
use Rattle.anb_compile.proofs.writer.Writer.+compose.Goals as goal

pub compose-build-requires-clause-count : goal.compose-build-requires-clause-count
compose-build-requires-clause-count t c =
    let o = c.in-Build.op in
    let ms = c.in-Build.operands in
    let over = subst (λ u. IsOver c.requires.over.0 (length c.args.self.now.places.items) (made_tree u)) c.in-Build.is c.requires.over.1 in
    c.in_ok-at-in-Build.ensures.count ∙ sym (ap length (list_of-trees_of ms)) ∙ over.1

pub compose-returns-in-Entry-clause-composes : goal.compose-returns-in-Entry-clause-composes
compose-returns-in-Entry-clause-composes t c =
    let w = c.args.self.now in
    let n = c.in-Entry.n in
    let over : n < length w.places.items = subst (λ u. IsOver c.requires.over.0 (length w.places.items) (made_tree u)) c.in-Entry.is c.requires.over.1 in
    let P : Made → Type 0 = λ u. Composes w w (made_tree u) c.index.result.now in
    subst P (sym c.in-Entry.is) (entry_composes w n c.index.result.now (slice_get-at w.places.items n c.index.result.now over c.index.ensures))

pub compose-returns-in_ok-register-in-Build-clause-texts : goal.compose-returns-in_ok-register-in-Build-clause-texts
compose-returns-in_ok-register-in-Build-clause-texts t c =
    builds_texts c.compose_all.new.self c.build.new.self c.in-Build.op c.in_ok-at-in-Build.at.items c.in_ok-register-in-Build.register c.in_ok-register-in-Build.ensures.builds ∙ c.in_ok-at-in-Build.ensures.texts

pub compose-returns-in_ok-register-in-Build-clause-composes : goal.compose-returns-in_ok-register-in-Build-clause-composes
compose-returns-in_ok-register-in-Build-clause-composes t c =
    let new = c.build.new.self in
    let r = c.in_ok-register-in-Build.register in
    let P : Made → Type 0 = λ u. Composes c.args.self.now new (made_tree u) r in
    subst P (sym c.in-Build.is) (built_composes c.args.self.now c.compose_all.new.self new c.in-Build.op c.in-Build.operands c.in_ok-at-in-Build.at.items r
    c.in_ok-at-in-Build.ensures.compose c.in_ok-register-in-Build.ensures.builds)

pub compose-returns-in-Entry-clause-lays : goal.compose-returns-in-Entry-clause-lays
compose-returns-in-Entry-clause-lays t c =
    let w = c.args.self.now in
    let n = c.in-Entry.n in
    let over : n < length w.places.items = subst (λ u. IsOver c.requires.over.0 (length w.places.items) (made_tree u)) c.in-Entry.is c.requires.over.1 in
    let P : Made → Type 0 = λ u. Lays w w (made_tree u) c.index.result.now in
    subst P (sym c.in-Entry.is) (entry_lays w n c.index.result.now (slice_get-at w.places.items n c.index.result.now over c.index.ensures))

pub compose-returns-in_ok-register-in-Build-clause-lays : goal.compose-returns-in_ok-register-in-Build-clause-lays
compose-returns-in_ok-register-in-Build-clause-lays t c =
    let new = c.build.new.self in
    let r = c.in_ok-register-in-Build.register in
    let P : Made → Type 0 = λ u. Lays c.args.self.now new (made_tree u) r in
    subst P (sym c.in-Build.is) (built_lays c.args.self.now c.compose_all.new.self new c.in-Build.op c.in-Build.operands c.in_ok-at-in-Build.at.items r
    c.in_ok-at-in-Build.ensures.lay c.in_ok-register-in-Build.ensures.builds)

pub compose-returns-in-Entry-clause-shares : goal.compose-returns-in-Entry-clause-shares
compose-returns-in-Entry-clause-shares t c =
    let w = c.args.self.now in
    let n = c.in-Entry.n in
    let over : n < length w.places.items = subst (λ u. IsOver c.requires.over.0 (length w.places.items) (made_tree u)) c.in-Entry.is c.requires.over.1 in
    let P : Made → Type 0 = λ u. Shares w w (made_tree u) c.index.result.now in
    subst P (sym c.in-Entry.is) (entry_shares w n c.index.result.now (slice_get-at w.places.items n c.index.result.now over c.index.ensures))

pub compose-returns-in_ok-register-in-Build-clause-shares : goal.compose-returns-in_ok-register-in-Build-clause-shares
compose-returns-in_ok-register-in-Build-clause-shares t c =
    let new = c.build.new.self in
    let r = c.in_ok-register-in-Build.register in
    let P : Made → Type 0 = λ u. Shares c.args.self.now new (made_tree u) r in
    subst P (sym c.in-Build.is) (built_shares c.args.self.now c.compose_all.new.self new c.in-Build.op c.in-Build.operands c.in_ok-at-in-Build.at.items r
    c.in_ok-at-in-Build.ensures.share c.in_ok-register-in-Build.ensures.builds)

pub compose-returns-in_ok-register-in-Build-clause-stays : goal.compose-returns-in_ok-register-in-Build-clause-stays
compose-returns-in_ok-register-in-Build-clause-stays t c q s e =
    builds_stay c.compose_all.new.self c.build.new.self c.in-Build.op c.in_ok-at-in-Build.at.items c.in_ok-register-in-Build.register c.in_ok-register-in-Build.ensures.builds q s (c.in_ok-at-in-Build.ensures.stays q s e)

pub compose-returns-in_ok-register-in-Build-clause-grows : goal.compose-returns-in_ok-register-in-Build-clause-grows
compose-returns-in_ok-register-in-Build-clause-grows t c =
    let ms = c.in-Build.operands in
    let grow = builds_grow c.compose_all.new.self c.build.new.self c.in-Build.op c.in_ok-at-in-Build.at.items c.in_ok-register-in-Build.register c.in_ok-register-in-Build.ensures.builds in
    let P : Made → Type 0 = λ u. GrowsBy c.args.self.now c.build.new.self (tree_size (made_tree u)) in
    subst P (sym c.in-Build.is) (grows_on c.args.self.now c.compose_all.new.self c.build.new.self (trees_size (trees_of ms)) 1 _ c.in_ok-at-in-Build.ensures.grows grow (omega arith))

pub compose_all-compose-requires : goal.compose_all-compose-requires
compose_all-compose-requires t c =
    let x = c.m-item.result in
    let i = c.loop-m.m-index in
    let items = c.as_slice-m-items.result.now in
    let now = c.loop-m.self in
    let has = c.requires.over.0 in
    let here : slice_get c.args.made.now i ≡ Some (made_tree x) =
    subst (λ l. slice_get l i ≡ Some (made_tree x)) c.as_slice-m-items.ensures (slice_get-map made_tree items i x (slice_get-at items i x (omega arith) c.m-item.is)) in
    let over = over_at has (length c.args.self.now.places.items) c.args.made.now i (made_tree x) c.requires.over.1 here in
    let P : ℕ → Type 0 = λ k. IsOver has k (made_tree x) in
    let size : tree_size (made_tree x) ≤ trees_size (trees_of c.args.made.now) = size_at c.args.made.now i (made_tree x) here in
    let v = c.loop-m.invariant in
    let before = sizes_at c.args.made.now i (made_tree x) here in
    let so_far : trees_size (trees_of (take i c.args.made.now)) ≡ trees_size (trees_of (map made_tree (take i items))) = ap (λ l. trees_size (trees_of (take i l))) (sym c.as_slice-m-items.ensures) ∙ ap (λ l. trees_size (trees_of l)) (sym (map-take made_tree i items)) in
    let grown = v.grows.registers in
    let room = c.requires.room in
    (omega (arith, size, c.decreases), ((has, subst P (sym (ap (λ p. length p.items) v.places)) over), omega (arith, before, so_far, grown, room)))

pub compose_all-loop-m-preserved : goal.compose_all-loop-m-preserved
compose_all-loop-m-preserved t c =
    let x = c.m-item.result in
    let i = c.loop-m.m-index in
    let items = c.as_slice-m-items.result.now in
    let v = c.loop-m.invariant in
    let e = c.in_ok-compose.ensures in
    let more = more_compose c.args.self.now c.loop-m.self c.compose.new.self (map made_tree (take i items)) c.loop-m.at.items (made_tree x) c.in_ok-compose.field-0 v.compose v.places e.composes in
    let share = more_share c.args.self.now c.loop-m.self c.compose.new.self (map made_tree (take i items)) c.loop-m.at.items (made_tree x) c.in_ok-compose.field-0 v.share e.shares e.places e.stays in
    let lay = more_lay c.args.self.now c.loop-m.self c.compose.new.self (map made_tree (take i items)) c.loop-m.at.items (made_tree x) c.in_ok-compose.field-0 v.lay v.places e.lays in
    let on = map_taken made_tree items i x (omega arith) c.m-item.is in
    let R : List Tree → Type 0 = λ l. LaysEach c.args.self.now c.compose.new.self l (c.loop-m.at.items ++ c.in_ok-compose.field-0 ∷ []) in
    let S : List ℕ → Type 0 = λ l. LaysEach c.args.self.now c.compose.new.self (map made_tree (take (i + 1) items)) l in
    let T : List Tree → Type 0 = λ l. SharesEach c.args.self.now c.compose.new.self l (c.loop-m.at.items ++ c.in_ok-compose.field-0 ∷ []) in
    let U : List ℕ → Type 0 = λ l. SharesEach c.args.self.now c.compose.new.self (map made_tree (take (i + 1) items)) l in
    let P : List Tree → Type 0 = λ l. ComposesEach c.args.self.now c.compose.new.self l (c.loop-m.at.items ++ c.in_ok-compose.field-0 ∷ []) in
    let Q : List ℕ → Type 0 = λ l. ComposesEach c.args.self.now c.compose.new.self (map made_tree (take (i + 1) items)) l in
    record {
      places = e.places ∙ v.places;
      texts = e.texts ∙ v.texts;
      count = ap length c.in_ok-push.ensures.items ∙ (let n = v.count in let l = length-append c.loop-m.at.items (c.in_ok-compose.field-0 ∷ []) in omega arith);
      compose = subst Q (sym c.in_ok-push.ensures.items) (subst P (sym on) more);
      lay = subst S (sym c.in_ok-push.ensures.items) (subst R (sym on) lay);
      share = subst U (sym c.in_ok-push.ensures.items) (subst T (sym on) share);
      stays = λ q r h. e.stays q r (v.stays q r h);
      grows = grows_on c.args.self.now c.loop-m.self c.compose.new.self (trees_size (trees_of (map made_tree (take i items)))) (tree_size (made_tree x)) _ v.grows e.grows
          (omega (arith, ap (λ l. trees_size (trees_of l)) on, sizes_more (map made_tree (take i items)) (made_tree x)));
    }

pub compose_all-returns-clause-compose : goal.compose_all-returns-clause-compose
compose_all-returns-clause-compose t c =
    let v = c.loop-m.invariant in
    let items = c.as_slice-m-items.result.now in
    let P : List Tree → Type 0 = λ l. ComposesEach c.args.self.now c.loop-m.self l c.loop-m.at.items in
    let Q : List Made → Type 0 = λ l. ComposesEach c.args.self.now c.loop-m.self (map made_tree l) c.loop-m.at.items in
    let whole : take c.loop-m.m-index items ≡ items = take_all c.loop-m.m-index items (omega arith) in
    subst P c.as_slice-m-items.ensures (subst Q whole v.compose)

pub compose_all-returns-clause-lay : goal.compose_all-returns-clause-lay
compose_all-returns-clause-lay t c =
    let v = c.loop-m.invariant in
    let items = c.as_slice-m-items.result.now in
    let P : List Tree → Type 0 = λ l. LaysEach c.args.self.now c.loop-m.self l c.loop-m.at.items in
    let Q : List Made → Type 0 = λ l. LaysEach c.args.self.now c.loop-m.self (map made_tree l) c.loop-m.at.items in
    let whole : take c.loop-m.m-index items ≡ items = take_all c.loop-m.m-index items (omega arith) in
    subst P c.as_slice-m-items.ensures (subst Q whole v.lay)

pub compose_all-returns-clause-grows : goal.compose_all-returns-clause-grows
compose_all-returns-clause-grows t c =
    let v = c.loop-m.invariant in
    let items = c.as_slice-m-items.result.now in
    let P : List Tree → Type 0 = λ l. GrowsBy c.args.self.now c.loop-m.self (trees_size (trees_of l)) in
    let Q : List Made → Type 0 = λ l. GrowsBy c.args.self.now c.loop-m.self (trees_size (trees_of (map made_tree l))) in
    let whole : take c.loop-m.m-index items ≡ items = take_all c.loop-m.m-index items (omega arith) in
    subst P c.as_slice-m-items.ensures (subst Q whole v.grows)

pub compose_all-returns-clause-share : goal.compose_all-returns-clause-share
compose_all-returns-clause-share t c =
    let v = c.loop-m.invariant in
    let items = c.as_slice-m-items.result.now in
    let P : List Tree → Type 0 = λ l. SharesEach c.args.self.now c.loop-m.self l c.loop-m.at.items in
    let Q : List Made → Type 0 = λ l. SharesEach c.args.self.now c.loop-m.self (map made_tree l) c.loop-m.at.items in
    let whole : take c.loop-m.m-index items ≡ items = take_all c.loop-m.m-index items (omega arith) in
    subst P c.as_slice-m-items.ensures (subst Q whole v.share)
