-- The root that stands later gets the other as its parent.
use Rattle.std.proofs.Common.{◌≡◌, sym}
use Rattle.anb_unify.proofs.Linking.{linked_classes, linked_back, linked_same, linked_on, linked_closed, like_sym, same_back}
use Rattle.anb_unify.proofs.classes.link.Goals as goal

pub returns-then-stands_first-clause-linked : goal.returns-then-stands_first-clause-linked
returns-then-stands_first-clause-linked c =
    let names = c.args.names in
    let ts = c.args.pool.now in
    let ps = c.args.parents.now.items in
    let lo = c.args.one in
    let hi = c.args.other in
    let before = c.stands_first.ensures.first c.if-stands_first.true in
    record {
      back = linked_back names ts ps c.requires.classes lo hi c.requires.one_root c.requires.other_root before c.requires.apart;
      same = λ f h. same_back ts f hi.0 lo.0 (linked_same names ts ps c.requires.classes lo hi c.requires.one_root c.requires.other_root before c.requires.apart f h);
      on = λ f h s. linked_on names ts ps c.requires.classes lo hi c.requires.one_root c.requires.other_root before c.requires.apart f h (same_back ts f lo.0 hi.0 s);
      closed = λ f h like closed. linked_closed names ts ps c.requires.classes lo hi c.requires.one_root c.requires.other_root before c.requires.apart f h (λ t u a b p q. like_sym f u t (like u t b a q p)) closed;
    }

pub returns-else-stands_first-clause-classes : goal.returns-else-stands_first-clause-classes
returns-else-stands_first-clause-classes c =
    let before = c.stands_first.ensures.other c.if-stands_first.false in
    linked_classes c.args.names c.args.pool.now c.args.parents.now.items c.requires.classes c.args.other c.args.one c.requires.other_root c.requires.one_root before (λ e. c.requires.apart (sym e))

pub returns-else-stands_first-clause-linked : goal.returns-else-stands_first-clause-linked
returns-else-stands_first-clause-linked c =
    let names = c.args.names in
    let ts = c.args.pool.now in
    let ps = c.args.parents.now.items in
    let lo = c.args.other in
    let hi = c.args.one in
    let before = c.stands_first.ensures.other c.if-stands_first.false in
    let apart = λ (e : lo.0 ≡ hi.0). c.requires.apart (sym e) in
    record {
      back = linked_back names ts ps c.requires.classes lo hi c.requires.other_root c.requires.one_root before apart;
      same = linked_same names ts ps c.requires.classes lo hi c.requires.other_root c.requires.one_root before apart;
      on = linked_on names ts ps c.requires.classes lo hi c.requires.other_root c.requires.one_root before apart;
      closed = linked_closed names ts ps c.requires.classes lo hi c.requires.other_root c.requires.one_root before apart;
    }
