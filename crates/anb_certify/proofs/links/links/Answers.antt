use Rattle.std.proofs.Common.{◌≡◌, ◌++◌, ◌∷◌, [], ℕ, List, length, map, take, sym, ap, ◌∙◌, subst, arith}
use Rattle.std.proofs.lemmas.List.{length-map, take_all}
use Rattle.anb_term.specs.Tree.{leaf}
use Rattle.anb_term.proofs.Lists.{slice_get-at}
use Rattle.anb_plays.specs.Codes.{Work}
use Rattle.anb_certify.specs.declared.links.Pair.{Pair}
use Rattle.anb_certify.specs.declared.works.Done.{Done}
use Rattle.anb_certify.specs.Works.{did_of, work_of}
use Rattle.anb_certify.specs.Falling.{LinkApart}
use Rattle.anb_certify.specs.Links.{AreLinked, IsToLink}
use Rattle.anb_certify.specs.Signs.{signs_in}
use Rattle.anb_certify.proofs.Grouping.{did_there}
use Rattle.anb_certify.proofs.Linking.{nothing_left, start_linked}
use Rattle.anb_certify.proofs.Placing.{map_next}
use Rattle.anb_certify.proofs.links.links.Goals as goal

pub loop-d-init : goal.loop-d-init
loop-d-init c =
    let cs = c.args.names.now in
    let made = c.in_ok-made.ensures in
    let undone = c.in_ok-undone.ensures in
    let P : List Pair → Type 0 = λ l. AreLinked (map did_of c.args.done.now) [] cs (signs_in c.in_ok-made.made) (signs_in c.in_ok-undone.undone) l in
    record {
      made = (made.signs, ap length made.classes ∙ length-map cs leaf);
      undone = (undone.signs, ap length undone.classes ∙ length-map cs leaf);
      linked = subst P (sym c.new-links.ensures.items) (start_linked (map did_of c.args.done.now) cs (signs_in c.in_ok-made.made) (signs_in c.in_ok-undone.undone) made.classes undone.classes made.none undone.none);
      apart = subst (LinkApart cs) (sym c.new-links.ensures.items) tt;
    }

pub link-requires-clause-to_link : goal.link-requires-clause-to_link
link-requires-clause-to_link c =
    let d = c.d-item.result in
    let i = c.loop-d.d-index in (
      map did_of c.args.done.now,
      map did_of (take i c.args.done.now),
      record {
        terms = c.requires.told.0;
        long = c.requires.told.1;
        told = c.requires.told.2;
        named = c.requires.named;
        done = did_there c.args.done.now i d (slice_get-at c.args.done.now i d c.loop-d-test.true c.d-item.is);
      },
      c.loop-d.invariant.linked,
    )

pub loop-d-preserved : goal.loop-d-preserved
loop-d-preserved c =
    let d = c.d-item.result in
    let i = c.loop-d.d-index in
    let did = map did_of c.args.done.now in
    let to_link : IsToLink did c.args.names.now d.at (work_of d.job) = record {
      terms = c.requires.told.0;
      long = c.requires.told.1;
      told = c.requires.told.2;
      named = c.requires.named;
      done = did_there c.args.done.now i d (slice_get-at c.args.done.now i d c.loop-d-test.true c.d-item.is);
    } in
    let next = map_next did_of c.args.done.now i d c.loop-d-test.true ∙ ap (λ (x : Done). map did_of (take i c.args.done.now) ++ did_of x ∷ []) (sym c.d-item.is) in
    let P : List (ℕ × Work) → Type 0 = λ l. AreLinked did l c.args.names.now (signs_in c.link.new.made) (signs_in c.link.new.undone) c.link.new.links.items in
    record {
      made = c.in_ok-link.ensures.made;
      undone = c.in_ok-link.ensures.undone;
      linked = subst P (sym next) (c.in_ok-link.ensures.linked did (map did_of (take i c.args.done.now)) to_link c.loop-d.invariant.linked);
      apart = c.in_ok-link.ensures.apart c.loop-d.invariant.apart;
    }

pub returns-clause-none : goal.returns-clause-none
returns-clause-none c e =
    let did = map did_of c.args.done.now in
    let all : map did_of (take c.loop-d.d-index c.args.done.now) ≡ did = ap (map did_of) (take_all c.loop-d.d-index c.args.done.now (omega (arith, c.loop-d.auto.d-index-end, c.loop-d-test.false))) in
    let P : List (ℕ × Work) → Type 0 = λ l. AreLinked did l c.args.names.now (signs_in c.loop-d.made) (signs_in c.loop-d.undone) c.loop-d.links.items in
    nothing_left did c.args.names.now (signs_in c.loop-d.made) (signs_in c.loop-d.undone) c.loop-d.links.items (subst P all c.loop-d.invariant.linked) e
