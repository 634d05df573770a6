use Rattle.std.proofs.Common.{◌≡◌, ◌+◌, ◌++◌, ◌∷◌, [], ℕ, List, map, take, sym, ap, ◌∙◌, subst, arith}
use Rattle.std.proofs.lemmas.List.{take_all}
use Rattle.anb_term.proofs.Lists.{slice_get-at}
use Rattle.anb_plays.specs.Codes.{Work}
use Rattle.anb_certify.specs.declared.works.Done.{Done}
use Rattle.anb_certify.specs.Numbered.{AreKnown}
use Rattle.anb_certify.specs.Works.{did_of, work_of}
use Rattle.anb_certify.proofs.Grouping.{did_there}
use Rattle.anb_certify.proofs.Placing.{map_next}
use Rattle.anb_certify.proofs.rules.known.Goals as goal

pub learn-requires-clause-told : goal.learn-requires-clause-told
learn-requires-clause-told c =
    let d = c.d-item.result in
    let there = did_there c.args.done.now c.loop-d.d-index d (slice_get-at c.args.done.now c.loop-d.d-index d c.loop-d-test.true c.d-item.is) in
    (c.requires.told.0, c.requires.told.1, c.requires.told.2 d.at (work_of d.job) there)

pub loop-d-preserved : goal.loop-d-preserved
loop-d-preserved c =
    let d = c.d-item.result in
    let done = c.args.done.now in
    let i = c.loop-d.d-index in
    let seen = map did_of (take i done) in
    let next : map did_of (take (i + 1) done) ≡ seen ++ did_of d ∷ [] = map_next did_of done i d c.loop-d-test.true ∙ ap (λ (x : Done). seen ++ did_of x ∷ []) (sym c.d-item.is) in
    let K : List (ℕ × Work) → Type 0 = λ l. AreKnown l c.args.names.now c.learn.new.flags.items in
    record { long = c.learn.ensures.long ∙ c.loop-d.invariant.long; known = subst K (sym next) (c.learn.ensures.known seen c.loop-d.invariant.known) }

pub returns-clause-known : goal.returns-clause-known
returns-clause-known c =
    let K : List (ℕ × Work) → Type 0 = λ l. AreKnown l c.args.names.now c.loop-d.flags.items in
    subst K (ap (map did_of) (take_all c.loop-d.d-index c.args.done.now (omega (arith, c.loop-d.auto.d-index-end, c.loop-d-test.false)))) c.loop-d.invariant.known
