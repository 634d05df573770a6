-- The two sides, as they were solved.
use Rattle.std.proofs.Common.{◌≡◌, ◌+◌, ℕ, List, map, Some, sym, ap, ◌∙◌}
use Rattle.std.specs.Prelude.{slice_get}
use Rattle.anb_term.specs.declared.term.Term.{Term}
use Rattle.anb_term.specs.View.{tree_of}
use Rattle.anb_term.proofs.Lists.{slice_get-map}
use Rattle.anb_suite.proofs.Found.{given_one, given_implied, given_case}
use Rattle.anb_suite.proofs.suite.finding.Goals as goal

-- a pattern that was got
got : (items other : List Term) (i : ℕ) (x : Term) → Some x ≡ slice_get other i → other ≡ items → slice_get (map tree_of items) i ≡ Some (tree_of x)
got items other i x e same = slice_get-map tree_of items i x (sym (e ∙ ap (λ (l : List Term). slice_get l i) same))

pub variable_apart-requires : goal.variable_apart-requires
variable_apart-requires c =
    let s = c.in_ok-solved.solved in
    let is = c.in_ok-solved.ensures.solved in
    let items = s.patterns.items in
    given_one c.args.p.now c.args.role c.args.code.now c.args.reading c.args.check is.a is.b is.compares s is.solved_is (tree_of c.nth-one.result.now) (tree_of c.nth-other.result.now)
    (got items c.deref.result.now s.count c.nth-one.result.now c.nth-one.ensures c.deref.ensures.value) (got items c.deref-2.result.now (s.count + 1) c.nth-other.result.now c.nth-other.ensures c.deref-2.ensures.value)

pub returns-in-None : goal.returns-in-None
returns-in-None c =
    let s = c.in_ok-solved.solved in
    let is = c.in_ok-solved.ensures.solved in
    let items = s.patterns.items in
    given_implied c.args.p.now c.args.role c.args.code.now c.args.reading c.args.check is.a is.b is.compares s is.solved_is (tree_of c.nth-one.result.now) (tree_of c.nth-other.result.now)
    (got items c.deref.result.now s.count c.nth-one.result.now c.nth-one.ensures c.deref.ensures.value) (got items c.deref-2.result.now (s.count + 1) c.nth-other.result.now c.nth-other.ensures c.deref-2.ensures.value)
    c.same_sides_are_implied.ensures c.in-None.ensures

pub returns : goal.returns
returns c =
    let s = c.in_ok-solved.solved in
    let is = c.in_ok-solved.ensures.solved in
    let items = s.patterns.items in
    given_case c.args.p.now c.args.role c.args.code.now c.args.reading c.args.check is.a is.b is.compares s is.solved_is (tree_of c.nth-one.result.now) (tree_of c.nth-other.result.now)
    (got items c.deref.result.now s.count c.nth-one.result.now c.nth-one.ensures c.deref.ensures.value) (got items c.deref-2.result.now (s.count + 1) c.nth-other.result.now c.nth-other.ensures c.deref-2.ensures.value)
    c.two_sides_make_a_case.ensures c.in-Some.v c.in-Some.ensures c.in_ok-case-in-Some.case c.in_ok-case-in-Some.ensures.check (c.in_ok-case-in-Some.ensures.event ∙ c.event_before-event.ensures) c.in_ok-case-in-Some.ensures.put
