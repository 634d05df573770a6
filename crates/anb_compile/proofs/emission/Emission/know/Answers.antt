use Rattle.std.proofs.Common.{◌≡◌, ◌+◌, [], ◌∷◌, ◌++◌, refl, ap, ◌∙◌, arith}
use Rattle.anb_term.specs.View.{tree_of}
use Rattle.anb_protocol.specs.Plans.{to_know}
use Rattle.anb_compile.proofs.Doing.{known_labelled, count_small, plan_on}
use Rattle.anb_compile.proofs.emission.Emission.know.Goals as goal

pub learn-requires : goal.learn-requires
learn-requires c = (to_know (tree_of c.args.term.now), refl, refl, c.requires)

pub overflow_add-self : goal.overflow_add-self
overflow_add-self c =
    let r = c.requires in
    omega (arith, count_small r.0 r.1 (to_know (tree_of c.args.term.now) ∷ r.2) c.args.self.now r.4 c.learn.ensures.before.known, c.learn.ensures.known)

pub check_from-requires : goal.check_from-requires
check_from-requires c =
    let r = c.requires in
    let x = c.args.self.now in
    let t = c.args.term.now in
    let e = to_know (tree_of t) in
    let l = c.in_ok-first.ensures in
    let p = c.in_ok-place.ensures in
    let mid = c.learn.new.self in
    let w = c.place.new.self in
    let places : w.places.items ≡ x.writer.places.items ++ x.known ∷ [] = p.places ∙ ap (λ q. q.places.items ++ mid.known ∷ []) l.writer ∙ ap (λ n. x.writer.places.items ++ n ∷ []) l.known in (
      r.0,
      r.1 ++ e ∷ [],
      r.2,
      plan_on r.0 r.1 r.2 e r.3,
      known_labelled r.0 r.1 r.2 e r.3 x r.4 l.before mid.basis.0 mid.basis.1 t l.entries l.added l.order refl (tree_of t) w (x.known + 1) c.in_ok-first.first _ refl
          (p.code ∙ ap (λ q. q.code) l.writer) (p.next ∙ ap (λ q. q.next) l.writer) places (p.built ∙ ap (λ q. q.built) l.writer) refl refl refl (ap (λ n. n + 1) l.known) l.first,
    )

pub returns-clause-does : goal.returns-clause-does
returns-clause-does c k before after plan done =
    let x = c.args.self.now in
    let t = c.args.term.now in
    let e = to_know (tree_of t) in
    let l = c.in_ok-first.ensures in
    let p = c.in_ok-place.ensures in
    let mid = c.learn.new.self in
    let w = c.place.new.self in
    let places : w.places.items ≡ x.writer.places.items ++ x.known ∷ [] = p.places ∙ ap (λ q. q.places.items ++ mid.known ∷ []) l.writer ∙ ap (λ n. x.writer.places.items ++ n ∷ []) l.known in
    c.in_ok-check_from.ensures.done k (before ++ e ∷ []) after (plan_on k before after e plan)
    (known_labelled k before after e plan x done l.before mid.basis.0 mid.basis.1 t l.entries l.added l.order refl (tree_of t) w (x.known + 1) c.in_ok-first.first _ refl
    (p.code ∙ ap (λ q. q.code) l.writer) (p.next ∙ ap (λ q. q.next) l.writer) places (p.built ∙ ap (λ q. q.built) l.writer) refl refl refl (ap (λ n. n + 1) l.known) l.first)
