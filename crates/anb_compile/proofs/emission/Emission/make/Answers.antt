use Rattle.std.proofs.Common.{◌+◌, [], ◌∷◌, ◌++◌, refl, ap, ◌∙◌, arith}
use Rattle.anb_term.specs.View.{tree_of}
use Rattle.anb_plays.specs.Plans.{fresh}
use Rattle.anb_plays.specs.Codes.{draws}
use Rattle.anb_code.specs.declared.instr.Instr.TheVariants.{Fresh}
use Rattle.anb_protocol.specs.Plans.{to_make}
use Rattle.anb_code.specs.Taking.{take_texts}
use Rattle.anb_compile.proofs.Writing.{texts_put}
use Rattle.anb_compile.proofs.Doing.{heard_labelled, plan_on, message_fits}
use Rattle.anb_compile.proofs.emission.Emission.make.Goals as goal

pub learn-requires : goal.learn-requires
learn-requires c = (to_make (tree_of c.args.term.now), refl, refl, c.requires)

pub put_label-requires : goal.put_label-requires
put_label-requires c =
    let r = c.requires in
    let l = c.in_ok-first.ensures in
    let most = message_fits r.0 r.1 r.2 (to_make (tree_of c.args.term.now)) c.args.self.now r.3 r.4 l.before.few in
    omega (arith, most, ap (λ q. q.next) l.writer)

pub check_from-requires : goal.check_from-requires
check_from-requires c =
    let r = c.requires in
    let x = c.args.self.now in
    let t = c.args.term.now in
    let e = to_make (tree_of t) in
    let l = c.in_ok-first.ensures in
    let p = c.in_ok-put_label.ensures in
    let mid = c.learn.new.self in
    let w = c.put_label.new.self in (
      r.0,
      r.1 ++ e ∷ [],
      r.2,
      plan_on r.0 r.1 r.2 e r.3,
      heard_labelled r.0 r.1 r.2 e r.3 x r.4 l.before mid.basis.0 mid.basis.1 t l.entries l.added l.order refl w c.in_ok-first.first _ Fresh draws (fresh (tree_of t)) tt
          (p.code ∙ ap (λ q. q.code.items ++ Fresh ∷ []) l.writer) (p.next ∙ ap (λ q. q.next + 1) l.writer) (p.places ∙ ap (λ q. q.places.items ++ q.next ∷ []) l.writer) (p.built ∙ ap (λ q. q.built) l.writer)
          refl refl refl refl refl refl l.known l.first,
    )

pub returns-clause-does : goal.returns-clause-does
returns-clause-does c k before after plan done =
    let x = c.args.self.now in
    let t = c.args.term.now in
    let e = to_make (tree_of t) in
    let l = c.in_ok-first.ensures in
    let p = c.in_ok-put_label.ensures in
    let mid = c.learn.new.self in
    let w = c.put_label.new.self in
    c.in_ok-check_from.ensures.done k (before ++ e ∷ []) after (plan_on k before after e plan)
    (heard_labelled k before after e plan x done l.before mid.basis.0 mid.basis.1 t l.entries l.added l.order refl w c.in_ok-first.first _ Fresh draws (fresh (tree_of t)) tt
    (p.code ∙ ap (λ q. q.code.items ++ Fresh ∷ []) l.writer) (p.next ∙ ap (λ q. q.next + 1) l.writer) (p.places ∙ ap (λ q. q.places.items ++ q.next ∷ []) l.writer) (p.built ∙ ap (λ q. q.built) l.writer)
    refl refl refl refl refl refl l.known l.first)

pub returns-clause-texts : goal.returns-clause-texts
returns-clause-texts c =
    c.in_ok-check_from.ensures.texts ∙ texts_put c.learn.new.self.writer.code.items c.put_label.new.self.code.items Fresh c.in_ok-put_label.ensures.code refl ∙ ap (λ q. take_texts q.code.items) c.in_ok-first.ensures.writer
