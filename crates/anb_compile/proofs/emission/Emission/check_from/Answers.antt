use Rattle.std.proofs.Common.{◌≡◌, ◌+◌, ◌*◌, ◌≤◌, ◌∙◌, List, drop, length, length-drop, refl, sym, ap, subst, arith}
use Rattle.std.specs.List.{AllByRecursion}
use Rattle.anb_term.specs.Tree.{nodes}
use Rattle.anb_term.proofs.Lists.{all_drop}
use Rattle.anb_algebra.specs.ByteMeaning.{has_operator}
use Rattle.anb_close.specs.Recipes.{recipes}
use Rattle.anb_basis.specs.declared.check.Check.{Check}
use Rattle.anb_compile.specs.Writing.{AreChecksOf, Asks, count_all_opened}
use Rattle.anb_compile.specs.Verifying.{GrowsBy, LaysChecks, room_for}
use Rattle.anb_compile.specs.Once.{SharesChecks}
use Rattle.anb_compile.proofs.Doing.{checked, checks_of, to_check, within_given, room_left}
use Rattle.anb_compile.proofs.Events.{labels_first}
use Rattle.anb_compile.proofs.emission.Emission.check_from.Goals as goal

pub behind-checks-requires : goal.behind-checks-requires
behind-checks-requires c =
    let r = c.requires in
    omega (arith, within_given r.0 r.1 r.2 r.3 c.args.self.now c.args.first r.4, ap length c.given.ensures.same)

pub checks-requires-clause-over : goal.checks-requires-clause-over
checks-requires-clause-over c =
    let r = c.requires in
    let x = c.args.self.now in
    let k = r.0 in
    let a = to_check k r.1 r.2 r.3 x.basis.0 x.basis.1 x c.args.first refl c.given.ensures.known c.given.ensures.fit r.4 in
    let same : drop c.args.first x.basis.1 ≡ c.behind-checks.result.now = ap (drop c.args.first) (sym c.given.ensures.same) ∙ sym c.behind-checks.ensures in
    let P : List Check → Type 0 = λ l. AreChecksOf (has_operator k.formats) (recipes x.basis.0) (length x.writer.places.items) l in
    (has_operator k.formats, recipes x.basis.0, subst P same a)

pub checks-requires-clause-small : goal.checks-requires-clause-small
checks-requires-clause-small c =
    let r = c.requires in
    let x = c.args.self.now in
    let all = checks_of r.0 r.1 r.2 r.3 x.basis.0 x.basis.1 r.4.done c.given.ensures.known c.given.ensures.fit in
    let same : drop c.args.first x.basis.1 ≡ c.behind-checks.result.now = ap (drop c.args.first) (sym c.given.ensures.same) ∙ sym c.behind-checks.ensures in
    let P : List Check → Type 0 = λ l. AllByRecursion (λ q. room_for q ≤ 1025) l in
    subst P same (all_drop (λ q. room_for q ≤ 1025) c.args.first x.basis.1 all.1)

pub checks-requires-clause-room : goal.checks-requires-clause-room
checks-requires-clause-room c =
    let r = c.requires in
    let x = c.args.self.now in
    let l = r.4 in
    let d = l.done in
    let wide = d.within.registers in
    let few = c.given.ensures.few in
    let most = r.3.few in
    let labels = labels_first r.1 r.2 in
    let room = room_left r.0 r.1 r.2 (length x.basis.1) r.3 (omega (arith, few, most, labels, ap nodes d.labels)) in
    let within = within_given r.0 r.1 r.2 r.3 x c.args.first l in
    let now = ap length (c.behind-checks.ensures ∙ ap (drop c.args.first) c.given.ensures.same) in
    let n = length-drop c.args.first x.basis.1 in
    let first = l.from in
    omega (arith, wide, room, within, now, n, first)

pub returns-clause-done : goal.returns-clause-done
returns-clause-done c k before after plan labelled =
    let x = c.args.self.now in
    let e = c.in_ok-checks.ensures in
    let same : c.behind-checks.result.now ≡ drop c.args.first x.basis.1 = c.behind-checks.ensures ∙ ap (drop c.args.first) c.given.ensures.same in
    let P : List Check → Type 0 = λ l. Asks x.writer c.checks.new.self l in
    let Q : List Check → Type 0 = λ l. LaysChecks x.writer c.checks.new.self l in
    let S : List Check → Type 0 = λ l. SharesChecks x.writer c.checks.new.self l in
    let G : List Check → Type 0 = λ l. GrowsBy x.writer c.checks.new.self (1025 * length l) in
    checked k before after plan x.basis.0 x.basis.1 x c.args.first c.checks.new.self refl c.given.ensures.known c.given.ensures.fit labelled (subst P same e.asks) (e.places ∙ ap (λ l. length x.writer.places.items + count_all_opened l) same) (subst Q same e.lays) (subst S same e.shares) (subst G same e.grows)
