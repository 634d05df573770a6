use Rattle.std.proofs.Common.{◌≡◌, ◌<◌, List, length, get_or, ap, sym, ◌∙◌, subst, arith}
use Rattle.std.specs.List.{AllByRecursion}
use Rattle.anb_term.specs.Tree.{Tree}
use Rattle.anb_protocol.specs.Texts.{IsTermOf}
use Rattle.anb_protocol.specs.Checks.{known_again}
use Rattle.anb_protocol.specs.Views.{value_of}
use Rattle.anb_protocol.proofs.KnowLemmas.{next_known, role_here, role_next}
use Rattle.anb_protocol.proofs.parts.Parts.known_twice.Goals as goal

pub knows_again-requires-clause-terms : goal.knows_again-requires-clause-terms
knows_again-requires-clause-terms c =
    let p = value_of c.args.self.now in
    let knows = c.args.self.now.knows.items in
    let names = c.args.self.now.roles.items in
    let i = c.loop-i.i in
    let ts = c.terms-item.result in
    let low : i < length knows = omega (arith, c.loop-i-test.true, ap length c.deref-terms-items.ensures.value) in
    let is : ts ≡ get_or knows i ts = rw c.deref-terms-items.ensures.value at c.terms-item.is in
    let next = next_known (IsTermOf p) knows i ts low is c.loop-i.invariant.ours in
    let P : List Tree → Type 0 = λ us. AllByRecursion (IsTermOf p) us in
    subst P (sym c.as_slice.ensures) next.0

pub loop-i-preserved : goal.loop-i-preserved
loop-i-preserved c =
    let p = value_of c.args.self.now in
    let knows = c.args.self.now.knows.items in
    let names = c.args.self.now.roles.items in
    let i = c.loop-i.i in
    let ts = c.terms-item.result in
    let low : i < length knows = omega (arith, c.loop-i-test.true, ap length c.deref-terms-items.ensures.value) in
    let is : ts ≡ get_or knows i ts = rw c.deref-terms-items.ensures.value at c.terms-item.is in
    let next = next_known (IsTermOf p) knows i ts low is c.loop-i.invariant.ours in
    let x = c.index-roles-i.result in
    let high : i < length names = omega (arith, low, c.requires.knows) in
    let named : x ≡ get_or names i x = rw c.as_slice-roles.ensures.value at c.index-roles-i.is in
    let none = sym (c.in_ok-again.ensures ∙ ap (λ (us : List Tree). known_again p (x, us)) c.as_slice.ensures) ∙ c.in-None.is in
    record { ours = next.1; same = role_next (known_again p) names knows i x ts _ high low named is c.loop-i.invariant.same none }

pub returns-in-Some : goal.returns-in-Some
returns-in-Some c =
    let p = value_of c.args.self.now in
    let knows = c.args.self.now.knows.items in
    let names = c.args.self.now.roles.items in
    let i = c.loop-i.i in
    let ts = c.terms-item.result in
    let low : i < length knows = omega (arith, c.loop-i-test.true, ap length c.deref-terms-items.ensures.value) in
    let is : ts ≡ get_or knows i ts = rw c.deref-terms-items.ensures.value at c.terms-item.is in
    let next = next_known (IsTermOf p) knows i ts low is c.loop-i.invariant.ours in
    let x = c.index-roles-i.result in
    let high : i < length names = omega (arith, low, c.requires.knows) in
    let named : x ≡ get_or names i x = rw c.as_slice-roles.ensures.value at c.index-roles-i.is in
    let found = sym (c.in_ok-again.ensures ∙ ap (λ (us : List Tree). known_again p (x, us)) c.as_slice.ensures) ∙ c.in-Some.is in
    role_here (known_again p) names knows i x ts _ high low named is c.loop-i.invariant.same c.in-Some.no found
