use Rattle.std.proofs.Common.{◌≡◌, ◌<◌, ◌+◌, List, ℕ, length, map, drop, get_or, ap, sym, ◌∙◌, subst, arith, cond}
use Rattle.std.specs.Prelude.{IfOk}
use Rattle.std.specs.Str.{bytes_eq}
use Rattle.anb_lemmas.proofs.Lists.{map_drop_next}
use Rattle.anb_term.specs.Tree as term
use Rattle.anb_syntax.specs.Grammar.{Trees, KnowItem}
use Rattle.anb_syntax.specs.Views.{know_of}
use Rattle.anb_protocol.specs.Protocols.{line_of, resolved_all}
use Rattle.anb_resolve.proofs.terms.known_by.Goals as goal

pub returns-then-eq : goal.returns-then-eq
returns-then-eq c =
    let lines = c.args.lines.now.items in
    let i = c.loop-line.line-index in
    let line = c.line-item.result in
    let role = c.args.role.now in
    let here : i < length lines = omega (arith, c.loop-line-test.true, ap length c.deref-line-items.ensures.value) in
    let is : line ≡ get_or lines i line = rw c.deref-line-items.ensures.value at c.line-item.is in
    let same = ap (λ (x : List ℕ). bytes_eq x role) (sym c.as_str.ensures) ∙ ap (λ (x : List ℕ). bytes_eq c.as_str.result.now x) (sym c.as_str-in-loop-line.ensures) ∙ sym c.eq.ensures ∙ c.if-eq.true in
    let k = know_of line in
    let found : k.terms ≡ line_of (map know_of lines) role =
    sym (ap (λ b. cond b k.terms (line_of (map know_of (drop (i + 1) lines)) role)) same) ∙ sym (ap (λ (ks : List KnowItem). line_of ks role) (map_drop_next know_of lines i line here is)) ∙ c.loop-line.invariant in
    let P : Trees → Type 0 = λ ts. IfOk c.resolved_all.result (λ terms. terms ≡ term.list_of (resolved_all c.args.atoms.now c.args.formats.now ts)) in
    subst P found c.resolved_all.ensures.list
