use Rattle.std.proofs.Common.{◌≡◌, ℕ, List, Bool, length, map, sym, ap, ◌∙◌, subst, arith, ⊎_elim}
use Rattle.std.specs.Prelude.{get_or}
use Rattle.std.proofs.lemmas.List.{length-map}
use Rattle.anb_lemmas.proofs.Numbers.{below_or_it}
use Rattle.anb_lemmas.proofs.Lists.{got_within}
use Rattle.anb_intern.specs.declared.node.NodeId.{NodeId}
use Rattle.anb_intern.specs.Nodes.{operands_at, tree_at}
use Rattle.anb_intern.proofs.Nodes.{over_more, operands_long}
use Rattle.anb_intern.proofs.Putting.{under_at}
use Rattle.anb_reason.specs.Decided.{composes}
use Rattle.anb_certify.specs.Numbered.{AreKnown, Passes}
use Rattle.anb_certify.specs.Tied.{KeepsRules}
use Rattle.anb_certify.specs.Progress.{wanted_test}
use Rattle.anb_certify.specs.Works.{did_of}
use Rattle.anb_certify.proofs.Grouping.{get_here, at_register}
use Rattle.anb_certify.proofs.Ruling.{wanted_is, passes_keeps, keeps_passes}
use Rattle.anb_certify.proofs.rules.first_loose.Goals as goal

pub classes-requires-clause-grouped : goal.classes-requires-clause-grouped
classes-requires-clause-grouped c = (operands_at c.args.pool.now c.args.ids.now, c.requires.grouped)

pub known-requires-clause-told : goal.known-requires-clause-told
known-requires-clause-told c =
    let g = c.requires.grouped in
    (operands_at c.args.pool.now c.args.ids.now, sym g.long ∙ sym c.in_ok-names.ensures.long ∙ ap length (sym c.deref.ensures.value), g.told)

pub get-requires : goal.get-requires
get-requires c = under_at (length c.args.pool.now) c.args.ids.now c.loop-i.i _ c.requires.under c.loop-i-test.true

pub is_wanted-wanted-requires : goal.is_wanted-wanted-requires
is_wanted-wanted-requires c =
    let pool = c.args.pool.now in
    let ids = c.args.ids.now in
    let ts = operands_at pool ids in
    let d : NodeId = record { 0 = 0 } in
    let below = under_at (length pool) ids c.loop-i.i d c.requires.under c.loop-i-test.true in
    let made = c.in_ok-composing.ensures ts (c.deref-2.ensures.value ∙ c.in_ok-marks.ensures) in
    over_more (get_or ids c.loop-i.i d).0 (length c.deref-in-loop-i.result.now) c.get.result.now (omega (arith, below, ap length c.deref-in-loop-i.ensures.value, ap length made, length-map pool (composes ts))) c.get.ensures.before

pub keeps-requires-clause-firsts : goal.keeps-requires-clause-firsts
keeps-requires-clause-firsts c i f e =
    let pool = c.args.pool.now in
    let ids = c.args.ids.now in
    let did = map did_of c.args.done.now in
    let g = c.requires.grouped in
    omega (arith, g.least i f e, got_within c.args.firsts.now i f e, c.in_ok-names.ensures.long, ap length c.deref-in-loop-i-2.ensures.value)

pub returns-then-not-keeps : goal.returns-then-not-keeps
returns-then-not-keeps c =
    let pool = c.args.pool.now in
    let ids = c.args.ids.now in
    let did = map did_of c.args.done.now in
    let ts = operands_at pool ids in
    let i = c.loop-i.i in
    let d : NodeId = record { 0 = 0 } in
    let firsts = c.args.firsts.now in
    let names = c.in_ok-names.names.items in
    let known = c.in_ok-known.known.items in
    let t = tree_at pool c.get.result.now in
    let g = c.requires.grouped in
    let exact = c.in_ok-names.ensures.exact in
    let long = c.in_ok-names.ensures.long in
    let K : List ℕ → Type 0 = λ l. AreKnown did l known in
    let knows = subst K c.deref.ensures.value c.in_ok-known.ensures.known in
    let here = at_register pool ids i (get_or ids i d) t (get_here ids i d c.loop-i-test.true) c.get.ensures.stands in
    let below = under_at (length pool) ids i d c.requires.under c.loop-i-test.true in
    let made = c.in_ok-composing.ensures ts (c.deref-2.ensures.value ∙ c.in_ok-marks.ensures) in
    let over = over_more (get_or ids i d).0 (length pool) c.get.result.now (omega (arith, below)) c.get.ensures.before in
    let wanted : c.is_wanted-wanted.result ≡ wanted_test ts t = c.is_wanted-wanted.ensures ∙ wanted_is ts pool c.deref-in-loop-i.result.now c.get.result.now (c.deref-in-loop-i.ensures.value ∙ made) over in
    let W : Bool → Type 0 = λ b. Passes firsts names known b i in
    let N : List ℕ → Type 0 = λ l. Passes firsts l c.deref-in-loop-i-3.result.now c.is_wanted-wanted.result i in
    let Q : List Bool → Type 0 = λ l. Passes firsts names l c.is_wanted-wanted.result i in
    record {
      within = omega (arith, c.loop-i-test.true, operands_long pool ids);
      breaks = λ keeps.
          let p = subst W (sym wanted) (keeps_passes did ts firsts names known g exact long i t here c.loop-i.invariant (λ d. (knows d).1) keeps) in
          let q = subst N (sym c.deref-in-loop-i-2.ensures.value) (subst Q (sym c.deref-in-loop-i-3.ensures.value) p) in
          let y = c.keeps.ensures.1 q in
          let n = c.if-not-keeps.true in cc;
      first = c.loop-i.invariant;
    }

pub loop-i-preserved : goal.loop-i-preserved
loop-i-preserved c k less =
    let pool = c.args.pool.now in
    let ids = c.args.ids.now in
    let did = map did_of c.args.done.now in
    let ts = operands_at pool ids in
    let i = c.loop-i.i in
    let d : NodeId = record { 0 = 0 } in
    let firsts = c.args.firsts.now in
    let names = c.in_ok-names.names.items in
    let known = c.in_ok-known.known.items in
    let t = tree_at pool c.get.result.now in
    let g = c.requires.grouped in
    let exact = c.in_ok-names.ensures.exact in
    let long = c.in_ok-names.ensures.long in
    let K : List ℕ → Type 0 = λ l. AreKnown did l known in
    let knows = subst K c.deref.ensures.value c.in_ok-known.ensures.known in
    let here = at_register pool ids i (get_or ids i d) t (get_here ids i d c.loop-i-test.true) c.get.ensures.stands in
    let below = under_at (length pool) ids i d c.requires.under c.loop-i-test.true in
    let made = c.in_ok-composing.ensures ts (c.deref-2.ensures.value ∙ c.in_ok-marks.ensures) in
    let over = over_more (get_or ids i d).0 (length pool) c.get.result.now (omega (arith, below)) c.get.ensures.before in
    let wanted : c.is_wanted-wanted.result ≡ wanted_test ts t = c.is_wanted-wanted.ensures ∙ wanted_is ts pool c.deref-in-loop-i.result.now c.get.result.now (c.deref-in-loop-i.ensures.value ∙ made) over in
    let W : Bool → Type 0 = λ b. Passes firsts names known b i in
    let N : List ℕ → Type 0 = λ l. Passes firsts l c.deref-in-loop-i-3.result.now c.is_wanted-wanted.result i in
    let Q : List Bool → Type 0 = λ l. Passes firsts names l c.is_wanted-wanted.result i in
    let p = subst Q c.deref-in-loop-i-3.ensures.value (subst N c.deref-in-loop-i-2.ensures.value (c.keeps.ensures.0 c.if-not-keeps.false)) in
    let own = passes_keeps did ts firsts names known g exact long i t here c.loop-i.invariant (λ d. (knows d).0) (subst W wanted p) in
    ⊎_elim (λ a. c.loop-i.invariant k a) (λ s. subst (KeepsRules did ts) s own) (below_or_it k i less)

pub returns : goal.returns
returns c k less = c.loop-i.invariant k (omega (arith, less, operands_long c.args.pool.now c.args.ids.now, c.loop-i.auto.i-end, c.loop-i-test.false))

pub classes-requires-clause-few : goal.classes-requires-clause-few
classes-requires-clause-few c = omega (arith, c.requires.few, c.requires.grouped.long, operands_long c.args.pool.now c.args.ids.now)

pub keeps-requires-clause-within : goal.keeps-requires-clause-within
keeps-requires-clause-within c = omega (arith, c.loop-i-test.true, c.requires.grouped.long, operands_long c.args.pool.now c.args.ids.now)
