use Rattle.std.proofs.Common.{ℕ, List, Bool, length, map, sym, ap, ◌∙◌, subst, arith}
use Rattle.std.specs.Prelude.{slice_get}
use Rattle.anb_intern.specs.Nodes.{operands_at}
use Rattle.anb_certify.specs.Numbered.{AreGrouped, AreSettled}
use Rattle.anb_certify.specs.Progress.{AreCovered, HaveKnown}
use Rattle.anb_certify.specs.Works.{did_of}
use Rattle.anb_certify.proofs.Grouping.{grouped}
use Rattle.anb_certify.proofs.Progressing.{covered_on}
use Rattle.anb_certify.proofs.progress.Progress.take_in.Goals as goal

pub learn_all-requires-clause-told : goal.learn_all-requires-clause-told
learn_all-requires-clause-told c =
    let pool = c.args.pool.now in
    let ids = c.args.ids.now in
    let did = map did_of c.args.done.now in
    let ts = operands_at pool ids in
    let e = c.in_ok-enter.ensures.found ts did c.requires.before in
    let g = grouped pool ids c.requires.under c.len.ensures.distinct did c.enter.new.self.firsts.items c.requires.told (record { long = c.in_ok-enter.ensures.all; each = e.seen.each }) in
    let G : List ℕ → Type 0 = λ l. AreGrouped ts did l in
    (ts, subst G (sym c.deref.ensures.value) g)

pub learn_all-requires-clause-known : goal.learn_all-requires-clause-known
learn_all-requires-clause-known c =
    (c.in_ok-enter.ensures.found (operands_at c.args.pool.now c.args.ids.now) (map did_of c.args.done.now) c.requires.before).known_long ∙ ap length (sym c.deref.ensures.value)

pub learn_all-requires-clause-flags : goal.learn_all-requires-clause-flags
learn_all-requires-clause-flags c =
    (c.in_ok-enter.ensures.found (operands_at c.args.pool.now c.args.ids.now) (map did_of c.args.done.now) c.requires.before).flags_long ∙ ap length (sym c.deref.ensures.value)

pub still_pending-requires-clause-below : goal.still_pending-requires-clause-below
still_pending-requires-clause-below c i x q =
    let e = c.in_ok-enter.ensures.found (operands_at c.args.pool.now c.args.ids.now) (map did_of c.args.done.now) c.requires.before in
    omega (arith, e.below i x (ap (λ l. slice_get l i) (sym c.deref-3.ensures.value) ∙ q), c.in_ok-enter.ensures.all)

pub returns-clause-grouped : goal.returns-clause-grouped
returns-clause-grouped c =
    let pool = c.args.pool.now in
    let ids = c.args.ids.now in
    let did = map did_of c.args.done.now in
    let e = c.in_ok-enter.ensures.found (operands_at pool ids) did c.requires.before in
    grouped pool ids c.requires.under c.len.ensures.distinct did c.enter.new.self.firsts.items c.requires.told (record { long = c.in_ok-enter.ensures.all; each = e.seen.each })

pub returns-clause-found : goal.returns-clause-found
returns-clause-found c =
    let pool = c.args.pool.now in
    let ids = c.args.ids.now in
    let did = map did_of c.args.done.now in
    let ts = operands_at pool ids in
    let e = c.in_ok-enter.ensures.found ts did c.requires.before in
    let firsts = c.enter.new.self.firsts.items in
    let same = c.deref.ensures.value in
    let g = grouped pool ids c.requires.under c.len.ensures.distinct did firsts c.requires.told (record { long = c.in_ok-enter.ensures.all; each = e.seen.each }) in
    let G : List ℕ → Type 0 = λ l. AreGrouped ts did l in
    let S : List Bool → List ℕ → Type 0 = λ b l. AreSettled did l b in
    let K : List Bool → List ℕ → Type 0 = λ b l. HaveKnown did l b in
    let C : List Bool → List ℕ → Type 0 = λ b l. AreCovered ts firsts b l in
    let known = c.learn_all.new.known.items in
    let flags = c.learn_all.new.flags.items in
    let pending = c.enter.new.self.pending.items in
    let covers : AreCovered ts firsts known pending = covered_on ts firsts c.enter.new.self.known.items known pending c.learn_all.ensures.known.1 e.covered in
    let here = subst (λ l. C known l) (sym c.deref-3.ensures.value) covers in
    let left = c.in_ok-self.ensures.covered firsts (subst (λ b. C b c.deref-3.result.now) (sym c.deref-2.ensures.value) here) in
    record {
      few = e.few;
      flags_long = c.learn_all.ensures.flags.0 ∙ ap length same;
      known_long = c.learn_all.ensures.known.0 ∙ ap length same;
      under = e.under;
      seen = e.seen;
      settled = subst (S flags) same (c.learn_all.ensures.settled ts (subst G (sym same) g) (subst (S c.enter.new.self.flags.items) (sym same) e.settled));
      known = subst (K known) same (c.learn_all.ensures.are_known (subst (K c.enter.new.self.known.items) (sym same) e.known));
      covered = subst (λ b. C b c.in_ok-self.field-0.items) c.deref-2.ensures.value left;
      below = λ k x q. omega (arith, c.in_ok-self.ensures.below k x q, c.in_ok-enter.ensures.all);
    }

pub returns-clause-kept : goal.returns-clause-kept
returns-clause-kept c n q = c.learn_all.ensures.flags.1 n (c.in_ok-enter.ensures.kept n q)
