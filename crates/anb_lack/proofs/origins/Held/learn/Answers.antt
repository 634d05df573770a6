use Rattle.std.proofs.Common.{◌≡◌, ◌+◌, ◌++◌, ◌∷◌, [], List, length, sym, ap, ◌∙◌, subst, arith, inl, inr, refl, length-append}
use Rattle.std.specs.Prelude.{replicate}
use Rattle.std.proofs.lemmas.List.{append-nil}
use Rattle.anb_close.specs.declared.entry.Entry.{Entry}
use Rattle.anb_close.specs.declared.entry.Origin.TheVariants.{Label}
use Rattle.anb_close.specs.Entries as entries
use Rattle.anb_close.specs.Entries.{IsKnown}
use Rattle.anb_protocol.specs.Views.{plan_event}
use Rattle.anb_compile.specs.Unsent.{label_of}
use Rattle.anb_compile.proofs.Doing.{one_more_label}
use Rattle.anb_lack.specs.declared.origins.Origin.TheVariants.{Known}
use Rattle.anb_lack.specs.Held.{IsHeld}
use Rattle.anb_lack.proofs.Having.{held_next}
use Rattle.anb_lack.proofs.origins.Held.learn.Goals as goal

pub returns-after-loop-k : goal.returns-after-loop-k
returns-after-loop-k c plan i at held =
    let e = plan_event c.args.event.now in
    let es = c.args.self.now.closure in
    let from = c.args.self.now.from.items in
    let origin = c.in-Some.origin in
    let t = c.in-Some.term.now in
    let added = c.in_ok-add-in-Some.ensures.ok in
    let entry : Entry = record { origin = Label (length (entries.labels_of es)); term = t } in
    let later : List Entry = entry ∷ added.parts in
    let now = c.add.new.self in
    let is : now ≡ es ++ later = added.is in
    let v = c.loop-k.invariant in
    let n = v.came.0 in
    let count : n ≡ length later = omega (arith, v.came.1, c.loop-k-test.false, c.loop-k.auto.k-end, ap length c.entries-count.ensures.same, ap length is, length-append es later, held.all) in
    let known : IsKnown (es ++ later) = subst IsKnown is c.entries-count.ensures.known in
    let labels : entries.labels_of (es ++ later) ≡ entries.labels_of es ++ label_of e =
    ap entries.labels_of (sym is) ∙ one_more_label es now t added ∙ ap (λ l. entries.labels_of es ++ l) (sym c.in-Some.ensures.0) in
    let next = held_next plan i e es from later origin held at known labels (inr c.in-Some.ensures.1) in
    let items : c.loop-k.self.from.items ≡ from ++ replicate (length later) origin = v.came.2 ∙ ap (λ k. from ++ replicate k origin) count in
    subst (λ l. IsHeld plan (i + 1) l c.loop-k.self.from.items) (sym (v.closure ∙ is)) (subst (IsHeld plan (i + 1) (es ++ later)) (sym items) next)

pub returns-in-None : goal.returns-in-None
returns-in-None c plan i at held =
    let e = plan_event c.args.event.now in
    let es = c.args.self.now.closure in
    let from = c.args.self.now.from.items in
    let known : IsKnown (es ++ []) = subst IsKnown (sym (append-nil es)) c.entries.ensures.known in
    let labels : entries.labels_of (es ++ []) ≡ entries.labels_of es ++ label_of e =
    ap entries.labels_of (append-nil es) ∙ sym (append-nil (entries.labels_of es)) ∙ ap (λ l. entries.labels_of es ++ l) (sym c.in-None.ensures) in
    let next = held_next plan i e es from [] Known held at known labels (inl refl) in
    subst (λ l. IsHeld plan (i + 1) l from) (append-nil es) (subst (IsHeld plan (i + 1) (es ++ [])) (append-nil from) next)
