-- Each table is made of its places.
use Rattle.std.proofs.Common.{ℕ, List, Option, length, refl, sym, ap, ◌∙◌, subst}
use Rattle.std.specs.Prelude.{filter}
use Rattle.anb_notes.specs.declared.standing.Standing.TheVariants as standing
use Rattle.anb_notes.specs.Places.{bare_keys, is_bare, is_from_other, makers, others_keys, places}
use Rattle.anb_notes.specs.Tables.{AreFirsts}
use Rattle.anb_notes.proofs.Firsts.{moved}
use Rattle.anb_notes.proofs.notes.tables_of.Goals as goal

pub returns : goal.returns
returns c =
    let p = c.args.protocol.now in
    let m = length c.declared-many.result.now in
    let n = length p.atoms in
    let many = ap length c.declared-many.ensures in
    let clears = places standing.InClear p in
    let clear : AreFirsts m clears c.in_ok-clear.clear.items = moved m m c.deref-2.result.now clears c.in_ok-clear.clear.items refl (c.deref-2.ensures.value ∙ c.in_ok-in_clear.ensures) c.in_ok-clear.ensures in
    let made : AreFirsts m (makers p) c.in_ok-makers.makers.items = moved m m c.deref-4.result.now (makers p) c.in_ok-makers.makers.items refl (c.deref-4.ensures.value ∙ c.in_ok-made.ensures) c.in_ok-makers.ensures in
    let clear_slice = subst (λ (l : List (Option ℕ)). AreFirsts m clears l) (sym c.deref-5.ensures.value) clear in
    let made_slice = subst (λ (l : List (Option ℕ)). AreFirsts m (makers p) l) (sym c.deref-7.ensures.value) made in
    record {
      keys = moved m n c.deref.result.now (places standing.AsKey p) c.in_ok-keys.keys.items many (c.deref.ensures.value ∙ c.in_ok-as_key.ensures) c.in_ok-keys.ensures;
      clear = moved m n clears clears c.in_ok-clear.clear.items many refl clear;
      inside = moved m n c.deref-3.result.now (places standing.Inside p) c.in_ok-inside.inside.items many (c.deref-3.ensures.value ∙ c.in_ok-within.ensures) c.in_ok-inside.ensures;
      makers = moved m n (makers p) (makers p) c.in_ok-makers.makers.items many refl made;
      bare = moved m n (filter (is_bare clears) c.deref-6.result.now) (bare_keys p) c.in_ok-bare.bare.items many (ap (filter (is_bare clears)) (c.deref-6.ensures.value ∙ c.in_ok-as_key.ensures))
          (c.in_ok-bare.ensures clears clear_slice);
      others = moved m n _ (others_keys p) c.in_ok-others.others.items many
          (ap (λ actions. filter (is_from_other actions (makers p)) c.deref-8.result.now) c.messages.ensures.actions ∙ ap (filter (is_from_other p.actions (makers p))) (c.deref-8.ensures.value ∙ c.in_ok-as_key.ensures))
          (c.in_ok-others.ensures (makers p) made_slice);
    }
