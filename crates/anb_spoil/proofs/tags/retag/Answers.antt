use Rattle.std.proofs.Common.{◌≡◌, ◌<◌, ◌^◌, length, ap, ◌∙◌, arith}
use Rattle.anb_seal.specs.Primitives.{key_for}
use Rattle.anb_spoil.specs.Changes.{last_changed}
use Rattle.anb_spoil.specs.Tags.{retagged}
use Rattle.anb_spoil.proofs.FalseTags.{held_short, if_ok, retagged_from}
use Rattle.anb_spoil.proofs.tags.retag.Goals as goal

pub masked_after-requires : goal.masked_after-requires
masked_after-requires c =
    let held = held_short c.args.suite c.as_slice.result.now c.args.c.now c.as_slice-3.result.now (c.as_slice-3.ensures ∙ c.in_ok-message.ensures) in
    let short = c.requires.short in
    omega (arith, held, short)

pub returns : goal.returns
returns c =
    let suite = c.args.suite in
    let k = c.args.k.now in
    let purpose = ap (λ n. key_for suite n k) c.stream_purpose.ensures in
    let from = retagged_from suite c.args.closing k c.args.c.now c.in_ok-another.another.items c.as_slice.result.now c.as_slice-2.result.now c.as_slice-3.result.now
    (c.in_ok-another.ensures ∙ ap last_changed c.split_at.ensures.front) (c.as_slice.ensures.value ∙ c.in_ok-stream_key.ensures ∙ purpose) (c.as_slice-2.ensures.value ∙ c.in_ok-stream_key.ensures ∙ purpose) (c.as_slice-3.ensures ∙ c.in_ok-message.ensures) in
    if_ok c.masked_after.result (λ x. x ≡ retagged suite c.args.closing k c.args.c.now) _ from c.masked_after.ensures
