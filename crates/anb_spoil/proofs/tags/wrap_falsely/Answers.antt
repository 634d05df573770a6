use Rattle.std.proofs.Common.{◌≡◌, ◌+◌, None, ap, length, ◌∙◌}
use Rattle.anb_seal.specs.Primitives.{unwrapped}
use Rattle.anb_spoil.specs.Changes.{last_changed}
use Rattle.anb_spoil.specs.Tags.{falsely_wrapped}
use Rattle.anb_spoil.proofs.FalseTags.{if_ok, length-falsely_wrapped, wrapped_from, wrapped_long, wrap_stays_shut}
use Rattle.anb_spoil.proofs.tags.wrap_falsely.Goals as goal

pub split_at-requires : goal.split_at-requires
split_at-requires c = rw (c.as_slice.ensures ∙ c.in_ok-right.ensures) (wrapped_long c.args.suite c.args.k.now c.args.d.now c.args.m.now)

pub returns-clause-value : goal.returns-clause-value
returns-clause-value c =
    let from = wrapped_from c.args.suite c.args.k.now c.args.d.now c.args.m.now c.as_slice.result.now c.in_ok-tag.tag.items c.as_slice-2.result.now (c.as_slice.ensures ∙ c.in_ok-right.ensures) (c.in_ok-tag.ensures ∙ ap last_changed c.split_at.ensures.front) (c.as_slice-2.ensures.value ∙ c.in_ok-stream_key.ensures) in
    if_ok c.masked_after.result (λ x. x ≡ falsely_wrapped c.args.suite c.args.k.now c.args.d.now c.args.m.now) _ from c.masked_after.ensures

pub returns-clause-shut : goal.returns-clause-shut
returns-clause-shut c =
    if_ok c.masked_after.result (λ x. unwrapped c.args.suite c.args.k.now c.args.d.now x ≡ None) (falsely_wrapped c.args.suite c.args.k.now c.args.d.now c.args.m.now) (wrap_stays_shut c.args.suite c.args.k.now c.args.d.now c.args.m.now) (returns-clause-value c)

pub returns-clause-size : goal.returns-clause-size
returns-clause-size c =
    if_ok c.masked_after.result (λ x. length x ≡ length c.args.m.now + 32) (falsely_wrapped c.args.suite c.args.k.now c.args.d.now c.args.m.now) (length-falsely_wrapped c.args.suite c.args.k.now c.args.d.now c.args.m.now) (returns-clause-value c)
