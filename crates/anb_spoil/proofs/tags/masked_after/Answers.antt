use Rattle.std.proofs.Common.{◌≡◌, ◌<◌, ◌≤◌, ◌-◌, ◌*◌, ◌++◌, ℕ, List, length, take, drop, ap, ◌∙◌, arith}
use Rattle.rand_chacha.specs.ChaCha.{key_of}
use Rattle.anb_seal.specs.Primitives.{cut, mac_of}
use Rattle.anb_seal.specs.Streams.{key_stream, xored}
use Rattle.anb_seal.proofs.Masked.{all_masked}
use Rattle.anb_spoil.proofs.Padding.{one_draw_more, part_of}
use Rattle.anb_spoil.proofs.tags.masked_after.Goals as goal

pub loop-i-preserved : goal.loop-i-preserved
loop-i-preserved c =
    let i = c.loop-i.i in
    let bytes = c.args.m.now in
    let inside : 32 * i < length bytes = omega arith in
    let part : take (c.min-end.result - 32 * i) (drop (32 * i) bytes) ≡ take 32 (drop (32 * i) bytes) = ap (λ (n : ℕ). take (n - 32 * i) (drop (32 * i) bytes)) c.min-end.ensures ∙ part_of bytes (32 * i) inside in
    c.in_ok-put_xored.ensures
    ∙ one_draw_more (key_of c.short_mac-seed.result) bytes c.args.tag.items c.loop-i.masked.items _ c.draw-pad.result i inside c.loop-i.invariant part c.draw-pad.ensures

pub returns : goal.returns
returns c =
    let bytes = c.args.m.now in
    let past : length bytes ≤ 32 * c.loop-i.i = omega arith in
    let seed : c.short_mac-seed.result ≡ cut (mac_of c.args.suite c.args.stream_key.now c.args.tag.items) = c.short_mac-seed.ensures ∙ ap (λ (t : List ℕ). cut (mac_of c.args.suite c.args.stream_key.now t)) c.as_slice.ensures.value in
    c.new.ensures ∙ c.loop-i.invariant
    ∙ ap (λ (t : List ℕ). c.args.tag.items ++ t) (all_masked c.short_mac-seed.result bytes (32 * c.loop-i.i) (8 * c.loop-i.i) past (omega (arith, past)) ∙ ap (λ (k : List ℕ). xored bytes (key_stream k (length bytes))) seed)
