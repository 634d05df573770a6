use Rattle.std.proofs.Common.{rules, ◌≡◌, ◌<◌, ◌≤◌, ◌+◌, ◌*◌, ◌/◌, ◌-◌, ◌++◌, length, take, drop, ℕ, List, ap, ◌∙◌, arith, length-take, length-drop}
use Rattle.rand_chacha.specs.ChaCha.{ChaCha, key_of}
use Rattle.anb_seal.specs.Streams.{stream_bytes}
use Rattle.anb_seal.proofs.Masked.{part_of, one_pad_more, all_masked}
use Rattle.anb_seal.proofs.stream.append_masked.Goals as goal

pub loop-i-preserved : goal.loop-i-preserved
loop-i-preserved c =
    let i = c.loop-i.i in
    let bytes = c.args.bytes.now in
    let key = key_of c.args.key.now in
    let at = c.loop-i.invariant.words in
    let inside : 256 * i < length bytes = omega arith in
    let many : length c.loop-i.pad / 4 ≡ 64 = omega arith in
    let next : 64 * i + 64 ≡ 64 * (i + 1) = omega arith in
    let part : take (c.min-end.result - 256 * i) (drop (256 * i) bytes) ≡ take 256 (drop (256 * i) bytes) = ap (λ (n : ℕ). take (n - 256 * i) (drop (256 * i) bytes)) c.min-end.ensures ∙ part_of bytes (256 * i) inside in
    let pad : c.fill.new.bytes ≡ stream_bytes key 0 (64 * i) 64 = c.fill.ensures.bytes ∙ ap (stream_bytes c.loop-i.words.key c.loop-i.words.stream c.loop-i.words.word_pos) many ∙ ap (λ (g : ChaCha). stream_bytes g.key g.stream g.word_pos 64) at in
    record {
      words = c.fill.ensures.words ∙ ap (λ (n : ℕ). record c.loop-i.words { word_pos = c.loop-i.words.word_pos + n }) many
          ∙ ap (λ (g : ChaCha). record g { word_pos = g.word_pos + 64 }) at
          ∙ ap (λ (n : ℕ). record { key = key; stream = 0; word_pos = n }) next;
      items = c.append_xored.ensures.items ∙ one_pad_more key bytes c.args.front.items c.loop-i.masked.items _ c.fill.new.bytes i inside c.loop-i.invariant.items part pad;
      len = omega (arith, length-take {A = ℕ}, length-drop {A = ℕ}, c.append_xored.ensures.len, c.loop-i.invariant.len, c.min-end.ensures);
      capacity = search rules;
    }

pub returns : goal.returns
returns c =
    let bytes = c.args.bytes.now in
    let past : length bytes ≤ 256 * c.loop-i.i = omega arith in
    c.loop-i.invariant.items ∙ ap (λ (t : List ℕ). c.args.front.items ++ t) (all_masked c.args.key.now bytes (256 * c.loop-i.i) (64 * c.loop-i.i) past (omega (arith, past)))
