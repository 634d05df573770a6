use Rattle.std.proofs.Common.{◌*◌, ℕ, ap, ◌∙◌}
use Rattle.rand_chacha.specs.ChaCha.{ChaCha, key_of}
use Rattle.anb_seal.specs.Streams.{stream_bytes}
use Rattle.anb_seal.proofs.draw.Goals as goal

pub returns : goal.returns
returns c =
    c.fill.ensures.bytes
    ∙ ap (λ (g : ChaCha). stream_bytes g.key g.stream g.word_pos 8) c.words_from-words.ensures
    ∙ ap (λ (n : ℕ). stream_bytes (key_of c.args.seed.now) c.args.session (8 * n) 8) c.from.ensures
