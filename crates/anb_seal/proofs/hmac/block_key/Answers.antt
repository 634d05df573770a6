use Rattle.std.proofs.Common.{◌≡◌, ◌<◌, ◌≤◌, ◌++◌, length, take, ℕ, ◌-◌, List, [], replicate, ap, sym, ◌∙◌, arith}
use Rattle.anb_seal.specs.Primitives.{hash_of, block_of, block_key}
use Rattle.anb_seal.proofs.hmac.block_key.Goals as goal
use Rattle.std.proofs.lemmas.List.{append-nil}
use Rattle.anb_seal.proofs.Macs.{hash_of-within_block, block_of-longest, short_key-long, short_key-short, front_padded}

pub put_front-requires : goal.put_front-requires
put_front-requires g c = omega (arith, block_of-longest g.H.SuiteHash.suite, hash_of-within_block g.H.SuiteHash.suite (c.args.k.now ++ [] ++ []), ap length c.hash.ensures, ap length c.as_slice.ensures)

pub returns-then-k-block : goal.returns-then-k-block
unfolding block_key
returns-then-k-block g c =
    let suite = g.H.SuiteHash.suite in
    let k = c.args.k.now in
    let digest : c.as_slice.result.now ≡ hash_of suite k = c.as_slice.ensures ∙ c.hash.ensures ∙ ap (hash_of suite) (append-nil (k ++ []) ∙ append-nil k) in
    let long : block_of suite < length k = rw (← c.block.ensures) c.if-k-block.true in
    let room : length c.as_slice.result.now ≤ block_of suite = rw digest (hash_of-within_block suite k) in
    ap (take (block_of suite)) c.put_front.ensures
    ∙ front_padded (block_of suite) c.as_slice.result.now room (block_of-longest suite)
    ∙ ap (λ (t : List ℕ). t ++ replicate (block_of suite - length t) 0) (digest ∙ sym (short_key-long suite k long))

pub returns-else-k-block : goal.returns-else-k-block
unfolding block_key
returns-else-k-block g c =
    let suite = g.H.SuiteHash.suite in
    let k = c.args.k.now in
    let short : length k ≤ block_of suite = rw (← c.block.ensures) c.if-k-block.false in
    ap (take (block_of suite)) c.put_front-else-k-block.ensures
    ∙ front_padded (block_of suite) k short (block_of-longest suite)
    ∙ ap (λ (t : List ℕ). t ++ replicate (block_of suite - length t) 0) (sym (short_key-short suite k short))
