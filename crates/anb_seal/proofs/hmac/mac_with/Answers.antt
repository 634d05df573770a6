use Rattle.std.proofs.Common.{◌≡◌, ◌++◌, take, ℕ, List, ap, ◌∙◌}
use Rattle.anb_seal.specs.Primitives.{hash_of, key_xor, mac_of}
use Rattle.anb_seal.proofs.hmac.mac_with.Goals as goal
use Rattle.std.proofs.lemmas.List.{append-nil, append_assoc}
use Rattle.anb_seal.proofs.Macs.{front_xor}

pub returns : goal.returns
unfolding mac_of
returns g c =
    let suite = g.H.SuiteHash.suite in
    let k = c.args.k.now in
    let inner_key : take c.block.result c.xor_each.new.block ≡ key_xor suite k 0x36 = rw (c.block.ensures, c.xor_each.ensures) (front_xor suite k c.block_key-inner_key.result 0x36 c.block_key-inner_key.ensures) in
    let outer_key : take c.block-2.result c.xor_each-2.new.block ≡ key_xor suite k 0x5c = rw (c.block-2.ensures, c.xor_each-2.ensures) (front_xor suite k c.block_key-inner_key.result 0x5c c.block_key-inner_key.ensures) in
    let inner = c.as_slice.ensures ∙ c.hash-inner.ensures ∙ ap (hash_of suite) (append_assoc _ c.args.head.now c.args.m.now ∙ ap (λ (t : List ℕ). t ++ (c.args.head.now ++ c.args.m.now)) inner_key) in
    c.hash.ensures ∙ ap (hash_of suite) (append-nil _ ∙ ap (λ (t : List ℕ). t ++ c.as_slice.result.now) outer_key ∙ ap (λ (t : List ℕ). key_xor suite k 0x5c ++ t) inner)
