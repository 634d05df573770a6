use Rattle.anb_seal.proofs.ByteLemmas.{bytes-hash_of, bytes-mac_of}
use Rattle.anb_seal.proofs.SealLemmas.{bytes-sealed, bytes-unsealed, bytes-wrapped, bytes-unwrapped}
use Rattle.anb_seal.proofs.laws.gives_bytes.Goals as goal

pub returns : goal.returns
returns c = record {
  hashed = bytes-hash_of;
  tagged = bytes-mac_of;
  seals = bytes-sealed;
  unseals = bytes-unsealed;
  wraps = bytes-wrapped;
  unwraps = bytes-unwrapped;
}
