-- Sealed and wrapped bytes with a false tag.
use Rattle.std.specs.Prelude.{ℕ, List, [], ◌++◌, take, drop}
use Rattle.anb_base.specs.declared.content.Suite.{Suite}
use Rattle.anb_seal.specs.Primitives.{hash_of, key_for, masked, tag_of}
use Rattle.anb_spoil.specs.Changes.{last_changed}
use Rattle.anb_spoil.specs.declared.tags.Closing.{Closing}
use Rattle.anb_spoil.specs.declared.tags.Closing.TheVariants.{Seal, Wrap}

-- the tag of a message with its last byte xor 1, and the message xor the stream of that tag
abbrev pub falsely_closed : Suite → List ℕ → List ℕ → List ℕ → List ℕ → List ℕ
falsely_closed suite stream_key tag_key head m =
    let tag = last_changed (tag_of suite tag_key head m) in tag ++ masked suite stream_key tag m

-- the same under the keys that a key is sealed with, and that it is wrapped with in a context
unfoldable pub falsely_sealed : Suite → List ℕ → List ℕ → List ℕ
falsely_sealed suite k m = falsely_closed suite (key_for suite 1 k) (key_for suite 2 k) [] m

unfoldable pub falsely_wrapped : Suite → List ℕ → List ℕ → List ℕ → List ℕ
falsely_wrapped suite k d m = falsely_closed suite (key_for suite 3 k) (key_for suite 4 k) (hash_of suite d) m

-- ---- of the right bytes

-- the message that closed bytes hold, whatever their tag is
abbrev pub held_in : Suite → (stream_key : List ℕ) → List ℕ → List ℕ
held_in suite stream_key c = masked suite stream_key (take 32 c) (drop 32 c)

-- the tag of closed bytes with its last byte xor 1, and their message xor the stream of that tag
abbrev pub retagged_under : Suite → (stream_key : List ℕ) → List ℕ → List ℕ
retagged_under suite stream_key c =
    let tag = last_changed (take 32 c) in tag ++ masked suite stream_key tag (held_in suite stream_key c)

-- the purpose of the key that the stream is made of
abbrev pub stream_purpose : Closing → ℕ
stream_purpose Seal = 1
stream_purpose Wrap = 3

-- the same of bytes that are sealed, or wrapped, under a key
unfoldable pub retagged : Suite → Closing → (k c : List ℕ) → List ℕ
retagged suite closing k c = retagged_under suite (key_for suite (stream_purpose closing) k) c
