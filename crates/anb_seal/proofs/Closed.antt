-- What closed bytes are made of, and that they hold one message.
use Rattle.std.proofs.Common.{Option, ◌≡◌, ◌+◌, ℕ, Bool, true, false, List, ◌++◌, length, take, drop, Some, None, if◌then◌else◌, refl, ap, sym, ◌∙◌, arith, length-append}
use Rattle.std.proofs.lemmas.List.{take-append-drop, take_at, drop_at, length-take-le}
use Rattle.std.proofs.lemmas.Slice.Eq.{bytes_eq-Decides}
use Rattle.std.specs.Str.{bytes_eq}
use Rattle.anb_base.specs.declared.content.Suite.{Suite}
use Rattle.anb_seal.specs.Streams.{key_stream, xored}
use Rattle.anb_seal.specs.Primitives.{mac_of, cut, tag_of, masked, closed, opened}
use Rattle.anb_seal.proofs.Macs.{mac_of-long}
use Rattle.anb_seal.proofs.Xored.{xored_twice, length-xored}

pub length-tag_of : (suite : Suite) (key head m : List ℕ) → length (tag_of suite key head m) ≡ 32
length-tag_of suite key head m = length-take-le 32 (mac_of suite key (head ++ m)) (mac_of-long suite key (head ++ m))

pub length-masked : (suite : Suite) (key tag m : List ℕ) → length (masked suite key tag m) ≡ length m
length-masked suite key tag m = length-xored m _

pub masked_twice : (suite : Suite) (key tag m : List ℕ) → masked suite key tag (masked suite key tag m) ≡ m
masked_twice suite key tag m =
    ap (λ (n : ℕ). xored (masked suite key tag m) (key_stream (cut (mac_of suite key tag)) n)) (length-masked suite key tag m) ∙ xored_twice m _

pub length-closed : (suite : Suite) (stream_key tag_key head m : List ℕ) → length (closed suite stream_key tag_key head m) ≡ length m + 32
length-closed suite stream_key tag_key head m =
    let tag = tag_of suite tag_key head m in
    omega (arith, length-append tag (masked suite stream_key tag m), length-tag_of suite tag_key head m, length-masked suite stream_key tag m)

-- closed bytes begin with the tag of their message
pub front_is_tag : (suite : Suite) (stream_key tag_key head c m : List ℕ) → closed suite stream_key tag_key head m ≡ c → take 32 c ≡ tag_of suite tag_key head m
front_is_tag suite stream_key tag_key head c m e =
    ap (take 32) (sym e) ∙ take_at (tag_of suite tag_key head m) (masked suite stream_key (tag_of suite tag_key head m) m) 32 (length-tag_of suite tag_key head m)

-- the rest, with its stream taken off, is the message
pub rest_is_message : (suite : Suite) (stream_key tag_key head c m : List ℕ) → closed suite stream_key tag_key head m ≡ c → masked suite stream_key (take 32 c) (drop 32 c) ≡ m
rest_is_message suite stream_key tag_key head c m e =
    let tag = tag_of suite tag_key head m in
    let rest : drop 32 c ≡ masked suite stream_key tag m = ap (drop 32) (sym e) ∙ drop_at tag (masked suite stream_key tag m) 32 (length-tag_of suite tag_key head m) in
    ap (λ (t : List ℕ). masked suite stream_key t (drop 32 c)) (front_is_tag suite stream_key tag_key head c m e)
    ∙ ap (masked suite stream_key tag) rest ∙ masked_twice suite stream_key tag m

-- a message with this tag and this rest is closed to the bytes
pub closes : (suite : Suite) (stream_key tag_key head c m : List ℕ) → masked suite stream_key (take 32 c) (drop 32 c) ≡ m → tag_of suite tag_key head m ≡ take 32 c → closed suite stream_key tag_key head m ≡ c
closes suite stream_key tag_key head c m rest tag =
    ap (λ (t : List ℕ). t ++ masked suite stream_key t m) tag
    ∙ ap (λ (t : List ℕ). take 32 c ++ masked suite stream_key (take 32 c) t) (sym rest)
    ∙ ap (λ (t : List ℕ). take 32 c ++ t) (masked_twice suite stream_key (take 32 c) (drop 32 c))
    ∙ take-append-drop 32 c

-- ---- the laws of opening

if_some : (b : Bool) (x m : List ℕ) → (if b then Some x else None) ≡ Some m → (b ≡ true) × (x ≡ m)
if_some true x m e = (refl, cc)
if_some false x m e = absurd (cc)

pub opens : (suite : Suite) (stream_key tag_key head c m : List ℕ) → closed suite stream_key tag_key head m ≡ c → opened suite stream_key tag_key head c ≡ Some m
opens suite stream_key tag_key head c m e =
    let same = rest_is_message suite stream_key tag_key head c m e in
    let again = ap (closed suite stream_key tag_key head) same ∙ e in
    let test = (bytes_eq-Decides (closed suite stream_key tag_key head (masked suite stream_key (take 32 c) (drop 32 c))) c).1 again in
    ap (λ (b : Bool). if b then Some (masked suite stream_key (take 32 c) (drop 32 c)) else None) test ∙ ap (λ (t : List ℕ). Some t) same

pub opened_closes : (suite : Suite) (stream_key tag_key head c m : List ℕ) → opened suite stream_key tag_key head c ≡ Some m → closed suite stream_key tag_key head m ≡ c
opened_closes suite stream_key tag_key head c m e =
    let parts = if_some (bytes_eq (closed suite stream_key tag_key head (masked suite stream_key (take 32 c) (drop 32 c))) c) (masked suite stream_key (take 32 c) (drop 32 c)) m e in
    sym (ap (closed suite stream_key tag_key head) parts.1)
    ∙ (bytes_eq-Decides (closed suite stream_key tag_key head (masked suite stream_key (take 32 c) (drop 32 c))) c).0 parts.0

-- one message is closed to the same bytes
pub closed_apart : (suite : Suite) (stream_key tag_key head m n : List ℕ) → closed suite stream_key tag_key head m ≡ closed suite stream_key tag_key head n → m ≡ n
closed_apart suite stream_key tag_key head m n e =
    let c = closed suite stream_key tag_key head n in
    sym (rest_is_message suite stream_key tag_key head c m e) ∙ rest_is_message suite stream_key tag_key head c n refl

-- as computed: a message that is found, and that there is none
pub is_opened : (suite : Suite) (stream_key tag_key head c m : List ℕ) → closed suite stream_key tag_key head m ≡ c → Some m ≡ opened suite stream_key tag_key head c
is_opened suite stream_key tag_key head c m e = sym (opens suite stream_key tag_key head c m e)

none_from : (o : Option (List ℕ)) → ((m : List ℕ) → o ≡ Some m → ⊥) → None ≡ o
none_from None never = refl
none_from (Some m) never = absurd (never m refl)

pub none_opened : (suite : Suite) (stream_key tag_key head c : List ℕ) → ((m : List ℕ) → closed suite stream_key tag_key head m ≡ c → ⊥) → None ≡ opened suite stream_key tag_key head c
none_opened suite stream_key tag_key head c never = none_from (opened suite stream_key tag_key head c) (λ m e. never m (opened_closes suite stream_key tag_key head c m e))
