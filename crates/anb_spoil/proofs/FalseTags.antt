-- A false tag isn't opened, and what it masks is the message.
use Rattle.std.proofs.Common.{◌≡◌, ◌≢◌, ◌<◌, ◌≤◌, ◌+◌, ℕ, List, [], ◌∷◌, ◌++◌, length, take, drop, Option, Some, None, Result, IfOk, refl, ap, sym, subst, ◌∙◌, arith, length-append}
use Rattle.std.proofs.lemmas.List.{drop_at, length-drop, length-take-le, take_at}
use Rattle.std.proofs.lemmas.Result.{IfOk-weaker}
use Rattle.anb_base.specs.declared.content.Suite.{Suite}
use Rattle.anb_seal.specs.Primitives.{closed, hash_of, key_for, masked, opened, sealed, tag_of, unsealed, unwrapped, wrapped}
use Rattle.anb_seal.proofs.Closed.{front_is_tag, length-closed, length-masked, length-tag_of, masked_twice, opened_closes, rest_is_message}
use Rattle.anb_spoil.specs.Changes.{last_changed}
use Rattle.anb_spoil.specs.Tags.{falsely_closed, falsely_sealed, falsely_wrapped, held_in, retagged, retagged_under, stream_purpose}
use Rattle.anb_spoil.specs.declared.tags.Closing.{Closing}
use Rattle.anb_spoil.specs.declared.tags.Closing.TheVariants.{Seal, Wrap}
use Rattle.anb_spoil.proofs.Changing.{last_differs, length-last_changed}

length-false_tag : (suite : Suite) (tag_key head m : List ℕ) → length (last_changed (tag_of suite tag_key head m)) ≡ 32
length-false_tag suite tag_key head m = length-last_changed (tag_of suite tag_key head m) ∙ length-tag_of suite tag_key head m

pub length-falsely_closed : (suite : Suite) (stream_key tag_key head m : List ℕ) → length (falsely_closed suite stream_key tag_key head m) ≡ length m + 32
length-falsely_closed suite stream_key tag_key head m =
    let tag = last_changed (tag_of suite tag_key head m) in
    omega (arith, length-append tag (masked suite stream_key tag m), length-false_tag suite tag_key head m, length-masked suite stream_key tag m)

false_front : (suite : Suite) (stream_key tag_key head m : List ℕ) → take 32 (falsely_closed suite stream_key tag_key head m) ≡ last_changed (tag_of suite tag_key head m)
false_front suite stream_key tag_key head m =
    let tag = last_changed (tag_of suite tag_key head m) in take_at tag (masked suite stream_key tag m) 32 (length-false_tag suite tag_key head m)

-- whoever takes off the stream of the tag that stands there has the message
pub false_message : (suite : Suite) (stream_key tag_key head m : List ℕ)
    → masked suite stream_key (take 32 (falsely_closed suite stream_key tag_key head m)) (drop 32 (falsely_closed suite stream_key tag_key head m)) ≡ m
false_message suite stream_key tag_key head m =
    let tag = last_changed (tag_of suite tag_key head m) in
    let rest : drop 32 (falsely_closed suite stream_key tag_key head m) ≡ masked suite stream_key tag m = drop_at tag (masked suite stream_key tag m) 32 (length-false_tag suite tag_key head m) in
    ap (λ (t : List ℕ). masked suite stream_key t (drop 32 (falsely_closed suite stream_key tag_key head m))) (false_front suite stream_key tag_key head m)
    ∙ ap (masked suite stream_key tag) rest ∙ masked_twice suite stream_key tag m

-- no message is closed to it: it would be this one, and its tag is another
not_closed : (suite : Suite) (stream_key tag_key head m n : List ℕ) → closed suite stream_key tag_key head n ≡ falsely_closed suite stream_key tag_key head m → ⊥
not_closed suite stream_key tag_key head m n e =
    let c = falsely_closed suite stream_key tag_key head m in
    let same : m ≡ n = sym (false_message suite stream_key tag_key head m) ∙ rest_is_message suite stream_key tag_key head c n e in
    let tags : last_changed (tag_of suite tag_key head m) ≡ tag_of suite tag_key head m =
    sym (false_front suite stream_key tag_key head m) ∙ front_is_tag suite stream_key tag_key head c n e ∙ ap (tag_of suite tag_key head) (sym same) in
    omega (arith, ap length (last_differs (tag_of suite tag_key head m) tags), length-tag_of suite tag_key head m)

from_none : (o : Option (List ℕ)) → ((x : List ℕ) → o ≡ Some x → ⊥) → o ≡ None
from_none None h = refl
from_none (Some x) h = absurd (h x refl)

pub stays_shut : (suite : Suite) (stream_key tag_key head m : List ℕ) → opened suite stream_key tag_key head (falsely_closed suite stream_key tag_key head m) ≡ None
stays_shut suite stream_key tag_key head m =
    from_none (opened suite stream_key tag_key head (falsely_closed suite stream_key tag_key head m))
    (λ n e. not_closed suite stream_key tag_key head m n (opened_closes suite stream_key tag_key head (falsely_closed suite stream_key tag_key head m) n e))

-- ---- sealed and wrapped

pub seal_stays_shut : (suite : Suite) (k m : List ℕ) → unsealed suite k (falsely_sealed suite k m) ≡ None
unfolding unsealed falsely_sealed
seal_stays_shut suite k m = stays_shut suite (key_for suite 1 k) (key_for suite 2 k) [] m

pub wrap_stays_shut : (suite : Suite) (k d m : List ℕ) → unwrapped suite k d (falsely_wrapped suite k d m) ≡ None
unfolding unwrapped falsely_wrapped
wrap_stays_shut suite k d m = stays_shut suite (key_for suite 3 k) (key_for suite 4 k) (hash_of suite d) m

pub seal_holds : (suite : Suite) (k m : List ℕ) → masked suite (key_for suite 1 k) (take 32 (falsely_sealed suite k m)) (drop 32 (falsely_sealed suite k m)) ≡ m
unfolding falsely_sealed
seal_holds suite k m = false_message suite (key_for suite 1 k) (key_for suite 2 k) [] m

pub wrap_holds : (suite : Suite) (k d m : List ℕ) → masked suite (key_for suite 3 k) (take 32 (falsely_wrapped suite k d m)) (drop 32 (falsely_wrapped suite k d m)) ≡ m
unfolding falsely_wrapped
wrap_holds suite k d m = false_message suite (key_for suite 3 k) (key_for suite 4 k) (hash_of suite d) m

pub length-falsely_sealed : (suite : Suite) (k m : List ℕ) → length (falsely_sealed suite k m) ≡ length m + 32
unfolding falsely_sealed
length-falsely_sealed suite k m = length-falsely_closed suite (key_for suite 1 k) (key_for suite 2 k) [] m

pub length-falsely_wrapped : (suite : Suite) (k d m : List ℕ) → length (falsely_wrapped suite k d m) ≡ length m + 32
unfolding falsely_wrapped
length-falsely_wrapped suite k d m = length-falsely_closed suite (key_for suite 3 k) (key_for suite 4 k) (hash_of suite d) m

-- ---- as it is made, of the right sealed bytes

-- what holds of these bytes holds of a result that is them
pub if_ok : {E : Type 0} (r : Result (List ℕ) E) (P : List ℕ → Type 0) (one : List ℕ) → P one → IfOk r (λ x. x ≡ one) → IfOk r P
if_ok r P one holds h = IfOk-weaker r (λ x. x ≡ one) P (λ x e. subst P (sym e) holds) h

falsely_from : (suite : Suite) (stream_key tag_key head m right tag key : List ℕ) → right ≡ closed suite stream_key tag_key head m → tag ≡ last_changed (take 32 right) → key ≡ stream_key
    → tag ++ masked suite key tag m ≡ falsely_closed suite stream_key tag_key head m
falsely_from suite stream_key tag_key head m right tag key is_right is_tag is_key =
    let same : tag ≡ last_changed (tag_of suite tag_key head m) = is_tag ∙ ap last_changed (front_is_tag suite stream_key tag_key head right m (sym is_right)) in
    ap (λ (t : List ℕ). t ++ masked suite key t m) same ∙ ap (λ (k : List ℕ). last_changed (tag_of suite tag_key head m) ++ masked suite k (last_changed (tag_of suite tag_key head m)) m) is_key

pub sealed_from : (suite : Suite) (k m right tag key : List ℕ) → right ≡ sealed suite k m → tag ≡ last_changed (take 32 right) → key ≡ key_for suite 1 k
    → tag ++ masked suite key tag m ≡ falsely_sealed suite k m
unfolding sealed falsely_sealed
sealed_from suite k m right tag key is_right is_tag is_key = falsely_from suite (key_for suite 1 k) (key_for suite 2 k) [] m right tag key is_right is_tag is_key

pub wrapped_from : (suite : Suite) (k d m right tag key : List ℕ) → right ≡ wrapped suite k d m → tag ≡ last_changed (take 32 right) → key ≡ key_for suite 3 k
    → tag ++ masked suite key tag m ≡ falsely_wrapped suite k d m
unfolding wrapped falsely_wrapped
wrapped_from suite k d m right tag key is_right is_tag is_key = falsely_from suite (key_for suite 3 k) (key_for suite 4 k) (hash_of suite d) m right tag key is_right is_tag is_key

-- sealed bytes have a tag
pub sealed_long : (suite : Suite) (k m : List ℕ) → 32 ≤ length (sealed suite k m)
unfolding sealed
sealed_long suite k m = omega (arith, length-closed suite (key_for suite 1 k) (key_for suite 2 k) [] m)

pub wrapped_long : (suite : Suite) (k d m : List ℕ) → 32 ≤ length (wrapped suite k d m)
unfolding wrapped
wrapped_long suite k d m = omega (arith, length-closed suite (key_for suite 3 k) (key_for suite 4 k) (hash_of suite d) m)

-- ---- of the right bytes

retagged_closed : (suite : Suite) (stream_key tag_key head m : List ℕ) → retagged_under suite stream_key (closed suite stream_key tag_key head m) ≡ falsely_closed suite stream_key tag_key head m
retagged_closed suite stream_key tag_key head m =
    let c = closed suite stream_key tag_key head m in
    ap (λ (x : List ℕ). last_changed (take 32 c) ++ masked suite stream_key (last_changed (take 32 c)) x) (rest_is_message suite stream_key tag_key head c m refl)
    ∙ ap (λ (t : List ℕ). last_changed t ++ masked suite stream_key (last_changed t) m) (front_is_tag suite stream_key tag_key head c m refl)

pub retagged_seal : (suite : Suite) (k m : List ℕ) → retagged suite Seal k (sealed suite k m) ≡ falsely_sealed suite k m
unfolding retagged sealed falsely_sealed
retagged_seal suite k m = retagged_closed suite (key_for suite 1 k) (key_for suite 2 k) [] m

pub retagged_wrap : (suite : Suite) (k d m : List ℕ) → retagged suite Wrap k (wrapped suite k d m) ≡ falsely_wrapped suite k d m
unfolding retagged wrapped falsely_wrapped
retagged_wrap suite k d m = retagged_closed suite (key_for suite 3 k) (key_for suite 4 k) (hash_of suite d) m

-- closed bytes with another tag are others
under_differs : (suite : Suite) (stream_key c : List ℕ) → 32 ≤ length c → retagged_under suite stream_key c ≢ c
under_differs suite stream_key c long same =
    let tag = last_changed (take 32 c) in
    let size : length (take 32 c) ≡ 32 = length-take-le 32 c long in
    let front : take 32 (retagged_under suite stream_key c) ≡ tag = take_at tag (masked suite stream_key tag (held_in suite stream_key c)) 32 (length-last_changed (take 32 c) ∙ size) in
    omega (arith, ap length (last_differs (take 32 c) (sym front ∙ ap (take 32) same)), size)

pub retagged_differs : (suite : Suite) (closing : Closing) (k c : List ℕ) → 32 ≤ length c → retagged suite closing k c ≢ c
unfolding retagged
retagged_differs suite Seal k c long = under_differs suite (key_for suite 1 k) c long
retagged_differs suite Wrap k c long = under_differs suite (key_for suite 3 k) c long

-- as it is made
pub retagged_from : (suite : Suite) (closing : Closing) (k c tag first key m : List ℕ) → tag ≡ last_changed (take 32 c) → first ≡ key_for suite (stream_purpose closing) k → key ≡ key_for suite (stream_purpose closing) k → m ≡ held_in suite first c
    → tag ++ masked suite key tag m ≡ retagged suite closing k c
unfolding retagged
retagged_from suite closing k c tag first key m is_tag is_first is_key is_m =
    let purposed = key_for suite (stream_purpose closing) k in
    let held : m ≡ held_in suite purposed c = is_m ∙ ap (λ (x : List ℕ). held_in suite x c) is_first in
    ap (λ (x : List ℕ). tag ++ masked suite x tag m) is_key ∙ ap (λ (x : List ℕ). tag ++ masked suite purposed tag x) held ∙ ap (λ (t : List ℕ). t ++ masked suite purposed t (held_in suite purposed c)) is_tag

-- what is held is no longer than the whole
pub held_short : (suite : Suite) (key c m : List ℕ) → m ≡ held_in suite key c → length m ≤ length c
held_short suite key c m e = omega (arith, ap length e, length-masked suite key (take 32 c) (drop 32 c), length-drop 32 c)
