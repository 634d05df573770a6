-- The signs of arms, one after another, and the arm that an arrival begins.
use Rattle.std.proofs.Common.{◌≡◌, ℕ, ◌+◌, ◌<◌, ◌≤◌, List, [], ◌∷◌, length, drop, get_or, Bool, true, false, cond, Some, refl, sym, ap, ◌∙◌}
use Rattle.std.specs.Prelude.{slice_get, unwrap_or, ◌||◌}
use Rattle.std.specs.Option.{option_map_or}
use Rattle.std.specs.List.{list_any, position_from}
use Rattle.std.proofs.lemmas.Option.{slice_get-get_or, get_or_from_slice_get}
use Rattle.std.proofs.lemmas.List.{drop_more, drop_all}
use Rattle.anb_format.specs.Formats.{FormatValue}
use Rattle.anb_protocol.specs.Protocols.{ProtocolValue}
use Rattle.anb_branch.specs.declared.signs.Sign.{Sign}
use Rattle.anb_choice.specs.Lawful.{BranchedValue, is_free}
use Rattle.anb_branch.specs.Taken.{receives_in, stem_receives, has_head, begins_arm}
use Rattle.anb_branch.specs.Signs.{AreSigns, IsSign}
use Rattle.anb_branch.proofs.Members.{zipped_at, zipped_there}

pub begins_so : (stem : ℕ) (role arrival : List ℕ) (arms : List ProtocolValue) (signs : List Sign) (i : ℕ) (arm : ProtocolValue) (d : Sign) (r : Bool) (formats : List FormatValue) → formats ≡ arm.formats → AreSigns stem role arms signs → slice_get arms i ≡ Some arm → i < length signs
    → r ≡ option_map_or (has_head formats arrival) (get_or signs i d).format false → r ≡ begins_arm stem role arrival arm
begins_so stem role arrival arms signs i arm d r formats same are at within is =
    is ∙ ap (λ (f : List FormatValue). option_map_or (has_head f arrival) (get_or signs i d).format false) same
    ∙ ap (λ o. option_map_or (has_head arm.formats arrival) o false) (zipped_at (IsSign stem role) arms signs i arm (get_or signs i d) are at (slice_get-get_or signs i d within)).format

-- the first place where a test passes, behind the first i
place_step : {K : Type 0} (t : K → Bool) (xs : List K) (i : ℕ) (x : K) → i < length xs → x ≡ get_or xs i x → position_from t i (drop i xs) ≡ cond (t x) (Some i) (position_from t (i + 1) (drop (i + 1) xs))
place_step t xs i x within at = ap (position_from t i) (drop_more xs i x within ∙ ap (λ y. y ∷ drop (i + 1) xs) (sym at))

pub place_found : {K : Type 0} (t : K → Bool) (xs : List K) (i : ℕ) (x : K) → i < length xs → x ≡ get_or xs i x → t x ≡ true → position_from t 0 xs ≡ position_from t i (drop i xs) → i ≡ unwrap_or (position_from t 0 xs) 0
place_found t xs i x within at is so = sym (ap (λ o. unwrap_or o 0) (so ∙ place_step t xs i x within at ∙ ap (λ b. cond b (Some i) (position_from t (i + 1) (drop (i + 1) xs))) is))

pub place_next : {K : Type 0} (t : K → Bool) (xs : List K) (i : ℕ) (x : K) → i < length xs → x ≡ get_or xs i x → t x ≡ false → position_from t 0 xs ≡ position_from t i (drop i xs) → position_from t 0 xs ≡ position_from t (i + 1) (drop (i + 1) xs)
place_next t xs i x within at is so = so ∙ place_step t xs i x within at ∙ ap (λ b. cond b (Some i) (position_from t (i + 1) (drop (i + 1) xs))) is

pub place_none : {K : Type 0} (t : K → Bool) (xs : List K) (i : ℕ) → length xs ≤ i → position_from t 0 xs ≡ position_from t i (drop i xs) → 0 ≡ unwrap_or (position_from t 0 xs) 0
place_none t xs i all so = sym (ap (λ o. unwrap_or o 0) (so ∙ ap (position_from t i) (drop_all i xs all)))

-- how many arrivals come before the one that tells the arm
pub receives_so : (b : BranchedValue) (role : List ℕ) (signs : List Sign) (d : Sign) → AreSigns b.stem role b.arms signs → 0 < length b.arms → (get_or signs 0 d).receives ≡ stem_receives b role
receives_so b role signs d are some =
    let (arm, sign, at_arm, at_sign, is) = zipped_there (IsSign b.stem role) b.arms signs 0 are some in
    ap (λ (x : Sign). x.receives) (get_or_from_slice_get signs 0 sign d at_sign) ∙ is.receives ∙ sym (ap (λ o. option_map_or (receives_in b.stem role) o 0) at_arm)

pub any_free : (stem : ℕ) (role : List ℕ) (arms : List ProtocolValue) (signs : List Sign) → AreSigns stem role arms signs → list_any (λ (x : Sign). x.free) signs ≡ list_any (is_free stem role) arms
any_free stem role [] [] are = refl
any_free stem role [] (x ∷ signs) are = absurd are
any_free stem role (p ∷ arms) [] are = absurd are
any_free stem role (p ∷ arms) (x ∷ signs) (is, are) =
    ap (λ f. f || list_any (λ (y : Sign). y.free) signs) is.free ∙ ap (λ r. is_free stem role p || r) (any_free stem role arms signs are)
