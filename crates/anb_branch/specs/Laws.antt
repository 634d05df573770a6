-- What holds of the arms of a lawful branched text.
use Rattle.std.specs.Prelude.{◌≡◌, ◌≤◌, ℕ, List, length, true, false, Some, slice_get}
use Rattle.std.specs.List.{list_any}
use Rattle.std.specs.Str.{bytes_eq}
use Rattle.anb_index.specs.Places.{among}
use Rattle.anb_plays.specs.Plays.{Played}
use Rattle.anb_protocol.specs.Protocols.{ProtocolValue, role_number}
use Rattle.anb_protocol.specs.Plays.{IsPlay}
use Rattle.anb_protocol.specs.Texts.{known_texts}
use Rattle.anb_choice.specs.Lawful.{BranchedValue, IsLawful, roles_in, is_free}
use Rattle.anb_branch.specs.Taken.{stem_receives}

-- this role is another than the chooser, and free in some arm
pub record MustSee (b : BranchedValue) (role : List ℕ) : Type 0 where
  pub is_role : among (roles_in b) role ≡ true
  pub other : bytes_eq role b.chooser ≡ false
  pub free : list_any (is_free b.stem role) b.arms ≡ true

-- With no more arrivals than those of the stem such a role has the same plays in any two arms.
abbrev pub ArmsPlayAlike : Type 0
ArmsPlayAlike = (b : BranchedValue) (role : List ℕ) → IsLawful b → MustSee b role
    → (i j : ℕ) (p q : ProtocolValue) → slice_get b.arms i ≡ Some p → slice_get b.arms j ≡ Some q
    → (init : List (List ℕ)) (seed : List ℕ) (session : ℕ) (arrivals : List (List ℕ))
    → length arrivals ≤ stem_receives b role → (played : Played (List ℕ))
    → IsPlay p (role_number p.roles role) init seed session arrivals played
    → IsPlay q (role_number q.roles role) init seed session arrivals played

-- what a role knows has the same texts in any two arms
abbrev pub ArmsKnowAlike : Type 0
ArmsKnowAlike = (b : BranchedValue) (role : List ℕ) → IsLawful b → among (roles_in b) role ≡ true
    → (i j : ℕ) (p q : ProtocolValue) → slice_get b.arms i ≡ Some p → slice_get b.arms j ≡ Some q
    → known_texts p (role_number p.roles role) ≡ known_texts q (role_number q.roles role)
