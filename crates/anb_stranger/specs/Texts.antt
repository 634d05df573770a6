-- What is said of a role at its end: last, what a stranger can send.
use Rattle.std.specs.Prelude.{◌≡◌, ℕ, zero, suc, ◌+◌, List, [], ◌∷◌, ◌++◌, codes, decimal, if◌then◌else◌}
use Rattle.std.specs.List.{list_any}
use Rattle.anb_protocol.specs.Protocols.{ProtocolValue, role_name}
use Rattle.anb_protocol.specs.Texts.{atom_name}
use Rattle.anb_pattern.specs.Taken.{TakenValue, is_received, with_lines}
use Rattle.anb_outsider.specs.Texts.{IsSaidOf}
use Rattle.anb_stranger.specs.declared.reach.Reach.{Reach}
use Rattle.anb_stranger.specs.declared.reach.Reach.TheVariants.{All, Event as Upto}
use Rattle.anb_stranger.specs.Reaching.{IsReach, agents}

abbrev pub comma : ℕ → List ℕ
comma zero = []
comma (suc i) = codes ", "

-- names with commas between them, where so many stand before these
abbrev pub names_text : ProtocolValue → ℕ → List ℕ → List ℕ
names_text p i [] = []
names_text p i (n ∷ ns) = comma i ++ (atom_name p n ++ names_text p (i + 1) ns)

abbrev pub stranger_line : ProtocolValue → ℕ → (end : List ℕ) → List ℕ
stranger_line p role end =
    codes "  whoever knows only " ++ (names_text p 0 (agents p)
    ++ (codes " can send all that " ++ (role_name p role ++ (codes " takes" ++ (end ++ 10 ∷ [])))))

-- where there is something that he can make
abbrev pub stranger_lines : ProtocolValue → ℕ → Reach → List ℕ
stranger_lines p role All = if list_any (is_received role) p.actions then stranger_line p role [] else []
stranger_lines p role (Upto zero) = []
stranger_lines p role (Upto (suc n)) = stranger_line p role (codes " up to event " ++ decimal (suc n))

-- what is said of a role
pub record IsAllSaidOf (p : ProtocolValue) (role : ℕ) (said : TakenValue) : Type 0 where
  pub before : TakenValue
  pub says : IsSaidOf p role before
  pub reach : Reach
  pub reaches : IsReach p role reach
  pub is : said ≡ with_lines before (stranger_lines p role reach)
