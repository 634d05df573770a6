-- A machine that runs over arrivals again, up to where another waited.
use Rattle.std.proofs.Common.{◌≡◌, ℕ, List, [], ◌∷◌, ◌++◌, sym, ap, ◌∙◌, subst, append_assoc}
use Rattle.anb_plays.specs.Plays.{says}
use Rattle.anb_machine.specs.Machines.{MachineValue, gives}
use Rattle.anb_branch.specs.Stems.{AreShort, StandsBehind}
use Rattle.anb_branch.proofs.Behind.{stands_saying, stands_hearing}

-- the machine stands behind the first of the arrivals, and these are left
pub record Again (first now : MachineValue) (past rest : List (List ℕ)) : Type 0 where
  pub used : List (List ℕ)
  pub sent : List (List ℕ)
  pub joined : past ≡ used ++ rest
  pub stands : StandsBehind (gives first) used sent now

pub again_saying : (first old new : MachineValue) (past rest : List (List ℕ)) (b : List ℕ) → ((more : List (List ℕ)) → gives old more ≡ says b (gives new more))
    → Again first old past rest → Again first new past rest
again_saying first old new past rest b says_so a = record {
  used = a.used;
  sent = a.sent ++ b ∷ [];
  joined = a.joined;
  stands = stands_saying (gives first) a.used a.sent b old new a.stands says_so;
}

pub again_hearing : (first old mid new : MachineValue) (past rest behind : List (List ℕ)) (b : List ℕ) → ((more : List (List ℕ)) → gives old more ≡ gives mid more)
    → ((more : List (List ℕ)) → gives mid (b ∷ more) ≡ gives new more) → rest ≡ b ∷ behind → Again first old past rest → Again first new past behind
again_hearing first old mid new past rest behind b same comes is a = record {
  used = a.used ++ b ∷ [];
  sent = a.sent;
  joined = a.joined ∙ ap (λ l. a.used ++ l) is ∙ sym (append_assoc a.used (b ∷ []) behind);
  stands = stands_hearing (gives first) a.used a.sent b old new a.stands (λ more. same (b ∷ more) ∙ comes more);
}

pub short_rest : (rest behind : List (List ℕ)) (b : List ℕ) → rest ≡ b ∷ behind → AreShort rest → AreShort behind
short_rest rest behind b is short = let all : AreShort (b ∷ behind) = subst AreShort is short in all.1
