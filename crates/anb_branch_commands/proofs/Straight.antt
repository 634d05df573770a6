-- What is asked of `branch` is asked of `play` by the text of an arm.
use Rattle.std.proofs.Common.{◌≡◌, ℕ, zero, suc, Bool, true, false, List, [], ◌∷◌, Option, Some, None, refl, ap, sym, ◌∙◌, subst, inr}
use Rattle.std.specs.Prelude.{◌||◌, slice_get, unwrap_or}
use Rattle.std.specs.List.{list_any}
use Rattle.std.proofs.lemmas.Option.{get_or_from_slice_get, slice_get_within}
use Rattle.anb_index.specs.Places.{among}
use Rattle.anb_lemmas.proofs.Each.{each_got}
use Rattle.anb_protocol.specs.Plays.{IsSendable}
use Rattle.anb_protocol.specs.Protocols.{ProtocolValue, role_number, role_named}
use Rattle.anb_choice.specs.Branching.{BranchedText, Tells, straights}
use Rattle.anb_choice.specs.Lawful.{BranchedValue}
use Rattle.anb_branch.specs.Laws.{ArmsKnowAlike}
use Rattle.anb_branch.proofs.Members.{named_place, zipped_at}
use Rattle.anb_branch.proofs.Refusals.{roles_there}
use Rattle.anb_values.specs.declared.fitted.Fitted.{Fitted}
use Rattle.anb_command.specs.declared.limits.TheConstants.{NARRATION_LIMIT}
use Rattle.anb_command.specs.Fetches.{Files}
use Rattle.anb_command.specs.Files.{HasFile, ValuesInFile}
use Rattle.anb_command.specs.Roles.{Part, PartInFile}
use Rattle.anb_command.specs.Seeds.{SeedIs, seed_of}
use Rattle.anb_command.specs.Steps.{given, InTurn, AnswersWith}
use Rattle.anb_command.proofs.Ones.{same_given}
use Rattle.anb_role_commands.specs.Jobs.{JobIs, JobOf, makes_names}
use Rattle.anb_branch_commands.specs.BranchCommand.{job_in}
use Rattle.anb_branch_commands.specs.BranchJobs.{BranchJob, BranchJobOf, SeatInFile, known_in, makes_in}
use Rattle.anb_branch_commands.specs.Laws.{ArmsAreNarrations}
use Rattle.anb_branch_commands.proofs.Preparing.{IsSeat, given_by, seat_has}
use Rattle.anb_branch_commands.proofs.Seats.{known_at}

-- a seed for more serves for less
seed_less : (makes one : Bool) → (one ≡ true → makes ≡ true) → (told host_seed : Option (List ℕ)) (seed : List ℕ) → seed_of makes told host_seed ≡ Some seed → seed_of one told host_seed ≡ Some seed
seed_less makes one more (Some file) host_seed seed is = is
seed_less makes one more None (Some host) seed is = is
seed_less true one more None None seed never = absurd (cc)
seed_less false true more None None seed is = absurd (let never = more refl in cc)
seed_less false false more None None seed is = is

-- where the role makes a name in one arm, it does in some
made_at : (arms : List ProtocolValue) (role : List ℕ) (place : ℕ) (arm : ProtocolValue) → slice_get arms place ≡ Some arm → makes_names arm (role_number arm.roles role) ≡ true
    → list_any (λ (p : ProtocolValue). makes_names p (role_number p.roles role)) arms ≡ true
made_at [] role place arm here makes = absurd (cc)
made_at (p ∷ arms) role zero arm here makes =
    let is : p ≡ arm = cc in
    ap (λ (m : Bool). m || list_any (λ (q : ProtocolValue). makes_names q (role_number q.roles role)) arms) (ap (λ (q : ProtocolValue). makes_names q (role_number q.roles role)) is ∙ makes)
made_at (p ∷ arms) role (suc place) arm here makes = either (makes_names p (role_number p.roles role)) (made_at arms role place arm here makes) where
  either : (a : Bool) → list_any (λ (q : ProtocolValue). makes_names q (role_number q.roles role)) arms ≡ true → (a || list_any (λ (q : ProtocolValue). makes_names q (role_number q.roles role)) arms) ≡ true
  either true later = refl
  either false later = later

-- a name among the roles has a number
numbered : (names : List (List ℕ)) (x : List ℕ) (p : ProtocolValue) → p.roles ≡ names → among names x ≡ true → role_named p x ≡ Some (role_number p.roles x)
numbered names x p are is =
    let (k, at) = named_place p.roles x 0 (subst (λ (ns : List (List ℕ)). among ns x ≡ true) (sym are) is) in
    at ∙ ap Some (sym (ap (λ (o : Option ℕ). unwrap_or o 0) at))

module _ (alike : ArmsKnowAlike) (files : Files) (role values : List ℕ) (told : Option ℕ) (host_seed : Option (List ℕ)) (b : BranchedValue) (seat : IsSeat b role told)
    (text : List ℕ) (tells : BranchedText text b) (place : ℕ) (arm : ProtocolValue) (straight : List ℕ) (arm_at : slice_get b.arms place ≡ Some arm)
    (here : slice_get (straights text tells.marks tells.spans) place ≡ Some straight) (name : List ℕ) (file : HasFile files name NARRATION_LIMIT straight) where
  abbrev part : Part
  part = record { protocol = arm; role = role_number arm.roles role }

  part_in : PartInFile files name role (given part)
  part_in =
      let told_by = zipped_at Tells (straights text tells.marks tells.spans) b.arms place straight arm tells.arms here arm_at in
      let named = numbered arm.roles role arm refl (each_got (λ (p : ProtocolValue). among p.roles role ≡ true) b.arms place arm (roles_there b role seat.lawful seat.is_role) arm_at) in
      let sendable : IsSendable arm = subst IsSendable (get_or_from_slice_get b.arms place arm arm arm_at) (seat.sendable place arm (slice_get_within b.arms place arm arm_at)) in
      inr (
        arm,
        inr (told_by.narration, inr (straight, file, told_by.is_text), (told_by.well_formed, told_by.is)),
        inr (role_number arm.roles role, named, inr (tt, sendable, refl)),
      )

  job_of : (fitted : Fitted) (seed : List ℕ) → ValuesInFile files values (known_in b role) (given fitted) → SeedIs (makes_in b role) fitted.seed host_seed (given seed)
      → JobOf files values host_seed part (given (record { protocol = arm; role = role_number arm.roles role; initial = fitted.values; seed = seed }))
  job_of fitted seed fits seeds =
      inr (
        fitted,
        subst (λ (ns : List (List ℕ)). ValuesInFile files values ns (given fitted)) (known_at alike b role seat.lawful seat.is_role place arm arm_at) fits,
        inr (seed, seed_less (makes_in b role) (makes_names arm (role_number arm.roles role)) (made_at b.arms role place arm arm_at) fitted.seed host_seed seed seeds, refl),
      )

pub arms_are_narrations : ArmsKnowAlike → ArmsAreNarrations
arms_are_narrations alike files branched role values told host_seed job asks text tells place arm straight arm_at here name file =
    let (b, seated, of) = given_by (SeatInFile files branched role told) (BranchJobOf files role values told host_seed) job asks in
    let (fitted, fits, seeds) = given_by (ValuesInFile files values (known_in b role)) (λ f. InTurn (SeedIs (makes_in b role) f.seed host_seed) (λ s. AnswersWith (record { branched = b; role = role; told = told; initial = f.values; seed = s }))) job of in
    let (seed, has, is) = given_by (SeedIs (makes_in b role) fitted.seed host_seed) (λ s. AnswersWith (record { branched = b; role = role; told = told; initial = fitted.values; seed = s })) job seeds in
    let made : BranchJob = record { branched = b; role = role; told = told; initial = fitted.values; seed = seed } in
    let same : job ≡ made = same_given job made is in
    let P : BranchJob → Type 0 = λ j. (tells' : BranchedText text j.branched) → slice_get j.branched.arms place ≡ Some arm → slice_get (straights text tells'.marks tells'.spans) place ≡ Some straight
    → JobIs files name role values host_seed (given (job_in j arm)) in
    let seat = seat_has files branched role told b seated in
    subst P (sym same) (λ tells' at here'. inr (
      part alike files role values told host_seed b seat text tells' place arm straight at here' name file,
      part_in alike files role values told host_seed b seat text tells' place arm straight at here' name file,
      job_of alike files role values told host_seed b seat text tells' place arm straight at here' name file fitted seed fits has,
    )) tells arm_at here
