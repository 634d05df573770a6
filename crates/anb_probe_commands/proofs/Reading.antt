-- What is asked of `probe` is one, its refusals come before the wire is reached, and what the files give.
use Rattle.std.proofs.Common.{◌≡◌, ◌<◌, ◌+◌, ℕ, List, ◌⊎◌, length, Option, Some, None, refl, ap, sym, ◌∙◌, subst, inl, inr, arith, IsTrue, Bool}
use Rattle.std.specs.Prelude.{◌↔◌}
use Rattle.std.proofs.lemmas.Bool.{cases_order}
use Rattle.anb_protocol.specs.Plans.{MakesNames}
use Rattle.anb_protocol.specs.Protocols.{ProtocolValue}
use Rattle.anb_protocol.specs.Texts.{known_names}
use Rattle.anb_read.specs.Laws.{NarrationsAreUnique, RefusalsAreUnique, NoneIsBoth}
use Rattle.anb_values.specs.Fit.{FitIsUnique}
use Rattle.anb_values.specs.declared.fitted.Fitted.{Fitted}
use Rattle.anb_values.specs.declared.refusal.ValuesNo.TheVariants.{Long}
use Rattle.anb_status.specs.declared.status.Status.{Status}
use Rattle.anb_status.specs.declared.status.Status.TheVariants.{BadValues, NoMemory}
use Rattle.anb_status.specs.Statuses.{IsEarly}
use Rattle.anb_command.specs.Fetches.{Files, IfTold}
use Rattle.anb_command.specs.Files.{ValuesInFile}
use Rattle.anb_command.specs.Roles.{Part, PartInFile}
use Rattle.anb_command.specs.Seeds.{SeedIs}
use Rattle.anb_command.specs.Steps.{Answer, refused, given, HasOneAnswer, IsFailure}
use Rattle.anb_command.proofs.Chains.{told_map}
use Rattle.anb_command.proofs.Ones.{RefusesQuietly, is_one, is_quiet, part_one, part_quiet, quiet_as, then_one, then_quiet, values_in_file_one, values_in_file_quiet}
use Rattle.anb_command.proofs.Preparing.{told_both}
use Rattle.anb_rehearse_commands.specs.Rehearsals.{SeedFor}
use Rattle.anb_rehearse_commands.proofs.Asking.{seed_for_one, seed_for_quiet}
use Rattle.anb_probe_commands.specs.Probings.{BeginningsAre, IsFirstLong, IsReadToProbe, Probing, ProbingIs, ProbingOf, Settles, long_label, probing_of}
use Rattle.anb_probe_commands.specs.Tasks.{IsLongOf}

-- ---- one answer

same_some : {A : Type 0} (x y : A) → ◌≡◌ {A = Option A} (Some x) (Some y) → x ≡ y
same_some x y e = cc

some_none : {A P : Type 0} (o : Option A) (x : A) → o ≡ None → o ≡ Some x → P
some_none o x none some = let never : ◌≡◌ {A = Option _} None (Some x) = sym none ∙ some in absurd (cc)

module _ (p : ProtocolValue) (values : List (List ℕ)) where
  first_one : (l m : List ℕ) → IsFirstLong p values l → IsFirstLong p values m → l ≡ m
  first_one l m x y = by (cases_order x.role y.role) where
    by : (x.role ≡ y.role) ⊎ ((x.role < y.role) ⊎ (y.role < x.role)) → l ≡ m
    by (inl same) = same_some l m (sym x.long ∙ ap (long_label p values) same ∙ y.long)
    by (inr (inl less)) = some_none (long_label p values x.role) l (y.before x.role less) x.long
    by (inr (inr more)) = some_none (long_label p values y.role) m (x.before y.role more) y.long

  beginnings_one : HasOneAnswer (BeginningsAre p values)
  beginnings_one (refused s) (refused t) (l, is, x) (m, js, y) = ap refused (is ∙ ap (λ k. BadValues (Long k)) (first_one l m x y) ∙ sym js)
  beginnings_one (refused s) (given t) (l, is, x) none = some_none _ l (none x.role x.within) x.long
  beginnings_one (given t) (refused s) none (l, is, x) = some_none _ l (none x.role x.within) x.long
  beginnings_one (given u) (given v) none also = refl

  beginnings_quiet : RefusesQuietly (BeginningsAre p values)
  beginnings_quiet = record { each = λ s why. quiet_as s _ why.1 (refl, refl) }

-- ---- the seed

settles_one : (part : Part) (fitted : Fitted) (host_seed : Option (List ℕ)) → HasOneAnswer (Settles part fitted host_seed)
settles_one part fitted host_seed =
    then_one (SeedFor part.protocol fitted.seed host_seed) _ (seed_for_one part.protocol fitted.seed host_seed) (λ seed.
    then_one (BeginningsAre part.protocol fitted.values) _ (beginnings_one part.protocol fitted.values) (λ u. is_one (probing_of part fitted.values seed)))

settles_quiet : (part : Part) (fitted : Fitted) (host_seed : Option (List ℕ)) → RefusesQuietly (Settles part fitted host_seed)
settles_quiet part fitted host_seed =
    then_quiet (seed_for_quiet part.protocol fitted.seed host_seed) (λ (seed : List ℕ).
    then_quiet (beginnings_quiet part.protocol fitted.values) (λ (u : Unit {0}). is_quiet _))

module _ (narration role values : List ℕ) (host_seed : Option (List ℕ)) where
  pub probing_one : NarrationsAreUnique → RefusalsAreUnique → NoneIsBoth → FitIsUnique → (files : Files) → HasOneAnswer (ProbingIs files narration role values host_seed)
  probing_one narrations refusals none fits files =
      then_one (PartInFile files narration role) _ (part_one narrations refusals none files narration role) (λ part.
      then_one (ValuesInFile files values (known_names part.protocol)) _ (values_in_file_one fits files values (known_names part.protocol)) (λ fitted.
      settles_one part fitted host_seed))

  pub probing_quiet : (files : Files) → RefusesQuietly (ProbingIs files narration role values host_seed)
  probing_quiet files =
      then_quiet (part_quiet files narration role) (λ (part : Part).
      then_quiet (values_in_file_quiet files values (known_names part.protocol)) (λ (fitted : Fitted). settles_quiet part fitted host_seed))

  -- ---- the steps

  module _ (told : Option Files) where
    abbrev IsRead : List ℕ → Type 0
    IsRead file = IfTold told (λ files. IsReadToProbe files narration role values file)

    pub narration_read : (file : List ℕ) → file ≡ narration → IsRead file
    narration_read file is = by told where
      by : (t : Option Files) → IfTold t (λ files. IsReadToProbe files narration role values file)
      by None = tt
      by (Some files) = inl is

    pub part_refused : (s : Status) → IfTold told (λ files. PartInFile files narration role (refused s)) → IfTold told (λ files. ProbingIs files narration role values host_seed (refused s))
    part_refused s first = told_map told (λ files is. inl (s, is, refl)) first

    module _ (part : Part) (first : IfTold told (λ files. PartInFile files narration role (given part))) where
      pub values_read : (file : List ℕ) → file ≡ values → IsRead file
      values_read file is = told_map told (λ files f. inr (is, (part, f))) first

      pub part_answers : (answer : Answer Probing) → IfTold told (λ files. ProbingOf files values host_seed part answer) → IfTold told (λ files. ProbingIs files narration role values host_seed answer)
      part_answers answer next = told_both told (λ files f n. inr (part, f, n)) first next

module _ (told : Option Files) (part : Part) (values : List ℕ) (host_seed : Option (List ℕ)) where
  pub values_refused : (s : Status) → IfTold told (λ files. ValuesInFile files values (known_names part.protocol) (refused s)) → IfTold told (λ files. ProbingOf files values host_seed part (refused s))
  values_refused s first = told_map told (λ files is. inl (s, is, refl)) first

  pub values_answer : (fitted : Fitted) (answer : Answer Probing) → IfTold told (λ files. ValuesInFile files values (known_names part.protocol) (given fitted)) → Settles part fitted host_seed answer
      → IfTold told (λ files. ProbingOf files values host_seed part answer)
  values_answer fitted answer first is = told_map told (λ files f. inr (fitted, f, is)) first

-- ---- the seed and the beginnings

module _ (part : Part) (fitted : Fitted) (host_seed : Option (List ℕ)) (makes : Bool) (are : IsTrue makes ↔ MakesNames part.protocol) where
  pub seed_refused : (s : Status) → SeedIs makes fitted.seed host_seed (refused s) → Settles part fitted host_seed (refused s)
  seed_refused s is = inl (s, (makes, are, is), refl)

  pub beginnings_refused : (seed : List ℕ) (s : Status) → SeedIs makes fitted.seed host_seed (given seed) → BeginningsAre part.protocol fitted.values (refused s) → Settles part fitted host_seed (refused s)
  beginnings_refused seed s has is = inr (seed, (makes, are, has), inl (s, is, refl))

  pub settled : (seed : List ℕ) → SeedIs makes fitted.seed host_seed (given seed) → BeginningsAre part.protocol fitted.values (given tt) → Settles part fitted host_seed (given (probing_of part fitted.values seed))
  settled seed has is = inr (seed, (makes, are, has), inr (tt, is, refl))

-- ---- long values

pub long_failure : (p : ProtocolValue) (values : List (List ℕ)) (role : ℕ) (s : Status) → role < length p.roles → ((other : ℕ) → other < role → long_label p values other ≡ None) → IsLongOf (long_label p values role) s
    → IsFailure s (λ _. ⊥) (BeginningsAre p values (refused s))
long_failure p values role s within before (inl is) = subst (λ (t : Status). IsFailure t (λ _. ⊥) (BeginningsAre p values (refused t))) (sym is) tt
long_failure p values role s within before (inr (l, long, is)) =
    subst (λ (t : Status). IsFailure t (λ _. ⊥) (BeginningsAre p values (refused t))) (sym is) (l, refl, record { role = role; within = within; long = long; before = before })

pub long_early : (o : Option (List ℕ)) (s : Status) → IsLongOf o s → IsEarly s
long_early o s (inl is) = inr is
long_early o s (inr (l, long, is)) = subst IsEarly (sym is) (inl (refl, tt))

pub label_of : (o : Option (List ℕ)) (l : List ℕ) (s : Status) → o ≡ Some l → (s ≡ BadValues (Long l)) ⊎ (s ≡ NoMemory) → IsLongOf o s
label_of o l s some (inl is) = inr (l, some, is)
label_of o l s some (inr is) = inl is

-- one role more
pub next_none : (P : ℕ → Type 0) (i : ℕ) → ((k : ℕ) → k < i → P k) → P i → (k : ℕ) → k < i + 1 → P k
next_none P i before here k less = by (cases_order k i) where
  by : (k ≡ i) ⊎ ((k < i) ⊎ (i < k)) → P k
  by (inl same) = subst P (sym same) here
  by (inr (inl under)) = before k under
  by (inr (inr over)) = absurd (omega (arith, less, over))
