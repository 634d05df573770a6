-- What is written for one role.
use Rattle.std.proofs.Common.{◌≡◌, ◌≤◌, ◌<◌, ◌+◌, ℕ, zero, suc, Bool, true, false, cond, List, [], ◌∷◌, length, drop, get_or, Option, Some, None, ◌⊎◌, refl, sym, ap, ◌∙◌, subst, inl, inr, arith, All}
use Rattle.std.specs.Prelude.{nat_lt, slice_get}
use Rattle.std.specs.Option.{option_map, option_map_or}
use Rattle.std.proofs.lemmas.Bool.Decides.{nat_tests}
use Rattle.std.proofs.lemmas.List.Elements.{All-nil, All-cons}
use Rattle.anb_lemmas.proofs.Lists.{drop_next}
use Rattle.anb_base.specs.declared.TheConstants.{ARRIVAL}
use Rattle.anb_read.specs.Laws.{NarrationsAreUnique, RefusalsAreUnique, NoneIsBoth}
use Rattle.anb_protocol.specs.Protocols.{ProtocolValue, role_name}
use Rattle.anb_protocol.specs.Texts.{known_names, known_texts}
use Rattle.anb_values.specs.Fit.{FitIsUnique}
use Rattle.anb_values.specs.declared.fitted.Fitted.{Fitted}
use Rattle.anb_values.specs.declared.refusal.ValuesNo.TheVariants.{Long}
use Rattle.anb_status.specs.declared.status.Status.{Status}
use Rattle.anb_status.specs.declared.status.Status.TheVariants.{BadValues, FileFault, NoMemory}
use Rattle.anb_status.specs.Statuses.{OnFileFault}
use Rattle.anb_honest.specs.Joint.{is_long}
use Rattle.anb_command.specs.Fetches.{Files, IfTold}
use Rattle.anb_command.specs.Files.{ProtocolInFile, ValuesInFile}
use Rattle.anb_command.specs.Roles.{RoleIs}
use Rattle.anb_command.specs.Steps.{Answer, given, refused, HasOneAnswer, IsFailure}
use Rattle.anb_command.specs.Writing.{IsWritten}
use Rattle.anb_command.proofs.Chains.{told_map}
use Rattle.anb_command.proofs.Ones.{RefusesQuietly, narration_in_file_quiet, protocol_in_file_one, protocol_quiet, quiet_as, role_one, role_quiet, then_one, then_quiet, values_in_file_one, values_in_file_quiet}
use Rattle.anb_command.proofs.Preparing.{told_both}
use Rattle.anb_values_text.specs.Texts.{IsTextOf}
use Rattle.anb_values_commands.specs.RoleValuesCommand.{IsReadForValues, OwnIs, OwnOf, RoleValuesText, first_long, own, role_seed}

-- ---- one answer

same_label : (a b : List ℕ) → ◌≡◌ {A = Option (List ℕ)} (Some a) (Some b) → a ≡ b
same_label a b e = cc

some_long : {P : Type 0} (o : Option (List ℕ)) (l : List ℕ) → o ≡ None → o ≡ Some l → P
some_long o l none some = let never : ◌≡◌ {A = Option (List ℕ)} None (Some l) = sym none ∙ some in absurd (cc)

own_one : (p : ProtocolValue) (role : ℕ) (fitted : Fitted) → HasOneAnswer (OwnIs p role fitted)
own_one p role fitted (refused s) (refused t) (l, is, x) (m, js, y) = ap refused (is ∙ ap (λ k. BadValues (Long k)) (same_label l m (sym x ∙ y)) ∙ sym js)
own_one p role fitted (refused s) (given t) (l, is, x) (none, y) = some_long _ l none x
own_one p role fitted (given t) (refused s) (none, x) (l, is, y) = some_long _ l none y
own_one p role fitted (given t) (given u) (none, x) (also, y) = ap given (x.is ∙ sym y.is)

own_quiet : (p : ProtocolValue) (role : ℕ) (fitted : Fitted) → RefusesQuietly (OwnIs p role fitted)
own_quiet p role fitted = record { each = λ s why. quiet_as s _ why.1 (refl, refl) }

module _ (narration name values : List ℕ) where
  pub role_values_one : NarrationsAreUnique → RefusalsAreUnique → NoneIsBoth → FitIsUnique → (files : Files) → HasOneAnswer (RoleValuesText files narration name values)
  role_values_one narrations refusals none fits files =
      then_one (ProtocolInFile files narration) (OwnOf files name values) (protocol_in_file_one narrations refusals none files narration) (λ p.
      then_one _ _ (role_one p name) (λ role.
      then_one _ _ (values_in_file_one fits files values (known_names p)) (own_one p role)))

  pub role_values_quiet : (files : Files) → RefusesQuietly (RoleValuesText files narration name values)
  role_values_quiet files =
      then_quiet (then_quiet (narration_in_file_quiet files narration) protocol_quiet) (λ (p : ProtocolValue).
      then_quiet (role_quiet p name) (λ (role : ℕ).
      then_quiet (values_in_file_quiet files values (known_names p)) (λ (fitted : Fitted). own_quiet p role fitted)))

-- ---- the chain

module _ (told : Option Files) (narration name values : List ℕ) where
  abbrev Due : Answer (List ℕ) → Type 0
  Due answer = IfTold told (λ files. RoleValuesText files narration name values answer)

  abbrev IsRead : List ℕ → Type 0
  IsRead each = IfTold told (λ files. IsReadForValues files narration name values each)

  pub narration_refused : (s : Status) → IfTold told (λ files. ProtocolInFile files narration (refused s)) → Due (refused s)
  narration_refused s first = told_map told (λ files is. inl (s, is, refl)) first

  pub narration_read : (each : List ℕ) → each ≡ narration → IsRead each
  narration_read each is = by told where
    by : (t : Option Files) → IfTold t (λ files. IsReadForValues files narration name values each)
    by None = tt
    by (Some files) = inl is

  module _ (p : ProtocolValue) (first : IfTold told (λ files. ProtocolInFile files narration (given p))) where
    pub role_refused : (s : Status) → RoleIs p name (refused s) → Due (refused s)
    role_refused s is = told_map told (λ files f. inr (p, f, inl (s, is, refl))) first

    module _ (role : ℕ) (named : RoleIs p name (given role)) where
      pub values_read : (each : List ℕ) → each ≡ values → IsRead each
      values_read each is = told_map told (λ files f. inr (is, (p, role, f, named))) first

      pub values_refused : (s : Status) → IfTold told (λ files. ValuesInFile files values (known_names p) (refused s)) → Due (refused s)
      values_refused s next = told_both told (λ files f is. inr (p, f, inr (role, named, inl (s, is, refl)))) first next

      pub own_answers : (fitted : Fitted) (answer : Answer (List ℕ)) → IfTold told (λ files. ValuesInFile files values (known_names p) (given fitted)) → OwnIs p role fitted answer → Due answer
      own_answers fitted answer next last = told_both told (λ files f is. inr (p, f, inr (role, named, inr (fitted, is, last)))) first next

-- ---- faults of files

module _ (told : Option Files) (narration name values : List ℕ) where
  -- a fault of a file comes where that file is read
  pub reads_failed : (s : Status) (Refused : Type 0) → IsFailure s (λ each. IfTold told (λ files. IsReadForValues files narration name values each)) Refused
      → IfTold told (λ files. OnFileFault s (IsReadForValues files narration name values))
  reads_failed s Refused fails = by told s fails where
    by : (t : Option Files) (s : Status) → IsFailure s (λ each. IfTold t (λ files. IsReadForValues files narration name values each)) Refused → IfTold t (λ files. OnFileFault s (IsReadForValues files narration name values))
    by None s fails = tt
    by (Some files) (FileFault each) fails = fails
    by (Some files) s fails = tt

  -- and none comes where the text is written
  pub reads_written : (text : List ℕ) (s : Status) (w now : Option (List ℕ)) → IsWritten text s w now → IfTold told (λ files. OnFileFault s (IsReadForValues files narration name values))
  reads_written text s w now is = by told s is where
    by : (t : Option Files) (s : Status) → IsWritten text s w now → IfTold t (λ files. OnFileFault s (IsReadForValues files narration name values))
    by None s is = tt
    by (Some files) (FileFault each) is = absurd is
    by (Some files) s is = tt

-- ---- the role's own text

-- the status of a value that is too long
pub long_refused : (p : ProtocolValue) (role : ℕ) (fitted : Fitted) (labels values : List (List ℕ)) (label : List ℕ) (s : Status) → labels ≡ known_texts p role → values ≡ (own p role fitted).values
    → first_long labels values ≡ Some label → (s ≡ BadValues (Long label)) ⊎ (s ≡ NoMemory) → IsFailure s (λ _. ⊥) (OwnIs p role fitted (refused s))
long_refused p role fitted labels values label s ls vs long (inl is) =
    subst (λ (t : Status). IsFailure t (λ _. ⊥) (OwnIs p role fitted (refused t))) (sym is)
    (label, refl, ap (λ l. first_long l (own p role fitted).values) (sym ls) ∙ ap (first_long labels) (sym vs) ∙ long)
long_refused p role fitted labels values label s ls vs long (inr is) = subst (λ (t : Status). IsFailure t (λ _. ⊥) (OwnIs p role fitted (refused t))) (sym is) tt

abbrev pub fit : (values : List (List ℕ)) → Option (List ℕ) → Fitted
fit values seed = record { values = values; seed = seed }

pub own_given : (p : ProtocolValue) (role : ℕ) (fitted : Fitted) (labels values : List (List ℕ)) (seed : Option (List ℕ)) (name text : List ℕ) → labels ≡ known_texts p role → values ≡ (own p role fitted).values
    → seed ≡ option_map (λ s. role_seed s name) fitted.seed → slice_get p.roles role ≡ Some name → first_long labels values ≡ None → IsTextOf labels (fit values seed) text → OwnIs p role fitted (given text)
own_given p role fitted labels values seed name text ls vs ss at none is =
    let mine = own p role fitted in
    let named : name ≡ role_name p role = sym (ap (λ o. option_map_or (λ (n : List ℕ). n) o []) at) in
    let seeds : seed ≡ mine.seed = ss ∙ ap (λ n. option_map (λ s. role_seed s n) fitted.seed) named in (
      ap (λ l. first_long l mine.values) (sym ls) ∙ ap (first_long labels) (sym vs) ∙ none,
      subst (λ l. IsTextOf l mine text) ls (subst (λ v. IsTextOf labels (fit v mine.seed) text) vs (subst (λ s. IsTextOf labels (fit values s) text) seeds is)),
    )

-- ---- long values

short_of : (label value : List ℕ) (o : Option (List ℕ)) (b : Bool) → is_long value ≡ b → cond b (Some label) o ≡ None → (length value ≤ ARRIVAL) × (o ≡ None)
short_of label value o true e none = cc
short_of label value o false e none = (grind (arith, nat_tests, e), none)

-- where none is too long, all are short
pub none_is_long : (labels values : List (List ℕ)) → length values ≡ length labels → first_long labels values ≡ None → All (λ value. length value ≤ ARRIVAL) values
none_is_long [] [] count none = All-nil (λ (value : List ℕ). length value ≤ ARRIVAL)
none_is_long [] (v ∷ vs) count none = absurd (omega (arith, count))
none_is_long (l ∷ ls) [] count none = absurd (omega (arith, count))
none_is_long (l ∷ ls) (v ∷ vs) count none =
    let parts = short_of l v (first_long ls vs) (is_long v) refl none in
    All-cons (λ (value : List ℕ). length value ≤ ARRIVAL) v vs parts.0 (none_is_long ls vs (omega (arith, count)) parts.1)

got_same : (xs : List (List ℕ)) (i : ℕ) (d e : List ℕ) → i < length xs → get_or xs i d ≡ get_or xs i e
got_same [] i d e h = absurd (omega (arith, h))
got_same (x ∷ xs) zero d e h = refl
got_same (x ∷ xs) (suc i) d e h = got_same xs i d e (omega (arith, h))

-- one that is short is passed over
pub past_short : (labels values : List (List ℕ)) (i : ℕ) (value : List ℕ) → i < length labels → length values ≡ length labels → value ≡ get_or values i value
    → length value ≤ ARRIVAL → first_long (drop i labels) (drop i values) ≡ first_long (drop (i + 1) labels) (drop (i + 1) values)
past_short labels values i value within count there short =
    let label = get_or labels i [] in
    let at : label ≡ get_or labels i label = got_same labels i [] label within in
    let fine : is_long value ≡ false = grind (arith, nat_tests, short) in
    ap (λ ls. first_long ls (drop i values)) (drop_next labels i label within at)
    ∙ ap (λ vs. first_long (label ∷ drop (i + 1) labels) vs) (drop_next values i value (omega (arith, within, count)) there)
    ∙ ap (λ b. cond b (Some label) (first_long (drop (i + 1) labels) (drop (i + 1) values))) fine

-- the first that is too long
pub at_long : (labels values : List (List ℕ)) (i : ℕ) (label value : List ℕ) → i < length labels → length values ≡ length labels → label ≡ get_or labels i label → value ≡ get_or values i value
    → ARRIVAL < length value → first_long (drop i labels) (drop i values) ≡ Some label
at_long labels values i label value within count at there long =
    let far : is_long value ≡ true = grind (arith, nat_tests, long) in
    ap (λ ls. first_long ls (drop i values)) (drop_next labels i label within at)
    ∙ ap (λ vs. first_long (label ∷ drop (i + 1) labels) vs) (drop_next values i value (omega (arith, within, count)) there)
    ∙ ap (λ b. cond b (Some label) (first_long (drop (i + 1) labels) (drop (i + 1) values))) far
