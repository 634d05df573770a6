-- Each step has one answer, and its refusals come before the wire is reached.
use Rattle.std.proofs.Common.{◌≡◌, ◌≢◌, ℕ, ◌+◌, ◌<◌, Bool, true, false, List, [], ◌∷◌, ◌++◌, length, map, Option, Some, None, Result, Ok, Err, refl, ap, sym, ◌∙◌, subst, inl, inr, arith}
use Rattle.std.specs.Prelude.{slice_get, ◌==◌, ◌||◌, not, nat_lt}
use Rattle.std.specs.List.{AllByRecursion, list_any}
use Rattle.anb_base.specs.declared.TheConstants.{ARRIVAL, WIDE}
use Rattle.anb_syntax.specs.Grammar.{Narration}
use Rattle.anb_code.specs.CodeValue.{CodeValue}
use Rattle.anb_code.specs.RawValue.{RawInstrValue, RawValue}
use Rattle.anb_code.specs.Spelling.{is_named}
use Rattle.anb_code.specs.Table.{IsFirstFault, code_faults, faults_from, format_faults, has_its_format, instr_faults, is_late, is_taken, reads_unwritten, shape_faults, where_true, writes_next, writes_wide}
use Rattle.anb_code.specs.Taking.{take_texts}
use Rattle.anb_code.specs.Verified.{IsVerifiedCode}
use Rattle.anb_code.specs.declared.refusal.CodeNo.{CodeNo}
use Rattle.anb_code.specs.declared.refusal.CodeNo.TheVariants as verifying
use Rattle.anb_format.specs.Formats.{FormatValue, field_count}
use Rattle.anb_format.specs.declared.pieces.FormatNo.{FormatNo}
use Rattle.anb_read.specs.Laws.{NarrationsAreUnique, RefusalsAreUnique, NoneIsBoth}
use Rattle.anb_text.specs.Laws.{CodesAreUnique, FaultsAreUnique, FilesAreUnique, NoneIsBoth as NoFileIsFaulty}
use Rattle.anb_text.specs.Refusals.{IsFaultyCode, IsFirstFaulty, IsRefusal}
use Rattle.anb_text.specs.RoleFiles.{IsTextOf, lines_text}
use Rattle.anb_text.specs.Stages.{Spells, refusal_of}
use Rattle.anb_text.proofs.Loaded.{handed_on, not_a_code}
use Rattle.anb_text.specs.declared.refusal.LoadNo.{LoadNo}
use Rattle.anb_text.specs.declared.refusal.LoadNo.TheVariants as loading
use Rattle.anb_protocol.specs.Protocols.{ProtocolValue}
use Rattle.anb_values.specs.Fit.{FitIsUnique}
use Rattle.anb_values.specs.declared.fitted.Fitted.{Fitted}
use Rattle.anb_values.specs.declared.refusal.ValuesNo.{ValuesNo}
use Rattle.anb_command.specs.declared.limits.TheConstants.{NARRATION_LIMIT, ROLE_FILE_LIMIT, VALUES_LIMIT}
use Rattle.anb_status.specs.declared.status.NarrationNo.TheVariants.{Read, Resolve}
use Rattle.anb_status.specs.declared.status.Status.{Status}
use Rattle.anb_status.specs.declared.status.Status.TheVariants.{BadNarration, BadRoleFile, BadValues, CannotSend}
use Rattle.anb_command.specs.Errands.{ErrandOf, draws}
use Rattle.anb_command.specs.Files.{CodeInFile, CodeIs, FileIs, NarrationIs, NarrationInFile, ProtocolIs, ProtocolInFile, ValuesAre, ValuesInFile}
use Rattle.anb_command.specs.Roles.{AllSend, PartInFile, PartOf, RoleIs, SendableInFile, SendableOf}
use Rattle.anb_command.specs.Seeds.{SeedIs}
use Rattle.anb_status.specs.Statuses.{is_fault, phase_of, before_reach}
use Rattle.anb_command.specs.Steps.{Answer, refused, given, InTurn, AnswersWith, HasOneAnswer}
use Rattle.anb_command.proofs.Senders.{first_one, none_unsent}

-- a constructor with its type
abbrev pub as_refused : (A : Type 0) → Status → Answer A
as_refused A s = refused s

abbrev pub as_given : (A : Type 0) → A → Answer A
as_given A a = given a

pub same_refusal : {A : Type 0} (s t : Status) → as_refused A s ≡ as_refused A t → s ≡ t
same_refusal s t same = cc

pub same_given : {A : Type 0} (a b : A) → as_given A a ≡ as_given A b → a ≡ b
same_given a b same = cc

pub not_both : {A : Type 0} {P : Type 0} (s : Status) (a : A) → as_refused A s ≡ as_given A a → P
not_both s a never = absurd (cc)

-- ---- one answer

pub then_one : {A B : Type 0} (first : Answer A → Type 0) (next : A → Answer B → Type 0) → HasOneAnswer first → ((a : A) → HasOneAnswer (next a)) → HasOneAnswer (InTurn first next)
then_one {A} first next one each x y (inl (s, fs, e)) (inl (t, ft, d)) = e ∙ ap refused (same_refusal s t (one (refused s) (refused t) fs ft)) ∙ sym d
then_one {A} first next one each x y (inl (s, fs, e)) (inr (b, gb, n)) = not_both s b (one (refused s) (given b) fs gb)
then_one {A} first next one each x y (inr (a, ga, m)) (inl (t, ft, d)) = not_both t a (one (refused t) (given a) ft ga)
then_one {A} {B} first next one each x y (inr (a, ga, m)) (inr (b, gb, n)) =
    each a x y m (subst (λ (z : A). next z y) (same_given b a (one (given b) (given a) gb ga)) n)

-- a step has one refusal at most, and where it gives something it has none
pub record IsSettled {A : Type 0} (step : Answer A → Type 0) : Type 0 where
  pub refuses : (s t : Status) → step (refused s) → step (refused t) → s ≡ t
  pub apart : (s : Status) (a : A) → step (refused s) → step (given a) → ⊥

pub one_settled : {A : Type 0} (step : Answer A → Type 0) → HasOneAnswer step → IsSettled step
one_settled step one = record {
  refuses = λ s t x y. same_refusal s t (one (refused s) (refused t) x y);
  apart = λ s a x y. not_both s a (one (refused s) (given a) x y);
}

pub then_settled : {A B : Type 0} (first : Answer A → Type 0) (next : A → Answer B → Type 0) → HasOneAnswer first → ((a : A) → IsSettled (next a)) → IsSettled (InTurn first next)
then_settled {A} {B} first next one each = record { refuses = refuses; apart = apart } where
  same_next : (a b : A) (answer : Answer B) → first (given a) → first (given b) → next b answer → next a answer
  same_next a b answer ga gb n = subst (λ (z : A). next z answer) (same_given b a (one (given b) (given a) gb ga)) n

  refuses : (s t : Status) → InTurn first next (refused s) → InTurn first next (refused t) → s ≡ t
  refuses s t (inl (v, fv, e)) (inl (w, fw, d)) =
      same_refusal {A = B} s v e ∙ same_refusal {A = A} v w (one (refused v) (refused w) fv fw) ∙ sym (same_refusal {A = B} t w d)
  refuses s t (inl (v, fv, e)) (inr (b, gb, n)) = not_both v b (one (refused v) (given b) fv gb)
  refuses s t (inr (a, ga, m)) (inl (w, fw, d)) = not_both w a (one (refused w) (given a) fw ga)
  refuses s t (inr (a, ga, m)) (inr (b, gb, n)) = (each a).refuses s t m (same_next a b (refused t) ga gb n)

  apart : (s : Status) (x : B) → InTurn first next (refused s) → InTurn first next (given x) → ⊥
  apart s x y (inl (w, fw, d)) = not_both w x (sym d)
  apart s x (inl (v, fv, e)) (inr (b, gb, n)) = not_both v b (one (refused v) (given b) fv gb)
  apart s x (inr (a, ga, m)) (inr (b, gb, n)) = (each a).apart s x m (same_next a b (given x) ga gb n)

pub is_one : {A : Type 0} (a : A) → HasOneAnswer (AnswersWith a)
is_one a x y is js = is ∙ sym js

pub file_one : (files : List ℕ → Option (List ℕ)) (name : List ℕ) (limit : ℕ) → HasOneAnswer (FileIs files name limit)
file_one files name limit (refused s) (refused t) x y = ap refused (x.0 ∙ sym y.0)
file_one files name limit (refused s) (given text) x y =
    let same : Some x.1.text ≡ Some text = sym x.1.holds ∙ y.holds in
    let is : x.1.text ≡ text = cc in
    let long : limit < length text = rw is at x.1.long in absurd (omega (arith, long, y.short))
file_one files name limit (given text) (refused t) x y =
    let same : Some y.1.text ≡ Some text = sym y.1.holds ∙ x.holds in
    let is : y.1.text ≡ text = cc in
    let long : limit < length text = rw is at y.1.long in absurd (omega (arith, long, x.short))
file_one files name limit (given text) (given other) x y = let same : Some text ≡ Some other = sym x.holds ∙ y.holds in ap given (let is : text ≡ other = cc in is)

pub narration_one : NarrationsAreUnique → RefusalsAreUnique → NoneIsBoth → (text : List ℕ) → HasOneAnswer (NarrationIs text)
narration_one narrations refusals none text (refused s) (refused t) (why, is, x) (other, js, y) = ap refused (is ∙ ap (λ w. BadNarration (Read w)) (refusals text why other x y) ∙ sym js)
narration_one narrations refusals none text (refused s) (given n) (why, is, x) y = absurd (none text n why y x)
narration_one narrations refusals none text (given n) (refused t) x (why, is, y) = absurd (none text n why x y)
narration_one narrations refusals none text (given m) (given n) x y = ap given (narrations text m n x y)

pub protocol_one : (n : Narration) → HasOneAnswer (ProtocolIs n)
protocol_one n (refused s) (refused t) (why, is, x) (other, js, y) =
    let same : Some why ≡ Some other = sym x ∙ y in
    let e : why ≡ other = cc in ap refused (is ∙ ap (λ w. BadNarration (Resolve w)) e ∙ sym js)
protocol_one n (refused s) (given p) (why, is, x) y = let never : Some why ≡ None = sym x ∙ y.0 in absurd (cc)
protocol_one n (given p) (refused t) x (why, is, y) = let never : Some why ≡ None = sym y ∙ x.0 in absurd (cc)
protocol_one n (given p) (given q) x y = ap given (x.1 ∙ sym y.1)

pub role_one : (p : ProtocolValue) (name : List ℕ) → HasOneAnswer (RoleIs p name)
role_one p name (refused s) (refused t) x y = ap refused (x.0 ∙ sym y.0)
role_one p name (refused s) (given role) x y = let never : Some role ≡ None = sym y ∙ x.1 in absurd (cc)
role_one p name (given role) (refused t) x y = let never : Some role ≡ None = sym x ∙ y.1 in absurd (cc)
role_one p name (given role) (given other) x y = let same : Some role ≡ Some other = sym x ∙ y in let e : role ≡ other = cc in ap given e

pub send_one : (p : ProtocolValue) → HasOneAnswer (AllSend p)
send_one p (refused s) (refused t) (role, action, name, first, named, is) (role', action', name', first', named', js) =
    let same = first_one p role role' action action' first first' in
    let names : Some name ≡ Some name' = sym named ∙ ap (λ r. slice_get p.roles r) same.1 ∙ named' in
    let e : name ≡ name' = cc in
    ap refused (is ∙ ap (λ a. CannotSend a name) same.0 ∙ ap (λ n. CannotSend action' n) e ∙ sym js)
send_one p (refused s) (given u) (role, action, name, first, named, is) sendable = absurd (none_unsent p role action (sendable role first.is_role) first.unsent)
send_one p (given u) (refused t) sendable (role, action, name, first, named, is) = absurd (none_unsent p role action (sendable role first.is_role) first.unsent)
send_one p (given u) (given v) x y = refl

abbrev as_err : ValuesNo → Result Fitted ValuesNo
as_err why = Err why

values_one : FitIsUnique → (names : List (List ℕ)) (text : List ℕ) → HasOneAnswer (ValuesAre names text)
values_one fits names text (refused s) (refused t) (why, is, x) (other, js, y) =
    let same : as_err why ≡ as_err other = fits text names (Err why) (Err other) x y in
    let e : why ≡ other = cc in ap refused (is ∙ ap BadValues e ∙ sym js)
values_one fits names text (refused s) (given f) (why, is, x) y = let never = fits text names (Err why) (Ok f) x y in absurd (cc)
values_one fits names text (given f) (refused t) x (why, is, y) = let never = fits text names (Err why) (Ok f) y x in absurd (cc)
values_one fits names text (given f) (given g) x y = let same = fits text names (Ok f) (Ok g) x y in let e : f ≡ g = cc in ap given e

pub seed_one : (makes : Bool) (told host_seed : Option (List ℕ)) → HasOneAnswer (SeedIs makes told host_seed)
seed_one makes told host_seed (refused s) (refused t) x y = ap refused (x.0 ∙ sym y.0)
seed_one makes told host_seed (refused s) (given seed) x y = let never : Some seed ≡ None = sym y ∙ x.1 in absurd (cc)
seed_one makes told host_seed (given seed) (refused t) x y = let never : Some seed ≡ None = sym x ∙ y.1 in absurd (cc)
seed_one makes told host_seed (given seed) (given other) x y = let same : Some seed ≡ Some other = sym x ∙ y in let e : seed ≡ other = cc in ap given e

-- ---- role files

-- no row of the table is want of memory
abbrev is_some : CodeNo → Bool
is_some verifying.NoMemory = false
is_some f = true

abbrev IsSome : CodeNo → Type 0
IsSome f = is_some f ≡ true

record AllSome (faults : List CodeNo) : Type 0 where
  each : AllByRecursion IsSome faults

some_both : (xs ys : List CodeNo) → AllSome xs → AllSome ys → AllSome (xs ++ ys)
some_both xs ys all also = record { each = by xs all.each } where
  by : (zs : List CodeNo) → AllByRecursion IsSome zs → AllByRecursion IsSome (zs ++ ys)
  by [] all = also.each
  by (z ∷ zs) all = (all.0, by zs all.1)

some_where : (holds : Bool) (f : CodeNo) → IsSome f → AllSome (where_true holds f)
some_where true f some = record { each = (some, tt) }
some_where false f some = record { each = tt }

some_shapes : (f : ℕ) (shapes : List FormatNo) → AllSome (map (verifying.Shape f) shapes)
some_shapes f shapes = record { each = by shapes } where
  by : (others : List FormatNo) → AllByRecursion IsSome (map (verifying.Shape f) others)
  by [] = tt
  by (other ∷ others) = (refl, by others)

some_from : {A : Type 0} (faults : List A → A → List CodeNo) → ((before : List A) (x : A) → AllSome (faults before x)) → (before xs : List A) → AllSome (faults_from faults before xs)
some_from faults each before [] = record { each = tt }
some_from faults each before (x ∷ xs) = some_both (faults before x) _ (each before x) (some_from faults each (before ++ x ∷ []) xs)

some_format : (before : List FormatValue) (format : FormatValue) → AllSome (format_faults before format)
some_format before format =
    some_both _ _ (some_both _ _ (some_where (length before == 64 || nat_lt 32 (field_count format.pieces)) (verifying.Many (length before)) refl)
    (some_where (list_any (is_named format.name) before) (verifying.Twice (length before)) refl)) (some_shapes (length before) (shape_faults format.pieces))

some_instr : (formats : List FormatValue) (before : List RawInstrValue) (instr : RawInstrValue) → AllSome (instr_faults ARRIVAL WIDE formats before instr)
some_instr formats before instr =
    let at = length before + 1 in
    let late = some_where (is_late before instr) (verifying.Late at) refl in
    let taken = some_where (is_taken before instr) (verifying.TakeTwice at) refl in
    let format = some_where (not (has_its_format formats instr instr.what)) (verifying.BadFormat at) refl in
    let unwritten = some_where (reads_unwritten before instr) (verifying.Unwritten at) refl in
    let order = some_where (not (writes_next before instr)) (verifying.Order at) refl in
    let wide = some_where (writes_wide ARRIVAL WIDE formats before instr) (verifying.Wide at) refl in
    some_both _ _ (some_both _ _ (some_both _ _ (some_both _ _ (some_both _ _ late taken) format) unwritten) order) wide

never_memory : (raw : RawValue) (f : CodeNo) → IsFirstFault ARRIVAL WIDE raw f → IsSome f
never_memory raw f first =
    let all : AllSome (code_faults ARRIVAL WIDE raw) = some_both _ _ (some_from format_faults some_format [] raw.formats) (some_from (instr_faults ARRIVAL WIDE raw.formats) (some_instr raw.formats) [] raw.code) in
    (subst AllSome first.1 all).each.0

begins_once : {A : Type 0} (a b : A) (xs ys all : List A) → all ≡ a ∷ xs → all ≡ b ∷ ys → a ≡ b
begins_once a b xs ys all is js = let same : a ∷ xs ≡ b ∷ ys = sym is ∙ js in cc

module _ (files : FilesAreUnique) (codes : CodesAreUnique) (none : NoFileIsFaulty) (faults : FaultsAreUnique) (text : List ℕ) where
  same_fault : (f g : CodeNo) → IsFaultyCode text f → IsFaultyCode text g → f ≡ g
  same_fault f g x y =
      let raws = (files x.file y.file x.is y.is (sym x.stands ∙ y.stands)).1 in
      let first : IsFirstFault ARRIVAL WIDE y.is.raw f = subst (λ r. IsFirstFault ARRIVAL WIDE r f) raws x.first in
      begins_once f g first.0 y.first.0 (code_faults ARRIVAL WIDE y.is.raw) first.1 y.first.1

  -- what a text with a fault spells
  spells : (f : CodeNo) → (x : IsFaultyCode text f) → Spells text x.is.raw
  spells f x = record { v = x.is.v; suite = x.is.suite; spellable = x.is.spellable; stands = x.stands ∙ ap lines_text x.is.stands }

  is_code : (f : CodeNo) → IsSome f → refusal_of f ≢ loading.NoMemory
  is_code verifying.NoMemory some = absurd (cc)
  is_code f some = λ never. absurd (cc)

  not_faulty : (code : CodeValue) (f : CodeNo) → IsVerifiedCode ARRIVAL WIDE code → IsTextOf text code → IsFaultyCode text f → ⊥
  not_faulty code f verified is x =
      is_code f (never_memory x.is.raw f x.first) (not_a_code text x.is.raw f (spells f x) (λ some. x.first) code verified is)

  not_stuck : (code : CodeValue) (n : ℕ) → IsVerifiedCode ARRIVAL WIDE code → IsTextOf text code → IsFirstFaulty text n → ⊥
  not_stuck code n verified is x =
      let never : loading.Line n ≡ loading.NoMemory = handed_on text (loading.Line n) (Err (loading.Line n)) refl x code verified is in
      absurd (cc)

  load_one : (why other : LoadNo) → why ≢ loading.NoMemory → other ≢ loading.NoMemory → IsRefusal text why → IsRefusal text other → why ≡ other
  load_one (loading.Line n) (loading.Line m) some also x y = ap loading.Line (faults text n m x y)
  load_one (loading.Line n) (loading.Code f) some also x y = absurd (none y.file n y.is (subst (λ t. IsFirstFaulty t n) y.stands x))
  load_one (loading.Code f) (loading.Line m) some also x y = absurd (none x.file m x.is (subst (λ t. IsFirstFaulty t m) x.stands y))
  load_one (loading.Code f) (loading.Code g) some also x y = ap loading.Code (same_fault f g x y)
  load_one loading.NoMemory other some also x y = absurd (some refl)
  load_one why loading.NoMemory some also x y = absurd (also refl)

  load_none : (why : LoadNo) (code : CodeValue) → why ≢ loading.NoMemory → IsVerifiedCode ARRIVAL WIDE code → IsTextOf text code → IsRefusal text why → ⊥
  load_none (loading.Line n) code some verified is x = not_stuck code n verified is x
  load_none (loading.Code f) code some verified is x = not_faulty code f verified is x
  load_none loading.NoMemory code some verified is x = some refl

  code_one : HasOneAnswer (CodeIs text)
  code_one (refused s) (refused t) (why, is, some, x) (other, js, also, y) = ap refused (is ∙ ap BadRoleFile (load_one why other some also x y) ∙ sym js)
  code_one (refused s) (given code) (why, is, some, x) (verified, y) = absurd (load_none why code some verified y x)
  code_one (given code) (refused t) (verified, x) (why, is, some, y) = absurd (load_none why code some verified x y)
  code_one (given one) (given other) (verified, x) (also, y) = ap given (codes text one other verified also x y)

module _ (role_files : FilesAreUnique) (codes : CodesAreUnique) (none : NoFileIsFaulty) (faults : FaultsAreUnique) (files : List ℕ → Option (List ℕ)) where
  pub code_in_file_one : (name : List ℕ) → HasOneAnswer (CodeInFile files name)
  code_in_file_one name = then_one (FileIs files name ROLE_FILE_LIMIT) CodeIs (file_one files name ROLE_FILE_LIMIT) (code_one role_files codes none faults)

module _ (fits : FitIsUnique) (files : List ℕ → Option (List ℕ)) where
  pub values_in_file_one : (name : List ℕ) (names : List (List ℕ)) → HasOneAnswer (ValuesInFile files name names)
  values_in_file_one name names = then_one (FileIs files name VALUES_LIMIT) (ValuesAre names) (file_one files name VALUES_LIMIT) (values_one fits names)

  pub errand_of_one : (values : List ℕ) (host_seed : Option (List ℕ)) (code : CodeValue) → HasOneAnswer (ErrandOf files values host_seed code)
  errand_of_one values host_seed code =
      then_one _ _ (values_in_file_one values (take_texts code.instrs)) (λ fitted.
      then_one _ _ (seed_one (draws code) fitted.seed host_seed) (λ seed.
      is_one (record { code = code; initial = fitted.values; seed = seed })))

module _ (narrations : NarrationsAreUnique) (refusals : RefusalsAreUnique) (none : NoneIsBoth) (files : List ℕ → Option (List ℕ)) where
  pub narration_in_file_one : (name : List ℕ) → HasOneAnswer (NarrationInFile files name)
  narration_in_file_one name = then_one (FileIs files name NARRATION_LIMIT) NarrationIs (file_one files name NARRATION_LIMIT) (narration_one narrations refusals none)

  pub protocol_in_file_one : (name : List ℕ) → HasOneAnswer (ProtocolInFile files name)
  protocol_in_file_one name = then_one (NarrationInFile files name) ProtocolIs (narration_in_file_one name) protocol_one

  pub sendable_one : (narration : List ℕ) → HasOneAnswer (SendableInFile files narration)
  sendable_one narration =
      then_one (ProtocolInFile files narration) SendableOf (protocol_in_file_one narration) (λ p. then_one _ _ (send_one p) (λ u. is_one p))

  pub part_one : (narration name : List ℕ) → HasOneAnswer (PartInFile files narration name)
  part_one narration name =
      then_one (ProtocolInFile files narration) (λ p. PartOf p name) (protocol_in_file_one narration) (λ p.
      then_one _ _ (role_one p name) (λ role. then_one _ _ (send_one p) (λ u. is_one (record { protocol = p; role = role }))))

-- ---- refusals

-- no fault, and before the wire is reached
abbrev pub IsQuiet : Status → Type 0
IsQuiet s = (is_fault s ≡ false) × (phase_of s ≡ before_reach)

pub record RefusesQuietly {A : Type 0} (step : Answer A → Type 0) : Type 0 where
  pub each : (s : Status) → step (refused s) → IsQuiet s

pub quiet_as : (s t : Status) → s ≡ t → IsQuiet t → IsQuiet s
quiet_as s t is quiet = (ap is_fault is ∙ quiet.0, ap phase_of is ∙ quiet.1)

pub then_quiet : {A B : Type 0} {first : Answer A → Type 0} {next : A → Answer B → Type 0} → RefusesQuietly first → ((a : A) → RefusesQuietly (next a)) → RefusesQuietly (InTurn first next)
then_quiet {A} {B} {first} {next} quiet each = record { each = by } where
  by : (s : Status) → InTurn first next (refused s) → IsQuiet s
  by s (inl (t, ft, e)) = quiet_as s t (same_refusal {A = B} s t e) (quiet.each t ft)
  by s (inr (a, ga, n)) = (each a).each s n

pub is_quiet : {A : Type 0} (a : A) → RefusesQuietly (AnswersWith a)
is_quiet a = record { each = λ s is. not_both s a is }

pub file_quiet : (files : List ℕ → Option (List ℕ)) (name : List ℕ) (limit : ℕ) → RefusesQuietly (FileIs files name limit)
file_quiet files name limit = record { each = λ s is. quiet_as s _ is.0 (refl, refl) }

narration_quiet : (text : List ℕ) → RefusesQuietly (NarrationIs text)
narration_quiet text = record { each = λ s why. quiet_as s _ why.1 (refl, refl) }

pub protocol_quiet : (n : Narration) → RefusesQuietly (ProtocolIs n)
protocol_quiet n = record { each = λ s why. quiet_as s _ why.1 (refl, refl) }

pub role_quiet : (p : ProtocolValue) (name : List ℕ) → RefusesQuietly (RoleIs p name)
role_quiet p name = record { each = λ s why. quiet_as s _ why.0 (refl, refl) }

pub send_quiet : (p : ProtocolValue) → RefusesQuietly (AllSend p)
send_quiet p = record { each = λ s why. quiet_as s _ why.5 (refl, refl) }

code_quiet : (text : List ℕ) → RefusesQuietly (CodeIs text)
code_quiet text = record { each = λ s why. quiet_as s _ why.1 (refl, refl) }

values_quiet : (names : List (List ℕ)) (text : List ℕ) → RefusesQuietly (ValuesAre names text)
values_quiet names text = record { each = λ s why. quiet_as s _ why.1 (refl, refl) }

pub seed_quiet : (makes : Bool) (told host_seed : Option (List ℕ)) → RefusesQuietly (SeedIs makes told host_seed)
seed_quiet makes told host_seed = record { each = λ s why. quiet_as s _ why.0 (refl, refl) }

module _ (files : List ℕ → Option (List ℕ)) where
  pub narration_in_file_quiet : (name : List ℕ) → RefusesQuietly (NarrationInFile files name)
  narration_in_file_quiet name = then_quiet (file_quiet files name NARRATION_LIMIT) narration_quiet

  pub part_quiet : (narration name : List ℕ) → RefusesQuietly (PartInFile files narration name)
  part_quiet narration name =
      then_quiet (then_quiet (narration_in_file_quiet narration) protocol_quiet) (λ (p : ProtocolValue).
      then_quiet (role_quiet p name) (λ (role : ℕ). then_quiet (send_quiet p) (λ (u : Unit {0}). is_quiet _)))

  pub code_in_file_quiet : (name : List ℕ) → RefusesQuietly (CodeInFile files name)
  code_in_file_quiet name = then_quiet (file_quiet files name ROLE_FILE_LIMIT) code_quiet

  pub values_in_file_quiet : (name : List ℕ) (names : List (List ℕ)) → RefusesQuietly (ValuesInFile files name names)
  values_in_file_quiet name names = then_quiet (file_quiet files name VALUES_LIMIT) (values_quiet names)

  pub errand_of_quiet : (values : List ℕ) (host_seed : Option (List ℕ)) (code : CodeValue) → RefusesQuietly (ErrandOf files values host_seed code)
  errand_of_quiet values host_seed code =
      then_quiet (values_in_file_quiet values (take_texts code.instrs)) (λ (fitted : Fitted).
      then_quiet (seed_quiet (draws code) fitted.seed host_seed) (λ (seed : List ℕ). is_quiet _))
