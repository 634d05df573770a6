-- A narration's file has one answer, with the programs of its roles, and its refusals come before the wire
-- is reached.
use Rattle.std.proofs.Common.{◌≡◌, ℕ, Bool, true, false, List, Some, None, refl, sym, ap, ◌∙◌, subst, inl, inr}
use Rattle.std.specs.Prelude.{◌⊎◌}
use Rattle.anb_read.specs.Laws.{NarrationsAreUnique, RefusalsAreUnique, NoneIsBoth}
use Rattle.anb_protocol.specs.Protocols.{ProtocolValue}
use Rattle.anb_protocol.specs.Texts.{known_names}
use Rattle.anb_values.specs.Fit.{FitIsUnique}
use Rattle.anb_values.specs.declared.fitted.Fitted.{Fitted}
use Rattle.anb_values.specs.declared.refusal.ValuesNo.TheVariants.{Long}
use Rattle.anb_status.specs.declared.status.Status.{Status}
use Rattle.anb_status.specs.declared.status.Status.TheVariants.{BadValues, NoMemory, NoRole}
use Rattle.anb_command.specs.Fetches.{Files}
use Rattle.anb_command.specs.Roles.{SendableOf}
use Rattle.anb_command.specs.Steps.{HasOneAnswer, IsFailure, given, refused}
use Rattle.anb_command.proofs.Ones.{RefusesQuietly, is_one, is_quiet, narration_in_file_quiet, protocol_in_file_one, protocol_quiet, quiet_as, send_one, send_quiet, then_one, then_quiet, values_in_file_one, values_in_file_quiet}
use Rattle.anb_stage_commands.specs.CastRoles.{CastInFile, HasRoles, first_absent}
use Rattle.anb_stage_commands.specs.Scenes.{AreShort, SceneBy, SceneInFiles}
use Rattle.anb_stage_commands.specs.Words.{Cast, Staged, names_file}

roles_one : (p : ProtocolValue) (casts : List Cast) → HasOneAnswer (HasRoles p casts)
roles_one p casts (refused s) (refused t) (name, absent, is) (other, also, js) =
    let same : Some name ≡ Some other = sym absent ∙ also in
    let e : name ≡ other = cc in ap refused (is ∙ ap NoRole e ∙ sym js)
roles_one p casts (refused s) (given u) (name, absent, is) none = let never : Some name ≡ None = sym absent ∙ none in absurd (cc)
roles_one p casts (given u) (refused t) none (name, absent, is) = let never : Some name ≡ None = sym absent ∙ none in absurd (cc)
roles_one p casts (given u) (given v) x y = refl

sendable_one : (p : ProtocolValue) → HasOneAnswer (SendableOf p)
sendable_one p = then_one _ _ (send_one p) (λ u. is_one p)

pub cast_one : NarrationsAreUnique → RefusalsAreUnique → NoneIsBoth → (files : Files) (s : Staged) → HasOneAnswer (CastInFile files s)
cast_one narrations refusals none files s =
    then_one _ _ (protocol_in_file_one narrations refusals none files s.narration) (λ p.
    then_one _ _ (roles_one p s.casts) (λ u. sendable_one p))

roles_quiet : (p : ProtocolValue) (casts : List Cast) → RefusesQuietly (HasRoles p casts)
roles_quiet p casts = record { each = λ s why. quiet_as s _ why.2 (refl, refl) }

pub cast_quiet : (files : Files) (s : Staged) → RefusesQuietly (CastInFile files s)
cast_quiet files s =
    then_quiet (then_quiet (narration_in_file_quiet files s.narration) protocol_quiet) (λ (p : ProtocolValue).
    then_quiet (roles_quiet p s.casts) (λ (u : Unit {0}). then_quiet (send_quiet p) (λ (v : Unit {0}). is_quiet p)))

-- a role that isn't there is refused, or memory is wanting
pub absent_role : (p : ProtocolValue) (casts : List Cast) (name : List ℕ) (status : Status) → first_absent p casts ≡ Some name
    → (status ≡ NoRole name) ⊎ (status ≡ NoMemory) → IsFailure status (λ file. ⊥) (HasRoles p casts (refused status))
absent_role p casts name status absent (inl is) =
    subst (λ (t : Status). IsFailure t (λ file. ⊥) (HasRoles p casts (refused t))) (sym is) (name, absent, refl)
absent_role p casts name status absent (inr is) = subst (λ (t : Status). IsFailure t (λ file. ⊥) (HasRoles p casts (refused t))) (sym is) tt

-- ---- with values

short_one : (p : ProtocolValue) (fitted : Fitted) → HasOneAnswer (AreShort p fitted)
short_one p fitted (refused s) (refused t) (label, long, is) (other, also, js) =
    let same : Some label ≡ Some other = sym long ∙ also in
    let e : label ≡ other = cc in ap refused (is ∙ ap (λ l. BadValues (Long l)) e ∙ sym js)
short_one p fitted (refused s) (given u) (label, long, is) none = let never : Some label ≡ None = sym long ∙ none in absurd (cc)
short_one p fitted (given u) (refused t) none (label, long, is) = let never : Some label ≡ None = sym long ∙ none in absurd (cc)
short_one p fitted (given u) (given v) x y = refl

short_quiet : (p : ProtocolValue) (fitted : Fitted) → RefusesQuietly (AreShort p fitted)
short_quiet p fitted = record { each = λ s why. quiet_as s _ why.2 (refl, refl) }

scene_by_one : FitIsUnique → (files : Files) (s : Staged) (in_file : Bool) (p : ProtocolValue) → HasOneAnswer (SceneBy files s in_file p)
scene_by_one fits files s false p = is_one _
scene_by_one fits files s true p =
    then_one _ _ (values_in_file_one fits files s.values (known_names p)) (λ fitted.
    then_one _ _ (short_one p fitted) (λ u. is_one _))

pub scene_one : NarrationsAreUnique → RefusalsAreUnique → NoneIsBoth → FitIsUnique → (files : Files) (s : Staged) → HasOneAnswer (SceneInFiles files s)
scene_one narrations refusals none fits files s =
    then_one _ _ (cast_one narrations refusals none files s) (λ p. scene_by_one fits files s (names_file s.values) p)

scene_by_quiet : (files : Files) (s : Staged) (in_file : Bool) (p : ProtocolValue) → RefusesQuietly (SceneBy files s in_file p)
scene_by_quiet files s false p = is_quiet _
scene_by_quiet files s true p =
    then_quiet (values_in_file_quiet files s.values (known_names p)) (λ (fitted : Fitted).
    then_quiet (short_quiet p fitted) (λ (u : Unit {0}). is_quiet _))

pub scene_quiet : (files : Files) (s : Staged) → RefusesQuietly (SceneInFiles files s)
scene_quiet files s = then_quiet (cast_quiet files s) (λ (p : ProtocolValue). scene_by_quiet files s (names_file s.values) p)
