-- What is answered where the children are told is what is due.
use Rattle.std.proofs.Common.{◌≡◌, ◌⊎◌, ℕ, Bool, true, false, List, [], length, get_or, Option, Some, None, refl, ap, sym, ◌∙◌, subst, inl, inr}
use Rattle.std.specs.Prelude.{IfSome}
use Rattle.anb_base.proofs.Moving.{put_nothing}
use Rattle.anb_frame.specs.Cuts.{Tail}
use Rattle.anb_read.specs.Laws.{NarrationsAreUnique, RefusalsAreUnique, NoneIsBoth}
use Rattle.anb_protocol.specs.Protocols.{ProtocolValue}
use Rattle.anb_stage.specs.Children.{Child}
use Rattle.anb_stage.specs.Due.{IsDue, RelaysAreDue, due_of}
use Rattle.anb_stage.specs.Relays.{IsRefused, ends_in}
use Rattle.anb_stage.proofs.Due.{IsOfOutputs, due_of_outputs}
use Rattle.anb_stage.specs.declared.refusal.RelayNo.{RelayNo}
use Rattle.anb_stage.specs.declared.refusal.RelayNo.TheVariants as no
use Rattle.anb_values.specs.Fit.{FitIsUnique}
use Rattle.anb_status.specs.declared.status.Status.{Status}
use Rattle.anb_status.specs.declared.status.Status.TheVariants.{NoMemory}
use Rattle.anb_command.specs.Fetches.{Files}
use Rattle.anb_status.specs.Statuses.{is_fault}
use Rattle.anb_command.specs.Steps.{Answer, HasOneAnswer, IsFailure, given, refused}
use Rattle.anb_command.specs.Writing.{IsWriting, IsWritingOne, IsWritten, WritesLess}
use Rattle.anb_command.proofs.Chains.{told_map}
use Rattle.anb_command.proofs.Failing.{IsFailure-map}
use Rattle.anb_command.proofs.Ones.{IsQuiet, RefusesQuietly, not_both, one_settled, quiet_as, same_refusal, then_one, then_quiet}
use Rattle.anb_command.proofs.Written.{faulty, refusal, the_one, written}
use Rattle.anb_stage_commands.specs.Scenes.{IsReadForScene, Scene, SceneInFiles}
use Rattle.anb_stage_commands.specs.Words.{Staged}
use Rattle.anb_stage_commands.specs.StageCommand.{AreToldOf, DoesStage, StageOf, StageText, answer_of, fault_status, status_after, status_of}
use Rattle.anb_stage_commands.specs.Relaying.{FailsInFile, FailsRelaying, Relays, RelaysInFile, Stay}
use Rattle.anb_stage_commands.proofs.Casting.{scene_one, scene_quiet}
use Rattle.anb_stage_commands.proofs.Outcomes.{staged_refused, staged_text}

-- where a fault came, or memory is wanting, and nothing is written
nothing_of : (Due : Answer (List ℕ) → Type 0) (w : Option (List ℕ)) (status : Status) → is_fault status ≡ true → WritesLess Due status [] → IsWriting Due status w w
nothing_of Due w status fault less = record {
  is = λ quiet. faulty (sym fault ∙ quiet);
  only = λ quiet. faulty (sym fault ∙ quiet);
  cut_short = λ _. ([], less, put_nothing w);
}

no_memory : (Due : Answer (List ℕ) → Type 0) (w : Option (List ℕ)) (status : Status) → status ≡ NoMemory → IsWriting Due status w w
no_memory Due w status is = subst (λ (t : Status). IsWriting Due t w w) (sym is) (nothing_of Due w NoMemory refl (inl refl))

status_quiet : (p : ProtocolValue) (r : RelayNo) → IsOfOutputs r → IsQuiet (status_of p r)
status_quiet p (no.Fault role) never = absurd never
status_quiet p no.NoMemory never = absurd never
status_quiet p (no.Ended action) is = (refl, refl)
status_quiet p (no.Cut action have need) is = (refl, refl)
status_quiet p (no.Long action len) is = (refl, refl)
status_quiet p (no.Bad role status) is = (refl, refl)

module _ (narrations : NarrationsAreUnique) (refusals : RefusalsAreUnique) (none : NoneIsBoth) (fits : FitIsUnique) (due : RelaysAreDue) (s : Staged) (old new : ℕ → Child) where
  -- in a file, where the children are told
  module _ (files : Files) (outputs : ℕ → List (List ℕ)) (tails : ℕ → Tail) (statuses : ℕ → ℕ) (told : AreToldOf s files outputs tails statuses old) (w now : Option (List ℕ)) where
    abbrev Text : Answer (List ℕ) → Type 0
    Text = StageText s files outputs tails statuses

    abbrev answer : Scene → Option RelayNo → Answer (List ℕ)
    answer p = answer_of s files outputs tails statuses p

    abbrev due_in : Scene → Option RelayNo
    due_in p = due_of outputs tails statuses (length p.protocol.roles) (ends_in p.protocol)

    one : HasOneAnswer Text
    one = then_one (SceneInFiles files s) (StageOf s files outputs tails statuses) (scene_one narrations refusals none fits files s) (λ p x y is js. is ∙ sym js)

    answer_quiet : (p : Scene) (o : Option RelayNo) → IfSome o IsOfOutputs → (t : Status) → refused t ≡ answer p o → IsQuiet t
    answer_quiet p None of t is = not_both t _ is
    answer_quiet p (Some r) of t is = quiet_as t (status_of p.protocol r) (same_refusal t (status_of p.protocol r) is) (status_quiet p.protocol r of)

    quiet : RefusesQuietly Text
    quiet = then_quiet (scene_quiet files s) (λ (p : Scene). record {
      each = λ t is. answer_quiet p (due_in p) (due_of_outputs outputs tails statuses (length p.protocol.roles) (ends_in p.protocol)) t is;
    })

    whole : (p : Scene) (text : List ℕ) (status : Status) → SceneInFiles files s (given p) → Relays s old new p text → IsWritten text status w now → IsWriting Text status w now
    whole p text status f relays is =
        let nothing : due_in p ≡ None = (due outputs tails statuses (length p.protocol.roles) old new (p.asked) (ends_in p.protocol) (told p f)).0 relays.relays in
        let text_is : given text ≡ answer p (due_in p) = rw nothing (ap given (relays.tells outputs tails (told p f).cut)) in
        written Text (one_settled Text one) w now text status (inr (p, f, text_is)) is

    refused_file : (status : Status) → IsFailure status (IsReadForScene files s) (SceneInFiles files s (refused status)) → IsWriting Text status w w
    refused_file status fails =
        refusal Text (one_settled Text one) w w status (λ file. Unit {0}) quiet (
        IsFailure-map status (IsReadForScene files s) (λ file. Unit {0}) _ _ (λ file read. tt) (λ f. inl (status, f, refl)) fails
        ) (put_nothing w)

    by_fault : (name : List ℕ) (limit : Option ℕ) (silent : Bool) → IsWriting Text (fault_status name limit silent) w w
    by_fault name None silent = nothing_of Text w _ refl refl
    by_fault name (Some seconds) false = nothing_of Text w _ refl refl
    by_fault name (Some seconds) true = nothing_of Text w _ refl refl

    by_refusal : (p : Scene) (r : RelayNo) → SceneInFiles files s (given p) → IsRefused (length p.protocol.roles) old new (p.asked) (ends_in p.protocol) r → IsWriting Text (status_after s.limit new p.protocol r) w w
    by_refusal p r f is = by r ((due outputs tails statuses (length p.protocol.roles) old new (p.asked) (ends_in p.protocol) (told p f)).1 r is) where
      due_status : (q : RelayNo) → due_in p ≡ Some q → Text (refused (status_of p.protocol q))
      due_status q e = inr (p, f, ap (answer p) (sym e))

      by : (q : RelayNo) → IsDue outputs tails statuses (length p.protocol.roles) (ends_in p.protocol) q → IsWriting Text (status_after s.limit new p.protocol q) w w
      by (no.Fault role) e = by_fault (get_or p.protocol.roles role []) s.limit (new role).silent
      by no.NoMemory e = nothing_of Text w NoMemory refl (inl refl)
      by (no.Ended action) e = refusal Text (one_settled Text one) w w _ (λ file. Unit {0}) quiet (due_status (no.Ended action) e) (put_nothing w)
      by (no.Cut action have need) e = refusal Text (one_settled Text one) w w _ (λ file. Unit {0}) quiet (due_status (no.Cut action have need) e) (put_nothing w)
      by (no.Long action len) e = refusal Text (one_settled Text one) w w _ (λ file. Unit {0}) quiet (due_status (no.Long action len) e) (put_nothing w)
      by (no.Bad role status) e = refusal Text (one_settled Text one) w w _ (λ file. Unit {0}) quiet (due_status (no.Bad role status) e) (put_nothing w)

    fails : (p : Scene) (status : Status) → SceneInFiles files s (given p) → FailsRelaying s old new p status → IsWriting Text status w w
    fails p status f (inr (is, some)) = no_memory Text w status is
    fails p status f (inl r) = subst (λ (t : Status). IsWriting Text t w w) (sym r.is) (by_refusal p r.refusal f r.refuses)

    pub answers_text : (p : Scene) (text : List ℕ) (status : Status) → SceneInFiles files s (given p) → Relays s old new p text → IsWritten text status w now → IsWritingOne Text status w now
    answers_text p text status f relays is = the_one Text one w now status (whole p text status f relays is)

    pub answers_refusal : (status : Status)
        → (IsFailure status (IsReadForScene files s) (SceneInFiles files s (refused status)) × Stay s old new)
        ⊎ ((p : Scene) × SceneInFiles files s (given p) × FailsRelaying s old new p status) → IsWritingOne Text status w w
    answers_refusal status (inl (f, stay)) = the_one Text one w w status (refused_file status f)
    answers_refusal status (inr (p, f, r)) = the_one Text one w w status (fails p status f r)

  module _ (told : Option Files) where
    pub does_text : (text : List ℕ) (status : Status) (w now : Option (List ℕ)) → RelaysInFile s old new told text → IsWritten text status w now → DoesStage s old new w now told status
    does_text text status w now relays is = record {
      stages = staged_text s old new told text status w now relays is;
      answers = told_map told (λ files r. λ outputs tails statuses all. answers_text files outputs tails statuses all w now r.0 text status r.1 r.2 is) relays;
    }

    pub does_refused : (status : Status) (w : Option (List ℕ)) → FailsInFile s old new told status → DoesStage s old new w w told status
    does_refused status w fails = record {
      stages = staged_refused s old new told status w fails;
      answers = told_map told (λ files f. λ outputs tails statuses all. answers_refusal files outputs tails statuses all w w status f) fails;
    }
