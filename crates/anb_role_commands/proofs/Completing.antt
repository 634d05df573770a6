-- A play that hears all it waits for, and where everything agrees, is done.
use Rattle.std.proofs.Common.{◌≡◌, ◌≤◌, ℕ, ◌+◌, ◌⊎◌, Bool, true, false, List, [], ◌∷◌, ◌++◌, length, Option, Some, None, refl, sym, ap, ◌∙◌, subst, inl, inr}
use Rattle.std.specs.Prelude.{All}
use Rattle.std.proofs.lemmas.List.{append_cancel_left, append_cancel_right}
use Rattle.anb_base.specs.Bytes.{IsBytes}
use Rattle.anb_base.specs.Wires.{WireState}
use Rattle.anb_base.specs.declared.TheConstants.{ARRIVAL}
use Rattle.anb_base.proofs.Strings.{bytes_right}
use Rattle.anb_frame.specs.Frames.{frame, frames}
use Rattle.anb_frame.specs.Cuts.{Tail, Cut, HasCut}
use Rattle.anb_seal.specs.Streams.{draw_of}
use Rattle.anb_term.specs.Tree.{Tree}
use Rattle.anb_term.specs.Value.{Meaning}
use Rattle.anb_plays.specs.Plans.{Event, know, fresh, send, recv, known}
use Rattle.anb_plays.specs.Plays.{End, done, Played, Walk, Play}
use Rattle.anb_protocol.specs.Plays.{events_of, meaning_of}
use Rattle.anb_role_commands.specs.Completions.{AgreesAfterEach, AgreesThroughout, HearsAll}
use Rattle.anb_role_commands.specs.Jobs.{IsRead, Job, JobIs}
use Rattle.anb_command.specs.Outcomes.{IsOutcome, IsPlayed, LeavesAt, RunsOver, status_at}
use Rattle.anb_role_commands.specs.PlayCommand.{CompletesPlay, DoesPlay, PlayOf}
use Rattle.anb_status.specs.Statuses.{is_fault}
use Rattle.anb_command.specs.Steps.{Answer, refused, given, HasOneAnswer}
use Rattle.anb_status.specs.declared.status.Status.{Status}
use Rattle.anb_command.specs.Fetches.{Files, IfTold}
use Rattle.anb_status.specs.declared.status.Status.TheVariants.{Done, NoMemory}
use Rattle.anb_command.proofs.Cutting.{cut_behind}
use Rattle.anb_command.proofs.Chains.{told_map}
use Rattle.anb_command.proofs.Ones.{same_given, not_both}

-- it is done, and left these arrivals
pub record Finishes {A : Type 0} (p : Played A) (more : List A) : Type 0 where
  pub ends : p.end ≡ done
  pub leaves : p.left ≡ more

module _ {A : Type 0} (m : Meaning A) (draw : ℕ → A) where
  walk_finishes : (es : List Event) (frame : List Tree) (vs : List A) (e i : ℕ) (heard more : List A) (p : Played A)
      → AgreesAfterEach m draw es frame vs i heard → Walk m draw es frame vs e i (heard ++ more) p → Finishes p more
  walk_finishes [] frame vs e i heard more p none walk =
      record { ends = ap (λ (q : Played A). q.end) walk; leaves = ap (λ (q : Played A). q.left) walk ∙ ap (λ h. h ++ more) none }
  walk_finishes (know t ∷ es) frame vs e i heard more p agrees walk = walk_finishes es frame vs e i heard more p agrees walk
  walk_finishes (fresh t ∷ es) frame vs e i heard more p agrees walk = walk_finishes es (frame ++ t ∷ []) (vs ++ draw i ∷ []) e (i + 1) heard more p agrees walk
  walk_finishes (send t ∷ es) frame vs e i heard more p agrees (b, q, gives, walk, is) =
      let rest = walk_finishes es frame vs (e + 1) i heard more q agrees walk in
      record { ends = ap (λ (r : Played A). r.end) is ∙ rest.ends; leaves = ap (λ (r : Played A). r.left) is ∙ rest.leaves }
  walk_finishes (recv t ∷ es) frame vs e i [] more p never walk = absurd never
  walk_finishes (recv t ∷ es) frame vs e i (x ∷ heard) more p agrees (inl (agree, walk)) =
      walk_finishes es (frame ++ t ∷ []) (vs ++ x ∷ []) (e + 1) i heard more p agrees.1 walk
  walk_finishes (recv t ∷ es) frame vs e i (x ∷ heard) more p agrees (inr (disagree, is)) = absurd (disagree agrees.0)

  pub play_finishes : (plan : List Event) (init heard more : List A) (p : Played A) → AgreesThroughout m draw plan init heard → Play m draw plan init (heard ++ more) p → Finishes p more
  play_finishes plan init heard more p agrees (inl (agree, walk)) = walk_finishes plan (known plan) init 0 0 heard more p agrees.1 walk
  play_finishes plan init heard more p agrees (inr (disagree, is)) = absurd (disagree agrees.0)

-- what is left behind a play that is done
leaves_later : (e : End) (left later rest : List ℕ) (heard more unused : List (List ℕ)) (tail : Tail) → e ≡ done → unused ≡ more → left ≡ frames heard ++ later
    → LeavesAt e left (heard ++ more) unused tail rest → rest ≡ later
leaves_later e left later rest heard more unused tail ends unused_is is leaves =
    let l : LeavesAt done left (heard ++ more) unused tail rest = subst (λ (x : End). LeavesAt x left (heard ++ more) unused tail rest) ends leaves in
    by l
  where
    by : (used : List (List ℕ)) × (heard ++ more ≡ used ++ unused) × (left ≡ frames used ++ rest) → rest ≡ later
    by (used, parts, read) =
        let same : heard ≡ used = append_cancel_right heard used more (parts ∙ ap (λ (u : List (List ℕ)). used ++ u) unused_is) in
        append_cancel_left (frames used) rest later (sym read ∙ is ∙ ap (λ (h : List (List ℕ)). frames h ++ later) same)

-- An input begins with frames over which what is asked for is done, whatever else arrives.
pub record HearsEnough {A : Type 0} (IsRunOf : A → List (List ℕ) → Played (List ℕ) → Type 0) (asked : A) (left later : List ℕ) : Type 0 where
  pub heard : List (List ℕ)
  pub short : All (λ (x : List ℕ). length x ≤ ARRIVAL) heard
  pub is : left ≡ frames heard ++ later
  pub finishes : (more : List (List ℕ)) (p : Played (List ℕ)) → IsRunOf asked (heard ++ more) p → Finishes p more

module _ {A : Type 0} (IsRunOf : A → List (List ℕ) → Played (List ℕ) → Type 0) (exists : HasCut ARRIVAL) where
  -- an input that has all is cut so that what is asked for is done over it
  completes_over : (Prepares : Answer A → Type 0) → HasOneAnswer Prepares → (left : List ℕ) (now written written_now : Option (List ℕ)) (s : Status)
      → ((arrivals : List (List ℕ)) (tail : Tail) → IsBytes left → Cut ARRIVAL left arrivals tail → IsOutcome IsRunOf Prepares left arrivals tail s now written written_now)
      → (is_fault s ≡ true → s ≡ NoMemory) → (asked : A) (later : List ℕ) → IsBytes left → Prepares (given asked) → HearsEnough IsRunOf asked left later
      → ((s ≡ Done) × (now ≡ Some later)) ⊎ (s ≡ NoMemory)
  completes_over Prepares one left now written written_now s does only_memory asked later bytes asks all = by (is_fault s) refl where
    cut_later : (bs : List (List ℕ)) × (tail : Tail) × Cut ARRIVAL later bs tail
    cut_later = exists later (bytes_right (frames all.heard) later (subst IsBytes all.is bytes))

    over : IsOutcome IsRunOf Prepares left (all.heard ++ cut_later.0) cut_later.1 s now written written_now
    over = does (all.heard ++ cut_later.0) cut_later.1 bytes (cut_behind left later all.heard cut_later.0 cut_later.1 all.short all.is cut_later.2)

    finished : (rest : List ℕ) (other : A) → Prepares (given other) → now ≡ Some rest → (out : List ℕ) → IsPlayed IsRunOf other left (all.heard ++ cut_later.0) cut_later.1 s out rest → (s ≡ Done) × (now ≡ Some later)
    finished rest other asks' now_is out played =
        let is_asked : other ≡ asked = same_given other asked (one (given other) (given asked) asks' asks) in
        let runs : IsRunOf asked (all.heard ++ cut_later.0) played.play = subst (λ (a : A). IsRunOf a (all.heard ++ cut_later.0) played.play) is_asked played.plays in
        let f = all.finishes cut_later.0 played.play runs in (
          played.status_is ∙ ap (λ e. status_at e cut_later.1) f.ends,
          now_is ∙ ap Some (leaves_later played.play.end left later rest all.heard cut_later.0 played.play.left cut_later.1 f.ends f.leaves all.is played.leaves),
        )

    by : (b : Bool) → is_fault s ≡ b → ((s ≡ Done) × (now ≡ Some later)) ⊎ (s ≡ NoMemory)
    by true fault = inr (only_memory fault)
    by false quiet =
        let outcome = over.is quiet in
        elim outcome.2 [
          | inl refusal ↦ not_both s asked (one (refused s) (given asked) refusal.refuses asks)
          | inr played ↦ inl (finished outcome.1 played.0 played.1 outcome.4 outcome.0 played.2)
        ]

  -- what a command does that runs such things over the input
  module _ (Hears : A → List ℕ → List ℕ → Type 0) (Prepares : Files → Answer A → Type 0) (one : (files : Files) → HasOneAnswer (Prepares files))
      (enough : (files : Files) (asked : A) (left later : List ℕ) → Prepares files (given asked) → Hears asked left later → HearsEnough IsRunOf asked left later) where
    completes_input : (files : Files) (left now written written_now : Option (List ℕ)) (s : Status)
        → IfTold left (λ input. (arrivals : List (List ℕ)) (tail : Tail) → IsBytes input → Cut ARRIVAL input arrivals tail
        → IsOutcome IsRunOf (Prepares files) input arrivals tail s now written written_now)
        → (is_fault s ≡ true → s ≡ NoMemory)
        → IfTold left (λ input. (asked : A) (later : List ℕ) → IsBytes input → Prepares files (given asked) → Hears asked input later
        → ((s ≡ Done) × (now ≡ Some later)) ⊎ (s ≡ NoMemory))
    completes_input files None now written written_now s outcome only_memory = tt
    completes_input files (Some left) now written written_now s outcome only_memory = λ asked later bytes asks all.
        completes_over (Prepares files) (one files) left now written written_now s outcome only_memory asked later bytes asks (enough files asked left later asks all)

    pub completes_run : (Reads : Files → List ℕ → Type 0) (told : Option Files) (old new : WireState) (s : Status) → RunsOver IsRunOf Prepares Reads told old new s → (is_fault s ≡ true → s ≡ NoMemory)
        → IfTold told (λ files. IfTold old.left (λ left. (asked : A) (later : List ℕ) → IsBytes left → Prepares files (given asked) → Hears asked left later
        → ((s ≡ Done) × (new.left ≡ Some later)) ⊎ (s ≡ NoMemory)))
    completes_run Reads told old new s does only_memory =
        told_map told (λ files outcome. completes_input files old.left new.left old.written new.written s outcome only_memory) does.outcome

-- ---- a play

hears_enough : (job : Job) (left later : List ℕ) → HearsAll job left later → HearsEnough PlayOf job left later
hears_enough job left later all = record {
  heard = all.heard;
  short = all.short;
  is = all.is;
  finishes = λ more p plays. play_finishes (meaning_of job.protocol) (draw_of job.seed 0) (events_of job.protocol job.role) job.initial all.heard more p all.agrees plays;
}

module _ (narration name values : List ℕ) (host_seed : Option (List ℕ)) (one : (files : Files) → HasOneAnswer (JobIs files narration name values host_seed)) (exists : HasCut ARRIVAL) where
  pub completes_play : (told : Option Files) (old new : WireState) (s : Status) → DoesPlay narration name values told host_seed old new s → (is_fault s ≡ true → s ≡ NoMemory)
      → CompletesPlay narration name values told host_seed old new s
  completes_play told old new s does only_memory =
      completes_run PlayOf exists HearsAll (λ files. JobIs files narration name values host_seed) one (λ files job left later asks all. hears_enough job left later all)
      (λ files. IsRead files narration name values) told old new s does only_memory
