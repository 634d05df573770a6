-- For proofs alone: who is told of the cases, and what becomes of a store.
use Rattle.std.specs.Prelude.{◌≡◌, ◌≢◌, ◌⊎◌, ◌≤◌, ℕ, ◌+◌, List, [], ◌∷◌, ◌++◌, length, slice_get, Some}
use Rattle.std.proofs.Common.{arith, ap, refl, sym, subst, ◌∙◌, inl, inr}
use Rattle.anb_attempts.specs.declared.attempts.Attempt.{Attempt}
use Rattle.anb_attempts.specs.declared.attempts.Scene.{Scene}
use Rattle.anb_base.specs.Moves.{Rose}
use Rattle.anb_base.proofs.Moving.{Rose-later}
use Rattle.anb_command.specs.Steps.{given}
use Rattle.anb_partner.specs.Trials.{Trial}
use Rattle.anb_recorded.specs.Names.{values_in}
use Rattle.anb_recorded.specs.Outcomes.{AreAbsent}
use Rattle.anb_recorded.specs.declared.ended.Missing.{Missing}
use Rattle.anb_recorded.specs.declared.ended.Missing.TheVariants as missing
use Rattle.anb_recording.specs.Joining.{others_joined, others_still}
use Rattle.anb_recording.specs.Journals.{IsThere, OthersStay}
use Rattle.anb_recording.specs.Lines.{lines_text}
use Rattle.anb_status.specs.declared.status.Status.{Status}
use Rattle.anb_status.specs.declared.status.Status.TheVariants as status
use Rattle.anb_store.specs.Stores.{StoreState, replaced}
use Rattle.anb_transcript.specs.declared.transcript.TranscriptLine.{TranscriptLine}
use Rattle.anb_values.specs.declared.fitted.Fitted.{Fitted}
use Rattle.anb_values_commands.specs.RoleValuesCommand.{OwnIs}
use Rattle.anb_probe_commands.specs.Plays.{ArePlayed, CaseEnd, IsNotStarted, IsTried}
use Rattle.anb_probe_commands.specs.Probings.{Probing}
use Rattle.anb_probe_commands.specs.ProbeCommand.{Agenda, Suit, agenda_of}
use Rattle.anb_probe_commands.specs.ProbeInto.{IsNext}
use Rattle.anb_probe_commands.specs.Records.{HoldsCases, IsOfRecord, transcript_of}
use Rattle.anb_probe_commands.specs.Words.{Trying, order_of}
use Rattle.anb_probe_commands.specs.declared.writing.PlayNo.{PlayNo}
use Rattle.anb_probe_commands.specs.declared.writing.PlayNo.TheVariants.{Failed, NotStarted, NoMemory}

-- what is told of a case that is over: its number, from 0, and what its child heard and said
pub record Told : Type 0 where
  pub case : ℕ
  pub lines : List TranscriptLine

abbrev pub told : (case : ℕ) → List TranscriptLine → Told
told case lines = record { case = case; lines = lines }

-- the same of cases that came to these ends, numbered from here
abbrev pub told_from : (case : ℕ) → List CaseEnd → List Told
told_from case [] = []
told_from case (end ∷ ends) = told case end.lines ∷ told_from (case + 1) ends

-- ---- who is told

-- the child is as it was
abbrev pub IsSame : (old new : Trial) → Type 0
IsSame old new = new ≡ old

-- by what may have become of who was told these
module _ (q : Probing) (scenes : List Scene) (order : List (List ℕ)) (cases : List Attempt) (After : List Told → Type 0) where
  -- the first cases were played, which came to these ends and were told; the child of the next one is so
  module _ (old new : ℕ → Trial) where
    pub record Keeps (Next : (old new : Trial) → Type 0) : Type 0 where
      pub reached : ℕ
      pub ends : List CaseEnd
      pub within : length ends ≤ length cases
      pub played : ArePlayed q scenes order cases reached ends (length ends + 1) old new
      pub next : Next (old (length ends)) (new (length ends))
      pub kept : After (told_from 0 ends)

    -- by why not all were, and by the status
    abbrev pub KeepsLess : PlayNo → Type 0
    KeepsLess NotStarted = Keeps IsNotStarted
    KeepsLess Failed = Keeps IsSame
    KeepsLess NoMemory = (some : List Told) × After some

    abbrev pub KeepsBy : Status → Type 0
    KeepsBy status.NoMemory = (some : List Told) × After some
    KeepsBy end = Keeps (IsNext end)

  -- the case with this number, from 0
  module _ (case reached : ℕ) (old new : Trial) where
    abbrev pub KeepsCase : PlayNo → Type 0
    KeepsCase NotStarted = After []
    KeepsCase Failed = (a : Attempt) × (end : CaseEnd) × (got : ℕ) × (slice_get cases case ≡ Some a)
        × IsTried q scenes order a reached old new end got × After (told case end.lines ∷ [])
    KeepsCase NoMemory = (some : List Told) × After some

-- ---- a store

-- the store behind a case, and behind all of these
abbrev pub put_told : (folder : List ℕ) → StoreState → Told → StoreState
put_told folder store t = replaced store (transcript_of folder (t.case + 1)) (lines_text t.lines)

abbrev pub all_told : (folder : List ℕ) → StoreState → List Told → StoreState
all_told folder store [] = store
all_told folder store (t ∷ more) = all_told folder (put_told folder store t) more

-- The store before and after these were to be put to it, by what is missing before and after.
pub record Goes (folder : List ℕ) (old new : StoreState) (before after : Missing) (some : List Told) : Type 0 where
  pub stuck : before ≢ missing.Nothing → (after ≡ before) × (new ≡ old)
  pub whole : after ≡ missing.Nothing → (before ≡ missing.Nothing) × (new ≡ all_told folder old some)
  pub failed : (name : List ℕ) → after ≡ missing.Unwritten name
      → (before ≡ missing.Unwritten name) ⊎ (IsOfRecord folder name × Rose old.faults new.faults)
  pub there : (name : List ℕ) → after ≡ missing.There name → before ≡ missing.There name
  pub quiet : ((name : List ℕ) → after ≢ missing.Unwritten name) → new.faults ≡ old.faults
  pub never_falls : old.faults ≤ new.faults
  pub others : OthersStay (IsOfRecord folder) old new

goes_nowhere : (folder : List ℕ) (store : StoreState) (m : Missing) → Goes folder store store m m []
goes_nowhere folder store m = record {
  stuck = λ _. (refl, refl);
  whole = λ is. (is, refl);
  failed = λ name is. inl is;
  there = λ name is. is;
  quiet = λ _. refl;
  never_falls = omega arith;
  others = others_still (IsOfRecord folder) store;
}

told_joined : (folder : List ℕ) (store : StoreState) (xs ys : List Told) → all_told folder store (xs ++ ys) ≡ all_told folder (all_told folder store xs) ys
told_joined folder store [] ys = refl
told_joined folder store (x ∷ xs) ys = told_joined folder (put_told folder store x) xs ys

unwritten_some : (m : Missing) (name : List ℕ) → m ≡ missing.Unwritten name → m ≢ missing.Nothing
unwritten_some m name is none = let e : missing.Unwritten name ≡ missing.Nothing = sym is ∙ none in cc

module _ (folder : List ℕ) (a b c : StoreState) (k l m : Missing) (some more : List Told) (one : Goes folder a b k l some) (two : Goes folder b c l m more) where
  failed_joined : (name : List ℕ) → m ≡ missing.Unwritten name → (k ≡ missing.Unwritten name) ⊎ (IsOfRecord folder name × Rose a.faults c.faults)
  failed_joined name is = elim (two.failed name is) [
    | inl mid ↦ elim (one.failed name mid) [
      | inl was ↦ inl was
      | inr rose ↦ inr (rose.0, subst (λ (s : StoreState). Rose a.faults s.faults) (sym (two.stuck (unwritten_some l name mid)).1) rose.1)
    ]
    | inr rose ↦ inr (rose.0, Rose-later a.faults b.faults c.faults one.never_falls rose.1)
  ]

  pub goes_further : Goes folder a c k m (some ++ more)
  goes_further = record {
    stuck = λ not.
        let o = one.stuck not in
        let t = two.stuck (λ is. not (sym o.0 ∙ is)) in
        (t.0 ∙ o.0, t.1 ∙ o.1);
    whole = λ is.
        let t = two.whole is in
        let o = one.whole t.0 in
        (o.0, t.1 ∙ ap (λ (s : StoreState). all_told folder s more) o.1 ∙ sym (told_joined folder a some more));
    failed = failed_joined;
    there = λ name is. one.there name (two.there name is);
    quiet = λ not. two.quiet not ∙ one.quiet (λ name is. not name ((two.stuck (unwritten_some l name is)).0 ∙ is));
    never_falls = omega (arith, one.never_falls, two.never_falls);
    others = others_joined (IsOfRecord folder) a b c one.others two.others;
  }

-- who writes the record goes on: it writes to the same folder of the same store, and says in the same place what is missing
abbrev pub KeepsOn : (name name_now : ℕ) → (folder folder_now : List ℕ) → (place place_now : ℕ) → (old new : StoreState) → (before after : Missing) → List Told → Type 0
KeepsOn name name_now folder folder_now place place_now old new before after some =
    (name_now ≡ name) × (folder_now ≡ folder) × Goes folder old new before after some × (place_now ≡ place)

pub keeps_still : (name : ℕ) (folder : List ℕ) (place : ℕ) (store : StoreState) (m : Missing) → KeepsOn name name folder folder place place store store m m []
keeps_still name folder place store m = (refl, refl, goes_nowhere folder store m, refl)

pub keeps_on : (name mid last : ℕ) (folder folder_mid folder_last : List ℕ) (place place_mid place_last : ℕ) (a b c : StoreState) (k l m : Missing) (some more : List Told)
    → KeepsOn name mid folder folder_mid place place_mid a b k l some → KeepsOn mid last folder_mid folder_last place_mid place_last b c l m more
    → KeepsOn name last folder folder_last place place_last a c k m (some ++ more)
keeps_on name mid last folder folder_mid folder_last place place_mid place_last a b c k l m some more one two = (
  two.0 ∙ one.0,
  two.1 ∙ one.1,
  goes_further folder a b c k l m some more one.2 (subst (λ (f : List ℕ). Goes f b c l m more) one.1 two.2),
  two.3 ∙ one.3,
)

-- ---- the record

module _ (q : Probing) (folder : List ℕ) (fitted : Fitted) (store store_now : StoreState) (old new : ℕ → Trial) (end : Status) where
  -- what is recorded of cases of a role whose file gives this
  pub record RecordsCases (g : Agenda) (order : List (List ℕ)) : Type 0 where
    pub values : List ℕ
    pub own : OwnIs q.protocol q.role fitted (given values)
    pub reached : ℕ
    pub ends : List CaseEnd
    pub played : ArePlayed q g.scenes order g.cases reached ends (length ends + 1) old new
    pub next : IsNext end (old (length ends)) (new (length ends))
    pub holds : HoldsCases folder store store_now values ends

  -- and of all those of a suite
  abbrev pub RecordsTask : Trying → Type 0
  RecordsTask trying = (suit : Suit q trying) × RecordsCases (agenda_of suit) (order_of trying)

-- ---- opening

-- what came of making the file of the values, with this text
module _ (folder values : List ℕ) (old new : StoreState) where
  abbrev pub IsOpened : Missing → Type 0
  IsOpened missing.Nothing =
      AreAbsent (IsOfRecord folder) old × (new ≡ replaced old (values_in folder) values) × OthersStay (IsOfRecord folder) old new
  IsOpened (missing.There name) = IsOfRecord folder name × IsThere old name × (new ≡ old)
  IsOpened (missing.Unwritten name) =
      AreAbsent (IsOfRecord folder) old × IsOfRecord folder name × Rose old.faults new.faults × OthersStay (IsOfRecord folder) old new
  IsOpened missing.NoMemory = Unit {0}
