-- One turn of a recording.
use Rattle.std.proofs.Common.{◌≡◌, ◌≢◌, ◌≤◌, ℕ, List, [], ◌∷◌, refl, sym, ap, ◌∙◌, inl, inr, arith, Result, Ok, Err}
use Rattle.std.specs.Result.{OnOk}
use Rattle.anb_base.specs.Bytes.{IsBytes}
use Rattle.anb_base.specs.Moves.{Rose}
use Rattle.anb_plays.specs.Plays.{Run, ends, says, waiting}
use Rattle.anb_machine.specs.Machines.{GiveSame, MachineValue, Turned}
use Rattle.anb_machine.specs.declared.turn.Turn.{Turn}
use Rattle.anb_machine.specs.declared.turn.Turn.TheVariants.{Done, Message, NoMemory, Stopped, Wants}
use Rattle.anb_store.specs.Stores.{StoreState}
use Rattle.anb_transcript.specs.declared.transcript.TranscriptLine.{TranscriptLine}
use Rattle.anb_transcript.specs.declared.transcript.TranscriptLine.TheVariants.{In, Out}
use Rattle.anb_recording.specs.Joining.{FollowsOn, others_still, records_nothing}
use Rattle.anb_recording.specs.Journals.{OthersStay, appended}
use Rattle.anb_recording.specs.Lines.{IsPlain, line_text}
use Rattle.anb_recording.specs.Recordings.{Records}
use Rattle.anb_recording.specs.declared.recording.Kept.{Kept}
use Rattle.anb_recording.specs.declared.recording.Kept.TheVariants as kept

-- ---- a line

module _ (file : List ℕ) (old new : StoreState) (line : TranscriptLine) where
  pub noted_whole : (text : List ℕ) → line_text line ≡ text → new ≡ appended old file text → new.faults ≡ old.faults → OthersStay (λ name. name ≡ file) old new
      → Records file old new kept.Whole kept.Whole (line ∷ [])
  noted_whole text spells is same others = record {
    stuck = λ not. absurd (not refl);
    whole = λ _. (refl, is ∙ ap (appended old file) (sym spells));
    failed = λ never. absurd (cc);
    quiet = λ _. same;
    never_falls = omega (arith, same);
    others = others;
  }

  pub noted_failed : Rose old.faults new.faults → old.faults ≤ new.faults → OthersStay (λ name. name ≡ file) old new → Records file old new kept.Whole kept.Unwritten (line ∷ [])
  noted_failed rose falls others = record {
    stuck = λ not. absurd (not refl);
    whole = λ never. absurd (cc);
    failed = λ _. inr rose;
    quiet = λ not. absurd (not refl);
    never_falls = falls;
    others = others;
  }

  pub noted_wanting : new.faults ≡ old.faults → OthersStay (λ name. name ≡ file) old new → Records file old new kept.Whole kept.NoMemory (line ∷ [])
  noted_wanting same others = record {
    stuck = λ not. absurd (not refl);
    whole = λ never. absurd (cc);
    failed = λ never. absurd (cc);
    quiet = λ _. same;
    never_falls = omega (arith, same);
    others = others;
  }

pub noted_nothing : (file : List ℕ) (store : StoreState) (line : TranscriptLine) → Records file store store kept.Whole kept.NoMemory (line ∷ [])
noted_nothing file store line = noted_wanting file store store line refl (others_still (λ name. name ≡ file) store)

-- nothing is done where something is missing
pub noted_before : (file : List ℕ) (store : StoreState) (k : Kept) (line : TranscriptLine) → k ≢ kept.Whole → Records file store store k k (line ∷ [])
noted_before file store k line not = record {
  stuck = λ _. (refl, refl);
  whole = λ is. absurd (not is);
  failed = λ is. inl is;
  quiet = λ _. refl;
  never_falls = omega arith;
  others = others_still (λ name. name ≡ file) store;
}

-- ---- a turn

pub same_after : (old new : MachineValue) (turn : Turn) → Turned old new turn → ((b : List ℕ) → turn ≡ Message b → ⊥) → turn ≢ NoMemory → GiveSame old new
same_after old new (Message b) turned none some = absurd (none b refl)
same_after old new (Wants e) turned none some = turned.0
same_after old new Done turned none some = turned.0
same_after old new (Stopped halt) turned none some = turned.0
same_after old new NoMemory turned none some = absurd (some refl)

module _ (Played : Type 0) (played : Played) (R S : Run) (name name_now : ℕ) (file file_now : List ℕ) (same_name : name_now ≡ name) (same_file : file_now ≡ file)
    (old new : StoreState) (before after : Kept) where
  pub follows_message : (b : List ℕ) → ((more : List (List ℕ)) → R more ≡ says b (S more)) → IsBytes b → Records file old new before after (Out b ∷ [])
      → FollowsOn Played R S name name_now file file_now old new before after []
  follows_message b comes bytes records = (
    same_name,
    same_file,
    record {
      played = played;
      lines = Out b ∷ [];
      used_is = refl;
      plain = (bytes, tt);
      covers = (S, record { due = rw (comes []) refl; on = comes }, λ more. refl);
      records = records;
    },
  )

  pub follows_arrival : (b : List ℕ) → ((event : ℕ) × (R [] ≡ ends (waiting event) [])) → ((more : List (List ℕ)) → R (b ∷ more) ≡ S more) → IsPlain (In b)
      → Records file old new before after (In b ∷ []) → FollowsOn Played R S name name_now file file_now old new before after (b ∷ [])
  follows_arrival b next comes plain records = (
    same_name,
    same_file,
    record {
      played = played;
      lines = In b ∷ [];
      used_is = refl;
      plain = (plain, tt);
      covers = (S, record { due = rw next.1 tt; on = comes }, λ more. refl);
      records = records;
    },
  )

pub follows_nothing : {Played : Type 0} → Played → (R S : Run) (name : ℕ) (file : List ℕ) (store : StoreState) (kept : Kept) → ((more : List (List ℕ)) → R more ≡ S more)
    → FollowsOn Played R S name name file file store store kept kept []
follows_nothing played R S name file store kept same = (
  refl,
  refl,
  record {
    played = played;
    lines = [];
    used_is = refl;
    plain = tt;
    covers = same;
    records = records_nothing file store kept;
  },
)

-- ---- answers

-- what holds of both answers holds of what follows
pub on_both : {T E : Type 0} (r : Result T E) (A B C : Type 0) → OnOk r A → OnOk r B → (A → B → C) → OnOk r C
on_both (Ok x) A B C a b f = f a b
on_both (Err y) A B C a b f = tt

-- what a reference ends as, where it is the one that was handed in
pub moved : {A B : Type 0} (state : A → B) (x y : A) (name now : ℕ) → now ≡ name → (now ≡ name → x ≡ y) → (P : B → Type 0) → P (state y) → P (state x)
moved state x y name now is same P holds = rw (same is) holds
