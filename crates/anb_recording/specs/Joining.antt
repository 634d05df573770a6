-- A recording that went on, and then went on further.
use Rattle.std.specs.Prelude.{◌≡◌, ◌≢◌, ◌⊎◌, ℕ, List, [], ◌∷◌, ◌++◌}
use Rattle.std.specs.List.{AllByRecursion}
use Rattle.std.proofs.Common.{arith, ap, refl, sym, subst, ◌∙◌, inl, inr}
use Rattle.anb_base.specs.Moves.{Rose}
use Rattle.anb_base.proofs.Moving.{Rose-later}
use Rattle.anb_plays.specs.Plays.{Run}
use Rattle.anb_store.specs.Stores.{StoreState}
use Rattle.anb_transcript.specs.Replays.{arrivals_of}
use Rattle.anb_transcript.specs.declared.transcript.TranscriptLine.{TranscriptLine}
use Rattle.anb_transcript.specs.declared.transcript.TranscriptLine.TheVariants.{In, Out}
use Rattle.anb_recording.specs.Following.{CoversAll, RecordsOn}
use Rattle.anb_recording.specs.Journals.{OthersStay, appended}
use Rattle.anb_recording.specs.Lines.{IsPlain, line_text}
use Rattle.anb_recording.specs.Recordings.{Records, all_appended}
use Rattle.anb_recording.specs.declared.recording.Kept.{Kept}
use Rattle.anb_recording.specs.declared.recording.Kept.TheVariants.{Whole, Unwritten}

-- ---- lines

pub arrivals_joined : (xs ys : List TranscriptLine) → arrivals_of (xs ++ ys) ≡ arrivals_of xs ++ arrivals_of ys
arrivals_joined [] ys = refl
arrivals_joined (In b ∷ xs) ys = ap (λ t. b ∷ t) (arrivals_joined xs ys)
arrivals_joined (Out b ∷ xs) ys = arrivals_joined xs ys

pub plain_joined : (xs ys : List TranscriptLine) → AllByRecursion IsPlain xs → AllByRecursion IsPlain ys → AllByRecursion IsPlain (xs ++ ys)
plain_joined [] ys one two = two
plain_joined (x ∷ xs) ys one two = (one.0, plain_joined xs ys one.1 two)

covers_joined : (R S T : Run) (xs ys : List TranscriptLine) → CoversAll R S xs → CoversAll S T ys → CoversAll R T (xs ++ ys)
covers_joined R S T [] ys one two =
    let same : S ≡ R = λ i arrivals. sym (one arrivals) i in
    subst (λ (Q : Run). CoversAll Q T ys) same two
covers_joined R S T (x ∷ xs) ys one two = (one.0, one.1, covers_joined one.0 S T xs ys one.2 two)

-- ---- the store

pub others_still : (IsMine : List ℕ → Type 0) (store : StoreState) → OthersStay IsMine store store
others_still IsMine store files told = (files, told, λ name other. refl)

pub others_joined : (IsMine : List ℕ → Type 0) (one two three : StoreState) → OthersStay IsMine one two → OthersStay IsMine two three → OthersStay IsMine one three
others_joined IsMine one two three first second files told =
    let f = first files told in
    let g = second f.0 f.1 in
    (g.0, g.1, λ name other. g.2 name other ∙ f.2 name other)

appended_joined : (file : List ℕ) (xs ys : List TranscriptLine) (store : StoreState) → all_appended file store (xs ++ ys) ≡ all_appended file (all_appended file store xs) ys
appended_joined file [] ys store = refl
appended_joined file (x ∷ xs) ys store = appended_joined file xs ys (appended store file (line_text x))

not_whole : (kept : Kept) → kept ≡ Unwritten → kept ≢ Whole
not_whole kept is whole = cc

module _ (file : List ℕ) where
  pub records_nothing : (store : StoreState) (kept : Kept) → Records file store store kept kept []
  records_nothing store kept = record {
    stuck = λ is. (refl, refl);
    whole = λ is. (is, refl);
    failed = λ is. inl is;
    quiet = λ is. refl;
    never_falls = omega arith;
    others = others_still (λ name. name ≡ file) store;
  }

  module _ (a b c : StoreState) (k l m : Kept) (xs ys : List TranscriptLine) (one : Records file a b k l xs) (two : Records file b c l m ys) where
    failed_joined : m ≡ Unwritten → (k ≡ Unwritten) ⊎ Rose a.faults c.faults
    failed_joined is = elim (two.failed is) [
      | inl mid ↦ elim (one.failed mid) [
        | inl was ↦ inl was
        | inr rose ↦ inr (subst (λ (s : StoreState). Rose a.faults s.faults) (sym (two.stuck (not_whole l mid)).1) rose)
      ]
      | inr rose ↦ inr (Rose-later a.faults b.faults c.faults one.never_falls rose)
    ]

    pub records_further : Records file a c k m (xs ++ ys)
    records_further = record {
      stuck = λ not.
          let o = one.stuck not in
          let t = two.stuck (λ is. not (sym o.0 ∙ is)) in
          (t.0 ∙ o.0, t.1 ∙ o.1);
      whole = λ is.
          let t = two.whole is in
          let o = one.whole t.0 in
          (o.0, t.1 ∙ ap (λ (s : StoreState). all_appended file s ys) o.1 ∙ sym (appended_joined file xs ys a));
      failed = failed_joined;
      quiet = λ not. two.quiet not ∙ one.quiet (λ is. not ((two.stuck (not_whole l is)).0 ∙ is));
      never_falls = omega (arith, one.never_falls, two.never_falls);
      others = others_joined (λ name. name ≡ file) a b c one.others two.others;
    }

-- ---- both

-- what is said of a recording under way: it writes to the same file of the same store
abbrev pub FollowsOn : (Played : Type 0) (R R' : Run) (name name_now : ℕ) (file file_now : List ℕ) (old new : StoreState) (before after : Kept)
    (used : List (List ℕ)) → Type 0
FollowsOn Played R R' name name_now file file_now old new before after used =
    (name_now ≡ name) × (file_now ≡ file) × RecordsOn Played R R' file old new before after used

-- what is played stands behind the same reference
pub still_there : {Played : Type 0} → Played → (name : ℕ) → (name ≡ name) × Played
still_there played name = (refl, played)

pub there_further : {A B C : Type 0} → (A → B → C) → (x y z : ℕ) → (y ≡ x) × A → (z ≡ y) × B → (z ≡ x) × C
there_further both x y z one two = (two.0 ∙ one.0, both one.1 two.1)

pub follows_still : {Played : Type 0} → Played → (R : Run) (name : ℕ) (file : List ℕ) (store : StoreState) (kept : Kept)
    → FollowsOn Played R R name name file file store store kept kept []
follows_still played R name file store kept = (
  refl,
  refl,
  record {
    played = played;
    lines = [];
    used_is = refl;
    plain = tt;
    covers = λ arrivals. refl;
    records = records_nothing file store kept;
  },
)

pub follows_further : {A B C : Type 0} → (A → B → C) → (R S T : Run) (name mid last : ℕ) (file file_mid file_last : List ℕ) (a b c : StoreState) (k l m : Kept)
    (some more : List (List ℕ)) → FollowsOn A R S name mid file file_mid a b k l some → FollowsOn B S T mid last file_mid file_last b c l m more
    → FollowsOn C R T name last file file_last a c k m (some ++ more)
follows_further {A} {B} {C} both R S T name mid last file file_mid file_last a b c k l m some more one two =
    let first : RecordsOn A R S file a b k l some = one.2 in
    let second : RecordsOn B S T file b c l m more = subst (λ (f : List ℕ). RecordsOn B S T f b c l m more) one.1 two.2 in (
      two.0 ∙ one.0,
      two.1 ∙ one.1,
      record {
        played = both first.played second.played;
        lines = first.lines ++ second.lines;
        used_is = ap (λ (l : List (List ℕ)). l ++ more) first.used_is ∙ ap (λ (l : List (List ℕ)). arrivals_of first.lines ++ l) second.used_is ∙ sym (arrivals_joined first.lines second.lines);
        plain = plain_joined first.lines second.lines first.plain second.plain;
        covers = covers_joined R S T first.lines second.lines first.covers second.covers;
        records = records_further file a b c k l m first.lines second.lines first.records second.records;
      },
    )
