-- A recording of a host that goes on.
use Rattle.std.specs.Prelude.{◌≡◌, ◌≢◌, ◌⊎◌, ℕ, List, [], ◌∷◌, ◌++◌}
use Rattle.std.proofs.Common.{arith, ap, refl, sym, subst, ◌∙◌, inl, inr, append_assoc, append-nil}
use Rattle.std.specs.List.{AllByRecursion}
use Rattle.anb_base.specs.Moves.{Rose}
use Rattle.anb_base.proofs.Moving.{Rose-later}
use Rattle.anb_plays.specs.Plays.{Run}
use Rattle.anb_store.specs.Stores.{StoreState}
use Rattle.anb_recording.specs.Joining.{others_joined, others_still, plain_joined}
use Rattle.anb_recording.specs.Lines.{IsPlain}
use Rattle.anb_transcript.specs.declared.transcript.TranscriptLine.{TranscriptLine}
use Rattle.anb_host_recording.specs.declared.recording.Noted.{Noted}
use Rattle.anb_host_recording.specs.declared.recording.Noted.TheVariants.{Whole, Unwritten}
use Rattle.anb_host.specs.declared.event.HostEvent.{HostEvent}
use Rattle.anb_host.specs.Hosts.{HostValue, StandsFor, plays_of}
use Rattle.anb_host.specs.Own.{answer}
use Rattle.anb_host_recording.specs.Entries.{all_lines, all_noted, lines_of, noted}
use Rattle.anb_host_recording.specs.Keeps.{IsOfSession, Keeps}

-- what is said of a recording under way: it writes to the same folder of the same store, for the same plays
abbrev pub FollowsOn : (h h' : HostValue) → (name name_now : ℕ) → (folder folder_now : List ℕ) → (old new : StoreState) → (before after : Noted) → List HostEvent → Type 0
FollowsOn h h' name name_now folder folder_now old new before after events =
    (name_now ≡ name) × (folder_now ≡ folder) × (plays_of h' ≡ plays_of h)
    × ((past : List HostEvent) → StandsFor h past → StandsFor h' (past ++ events) × Keeps (plays_of h) folder past events old new before after)

-- ---- joined

all_noted_joined : (plays : ℕ → Run) (folder : List ℕ) (store : StoreState) (past some more : List HostEvent)
    → all_noted plays folder store past (some ++ more) ≡ all_noted plays folder (all_noted plays folder store past some) (past ++ some) more
all_noted_joined plays folder store past [] more = ap (λ (p : List HostEvent). all_noted plays folder store p more) (sym (append-nil past))
all_noted_joined plays folder store past (x ∷ some) more =
    all_noted_joined plays folder (noted folder store x (answer plays past x)) (past ++ x ∷ []) some more
    ∙ ap (λ (p : List HostEvent). all_noted plays folder (all_noted plays folder (noted folder store x (answer plays past x)) (past ++ x ∷ []) some) p more) (append_assoc past (x ∷ []) some)

all_lines_joined : (plays : ℕ → Run) (past some more : List HostEvent) → all_lines plays past (some ++ more) ≡ all_lines plays past some ++ all_lines plays (past ++ some) more
all_lines_joined plays past [] more = ap (λ (p : List HostEvent). all_lines plays p more) (sym (append-nil past))
all_lines_joined plays past (x ∷ some) more =
    let first : List TranscriptLine = lines_of x (answer plays past x) in
    ap (λ (l : List TranscriptLine). first ++ l) (all_lines_joined plays (past ++ x ∷ []) some more)
    ∙ ap (λ (p : List HostEvent). first ++ (all_lines plays (past ++ x ∷ []) some ++ all_lines plays p more)) (append_assoc past (x ∷ []) some)
    ∙ sym (append_assoc first (all_lines plays (past ++ x ∷ []) some) (all_lines plays (past ++ x ∷ some) more))

not_whole : (kept : Noted) (name : List ℕ) → kept ≡ Unwritten name → kept ≢ Whole
not_whole kept name is whole = cc

module _ (plays : ℕ → Run) (folder : List ℕ) where
  keeps_nothing : (past : List HostEvent) (store : StoreState) (kept : Noted) → Keeps plays folder past [] store store kept kept
  keeps_nothing past store kept = record {
    stuck = λ is. (refl, refl);
    whole = λ is. (is, refl);
    plain = λ is. tt;
    failed = λ name is. inl is;
    quiet = λ is. refl;
    never_falls = omega arith;
    others = others_still (IsOfSession folder) store;
  }

  module _ (past some more : List HostEvent) (a b c : StoreState) (k l m : Noted) (one : Keeps plays folder past some a b k l) (two : Keeps plays folder (past ++ some) more b c l m) where
    failed_joined : (name : List ℕ) → m ≡ Unwritten name → (k ≡ Unwritten name) ⊎ (IsOfSession folder name × Rose a.faults c.faults)
    failed_joined name is = elim (two.failed name is) [
      | inl mid ↦ elim (one.failed name mid) [
        | inl was ↦ inl was
        | inr rose ↦ inr (rose.0, subst (λ (s : StoreState). Rose a.faults s.faults) (sym (two.stuck (not_whole l name mid)).1) rose.1)
      ]
      | inr rose ↦ inr (rose.0, Rose-later a.faults b.faults c.faults one.never_falls rose.1)
    ]

    keeps_further : Keeps plays folder past (some ++ more) a c k m
    keeps_further = record {
      stuck = λ not.
          let o = one.stuck not in
          let t = two.stuck (λ is. not (sym o.0 ∙ is)) in
          (t.0 ∙ o.0, t.1 ∙ o.1);
      whole = λ is.
          let t = two.whole is in
          let o = one.whole t.0 in
          (o.0, t.1 ∙ ap (λ (s : StoreState). all_noted plays folder s (past ++ some) more) o.1 ∙ sym (all_noted_joined plays folder a past some more));
      plain = λ is.
          let t = two.whole is in
          subst (AllByRecursion IsPlain) (sym (all_lines_joined plays past some more))
          (plain_joined (all_lines plays past some) (all_lines plays (past ++ some) more) (one.plain t.0) (two.plain is));
      failed = failed_joined;
      quiet = λ not. two.quiet not ∙ one.quiet (λ name is. not name ((two.stuck (not_whole l name is)).0 ∙ is));
      never_falls = omega (arith, one.never_falls, two.never_falls);
      others = others_joined (IsOfSession folder) a b c one.others two.others;
    }

pub follows_still : (h : HostValue) (name : ℕ) (folder : List ℕ) (store : StoreState) (kept : Noted) → FollowsOn h h name name folder folder store store kept kept []
follows_still h name folder store kept =
    (refl, refl, refl, λ past stands. (subst (StandsFor h) (sym (append-nil past)) stands, keeps_nothing (plays_of h) folder past store kept))

pub follows_further : (h h' h'' : HostValue) (name mid last : ℕ) (folder folder_mid folder_last : List ℕ) (a b c : StoreState) (k l m : Noted) (some more : List HostEvent)
    → FollowsOn h h' name mid folder folder_mid a b k l some → FollowsOn h' h'' mid last folder_mid folder_last b c l m more
    → FollowsOn h h'' name last folder folder_last a c k m (some ++ more)
follows_further h h' h'' name mid last folder folder_mid folder_last a b c k l m some more one two = (
  two.0 ∙ one.0,
  two.1 ∙ one.1,
  two.2 ∙ one.2,
  λ past stands.
      let first = one.3 past stands in
      let second = two.3 (past ++ some) first.0 in
      let here : Keeps (plays_of h) folder (past ++ some) more b c l m =
      subst (λ (p : ℕ → Run). Keeps p folder (past ++ some) more b c l m) one.2 (subst (λ (f : List ℕ). Keeps (plays_of h') f (past ++ some) more b c l m) one.1 second.1) in
      (subst (StandsFor h'') (append_assoc past some more) second.0, keeps_further (plays_of h) folder past some more a b c k l m first.1 here),
)
