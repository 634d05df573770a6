-- What noting an event does to what is kept.
use Rattle.std.proofs.Common.{◌≡◌, ◌≢◌, ℕ, arith, List, [], ◌∷◌, ◌++◌, Bool, true, false, cond, refl, sym, ap, ◌∙◌, subst, inl, inr, ◌≤◌}
use Rattle.std.specs.List.{AllByRecursion, flat_map}
use Rattle.anb_base.specs.Moves.{Rose}
use Rattle.anb_plays.specs.Plays.{Run}
use Rattle.anb_store.specs.Stores.{StoreState}
use Rattle.anb_recording.specs.Joining.{others_still, plain_joined}
use Rattle.anb_recording.specs.Journals.{Files, OthersStay}
use Rattle.anb_recording.specs.Lines.{IsPlain, lines_text}
use Rattle.anb_transcript.specs.declared.transcript.TranscriptLine.{TranscriptLine}
use Rattle.anb_host.specs.declared.event.HostEvent.{HostEvent}
use Rattle.anb_host.specs.declared.event.Notice.{Notice}
use Rattle.anb_host.specs.Own.{answer, events_of, is_start, session_of}
use Rattle.anb_host_recording.specs.Entries.{is_refusal, line_in, line_out, lines_of, noted, put_into, transcript_of}
use Rattle.anb_host_recording.specs.Keeps.{IsOfSession, Keeps, KeepsOne}
use Rattle.anb_host_recording.specs.declared.recording.Noted.{Noted}
use Rattle.anb_host_recording.specs.declared.recording.Noted.TheVariants.{Whole, Unwritten, NoMemory}
use Rattle.anb_host_recording.proofs.Filing.{text_joined, within_range}

-- something was missing before
keeps_stuck : (plays : ℕ → Run) (folder : List ℕ) (past events : List HostEvent) (store : StoreState) (kept : Noted) → kept ≢ Whole → Keeps plays folder past events store store kept kept
keeps_stuck plays folder past events store kept not = record {
  stuck = λ _. (refl, refl);
  whole = λ is. absurd (not is);
  plain = λ is. absurd (not is);
  failed = λ name is. inl is;
  quiet = λ _. refl;
  never_falls = omega arith;
  others = others_still (IsOfSession folder) store;
}

module _ (plays : ℕ → Run) (folder : List ℕ) (past : List HostEvent) (x : HostEvent) (told : List Notice) (told_is : told ≡ answer plays past x) where
  -- memory was wanting
  keeps_wanting : (store new : StoreState) → new.faults ≡ store.faults → OthersStay (IsOfSession folder) store new → Keeps plays folder past (x ∷ []) store new Whole NoMemory
  keeps_wanting store new same others = record {
    stuck = λ not. absurd (not refl);
    whole = λ is. absurd (cc);
    plain = λ is. absurd (cc);
    failed = λ name is. absurd (cc);
    quiet = λ _. same;
    never_falls = omega (arith, same);
    others = others;
  }

  keeps_nothing : (store : StoreState) → Keeps plays folder past (x ∷ []) store store Whole NoMemory
  keeps_nothing store = keeps_wanting store store refl (others_still (IsOfSession folder) store)

  -- it was refused
  keeps_refused : (store : StoreState) → is_refusal told ≡ true → Keeps plays folder past (x ∷ []) store store Whole Whole
  keeps_refused store refused =
      let none : lines_of x told ≡ [] = ap (λ (b : Bool). cond b [] (line_in x ++ flat_map line_out told)) refused in
      let same : noted folder store x told ≡ store = ap (λ (b : Bool). cond b store (put_into (is_start x) store (transcript_of folder (session_of x)) (lines_text (lines_of x told)))) refused in
      record {
        stuck = λ not. absurd (not refl);
        whole = λ is. (refl, sym same ∙ ap (noted folder store x) told_is);
        plain = λ is. subst (λ (t : List Notice). AllByRecursion IsPlain (lines_of x t ++ [])) told_is (subst (λ (l : List TranscriptLine). AllByRecursion IsPlain (l ++ [])) (sym none) tt);
        failed = λ name is. absurd (cc);
        quiet = λ _. refl;
        never_falls = omega arith;
        others = others_still (IsOfSession folder) store;
      }

  -- it was not, and these lines were to be appended to this file
  module _ (goes : is_refusal told ≡ false) (name : List ℕ) (is_name : name ≡ transcript_of folder (session_of x)) (old new : StoreState) where
    mine : IsOfSession folder name
    mine =
        let s = session_of x in
        (s, within_range (plays s) s (events_of s past) x _ refl (ap is_refusal (sym told_is) ∙ goes), is_name)

    stay : OthersStay (λ other. other ≡ name) old new → OthersStay (IsOfSession folder) old new
    stay others files at =
        let now = others files at in
        (now.0, now.1, λ other not. now.2 other (λ is. not (subst (IsOfSession folder) (sym is) mine)))

    lines_are : lines_of x told ≡ line_in x ++ flat_map line_out told
    lines_are = ap (λ (b : Bool). cond b [] (line_in x ++ flat_map line_out told)) goes

    grows : noted folder old x told ≡ put_into (is_start x) old (transcript_of folder (session_of x)) (lines_text (lines_of x told))
    grows = ap (λ (b : Bool). cond b old (put_into (is_start x) old (transcript_of folder (session_of x)) (lines_text (lines_of x told)))) goes

    keeps_noted : (lines : List ℕ) → lines ≡ lines_text (line_in x) ++ lines_text (flat_map line_out told) → AllByRecursion IsPlain (line_in x) → AllByRecursion IsPlain (flat_map line_out told)
        → new ≡ put_into (is_start x) old name lines → new.faults ≡ old.faults → OthersStay (λ other. other ≡ name) old new → Keeps plays folder past (x ∷ []) old new Whole Whole
    keeps_noted lines are first rest grew same others = record {
      stuck = λ not. absurd (not refl);
      whole = λ is. (
        refl,
        grew ∙ ap (λ (n : List ℕ). put_into (is_start x) old n lines) is_name
            ∙ ap (λ (t : List ℕ). put_into (is_start x) old (transcript_of folder (session_of x)) t) (are ∙ sym (text_joined (line_in x) (flat_map line_out told)) ∙ ap lines_text (sym lines_are))
            ∙ sym grows ∙ ap (noted folder old x) told_is,
      );
      plain = λ is. subst (λ (t : List Notice). AllByRecursion IsPlain (lines_of x t ++ [])) told_is
          (subst (λ (l : List TranscriptLine). AllByRecursion IsPlain (l ++ [])) (sym lines_are)
          (plain_joined (line_in x ++ flat_map line_out told) [] (plain_joined (line_in x) (flat_map line_out told) first rest) tt));
      failed = λ other is. absurd (cc);
      quiet = λ _. same;
      never_falls = omega (arith, same);
      others = stay others;
    }

    the_name : (other : List ℕ) → Unwritten name ≡ Unwritten other → name ≡ other
    the_name other is = cc

    keeps_unwritten : Rose old.faults new.faults → old.faults ≤ new.faults → OthersStay (λ other. other ≡ name) old new → Keeps plays folder past (x ∷ []) old new Whole (Unwritten name)
    keeps_unwritten rose never_falls others = record {
      stuck = λ not. absurd (not refl);
      whole = λ is. absurd (cc);
      plain = λ is. absurd (cc);
      failed = λ other is. inr (subst (IsOfSession folder) (the_name other is) mine, rose);
      quiet = λ not. absurd (not name refl);
      never_falls = never_falls;
      others = stay others;
    }

    keeps_unnoted : new.faults ≡ old.faults → OthersStay (λ other. other ≡ name) old new → Keeps plays folder past (x ∷ []) old new Whole NoMemory
    keeps_unnoted same others = keeps_wanting old new same (stay others)

-- ---- the same, whatever the plays

module _ (folder : List ℕ) (x : HostEvent) (told : List Notice) where
  pub one_nothing : (store : StoreState) → KeepsOne folder x told store store Whole NoMemory
  one_nothing store plays past is = keeps_nothing plays folder past x told is store

  pub one_refused : (store : StoreState) → is_refusal told ≡ true → KeepsOne folder x told store store Whole Whole
  one_refused store refused plays past is = keeps_refused plays folder past x told is store refused

  pub one_stuck : (store : StoreState) (kept : Noted) → kept ≢ Whole → KeepsOne folder x told store store kept kept
  one_stuck store kept not plays past is = keeps_stuck plays folder past (x ∷ []) store kept not

  module _ (goes : is_refusal told ≡ false) (session : ℕ) (of_session : session_of x ≡ session) (name : List ℕ) (is_name : name ≡ transcript_of folder session) (old new : StoreState) where
    the_file : name ≡ transcript_of folder (session_of x)
    the_file = is_name ∙ ap (transcript_of folder) (sym of_session)

    pub one_noted : (lines : List ℕ) → lines ≡ lines_text (line_in x) ++ lines_text (flat_map line_out told) → AllByRecursion IsPlain (line_in x) → AllByRecursion IsPlain (flat_map line_out told)
        → new ≡ put_into (is_start x) old name lines → new.faults ≡ old.faults → OthersStay (λ other. other ≡ name) old new → KeepsOne folder x told old new Whole Whole
    one_noted lines are first rest grew same others plays past is = keeps_noted plays folder past x told is goes name the_file old new lines are first rest grew same others

    pub one_unwritten : Rose old.faults new.faults → old.faults ≤ new.faults → OthersStay (λ other. other ≡ name) old new → KeepsOne folder x told old new Whole (Unwritten name)
    one_unwritten rose never_falls others plays past is = keeps_unwritten plays folder past x told is goes name the_file old new rose never_falls others

    pub one_unnoted : new.faults ≡ old.faults → OthersStay (λ other. other ≡ name) old new → KeepsOne folder x told old new Whole NoMemory
    one_unnoted same others plays past is = keeps_unnoted plays folder past x told is goes name the_file old new same others

-- ---- behind references that are still the same

pub kept_behind : {A : Type 0} (state : A → StoreState) (plays : ℕ → Run) (folder : List ℕ) (past some : List HostEvent) (old : StoreState) (x y : A) (m n : Noted)
    (j_name j_now : ℕ) → j_now ≡ j_name → (j_now ≡ j_name → x ≡ y) → (n_name n_now : ℕ) → n_now ≡ n_name → (n_now ≡ n_name → m ≡ n)
    → Keeps plays folder past some old (state y) Whole n → Keeps plays folder past some old (state x) Whole m
kept_behind state plays folder past some old x y m n j_name j_now j_is j_same n_name n_now n_is n_same keeps =
    rw (j_same j_is, n_same n_is) keeps
