-- One case, and those before it.
use Rattle.std.proofs.Math.Dec.{eqb-suc-zero}
use Rattle.std.proofs.Common.{Bool, cond, ◌≡◌, ◌≢◌, ◌<◌, ◌^◌, ℕ, zero, suc, ◌+◌, List, [], ◌∷◌, ◌++◌, length, map, replicate, Option, Some, Ok, refl, ap, sym, ◌∙◌, subst, inl, inr, arith, length-append}
use Rattle.std.specs.Prelude.{slice_get}
use Rattle.std.proofs.lemmas.List.{length-map, map-append}
use Rattle.std.specs.List.{AllByRecursion}
use Rattle.anb_base.specs.Bytes.{IsBytes}
use Rattle.anb_base.specs.Moves.{Put, PutPrefix}
use Rattle.anb_base.specs.Wires.{WireState}
use Rattle.anb_base.proofs.Moving.{put_further, put_nothing}
use Rattle.anb_attempts.specs.declared.attempts.Attempt.{Attempt}
use Rattle.anb_attempts.specs.declared.attempts.Scene.{Scene}
use Rattle.anb_code.specs.Taking.{take_texts}
use Rattle.anb_honest.specs.Joint.{cast, given_bytes}
use Rattle.anb_machine.specs.ByteRuns.{run_bytes}
use Rattle.anb_partner.specs.Talks.{Converses}
use Rattle.anb_partner.specs.Trials.{OthersStay, Trial}
use Rattle.anb_partner.specs.declared.conversation.Conversation.{Conversation}
use Rattle.anb_judge.specs.Verdicts.{line_bytes}
use Rattle.anb_partner.specs.declared.conversation.TalkEnd.TheVariants.{Long}
use Rattle.anb_partner.specs.declared.planning.Partner.{Partner}
use Rattle.anb_protocol.specs.Texts.{known_by, known_texts}
use Rattle.anb_spoil.specs.Wrongs.{wrong_by}
use Rattle.anb_tries.specs.Seen.{seen_of}
use Rattle.anb_tries.specs.Tries.{IsTriedVerdict}
use Rattle.anb_verdict.specs.Verdicts.{reached_by}
use Rattle.anb_verdict.specs.declared.verdict.Verdict.{Verdict}
use Rattle.anb_probe_commands.specs.Keeping.{Told, told_from}
use Rattle.anb_probe_commands.specs.Plays.{AreInTime, ArePlayed, CaseEnd, IsNotStarted, IsTried, reached_in}
use Rattle.anb_probe_commands.specs.Playing.{BrokeIn, CanPlay, IsCaseCut, IsCut, IsPlayedOut, IsPlayedPart, Wrote, end_in, text_of, texts_of}
use Rattle.anb_probe_commands.specs.Probings.{Probing}
use Rattle.anb_probe_commands.specs.Reports.{played_lines}
use Rattle.anb_probe_commands.specs.declared.cases.Prepared.{Prepared}
use Rattle.anb_probe_commands.specs.declared.playing.Outcome.{Outcome}
use Rattle.anb_probe_commands.specs.declared.writing.PlayNo.{PlayNo}
use Rattle.anb_probe_commands.specs.declared.writing.PlayNo.TheVariants.{Failed, NotStarted, NoMemory}
use Rattle.anb_probe_commands.proofs.Listing.{played_next}
use Rattle.anb_probe_commands.proofs.Ending.{whole_prefix, wrote_both}
use Rattle.anb_probe_commands.proofs.Played.{begun, one_more}
use Rattle.anb_probe_commands.proofs.Timely.{one_in_time, whole_in_time}

-- ---- one attempt

module _ (q : Probing) (x : Prepared) (can : CanPlay q x) where
  pub count_initial : length x.values.initial.items ≡ length (known_by q.protocol q.role)
  count_initial = ap length can.initial ∙ length-map (known_by q.protocol q.role) (given_bytes (cast q.protocol [] q.values q.seed))

  module _ (a : Attempt) (scene : Scene) (partner : Partner) (at : slice_get x.scenes.items a.scene ≡ Some scene) (there : slice_get x.partners.items a.scene ≡ Some (Ok partner)) where
    pub texts_are : take_texts partner.code.instrs ≡ known_texts q.protocol q.role
    texts_are = (can.made a.scene scene (Ok partner) at there).0.texts

    pub tried_as : (program : List (List ℕ)) (reached : ℕ) (old new : Trial) (conversation : Conversation) (verdict : Verdict) (got : ℕ)
        → Converses (run_bytes partner.code x.values.initial.items (replicate 32 0) 0) x.values.handed.items partner.hook (wrong_by partner.code.formats a.wrong) program old new conversation
        → IsTriedVerdict (record { protocol = q.protocol; role = q.role; initial = x.values.initial.items; lines = conversation.lines }) (seen_of conversation scene.due reached) conversation.end verdict
        → got ≡ reached_by verdict conversation.lines → AllByRecursion IsBytes (map line_bytes conversation.lines) → ((len : ℕ) → conversation.end ≡ Long len → len < 2 ^ 32)
        → IsTried q x.scenes.items program a reached old new (record { verdict = verdict; lines = conversation.lines }) got
    tried_as program reached old new conversation verdict got converses judged is bytes long =
        let made = can.made a.scene scene (Ok partner) at there in
        record {
          scene = scene;
          at = at;
          code = partner.code;
          partner = made.0;
          conversation = conversation;
          converses = rw (sym made.1, sym can.handed, sym can.initial) converses;
          lines = refl;
          bytes = bytes;
          long = long;
          judged = rw (sym can.initial) judged;
          got_is = is;
        }

-- ---- the case at a number

module _ (q : Probing) (x : Prepared) (program : List (List ℕ)) (number reached : ℕ) (old new : Trial) (S T : WireState) (a b : Attempt) (end : CaseEnd) (got : ℕ) where
  same_case : slice_get x.cases.items number ≡ Some a → slice_get x.cases.items number ≡ Some b → a ≡ b
  same_case one other = let both : ◌≡◌ {A = Option Attempt} (Some a) (Some b) = sym one ∙ other in cc

  -- the case at a number is this one
  pub played_at : slice_get x.cases.items number ≡ Some a → slice_get x.cases.items number ≡ Some b → IsTried q x.scenes.items program a reached old new end got
      → Wrote S T (text_of q x (number + 1) a end)
      → IsTried q x.scenes.items program b reached old new end got × Wrote S T (text_of q x (number + 1) b end)
  played_at one other tried wrote =
      subst (λ (z : Attempt). IsTried q x.scenes.items program z reached old new end got × Wrote S T (text_of q x (number + 1) z end)) (same_case one other) (tried, wrote)

-- ---- the lines of a case

module _ (q : Probing) (x : Prepared) (program : List (List ℕ)) (number reached : ℕ) (old new : Trial) where
  -- the case came to a verdict, and its lines weren't written
  pub cut_lines : (S T : WireState) (a : Attempt) (end : CaseEnd) (got : ℕ) (why : PlayNo) → slice_get x.cases.items number ≡ Some a → IsTried q x.scenes.items program a reached old new end got
      → BrokeIn (text_of q x (number + 1) a end) S T why → IsCaseCut q x program number reached old new S.written T.written why
  cut_lines S T a end got why at tried broke = by why broke.started where
    by : (w : PlayNo) → w ≢ NotStarted → IsCaseCut q x program number reached old new S.written T.written w
    by NotStarted never = absurd (never refl)
    by Failed other = inr (a, end, got, at, tried, broke.part)
    by NoMemory other = inr (a, end, got, at, tried, broke.part)

-- ---- the cases before it

module _ (q : Probing) (x : Prepared) (program : List (List ℕ)) (old mid new : ℕ → Trial) (S T U : WireState) (reached : ℕ) (ends : List CaseEnd)
    (played : ArePlayed q x.scenes.items program x.cases.items reached ends (length ends) old mid) (first : length ends ≡ 0 → reached ≡ 0)
    (wrote : Wrote S T (texts_of q x ends)) (within : length ends < length x.cases.items)
    (stay : OthersStay (length ends) mid new) (gone : (new (length ends)).phase ≢ 1) where
  same_before : mid (length ends) ≡ old (length ends)
  same_before = played.others (length ends) (omega arith)

  longer : (end : CaseEnd) → length (ends ++ end ∷ []) ≡ length ends + 1
  longer end = length-append ends (end ∷ [])

  module _ (a : Attempt) (end : CaseEnd) (got r : ℕ) (at : slice_get x.cases.items (length ends) ≡ Some a) (tried : IsTried q x.scenes.items program a reached (mid (length ends)) (new (length ends)) end got)
      (as_before : 0 < length ends → r ≡ reached) (is_first : length ends ≡ 0 → r ≡ got) where
    told_before : (n : ℕ) → n ≡ length ends → reached ≡ reached_in n r
    told_before zero e = first (sym e)
    told_before (suc n) e = sym (as_before (omega (arith, e))) ∙ sym (ap (λ (b : Bool). cond b 0 r) (eqb-suc-zero n))

    tried_from : IsTried q x.scenes.items program a (reached_in (length ends) r) (old (length ends)) (new (length ends)) end got
    tried_from =
        subst (λ (t : Trial). IsTried q x.scenes.items program a (reached_in (length ends) r) t (new (length ends)) end got) same_before
        (subst (λ (k : ℕ). IsTried q x.scenes.items program a k (mid (length ends)) (new (length ends)) end got) (told_before (length ends) refl) tried)

    pub further_played : (bound : ℕ) → length ends < bound → ArePlayed q x.scenes.items program x.cases.items r (ends ++ end ∷ []) bound old new
    further_played bound under = one_more q x.scenes.items program x.cases.items old mid new reached ends (length ends) played stay gone a end got at r as_before is_first tried_from bound (omega (arith, under)) under

    lines_of : List ℕ
    lines_of = text_of q x (length ends + 1) a end

    text_next : texts_of q x (ends ++ end ∷ []) ≡ texts_of q x ends ++ text_of q x (length ends + 1) a end
    text_next = played_next q.protocol q.role x.scenes.items x.is_shown 1 x.cases.items ends a end at

    pub part_with : IsPlayedPart q x program old new S.written U.written (ends ++ end ∷ [])
    part_with = record {
      reached = r;
      played = further_played (length (ends ++ end ∷ []) + 1) (omega (arith, longer end));
      within = omega (arith, longer end, within);
    }

    -- all its lines are written, and there is no memory for the verdict
    pub cut_behind : Put S.written U.written (texts_of q x (ends ++ end ∷ [])) → IsCut q x program old new S.written U.written NoMemory
    cut_behind put = (ends ++ end ∷ [], part_with, whole_in_time q x old new S.written U.written (ends ++ end ∷ []) put, whole_prefix S.written U.written _ put)

    -- or a part of them
    pub cut_within : PutPrefix T.written U.written (text_of q x (length ends + 1) a end) → (more : List CaseEnd) × IsPlayedPart q x program old new S.written U.written more
        × AreInTime (texts_of q x) more old new S.written U.written × PutPrefix S.written U.written (texts_of q x more)
    cut_within part = (
      ends ++ end ∷ [],
      part_with,
      one_in_time q x old new S.written T.written U.written (text_of q x (length ends + 1) a end) ends end wrote.put part (λ i behind. (further_played (length ends + 1) (omega arith)).others i (omega (arith, behind))),
      subst (PutPrefix S.written U.written) (sym text_next) (put_further S.written T.written U.written _ _ wrote.put part),
    )

  part_before : IsPlayedPart q x program old new S.written U.written ends
  part_before = record {
    reached = reached;
    played = begun q x.scenes.items program x.cases.items old mid new reached ends (length ends) played stay gone (omega arith);
    within = omega (arith, within);
  }

  -- no line of it was written
  cut_unwritten : U.written ≡ T.written → (more : List CaseEnd) × IsPlayedPart q x program old new S.written U.written more
      × AreInTime (texts_of q x) more old new S.written U.written × PutPrefix S.written U.written (texts_of q x more)
  cut_unwritten same =
      let put : Put S.written U.written (texts_of q x ends) = subst (λ (w : Option (List ℕ)). Put S.written w (texts_of q x ends)) (sym same) wrote.put in
      (ends, part_before, whole_in_time q x old new S.written U.written ends put, whole_prefix S.written U.written _ put)

  at_first : (n : ℕ) → (got : ℕ) → ℕ
  at_first zero got = got
  at_first (suc n) got = reached

  first_as : (n got : ℕ) → (0 < n → at_first n got ≡ reached) × (n ≡ 0 → at_first n got ≡ got)
  unfolding at_first
  first_as zero got = (λ less. absurd (omega (arith, less)), λ e. refl)
  first_as (suc n) got = (λ less. refl, λ e. absurd (omega (arith, e)))

  pub cut_next : (why : PlayNo) → IsCaseCut q x program (length ends) reached (mid (length ends)) (new (length ends)) T.written U.written why → IsCut q x program old new S.written U.written why
  cut_next NotStarted (stuck, same) = (
    ends,
    part_before,
    within,
    subst (λ (t : Trial). IsNotStarted t (new (length ends))) same_before stuck,
    subst (λ (w : Option (List ℕ)). Put S.written w (texts_of q x ends)) (sym same) wrote.put,
  )
  cut_next Failed cut = by cut where
    by : IsCaseCut q x program (length ends) reached (mid (length ends)) (new (length ends)) T.written U.written Failed → IsCut q x program old new S.written U.written Failed
    by (inl same) = cut_unwritten same
    by (inr (a, end, got, at, tried, part)) = let at_it = first_as (length ends) got in cut_within a end got (at_first (length ends) got) at tried at_it.0 at_it.1 part
  cut_next NoMemory cut = by cut where
    by : IsCaseCut q x program (length ends) reached (mid (length ends)) (new (length ends)) T.written U.written NoMemory → IsCut q x program old new S.written U.written NoMemory
    by (inl same) = cut_unwritten same
    by (inr (a, end, got, at, tried, part)) = let at_it = first_as (length ends) got in cut_within a end got (at_first (length ends) got) at tried at_it.0 at_it.1 part

-- the same, by the number of the case
module _ (q : Probing) (x : Prepared) (program : List (List ℕ)) (old mid new : ℕ → Trial) (S T U : WireState) (reached : ℕ) (ends : List CaseEnd) (i : ℕ) (count : length ends ≡ i) where
  pub cut_at : ArePlayed q x.scenes.items program x.cases.items reached ends i old mid → (i ≡ 0 → reached ≡ 0) → Wrote S T (texts_of q x ends) → i < length x.cases.items → OthersStay i mid new
      → (new i).phase ≢ 1 → (why : PlayNo) → IsCaseCut q x program i reached (mid i) (new i) T.written U.written why → IsCut q x program old new S.written U.written why
  cut_at played first wrote within stay gone why cut =
      cut_next q x program old mid new S T U reached ends (subst (λ (k : ℕ). ArePlayed q x.scenes.items program x.cases.items reached ends k old mid) (sym count) played) (λ z. first (sym count ∙ z)) wrote
      (subst (λ (k : ℕ). k < length x.cases.items) (sym count) within) (subst (λ (k : ℕ). OthersStay k mid new) (sym count) stay) (subst (λ (k : ℕ). (new k).phase ≢ 1) (sym count) gone) why
      (subst (λ (k : ℕ). IsCaseCut q x program k reached (mid k) (new k) T.written U.written why) (sym count) cut)

-- ---- so many cases were played

pub record PlayedSoFar (q : Probing) (x : Prepared) (program : List (List ℕ)) (old new : ℕ → Trial) (S T : WireState) (outcomes : List Outcome) (i reached : ℕ) : Type 0 where
  pub ends : List CaseEnd
  pub ends_are : ends ≡ map end_in outcomes
  pub count : length ends ≡ i
  pub begun : i ≡ 0 → reached ≡ 0
  pub played : ArePlayed q x.scenes.items program x.cases.items reached ends i old new
  pub wrote : Wrote S T (texts_of q x ends)

-- nothing is played yet
pub wrote_none : (q : Probing) (x : Prepared) (S : WireState) → Wrote S S (texts_of q x [])
wrote_none q x S = by x.cases.items where
  by : (cases : List Attempt) → Wrote S S (played_lines q.protocol q.role x.scenes.items x.is_shown 1 cases [])
  by [] = record { put = put_nothing S.written; only = record { same = refl; never_falls = omega arith }; quiet = refl }
  by (a ∷ rest) = record { put = put_nothing S.written; only = record { same = refl; never_falls = omega arith }; quiet = refl }

-- ---- a case that came to a verdict, by its number

pub got_some : {A : Type 0} (xs : List A) (i : ℕ) → i < length xs → (x : A) × (slice_get xs i ≡ Some x)
got_some [] i within = absurd (omega (arith, within))
got_some (x ∷ xs) zero within = (x, refl)
got_some (x ∷ xs) (suc i) within = got_some xs i (omega (arith, within))

module _ (q : Probing) (x : Prepared) (program : List (List ℕ)) (old mid new : ℕ → Trial) (S T U : WireState) (reached : ℕ) (ends : List CaseEnd) (i : ℕ) (count : length ends ≡ i)
    (wrote : Wrote S T (texts_of q x ends)) (a : Attempt) (end : CaseEnd) (got r : ℕ) where
  abbrev Next : ℕ → Type 0
  Next k =
      ArePlayed q x.scenes.items program x.cases.items reached ends k old mid → (k ≡ 0 → reached ≡ 0) → k < length x.cases.items → OthersStay k mid new → (new k).phase ≢ 1 → slice_get x.cases.items k ≡ Some a
      → IsTried q x.scenes.items program a reached (mid k) (new k) end got → (0 < k → r ≡ reached) → (k ≡ 0 → r ≡ got)
      → ArePlayed q x.scenes.items program x.cases.items r (ends ++ end ∷ []) (k + 1) old new
      × IsPlayedPart q x program old new S.written U.written (ends ++ end ∷ [])

  pub next_played : Next i
  next_played = subst Next count (λ played first within stay gone at tried as_before is_first. (
    further_played q x program old mid new S T U reached ends played first wrote within stay gone a end got r at tried as_before is_first (length ends + 1) (omega arith),
    part_with q x program old mid new S T U reached ends played first wrote within stay gone a end got r at tried as_before is_first,
  ))

  pub next_wrote : slice_get x.cases.items i ≡ Some a → Wrote T U (text_of q x (i + 1) a end) → Wrote S U (texts_of q x (ends ++ end ∷ []))
  next_wrote at line =
      let text = played_next q.protocol q.role x.scenes.items x.is_shown 1 x.cases.items ends a end (subst (λ (k : ℕ). slice_get x.cases.items k ≡ Some a) (sym count) at) in
      subst (Wrote S U) (sym text)
      (wrote_both S T U (texts_of q x ends) (text_of q x (length ends + 1) a end) wrote
      (subst (λ (k : ℕ). Wrote T U (text_of q x (k + 1) a end)) (sym count) line))

module _ (q : Probing) (x : Prepared) (program : List (List ℕ)) (old mid new : ℕ → Trial) (S T U : WireState) (outcomes : List Outcome) (i reached : ℕ)
    (so : PlayedSoFar q x program old mid S T outcomes i reached) where
  ends_next : (o : Outcome) → so.ends ++ end_in o ∷ [] ≡ map end_in (outcomes ++ o ∷ [])
  ends_next o = ap (λ (l : List CaseEnd). l ++ end_in o ∷ []) so.ends_are ∙ sym (map-append end_in outcomes (o ∷ []))

  -- and one case more
  module _ (o : Outcome) (a : Attempt) (r : ℕ) (stay : OthersStay i mid new) (gone : (new i).phase ≢ 1) (within : i < length x.cases.items) (at : slice_get x.cases.items i ≡ Some a)
      (came : IsTried q x.scenes.items program a reached (mid i) (new i) (end_in o) o.reached × Wrote T U (text_of q x (i + 1) a (end_in o)))
      (as_before : 0 < i → r ≡ reached) (is_first : i ≡ 0 → r ≡ o.reached) where
    next : ArePlayed q x.scenes.items program x.cases.items r (so.ends ++ end_in o ∷ []) (i + 1) old new
        × IsPlayedPart q x program old new S.written U.written (so.ends ++ end_in o ∷ [])
    next = next_played q x program old mid new S T U reached so.ends i so.count so.wrote a (end_in o) o.reached r so.played so.begun within stay gone at came.0 as_before is_first

    pub wrote_next : Wrote S U (texts_of q x (so.ends ++ end_in o ∷ []))
    wrote_next = next_wrote q x program old mid new S T U reached so.ends i so.count so.wrote a (end_in o) o.reached r at came.1

    -- there is no memory for its verdict
    pub cut_pushing : IsCut q x program old new S.written U.written NoMemory
    cut_pushing = (so.ends ++ end_in o ∷ [], next.1, whole_in_time q x old new S.written U.written (so.ends ++ end_in o ∷ []) wrote_next.put, whole_prefix S.written U.written _ wrote_next.put)

    pub so_further : (now : List Outcome) → now ≡ outcomes ++ o ∷ [] → PlayedSoFar q x program old new S U now (i + 1) r
    so_further now pushed = record {
      ends = so.ends ++ end_in o ∷ [];
      ends_are = ends_next o ∙ ap (map end_in) (sym pushed);
      count = length-append so.ends (end_in o ∷ []) ∙ ap (λ (n : ℕ). n + 1) so.count;
      begun = λ e. absurd (omega (arith, e));
      played = next.0;
      wrote = wrote_next;
    }

    -- and what was told of them all
    pub so_kept : (By : List Told → Type 0) (now : List Outcome) → now ≡ outcomes ++ o ∷ [] → By (told_from 0 (so.ends ++ end_in o ∷ []))
        → (further : PlayedSoFar q x program old new S U now (i + 1) r) × By (told_from 0 further.ends)
    unfolding so_further
    so_kept By now pushed kept = (so_further now pushed, kept)

  -- all were
  pub played_out : i ≡ length x.cases.items → IsPlayedOut q x program old mid S T outcomes
  played_out all = record {
    reached = reached;
    ends = so.ends;
    ends_are = so.ends_are;
    all = so.count ∙ all;
    played = subst (λ (k : ℕ). ArePlayed q x.scenes.items program x.cases.items reached so.ends k old mid) (sym so.count) so.played;
    wrote = so.wrote;
  }

  pub count_out : i ≡ length x.cases.items → length outcomes ≡ length x.cases.items
  count_out all = sym (length-map outcomes end_in) ∙ ap length (sym so.ends_are) ∙ so.count ∙ all
