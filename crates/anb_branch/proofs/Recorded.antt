-- What is recorded of a run, and of two machines that stand behind the same arrivals.
use Rattle.std.proofs.Common.{◌≡◌, ◌≤◌, ℕ, true, false, List, [], ◌∷◌, ◌++◌, length, drop, Option, Some, None, Result, Ok, Err, refl, sym, ap, ◌∙◌, subst, arith, length-append, append_assoc}
use Rattle.std.specs.Prelude.{All, slice_get, if◌then◌else◌}
use Rattle.std.specs.List.{AllByRecursion, list_any}
use Rattle.std.specs.Option.{option_map_or}
use Rattle.std.proofs.lemmas.Option.{slice_get_past, slice_get_within}
use Rattle.std.proofs.lemmas.Slice.Zip.{AllZip-long}
use Rattle.std.specs.Result.{IfErr, IfOk}
use Rattle.std.proofs.lemmas.List.{append-nil}
use Rattle.anb_base.specs.Bytes.{IsBytes}
use Rattle.anb_base.specs.declared.TheConstants.{ARRIVAL}
use Rattle.anb_base.specs.Wires.{WireState}
use Rattle.anb_frame.specs.Cuts.{CutLeft, Tail}
use Rattle.anb_plays.specs.Plays.{End, Played, Run, done, ends, stopped, waiting}
use Rattle.anb_plays.specs.Runs.{no_place, without_place}
use Rattle.anb_machine.specs.Machines.{MachineValue, gives}
use Rattle.anb_session.specs.declared.PlayEnd.{PlayEnd}
use Rattle.anb_session.specs.Sessions.{waits_at}
use Rattle.anb_session.specs.Standing.{StandsAt}
use Rattle.anb_session.specs.Turns.{AwaitsNow}
use Rattle.anb_store.specs.Stores.{StoreState}
use Rattle.anb_transcript.specs.Replays.{AreDue, IsDue, arrivals_of, due_in, due_of, messages_of}
use Rattle.anb_transcript.specs.declared.transcript.TranscriptLine.{TranscriptLine}
use Rattle.anb_transcript.proofs.Reached.{Reached}
use Rattle.anb_recording.specs.Following.{RecordsOn}
use Rattle.anb_recording.specs.Joining.{arrivals_joined, follows_further, plain_joined, records_further}
use Rattle.anb_recording.specs.Recordings.{IsRecorded}
use Rattle.anb_recording.specs.declared.recording.Kept.{Kept}
use Rattle.anb_recording.specs.declared.recording.Kept.TheVariants.{Whole}
use Rattle.anb_recording.proofs.Replaying.{reached_all, reached_behind, replays_as}
use Rattle.anb_code.specs.CodeValue.{CodeValue}
use Rattle.anb_code.specs.Taking.{take_texts}
use Rattle.anb_machine.specs.ByteRuns.{run_bytes}
use Rattle.anb_protocol.specs.Plays.{IsPlay}
use Rattle.anb_protocol.specs.Protocols.{ProtocolValue, role_number}
use Rattle.anb_compile.specs.Fitting.{FitsRole}
use Rattle.anb_compile.specs.Laws.{FittingCodesPlay}
use Rattle.anb_choice.specs.Lawful.{BranchedValue, is_free}
use Rattle.anb_branch.specs.Arms.{FitArms}
use Rattle.anb_branch.specs.Recorded.{CodesPlay, GoesOnAgain, Lines, RecordsTo}
use Rattle.anb_branch.specs.Taken.{place_begun, place_taken, stem_receives}
use Rattle.anb_branch.proofs.Choosing.{slice_get_seam}
use Rattle.anb_branch.proofs.Deciding.{plays_there}
use Rattle.anb_branch.specs.Stems.{AgreeUpTo, AreBytes, CameBy, HeardUpTo, StandsBehind, said}

-- ---- what is due, without the instruction of a stop

due_placeless : (messages : List (List ℕ)) (end : End) (line : TranscriptLine) → IsDue (due_of messages end) line → IsDue (due_of messages (no_place end)) line
due_placeless (m ∷ messages) end line is = is
due_placeless [] (waiting e) line is = is
due_placeless [] done line is = is
due_placeless [] (stopped e at) line is = absurd is

due_placed : (messages : List (List ℕ)) (end : End) (line : TranscriptLine) → IsDue (due_of messages (no_place end)) line → IsDue (due_of messages end) line
due_placed (m ∷ messages) end line is = is
due_placed [] (waiting e) line is = is
due_placed [] done line is = is
due_placed [] (stopped e at) line is = absurd is

same_due : (p q : Played (List ℕ)) (k : ℕ) (line : TranscriptLine) → without_place p ≡ without_place q → IsDue (due_in p k) line → IsDue (due_in q k) line
same_due p q k line same is =
    due_placed (drop k q.sent) q.end line (subst (λ (r : Played (List ℕ)). IsDue (due_in r k) line) same (due_placeless (drop k p.sent) p.end line is))

-- ---- arrivals

bytes_front : (xs ys : List (List ℕ)) → AreBytes (xs ++ ys) → AreBytes xs
bytes_front [] ys all = tt
bytes_front (x ∷ xs) ys all = (all.0, bytes_front xs ys all.1)

-- ---- one machine

module _ (file : List ℕ) where
  pub lines_joined : (a b c : StoreState) (k l m : Kept) (x y z : MachineValue) (some more : List (List ℕ)) → Lines file a b k l x some y → Lines file b c l m y more z → Lines file a c k m x (some ++ more) z
  lines_joined a b c k l m x y z some more one two =
      (follows_further {A = Unit {0}} {B = Unit {0}} {C = Unit {0}} (λ one two. tt) (gives x) (gives y) (gives z) 0 0 0 file file file a b c k l m some more (refl, refl, one) (refl, refl, two)).2

  abbrev record_of : (old new : StoreState) (kept : Kept) (left : Option (List ℕ)) (R : Run) (first last : MachineValue) (used : List (List ℕ)) (on : Lines file old new Whole kept first used last) (stop : PlayEnd)
      → ((arrivals : List (List ℕ)) (tail : Tail) → CutLeft ARRIVAL left arrivals tail → (rest : List (List ℕ)) × (arrivals ≡ used ++ rest))
      → Reached R (gives last) on.lines → StandsAt last stop → (waits_at stop ≡ true → AwaitsNow last) → IsRecorded R file old new kept left stop
  record_of old new kept left R first last used on stop heard reached stands awaits = record {
    lines = on.lines;
    plain = on.plain;
    records = on.records;
    heard = λ arrivals tail cut. let f = heard arrivals tail cut in (f.0, f.1 ∙ ap (λ (l : List (List ℕ)). l ++ f.0) on.used_is);
    replays = replays_as R last on.lines reached stop stands awaits;
  }

  -- a machine that gives the run R from its start
  reached_from : (R : Run) (first last : MachineValue) (lines : List TranscriptLine) → ((more : List (List ℕ)) → gives first more ≡ R more) → Reached (gives first) (gives last) lines → Reached R (gives last) lines
  reached_from R first last lines same reached =
      let one : gives first ≡ R = λ i more. same more i in
      subst (λ (Q : Run). Reached Q (gives last) lines) one reached

  module _ (R : Run) (first : MachineValue) (same : (more : List (List ℕ)) → gives first more ≡ R more) (s : WireState) (old new : StoreState) (kept : Kept) where
    -- it came to an end
    pub records_first : (last : MachineValue) (end : PlayEnd) (came : CameBy (Lines file old new Whole kept) first last last [] s end)
        → (r : RecordsTo R file old new kept s.left end) × (came.used ≡ arrivals_of r.recorded.lines)
    records_first last end came = (
      record {
        stop = came.stop;
        is = came.is;
        recorded = record_of old new kept s.left R first last came.used came.follows came.stop came.first
            (reached_from R first last came.follows.lines same (reached_all (gives first) (gives last) came.follows.lines came.follows.covers)) came.stands came.awaits;
      },
      came.follows.used_is,
    )

    module _ (t : WireState) (mid : StoreState) (k : Kept) (past : List (List ℕ)) (b : List ℕ) (there : MachineValue) (heard : HeardUpTo (Lines file old mid Whole k) first there past b s t) (end : PlayEnd) where
      -- what was heard before and behind the choice is the first of what was left
      heard_all : (used : List (List ℕ)) → ((arrivals : List (List ℕ)) (tail : Tail) → CutLeft ARRIVAL t.left arrivals tail → (rest : List (List ℕ)) × (arrivals ≡ used ++ rest))
          → (arrivals : List (List ℕ)) (tail : Tail) → CutLeft ARRIVAL s.left arrivals tail → (rest : List (List ℕ)) × (arrivals ≡ (past ++ (b ∷ used)) ++ rest)
      heard_all used later arrivals tail cut =
          let h = heard.first arrivals tail cut in
          let l = later h.0 tail h.2 in
          (l.0, h.1 ∙ ap (λ (x : List (List ℕ)). past ++ (b ∷ x)) l.1 ∙ sym (append_assoc past (b ∷ used) l.0))

      -- it went on behind the choice
      pub records_here : (last : MachineValue) → CameBy (Lines file mid new k kept) there last last (b ∷ []) t end
          → (r : RecordsTo R file old new kept s.left end) × ((more : List (List ℕ)) × (past ++ (b ∷ more) ≡ arrivals_of r.recorded.lines))
      records_here last came =
          let on : Lines file old new Whole kept first (past ++ (b ∷ came.used)) last = lines_joined old mid new Whole k kept first there last past (b ∷ came.used) heard.follows came.follows in (
            record {
              stop = came.stop;
              is = came.is;
              recorded = record_of old new kept s.left R first last (past ++ (b ∷ came.used)) on came.stop (heard_all came.used came.first)
                  (reached_from R first last on.lines same (reached_all (gives first) (gives last) on.lines on.covers)) came.stands came.awaits;
            },
            (came.used, on.used_is),
          )

      -- another machine went on, which stands behind what the other arm's run gives over the same arrivals
      module _ (n : ℕ) (T F : Run) (agrees : AgreeUpTo n T R) (also : AgreeUpTo n T F) (few : length past ≤ n) (bytes : AreBytes past) (event : ℕ) (next : gives there [] ≡ ends (waiting event) []) where
        abbrev before : List TranscriptLine
        before = heard.follows.lines

        reached_before : Reached R (gives there) before
        reached_before = reached_from R first there before same (reached_all (gives first) (gives there) before heard.follows.covers)

        past_is : past ≡ arrivals_of before
        past_is = heard.follows.used_is

        same_play : (q : List (List ℕ)) → length q ≤ n → AreBytes q → without_place (R q) ≡ without_place (F q)
        same_play q short strings = sym (agrees q short strings).same ∙ (also q short strings).same

        due_before : AreDue F before
        due_before lines after line is =
            let parts : past ≡ arrivals_of lines ++ arrivals_of (line ∷ after) = past_is ∙ ap arrivals_of is ∙ arrivals_joined lines (line ∷ after) in
            same_due (R (arrivals_of lines)) (F (arrivals_of lines)) (length (messages_of lines)) line
            (same_play (arrivals_of lines) (omega (arith, few, ap length parts, length-append (arrivals_of lines) (arrivals_of (line ∷ after)))) (bytes_front (arrivals_of lines) (arrivals_of (line ∷ after)) (subst AreBytes parts bytes)))
            (reached_before.due lines after line is)

        -- the messages up to there
        said_before : (R past).sent ≡ messages_of before
        said_before =
            let at : (R (past ++ [])).sent ≡ messages_of before ++ (gives there []).sent = subst (λ (l : List (List ℕ)). (R (l ++ [])).sent ≡ messages_of before ++ (gives there []).sent) (sym past_is) (reached_before.sent []) in
            ap (λ (l : List (List ℕ)). (R l).sent) (sym (append-nil past)) ∙ at ∙ ap (λ (p : Played (List ℕ)). messages_of before ++ p.sent) next ∙ append-nil (messages_of before)

        said_so : (sent : List (List ℕ)) (v : MachineValue) (e : ℕ) → StandsBehind F past sent v → gives v [] ≡ ends (waiting e) [] → sent ≡ messages_of before
        said_so sent v e stands waits =
            let at : F past ≡ said sent (ends (waiting e) []) = ap F (sym (append-nil past)) ∙ stands.comes [] ∙ ap (said sent) waits in
            sym (append-nil sent) ∙ sym (ap (λ (p : Played (List ℕ)). p.sent) at) ∙ sym (ap (λ (p : Played (List ℕ)). p.sent) (same_play past few bytes)) ∙ said_before

        reached_there : (sent : List (List ℕ)) (v : MachineValue) (e : ℕ) → StandsBehind F past sent v → gives v [] ≡ ends (waiting e) [] → Reached F (gives v) before
        reached_there sent v e stands waits = record {
          sent = λ xs.
              subst (λ (l : List (List ℕ)). (F (l ++ xs)).sent ≡ messages_of before ++ (gives v xs).sent) past_is
              (ap (λ (p : Played (List ℕ)). p.sent) (stands.comes xs) ∙ ap (λ (l : List (List ℕ)). l ++ (gives v xs).sent) (said_so sent v e stands waits));
          ends = λ xs. subst (λ (l : List (List ℕ)). (F (l ++ xs)).end ≡ (gives v xs).end) past_is (ap (λ (p : Played (List ℕ)). p.end) (stands.comes xs));
          due = due_before;
        }

        pub records_there : GoesOnAgain file mid new k kept F past b t end
            → (r : RecordsTo F file old new kept s.left end) × ((more : List (List ℕ)) × (past ++ (b ∷ more) ≡ arrivals_of r.recorded.lines))
        records_there again =
            let came = again.came in
            let one = heard.follows in
            let two = came.follows in
            let lines = before ++ two.lines in
            let used_is : past ++ (b ∷ came.used) ≡ arrivals_of lines = ap (λ (l : List (List ℕ)). l ++ (b ∷ came.used)) past_is ∙ ap (λ (l : List (List ℕ)). arrivals_of before ++ l) two.used_is ∙ sym (arrivals_joined before two.lines) in
            let heard_so = heard_all came.used came.first in (
              record {
                stop = came.stop;
                is = came.is;
                recorded = record {
                  lines = lines;
                  plain = plain_joined before two.lines one.plain two.plain;
                  records = records_further file old mid new Whole k kept before two.lines one.records two.records;
                  heard = λ arrivals tail cut. let f = heard_so arrivals tail cut in (f.0, f.1 ∙ ap (λ (l : List (List ℕ)). l ++ f.0) used_is);
                  replays = replays_as F again.last lines
                      (reached_behind F (gives again.first) (gives again.last) before two.lines (reached_there again.sent again.first again.event again.stands again.next) two.covers) came.stop came.stands came.awaits;
                };
              },
              (came.used, used_is),
            )

-- ---- answers

pub if_ok : {T E : Type 0} (r : Result T E) (P Q : T → Type 0) → ((x : T) → P x → Q x) → IfOk r P → IfOk r Q
if_ok (Ok x) P Q by is = by x is
if_ok (Err e) P Q by is = tt

pub if_err : {T E : Type 0} (r : Result T E) (P Q : E → Type 0) → ((e : E) → P e → Q e) → IfErr r P → IfErr r Q
if_err (Ok x) P Q by is = tt
if_err (Err e) P Q by is = by e is

-- the lines of a recording of a machine
pub lines_of : {Played : Type 0} (file : List ℕ) (old new : StoreState) (k l : Kept) (x y : MachineValue) (used : List (List ℕ)) → RecordsOn Played (gives x) (gives y) file old new k l used → Lines file old new k l x used y
lines_of file old new k l x y used on = record { played = tt; lines = on.lines; used_is = on.used_is; plain = on.plain; covers = on.covers; records = on.records }

-- ---- the arm that is taken

module _ (b : BranchedValue) (role : List ℕ) where
  pub taken_there : (arrivals past more : List (List ℕ)) (x : List ℕ) → list_any (is_free b.stem role) b.arms ≡ true → past ++ (x ∷ more) ≡ arrivals → length past ≡ stem_receives b role
      → place_taken b role None arrivals ≡ place_begun b role x
  taken_there arrivals past more x free is all =
      subst (λ (l : List (List ℕ)). place_taken b role None l ≡ place_begun b role x) is
      (ap (λ f. if f then option_map_or (place_begun b role) (slice_get (past ++ (x ∷ more)) (stem_receives b role)) 0 else 0) free
      ∙ ap (λ o. option_map_or (place_begun b role) o 0) (slice_get_seam past more x (stem_receives b role) all))

  pub taken_before : (arrivals : List (List ℕ)) → list_any (is_free b.stem role) b.arms ≡ true → length arrivals ≤ stem_receives b role → place_taken b role None arrivals ≡ 0
  taken_before arrivals free few =
      ap (λ f. if f then option_map_or (place_begun b role) (slice_get arrivals (stem_receives b role)) 0 else 0) free
      ∙ ap (λ o. option_map_or (place_begun b role) o 0) (slice_get_past arrivals (stem_receives b role) few)

  pub taken_never : (arrivals : List (List ℕ)) → list_any (is_free b.stem role) b.arms ≡ false → place_taken b role None arrivals ≡ 0
  taken_never arrivals free = ap (λ f. if f then option_map_or (place_begun b role) (slice_get arrivals (stem_receives b role)) 0 else 0) free

  pub codes_play : (init : List (List ℕ)) (seed : List ℕ) (codes : List CodeValue) → FitArms b.arms role codes → All (λ (code : CodeValue). length init ≡ length (take_texts code.instrs)) codes
      → AllByRecursion IsBytes init → AllByRecursion FittingCodesPlay b.arms → CodesPlay b role init seed codes
  codes_play init seed codes fit count bytes play place code at =
      let long = AllZip-long (λ (arm : ProtocolValue) (c : CodeValue). FitsRole arm (role_number arm.roles role) c) b.arms codes fit in
      let there = plays_there b role init seed codes fit count bytes play place (omega (arith, slice_get_within codes place code at, long)) in
      let same : Some there.code ≡ Some code = sym there.code_at ∙ at in
      let code_is : there.code ≡ code = cc in (
        there.arm,
        there.arm_at,
        λ arrivals strings. subst (λ (c : CodeValue). IsPlay there.arm (role_number there.arm.roles role) init seed 0 arrivals (without_place (run_bytes c init seed 0 arrivals))) code_is (there.plays arrivals strings),
      )

-- what two references end as, where they are the ones that were handed in
pub moved_both : {A B M : Type 0} (state : A → B) (x y : A) (m n : M) (name now place there : ℕ) → now ≡ name → (now ≡ name → x ≡ y) → there ≡ place → (there ≡ place → m ≡ n) → (P : B → M → Type 0) → P (state y) n → P (state x) m
moved_both state x y m n name now place there is same at stays P holds = rw (same is, stays at) holds
