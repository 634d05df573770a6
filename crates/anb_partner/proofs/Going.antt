-- A talk, part by part.
use Rattle.std.proofs.Common.{◌≡◌, ℕ, ◌+◌, ◌≤◌, ◌<◌, ◌^◌, List, [], ◌∷◌, ◌++◌, length, map, take, drop, Option, Some, None, IfSome, Result, Ok, Err, refl, sym, ap, ◌∙◌, subst, append_assoc, append-nil, length-append, arith}
use Rattle.std.specs.List.{AllByRecursion}
use Rattle.std.specs.Result.{IfErr, IfOk, OnOk}
use Rattle.std.proofs.lemmas.List.{map-append}
use Rattle.std.proofs.Math.Seq.{take-append_seam, drop-append_seam}
use Rattle.anb_lemmas.proofs.Each.{each_in_both}
use Rattle.anb_base.specs.Wires.{WireState}
use Rattle.anb_plays.specs.Plays.{Run}
use Rattle.anb_transcript.specs.declared.transcript.TranscriptLine.{TranscriptLine}
use Rattle.anb_transcript.specs.declared.transcript.TranscriptLine.TheVariants.{In, Out}
use Rattle.anb_transcript.specs.Replays.{AreDue, due_after}
use Rattle.anb_partner.specs.declared.conversation.TalkEnd.{TalkEnd}
use Rattle.anb_partner.specs.declared.talking.Stop.{Stop}
use Rattle.anb_partner.specs.declared.talking.Stop.TheVariants.{Over, NoMemory}
use Rattle.anb_partner.specs.Talks.{Corruption, Ends, Hooked, IsShort, Passed, Still, Talks, flipped, own_lines}
use Rattle.anb_partner.specs.Steps.{Reaches, GoesOn, GoesOnBy, Stops, Closes, IsOver, IsChanged, IsTalk}
use Rattle.anb_partner.proofs.Reaching.{due_behind, due_joined, reaches_here, reaches_joined}
use Rattle.anb_partner.proofs.Passing.{passed_nothing, passed_joined}

-- what a result says, in other words
pub on_ok : {T E : Type 0} (r : Result T E) (A B : Type 0) → OnOk r A → (A → B) → OnOk r B
on_ok (Ok x) A B h f = f h
on_ok (Err y) A B h f = tt

pub if_ok : {T E : Type 0} (r : Result T E) (P Q : T → Type 0) → IfOk r P → ((x : T) → P x → Q x) → IfOk r Q
if_ok (Ok x) P Q h f = f x h
if_ok (Err y) P Q h f = tt

pub if_err : {T E : Type 0} (r : Result T E) (P Q : E → Type 0) → IfErr r P → ((y : E) → P y → Q y) → IfErr r Q
if_err (Ok x) P Q h f = tt
if_err (Err y) P Q h f = f y h

pub still : (s : WireState) → Still s s
still s = record { took = record { left = refl; taken_at = refl }; written = refl }

-- ---- lines, and then others

pub went_nowhere : (R : Run) (lines : List TranscriptLine) (s : WireState) → GoesOn R R lines lines s s []
went_nowhere R lines s = record { lines = sym (append-nil lines); reaches = reaches_here R; passed = passed_nothing s; short = tt }

pub went_further : (R N M : Run) (a b c : List TranscriptLine) (s t u : WireState) (xs ys : List TranscriptLine)
    → GoesOn R N a b s t xs → GoesOn N M b c t u ys → GoesOn R M a c s u (xs ++ ys)
went_further R N M a b c s t u xs ys one two = record {
  lines = two.lines ∙ ap (λ l. l ++ ys) one.lines ∙ append_assoc a xs ys;
  reaches = subst (Reaches R M) (sym (map-append flipped xs ys)) (reaches_joined R N M (map flipped xs) (map flipped ys) one.reaches two.reaches);
  passed = passed_joined s t u xs ys one.passed two.passed;
  short = each_in_both IsShort xs ys one.short two.short;
}

pub nowhere : (R : Run) (lines : List TranscriptLine) (s : WireState) → GoesOnBy 0 R R lines lines s s
nowhere R lines s = ([], went_nowhere R lines s, refl)

pub one_further : (R N M : Run) (a b c : List TranscriptLine) (s t u : WireState) (n : ℕ) → GoesOnBy n R N a b s t → GoesOnBy 1 N M b c t u → GoesOnBy (n + 1) R M a c s u
one_further R N M a b c s t u n one two =
    (one.0 ++ two.0, went_further R N M a b c s t u one.0 two.0 one.1 two.1, omega (arith, length-append one.0 two.0, one.2, two.2))

pub goes_by_line : (R N : Run) (before after : List TranscriptLine) (s t : WireState) (line : TranscriptLine) → after ≡ before ++ line ∷ []
    → Reaches R N (flipped line ∷ []) → Passed s t (line ∷ []) → IsShort line → GoesOnBy 1 R N before after s t
goes_by_line R N before after s t line lines reaches passed short =
    (line ∷ [], record { lines = lines; reaches = reaches; passed = passed; short = (short, tt) }, refl)

-- there are so many lines more
pub grown : (n : ℕ) (R N : Run) (before after : List TranscriptLine) (s t : WireState) → GoesOnBy n R N before after s t → length after ≡ length before + n
grown n R N before after s t on = omega (arith, ap length on.1.lines, length-append before on.0, on.2)

-- it is over behind some lines
pub over_behind : (R N : Run) (a b c : List TranscriptLine) (s t u : WireState) (more : List TranscriptLine) (corrupt : Corruption) (stop : Stop)
    → GoesOn R N a b s t more → c ≡ b → Stops corrupt (due_after N []) t u stop → IsOver R a c s u corrupt stop
over_behind R N a b c s t u more corrupt NoMemory on same stops = tt
over_behind R N a b c s t u more corrupt (Over end) on same stops = record {
  more = more;
  N = N;
  t = t;
  on = subst (λ l. GoesOn R N a l s t more) (sym same) on;
  ends = stops;
}

-- ---- whole talks

due_there : (R N : Run) (own : List TranscriptLine) → Reaches R N own → due_after R own ≡ due_after N []
due_there R N own reaches = ap (due_after R) (sym (append-nil own)) ∙ due_behind R N own [] reaches

-- no value was changed
pub plain_talk : (R : Run) (lines : List TranscriptLine) (s u : WireState) (at : Option ℕ) (corrupt : Corruption) (stop : Stop)
    → IfSome at (λ n. length lines ≤ n) → length lines + 1 < 2 ^ 32 → IsOver R [] lines s u corrupt stop → IsTalk R at corrupt s u lines stop
plain_talk R lines s u at corrupt NoMemory most few over = tt
plain_talk R lines s u at corrupt (Over end) most few over =
    let on : GoesOn R over.N [] lines s over.t lines = subst (GoesOn R over.N [] lines s over.t) (sym over.on.lines) over.on in
    record {
      hooked = None;
      is_hooked = most;
      due = on.reaches.due;
      mid = over.t;
      passed = on.passed;
      ends = subst (λ d. Ends corrupt d over.t u end) (sym (due_there R over.N (map flipped lines) on.reaches)) over.ends;
      short = on.short;
      few = few;
    }

-- a value was changed behind the first lines
module _ (R N M : Run) (first lines : List TranscriptLine) (s t u : WireState) (n : ℕ) (corrupt : Corruption) (one : GoesOnBy n R N [] first s t) (changed : IsChanged corrupt N M) (few : length lines + 1 < 2 ^ 32) where
  pub hooked_talk : (stop : Stop) → IsOver M first lines t u corrupt stop → IsTalk R (Some n) corrupt s u lines stop
  hooked_talk NoMemory over = tt
  hooked_talk (Over end) over =
      let h : Hooked = record { at = length first; right = changed.0; wrong = changed.1 } in
      let same : first ≡ one.0 = one.1.lines in
      let begun : GoesOn R N [] first s t first = subst (GoesOn R N [] first s t) (sym same) one.1 in
      let count : length first ≡ n = ap length same ∙ one.2 in
      let later = over.more in
      let whole : lines ≡ first ++ later = over.on.lines in
      let front : take (length first) lines ≡ first = ap (take (length first)) whole ∙ take-append_seam first later in
      let back : drop (length first) lines ≡ later = ap (drop (length first)) whole ∙ drop-append_seam first later in
      let own = map flipped first ++ (Out changed.0 ∷ In changed.1 ∷ map flipped later) in
      let reaches : Reaches R over.N own =
      reaches_joined R N over.N (map flipped first) (Out changed.0 ∷ In changed.1 ∷ map flipped later) begun.reaches
      (reaches_joined N M over.N (Out changed.0 ∷ In changed.1 ∷ []) (map flipped later) changed.4 over.on.reaches) in
      let is_own : map flipped (take (length first) lines) ++ (Out changed.0 ∷ In changed.1 ∷ map flipped (drop (length first) lines)) ≡ own =
      ap (λ l. map flipped l ++ (Out changed.0 ∷ In changed.1 ∷ map flipped (drop (length first) lines))) front
      ∙ ap (λ l. map flipped first ++ (Out changed.0 ∷ In changed.1 ∷ map flipped l)) back in
      record {
        hooked = Some h;
        is_hooked = (ap Some (sym count), omega (arith, ap length whole, length-append first later), changed.2, changed.3);
        due = subst (AreDue R) (sym is_own) reaches.due;
        mid = over.t;
        passed = subst (Passed s over.t) (sym whole) (passed_joined s t over.t first later begun.passed over.on.passed);
        ends = subst (λ l. Ends corrupt (due_after R l) over.t u end) (sym is_own) (subst (λ d. Ends corrupt d over.t u end) (sym (due_there R over.N own reaches)) over.ends);
        short = subst (AllByRecursion IsShort) (sym whole) (each_in_both IsShort first later begun.short over.on.short);
        few = few;
      }

-- it is over where a value is to be changed
pub talk_at_hook : (R N : Run) (lines : List TranscriptLine) (s t : WireState) (n : ℕ) (corrupt : Corruption) (stop : Stop)
    → GoesOnBy n R N [] lines s t → length lines + 1 < 2 ^ 32 → Stops corrupt (due_after N []) t t stop → IsTalk R (Some n) corrupt s t lines stop
talk_at_hook R N lines s t n corrupt stop on few stops =
    plain_talk R lines s t (Some n) corrupt stop (omega (arith, ap length on.1.lines, on.2)) few
    (over_behind R N [] lines lines s t t on.0 corrupt stop on.1 refl stops)

-- ---- behind what was handed in

own_is : (handed : List (List ℕ)) (h : Option Hooked) (lines : List TranscriptLine) → own_lines handed h lines ≡ map In handed ++ own_lines [] h lines
own_is handed None lines = refl
own_is handed (Some h) lines =
    append_assoc (map In handed) (map flipped (take h.at lines)) (Out h.right ∷ In h.wrong ∷ map flipped (drop h.at lines))

pub handed_talk : (R N : Run) (handed : List (List ℕ)) (at : Option ℕ) (corrupt : Corruption) (s u : WireState) (lines : List TranscriptLine) (end : TalkEnd)
    → Reaches R N (map In handed) → Talks N [] at corrupt s u lines end → Talks R handed at corrupt s u lines end
handed_talk R N handed at corrupt s u lines end reaches talks =
    let own = own_lines [] talks.hooked lines in
    let is : own_lines handed talks.hooked lines ≡ map In handed ++ own = own_is handed talks.hooked lines in
    record {
      hooked = talks.hooked;
      is_hooked = talks.is_hooked;
      due = subst (AreDue R) (sym is) (due_joined R N (map In handed) own reaches talks.due);
      mid = talks.mid;
      passed = talks.passed;
      ends = subst (λ d. Ends corrupt d talks.mid u end) (sym (ap (due_after R) is ∙ due_behind R N (map In handed) own reaches)) talks.ends;
      short = talks.short;
      few = talks.few;
    }
