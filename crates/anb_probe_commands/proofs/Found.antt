-- What is told of the cases that were played.
use Rattle.std.proofs.Common.{◌≡◌, ℕ, zero, suc, ◌+◌, ◌-◌, ◌<◌, ◌≤◌, ◌^◌, List, [], ◌∷◌, ◌++◌, length, map, take, drop, All, cond, false, Option, Some, refl, sym, ap, ◌∙◌, subst, arith}
use Rattle.std.specs.Prelude.{◌&&◌, not, slice_get}
use Rattle.std.specs.List.{AllByRecursion}
use Rattle.std.specs.Option.{option_map_or}
use Rattle.std.proofs.lemmas.List.{length-take-le}
use Rattle.std.proofs.lemmas.List.Elements.{All-from_recursion}
use Rattle.anb_lemmas.proofs.Each.{each_from_got}
use Rattle.anb_lemmas.proofs.Lists.{drop_at_got, got_within, take_got}
use Rattle.anb_base.specs.Wires.{WireState}
use Rattle.anb_base.specs.declared.TheConstants.{ARRIVAL}
use Rattle.anb_code.specs.Uses.{is_among}
use Rattle.anb_draws.specs.Draws.{IsDrawn, Values, value_in}
use Rattle.anb_judge.specs.Verdicts.{line_bytes}
use Rattle.anb_partner.specs.Talks.{IsShort}
use Rattle.anb_partner.specs.Trials.{Trial}
use Rattle.anb_transcript.specs.declared.transcript.TranscriptLine.{TranscriptLine}
use Rattle.anb_transcript.specs.declared.transcript.TranscriptLine.TheVariants.{In, Out}
use Rattle.anb_probe_commands.specs.Plays.{AreTold, CaseEnd, IsTried, judged_over, reached_in}
use Rattle.anb_probe_commands.specs.Playing.{CanJudge, IsPlayedOut, end_in}
use Rattle.anb_probe_commands.specs.Probings.{Probing}
use Rattle.anb_probe_commands.specs.Reports.{case_with, is_value, same_from, twin_in}
use Rattle.anb_probe_commands.specs.declared.cases.Prepared.{Prepared}
use Rattle.anb_probe_commands.specs.declared.playing.Outcome.{Outcome}
use Rattle.anb_probe_commands.proofs.Tried.{got_some}

each_brief : (lines : List TranscriptLine) → AllByRecursion IsShort lines → AllByRecursion (λ line. length (line_bytes line) ≤ ARRIVAL) lines
each_brief [] all = tt
each_brief (In b ∷ lines) all = (all.0, each_brief lines all.1)
each_brief (Out b ∷ lines) all = (all.0, each_brief lines all.1)

-- lines that can be judged
pub lines_brief : (end : CaseEnd) → CanJudge end → All (λ line. length (line_bytes line) ≤ ARRIVAL) end.lines
lines_brief end can = All-from_recursion (λ line. length (line_bytes line) ≤ ARRIVAL) end.lines (each_brief end.lines can.short)

-- what came of each can be judged
pub can_judge : (q : Probing) (x : Prepared) (order : List (List ℕ)) (old new : ℕ → Trial) (S T : WireState) (outcomes : List Outcome) → IsPlayedOut q x order old new S T outcomes
    → AllByRecursion CanJudge (map end_in outcomes)
can_judge q x order old new S T outcomes cases = subst (AllByRecursion CanJudge) cases.ends_are (each_from_got CanJudge cases.ends one) where
  one : (i : ℕ) (end : CaseEnd) → slice_get cases.ends i ≡ Some end → CanJudge end
  one i end at =
      let within : i < length x.cases.items = omega (arith, got_within cases.ends i end at, cases.all) in
      let here = got_some x.cases.items i within in
      let tried : IsTried q x.scenes.items order here.0 (reached_in i cases.reached) (old i) (new i) end _ = (cases.played.each i here.0 end here.1 at).1 in
      record {
        few = subst (λ (ls : List TranscriptLine). length ls + 1 < 2 ^ 32) (sym tried.lines) tried.converses.talks.few;
        short = subst (AllByRecursion IsShort) (sym tried.lines) tried.converses.talks.short;
      }

-- one case more
pub told_more : (q : Probing) (ends : List CaseEnd) (told : List Values) (end : CaseEnd) (draws : Values) → AreTold q ends told → IsDrawn (judged_over q end.lines) draws
    → AreTold q (ends ++ end ∷ []) (told ++ draws ∷ [])
told_more q [] [] end draws are is = (is, tt)
told_more q [] (d ∷ told) end draws are is = absurd are
told_more q (e ∷ ends) [] end draws are is = absurd are
told_more q (e ∷ ends) (d ∷ told) end draws are is = (are.0, told_more q ends told end draws are.1 is)

pub told_long : (q : Probing) (ends : List CaseEnd) (told : List Values) → AreTold q ends told → length told ≡ length ends
told_long q [] [] are = refl
told_long q [] (d ∷ told) are = absurd are
told_long q (e ∷ ends) [] are = absurd are
told_long q (e ∷ ends) (d ∷ told) are = ap suc (told_long q ends told are.1)

-- ---- names that come out equal

module _ (values : List (Option (List ℕ))) (i : ℕ) (value : Option (List ℕ)) (at : slice_get values i ≡ Some value) where
  abbrev Behind : List (Option (List ℕ)) → List (Option (List ℕ)) → ℕ → Option (ℕ × ℕ)
  Behind before rest k = option_map_or (λ one. Some (one, k + 1)) (case_with value 1 before) (same_from (before ++ value ∷ []) rest)

  -- the case at a place
  pub same_next : same_from (take i values) (drop i values)
      ≡ option_map_or (λ one. Some (one, i + 1)) (case_with value 1 (take i values)) (same_from (take (i + 1) values) (drop (i + 1) values))
  same_next =
      let long : length (take i values) ≡ i = length-take-le i values (omega (arith, got_within values i value at)) in
      ap (same_from (take i values)) (drop_at_got values i value at)
      ∙ ap (λ (k : ℕ). Behind (take i values) (drop (i + 1) values) k) long
      ∙ ap (λ (l : List (Option (List ℕ))). option_map_or (λ one. Some (one, i + 1)) (case_with value 1 (take i values)) (same_from l (drop (i + 1) values))) (sym (take_got values i value at))

-- one of them
pub judge_at : (outcomes : List Outcome) (i : ℕ) (o : Outcome) → slice_get outcomes i ≡ Some o → AllByRecursion CanJudge (map end_in outcomes) → CanJudge (end_in o)
judge_at [] i o at all = absurd (let never = at in cc)
judge_at (x ∷ xs) zero o at all = let same : x ≡ o = cc in subst (λ (y : Outcome). CanJudge (end_in y)) same all.0
judge_at (x ∷ xs) (suc i) o at all = judge_at xs i o at all.1

-- ---- the first name with a value

-- where this name isn't it, the first is behind it
pub twin_next : (apart value : List ℕ) (values : Values) (name all : ℕ) → name < all → (is_value value (value_in values name) && not (is_among apart name)) ≡ false
    → twin_in apart value values name (all - name) ≡ twin_in apart value values (name + 1) (all - (name + 1))
twin_next apart value values name all within not_here =
    let left : all - name ≡ suc (all - (name + 1)) = omega (arith, within) in
    ap (twin_in apart value values name) left
    ∙ ap (λ b. cond b (Some name) (twin_in apart value values (name + 1) (all - (name + 1)))) not_here
