-- What is told of the cases that were played.
use Rattle.std.proofs.Common.{◌≡◌, ◌≢◌, ◌<◌, ◌≤◌, ◌+◌, ℕ, zero, suc, List, [], ◌∷◌, ◌++◌, length, Bool, true, false, cond, Some, refl, ap, sym, ◌∙◌, subst, arith, length-append, append-nil}
use Rattle.std.specs.Prelude.{◌==◌, count_by, slice_get}
use Rattle.anb_attempts.specs.declared.attempts.Attempt.{Attempt}
use Rattle.anb_base.specs.Wires.{WireState}
use Rattle.anb_partner.specs.Trials.{OthersStay, Trial}
use Rattle.anb_status.specs.declared.status.Status.{Status}
use Rattle.anb_status.specs.declared.status.Status.TheVariants as status
use Rattle.anb_verdict.specs.declared.verdict.Verdict.{Verdict}
use Rattle.anb_probe_commands.specs.Keeping.{IsSame, Keeps, KeepsBy, KeepsCase, KeepsLess, Told, told, told_from}
use Rattle.anb_probe_commands.specs.Playing.{status_of}
use Rattle.anb_probe_commands.specs.Plays.{ArePlayed, CaseEnd, IsNotStarted, IsTried}
use Rattle.anb_probe_commands.specs.ProbeInto.{IsNext}
use Rattle.anb_probe_commands.specs.Probings.{Probing}
use Rattle.anb_probe_commands.specs.Reports.{is_failed, status_for}
use Rattle.anb_probe_commands.specs.declared.cases.Prepared.{Prepared}
use Rattle.anb_probe_commands.specs.declared.playing.Outcome.{Outcome}
use Rattle.anb_probe_commands.specs.declared.writing.PlayNo.{PlayNo}
use Rattle.anb_probe_commands.specs.declared.writing.PlayNo.TheVariants.{Failed, NotStarted, NoMemory}
use Rattle.anb_probe_commands.proofs.Played.{begun, none_played}
use Rattle.anb_probe_commands.proofs.Tried.{PlayedSoFar, next_played}

-- ---- one case more

told_next : (k : ℕ) (ends : List CaseEnd) (end : CaseEnd) → told_from k (ends ++ end ∷ []) ≡ told_from k ends ++ told (k + length ends) end.lines ∷ []
told_next k [] end = ap (λ (n : ℕ). told n end.lines ∷ []) (at_first k) where
  at_first : (n : ℕ) → n ≡ n + 0
  at_first n = omega arith
told_next k (e ∷ ends) end = ap (λ l. told k e.lines ∷ l) (told_next (k + 1) ends end ∙ ap (λ (n : ℕ). told_from (k + 1) ends ++ told n end.lines ∷ []) (further k (length ends))) where
  further : (n m : ℕ) → n + 1 + m ≡ n + suc m
  further n m = omega arith

told_at : (ends : List CaseEnd) (i : ℕ) (end : CaseEnd) → length ends ≡ i → told_from 0 ends ++ told i end.lines ∷ [] ≡ told_from 0 (ends ++ end ∷ [])
told_at ends i end count = ap (λ (n : ℕ). told_from 0 ends ++ told n end.lines ∷ []) (as_sum i (length ends) count) ∙ sym (told_next 0 ends end) where
  as_sum : (n m : ℕ) → m ≡ n → n ≡ 0 + m
  as_sum n m is = omega (arith, is)

-- how far the first case got is told behind it
got_behind : (n got reached : ℕ) → (r : ℕ) × (0 < n → r ≡ reached) × (n ≡ 0 → r ≡ got)
got_behind zero got reached = (got, λ less. absurd (omega (arith, less)), λ e. refl)
got_behind (suc n) got reached = (reached, λ less. refl, λ e. absurd (omega (arith, e)))

-- ---- who was told

module _ (q : Probing) (x : Prepared) (order : List (List ℕ)) where
  -- nothing was played, and nobody was told
  pub keeps_none : (After : List Told → Type 0) (old : ℕ → Trial) → ((i : ℕ) → (old i).phase ≡ 0) → After [] → Keeps q x.scenes.items order x.cases.items After old old IsSame
  keeps_none After old fresh kept = record {
    reached = 0;
    ends = [];
    within = omega arith;
    played = none_played q x.scenes.items order x.cases.items old 0 1 fresh;
    next = refl;
    kept = kept;
  }

  module _ (After : List Told → Type 0) (old new : ℕ → Trial) where
    -- so many were played
    pub keeps_played : (reached : ℕ) (ends : List CaseEnd) (i : ℕ) → length ends ≡ i → i ≤ length x.cases.items → ArePlayed q x.scenes.items order x.cases.items reached ends i old new → After (told_from 0 ends)
        → Keeps q x.scenes.items order x.cases.items After old new IsSame
    keeps_played reached ends i count within played kept = record {
      reached = reached;
      ends = ends;
      within = omega (arith, count, within);
      played = record { each = played.each; others = λ k after. played.others k (omega (arith, after, count)); none_left = played.none_left };
      next = played.others (length ends) (omega (arith, count));
      kept = kept;
    }

    -- and then lines weren't written
    pub keeps_behind : (why : PlayNo) → why ≢ NotStarted → Keeps q x.scenes.items order x.cases.items After old new IsSame → KeepsLess q x.scenes.items order x.cases.items After old new why
    keeps_behind NotStarted never k = absurd (never refl)
    keeps_behind Failed other k = k
    keeps_behind NoMemory other k = (told_from 0 k.ends, k.kept)

    -- by the status
    pub keeps_as : (end : Status) → end ≢ status.NoMemory → ((a b : Trial) → b ≡ a → IsNext end a b) → Keeps q x.scenes.items order x.cases.items After old new IsSame → KeepsBy q x.scenes.items order x.cases.items After old new end
    keeps_as end some next k = by end some (record {
      reached = k.reached;
      ends = k.ends;
      within = k.within;
      played = k.played;
      next = next (old (length k.ends)) (new (length k.ends)) k.next;
      kept = k.kept;
    }) where
      by : (s : Status) → s ≢ status.NoMemory → Keeps q x.scenes.items order x.cases.items After old new (IsNext s) → KeepsBy q x.scenes.items order x.cases.items After old new s
      by status.NoMemory never y = absurd (never refl)
      by _ other y = y

    pub keeps_less : (why : PlayNo) (name : List ℕ) → KeepsLess q x.scenes.items order x.cases.items After old new why → KeepsBy q x.scenes.items order x.cases.items After old new (status_of why name)
    keeps_less NotStarted name k = record { reached = k.reached; ends = k.ends; within = k.within; played = k.played; next = k.next; kept = k.kept }
    keeps_less Failed name k = keeps_as status.WriteFault (λ e. cc) (λ a b same. same) k
    keeps_less NoMemory name k = k

    pub keeps_all : (vs : List Verdict) → Keeps q x.scenes.items order x.cases.items After old new IsSame → KeepsBy q x.scenes.items order x.cases.items After old new (status_for vs)
    keeps_all vs k = by (count_by is_failed vs == 0) where
      by : (b : Bool) → KeepsBy q x.scenes.items order x.cases.items After old new (cond b status.Done (status.CasesNotOk (count_by is_failed vs) (length vs)))
      by true = keeps_as status.Done (λ e. cc) (λ a b same. same) k
      by false = keeps_as (status.CasesNotOk (count_by is_failed vs) (length vs)) (λ e. cc) (λ a b same. same) k

    -- something was told whatever the status
    pub keeps_some : (end : Status) → KeepsBy q x.scenes.items order x.cases.items After old new end → (some : List Told) × After some
    keeps_some status.NoMemory k = k
    keeps_some _ k = (told_from 0 k.ends, k.kept)

    pub keeps_next : (end : Status) → end ≢ status.NoMemory → KeepsBy q x.scenes.items order x.cases.items After old new end → Keeps q x.scenes.items order x.cases.items After old new (IsNext end)
    keeps_next status.NoMemory never k = absurd (never refl)
    keeps_next _ other k = k

    -- the same of whoever else may have become so
    module _ (Other : List Told → Type 0) (becomes : (some : List Told) → After some → Other some) where
      pub keeps_mapped : (end : Status) → KeepsBy q x.scenes.items order x.cases.items After old new end → KeepsBy q x.scenes.items order x.cases.items Other old new end
      keeps_mapped status.NoMemory k = (k.0, becomes k.0 k.1)
      keeps_mapped _ k =
          record { reached = k.reached; ends = k.ends; within = k.within; played = k.played; next = k.next; kept = becomes (told_from 0 k.ends) k.kept }

-- a case that came to a verdict, whose lines weren't written
pub case_kept : (q : Probing) (x : Prepared) (order : List (List ℕ)) (After : List Told → Type 0) (case reached : ℕ) (old new : Trial) (a : Attempt) (end : CaseEnd) (got : ℕ) (why : PlayNo)
    → slice_get x.cases.items case ≡ Some a → IsTried q x.scenes.items order a reached old new end got → After (told case end.lines ∷ []) → why ≢ NotStarted
    → KeepsCase q x.scenes.items order x.cases.items After case reached old new why
case_kept q x order After case reached old new a end got NotStarted at tried after started = absurd (started refl)
case_kept q x order After case reached old new a end got Failed at tried after started = (a, end, got, at, tried, after)
case_kept q x order After case reached old new a end got NoMemory at tried after started = (told case end.lines ∷ [], after)

-- ---- in the loop over the cases: what was told before, what then, and what by then

module _ (q : Probing) (x : Prepared) (order : List (List ℕ)) (old mid new : ℕ → Trial) (S T U : WireState) (outcomes : List Outcome) (i reached : ℕ) (so : PlayedSoFar q x order old mid S T outcomes i reached)
    (within : i < length x.cases.items) (Before Then By : List Told → Type 0) (joined : (some more : List Told) → Before some → Then more → By (some ++ more)) (kept : Before (told_from 0 so.ends)) where
  -- the next case came to this end
  pub kept_next : (end : CaseEnd) → Then (told i end.lines ∷ []) → By (told_from 0 (so.ends ++ end ∷ []))
  kept_next end then = subst By (told_at so.ends i end so.count) (joined (told_from 0 so.ends) (told i end.lines ∷ []) kept then)

  pub kept_some : (some : List Told) → Then some → (all : List Told) × By all
  kept_some some then = (told_from 0 so.ends ++ some, joined (told_from 0 so.ends) some kept then)

  -- not all were played
  pub kept_cut : OthersStay i mid new → (new i).phase ≢ 1 → (why : PlayNo) → (why ≡ NotStarted → IsNotStarted (mid i) (new i)) → KeepsCase q x.scenes.items order x.cases.items Then i reached (mid i) (new i) why
      → KeepsLess q x.scenes.items order x.cases.items By old new why
  kept_cut stay gone NotStarted stuck then =
      let none = joined (told_from 0 so.ends) [] kept then in
      record {
        reached = reached;
        ends = so.ends;
        within = omega (arith, so.count, within);
        played = begun q x.scenes.items order x.cases.items old mid new reached so.ends i so.played (subst (λ (k : ℕ). OthersStay k mid new) (sym so.count) stay) (subst (λ (k : ℕ). (new k).phase ≢ 1) (sym so.count) gone) (omega (arith, so.count));
        next = subst (λ (k : ℕ). IsNotStarted (old k) (new k)) (sym so.count) (subst (λ (t : Trial). IsNotStarted t (new i)) (so.played.others i (omega arith)) (stuck refl));
        kept = subst By (append-nil (told_from 0 so.ends)) none;
      }
  kept_cut stay gone Failed stuck (a, end, got, at, tried, after) =
      let r = got_behind i got reached in
      let played = (next_played q x order old mid new S T U reached so.ends i so.count so.wrote a end got r.0 so.played so.begun within stay gone at tried r.1 r.2).0 in
      keeps_played q x order By old new r.0 (so.ends ++ end ∷ []) (i + 1) (length-append so.ends (end ∷ []) ∙ ap (λ (n : ℕ). n + 1) so.count) (omega (arith, within)) played (kept_next end after)
  kept_cut stay gone NoMemory stuck (some, then) = kept_some some then
