-- In an attempt each line goes the way that is due to the role.
use Rattle.std.proofs.Common.{◌≡◌, ℕ, zero, suc, ◌+◌, ◌≤◌, List, [], ◌∷◌, ◌++◌, length, map, take, drop, replicate, Bool, false, Option, Some, None, IfSome, Ok, refl, sym, ap, ◌∙◌, subst, arith, append_assoc}
use Rattle.std.specs.Option.{option_and_then}
use Rattle.std.specs.List.{AllByRecursion}
use Rattle.anb_base.specs.Bytes.{IsBytes}
use Rattle.anb_machine.specs.ByteRuns.{run_bytes}
use Rattle.anb_plays.specs.Plays.{Run, Play}
use Rattle.anb_plays.specs.Runs.{without_place}
use Rattle.anb_protocol.specs.Plans.{PlanEvent, to_know, to_receive, plan_of}
use Rattle.anb_protocol.specs.Plays.{event_of, meaning_of}
use Rattle.anb_protocol.specs.Texts.{known_by}
use Rattle.anb_seal.specs.Streams.{draw_of}
use Rattle.anb_term.specs.Tree.{Tree}
use Rattle.anb_transcript.specs.declared.following.Due.TheVariants.{Send, End as Over}
use Rattle.anb_transcript.specs.declared.transcript.TranscriptLine.{TranscriptLine}
use Rattle.anb_transcript.specs.declared.transcript.TranscriptLine.TheVariants.{In, Out}
use Rattle.anb_transcript.specs.Replays.{arrivals_of, due_after}
use Rattle.anb_judge.specs.Verdicts.{line_bytes, own_plan, sides}
use Rattle.anb_partner.specs.Laws.{PartnersPlay}
use Rattle.anb_partner.specs.Plans.{Script, handed_terms, lines_before, mirrored, partner_plan}
use Rattle.anb_partner.specs.Talks.{Corruption, Hooked, IsHooked, flipped, own_lines}
use Rattle.anb_tries.specs.Laws.{Attempt, IsAttempt, judged}
use Rattle.anb_tries.proofs.Along.{Along, Fits, changed_lines, heard_in, hooked, next, plain, said_in, sides_of, unhooked}
use Rattle.anb_tries.proofs.Next.{AsDue, due_as, due_fit}

-- ---- what comes first in the partner's plan

known_aside : (ts : List Tree) (es : List PlanEvent) → sides_of (map to_know ts ++ es) ≡ sides_of es
known_aside [] es = refl
known_aside (t ∷ ts) es = known_aside ts es

handed_fits : (ts : List Tree) (hs : List (List ℕ)) (es : List PlanEvent) (own : List TranscriptLine) → length hs ≡ length ts
    → Fits (sides_of (map (to_receive 0) ts ++ es)) (map In hs ++ own) → Fits (sides_of es) own
handed_fits [] [] es own same fits = fits
handed_fits [] (h ∷ hs) es own same fits = absurd (omega (arith, same))
handed_fits (t ∷ ts) [] es own same fits = absurd (omega (arith, same))
handed_fits (t ∷ ts) (h ∷ hs) es own same fits = handed_fits ts hs es own (omega (arith, same)) (cc)

handed_next : (ts : List Tree) (hs : List (List ℕ)) (es : List PlanEvent) (own : List TranscriptLine) → length hs ≡ length ts
    → next (sides_of (map (to_receive 0) ts ++ es)) (map In hs ++ own) ≡ next (sides_of es) own
handed_next [] [] es own same = refl
handed_next [] (h ∷ hs) es own same = absurd (omega (arith, same))
handed_next (t ∷ ts) [] es own same = absurd (omega (arith, same))
handed_next (t ∷ ts) (h ∷ hs) es own same = handed_next ts hs es own (omega (arith, same))

-- ---- what arrives at the partner are bytes

all_arrive : (xs ys : List TranscriptLine) → AllByRecursion IsBytes (arrivals_of xs) → AllByRecursion IsBytes (arrivals_of ys) → AllByRecursion IsBytes (arrivals_of (xs ++ ys))
all_arrive [] ys one two = two
all_arrive (In b ∷ xs) ys one two = (one.0, all_arrive xs ys one.1 two)
all_arrive (Out b ∷ xs) ys one two = all_arrive xs ys one two

handed_arrive : (hs : List (List ℕ)) → AllByRecursion IsBytes hs → AllByRecursion IsBytes (arrivals_of (map In hs))
handed_arrive [] all = tt
handed_arrive (h ∷ hs) all = (all.0, handed_arrive hs all.1)

lines_arrive : (ls : List TranscriptLine) → AllByRecursion IsBytes (map line_bytes ls) → AllByRecursion IsBytes (arrivals_of (map flipped ls))
lines_arrive [] all = tt
lines_arrive (In b ∷ ls) all = lines_arrive ls all.1
lines_arrive (Out b ∷ ls) all = (all.0, lines_arrive ls all.1)

first_bytes : (k : ℕ) (ls : List TranscriptLine) → AllByRecursion IsBytes (map line_bytes ls) → AllByRecursion IsBytes (map line_bytes (take k ls))
first_bytes zero [] all = tt
first_bytes zero (l ∷ ls) all = tt
first_bytes (suc k) [] all = tt
first_bytes (suc k) (l ∷ ls) all = (all.0, first_bytes k ls all.1)

last_bytes : (k : ℕ) (ls : List TranscriptLine) → AllByRecursion IsBytes (map line_bytes ls) → AllByRecursion IsBytes (map line_bytes (drop k ls))
last_bytes zero [] all = tt
last_bytes zero (l ∷ ls) all = all
last_bytes (suc k) [] all = tt
last_bytes (suc k) (l ∷ ls) all = last_bytes k ls all.1

-- ---- the partner's lines

-- behind what it was handed
abbrev pub talked_lines : Option Hooked → List TranscriptLine → List TranscriptLine
talked_lines None ls = map flipped ls
talked_lines (Some h) ls = changed_lines h.at h.right h.wrong ls

own_are : (hs : List (List ℕ)) (o : Option Hooked) (ls : List TranscriptLine) → own_lines hs o ls ≡ map In hs ++ talked_lines o ls
own_are hs None ls = refl
own_are hs (Some h) ls = append_assoc (map In hs) (map flipped (take h.at ls)) (Out h.right ∷ In h.wrong ∷ map flipped (drop h.at ls))

talked_arrive : (o : Option Hooked) (ls : List TranscriptLine) → AllByRecursion IsBytes (map line_bytes ls) → IfSome o (λ h. IsBytes h.wrong) → AllByRecursion IsBytes (arrivals_of (talked_lines o ls))
talked_arrive None ls lines wrong = lines_arrive ls lines
talked_arrive (Some h) ls lines wrong =
    all_arrive (map flipped (take h.at ls)) (Out h.right ∷ In h.wrong ∷ map flipped (drop h.at ls)) (lines_arrive (take h.at ls) (first_bytes h.at ls lines))
    (wrong, lines_arrive (drop h.at ls) (last_bytes h.at ls lines))

own_arrive : (hs : List (List ℕ)) (o : Option Hooked) (ls : List TranscriptLine) → AllByRecursion IsBytes hs → AllByRecursion IsBytes (map line_bytes ls) → IfSome o (λ h. IsBytes h.wrong)
    → AllByRecursion IsBytes (arrivals_of (own_lines hs o ls))
own_arrive hs o ls handed lines wrong =
    subst (λ l. AllByRecursion IsBytes (arrivals_of l)) (sym (own_are hs o ls)) (all_arrive (map In hs) (talked_lines o ls) (handed_arrive hs handed) (talked_arrive o ls lines wrong))

-- the partner knows, is handed, and then does what mirrors the role's plan
pub plan_apart : (s : Script) → partner_plan s
    ≡ map to_know (known_by s.protocol s.role) ++ (map (to_receive 0) (handed_terms s.protocol s.role) ++ mirrored (length s.protocol.atoms) s.right 1 (plan_of s.protocol s.role) s.arrivals s.messages)
plan_apart s = append_assoc (map to_know (known_by s.protocol s.role)) (map (to_receive 0) (handed_terms s.protocol s.role)) (mirrored (length s.protocol.atoms) s.right 1 (plan_of s.protocol s.role) s.arrivals s.messages)

pub from_none : (o : Option ℕ) (k : ℕ) → IfSome o (λ n. k ≤ n) → IfSome o (λ at. 0 + k ≤ at)
from_none None k few = tt
from_none (Some n) k few = omega (arith, few)

-- they go along the mirrored plan, so those of the child go along the role's
along : (spare : ℕ) (right : Option Tree) (es : List PlanEvent) (ins ms : List Tree) (corrupt : Corruption) (at : Option ℕ) (o : Option Hooked) (ls : List TranscriptLine) → heard_in es ≤ length ins → said_in es ≤ length ms
    → at ≡ option_and_then (λ (t : Tree). lines_before spare 0 es ins) right → IsHooked at corrupt ls o
    → Fits (sides_of (mirrored spare right 1 es ins ms)) (talked_lines o ls) → Along (sides_of es) ls (sides_of (mirrored spare right 1 es ins ms)) (talked_lines o ls)
along spare None es ins ms corrupt at None ls hs ss is hook fits = plain spare 1 es ins ms ls hs ss fits
along spare None es ins ms corrupt at (Some h) ls hs ss is hook fits = (let none : None ≡ Some h.at = sym is ∙ hook.0 in absurd (cc))
along spare (Some r) es ins ms corrupt at None ls hs ss is hook fits =
    unhooked spare 1 0 r es ins ms ls hs ss (from_none (lines_before spare 0 es ins) (length ls) (subst (λ o. IfSome o (λ n. length ls ≤ n)) is hook)) fits
along spare (Some r) es ins ms corrupt at (Some h) ls hs ss is hook fits =
    let from : h.at ≡ 0 + h.at = omega arith in
    hooked spare 1 0 h.at r es ins ms ls h.right h.wrong hs ss (sym is ∙ hook.0 ∙ ap Some from) hook.1 fits

-- what a value was changed into are bytes
changed_bytes : (o : Option Hooked) (corrupt : Corruption) (at : Option ℕ) (ls : List TranscriptLine) → IsHooked at corrupt ls o → IfSome o (λ h. IsBytes h.wrong)
changed_bytes None corrupt at ls is = tt
changed_bytes (Some h) corrupt at ls is = is.3

module _ (a : Attempt) (is : IsAttempt a) (law : PartnersPlay a.script.protocol) where
  abbrev pub lines : List TranscriptLine
  lines = a.conversation.lines

  abbrev pub ss : List Bool
  ss = sides (own_plan (judged a))

  abbrev pub R : Run
  R = run_bytes a.code a.initial (replicate 32 0) 0

  abbrev pub own : List TranscriptLine
  own = own_lines a.handed is.converses.talks.hooked lines

  abbrev mirror : List PlanEvent
  mirror = mirrored (length a.script.protocol.atoms) a.script.right 1 (plan_of a.script.protocol a.script.role) a.script.arrivals a.script.messages

  pub partner_plays : (arrivals : List (List ℕ)) → AllByRecursion IsBytes arrivals
      → Play (meaning_of a.script.protocol) (draw_of (replicate 32 0) 0) (map event_of (partner_plan a.script)) a.initial arrivals (without_place (R arrivals))
  partner_plays arrivals bytes = (law a.script a.code a.initial arrivals (replicate 32 0) 0 refl is.partner is.count is.values bytes).0

  pub arrive : AllByRecursion IsBytes (arrivals_of own)
  arrive = own_arrive a.handed is.converses.talks.hooked lines is.handed_values is.lines (changed_bytes is.converses.talks.hooked a.wrong a.at lines is.converses.talks.is_hooked)

  pub own_fit : Fits (sides_of (partner_plan a.script)) own
  own_fit = due_fit (meaning_of a.script.protocol) (draw_of (replicate 32 0) 0) (map event_of (partner_plan a.script)) a.initial R partner_plays own is.converses.talks.due arrive

  own_next : AsDue (due_after R own) (next (sides_of (partner_plan a.script)) own)
  own_next = due_as (meaning_of a.script.protocol) (draw_of (replicate 32 0) 0) (map event_of (partner_plan a.script)) a.initial R partner_plays own arrive own_fit

  behind_known : sides_of (partner_plan a.script) ≡ sides_of (map (to_receive 0) (handed_terms a.script.protocol a.script.role) ++ mirror)
  behind_known = ap sides_of (plan_apart a.script) ∙ known_aside (known_by a.script.protocol a.script.role) (map (to_receive 0) (handed_terms a.script.protocol a.script.role) ++ mirror)

  abbrev talked : List TranscriptLine
  talked = talked_lines is.converses.talks.hooked lines

  -- what the partner is to do next is the next of the mirrored plan
  next_in_mirror : next (sides_of (partner_plan a.script)) own ≡ next (sides_of mirror) talked
  next_in_mirror =
      ap (λ s. next s own) behind_known
      ∙ ap (λ l. next (sides_of (map (to_receive 0) (handed_terms a.script.protocol a.script.role) ++ mirror)) l) (own_are a.handed is.converses.talks.hooked lines)
      ∙ handed_next (handed_terms a.script.protocol a.script.role) a.handed mirror talked is.each

  goes : Along ss lines (sides_of mirror) talked
  goes =
      let here = subst (λ s. Fits s own) behind_known own_fit in
      let there = subst (λ l. Fits (sides_of (map (to_receive 0) (handed_terms a.script.protocol a.script.role) ++ mirror)) l) (own_are a.handed is.converses.talks.hooked lines) here in
      let fits = handed_fits (handed_terms a.script.protocol a.script.role) a.handed mirror talked is.each there in
      along (length a.script.protocol.atoms) a.script.right (plan_of a.script.protocol a.script.role) a.script.arrivals a.script.messages a.wrong a.at is.converses.talks.hooked lines
      is.whole.heard_all is.whole.said_all is.hook is.converses.talks.is_hooked fits

  -- each line goes the way that is due
  pub placed : Fits ss lines
  placed = goes.fits

  -- where the partner is to say something next, the role is to hear it
  pub hears_next : (b : List ℕ) → due_after R own ≡ Ok (Send b) → next ss lines ≡ Some false
  hears_next b due = goes.hears (sym next_in_mirror ∙ subst (λ d. AsDue d (next (sides_of (partner_plan a.script)) own)) due own_next)

  -- where the partner has come to its end, the role has as many lines as messages
  pub over_next : due_after R own ≡ Ok Over → next ss lines ≡ None
  over_next due = goes.over (sym next_in_mirror ∙ subst (λ d. AsDue d (next (sides_of (partner_plan a.script)) own)) due own_next)
