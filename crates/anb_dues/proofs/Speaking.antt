-- A partner that heard the bytes of its terms says the bytes of the next ones, also behind a value that was changed; and what it
-- hears then are the bytes of its terms.
use Rattle.std.proofs.Common.{◌≡◌, ℕ, zero, suc, ◌+◌, ◌≤◌, List, [], ◌∷◌, ◌++◌, length, map, take, Bool, true, false, Option, Some, None, IfSome, IsTrue, refl, sym, ap, ◌∙◌, subst, inl, inr, ◌⊎◌, arith}
use Rattle.std.specs.Prelude.{if◌then◌else◌}
use Rattle.std.specs.List.{AllByRecursion}
use Rattle.anb_term.specs.Agree.{Agree}
use Rattle.anb_term.specs.Tree.{Tree, leaf, trees_of, IsFormed, AreFormed}
use Rattle.anb_term.specs.Value.{Meaning, value}
use Rattle.anb_plays.specs.Honest.{honest, heard}
use Rattle.anb_plays.specs.Plans.{Event, send, recv, known}
use Rattle.anb_plays.specs.Plays.{Played, Walk, Play}
use Rattle.anb_plays.specs.Statements.{HonestAgree}
use Rattle.anb_protocol.specs.Plans.{PlanEvent, to_know, to_make, to_send, to_receive}
use Rattle.anb_protocol.specs.Plays.{event_of}
use Rattle.anb_transcript.specs.declared.transcript.TranscriptLine.{TranscriptLine}
use Rattle.anb_transcript.specs.declared.transcript.TranscriptLine.TheVariants.{In, Out}
use Rattle.anb_transcript.specs.Replays.{arrivals_of, messages_of}
use Rattle.anb_partner.specs.Plans.{has_atom, hook, lines_before, mirrored}
use Rattle.anb_partner.specs.Talks.{flipped}
use Rattle.anb_tries.proofs.Along.{Fits, before_least, changed_lines, counted, heard_in, one_less, said_in, sides_of}
use Rattle.anb_tries.proofs.Refusing.{grows, one_formed}
use Rattle.anb_dues.proofs.Firsts.{Are, Text}

-- ---- where a value is changed

-- the partner's lines, where a value is changed behind the first k of these, or none is
abbrev pub talked : (right wrong : Text) → Option ℕ → List TranscriptLine → List TranscriptLine
talked right wrong None ls = map flipped ls
talked right wrong (Some k) ls = changed_lines k right wrong ls

-- A value is to be changed behind so many lines, of which n are gone: it was, or there are no more lines than these.
abbrev pub IsAt : Option Tree → Option ℕ → (before : Option ℕ) → (n lines : ℕ) → Type 0
IsAt None None before n lines = Unit {0}
IsAt None (Some k) before n lines = ⊥
IsAt (Some r) None before n lines = IfSome before (λ at. n + lines ≤ at)
IsAt (Some r) (Some k) before n lines = (before ≡ Some (n + k)) × (k ≤ lines)

pub by_test : (P : Bool → Type 0) (x : Bool) → (x ≡ true → P true) → (x ≡ false → P false) → P x
by_test P true p q = p refl
by_test P false p q = q refl

pub same_some : (x y : ℕ) → Some x ≡ Some y → x ≡ y
same_some x y e = cc

-- ---- what a play says and hears

module _ (m : Meaning Text) (agrees : HonestAgree m) (draw atoms : ℕ → Text) (good : (k : ℕ) → IsTrue (m.is_value (atoms k))) where
  abbrev of : Tree → Text
  of t = honest m atoms t

  said_right : (t : Tree) (es : List Event) (G : List Tree) (e i : ℕ) (xs : List Text) (q : Played Text) (c : Text) (more : List Text) → AreFormed m.has (trees_of G)
      → Walk m draw (send t ∷ es) G (map of G) e i xs q → q.sent ≡ c ∷ more
      → (c ≡ of t) × (r : Played Text) × Walk m draw es G (map of G) (e + 1) i xs r × (r.sent ≡ more)
  said_right t es G e i xs q c more formed walk sent =
      let recipe = walk.2.0 in
      let own : value m (map of G) recipe.0 ≡ Some walk.0 = walk.2.1 recipe.0 recipe.1 in
      let form : value m (map of G) recipe.0 ≡ Some (of t) = (agrees atoms G good formed).2 recipe.0 t recipe.1 in
      let same : walk.0 ≡ of t = cc in
      let whole : walk.0 ∷ walk.1.sent ≡ c ∷ more = sym (ap (λ (x : Played Text). x.sent) walk.4) ∙ sent in
      let first : walk.0 ≡ c = cc in
      let rest : walk.1.sent ≡ more = cc in
      (sym first ∙ same, walk.1, walk.3, rest)

  pub heard_right : (t : Tree) (es : List Event) (G : List Tree) (e i : ℕ) (x : Text) (xs : List Text) (q : Played Text) → AreFormed m.has (trees_of G) → IsFormed m.has t → x ≡ of t
      → Walk m draw (recv t ∷ es) G (map of G) e i (x ∷ xs) q → Walk m draw es (G ++ t ∷ []) (map of (G ++ t ∷ [])) (e + 1) i xs q
  heard_right t es G e i x xs q formed f right (inl h) = subst (λ vs. Walk m draw es (G ++ t ∷ []) vs (e + 1) i xs q) (grows of G (map of G) t x refl right) h.1
  heard_right t es G e i x xs q formed f right (inr h) =
      absurd (h.0 (subst (Agree m (G ++ t ∷ [])) (sym (grows of G (map of G) t x refl right)) (agrees atoms (G ++ t ∷ []) good (one_formed m G t formed f)).1))

  -- ---- along the mirrored plan

  module _ (spare : ℕ) (right wrong : Text) (wrong_is : wrong ≡ atoms spare) where
    abbrev pub Without : List Tree → Type 0
    Without ts = AllByRecursion (λ t. has_atom spare t ≡ false) ts

    -- the right value was said, or no spare name came
    abbrev pub Outcome : Option Tree → Option ℕ → List Tree → Type 0
    Outcome None o ts = Unit {0}
    Outcome (Some r) None ts = Without ts
    Outcome (Some r) (Some k) ts = (right ≡ of r) ⊎ Without ts

    -- what came in the first j lines are the bytes of what should
    abbrev pub Right : Option Tree → Option ℕ → List Tree → List TranscriptLine → ℕ → Type 0
    Right r o ins ls j = Are of (arrivals_of (take j ls)) ins × Outcome r o (take (length (arrivals_of (take j ls))) ins)

    nothing_yet : (r : Option Tree) (o : Option ℕ) → Outcome r o []
    nothing_yet None o = tt
    nothing_yet (Some r) None = tt
    nothing_yet (Some r) (Some k) = inr tt

    pub none_first : (r : Option Tree) (o : Option ℕ) (ins : List Tree) (ls : List TranscriptLine) → Right r o ins ls 0
    none_first r o ins ls = (tt, nothing_yet r o)

    and_without : (r : Option Tree) (o : Option ℕ) (a : Tree) (ts : List Tree) → has_atom spare a ≡ false → Outcome r o ts → Outcome r o (a ∷ ts)
    and_without None o a ts lacks h = tt
    and_without (Some r) None a ts lacks h = (lacks, h)
    and_without (Some r) (Some k) a ts lacks (inl h) = inl h
    and_without (Some r) (Some k) a ts lacks (inr h) = inr (lacks, h)

    pub record Next (r : Option Tree) (o before : Option ℕ) (n : ℕ) (l : TranscriptLine) (ls : List TranscriptLine) : Type 0 where
      pub left : Option ℕ
      pub lines : talked right wrong o (l ∷ ls) ≡ flipped l ∷ talked right wrong left ls
      pub at : IsAt r left before (n + 1) (length ls)
      pub back : (ts : List Tree) → Outcome r left ts → Outcome r o ts

    pub next : (r : Option Tree) (o before : Option ℕ) (n : ℕ) (l : TranscriptLine) (ls : List TranscriptLine) → ((at : ℕ) → before ≡ Some at → n + 1 ≤ at) → IsAt r o before n (suc (length ls)) → Next r o before n l ls
    next None None before n l ls least is = record { left = None; lines = refl; at = tt; back = λ ts h. h }
    next None (Some k) before n l ls least is = absurd is
    next (Some r) None before n l ls least is = record { left = None; lines = refl; at = one_less before n (length ls) is; back = λ ts h. h }
    next (Some r) (Some zero) before n l ls least is = absurd (let late = least (n + 0) is.0 in omega (arith, late))
    next (Some r) (Some (suc k)) before n l ls least is = record { left = Some k; lines = refl; at = (is.0 ∙ ap Some (counted n k), omega (arith, is.1)); back = λ ts h. h }

    -- one arrival more
    grown : (r s : Option Tree) (o p : Option ℕ) (a : Tree) (ins : List Tree) (c : Text) (ls : List TranscriptLine) (j : ℕ) → c ≡ of a → ((ts : List Tree) → Outcome s p ts → Outcome r o (a ∷ ts))
        → Right s p ins ls j → Right r o (a ∷ ins) (In c ∷ ls) (suc j)
    grown r s o p a ins c ls j is back h = ((is, h.0), back (take (length (arrivals_of (take j ls))) ins) h.1)

    onward : (r : Option Tree) (o : Option ℕ) (ins ms : List Tree) (c : Text) (ls : List TranscriptLine) (j : ℕ) → Are of (messages_of (take j (In c ∷ ls))) ms
        → ((k : ℕ) → Are of (messages_of (take k ls)) ms → Right r o ins ls (suc k)) → Right r o ins ls j
    onward r o ins ms c ls zero are on = none_first r o ins ls
    onward r o ins ms c ls (suc k) are on = on k are

    -- where the spare name comes
    module _ (line n : ℕ) (es : List PlanEvent) (a : Tree) (ins ms : List Tree) (c : Text) (ls : List TranscriptLine) (j : ℕ) (G : List Tree) (e i : ℕ) (q : Played Text) (rest : List Text) (formed : AreFormed m.has (trees_of G))
        (are : Are of (messages_of (take j (In c ∷ ls))) ms)
        (on : (G : List Tree) (e : ℕ) (q : Played Text) → AreFormed m.has (trees_of G) → q.sent ≡ messages_of (map flipped ls) ++ rest
        → Walk m draw (map event_of (mirrored spare None (line + 1) es ins ms)) G (map of G) e i (arrivals_of (map flipped ls)) q → (k : ℕ) → Are of (messages_of (take k ls)) ms → Right None None ins ls (suc k)) where
      at_hook : (r : Option Tree) (o : Option ℕ) → IsAt r o (Some n) n (suc (length ls)) → q.sent ≡ messages_of (talked right wrong o (In c ∷ ls)) ++ rest
          → Walk m draw (map event_of (hook spare line r ++ to_send line a ∷ mirrored spare None (line + 1) es ins ms)) G (map of G) e i (arrivals_of (talked right wrong o (In c ∷ ls))) q → Right r o (a ∷ ins) (In c ∷ ls) (suc j)
      at_hook None None is sent walk =
          let s = said_right a (map event_of (mirrored spare None (line + 1) es ins ms)) G e i (arrivals_of (map flipped ls)) q c (messages_of (map flipped ls) ++ rest) formed walk sent in
          grown None None None None a ins c ls j s.0 (λ ts h. tt) (onward None None ins ms c ls j are (on G (e + 1) s.1 formed s.3 s.2))
      at_hook None (Some k) is sent walk = absurd is
      at_hook (Some r) None is sent walk = absurd (omega (arith, is))
      at_hook (Some r) (Some zero) is sent walk =
          let behind = map event_of (mirrored spare None (line + 1) es ins ms) in
          let xs = arrivals_of (map flipped ls) in
          let more = messages_of (map flipped ls) ++ rest in
          let one = said_right r (recv (leaf spare) ∷ send a ∷ behind) G e i (wrong ∷ xs) q right (c ∷ more) formed walk sent in
          let two = heard_right (leaf spare) (send a ∷ behind) G (e + 1) i wrong xs one.1 formed tt wrong_is one.2 in
          let all = one_formed m G (leaf spare) formed tt in
          let three = said_right a behind (G ++ leaf spare ∷ []) (e + 1 + 1) i xs one.1 c more all two one.3 in
          grown (Some r) None (Some zero) None a ins c ls j three.0 (λ ts h. inl one.0) (onward None None ins ms c ls j are (on (G ++ leaf spare ∷ []) (e + 1 + 1 + 1) three.1 all three.3 three.2))
      at_hook (Some r) (Some (suc k)) is sent walk = absurd (let same = same_some n (n + suc k) is.0 in omega (arith, same))

    -- what it says next are the bytes of what should come
    pub speaks_right : (line n : ℕ) (r : Option Tree) (o : Option ℕ) (es : List PlanEvent) (ins ms : List Tree) (ls : List TranscriptLine) (j : ℕ) (G : List Tree) (e i : ℕ) (q : Played Text) (rest : List Text)
        → heard_in es ≤ length ins → said_in es ≤ length ms → AreFormed m.has (trees_of G) → AreFormed m.has (trees_of ms) → IsAt r o (lines_before spare n es ins) n (length ls) → Fits (sides_of es) ls
        → Are of (messages_of (take j ls)) ms → q.sent ≡ messages_of (talked right wrong o ls) ++ rest
        → Walk m draw (map event_of (mirrored spare r line es ins ms)) G (map of G) e i (arrivals_of (talked right wrong o ls)) q → Right r o ins ls (suc j)
    speaks_right line n r o [] ins ms [] j G e i q rest hs ss formed all at fits are sent walk = none_first r o ins []
    speaks_right line n r o [] ins ms (l ∷ ls) j G e i q rest hs ss formed all at fits are sent walk = absurd (cc)
    speaks_right line n r o (to_know t ∷ es) ins ms ls j G e i q rest hs ss formed all at fits are sent walk = speaks_right line n r o es ins ms ls j G e i q rest hs ss formed all at fits are sent walk
    speaks_right line n r o (to_make t ∷ es) ins ms ls j G e i q rest hs ss formed all at fits are sent walk = speaks_right line n r o es ins ms ls j G e i q rest hs ss formed all at fits are sent walk
    speaks_right line n r o (to_send a t ∷ es) ins [] ls j G e i q rest hs ss formed all at fits are sent walk = absurd (omega (arith, ss))
    speaks_right line n r o (to_send a t ∷ es) ins (u ∷ ms) [] j G e i q rest hs ss formed all at fits are sent walk = none_first r o ins []
    speaks_right line n r o (to_send a t ∷ es) ins (u ∷ ms) (In b ∷ ls) j G e i q rest hs ss formed all at fits are sent walk = absurd (cc)
    speaks_right line n r o (to_send a t ∷ es) ins (u ∷ ms) (Out b ∷ ls) zero G e i q rest hs ss formed all at fits are sent walk = none_first r o ins ls
    speaks_right line n r o (to_send a t ∷ es) ins (u ∷ ms) (Out b ∷ ls) (suc j) G e i q rest hs ss formed all at fits are sent walk =
        let x = next r o (lines_before spare (n + 1) es ins) n (Out b) ls (before_least spare (n + 1) es ins) at in
        let mirror = map event_of (mirrored spare r (line + 1) es ins ms) in
        let here = subst (λ xs. Walk m draw (recv u ∷ mirror) G (map of G) e i xs q) (ap arrivals_of x.lines) walk in
        let on = heard_right u mirror G e i b (arrivals_of (talked right wrong x.left ls)) q formed all.0 are.0 here in
        let ih = speaks_right (line + 1) (n + 1) r x.left es ins ms ls j (G ++ u ∷ []) (e + 1) i q rest hs (omega (arith, ss)) (one_formed m G u formed all.0) all.1 x.at (cc) are.1 (sent ∙ ap (λ l. messages_of l ++ rest) x.lines) on in
        (ih.0, x.back (take (length (arrivals_of (take (suc j) ls))) ins) ih.1)
    speaks_right line n r o (to_receive a t ∷ es) [] ms ls j G e i q rest hs ss formed all at fits are sent walk = absurd (omega (arith, hs))
    speaks_right line n r o (to_receive a t ∷ es) (u ∷ ins) ms [] j G e i q rest hs ss formed all at fits are sent walk = none_first r o (u ∷ ins) []
    speaks_right line n r o (to_receive a t ∷ es) (u ∷ ins) ms (Out b ∷ ls) j G e i q rest hs ss formed all at fits are sent walk = absurd (cc)
    speaks_right line n r o (to_receive a t ∷ es) (u ∷ ins) ms (In c ∷ ls) j G e i q rest hs ss formed all at fits are sent walk =
        let on_plan = mirrored spare r (line + 1) es ins ms in
        let last = hook spare line r ++ to_send line u ∷ mirrored spare None (line + 1) es ins ms in
        let before = lines_before spare (n + 1) es ins in
        let fit : Fits (sides_of es) ls = cc in
        let P : Bool → Type 0 = λ x. IsAt r o (if x then Some n else before) n (suc (length ls))
        → Walk m draw (map event_of (if x then last else to_send line u ∷ on_plan)) G (map of G) e i (arrivals_of (talked right wrong o (In c ∷ ls))) q → Right r o (u ∷ ins) (In c ∷ ls) (suc j) in
        by_test P (has_atom spare u)
        (λ yes there w. at_hook line n es u ins ms c ls j G e i q rest formed are
        (λ G2 e2 q2 f2 s2 w2 k are2. speaks_right (line + 1) (n + 1) None None es ins ms ls k G2 e2 i q2 rest (omega (arith, hs)) ss f2 all tt fit are2 s2 w2) r o there sent w)
        (λ lacks there w.
        let x = next r o before n (In c) ls (before_least spare (n + 1) es ins) there in
        let here = subst (λ xs. Walk m draw (send u ∷ map event_of on_plan) G (map of G) e i xs q) (ap arrivals_of x.lines) w in
        let s = said_right u (map event_of on_plan) G e i (arrivals_of (talked right wrong x.left ls)) q c (messages_of (talked right wrong x.left ls) ++ rest) formed here (sent ∙ ap (λ l. messages_of l ++ rest) x.lines) in
        grown r r o x.left u ins c ls j s.0 (λ ts h. x.back (u ∷ ts) (and_without r x.left u ts lacks h))
        (onward r x.left ins ms c ls j are
        (λ k are2. speaks_right (line + 1) (n + 1) r x.left es ins ms ls k G (e + 1) i s.1 rest (omega (arith, hs)) ss formed all x.at fit are2 s.3 s.2)))
        at walk

    -- ---- what it hears

    abbrev Hears : Option ℕ → List PlanEvent → List TranscriptLine → Type 0
    Hears o es ls = Are of (arrivals_of (talked right wrong o ls)) (heard (map event_of es))

    none_talked : (r : Option Tree) (o before : Option ℕ) (n : ℕ) → ((at : ℕ) → before ≡ Some at → n + 1 ≤ at) → IsAt r o before n 0 → talked right wrong o [] ≡ []
    none_talked None None before n least is = refl
    none_talked None (Some k) before n least is = absurd is
    none_talked (Some r) None before n least is = refl
    none_talked (Some r) (Some k) before n least is = absurd (let late = least (n + k) is.0 in let few = is.1 in omega (arith, late, few))

    hears_none : (r : Option Tree) (o before : Option ℕ) (n : ℕ) (es : List PlanEvent) → ((at : ℕ) → before ≡ Some at → n + 1 ≤ at) → IsAt r o before n 0 → Hears o es []
    hears_none r o before n es least is = subst (λ l. Are of (arrivals_of l) (heard (map event_of es))) (sym (none_talked r o before n least is)) tt

    -- where the spare name comes
    module _ (line n : ℕ) (es : List PlanEvent) (a : Tree) (ins ms : List Tree) where
      hook_last : (r : Option Tree) (o : Option ℕ) → IsAt r o (Some n) n 0 → Hears o (hook spare line r ++ to_send line a ∷ mirrored spare None (line + 1) es ins ms) []
      hook_last None None is = tt
      hook_last None (Some k) is = absurd is
      hook_last (Some r) None is = tt
      hook_last (Some r) (Some zero) is = (wrong_is, tt)
      hook_last (Some r) (Some (suc k)) is = absurd (let few = is.1 in omega (arith, few))

      hook_heard : (c : Text) (ls : List TranscriptLine) → Hears None (mirrored spare None (line + 1) es ins ms) ls → (r : Option Tree) (o : Option ℕ) → IsAt r o (Some n) n (suc (length ls))
          → Hears o (hook spare line r ++ to_send line a ∷ mirrored spare None (line + 1) es ins ms) (In c ∷ ls)
      hook_heard c ls rest None None is = rest
      hook_heard c ls rest None (Some k) is = absurd is
      hook_heard c ls rest (Some r) None is = absurd (omega (arith, is))
      hook_heard c ls rest (Some r) (Some zero) is = (wrong_is, rest)
      hook_heard c ls rest (Some r) (Some (suc k)) is = absurd (let same = same_some n (n + suc k) is.0 in omega (arith, same))

    -- where the role says the bytes of what it should, the partner hears those of its terms
    pub hears_right : (line n : ℕ) (r : Option Tree) (o : Option ℕ) (es : List PlanEvent) (ins ms : List Tree) (ls : List TranscriptLine) → heard_in es ≤ length ins → said_in es ≤ length ms
        → IsAt r o (lines_before spare n es ins) n (length ls) → Fits (sides_of es) ls → Are of (messages_of ls) ms
        → Are of (arrivals_of (talked right wrong o ls)) (heard (map event_of (mirrored spare r line es ins ms)))
    hears_right line n r o [] ins ms [] hs ss at fits are = hears_none r o None n [] (λ k never. absurd (cc)) at
    hears_right line n r o [] ins ms (l ∷ ls) hs ss at fits are = absurd (cc)
    hears_right line n r o (to_know t ∷ es) ins ms ls hs ss at fits are = hears_right line n r o es ins ms ls hs ss at fits are
    hears_right line n r o (to_make t ∷ es) ins ms ls hs ss at fits are = hears_right line n r o es ins ms ls hs ss at fits are
    hears_right line n r o (to_send a t ∷ es) ins [] ls hs ss at fits are = absurd (omega (arith, ss))
    hears_right line n r o (to_send a t ∷ es) ins (u ∷ ms) [] hs ss at fits are =
        hears_none r o (lines_before spare (n + 1) es ins) n (mirrored spare r line (to_send a t ∷ es) ins (u ∷ ms)) (before_least spare (n + 1) es ins) at
    hears_right line n r o (to_send a t ∷ es) ins (u ∷ ms) (In b ∷ ls) hs ss at fits are = absurd (cc)
    hears_right line n r o (to_send a t ∷ es) ins (u ∷ ms) (Out b ∷ ls) hs ss at fits are =
        let x = next r o (lines_before spare (n + 1) es ins) n (Out b) ls (before_least spare (n + 1) es ins) at in
        subst (λ l. Are of (arrivals_of l) (u ∷ heard (map event_of (mirrored spare r (line + 1) es ins ms)))) (sym x.lines)
        (are.0, hears_right (line + 1) (n + 1) r x.left es ins ms ls hs (omega (arith, ss)) x.at (cc) are.1)
    hears_right line n r o (to_receive a t ∷ es) [] ms ls hs ss at fits are = absurd (omega (arith, hs))
    hears_right line n r o (to_receive a t ∷ es) (u ∷ ins) ms [] hs ss at fits are =
        let on_plan = to_send line u ∷ mirrored spare r (line + 1) es ins ms in
        let last = hook spare line r ++ to_send line u ∷ mirrored spare None (line + 1) es ins ms in
        let before = lines_before spare (n + 1) es ins in
        let P : Bool → Type 0 = λ x. IsAt r o (if x then Some n else before) n 0 → Hears o (if x then last else on_plan) [] in
        by_test P (has_atom spare u) (λ yes there. hook_last line n es u ins ms r o there) (λ lacks there. hears_none r o before n on_plan (before_least spare (n + 1) es ins) there) at
    hears_right line n r o (to_receive a t ∷ es) (u ∷ ins) ms (Out b ∷ ls) hs ss at fits are = absurd (cc)
    hears_right line n r o (to_receive a t ∷ es) (u ∷ ins) ms (In c ∷ ls) hs ss at fits are =
        let on_plan = mirrored spare r (line + 1) es ins ms in
        let last = hook spare line r ++ to_send line u ∷ mirrored spare None (line + 1) es ins ms in
        let before = lines_before spare (n + 1) es ins in
        let fit : Fits (sides_of es) ls = cc in
        let P : Bool → Type 0 = λ x. IsAt r o (if x then Some n else before) n (suc (length ls)) → Hears o (if x then last else to_send line u ∷ on_plan) (In c ∷ ls) in
        by_test P (has_atom spare u)
        (λ yes there. hook_heard line n es u ins ms c ls (hears_right (line + 1) (n + 1) None None es ins ms ls (omega (arith, hs)) ss tt fit are) r o there)
        (λ lacks there.
        let x = next r o before n (In c) ls (before_least spare (n + 1) es ins) there in
        subst (λ l. Are of (arrivals_of l) (heard (map event_of on_plan))) (sym x.lines) (hears_right (line + 1) (n + 1) r x.left es ins ms ls (omega (arith, hs)) ss x.at fit are))
        at

  -- ---- what comes first in the partner's plan

  abbrev Reached : List PlanEvent → (i : ℕ) → List Text → Played Text → Type 0
  Reached es i xs q = (G : List Tree) × (e : ℕ) × AreFormed m.has (trees_of G) × Walk m draw (map event_of es) G (map of G) e i xs q

  behind_known : (ts : List Tree) (es : List PlanEvent) (G : List Tree) (e i : ℕ) (xs : List Text) (q : Played Text) → Walk m draw (map event_of (map to_know ts ++ es)) G (map of G) e i xs q → Walk m draw (map event_of es) G (map of G) e i xs q
  behind_known [] es G e i xs q walk = walk
  behind_known (t ∷ ts) es G e i xs q walk = behind_known ts es G e i xs q walk

  behind_handed : (ts : List Tree) (es : List PlanEvent) (G : List Tree) (e i : ℕ) (xs : List Text) (q : Played Text) → AreFormed m.has (trees_of G) → AreFormed m.has (trees_of ts)
      → Walk m draw (map event_of (map (to_receive 0) ts ++ es)) G (map of G) e i (map of ts ++ xs) q → Reached es i xs q
  behind_handed [] es G e i xs q formed all walk = (G, e, formed, walk)
  behind_handed (t ∷ ts) es G e i xs q formed all walk =
      behind_handed ts es (G ++ t ∷ []) (e + 1) i xs q (one_formed m G t formed all.0) all.1
      (heard_right t (map event_of (map (to_receive 0) ts ++ es)) G e i (of t) (map of ts ++ xs) q formed all.0 refl walk)

  pub play_reaches : (ks hs : List Tree) (es : List PlanEvent) (init xs : List Text) (q : Played Text) (plan : List Event) → plan ≡ map event_of (map to_know ks ++ (map (to_receive 0) hs ++ es)) → AreFormed m.has (trees_of (known plan)) → AreFormed m.has (trees_of hs)
      → init ≡ map of (known plan) → Play m draw plan init (map of hs ++ xs) q → Reached es 0 xs q
  play_reaches ks hs es init xs q plan is formed all begins (inl h) =
      let here = subst (λ vs. Walk m draw plan (known plan) vs 0 0 (map of hs ++ xs) q) begins h.1 in
      let there = subst (λ p. Walk m draw p (known plan) (map of (known plan)) 0 0 (map of hs ++ xs) q) is here in
      behind_handed hs es (known plan) 0 0 xs q formed all (behind_known ks (map (to_receive 0) hs ++ es) (known plan) 0 0 (map of hs ++ xs) q there)
  play_reaches ks hs es init xs q plan is formed all begins (inr h) = absurd (h.0 (subst (Agree m (known plan)) (sym begins) (agrees atoms (known plan) good formed).1))
