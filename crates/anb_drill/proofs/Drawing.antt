-- Each number of a drill, and its secret key, is its maker's draw.
use Rattle.std.proofs.Common.{◌≡◌, ℕ, zero, suc, ◌+◌, ◌-◌, ◌*◌, ◌<◌, ◌≤◌, List, [], ◌∷◌, ◌++◌, length, map, Bool, true, false, cond, Some, refl, sym, ap, ◌∙◌, subst, arith, inl, inr, append-nil, append_assoc}
use Rattle.std.specs.Prelude.{slice_get, ◌==◌, ◌||◌}
use Rattle.std.specs.List.{range_with_len}
use Rattle.std.proofs.lemmas.Bool.{eqb-true}
use Rattle.std.proofs.lemmas.Bool.Decides.{nat_tests}
use Rattle.std.proofs.lemmas.List.{map-append}
use Rattle.anb_seal.proofs.Words.{length-stream_bytes}
use Rattle.anb_term.specs.Tree.{Tree, leaf}
use Rattle.anb_term.proofs.Lists.{slice_get-append}
use Rattle.anb_code.specs.CodeValue.{CodeValue}
use Rattle.anb_plays.specs.Plans.{Event, know, fresh, send, recv}
use Rattle.anb_plays.specs.Honest as honest
use Rattle.anb_protocol.specs.Choices.{each_after}
use Rattle.anb_protocol.specs.Protocols.{ActionValue, ProtocolValue}
use Rattle.anb_protocol.specs.Texts.{known_by}
use Rattle.anb_protocol.specs.Plans.{to_make, to_send, to_receive, events_at, made}
use Rattle.anb_protocol.specs.Plays.{event_of, events_of}
use Rattle.anb_protocol.proofs.PlanLaws.{events_are}
use Rattle.anb_honest.specs.Honest.{AreHonest}
use Rattle.anb_honest.specs.Joint.{cast}
use Rattle.anb_drill.proofs.Numbered.{all_actions, all_made, exchanged, first_action, last_action}
use Rattle.anb_drill.proofs.Sending.{has}
use Rattle.anb_drill.proofs.Walking.{before_exchange, behind, drilled, first_made, key_made, number_made, ways}
use Rattle.anb_drill.proofs.WellFormed.{protocol_roles_are}

-- an atom is made at some place
abbrev MakesIt : List Event → ℕ → Type 0
MakesIt es x = (i : ℕ) × (slice_get (honest.made es) i ≡ Some (leaf x))

made-append : (xs ys : List Event) → honest.made (xs ++ ys) ≡ honest.made xs ++ honest.made ys
made-append [] ys = refl
made-append (know t ∷ xs) ys = made-append xs ys
made-append (fresh t ∷ xs) ys = ap (λ l. t ∷ l) (made-append xs ys)
made-append (send t ∷ xs) ys = made-append xs ys
made-append (recv t ∷ xs) ys = made-append xs ys

in_front : (xs ys : List Event) (x : ℕ) → MakesIt xs x → MakesIt (xs ++ ys) x
in_front xs ys x (i, at) = (i, ap (λ l. slice_get l i) (made-append xs ys) ∙ slice_get-append (honest.made xs) (honest.made ys) i (leaf x) at)

in_back : (xs ys : List Event) (x : ℕ) → MakesIt ys x → MakesIt (xs ++ ys) x
in_back xs ys x (i, at) = (length (honest.made xs) + i, ap (λ l. slice_get l (length (honest.made xs) + i)) (made-append xs ys) ∙ behind (honest.made xs) (honest.made ys) i ∙ at)

named_made : (names : List ℕ) (k : ℕ) (t : Tree) (x : ℕ) → has names x ≡ true → MakesIt (map event_of (map (λ y. to_make (leaf y)) names ++ to_send k t ∷ [])) x
named_made [] k t x e = absurd (cc)
named_made (y ∷ names) k t x e = by (y == x) refl e (named_made names k t x) where
  by : (b : Bool) → (y == x) ≡ b → (b || has names x) ≡ true → (has names x ≡ true → MakesIt (map event_of (map (λ z. to_make (leaf z)) names ++ to_send k t ∷ [])) x)
      → MakesIt (fresh (leaf y) ∷ map event_of (map (λ z. to_make (leaf z)) names ++ to_send k t ∷ [])) x
  by true s e later = (0, ap (λ a. Some (leaf a)) (eqb-true y x s))
  by false s e later = let l = later e in (suc l.0, l.1)

module _ (p : ProtocolValue) (r : ℕ) where
  at_action : (before acts rest : List ActionValue) (a : ActionValue) (x : ℕ) → MakesIt (map event_of (events_at p r (before ++ acts) a)) x → MakesIt (map event_of (each_after (events_at p r) before (acts ++ a ∷ rest))) x
  at_action before [] rest a x makes =
      let here : MakesIt (map event_of (events_at p r before a)) x = subst (λ (l : List ActionValue). MakesIt (map event_of (events_at p r l a)) x) (append-nil before) makes in
      subst (λ (es : List Event). MakesIt es x) (sym (map-append event_of (events_at p r before a) (each_after (events_at p r) (before ++ a ∷ []) rest)))
      (in_front (map event_of (events_at p r before a)) (map event_of (each_after (events_at p r) (before ++ a ∷ []) rest)) x here)
  at_action before (b ∷ acts) rest a x makes =
      let later = at_action (before ++ b ∷ []) acts rest a x (subst (λ (l : List ActionValue). MakesIt (map event_of (events_at p r l a)) x) (sym (append_assoc before (b ∷ []) acts)) makes) in
      subst (λ (es : List Event). MakesIt es x) (sym (map-append event_of (events_at p r before b) (each_after (events_at p r) (before ++ b ∷ []) (acts ++ a ∷ rest))))
      (in_back (map event_of (events_at p r before b)) (map event_of (each_after (events_at p r) (before ++ b ∷ []) (acts ++ a ∷ rest))) x later)

  -- what the sender of an action makes is made in its plan
  made_in_plan : (before rest : List ActionValue) (a : ActionValue) (x : ℕ) → p.actions ≡ before ++ a ∷ rest → a.from ≡ r → has (made p before a.message) x ≡ true → MakesIt (events_of p r) x
  made_in_plan before rest a x is from makes =
      let own : (a.from == r) ≡ true = ap (λ f. f == r) from ∙ itself r in
      let here : MakesIt (map event_of (events_at p r before a)) x =
      subst (λ (b : Bool). MakesIt (map event_of (cond b (map (λ y. to_make (leaf y)) (made p before a.message) ++ to_send (length before + 1) a.message ∷ []) (cond (a.to == r) (to_receive (length before + 1) a.message ∷ []) []))) x) (sym own)
      (named_made (made p before a.message) (length before + 1) a.message x makes) in
      let all = at_action [] before rest a x here in
      subst (λ (es : List Event). MakesIt es x) (sym (events_are p r))
      (in_back (map know (known_by p r)) (map event_of (each_after (events_at p r) [] p.actions)) x (subst (λ (acts : List ActionValue). MakesIt (map event_of (each_after (events_at p r) [] acts)) x) (sym is) all))
    where
      itself : (k : ℕ) → (k == k) ≡ true
      itself k = grind (arith, nat_tests)

-- ---- the actions of a drill around an exchange

split_range : {X : Type 0} (f : ℕ → X) (from k m : ℕ) (rest : List X) → map f (range_with_len from (k + suc m)) ++ rest ≡ map f (range_with_len from k) ++ f (from + k) ∷ (map f (range_with_len (from + k + 1) m) ++ rest)
split_range f from zero m rest =
    let e : 0 + suc m ≡ suc m = omega arith in
    let z : from ≡ from + 0 = omega arith in
    ap (λ c. map f (range_with_len from c) ++ rest) e ∙ ap (λ i. f i ∷ (map f (range_with_len (i + 1) m) ++ rest)) z
split_range f from (suc k) m rest =
    let e : suc k + suc m ≡ suc (k + suc m) = omega arith in
    let z : from + 1 + k ≡ from + suc k = omega arith in
    ap (λ c. map f (range_with_len from c) ++ rest) e ∙ ap (λ l. f from ∷ l) (split_range f (from + 1) k m rest ∙ ap (λ i. map f (range_with_len (from + 1) k) ++ f i ∷ (map f (range_with_len (i + 1) m) ++ rest)) z)

pub around : (n i : ℕ) → 1 ≤ i → i ≤ n → (rest : List ActionValue) × (all_actions n ≡ before_exchange n (i - 1) ++ exchanged n i ∷ rest)
around n i above within =
    let e : n ≡ i - 1 + suc (n - i) = omega (arith, above, within) in
    let z : 1 + (i - 1) ≡ i = omega (arith, above) in
    let rest : ℕ → List ActionValue = λ j. map (exchanged n) (range_with_len (j + 1) (n - i)) ++ last_action n ∷ [] in
    (rest i, ap (λ l. first_action n ∷ l) (ap (λ c. map (exchanged n) (range_with_len 1 c) ++ last_action n ∷ []) e ∙ split_range (exchanged n) 1 (i - 1) (n - i) (last_action n ∷ []) ∙ ap (λ j. map (exchanged n) (range_with_len 1 (i - 1)) ++ exchanged n j ∷ rest j) z))

-- ---- draws

module _ (n : ℕ) (most : n ≤ 200) (codes : List CodeValue) (values : List (List ℕ)) (seed : List ℕ) (atoms : ℕ → List ℕ) (are : AreHonest (cast (drilled n) codes values seed) atoms) where
  drawn : (r x : ℕ) → r < 2 → MakesIt (events_of (drilled n) r) x → length (atoms x) ≡ 32
  drawn r x less (i, at) =
      let two : length (drilled n).roles ≡ 2 = ap length (protocol_roles_are n) in
      ap length (sym (are.made r i (leaf x) (omega (arith, less, two)) at)) ∙ length-stream_bytes _ r (8 * i) 8

  pub key_drawn : length (atoms (n + 4)) ≡ 32
  key_drawn = drawn 0 (n + 4) (omega arith) (made_in_plan (drilled n) 0 [] (map (exchanged n) (range_with_len 1 n) ++ last_action n ∷ []) (first_action n) (n + 4) (all_made n most) refl (key_made n))

  pub number_drawn : (i : ℕ) → i ≤ n → length (atoms (2 + i)) ≡ 32
  number_drawn zero within = drawn 0 2 (omega arith) (made_in_plan (drilled n) 0 [] (map (exchanged n) (range_with_len 1 n) ++ last_action n ∷ []) (first_action n) 2 (all_made n most) refl (first_made n))
  number_drawn (suc i) within =
      let split = around n (suc i) (omega arith) within in
      let below : (exchanged n (suc i)).from < 2 = elim (ways n (suc i)) [ inl way ↦ (let f = way.0 in omega (arith, f)) | inr way ↦ (let f = way.0 in omega (arith, f)) ] in
      drawn (exchanged n (suc i)).from (2 + suc i) below
      (made_in_plan (drilled n) (exchanged n (suc i)).from (before_exchange n (suc i - 1)) split.0 (exchanged n (suc i)) (2 + suc i) (all_made n most ∙ split.1) refl (number_made n (suc i) (omega arith) within))
