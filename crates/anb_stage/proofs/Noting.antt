-- What a log is told, message by message.
use Rattle.std.proofs.Common.{◌≡◌, ◌<◌, ◌+◌, ℕ, zero, suc, List, [], ◌∷◌, ◌++◌, length, take, drop, get_or, Option, Some, None, IfSome, option_and_then, refl, sym, ap, ◌∙◌, subst, arith, length-append}
use Rattle.std.specs.List.{slice_get}
use Rattle.std.specs.Option.{option_map_or}
use Rattle.std.proofs.lemmas.List.{append-nil, take_all}
use Rattle.anb_base.specs.declared.content.Sent.{Sent}
use Rattle.anb_frame.specs.Cuts.{Tail}
use Rattle.anb_stage.specs.Children.{Child}
use Rattle.anb_stage.specs.Notes.{Note, IsCount, IsOfAction, IsTold, MaySay, TellsAlone, alone, both_notes, next_alone, notes_of}
use Rattle.anb_stage.specs.Relays.{AreCut, bytes_of, report, sends_of}
use Rattle.anb_stage.specs.Steps.{Carried, FailsFinishing, FailsStarting, IsCaused}
use Rattle.anb_stage.specs.declared.ends.Ends.{Ends}
use Rattle.anb_stage.specs.declared.refusal.RelayNo.{RelayNo}
use Rattle.anb_stage.specs.declared.refusal.RelayNo.TheVariants as no
use Rattle.anb_stage.proofs.Carries.{drop_first}

-- ---- notes of messages

none_of : (actions : List Ends) → notes_of actions [] ≡ []
none_of actions = refl

-- with one message more
pub notes_more : (actions : List Ends) (sent : List Sent) (a : Ends) (s : Sent) → slice_get actions (length sent) ≡ Some a
    → notes_of actions (sent ++ s ∷ []) ≡ notes_of actions sent ++ both_notes a s
notes_more [] [] a s at = absurd cc
notes_more [] (x ∷ sent) a s at = absurd cc
notes_more (b ∷ actions) [] a s at =
    let same : b ≡ a = cc in
    ap (λ l. both_notes b s ++ l) (none_of actions) ∙ append-nil (both_notes b s) ∙ ap (λ e. both_notes e s) same
notes_more (b ∷ actions) (x ∷ sent) a s at = ap (λ l. both_notes b x ++ l) (notes_more actions sent a s at)

got : {X : Type 0} (xs : List X) (i : ℕ) (d : X) → i < length xs → slice_get xs i ≡ Some (get_or xs i d)
got [] i d below = absurd (omega (arith, below))
got (y ∷ xs) zero d below = refl
got (y ∷ xs) (suc i) d below = got xs i d (omega (arith, below))

pub got_at : (actions : List Ends) (i : ℕ) (d : Ends) (sent : List Sent) → i < length actions → length sent ≡ i
    → slice_get actions (length sent) ≡ Some (get_or actions i d)
got_at actions i d sent below count = rw count (got actions i d below)

-- ---- a message that nobody heard

no_more : (o : Option Ends) (count : ℕ) → option_map_or (λ (a : Ends). alone (count + 1) a.from None) o [] ≡ []
no_more None count = refl
no_more (Some a) count = refl

without_more : (actions : List Ends) (sent : List Sent) → notes_of actions sent ≡ notes_of actions sent ++ next_alone actions (length sent) None
without_more actions sent = sym (append-nil (notes_of actions sent)) ∙ ap (λ l. notes_of actions sent ++ l) (sym (no_more (slice_get actions (length sent)) (length sent)))

pub may_be_silent : (r : RelayNo) → MaySay r None
may_be_silent (no.Fault role) = tt
may_be_silent (no.Ended n) = refl
may_be_silent (no.Cut n have need) = refl
may_be_silent (no.Long n len) = refl
may_be_silent (no.Bad role status) = refl
may_be_silent no.NoMemory = refl

-- only whole messages are told
pub plain_told : (actions : List Ends) (roles : ℕ) (children : ℕ → Child) (r : RelayNo) (sent : List Sent) → IsCount actions r (length sent)
    → ((outputs : ℕ → List (List ℕ)) (tails : ℕ → Tail) → AreCut roles children outputs tails → sent ≡ report outputs (take (length sent) actions))
    → IsTold actions roles children r (notes_of actions sent)
plain_told actions roles children r sent count first = record {
  sent = sent;
  said = None;
  are = without_more actions sent;
  count = count;
  may = may_be_silent r;
  first = λ outputs tails cut. record { sent_is = first outputs tails cut; said_is = tt };
}

pub nothing_told : (actions : List Ends) (roles : ℕ) (children : ℕ → Child) (r : RelayNo) → IsCount actions r 0 → IsTold actions roles children r []
nothing_told actions roles children r count =
    subst (IsTold actions roles children r) (none_of actions) (plain_told actions roles children r [] count (λ outputs tails cut. refl))

pub told_before : (actions : List Ends) (roles : ℕ) (a b : ℕ → Child) (r : RelayNo) (told : List Note)
    → ((outputs : ℕ → List (List ℕ)) (tails : ℕ → Tail) → AreCut roles a outputs tails → AreCut roles b outputs tails)
    → IsTold actions roles b r told → IsTold actions roles a r told
told_before actions roles a b r told cuts t = record {
  sent = t.sent;
  said = t.said;
  are = t.are;
  count = t.count;
  may = t.may;
  first = λ outputs tails cut. t.first outputs tails (cuts outputs tails cut);
}

-- ---- an action that is refused

-- how many were handed on
count_at : (a b : ℕ → Child) (roles : ℕ) (actions : List Ends) (count : ℕ) (r : RelayNo) → count < length actions → IsCaused a b roles r → IsOfAction (count + 1) r → IsCount actions r count
count_at a b roles actions count (no.Fault role) below caused at = omega (arith, below)
count_at a b roles actions count (no.Ended n) below caused at = sym at
count_at a b roles actions count (no.Cut n have need) below caused at = sym at
count_at a b roles actions count (no.Long n len) below caused at = sym at
count_at a b roles actions count (no.Bad role status) below caused at = absurd caused
count_at a b roles actions count no.NoMemory below caused at = omega (arith, below)

alone_next : (actions : List Ends) (count : ℕ) (a : Ends) (said : Option (List ℕ)) → slice_get actions count ≡ Some a → next_alone actions count said ≡ alone (count + 1) a.from said
alone_next actions count a said at = rw at refl

said_next : (outputs : ℕ → List (List ℕ)) (actions : List Ends) (count : ℕ) (a : Ends) → slice_get actions count ≡ Some a
    → (said : Option (List ℕ)) → IfSome said (λ b. (rest : List (List ℕ)) × (drop (sends_of a.from (take count actions)) (outputs a.from) ≡ b ∷ rest))
    → IfSome said (λ b. option_and_then (bytes_of outputs (take count actions)) (slice_get actions count) ≡ Some b)
said_next outputs actions count a at None first = tt
said_next outputs actions count a at (Some b) first = rw at (drop_first (outputs a.from) (sends_of a.from (take count actions)) b first.0 first.1).0

module _ (roles : ℕ) (actions : List Ends) (old mid new : ℕ → Child) (a : Ends) (sent : List Sent) where
  -- what is told where the next message isn't handed on
  pub told_at_last : {X : Type 0} (After : X → List Note → X → Type 0)
      → ((x y z : X) (some more : List Note) → After x some y → After y more z → After x (some ++ more) z)
      → (x y z : X) → length sent < length actions → slice_get actions (length sent) ≡ Some a → a.from < roles
      → After x (notes_of actions sent) y → (r : RelayNo) → IsCaused mid new roles r
      → TellsAlone (λ told. After y told z) (mid a.from).left (length sent + 1) a.from r
      → ((outputs : ℕ → List (List ℕ)) (tails : ℕ → Tail) → AreCut roles old outputs tails
      → Carried old mid roles outputs tails (take (length sent) actions) × (sent ≡ report outputs (take (length sent) actions)))
      → (told : List Note) × IsTold actions roles old r told × After x told z
  told_at_last After joined x y z below at from before r caused t carried = (
    notes_of actions sent ++ alone (length sent + 1) a.from t.said,
    record {
      sent = sent;
      said = t.said;
      are = ap (λ l. notes_of actions sent ++ l) (sym (alone_next actions (length sent) a t.said at));
      count = count_at mid new roles actions (length sent) r below caused t.at;
      may = t.may;
      first = λ outputs tails cut.
          let c = carried outputs tails cut in
          record {
            sent_is = c.1;
            said_is = said_next outputs actions (length sent) a at t.said (t.first _ (tails a.from) (c.0.cuts a.from from));
          };
    },
    joined x y z _ _ before t.after,
  )

-- what is told where all messages were handed on
pub all_told : (actions : List Ends) (roles : ℕ) (old : ℕ → Child) (sent : List Sent) → length sent ≡ length actions
    → ((outputs : ℕ → List (List ℕ)) (tails : ℕ → Tail) → AreCut roles old outputs tails → sent ≡ report outputs actions)
    → (b c : ℕ → Child) (r : RelayNo) → FailsFinishing b c roles r → IsTold actions roles old r (notes_of actions sent)
all_told actions roles old sent count is b c r fails =
    plain_told actions roles old r sent (counted r fails) (λ outputs tails cut. is outputs tails cut ∙ ap (report outputs) (sym (take_all (length sent) actions (omega (arith, count))))) where
      counted : (r : RelayNo) → FailsFinishing b c roles r → IsCount actions r (length sent)
      counted (no.Fault role) f = omega (arith, count)
      counted (no.Bad role status) f = count
      counted (no.Ended n) f = absurd f
      counted (no.Cut n have need) f = absurd f
      counted (no.Long n len) f = absurd f
      counted no.NoMemory f = absurd f

pub none_told : (actions : List Ends) (roles : ℕ) (old new : ℕ → Child) (words : List (List (List ℕ))) (r : RelayNo) → FailsStarting old new roles words r → IsTold actions roles old r []
none_told actions roles old new words (no.Fault role) f = nothing_told actions roles old (no.Fault role) (omega arith)
none_told actions roles old new words (no.Bad role status) f = absurd f
none_told actions roles old new words (no.Ended n) f = absurd f
none_told actions roles old new words (no.Cut n have need) f = absurd f
none_told actions roles old new words (no.Long n len) f = absurd f
none_told actions roles old new words no.NoMemory f = absurd f

-- ---- in the loop

-- a message more was handed on
pub noted : {X : Type 0} (After : X → List Note → X → Type 0)
    → ((x y z : X) (some more : List Note) → After x some y → After y more z → After x (some ++ more) z)
    → (x y z : X) (actions : List Ends) (i : ℕ) (d : Ends) (sent sent_now : List Sent) (bytes : List ℕ) → i < length actions → length sent ≡ i
    → sent_now ≡ sent ++ record { action = i + 1; bytes = bytes } ∷ [] → After x (notes_of actions sent) y → After y (both_notes (get_or actions i d) (record { action = i + 1; bytes = bytes })) z
    → After x (notes_of actions sent_now) z
noted After joined x y z actions i d sent sent_now bytes below count pushed before now =
    let all = notes_more actions sent (get_or actions i d) (record { action = i + 1; bytes = bytes }) (got_at actions i d sent below count) in
    subst (λ told. After x told z) (sym (ap (notes_of actions) pushed ∙ all)) (joined x y z _ _ before now)

pub counted : (sent sent_now : List Sent) (s : Sent) (i : ℕ) → length sent ≡ i → sent_now ≡ sent ++ s ∷ [] → length sent_now ≡ i + 1
counted sent sent_now s i count pushed = ap length pushed ∙ length-append sent (s ∷ []) ∙ omega (arith, count)

module _ (roles : ℕ) (actions : List Ends) (old : ℕ → Child) where
  -- one isn't handed on
  pub refused_here : (mid new : ℕ → Child) (i : ℕ) (d : Ends) (sent : List Sent) → i < length actions → length sent ≡ i
      → {X : Type 0} (After : X → List Note → X → Type 0)
      → ((x y z : X) (some more : List Note) → After x some y → After y more z → After x (some ++ more) z)
      → (x y z : X) → (get_or actions i d).from < roles → After x (notes_of actions sent) y → (r : RelayNo) → IsCaused mid new roles r
      → TellsAlone (λ told. After y told z) (mid (get_or actions i d).from).left (i + 1) (get_or actions i d).from r
      → ((outputs : ℕ → List (List ℕ)) (tails : ℕ → Tail) → AreCut roles old outputs tails → Carried old mid roles outputs tails (take i actions) × (sent ≡ report outputs (take i actions)))
      → (told : List Note) × IsTold actions roles old r told × After x told z
  refused_here mid new i d sent below count After joined x y z from before r caused t carried =
      let a = get_or actions i d in
      told_at_last roles actions old mid new a sent After joined x y z (omega (arith, count, below)) (got_at actions i d sent below count) from before r caused
      (subst (λ (n : ℕ). TellsAlone (λ told. After y told z) (mid a.from).left (n + 1) a.from r) (sym count) t)
      (λ outputs tails cut. subst (λ (n : ℕ). Carried old mid roles outputs tails (take n actions) × (sent ≡ report outputs (take n actions))) (sym count) (carried outputs tails cut))

  -- one was handed on, and there is no memory to keep it
  pub wanting_here : (i : ℕ) (d : Ends) (sent : List Sent) (bytes : List ℕ) → i < length actions → length sent ≡ i
      → {X : Type 0} (After : X → List Note → X → Type 0)
      → ((x y z : X) (some more : List Note) → After x some y → After y more z → After x (some ++ more) z)
      → (x y z : X) → After x (notes_of actions sent) y → After y (both_notes (get_or actions i d) (record { action = i + 1; bytes = bytes })) z
      → ((outputs : ℕ → List (List ℕ)) (tails : ℕ → Tail) → AreCut roles old outputs tails
      → (sent ≡ report outputs (take i actions)) × (report outputs (take (i + 1) actions) ≡ report outputs (take i actions) ++ record { action = i + 1; bytes = bytes } ∷ []))
      → (told : List Note) × IsTold actions roles old no.NoMemory told × After x told z
  wanting_here i d sent bytes below count After joined x y z before now carried =
      let s : Sent = record { action = i + 1; bytes = bytes } in
      let all = sent ++ s ∷ [] in
      let many : length all ≡ i + 1 = counted sent all s i count refl in (
        notes_of actions all,
        plain_told actions roles old no.NoMemory all (omega (arith, many, below))
            (λ outputs tails cut.
            let c = carried outputs tails cut in
            ap (λ l. l ++ s ∷ []) c.0 ∙ sym c.1 ∙ ap (λ (n : ℕ). report outputs (take n actions)) (sym many)),
        noted After joined x y z actions i d sent all bytes below count refl before now,
      )
