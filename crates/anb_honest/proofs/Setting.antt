-- A joint run before its first turn.
use Rattle.std.proofs.Common.{◌≡◌, ℕ, zero, suc, ◌+◌, ◌<◌, ◌≤◌, List, [], ◌∷◌, ◌++◌, length, map, drop, get_or, replicate, Bool, true, false, cond, Option, Some, None, refl, sym, ap, ◌∙◌, subst, arith}
use Rattle.std.specs.Prelude.{IfSome, slice_get, flat_map, nat_lt, All, Vec}
use Rattle.std.specs.Global.{Global}
use Rattle.std.specs.Option.{option_or}
use Rattle.std.specs.List.{range_with_len}
use Rattle.std.proofs.lemmas.Bool.Decides.{nat_tests}
use Rattle.std.proofs.lemmas.List.Elements.{All-nil, All-cons}
use Rattle.std.proofs.lemmas.List.FromFn.{get_or-map-range_with_len}
use Rattle.anb_base.specs.declared.TheConstants.{ARRIVAL}
use Rattle.anb_protocol.specs.Choices.{first}
use Rattle.anb_honest.specs.declared.stage.Stage.{Stage}
use Rattle.anb_honest.specs.declared.player.Player.{Player}
use Rattle.anb_honest.specs.declared.report.RehearseEnd.{RehearseEnd}
use Rattle.anb_honest.specs.declared.report.RehearseEnd.TheVariants.{LongMessage}
use Rattle.anb_honest.specs.Given.{items_of}
use Rattle.anb_honest.specs.Joint.{Cast, told, outset, init_of, long_end}
use Rattle.anb_honest.specs.Inside.{IsPlayer, IsShort, Stands}
use Rattle.std.specs.List.{AllByRecursion}
use Rattle.std.proofs.lemmas.List.{length-map}
use Rattle.anb_base.specs.declared.content.Suite.{Suite}
use Rattle.anb_format.specs.Formats.{FormatValue}
use Rattle.anb_term.specs.Tree.{Tree, IsFormed}
use Rattle.anb_plays.specs.Honest.{honest}
use Rattle.anb_algebra.specs.ByteMeaning.{byte_meaning, has_operator}
use Rattle.anb_compile.specs.Emitting.{known_in}
use Rattle.anb_compile.proofs.Protocols.{known_of_plan, all_known}
use Rattle.anb_lemmas.proofs.Each.{each_in_front}
use Rattle.anb_lemmas.proofs.Lists.{drop_next}
use Rattle.anb_protocol.specs.declared.plans.Event.{Event}
use Rattle.anb_protocol.specs.Laws.{HoldsOf}
use Rattle.anb_protocol.specs.Protocols.{ProtocolValue}
use Rattle.anb_protocol.specs.Texts.{known_terms}
use Rattle.anb_protocol.specs.Plans.{PlanEvent, to_know, to_make, to_send, to_receive, plan_of, messages}
use Rattle.anb_protocol.specs.Views.{plan_event}
use Rattle.anb_honest.specs.Joint.{given}
use Rattle.anb_honest.proofs.Begun.{initial_all}

pub ranged : {X : Type 0} (f : ℕ → X) (xs : List X) (n r : ℕ) (x : X) → xs ≡ map f (range_with_len 0 n) → r < n → x ≡ get_or xs r x → x ≡ f r
ranged f xs n r x e h at = at ∙ ap (λ l. get_or l r x) e ∙ get_or-map-range_with_len f 0 n r r x h (omega arith)

mapped_get : {X Y : Type 0} (f : X → Y) (xs : List X) (r : ℕ) (d : X) → get_or (map f xs) r (f d) ≡ f (get_or xs r d)
mapped_get f [] r d = refl
mapped_get f (x ∷ xs) zero d = refl
mapped_get f (x ∷ xs) (suc r) d = mapped_get f xs r d

pub initial_at : (c : Cast) (all : List (Vec (List ℕ) Global)) (n r : ℕ) (v : Vec (List ℕ) Global) → map items_of all ≡ map (init_of c) (range_with_len 0 n) → r < n → v ≡ get_or all r v
    → v.items ≡ init_of c r
initial_at c all n r v e h at = ranged (init_of c) (map items_of all) n r v.items e h (ap items_of at ∙ sym (mapped_get items_of all r v))

empty_slots : (P : Option (List ℕ) → Type 0) → P None → (n k : ℕ) → IfSome (slice_get (replicate n None) k) P
empty_slots P p zero k = tt
empty_slots P p (suc n) zero = p
empty_slots P p (suc n) (suc k) = empty_slots P p n k

length_empty : (n : ℕ) → length (replicate {A = Option (List ℕ)} n None) ≡ n
length_empty zero = refl
length_empty (suc n) = ap suc (length_empty n)

pub stands_first : (c : Cast) (stage : Stage) → length c.protocol.roles ≤ 32 → length c.protocol.actions ≤ 256 → length stage.players.items ≡ length c.protocol.roles
    → ((j : ℕ) → IfSome (slice_get stage.players.items j) (IsPlayer c [] j)) → stage.told.items ≡ replicate (length c.protocol.actions) None → stage.taken ≡ 0 → stage.passed ≡ 0
    → Stands c outset stage
stands_first c stage roles actions count players slots taken passed = record {
  roles = roles;
  actions = actions;
  count = count;
  players = players;
  slots = ap length slots ∙ length_empty (length c.protocol.actions);
  told = λ k. subst (λ l. IfSome (slice_get l k) (λ slot. slot ≡ told [] (k + 1))) (sym slots) (empty_slots (λ slot. slot ≡ told [] (k + 1)) refl (length c.protocol.actions) k);
  short = λ k. subst (λ l. IfSome (slice_get l k) IsShort) (sym slots) (empty_slots IsShort tt (length c.protocol.actions) k);
  taken = taken;
  passed = passed;
}

-- one role more
pub players_next : (c : Cast) (players new : List Player) (role : ℕ) (pl : Player) → length players ≡ role → new ≡ players ++ pl ∷ []
    → ((j : ℕ) → IfSome (slice_get players j) (IsPlayer c [] j)) → IsPlayer c [] role pl → (j : ℕ) → IfSome (slice_get new j) (IsPlayer c [] j)
players_next c players new role pl count pushed all is j =
    subst (λ l. IfSome (slice_get l j) (IsPlayer c [] j)) (sym pushed) (by players 0 j (let n : 0 + length players ≡ role = omega (arith, count) in n) (λ k. let n : k ≡ 0 + k = omega arith in subst (λ q. IfSome (slice_get players k) (IsPlayer c [] q)) n (all k))
    (let n : j ≡ 0 + j = omega arith in n))
  where
    by : (players : List Player) (k i : ℕ) → k + length players ≡ role → ((q : ℕ) → IfSome (slice_get players q) (IsPlayer c [] (k + q))) → j ≡ k + i → IfSome (slice_get (players ++ pl ∷ []) i) (IsPlayer c [] j)
    by [] k zero n all e = let h : role ≡ j = omega (arith, n, e) in subst (λ q. IsPlayer c [] q pl) h is
    by [] k (suc i) n all e = tt
    by (x ∷ xs) k zero n all e = let h : k + 0 ≡ j = omega (arith, e) in subst (λ q. IsPlayer c [] q x) h (all 0)
    by (x ∷ xs) k (suc i) n all e =
        by xs (k + 1) i (omega (arith, n)) (λ q. let m : k + suc q ≡ k + 1 + q = omega arith in subst (λ r. IfSome (slice_get xs q) (IsPlayer c [] r)) m (all (suc q))) (omega (arith, e))

-- ---- none is too long

short_of : (b : List ℕ) → (v : Bool) → nat_lt ARRIVAL (length b) ≡ v → cond v (Some (LongMessage 0 (length b))) None ≡ None → length b ≤ ARRIVAL
short_of b true e f = cc
short_of b false e f = grind (arith, nat_tests, e)

or_parts : (a b : Option RehearseEnd) → option_or a b ≡ None → (a ≡ None) × (b ≡ None)
or_parts None b e = (refl, e)
or_parts (Some x) b e = absurd (cc)

-- values of which none is too long are short
pub none_long_is_short : (xs : List (List ℕ)) → first (long_end 0) xs ≡ None → All (λ (x : List ℕ). length x ≤ ARRIVAL) xs
none_long_is_short [] e = All-nil (λ (x : List ℕ). length x ≤ ARRIVAL)
none_long_is_short (x ∷ xs) e =
    let parts = or_parts (long_end 0 x) (first (long_end 0) xs) e in
    All-cons (λ (x : List ℕ). length x ≤ ARRIVAL) x xs (short_of x (nat_lt ARRIVAL (length x)) refl parts.0) (none_long_is_short xs parts.1)

first-append : (xs ys : List (List ℕ)) → first (long_end 0) (xs ++ ys) ≡ option_or (first (long_end 0) xs) (first (long_end 0) ys)
first-append [] ys = refl
first-append (x ∷ xs) ys = ap (option_or (long_end 0 x)) (first-append xs ys) ∙ assoc (long_end 0 x) (first (long_end 0) xs) (first (long_end 0) ys) where
  assoc : (a b d : Option RehearseEnd) → option_or a (option_or b d) ≡ option_or (option_or a b) d
  assoc None b d = refl
  assoc (Some x) b d = refl

pub none_long_at : (all : List (Vec (List ℕ) Global)) (r : ℕ) (v : Vec (List ℕ) Global) → first (long_end 0) (flat_map items_of all) ≡ None → r < length all → v ≡ get_or all r v
    → first (long_end 0) v.items ≡ None
none_long_at [] r v e h at = absurd (omega arith)
none_long_at (x ∷ all) zero v e h at =
    let parts = or_parts (first (long_end 0) x.items) (first (long_end 0) (flat_map items_of all)) (sym (first-append x.items (flat_map items_of all)) ∙ e) in
    ap (λ w. first (long_end 0) (items_of w)) at ∙ parts.0
none_long_at (x ∷ all) (suc r) v e h at =
    let parts = or_parts (first (long_end 0) x.items) (first (long_end 0) (flat_map items_of all)) (sym (first-append x.items (flat_map items_of all)) ∙ e) in
    none_long_at all r v parts.1 (omega arith) at

-- ---- the first that is too long

-- the first of what is left is the first of these, or of what is left behind them
pub first_left : (all : List (Vec (List ℕ) Global)) (i : ℕ) (v : Vec (List ℕ) Global) (o : Option RehearseEnd) → i < length all → v ≡ get_or all i v → o ≡ first (long_end 0) v.items
    → first (long_end 0) (flat_map items_of (drop i all)) ≡ option_or o (first (long_end 0) (flat_map items_of (drop (i + 1) all)))
first_left all i v o h at is =
    ap (λ l. first (long_end 0) (flat_map items_of l)) (drop_next all i v h at) ∙ first-append v.items (flat_map items_of (drop (i + 1) all))
    ∙ ap (λ x. option_or x (first (long_end 0) (flat_map items_of (drop (i + 1) all)))) (sym is)

pub long_ends : (b : List ℕ) → ARRIVAL < length b → long_end 0 b ≡ Some (LongMessage 0 (length b))
long_ends b h = let e : nat_lt ARRIVAL (length b) ≡ true = grind (arith, nat_tests, h) in ap (λ v. cond v (Some (LongMessage 0 (length b))) None) e

-- ---- what a plan knows

know_parts : (P : Tree → Type 0) (e : PlanEvent) (es : List PlanEvent) → AllByRecursion P (known_in (e ∷ es)) → AllByRecursion P (known_in (e ∷ [])) × AllByRecursion P (known_in es)
know_parts P (to_know t) es all = ((all.0, tt), all.1)
know_parts P (to_make t) es all = (tt, all)
know_parts P (to_send i t) es all = (tt, all)
know_parts P (to_receive i t) es all = (tt, all)

pub known_at : (P : Tree → Type 0) (events : List Event) (i : ℕ) (x : Event) → i < length events → x ≡ get_or events i x → AllByRecursion P (known_in (map plan_event events))
    → AllByRecursion P (known_in (plan_event x ∷ []))
known_at P [] i x h at all = absurd (omega arith)
known_at P (y ∷ ys) zero x h at all = subst (λ z. AllByRecursion P (known_in (plan_event z ∷ []))) (sym at) (know_parts P (plan_event y) (map plan_event ys) all).0
known_at P (y ∷ ys) (suc i) x h at all = known_at P ys i x (omega arith) at (know_parts P (plan_event y) (map plan_event ys) all).1

length_range : (k n : ℕ) → length (range_with_len k n) ≡ n
length_range k zero = refl
length_range k (suc n) = ap suc (length_range (k + 1) n)

pub long_as : {A B : Type 0} (g : A → B) (f : ℕ → B) (xs : List A) (n : ℕ) → map g xs ≡ map f (range_with_len 0 n) → length xs ≡ n
long_as g f xs n e = sym (length-map xs g) ∙ ap length e ∙ length-map (range_with_len 0 n) f ∙ length_range 0 n

pub long_is : {B : Type 0} (f : ℕ → B) (xs : List B) (n : ℕ) → xs ≡ map f (range_with_len 0 n) → length xs ≡ n
long_is f xs n e = ap length e ∙ length-map (range_with_len 0 n) f ∙ length_range 0 n

pub plan_formed_at : (p : ProtocolValue) → HoldsOf p → (plans : List (List PlanEvent)) (i : ℕ) (plan : List PlanEvent) → plans ≡ map (plan_of p) (range_with_len 0 (length p.roles)) → i < length plans
    → plan ≡ get_or plans i plan → (formats : List FormatValue) → formats ≡ p.formats → AllByRecursion (IsFormed (has_operator formats)) (known_in plan)
plan_formed_at p holds plans i plan e h at formats same =
    let n = long_is (plan_of p) plans (length p.roles) e in
    let is : plan ≡ plan_of p i = ranged (plan_of p) plans (length p.roles) i plan e (omega (arith, n)) at in
    let all = all_known (IsFormed (has_operator p.formats)) p.knows i (each_in_front (IsFormed (has_operator p.formats)) (known_terms p) (messages p.actions) holds.formed) in
    subst (λ f. AllByRecursion (IsFormed (has_operator f)) (known_in plan)) (sym same)
    (subst (λ ts. AllByRecursion (IsFormed (has_operator p.formats)) ts) (sym (ap known_in is ∙ known_of_plan p i)) all)

pub initial_done : (c : Cast) (plans : List (List PlanEvent)) (all : List (Vec (List ℕ) Global)) (formats : List FormatValue) (suite : Suite) → formats ≡ c.protocol.formats → suite ≡ c.protocol.suite
    → plans ≡ map (plan_of c.protocol) (range_with_len 0 (length c.protocol.roles))
    → map items_of all ≡ map (λ (plan : List PlanEvent). map (honest (byte_meaning formats suite) (given c)) (known_in plan)) plans
    → map items_of all ≡ map (init_of c) (range_with_len 0 (length c.protocol.roles))
initial_done c plans all formats suite f s p e =
    e ∙ ap (λ g. map (λ (plan : List PlanEvent). map (honest (byte_meaning g suite) (given c)) (known_in plan)) plans) f
    ∙ ap (λ g. map (λ (plan : List PlanEvent). map (honest (byte_meaning c.protocol.formats g) (given c)) (known_in plan)) plans) s
    ∙ ap (map (λ (plan : List PlanEvent). map (honest (byte_meaning c.protocol.formats c.protocol.suite) (given c)) (known_in plan))) p ∙ initial_all c

-- what one role knows, by its plan
pub known_done : (c : Cast) (role : ℕ) (plan : List PlanEvent) (formats : List FormatValue) (suite : Suite) → formats ≡ c.protocol.formats → suite ≡ c.protocol.suite → plan ≡ plan_of c.protocol role
    → (values : List (List ℕ)) → values ≡ map (honest (byte_meaning formats suite) (given c)) (known_in plan) → values ≡ init_of c role
known_done c role plan formats suite f s p values e =
    e ∙ ap (λ g. map (honest (byte_meaning g suite) (given c)) (known_in plan)) f
    ∙ ap (λ g. map (honest (byte_meaning c.protocol.formats g) (given c)) (known_in plan)) s
    ∙ ap (λ (l : List PlanEvent). map (honest (byte_meaning c.protocol.formats c.protocol.suite) (given c)) (known_in l)) p
    ∙ ap (map (honest (byte_meaning c.protocol.formats c.protocol.suite) (given c))) (known_of_plan c.protocol role)
