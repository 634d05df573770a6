-- Roles before the first turn.
use Rattle.std.proofs.Common.{◌≡◌, ℕ, ◌+◌, List, [], ◌∷◌, ◌++◌, length, map, drop, Option, Some, refl, sym, ap, ◌∙◌, subst, arith}
use Rattle.std.specs.Prelude.{filter_map, flat_map, slice_get}
use Rattle.std.specs.Prelude.{Vec}
use Rattle.std.specs.Global.{Global}
use Rattle.std.specs.Option.{option_map_or, option_or}
use Rattle.std.specs.List.{range_with_len}
use Rattle.std.proofs.lemmas.List.{length-map, map-append}
use Rattle.anb_base.specs.declared.TheConstants.{ARRIVAL, WIDE}
use Rattle.anb_term.specs.Tree.{Tree}
use Rattle.anb_algebra.specs.ByteMeaning.{byte_meaning, has_operator}
use Rattle.anb_algebra.specs.ByteLawful.{bytes_are_lawful}
use Rattle.anb_lemmas.proofs.Lists.{drop_got, map_same}
use Rattle.anb_seal.specs.Streams.{draw_of}
use Rattle.anb_plays.specs.Plays.{done, ends, Run}
use Rattle.anb_plays.specs.Exec.{exec, HasTakes}
use Rattle.anb_plays.specs.Fits.{start}
use Rattle.anb_plays.proofs.Exec.{exec_is_run, takes_ready}
use Rattle.anb_code.specs.CodeValue.{CodeValue}
use Rattle.anb_code.specs.Meaning.{acts_of}
use Rattle.anb_code.specs.Taking.{take_texts}
use Rattle.anb_code.specs.Verified.{IsVerifiedCode}
use Rattle.anb_compile.specs.Emitting.{known_in}
use Rattle.anb_compile.proofs.Protocols.{known_of_plan}
use Rattle.anb_machine.specs.ByteRuns.{run_bytes}
use Rattle.anb_machine.specs.Machines.{gives}
use Rattle.anb_machine.proofs.Verified.{has_takes}
use Rattle.anb_protocol.specs.Protocols.{ProtocolValue}
use Rattle.anb_protocol.specs.Texts.{known_by, known_terms, term_text}
use Rattle.anb_protocol.specs.Choices.{first}
use Rattle.anb_protocol.specs.Plans.{PlanEvent, plan_of}
use Rattle.anb_protocol.specs.Plays.{events_of}
use Rattle.anb_protocol.specs.Schedules.{parts_of}
use Rattle.anb_honest.specs.declared.player.Player.{Player}
use Rattle.anb_compile.specs.Fitting.{FollowsRole}
use Rattle.anb_honest.specs.Given.{items_of}
use Rattle.anb_honest.specs.Joint.{Cast, init_of, given_bytes, long_end}
use Rattle.anb_honest.specs.Acting.{KeepsOrder}
use Rattle.anb_honest.specs.Inside.{IsPlayer, part_of, turn_value}
use Rattle.anb_honest.proofs.Ordering.{order_same, keeps}
use Rattle.anb_honest.proofs.Parts.{parts_are}

-- a code that follows a role's plan does the role's turns in order
pub code_keeps : (p : ProtocolValue) (role : ℕ) (code : CodeValue) (init : List (List ℕ)) (seed : List ℕ) (session : ℕ) → FollowsRole p role code → IsVerifiedCode ARRIVAL WIDE code
    → length init ≡ length (take_texts code.instrs) → KeepsOrder (parts_of p role) (run_bytes code init seed session)
code_keeps p role code init seed session follows verified count =
    let m = byte_meaning code.formats code.suite in
    let lawful = bytes_are_lawful code.formats code.suite in
    let plan = plan_of p role in
    let taking : HasTakes (has_operator code.formats) (acts_of code) 0 (length init) =
    subst (λ n. HasTakes (has_operator code.formats) (acts_of code) 0 n) (sym count) (has_takes ARRIVAL WIDE code verified) in
    let f : Run = λ arrivals. exec m (draw_of seed session) (acts_of code) init 0 0 0 arrivals in
    let k : KeepsOrder (filter_map (part_of role) plan) f =
    keeps m lawful (draw_of seed session) role (acts_of code) plan (start (events_of p role)) init follows.order (takes_ready (has_operator code.formats) (acts_of code) 0 (length init) taking) in
    order_same (parts_of p role) f (run_bytes code init seed session) (λ arrivals. exec_is_run m lawful (draw_of seed session) (acts_of code) init arrivals taking)
    (subst (λ l. KeepsOrder l f) (parts_are p role) k)

pub takes_of : (p : ProtocolValue) (role : ℕ) (code : CodeValue) → FollowsRole p role code → length (take_texts code.instrs) ≡ length (known_by p role)
takes_of p role code follows = ap length follows.texts ∙ length-map (known_by p role) (term_text p)

-- a role before its first turn
pub player_new : (c : Cast) (role : ℕ) (code : CodeValue) (pl : Player) → slice_get c.codes role ≡ Some code → FollowsRole c.protocol role code → IsVerifiedCode ARRIVAL WIDE code
    → pl.done ≡ 0 → map (turn_value role) pl.parts.items ≡ filter_map (part_of role) (plan_of c.protocol role)
    → ((arrivals : List (List ℕ)) → gives pl.machine arrivals ≡ run_bytes code (init_of c role) c.seed role arrivals) → IsPlayer c [] role pl
player_new c role code pl there follows verified none parts runs =
    let count : length (init_of c role) ≡ length (take_texts code.instrs) = length-map (known_by c.protocol role) (given_bytes c) ∙ sym (takes_of c.protocol role code follows) in
    record {
      parts = parts ∙ parts_are c.protocol role;
      done = none;
      within = omega arith;
      comes = λ more. ap (λ o. option_map_or (λ (x : CodeValue). run_bytes x (init_of c role) c.seed role more) o (ends done [])) there ∙ sym (runs more);
      order = subst (λ n. KeepsOrder (drop n (parts_of c.protocol role)) (gives pl.machine)) (sym none)
          (order_same (parts_of c.protocol role) (run_bytes code (init_of c role) c.seed role) (gives pl.machine) (λ arrivals. sym (runs arrivals))
          (code_keeps c.protocol role code (init_of c role) c.seed role follows verified count));
    }

-- ---- what roles know, plan by plan

known_each : (all knows : List (List Tree)) (k : ℕ) → drop k all ≡ knows
    → flat_map (λ r. option_map_or (λ (ts : List Tree). ts) (slice_get all r) []) (range_with_len k (length knows)) ≡ flat_map (λ (ts : List Tree). ts) knows
known_each all [] k e = refl
known_each all (ts ∷ knows) k e =
    let g = drop_got all knows k ts e in
    ap (λ o. option_map_or (λ (us : List Tree). us) o [] ++ flat_map (λ r. option_map_or (λ (us : List Tree). us) (slice_get all r) []) (range_with_len (k + 1) (length knows))) g.0
    ∙ ap (λ l. ts ++ l) (known_each all knows (k + 1) g.1)

pub flat_mapped : {A B D : Type 0} (f : B → List D) (g : A → B) (xs : List A) → flat_map f (map g xs) ≡ flat_map (λ x. f (g x)) xs
flat_mapped f g [] = refl
flat_mapped f g (x ∷ xs) = ap (λ l. f (g x) ++ l) (flat_mapped f g xs)

pub flat_same : {A D : Type 0} (f g : A → List D) (xs : List A) → ((x : A) → f x ≡ g x) → flat_map f xs ≡ flat_map g xs
flat_same f g [] e = refl
flat_same f g (x ∷ xs) e = ap (λ l. l ++ flat_map f xs) (e x) ∙ ap (λ l. g x ++ l) (flat_same f g xs e)

known_roles : (p : ProtocolValue) → length p.knows ≡ length p.roles → flat_map (known_by p) (range_with_len 0 (length p.roles)) ≡ known_terms p
known_roles p count = ap (λ n. flat_map (known_by p) (range_with_len 0 n)) (sym count) ∙ known_each p.knows p.knows 0 refl

-- the plans know, one after another, what some role knows
pub known_all : (p : ProtocolValue) → length p.knows ≡ length p.roles → flat_map known_in (map (plan_of p) (range_with_len 0 (length p.roles))) ≡ known_terms p
known_all p count =
    flat_mapped known_in (plan_of p) (range_with_len 0 (length p.roles)) ∙ flat_same (λ r. known_in (plan_of p r)) (known_by p) (range_with_len 0 (length p.roles)) (known_of_plan p)
    ∙ known_roles p count

pub mapped_twice : {A B D : Type 0} (f : B → D) (g : A → B) (xs : List A) → map f (map g xs) ≡ map (λ x. f (g x)) xs
mapped_twice f g [] = refl
mapped_twice f g (x ∷ xs) = ap (λ l. f (g x) ∷ l) (mapped_twice f g xs)

-- the initial values, by plans
pub initial_all : (c : Cast)
    → map (λ (plan : List PlanEvent). map (given_bytes c) (known_in plan)) (map (plan_of c.protocol) (range_with_len 0 (length c.protocol.roles)))
    ≡ map (init_of c) (range_with_len 0 (length c.protocol.roles))
initial_all c =
    mapped_twice (λ (plan : List PlanEvent). map (given_bytes c) (known_in plan)) (plan_of c.protocol) (range_with_len 0 (length c.protocol.roles))
    ∙ map_same (λ r. map (given_bytes c) (known_in (plan_of c.protocol r))) (init_of c) (range_with_len 0 (length c.protocol.roles)) (λ r. ap (map (given_bytes c)) (known_of_plan c.protocol r))

map_flat : {A B D : Type 0} (g : B → D) (f : A → List B) (xs : List A) → flat_map (λ x. map g (f x)) xs ≡ map g (flat_map f xs)
map_flat g f [] = refl
map_flat g f (x ∷ xs) = ap (λ l. map g (f x) ++ l) (map_flat g f xs) ∙ sym (map-append g (f x) (flat_map f xs))

first_mapped : {A B R : Type 0} (f : B → Option R) (g : A → B) (xs : List A) → first f (map g xs) ≡ first (λ x. f (g x)) xs
first_mapped f g [] = refl
first_mapped f g (x ∷ xs) = ap (option_or (f (g x))) (first_mapped f g xs)

-- the first of them that is too long
pub first_is : (c : Cast) (all : List (Vec (List ℕ) Global)) → length c.protocol.knows ≡ length c.protocol.roles
    → map items_of all ≡ map (init_of c) (range_with_len 0 (length c.protocol.roles))
    → first (long_end 0) (flat_map items_of all) ≡ first (λ t. long_end 0 (given_bytes c t)) (known_terms c.protocol)
first_is c all count is =
    let n = length c.protocol.roles in
    let lists : flat_map items_of all ≡ map (given_bytes c) (known_terms c.protocol) =
    sym (flat_mapped (λ (l : List (List ℕ)). l) items_of all) ∙ ap (flat_map (λ (l : List (List ℕ)). l)) is ∙ flat_mapped (λ (l : List (List ℕ)). l) (init_of c) (range_with_len 0 n)
    ∙ map_flat (given_bytes c) (known_by c.protocol) (range_with_len 0 n) ∙ ap (map (given_bytes c)) (known_roles c.protocol count) in
    ap (first (long_end 0)) lists ∙ first_mapped (long_end 0) (given_bytes c) (known_terms c.protocol)
