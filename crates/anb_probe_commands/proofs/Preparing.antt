-- What is prepared, before any program is started.
use Rattle.std.proofs.Common.{zero, suc, take, Option, None, ◌≡◌, ◌⊎◌, ℕ, List, [], ◌∷◌, length, map, Some, Result, Ok, Err, refl, ap, ◌∙◌, subst, inl, inr, arith, ◌<◌, ◌+◌, Bool, true, false, cond, sym}
use Rattle.std.specs.Prelude.{count_by, is_none, slice_get}
use Rattle.std.specs.List.{AllByRecursion, fold}
use Rattle.anb_code.specs.CodeValue.{CodeValue}
use Rattle.anb_compile.specs.Fitting.{FitsRole}
use Rattle.anb_partner.specs.declared.planning.Partner.{Partner}
use Rattle.anb_partner.specs.declared.planning.PartnerNo.TheVariants as no
use Rattle.anb_protocol.specs.Protocols.{ActionValue, ProtocolValue}
use Rattle.anb_protocol.specs.Views.{action_value}
use Rattle.anb_protocol.specs.declared.parts.Action.{Action}
use Rattle.anb_term.proofs.Lists.{slice_get-map}
use Rattle.anb_verdict.specs.Places.{is_own}
use Rattle.anb_attempts.specs.Attempts.{IsSuite}
use Rattle.anb_attempts.specs.declared.attempts.Attempt.{Attempt}
use Rattle.anb_attempts.specs.declared.attempts.Scene.{Scene}
use Rattle.anb_attempts.specs.declared.attempts.Suite.{Suite}
use Rattle.anb_status.specs.declared.status.Status.{Status}
use Rattle.anb_status.specs.declared.status.Status.TheVariants as status
use Rattle.anb_probe_commands.specs.Cases.{AreMade, IsMade, cases_from, has_partner, is_wanted, lack_at, lack_in, lack_of}
use Rattle.anb_probe_commands.specs.Playing.{IsPlaced}
use Rattle.anb_probe_commands.specs.Probings.{Probing}
use Rattle.anb_probe_commands.specs.ProbeCommand.{Agenda, RefusesHonest}
use Rattle.anb_probe_commands.specs.Tasks.{IsHonestLack, IsUnsentBehind}
use Rattle.anb_probe_commands.specs.Words.{Trying}
use Rattle.anb_probe_commands.specs.declared.partners.Lack.{Lack}
use Rattle.anb_probe_commands.specs.declared.partners.Lack.TheVariants.{Blocked, Large}

abbrev pub agenda : List Scene → List Attempt → List (List ℕ) → ℕ → Bool → Agenda
agenda scenes cases untried count is_shown = record { scenes = scenes; cases = cases; untried = untried; count = count; is_shown = is_shown }

-- the first scene has no partner
module _ (p : ProtocolValue) (role : ℕ) (lack : Lack) where
  first_lack : (scenes : List Scene) (partners : List (Result Partner Lack)) → AreMade p role scenes partners → length partners ≡ length scenes → lack_in (map lack_of partners) 0 ≡ Some lack
      → (scene : Scene) × (slice_get scenes 0 ≡ Some scene) × IsMade p role scene (Err lack)
  first_lack scenes [] made each some = cc
  first_lack [] (r ∷ rs) made each some = absurd (omega (arith, each))
  first_lack (s ∷ ss) (Ok x ∷ rs) made each some = cc
  first_lack (s ∷ ss) (Err l ∷ rs) made each some =
      let same : l ≡ lack = cc in (s, refl, subst (λ (z : Lack). IsMade p role s (Err z)) same (made 0 s (Err l) refl refl))

module _ (q : Probing) (trying : Trying) (code : CodeValue) (fits : FitsRole q.protocol q.role code) (suite : Suite) (suit : IsSuite q.protocol q.role code trying.all suite) where
  refused_by : (lack : Lack) (s : Status) → (scene : Scene) × (slice_get suite.scenes.items 0 ≡ Some scene) × IsMade q.protocol q.role scene (Err lack) → IsHonestLack q.protocol q.role lack s → RefusesHonest q trying s
  refused_by (Blocked line) s (scene, first, refuses) is = record { code = code; fits = fits; suite = suite; suit = suit; scene = scene; first = first; why = no.CannotSend line; refuses = refuses; is = is }
  refused_by Large s (scene, first, refuses) is = record { code = code; fits = fits; suite = suite; suit = suit; scene = scene; first = first; why = no.Large; refuses = refuses; is = is }

  pub honest_refused : (partners : List (Result Partner Lack)) (lack : Lack) (s : Status) → AreMade q.protocol q.role suite.scenes.items partners → length partners ≡ length suite.scenes.items → lack_in (map lack_of partners) 0 ≡ Some lack
      → IsHonestLack q.protocol q.role lack s ⊎ (s ≡ status.NoMemory) → RefusesHonest q trying s ⊎ (s ≡ status.NoMemory)
  honest_refused partners lack s made each some (inl is) = inl (refused_by lack s (first_lack q.protocol q.role lack suite.scenes.items partners made each some) is)
  honest_refused partners lack s made each some (inr none) = inr none

-- two agendas with the same parts
pub same_agenda : (scenes : List Scene) (cases others : List Attempt) (untried lines : List (List ℕ)) (count n : ℕ) (shown s : Bool) → cases ≡ others → untried ≡ lines → count ≡ n → shown ≡ s
    → agenda scenes cases untried count shown ≡ agenda scenes others lines n s
same_agenda scenes cases others untried lines count n shown s cs us ns ss =
    ap (λ (x : List Attempt). agenda scenes x untried count shown) cs ∙ ap (λ (x : List (List ℕ)). agenda scenes others x count shown) us ∙ ap (λ (x : ℕ). agenda scenes others lines x shown) ns
    ∙ ap (λ (x : Bool). agenda scenes others lines n x) ss

-- ---- the cases that are left have a scene, and a partner

none_of : (o : Option Lack) → is_none o ≡ true → o ≡ None
none_of None e = refl
none_of (Some l) e = cc

module _ (scenes : List Scene) (partners : List (Result Partner Lack)) (each : length partners ≡ length scenes) (case : Option ℕ) where
  pub placed_cases : (n : ℕ) (attempts : List Attempt) → AllByRecursion (λ (a : Attempt). a.scene < length scenes) attempts → AllByRecursion (IsPlaced scenes partners) (cases_from (map lack_of partners) case n attempts)
  placed_cases n [] all = tt
  placed_cases n (a ∷ rest) all = by (placed_cases (n + 1) rest all.1) (placed_cases n rest all.1) (has_partner (map lack_of partners) a) refl (is_wanted case n) where
    by : AllByRecursion (IsPlaced scenes partners) (cases_from (map lack_of partners) case (n + 1) rest) → AllByRecursion (IsPlaced scenes partners) (cases_from (map lack_of partners) case n rest)
        → (b : Bool) → has_partner (map lack_of partners) a ≡ b → (w : Bool)
        → AllByRecursion (IsPlaced scenes partners) (cond b (cond w (a ∷ cases_from (map lack_of partners) case (n + 1) rest) (cases_from (map lack_of partners) case (n + 1) rest)) (cases_from (map lack_of partners) case n rest))
    by further same true e true = (record { scene = all.0; partner = subst (λ (k : ℕ). a.scene < k) (sym each) all.0; made = none_of (lack_at (map lack_of partners) a) e }, further)
    by further same true e false = further
    by further same false e w = same

-- ---- the action of a line

counted_from : {A B : Type 0} (t : B → Bool) (f : A → B) (xs : List A) (n a : ℕ) → fold (λ (k : ℕ) (y : B). k + cond (t y) 1 0) a (take n (map f xs)) ≡ fold (λ (k : ℕ) (x : A). k + cond (t (f x)) 1 0) a (take n xs)
counted_from t f [] zero a = refl
counted_from t f [] (suc n) a = refl
counted_from t f (x ∷ xs) zero a = refl
counted_from t f (x ∷ xs) (suc n) a = counted_from t f xs n (a + cond (t (f x)) 1 0)

count_mapped : {A B : Type 0} (t : B → Bool) (f : A → B) (xs : List A) (n : ℕ) → count_by t (take n (map f xs)) ≡ count_by (λ (x : A). t (f x)) (take n xs)
count_mapped t f xs n = counted_from t f xs n 0

module _ (p : ProtocolValue) (role line i : ℕ) (actions : List Action) (a : Action) (are : map action_value actions ≡ p.actions) (here : slice_get actions i ≡ Some a) (own : is_own role (action_value a) ≡ true)
    (counted : count_by (λ (b : Action). is_own role (action_value b)) (take i actions) + 1 ≡ line) where
  pub line_refused : (s : Status) → IsUnsentBehind p i (action_value a) s ⊎ (s ≡ status.NoMemory) → IsHonestLack p role (Blocked line) s ⊎ (s ≡ status.NoMemory)
  line_refused s (inr none) = inr none
  line_refused s (inl (sender, named, is)) = inl (
    i + 1,
    sender,
    record {
      before = i;
      number_is = refl;
      action = action_value a;
      here = subst (λ (l : List ActionValue). slice_get l i ≡ Some (action_value a)) are (slice_get-map action_value actions i a here);
      own = own;
      counted = subst (λ (l : List ActionValue). count_by (is_own role) (take i l) + 1 ≡ line) are (ap (λ (k : ℕ). k + 1) (count_mapped (is_own role) action_value actions i) ∙ counted);
      named = named;
    },
    is,
  )
