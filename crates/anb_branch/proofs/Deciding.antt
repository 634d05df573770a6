-- The run of the arm that is taken: up to the choice it is that of each arm, and it is the role's play.
use Rattle.std.proofs.Common.{◌≡◌, ℕ, ◌-◌, ◌<◌, ◌≤◌, List, [], ◌∷◌, ◌++◌, length, Bool, true, false, Option, Some, None, refl, sym, ap, ◌∙◌, subst, arith, inl, inr}
use Rattle.std.specs.Prelude.{slice_get, All, if◌then◌else◌}
use Rattle.std.specs.Option.{option_map_or}
use Rattle.std.specs.List.{AllByRecursion, AllZip, list_any}
use Rattle.std.specs.Str.{bytes_eq}
use Rattle.std.proofs.lemmas.Option.{slice_get_past, get_or_from_slice_get, slice_get_within}
use Rattle.std.proofs.lemmas.List.{length-map}
use Rattle.anb_index.specs.Places.{among}
use Rattle.anb_lemmas.proofs.Each.{each_got}
use Rattle.anb_base.specs.Bytes.{IsBytes}
use Rattle.anb_seal.specs.Streams.{draw_of}
use Rattle.anb_plays.specs.Plays.{Played, End, stopped, waiting, done, ends, Run}
use Rattle.anb_plays.specs.Runs.{no_place, without_place}
use Rattle.anb_plays.specs.Statements.{Grows}
use Rattle.anb_plays.proofs.Grows.{run_grows}
use Rattle.anb_code.specs.CodeValue.{CodeValue}
use Rattle.anb_code.specs.Meaning.{acts_of}
use Rattle.anb_code.specs.Taking.{take_texts}
use Rattle.anb_machine.specs.ByteRuns.{run_bytes, meaning_of}
use Rattle.anb_protocol.specs.Protocols.{ProtocolValue, role_number}
use Rattle.anb_protocol.specs.Texts.{known_by}
use Rattle.anb_protocol.specs.Plays.{IsPlay}
use Rattle.anb_compile.specs.Fitting.{FitsRole}
use Rattle.anb_compile.specs.Laws.{FittingCodesPlay}
use Rattle.anb_choice.specs.Lawful.{BranchedValue, IsLawful, roles_in, is_free}
use Rattle.anb_branch.specs.Arms.{FitArms}
use Rattle.anb_branch.specs.Taken.{begins_arm, place_begun, place_taken, stem_receives, IsTold, run_at, run_taken, PlaysTaken}
use Rattle.anb_branch.specs.Stems.{AgreeUpTo}
use Rattle.anb_branch.proofs.Members.{chosen_within, zipped_there}
use Rattle.anb_branch.proofs.Agreeing.{arms_alike}

-- ---- runs that grow

grows_placeless : (p q : Played (List ℕ)) (more : List (List ℕ)) → Grows p q more → Grows (without_place p) (without_place q) more
grows_placeless p q more (inl w) = inl (w.0, ap no_place w.1, w.2, w.3, w.4)
grows_placeless p q more (inr w) = inr (λ e is. w.0 e (waiting_so p.end e is), ap without_place w.1) where
  waiting_so : (x : End) (e : ℕ) → no_place x ≡ waiting e → x ≡ waiting e
  waiting_so done e is = cc
  waiting_so (stopped k at) e is = cc
  waiting_so (waiting k) e is = is

bytes_grow : (code : CodeValue) (init : List (List ℕ)) (seed : List ℕ) (past more : List (List ℕ)) → Grows (run_bytes code init seed 0 past) (run_bytes code init seed 0 (past ++ more)) more
bytes_grow code init seed past more = run_grows (meaning_of code) (draw_of seed 0) (acts_of code) init past more

-- ---- plays of codes

module _ (b : BranchedValue) (role : List ℕ) (init : List (List ℕ)) (seed : List ℕ) (codes : List CodeValue)
    (fit : FitArms b.arms role codes) (count : All (λ (code : CodeValue). length init ≡ length (take_texts code.instrs)) codes)
    (bytes : AllByRecursion IsBytes init) (play : AllByRecursion FittingCodesPlay b.arms) where
  abbrev Fitting : ProtocolValue → CodeValue → Type 0
  Fitting arm code = FitsRole arm (role_number arm.roles role) code

  -- the code at a place, and that its run is the only play there
  pub record Plays (place : ℕ) : Type 0 where
    pub arm : ProtocolValue
    pub code : CodeValue
    pub arm_at : slice_get b.arms place ≡ Some arm
    pub code_at : slice_get codes place ≡ Some code
    pub plays : (arrivals : List (List ℕ)) → AllByRecursion IsBytes arrivals
        → IsPlay arm (role_number arm.roles role) init seed 0 arrivals (without_place (run_bytes code init seed 0 arrivals))
    pub only : (arrivals : List (List ℕ)) → AllByRecursion IsBytes arrivals → (played : Played (List ℕ))
        → IsPlay arm (role_number arm.roles role) init seed 0 arrivals played → played ≡ without_place (run_bytes code init seed 0 arrivals)

  pub plays_there : (place : ℕ) → place < length b.arms → Plays place
  plays_there place within =
      let (arm, code, arm_at, code_at, fits) = zipped_there Fitting b.arms codes place fit within in
      let taken : length init ≡ length (take_texts code.instrs) = count_at place code code_at in
      let known : length init ≡ length (known_by arm (role_number arm.roles role)) = taken ∙ ap length fits.texts ∙ length-map (known_by arm (role_number arm.roles role)) _ in
      let law = each_got FittingCodesPlay b.arms place arm play arm_at in
      record {
        arm = arm;
        code = code;
        arm_at = arm_at;
        code_at = code_at;
        plays = λ arrivals strings. (law (role_number arm.roles role) code init seed 0 arrivals fits known bytes strings).0;
        only = λ arrivals strings. (law (role_number arm.roles role) code init seed 0 arrivals fits known bytes strings).1;
      }
    where
      count_at : (place : ℕ) (code : CodeValue) → slice_get codes place ≡ Some code → length init ≡ length (take_texts code.instrs)
      count_at place code at = subst (λ (c : CodeValue). length init ≡ length (take_texts c.instrs)) (get_or_from_slice_get codes place code code at) (count place code (slice_get_within codes place code at))

  run_is : (place : ℕ) (code : CodeValue) (arrivals : List (List ℕ)) → slice_get codes place ≡ Some code → run_at codes place init seed arrivals ≡ run_bytes code init seed 0 arrivals
  run_is place code arrivals at = ap (λ o. option_map_or (λ c. run_bytes c init seed 0 arrivals) o (ends done arrivals)) at

  -- ---- the play of the arm that is taken

  place_within_so : (told : Option ℕ) (arrivals : List (List ℕ)) → 0 < length b.arms → IsTold b role told → place_taken b role told arrivals < length b.arms
  place_within_so (Some number) arrivals some is = omega (arith, is.1, is.2)
  place_within_so None arrivals some is = by (list_any (is_free b.stem role) b.arms) (slice_get arrivals (stem_receives b role)) where
    by : (free : Bool) (o : Option (List ℕ)) → (if free then option_map_or (place_begun b role) o 0 else 0) < length b.arms
    by false o = some
    by true None = some
    by true (Some x) = chosen_within (begins_arm b.stem role x) b.arms some

  pub plays_taken : (told : Option ℕ) → 0 < length b.arms → IsTold b role told → PlaysTaken b role told init seed (run_taken b role told init seed codes)
  plays_taken told some is arrivals strings played =
      let place = place_taken b role told arrivals in
      let there = plays_there place (place_within_so told arrivals some is) in
      let run : run_taken b role told init seed codes arrivals ≡ without_place (run_bytes there.code init seed 0 arrivals) = ap without_place (run_is place there.code arrivals there.code_at) in (
        λ x.
            let same : Some x.arm ≡ Some there.arm = sym x.taken ∙ there.arm_at in
            let arm : x.arm ≡ there.arm = cc in
            let P : ProtocolValue → Type 0 = λ p. IsPlay p (role_number p.roles role) init seed 0 arrivals played in
            there.only arrivals strings played (subst P arm x.plays) ∙ sym run,
        λ e.
            let P : Played (List ℕ) → Type 0 = λ q. IsPlay there.arm (role_number there.arm.roles role) init seed 0 arrivals q in
            record { arm = there.arm; taken = there.arm_at; plays = subst P (sym (e ∙ run)) (there.plays arrivals strings) },
      )

  -- ---- up to the choice

  module _ (law : IsLawful b) (is_role : among (roles_in b) role ≡ true) (other : bytes_eq role b.chooser ≡ false) (free : list_any (is_free b.stem role) b.arms ≡ true) where
    abbrev R : Run
    R = run_taken b role None init seed codes

    abbrev begun : List (List ℕ) → ℕ
    begun arrivals = option_map_or (place_begun b role) (slice_get arrivals (stem_receives b role)) 0

    by_begun : (arrivals : List (List ℕ)) (place : ℕ) (code : CodeValue) → begun arrivals ≡ place → slice_get codes place ≡ Some code → R arrivals ≡ without_place (run_bytes code init seed 0 arrivals)
    by_begun arrivals place code is at =
        ap (λ f. without_place (run_at codes (if f then begun arrivals else 0) init seed arrivals)) free
        ∙ ap (λ k. without_place (run_at codes k init seed arrivals)) is
        ∙ ap without_place (run_is place code arrivals at)

    begun_few : (past : List (List ℕ)) → length past ≤ stem_receives b role → begun past ≡ 0
    begun_few past few = ap (λ o. option_map_or (place_begun b role) o 0) (slice_get_past past (stem_receives b role) few)

    some_arms : 0 < length b.arms
    some_arms = omega (arith, law.few)

    same_at : (place : ℕ) (code : CodeValue) → slice_get codes place ≡ Some code → place < length b.arms → (past : List (List ℕ)) → length past ≤ stem_receives b role → AllByRecursion IsBytes past
        → R past ≡ without_place (run_bytes code init seed 0 past)
    same_at place code at within past few strings =
        let first = plays_there 0 some_arms in
        let there = plays_there place within in
        let same : Some code ≡ Some there.code = sym at ∙ there.code_at in
        let code_is : code ≡ there.code = cc in
        let mine : R past ≡ without_place (run_bytes first.code init seed 0 past) = by_begun past 0 first.code (begun_few past few) first.code_at in
        let alike = arms_alike b role law (record { is_role = is_role; other = other; free = free }) place 0 there.arm first.arm there.arm_at first.arm_at init seed 0 past few
        (without_place (run_bytes there.code init seed 0 past)) (there.plays past strings) in
        mine ∙ sym (first.only past strings (without_place (run_bytes there.code init seed 0 past)) alike)
        ∙ ap (λ c. without_place (run_bytes c init seed 0 past)) (sym code_is)

    code_within : (place : ℕ) (code : CodeValue) → slice_get codes place ≡ Some code → place < length b.arms
    code_within place code at = omega (arith, slice_get_within codes place code at, long b.arms codes fit) where
      long : (arms : List ProtocolValue) (cs : List CodeValue) → AllZip Fitting arms cs → length cs ≡ length arms
      long [] [] z = refl
      long [] (c ∷ cs) z = absurd z
      long (p ∷ arms) [] z = absurd z
      long (p ∷ arms) (c ∷ cs) z = omega (arith, long arms cs z.1)

    begun_within : (arrivals : List (List ℕ)) → begun arrivals < length b.arms
    begun_within arrivals = by (slice_get arrivals (stem_receives b role)) where
      by : (o : Option (List ℕ)) → option_map_or (place_begun b role) o 0 < length b.arms
      by None = some_arms
      by (Some x) = chosen_within (begins_arm b.stem role x) b.arms some_arms

    pub agree_each : (place : ℕ) (code : CodeValue) → slice_get codes place ≡ Some code → AgreeUpTo (stem_receives b role) R (run_bytes code init seed 0)
    agree_each place code at past few strings = record {
      same = same_at place code at (code_within place code at) past few strings;
      grows = λ more.
          let k = begun (past ++ more) in
          let there = plays_there k (begun_within (past ++ more)) in
          let now = by_begun (past ++ more) k there.code refl there.code_at in
          let before = same_at k there.code there.code_at (begun_within (past ++ more)) past few strings in
          let g = grows_placeless (run_bytes there.code init seed 0 past) (run_bytes there.code init seed 0 (past ++ more)) more (bytes_grow there.code init seed past more) in
          let P : Played (List ℕ) → Type 0 = λ p. Grows p (R (past ++ more)) more in
          let Q : Played (List ℕ) → Type 0 = λ q. Grows (without_place (run_bytes there.code init seed 0 past)) q more in
          subst P (sym before) (subst Q (sym now) g);
    }

-- ---- where nothing is to be decided

pub run_told : (b : BranchedValue) (role : List ℕ) (init : List (List ℕ)) (seed : List ℕ) (codes : List CodeValue) (number : ℕ) (code : CodeValue) → slice_get codes (number - 1) ≡ Some code
    → (more : List (List ℕ)) → without_place (run_bytes code init seed 0 more) ≡ run_taken b role (Some number) init seed codes more
run_told b role init seed codes number code at more = sym (ap (λ o. without_place (option_map_or (λ c. run_bytes c init seed 0 more) o (ends done more))) at)

pub run_untold : (b : BranchedValue) (role : List ℕ) (init : List (List ℕ)) (seed : List ℕ) (codes : List CodeValue) (code : CodeValue) → list_any (is_free b.stem role) b.arms ≡ false → slice_get codes 0 ≡ Some code
    → (more : List (List ℕ)) → without_place (run_bytes code init seed 0 more) ≡ run_taken b role None init seed codes more
run_untold b role init seed codes code free at more =
    sym (ap (λ f. without_place (run_at codes (if f then option_map_or (place_begun b role) (slice_get more (stem_receives b role)) 0 else 0) init seed more)) free
    ∙ ap (λ o. without_place (option_map_or (λ c. run_bytes c init seed 0 more) o (ends done more))) at)
