-- Names among those that are asked for.
use Rattle.std.proofs.Common.{◌≡◌, ℕ, ◌+◌, ◌<◌, List, [], ◌∷◌, ◌++◌, map, Bool, true, false, cond, Some, None, refl, sym, ap, ◌∙◌, subst, arith}
use Rattle.std.specs.Prelude.{◌==◌, ◌||◌}
use Rattle.std.specs.List.{AllByRecursion}
use Rattle.std.proofs.lemmas.Bool.Decides.{nat_tests}
use Rattle.anb_lemmas.proofs.Each.{each_and_last, each_by}
use Rattle.anb_term.specs.Tree.{Tree}
use Rattle.anb_code.specs.Uses.{is_among}
use Rattle.anb_protocol.specs.Protocols.{ProtocolValue}
use Rattle.anb_draws.specs.Telling.{AreOpen, IsHad, name_of, value_among}
use Rattle.anb_draws.specs.declared.draws.Drawn.{Drawn}

last_among : (names : List ℕ) (name : ℕ) → is_among (names ++ name ∷ []) name ≡ true
last_among [] name = let same : (name == name) ≡ true = grind (arith, nat_tests) in ap (λ b. b || false) same
last_among (x ∷ names) name = by (x == name) (last_among names name) where
  by : (b : Bool) → is_among (names ++ name ∷ []) name ≡ true → (b || is_among (names ++ name ∷ []) name) ≡ true
  by true later = refl
  by false later = later

front_apart : (names more : List ℕ) (name : ℕ) → is_among (names ++ more) name ≡ false → is_among names name ≡ false
front_apart [] more name apart = refl
front_apart (x ∷ names) more name apart = by (x == name) (front_apart names more name) apart where
  by : (b : Bool) → (is_among (names ++ more) name ≡ false → is_among names name ≡ false) → (b || is_among (names ++ more) name) ≡ false → (b || is_among names name) ≡ false
  by true later apart = apart
  by false later apart = later apart

-- a name that has no value is none of those that have one
pub untold_apart : (draws : List Drawn) (name : ℕ) → value_among draws name ≡ None → is_among (map name_of draws) name ≡ false
untold_apart [] name none = refl
untold_apart (d ∷ draws) name none = by (d.name == name) (untold_apart draws name) none where
  by : (b : Bool) → (value_among draws name ≡ None → is_among (map name_of draws) name ≡ false) → cond b (Some d.value) (value_among draws name) ≡ None → (b || is_among (map name_of draws) name) ≡ false
  by true later none = let never = none in cc
  by false later none = later none

-- and has none in a part of them
pub untold_parts : (xs ys : List Drawn) (name : ℕ) → value_among (xs ++ ys) name ≡ None → (value_among xs name ≡ None) × (value_among ys name ≡ None)
untold_parts [] ys name none = (refl, none)
untold_parts (d ∷ xs) ys name none = by (d.name == name) (untold_parts xs ys name) none where
  by : (b : Bool) → (value_among (xs ++ ys) name ≡ None → (value_among xs name ≡ None) × (value_among ys name ≡ None)) → cond b (Some d.value) (value_among (xs ++ ys) name) ≡ None
      → (cond b (Some d.value) (value_among xs name) ≡ None) × (value_among ys name ≡ None)
  by true later none = let never = none in cc
  by false later none = later none

module _ (p : ProtocolValue) (frame : List Tree) (known : List Drawn) (i : ℕ) (names : List ℕ) (is : AreOpen p frame known i names) where
  wider : AllByRecursion (λ name. name < i + 1) names
  wider = each_by (λ name. name < i) (λ name. name < i + 1) (λ name h. omega (arith, h)) names is.within

  -- the next name is one of them
  pub open_more : IsHad p frame i → AreOpen p frame known (i + 1) (names ++ i ∷ [])
  open_more had = record {
    within = each_and_last (λ name. name < i + 1) names i wider (omega arith);
    had = each_and_last (IsHad p frame) names i is.had had;
    others = λ name less none apart. by name (name == i) refl less none apart;
  } where
    by : (name : ℕ) (b : Bool) → (name == i) ≡ b → name < i + 1 → value_among known name ≡ None → is_among (names ++ i ∷ []) name ≡ false → IsHad p frame name → ⊥
    by name true e less none apart has =
        let same : name ≡ i = grind (arith, nat_tests, e) in
        let never : true ≡ false = sym (last_among names i) ∙ subst (λ x. is_among (names ++ i ∷ []) x ≡ false) same apart in cc
    by name false e less none apart has =
        let before : name < i = grind (arith, nat_tests, e, less) in
        is.others name before none (front_apart names (i ∷ []) name apart) has

  -- or it isn't
  pub open_same : (value_among known i ≡ None → IsHad p frame i → ⊥) → AreOpen p frame known (i + 1) names
  open_same hidden = record {
    within = wider;
    had = is.had;
    others = λ name less none apart. by name (name == i) refl less none apart;
  } where
    by : (name : ℕ) (b : Bool) → (name == i) ≡ b → name < i + 1 → value_among known name ≡ None → is_among names name ≡ false → IsHad p frame name → ⊥
    by name true e less none apart has =
        let same : name ≡ i = grind (arith, nat_tests, e) in
        hidden (subst (λ x. value_among known x ≡ None) same none) (subst (IsHad p frame) same has)
    by name false e less none apart has =
        let before : name < i = grind (arith, nat_tests, e, less) in
        is.others name before none apart has
