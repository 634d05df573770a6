-- The values that are drawn.
use Rattle.std.proofs.Common.{◌≡◌, ◌≤◌, ◌<◌, ◌+◌, ℕ, zero, suc, Bool, true, false, cond, List, [], ◌∷◌, ◌++◌, length, take, get_or, All, refl, sym, ap, ◌∙◌, arith}
use Rattle.std.specs.List.{AllByRecursion}
use Rattle.std.proofs.lemmas.List.{length-take-le}
use Rattle.std.proofs.lemmas.List.Elements.{All-from_recursion}
use Rattle.anb_lemmas.proofs.Each.{take_next}
use Rattle.anb_base.specs.declared.TheConstants.{ARRIVAL}
use Rattle.anb_seal.specs.Streams.{draw_of}
use Rattle.anb_protocol.specs.Checks.{names_agent}
use Rattle.anb_protocol.specs.Protocols.{ProtocolValue}
use Rattle.anb_values_commands.specs.ValuesCommand.{value_for, values_from}

module _ (p : ProtocolValue) (seed : List ℕ) where
  pub as_many : (i : ℕ) (names : List (List ℕ)) → length (values_from p seed i names) ≡ length names
  as_many i [] = refl
  as_many i (n ∷ names) = ap suc (as_many (i + 1) names)

  one_behind : (i : ℕ) (names : List (List ℕ)) (name : List ℕ) → values_from p seed i (names ++ name ∷ []) ≡ values_from p seed i names ++ value_for p seed (i + length names) name ∷ []
  one_behind i [] name = let same : i ≡ i + 0 = omega arith in ap (λ k. value_for p seed k name ∷ []) same
  one_behind i (n ∷ names) name =
      let same : i + 1 + length names ≡ i + suc (length names) = omega arith in
      ap (λ l. value_for p seed i n ∷ l) (one_behind (i + 1) names name)
      ∙ ap (λ k. value_for p seed i n ∷ values_from p seed (i + 1) names ++ value_for p seed k name ∷ []) same

  -- one value more
  pub values_next : (names : List (List ℕ)) (i : ℕ) (name : List ℕ) (values new : List (List ℕ)) (value : List ℕ) → i < length names → name ≡ get_or names i name
      → values ≡ values_from p seed 0 (take i names) → new ≡ values ++ value ∷ [] → value ≡ value_for p seed i name → new ≡ values_from p seed 0 (take (i + 1) names)
  values_next names i name values new value within at so_far pushed is =
      let count : 0 + length (take i names) ≡ i = omega (arith, length-take-le i names (omega (arith, within))) in
      pushed ∙ ap (λ l. l ++ value ∷ []) so_far ∙ ap (λ v. values_from p seed 0 (take i names) ++ v ∷ []) is
      ∙ ap (λ k. values_from p seed 0 (take i names) ++ value_for p seed k name ∷ []) (sym count)
      ∙ sym (one_behind 0 (take i names) name) ∙ ap (values_from p seed 0) (sym (take_next names i name within at))

  -- a name is short, and so is a draw
  value_short : ((j : ℕ) → length (draw_of seed 0 j) ≡ 32) → (i : ℕ) (name : List ℕ) → length name ≤ 64 → length (value_for p seed i name) ≤ ARRIVAL
  value_short draws i name short = by (names_agent p.atoms name) where
    by : (b : Bool) → length (cond b name (draw_of seed 0 i)) ≤ ARRIVAL
    by true = omega (arith, short)
    by false = omega (arith, draws i)

  each_short : ((j : ℕ) → length (draw_of seed 0 j) ≡ 32) → (i : ℕ) (names : List (List ℕ)) → AllByRecursion (λ (x : List ℕ). length x ≤ 64) names
      → AllByRecursion (λ (v : List ℕ). length v ≤ ARRIVAL) (values_from p seed i names)
  each_short draws i [] all = tt
  each_short draws i (n ∷ names) all = (value_short draws i n all.0, each_short draws (i + 1) names all.1)

  pub values_short : ((j : ℕ) → length (draw_of seed 0 j) ≡ 32) → (names : List (List ℕ)) → AllByRecursion (λ (x : List ℕ). length x ≤ 64) names
      → All (λ (v : List ℕ). length v ≤ ARRIVAL) (values_from p seed 0 names)
  values_short draws names all = All-from_recursion (λ (v : List ℕ). length v ≤ ARRIVAL) (values_from p seed 0 names) (each_short draws 0 names all)
