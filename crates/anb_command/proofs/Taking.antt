-- The takes of a code, and what it is run with.
use Rattle.std.proofs.Common.{append-nil, append_assoc, ◌≡◌, ◌≢◌, ℕ, suc, ◌+◌, List, [], ◌∷◌, ◌++◌, take, slice_get, Option, Some, refl, ap, sym, ◌∙◌, subst, inl, inr, arith}
use Rattle.std.specs.Prelude.{AllPairs}
use Rattle.std.specs.List.{AllByRecursion}
use Rattle.std.proofs.lemmas.List.Elements.{filter_map-append}
use Rattle.anb_lemmas.proofs.Lists.{take_suc_got}
use Rattle.anb_base.specs.declared.TheConstants.{ARRIVAL, WIDE}
use Rattle.anb_code.specs.CodeValue.{CodeValue}
use Rattle.anb_code.specs.Taking.{take_texts, taken_text}
use Rattle.anb_code.specs.Verified.{EachAfter, IsInstrAfter, IsOtherTake, IsVerifiedCode}
use Rattle.anb_code.specs.declared.instr.Instr.{Instr}
use Rattle.anb_code.specs.declared.instr.Instr.TheVariants.{Take}
use Rattle.anb_format.specs.Formats.{FormatValue}
use Rattle.anb_protocol.proofs.Distinct.{AllApart, pairs}
use Rattle.anb_values.specs.declared.fitted.Fitted.{Fitted}
use Rattle.anb_status.specs.declared.status.Status.{Status}
use Rattle.anb_command.specs.Errands.{ErrandOf, draws}
use Rattle.anb_command.specs.Fetches.{Files, IfTold}
use Rattle.anb_command.specs.Files.{ValuesInFile}
use Rattle.anb_command.specs.Seeds.{SeedIs}
use Rattle.anb_command.specs.Steps.{refused, given}
use Rattle.anb_command.proofs.Chains.{told_map}

-- ---- the takes

-- copies of the first texts and of the next one
pub next_take : (texts : List (List ℕ)) (i : ℕ) (text : List ℕ) (names now : List (List ℕ)) → names ≡ take i texts → Some text ≡ slice_get texts i → now ≡ names ++ text ∷ [] → now ≡ take (i + 1) texts
next_take texts i text names now before there is =
    let e : suc i ≡ i + 1 = omega arith in
    is ∙ ap (λ (xs : List (List ℕ)). xs ++ text ∷ []) before ∙ sym (take_suc_got texts i text (sym there)) ∙ ap (λ n. take n texts) e

-- a take's text differs from those of the takes before it
apart : (text : List ℕ) (before : List Instr) → AllByRecursion (IsOtherTake text) before → AllByRecursion (λ (other : List ℕ). other ≢ text) (take_texts before)
apart text [] others = tt
apart text (Take other ∷ before) others = (others.0, apart text before others.1)
apart text (_ ∷ before) others = absurd others.0

-- texts that differ, and one more that differs from them
apart_more : (text : List ℕ) (texts : List (List ℕ)) → AllApart texts → AllByRecursion (λ (other : List ℕ). other ≢ text) texts → AllApart (texts ++ text ∷ [])
apart_more text [] differ other = (tt, tt)
apart_more text (x ∷ texts) differ other = (every texts differ.0, apart_more text texts differ.1 other.1) where
  every : (xs : List (List ℕ)) → AllByRecursion (λ (y : List ℕ). x ≢ y) xs → AllByRecursion (λ (y : List ℕ). x ≢ y) (xs ++ text ∷ [])
  every [] all = (other.0, tt)
  every (y ∷ ys) all = (all.0, every ys all.1)

-- the texts of a verified code's takes differ
takes_apart : (formats : List FormatValue) (before instrs : List Instr) → EachAfter (IsInstrAfter formats) before instrs → AllApart (take_texts before) → AllApart (take_texts (before ++ instrs))
takes_apart formats before [] each differ = subst (λ (is : List Instr). AllApart (take_texts is)) (sym (append-nil before)) differ
takes_apart formats before (instr ∷ instrs) each differ =
    subst (λ (is : List Instr). AllApart (take_texts is)) (append_assoc before (instr ∷ []) instrs) (takes_apart formats (before ++ instr ∷ []) instrs each.1 (with instr each.0)) where
      with : (i : Instr) → IsInstrAfter formats before i → AllApart (take_texts (before ++ i ∷ []))
      with (Take text) after = subst AllApart (sym (filter_map-append taken_text before (Take text ∷ []))) (apart_more text (take_texts before) differ (apart text before after.take))
      with i after = subst AllApart (sym (filter_map-append taken_text before (i ∷ []) ∙ append-nil (take_texts before))) differ

pub takes_differ : (code : CodeValue) → IsVerifiedCode ARRIVAL WIDE code → AllPairs (λ (one other : List ℕ). one ≢ other) (take_texts code.instrs)
takes_differ code verified = pairs (take_texts code.instrs) (takes_apart code.formats [] code.instrs verified.instrs tt)

-- ---- the errand

module _ (told : Option Files) (values : List ℕ) (host_seed : Option (List ℕ)) (code : CodeValue) (names : List (List ℕ)) (are : names ≡ take_texts code.instrs) where
  pub values_refused : (s : Status) → IfTold told (λ files. ValuesInFile files values names (refused s)) → IfTold told (λ files. ErrandOf files values host_seed code (refused s))
  values_refused s first = told_map told (λ files f. inl (s, subst (λ (ns : List (List ℕ)). ValuesInFile files values ns (refused s)) are f, refl)) first

  pub seed_refused : (fitted : Fitted) (s : Status) → IfTold told (λ files. ValuesInFile files values names (given fitted)) → SeedIs (draws code) fitted.seed host_seed (refused s)
      → IfTold told (λ files. ErrandOf files values host_seed code (refused s))
  seed_refused fitted s first next = told_map told (λ files f. inr (fitted, subst (λ (ns : List (List ℕ)). ValuesInFile files values ns (given fitted)) are f, inl (s, next, refl))) first

  pub errand_given : (fitted : Fitted) (seed : List ℕ) → IfTold told (λ files. ValuesInFile files values names (given fitted)) → SeedIs (draws code) fitted.seed host_seed (given seed)
      → IfTold told (λ files. ErrandOf files values host_seed code (given (record { code = code; initial = fitted.values; seed = seed })))
  errand_given fitted seed first next = told_map told (λ files f. inr (fitted, subst (λ (ns : List (List ℕ)). ValuesInFile files values ns (given fitted)) are f, inr (seed, next, refl))) first
