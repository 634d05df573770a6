-- The first number that passes, and what doesn't open.
use Rattle.std.proofs.Common.{◌≡◌, ◌<◌, ℕ, zero, suc, List, [], ◌∷◌, length, Bool, true, false, cond, Option, Some, None, option_map, refl, sym, ap, ◌∙◌, arith, inl, inr}
use Rattle.std.specs.Prelude.{◌&&◌, is_some, nat_lt, option_and_then, slice_get}
use Rattle.std.proofs.lemmas.Bool.{cases_lt}
use Rattle.std.proofs.lemmas.Bool.Decides.{nat_tests}
use Rattle.std.proofs.lemmas.Option.{slice_get_past}
use Rattle.anb_base.specs.declared.content.Suite.{Suite}
use Rattle.anb_term.specs.declared.term.Op.{Op}
use Rattle.anb_term.specs.declared.term.Op.TheVariants as op
use Rattle.anb_term.specs.Lawful.{picked}
use Rattle.anb_term.specs.Value.{Meaning}
use Rattle.anb_term.proofs.Lists.{slice_get-there}
use Rattle.anb_format.specs.Formats.{FormatValue}
use Rattle.anb_algebra.specs.ByteMeaning.{undone_bytes}
use Rattle.anb_plays.specs.Codes.{undo}
use Rattle.anb_plays.specs.Exec.{worked}
use Rattle.anb_trace.specs.Openers.{first_below}

-- ---- the first number that passes

first_is : (p : ℕ → Bool) (i n : ℕ) → first_below p i ≡ None → p i ≡ true → i < n → first_below p n ≡ Some i
first_is p i zero before passes below = absurd (omega (arith, below))
first_is p i (suc n) before passes below = elim (cases_lt i n) [
  | inl less ↦ rw (first_is p i n before passes less) refl
  | inr most ↦ let e : n ≡ i = omega (arith, below, most) in rw (e, before, passes) refl
]

marked_is : (t : Bool) (i k : ℕ) → Some k ≡ cond t (Some i) None → (t ≡ true) × (k ≡ i)
marked_is true i k e = (refl, cc)
marked_is false i k e = cc

-- a marked one that opens, where none before it does
pub first_marked : (used opening : ℕ → Bool) (i k count : ℕ) → Some k ≡ cond (used i) (Some i) None → opening k ≡ true → first_below (λ r. used r && opening r) i ≡ None → i < count
    → Some k ≡ first_below (λ r. used r && opening r) count
first_marked used opening i k count mark opens before below =
    let is = marked_is (used i) i k mark in
    let here : opening i ≡ true = ap opening (sym is.1) ∙ opens in
    ap Some is.1 ∙ sym (first_is (λ r. used r && opening r) i count before (rw (is.0, here) refl) below)

-- ---- what doesn't open, and what does

pub absent : {A : Type 0} (table : List A) (r : ℕ) → nat_lt r (length table) ≡ false → slice_get table r ≡ None
absent table r none = slice_get_past table r (grind (arith, nat_tests))

pub there : {A : Type 0} (table : List A) (r : ℕ) → nat_lt r (length table) ≡ true → (v : A) × (slice_get table r ≡ Some v)
there table r some = slice_get-there table r (grind (arith, nat_tests))

-- with keys that aren't there
module _ (formats : List FormatValue) (suite : Suite) (table : List (List ℕ)) where
  pub without_key : (k : ℕ) (c : List ℕ) → slice_get table k ≡ None → undone_bytes formats suite op.Seal (picked table (k ∷ [])) c ≡ None
  without_key k c none = rw none refl

  pub without_wrap_key : (k d : ℕ) (c : List ℕ) (x : Option (List ℕ)) → slice_get table k ≡ None → slice_get table d ≡ x → undone_bytes formats suite op.Wrap (picked table (k ∷ d ∷ [])) c ≡ None
  without_wrap_key k d c None none is = rw (none, is) refl
  without_wrap_key k d c (Some v) none is = rw (none, is) refl

  pub without_context : (k d : ℕ) (c : List ℕ) (x : Option (List ℕ)) → slice_get table d ≡ None → slice_get table k ≡ x → undone_bytes formats suite op.Wrap (picked table (k ∷ d ∷ [])) c ≡ None
  without_context k d c None none is = rw (is, none) refl
  without_context k d c (Some v) none is = rw (is, none) refl

-- over the same formats in the same suite
pub undone_alike : (fs gs : List FormatValue) (s t : Suite) (o : Op) (keys : List (List ℕ)) (c : List ℕ) → fs ≡ gs → s ≡ t → undone_bytes fs s o keys c ≡ undone_bytes gs t o keys c
undone_alike fs gs s t o keys c formats suite =
    ap (λ (x : List FormatValue). undone_bytes x s o keys c) formats ∙ ap (λ (x : Suite). undone_bytes gs x o keys c) suite

some_is : {A B : Type 0} (f : A → B) (o : Option A) → is_some (option_map f o) ≡ is_some o
some_is f None = refl
some_is f (Some x) = refl

module _ {A : Type 0} (m : Meaning A) (table : List A) (o : Op) (keys : List ℕ) (of : ℕ) where
  pub nothing_there : slice_get table of ≡ None → is_some (worked m table (undo o keys of)) ≡ false
  nothing_there none = rw none refl

  pub stays_closed : ((v : A) → m.undone o (picked table keys) v ≡ None) → is_some (worked m table (undo o keys of)) ≡ false
  stays_closed none = by (slice_get table of) where
    by : (x : Option A) → is_some (option_and_then (m.undone o (picked table keys)) x) ≡ false
    by None = refl
    by (Some v) = rw (none v) refl

  pub opens_as : {B : Type 0} (f : B → List A) (parts : Option B) (v : A) → slice_get table of ≡ Some v → option_map f parts ≡ m.undone o (picked table keys) v
      → is_some parts ≡ is_some (worked m table (undo o keys of))
  opens_as f parts v there undone = rw (there, sym undone) (sym (some_is f parts))
