-- The texts of the takes, with one more instruction.
use Rattle.std.proofs.Common.{◌≡◌, ◌&&◌, ◌||◌, not, Bool, true, false, cond, ℕ, List, [], ◌∷◌, ◌++◌, Option, Some, sym, ap, ◌∙◌}
use Rattle.std.proofs.Math.Bool.{or-true}
use Rattle.std.specs.Option.{is_some}
use Rattle.std.specs.List.{list_any}
use Rattle.std.specs.Str.{bytes_eq}
use Rattle.std.proofs.lemmas.List.Folds.{list_any-append}
use Rattle.anb_lemmas.proofs.Bools.{or_false}
use Rattle.anb_code.specs.RawValue.{RawInstrValue}
use Rattle.anb_code.specs.Table.{is_take, is_taken}

abbrev takes_text : List ℕ → RawInstrValue → Bool
takes_text text earlier = is_take earlier.what && bytes_eq earlier.name text

pub taken_is : (before : List RawInstrValue) (instr : RawInstrValue) (text : List ℕ) (r : Bool) → r ≡ list_any (takes_text text) before → text ≡ instr.name → is_take instr.what ≡ true → r ≡ is_taken before instr
taken_is before instr text r h e take = h ∙ ap (λ t. list_any (takes_text t) before) e ∙ sym (ap (λ b. b && list_any (takes_text instr.name) before) take)

pub others_push : (before : List RawInstrValue) (x : RawInstrValue) → is_take x.what ≡ true
    → list_any (λ (earlier : RawInstrValue). not (is_take earlier.what)) (before ++ x ∷ []) ≡ list_any (λ (earlier : RawInstrValue). not (is_take earlier.what)) before
others_push before x take =
    list_any-append (λ (earlier : RawInstrValue). not (is_take earlier.what)) before (x ∷ [])
    ∙ ap (λ b. list_any (λ (earlier : RawInstrValue). not (is_take earlier.what)) before || (not b || false)) take ∙ or_false _

pub texts_push : {V : Type 0} (before : List RawInstrValue) (x : RawInstrValue) (name text : List ℕ) (v : V) (o : Option V) → name ≡ x.name → is_take x.what ≡ true → is_some o ≡ list_any (takes_text text) before
    → is_some (cond (bytes_eq name text) (Some v) o) ≡ list_any (takes_text text) (before ++ x ∷ [])
texts_push before x name text v o e take h =
    by (bytes_eq name text) ∙ ap (λ b. b || bytes_eq name text) h
    ∙ sym (list_any-append (takes_text text) before (x ∷ []) ∙ ap (λ b. list_any (takes_text text) before || (b && bytes_eq x.name text || false)) take ∙ ap (λ n. list_any (takes_text text) before || (bytes_eq n text || false)) (sym e) ∙ ap (λ b. list_any (takes_text text) before || b) (or_false (bytes_eq name text))) where
      by : (b : Bool) → is_some (cond b (Some v) o) ≡ (is_some o || b)
      by true = sym (or-true (is_some o))
      by false = sym (or_false (is_some o))
