-- Openings, given in order.
use Rattle.std.proofs.Common.{◌≡◌, ℕ, zero, suc, ◌+◌, ◌<◌, ◌≤◌, List, [], ◌∷◌, ◌++◌, length, map, drop, get_or, Bool, true, false, Some, refl, sym, ap, ◌∙◌, arith, append_assoc}
use Rattle.std.specs.Prelude.{slice_get}
use Rattle.std.proofs.lemmas.List.{drop_more, drop_all, append-nil}
use Rattle.anb_lemmas.proofs.Each.{each_in_both}
use Rattle.anb_term.specs.declared.term.Op.{Op}
use Rattle.anb_term.specs.Tree.{Tree}
use Rattle.anb_close.specs.declared.entry.Entry.{Entry}
use Rattle.anb_close.specs.declared.entry.Opening.{Opening}
use Rattle.anb_close.specs.declared.entry.Origin.{Origin}
use Rattle.anb_close.specs.declared.entry.Origin.TheVariants.{Label, Part}
use Rattle.anb_close.specs.Entries.{opening_at, openings_from}
use Rattle.anb_basis.specs.declared.check.Check.{Check}
use Rattle.anb_basis.specs.declared.check.Check.TheVariants.{Open}
use Rattle.anb_basis.specs.Checks.{IsEqual, AfterEquals, InOrder}

pub label_none : (f n : ℕ) (x : Origin) → x ≡ Label n → opening_at f x ≡ []
label_none f n x is = ap (opening_at f) is

later_none : (f : ℕ) (o : Op) (j : ℕ) (ks : List Tree) (i : ℕ) → (j ≡ 0 → ⊥) → opening_at f (Part o j ks i) ≡ []
later_none f o zero ks i h = absurd (h refl)
later_none f o (suc j) ks i h = refl

pub part_none : (f : ℕ) (x : Origin) (o : Op) (j : ℕ) (ks : List Tree) (i : ℕ) → x ≡ Part o j ks i → (j ≡ 0 → ⊥) → opening_at f x ≡ []
part_none f x o j ks i is h = ap (opening_at f) is ∙ later_none f o j ks i h

pub part_one : (f : ℕ) (x : Origin) (o : Op) (j : ℕ) (ks ls : List Tree) (i : ℕ) → x ≡ Part o j ks i → j ≡ 0 → ls ≡ ks → opening_at f x ≡ record { op = o; keys = ls; of = i; first = f } ∷ []
part_one f x o j ks ls i is z same =
    let mk : List Tree → List Opening = λ l. record { op = o; keys = l; of = i; first = f } ∷ [] in
    ap (opening_at f) is ∙ ap (λ n. opening_at f (Part o n ks i)) z ∙ ap mk (sym same)

module _ (es : List Entry) (f : ℕ) (x : Entry) (h : f < length es) (own : x ≡ get_or es f x) where
  openings_here : openings_from f (drop f es) ≡ opening_at f x.origin ++ openings_from (f + 1) (drop (f + 1) es)
  openings_here = ap (openings_from f) (drop_more es f x h ∙ ap (λ y. y ∷ drop (f + 1) es) (sym own))

  pub listed_skip : (cs to : List Check) → opening_at f x.origin ≡ [] → cs ++ map Open (openings_from f (drop f es)) ≡ to → cs ++ map Open (openings_from (f + 1) (drop (f + 1) es)) ≡ to
  listed_skip cs to none before = ap (λ l. cs ++ map Open (l ++ openings_from (f + 1) (drop (f + 1) es))) (sym none) ∙ ap (λ l. cs ++ map Open l) (sym openings_here) ∙ before

  pub listed_take : (cs cs' to : List Check) (y : Opening) → opening_at f x.origin ≡ y ∷ [] → cs' ≡ cs ++ Open y ∷ [] → cs ++ map Open (openings_from f (drop f es)) ≡ to → cs' ++ map Open (openings_from (f + 1) (drop (f + 1) es)) ≡ to
  listed_take cs cs' to y one is before =
      let rest = openings_from (f + 1) (drop (f + 1) es) in
      ap (λ l. l ++ map Open rest) is ∙ append_assoc cs (Open y ∷ []) (map Open rest) ∙ ap (λ l. cs ++ map Open (l ++ rest)) (sym one) ∙ ap (λ l. cs ++ map Open l) (sym openings_here) ∙ before

pub listed_all : (es : List Entry) (f : ℕ) (cs to : List Check) → length es ≤ f → cs ++ map Open (openings_from f (drop f es)) ≡ to → cs ≡ to
listed_all es f cs to h before = sym (append-nil cs) ∙ ap (λ l. cs ++ map Open (openings_from f l)) (sym (drop_all f es h)) ∙ before

pub not_true : (ms : List Bool) (i : ℕ) → i < length ms → (slice_get ms i ≡ Some true → ⊥) → slice_get ms i ≡ Some false
not_true [] i h never = absurd (omega arith)
not_true (true ∷ ms) zero h never = absurd (never refl)
not_true (false ∷ ms) zero h never = refl
not_true (m ∷ ms) (suc i) h never = not_true ms i (omega arith) never

-- comparisons, one after another
pub no_equals : (cs : List Check) → AfterEquals cs cs
no_equals cs = ([], tt, sym (append-nil cs))

pub more_equals : (cs ds ds' : List Check) → AfterEquals cs ds → AfterEquals ds ds' → AfterEquals cs ds'
more_equals cs ds ds' a b = (a.0 ++ b.0, each_in_both IsEqual a.0 b.0 a.1 b.1, b.2 ∙ ap (λ l. l ++ b.0) a.2 ∙ append_assoc cs a.0 b.0)

pub in_order : (n m : ℕ) (es es' : List Entry) (cs ds cs' : List Check) → n ≡ m → es ≡ es' → ds ≡ cs ++ map Open (openings_from n (drop n es)) → AfterEquals ds cs' → InOrder m es' cs cs'
in_order n m es es' cs ds cs' en ee listed a =
    let same : openings_from n (drop n es) ≡ openings_from m (drop m es') = ap (λ k. openings_from k (drop k es)) en ∙ ap (λ l. openings_from m (drop m l)) ee in
    record {
      equals = a.0;
      are = a.1;
      is = a.2 ∙ ap (λ l. l ++ a.0) (listed ∙ ap (λ l. cs ++ map Open l) same) ∙ append_assoc cs (map Open (openings_from m (drop m es'))) a.0;
    }
