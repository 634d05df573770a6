-- Entries that are added.
use Rattle.std.proofs.Common.{◌≡◌, ℕ, zero, suc, ◌+◌, ◌-◌, ◌<◌, ◌≤◌, List, [], ◌∷◌, ◌++◌, length, map, drop, get_or, sym, ap, ◌∙◌, arith, append_assoc, length-append}
use Rattle.std.proofs.lemmas.List.{drop_more, length-map}
use Rattle.anb_term.specs.declared.term.Op.{Op}
use Rattle.anb_term.specs.declared.term.Term.{Term}
use Rattle.anb_term.specs.Tree.{Tree}
use Rattle.anb_term.specs.TreeSame.{term_of-tree_of}
use Rattle.anb_term.specs.View.{tree_of}
use Rattle.anb_close.specs.declared.entry.Entry.{Entry}
use Rattle.anb_close.specs.declared.entry.Origin.TheVariants.{Part}
use Rattle.anb_close.specs.Entries.{terms_of, part_entries, Extends, unopened}
use Rattle.anb_term.proofs.Lists.{map-append}

-- the index of one entry more
pub indexed_more : (es es' : List Entry) (e : Entry) (ts ts' : List Tree) → ts ≡ terms_of es → ts' ≡ ts ++ tree_of e.term ∷ [] → es' ≡ es ++ e ∷ [] → ts' ≡ terms_of es'
indexed_more es es' e ts ts' is more_t more_e = more_t ∙ ap (λ l. l ++ tree_of e.term ∷ []) is ∙ sym (ap terms_of more_e ∙ map-append (λ (x : Entry). tree_of x.term) es (e ∷ []))

pub extends_more : (es : List Entry) (fs : List ℕ) (es' : List Entry) (fs' : List ℕ) (es'' : List Entry) (fs'' : List ℕ) (more last : List Entry) → Extends es fs es' fs' more → Extends es' fs' es'' fs'' last → Extends es fs es'' fs'' (more ++ last)
extends_more es fs es' fs' es'' fs'' more last a b = record {
  entries = b.entries ∙ ap (λ l. l ++ last) a.entries ∙ append_assoc es more last;
  firsts = b.firsts ∙ ap (λ l. l ++ unopened last) a.firsts ∙ append_assoc fs (unopened more) (unopened last) ∙ ap (λ l. fs ++ l) (sym (map-append (λ (e : Entry). 0) more last));
}

pub extended_length : (es : List Entry) (fs : List ℕ) (es' : List Entry) (fs' : List ℕ) (more : List Entry) → Extends es fs es' fs' more → length es' ≡ length es + length more
extended_length es fs es' fs' more a = ap length a.entries ∙ length-append es more

drop_at : (xs : List Term) (j : ℕ) (x : Term) → j < length xs → x ≡ get_or xs j x → drop j (map tree_of xs) ≡ tree_of x ∷ drop (j + 1) (map tree_of xs)
drop_at xs j x h is = drop_more (map tree_of xs) j (tree_of x) (omega (arith, length-map xs tree_of)) ∙ ap (λ y. y ∷ drop (j + 1) (map tree_of xs)) (mapped_get xs j x h is)
  where
    mapped_get : (xs : List Term) (j : ℕ) (x : Term) → j < length xs → x ≡ get_or xs j x → get_or (map tree_of xs) j (tree_of x) ≡ tree_of x
    mapped_get [] j x h is = absurd (omega arith)
    mapped_get (y ∷ ys) zero x h is = ap tree_of (sym is)
    mapped_get (y ∷ ys) (suc j) x h is = mapped_get ys j x (omega arith) is

pub parts_on : (o : Op) (ks : List Tree) (i j k : ℕ) (xs : List Term) (x : Term) (more all : List Entry) → j < length xs → k ≤ j → x ≡ get_or xs j x
    → more ++ part_entries o ks i (j - k) (drop j (map tree_of xs)) ≡ all
    → (more ++ record { origin = Part o (j - k) ks i; term = x } ∷ []) ++ part_entries o ks i (j + 1 - k) (drop (j + 1) (map tree_of xs)) ≡ all
parts_on o ks i j k xs x more all h le is before =
    let n : j + 1 - k ≡ j - k + 1 = omega arith in
    let e : Entry = record { origin = Part o (j - k) ks i; term = x } in
    let same : part_entries o ks i (j - k) (tree_of x ∷ drop (j + 1) (map tree_of xs)) ≡ e ∷ part_entries o ks i (j + 1 - k) (drop (j + 1) (map tree_of xs)) =
    rw n (ap (λ t. record { origin = Part o (j - k) ks i; term = t } ∷ part_entries o ks i (j - k + 1) (drop (j + 1) (map tree_of xs))) (term_of-tree_of x)) in
    append_assoc more (e ∷ []) _ ∙ ap (λ l. more ++ l) (sym (ap (part_entries o ks i (j - k)) (drop_at xs j x h is) ∙ same)) ∙ before

pub next_part : (o : Op) (ks ks' : List Tree) (i j k k' : ℕ) (xs : List Term) (x x' : Term) (more all : List Entry) → j < length xs → k ≤ j → x ≡ get_or xs j x → k' ≡ k → ks' ≡ ks → x' ≡ x
    → more ++ part_entries o ks i (j - k) (drop j (map tree_of xs)) ≡ all
    → (more ++ record { origin = Part o (j - k') ks' i; term = x' } ∷ []) ++ part_entries o ks i (j + 1 - k) (drop (j + 1) (map tree_of xs)) ≡ all
next_part o ks ks' i j k k' xs x x' more all h le is ek eks ex before =
    rw (ek, eks, ex) (parts_on o ks i j k xs x more all h le is before)
