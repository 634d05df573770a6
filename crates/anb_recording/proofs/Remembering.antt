-- The last file of a name among those that were kept.
use Rattle.std.proofs.Common.{◌≡◌, ◌<◌, ◌+◌, ℕ, Bool, true, false, List, length, take, get_or, Option, Some, None, refl, sym, ap, ◌∙◌}
use Rattle.std.specs.Prelude.{IfSome, bytes_eq, if◌then◌else◌}
use Rattle.std.specs.Option.{option_map}
use Rattle.anb_lemmas.proofs.Each.{take_next}
use Rattle.anb_store.specs.Memory.{files_after}
use Rattle.anb_store.proofs.Kept.{files_after_then}

abbrev pub no_files : List ℕ → Option (List ℕ)
no_files name = None

pub kept_next : (kept : List (List ℕ × List ℕ)) (i : ℕ) (file : List ℕ × List ℕ) (name : List ℕ) → i < length kept → file ≡ get_or kept i file
    → files_after no_files (take (i + 1) kept) name ≡ (if bytes_eq name file.0 then Some file.1 else files_after no_files (take i kept) name)
kept_next kept i file name within is =
    ap (λ (l : List (List ℕ × List ℕ)). files_after no_files l name) (take_next kept i file within is)
    ∙ ap (λ (f : List ℕ → Option (List ℕ)). f name) (files_after_then no_files (take i kept) file.0 file.1)

-- where its name is this one, and where it isn't
pub next_same : (b : Bool) (A : Type 0) (x y : A) → b ≡ true → (if b then x else y) ≡ x
next_same b A x y is = rw is refl

pub next_other : (b : Bool) (A : Type 0) (x y : A) → b ≡ false → (if b then x else y) ≡ y
next_other b A x y is = rw is refl

pub some_of : {A : Type 0} (f : A → List ℕ) (o : Option A) (r : Option (List ℕ)) → option_map f o ≡ r → IfSome o (λ x. r ≡ Some (f x))
some_of f None r is = tt
some_of f (Some x) r is = sym is
