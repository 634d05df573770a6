-- Lists of places, and which entries' operands have come to compose.
use Rattle.std.specs.Prelude.{◌≡◌, ℕ, List, take, Option, Some, slice_get, ◌⊎◌}
use Rattle.anb_term.specs.declared.term.Op.{Op}
use Rattle.anb_term.specs.Tree.{Tree, node, Trees, trees_of, list_of}
use Rattle.anb_close.specs.Rows.{mades_for}

-- a place is listed
abbrev pub IsListed : List ℕ → ℕ → Type 0
IsListed ks i = (k : ℕ) × (slice_get ks k ≡ Some i)

-- of these later rows, each is listed whose first operands compose, so many of them, and that wasn't there before or whose first operands didn't compose
abbrev pub AreTouched : List (Option Tree) → List (Option Tree) → List ℕ → Type 0
AreTouched rs rs' ks = (i : ℕ) (o : Op) (us : Trees) (n : ℕ) (ms : Trees) → slice_get rs' i ≡ Some (Some (node o us)) → mades_for rs' (trees_of (take n (list_of us))) ≡ Some ms
    → (slice_get rs i ≡ Some (Some (node o us))) × (mades_for rs (trees_of (take n (list_of us))) ≡ Some ms) ⊎ IsListed ks i
