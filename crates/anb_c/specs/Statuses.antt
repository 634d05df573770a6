-- What the statuses of anb.h say.
use Rattle.std.specs.Prelude.{◌≡◌, ◌⊎◌, ◌≤◌, ◌<◌, ℕ, ℤ, pos, List, [], ◌∷◌, length, take, codes, if◌then◌else◌}
use Rattle.std.specs.Ordering.{int_eq}

-- each status, and its text
abbrev pub texts : List (ℕ × List ℕ)
texts = (0, codes "done")
    ∷ (3, codes "a text is too long")
    ∷ (4, codes "the narration can't be read, or isn't well formed")
    ∷ (5, codes "no role has this name")
    ∷ (6, codes "a role can't compose a message")
    ∷ (7, codes "the values don't fit the role file")
    ∷ (8, codes "no seed")
    ∷ (10, codes "a check failed")
    ∷ (11, codes "waiting for an arrival")
    ∷ (13, codes "the arrival is too large")
    ∷ (16, codes "the role file can't be read, or its code isn't accepted")
    ∷ (30, codes "the record isn't one of this role file and key, or its session doesn't wait")
    ∷ (99, codes "no memory")
    ∷ (100, codes "a message")
    ∷ (101, codes "the buffer is too short")
    ∷ (102, codes "the call doesn't fit where the session stands") ∷ []

abbrev pub text_among : List (ℕ × List ℕ) → ℤ → List ℕ
text_among [] status = codes "no such status"
text_among (row ∷ rows) status = if int_eq status (pos row.0) then row.1 else text_among rows status

-- what a number says: that of its row, or that it is no status
abbrev pub text_of : ℤ → List ℕ
text_of = text_among texts

-- a text is in the caller's buffer; or that is too short, and as it was
abbrev pub IsCopied : (text : List ℕ) (status : ℤ) (out out_now : List ℕ) (written : ℕ) → Type 0
IsCopied text status out out_now written =
    ((status ≡ pos 0) × (written ≤ length out_now) × (take written out_now ≡ text))
    ⊎ ((status ≡ pos 101) × (length out_now < written) × (out_now ≡ out) × (written ≡ length text))
