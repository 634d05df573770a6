-- What it is for a reader to read a category of the grammar.
use Rattle.std.specs.Prelude.{◌≡◌, ℕ, ◌+◌, ◌<◌, List, [], ◌∷◌, ◌++◌, Bool, true, false, Result, Ok, Err, if◌then◌else◌}
use Rattle.anb_read.specs.declared.refusal.ReadNo.{ReadNo}
use Rattle.anb_read.specs.declared.refusal.ReadNo.TheVariants.{Deep}
use Rattle.anb_syntax.specs.Words.{Word, Tok, head, Begins}
use Rattle.anb_read.specs.Productions.{fault, begins_term, is_open, is_close}

-- the parentheses that are opened, and that are closed
abbrev pub opens : List Word → ℕ
opens [] = 0
opens (x ∷ xs) = (if is_open x then 1 else 0) + opens xs

abbrev pub closes : List Word → ℕ
closes [] = 0
closes (x ∷ xs) = (if is_close x then 1 else 0) + closes xs

-- no term in these words begins deeper than the levels that are left
abbrev pub Shallow : ℕ → List Word → Type 0
Shallow levels words = (front : List Word) (x : Word) (more : List Word) → words ≡ front ++ x ∷ more → begins_term x ≡ true → opens front < closes front + levels

-- these words, where levels are left, lead to a term for which none is
pub record TooDeep (levels : ℕ) (front : List Word) (x : Word) (more : List Word) : Type 0 where
  pub starts : begins_term x ≡ true
  pub nested : opens front ≡ closes front + levels
  pub others : List Word
  pub goes_on : more ≡ x ∷ others

abbrev pub IfDeep : Bool → Type 0 → Type 0
IfDeep true T = T
IfDeep false T = Unit {0}

module _ {A : Type 0} (levels : ℕ) (p : List Tok → Result (A × List Tok) ReadNo) (Valid : A → Type 0) (words : A → List Word) where
  -- A refusal: the words before it begin a value, and whatever begins with them and the refused one is refused there.
  pub record Refuses (w : List Tok) (f : ReadNo) : Type 0 where
    pub front : List Word
    pub rest : List Tok
    pub begins : Begins w front rest
    pub is_deep : Bool
    pub is : f ≡ fault is_deep rest
    pub value : A
    pub valid : Valid value
    pub more : List Word
    pub completes : words value ≡ front ++ more
    pub shallow : Shallow levels front
    pub level : IfDeep is_deep (TooDeep levels front (head rest) more)
    pub alike : (v others : List Tok) → Begins v front others → head others ≡ head rest → p v ≡ Err (fault is_deep others)

-- a value that fits in the levels is read, and another one is too deep
abbrev pub Again : {A : Type 0} → Bool → Result (A × List Tok) ReadNo → A → List Tok → Type 0
Again true out v rest = out ≡ Ok (v, rest)
Again false out v rest = (at : ℕ) × (out ≡ Err (Deep at))

module _ {A : Type 0} (before after : ℕ) (p : List Tok → Result (A × List Tok) ReadNo) (Valid : A → Type 0) (fits : A → Bool) (words : A → List Word) (stops : A → Word → Bool) where
  pub record IsRead (w : List Tok) (v : A) (rest : List Tok) : Type 0 where
    pub valid : Valid v
    pub fit : fits v ≡ true
    pub begins : Begins w (words v) rest
    pub stop : stops v (head rest) ≡ true
    pub shallow : Shallow before (words v)

  -- The reader reads these values by these words, and no others, up to a word at which it stops.
  pub record Reads : Type 0 where
    pub sound : (w : List Tok) (v : A) (rest : List Tok) → p w ≡ Ok (v, rest) → IsRead w v rest
    pub again : (w : List Tok) (v : A) (rest : List Tok) → Valid v → Begins w (words v) rest → stops v (head rest) ≡ true → Again (fits v) (p w) v rest
    pub refused : (w : List Tok) (f : ReadNo) → p w ≡ Err f → Refuses before p Valid words w f
    pub balanced : (v : A) → Valid v → opens (words v) + after ≡ closes (words v) + before
    pub some : A
    pub is_valid : Valid some
