-- Reading is exact.
use Rattle.std.proofs.Common.{◌≡◌, ℕ, zero, suc, ◌+◌, ◌≤◌, ◌<◌, List, [], ◌∷◌, ◌++◌, length, map, Bool, true, false, Result, Ok, Err, refl, sym, ap, ◌∙◌, subst, inl, inr, ◌⊎◌, arith, append_assoc, cond}
use Rattle.std.proofs.lemmas.List.{append-nil}
use Rattle.anb_syntax.specs.Words.{Word, Tok, head, place, Begins}
use Rattle.anb_syntax.specs.Grammar.{Written, spell}
use Rattle.anb_read.specs.declared.refusal.ReadNo.{ReadNo}
use Rattle.anb_read.specs.declared.refusal.ReadNo.TheVariants.{Token, Grammar, Deep}
use Rattle.anb_read.specs.Productions.{is_bad, fault, begins_term, narration_at}
use Rattle.anb_read.proofs.Readers.{opens, closes, Shallow, TooDeep, IfDeep, Refuses, Again, IsRead, Reads}
use Rattle.anb_syntax.specs.Text.{Continues, IsViable}
use Rattle.anb_read.proofs.Parts.{always}
use Rattle.anb_read.proofs.Whole.{IsWritten, fits_written, reads_narration}

-- the tokens are those of the narration, up to the end, and no term is too deep
pub record IsText (levels : ℕ) (n : Written) (w rest : List Tok) : Type 0 where
  pub valid : IsWritten n
  pub fit : fits_written levels n ≡ true
  pub begins : Begins w (spell n) rest

-- The word is refused behind these words: as the first word of a term that is too deep, or as one that no narration goes on with.
abbrev pub IsRefusedAs : ℕ → Bool → List Word → Word → Type 0
IsRefusedAs levels true front x = Continues front x × (begins_term x ≡ true) × (opens front ≡ closes front + levels)
IsRefusedAs levels false front x = IsViable front × (Continues front x → ⊥)

pub record IsRefused (levels : ℕ) (deep : Bool) (w : List Tok) (front : List Word) (rest : List Tok) : Type 0 where
  pub begins : Begins w front rest
  pub why : IsRefusedAs levels deep front (head rest)

-- the first refusal
pub record IsFirst (levels : ℕ) (deep : Bool) (w : List Tok) (front : List Word) (rest : List Tok) : Type 0 where
  pub refused : IsRefused levels deep w front rest
  pub first : (other : Bool) (before : List Word) (after : List Tok) → IsRefused levels other w before after → length front ≤ length before

abbrev as_tok : Word → Tok
as_tok x = record { word = x; at = 0 }

abbrev pub as_toks : List Word → List Tok
as_toks xs = map as_tok xs

begins_as : (a b : List Word) → Begins (as_toks (a ++ b)) a (as_toks b)
begins_as [] b = refl
begins_as (x ∷ a) b = (refl, begins_as a b)

as_begins : (c a b : List Word) → c ≡ a ++ b → Begins (as_toks c) a (as_toks b)
as_begins c a b e = let P : List Word → Type 0 = λ d. Begins (as_toks d) a (as_toks b) in subst P (sym e) (begins_as a b)

whole_as : (a : List Word) → Begins (as_toks a) a []
whole_as [] = refl
whole_as (x ∷ a) = (refl, whole_as a)

-- what follows the shorter of two beginnings
pub next_in : (a b : List Word) (w r s : List Tok) → Begins w a r → Begins w b s → length a < length b → (c : List Word) × (b ≡ a ++ head r ∷ c)
next_in a [] w r s g h lt = absurd (omega arith)
next_in [] (y ∷ b) [] r s g h lt = absurd h
next_in [] (y ∷ b) (t ∷ w) r s g h lt = (b, ap (λ z. z ∷ b) (sym h.0 ∙ ap head g))
next_in (x ∷ a) (y ∷ b) [] r s g h lt = absurd g
next_in (x ∷ a) (y ∷ b) (t ∷ w) r s g h lt =
    let k = next_in a b w r s g.1 h.1 (omega arith) in
    (k.0, ap (λ z. z ∷ b) (sym h.0 ∙ g.0) ∙ ap (λ (zs : List Word). x ∷ zs) k.1)

pub rest_in : (a b : List Word) (w r s : List Tok) → Begins w a r → Begins w b s → length a ≤ length b → (c : List Word) × (b ≡ a ++ c)
rest_in [] b w r s g h le = (b, refl)
rest_in (x ∷ a) [] w r s g h le = absurd (omega arith)
rest_in (x ∷ a) (y ∷ b) [] r s g h le = absurd g
rest_in (x ∷ a) (y ∷ b) (t ∷ w) r s g h le =
    let k = rest_in a b w r s g.1 h.1 (omega arith) in
    (k.0, ap (λ z. z ∷ b) (sym h.0 ∙ g.0) ∙ ap (λ (zs : List Word). x ∷ zs) k.1)

pub same_cut : (a b : List Word) (w r s : List Tok) → Begins w a r → Begins w b s → length a ≡ length b → (a ≡ b) × (r ≡ s)
same_cut [] [] w r s g h e = (refl, sym g ∙ h)
same_cut [] (y ∷ b) w r s g h e = absurd (omega arith)
same_cut (x ∷ a) [] w r s g h e = absurd (omega arith)
same_cut (x ∷ a) (y ∷ b) [] r s g h e = absurd g
same_cut (x ∷ a) (y ∷ b) (t ∷ w) r s g h e =
    let k = same_cut a b w r s g.1 h.1 (omega arith) in
    (ap (λ z. z ∷ a) (sym g.0 ∙ h.0) ∙ ap (λ (zs : List Word). y ∷ zs) k.0, k.1)

pub compared : (m n : ℕ) → (m ≤ n) ⊎ (n < m)
compared zero n = inl (omega arith)
compared (suc m) zero = inr (omega arith)
compared (suc m) (suc n) = elim (compared m n) [ inl h ↦ inl (omega arith) | inr h ↦ inr (omega arith) ]

split_bad : (b : Bool) (p at : ℕ) → cond b (Token p) (Grammar p) ≡ Deep at → ⊥
split_bad true p at e = cc
split_bad false p at e = cc

-- what is read again isn't refused for a word
not_deep : (w : List Tok) (at : ℕ) → fault false w ≡ Deep at → ⊥
not_deep w at e = split_bad (is_bad (head w)) (place w) at e

no_again : (b : Bool) (out : Result (Written × List Tok) ReadNo) (n : Written) (rest w : List Tok) → Again b out n rest → out ≡ Err (fault false w) → ⊥
no_again true out n rest w h e = cc
no_again false out n rest w h e = let k : fault false w ≡ Deep h.0 = cc (h.1) in not_deep w h.0 k

nil_toks : (z : List Word) → as_toks z ≡ [] → z ≡ []
nil_toks [] e = refl
nil_toks (x ∷ z) e = cc

ends_here : (b : Bool) (z : List Word) (m n : Written) (out : Result (Written × List Tok) ReadNo) → out ≡ Ok (n, as_toks z) → Again b out m [] → z ≡ []
ends_here true z m n out a c = let k : (n, as_toks z) ≡ (m, []) = cc in nil_toks z (ap (λ (x : Written × List Tok). x.1) k)
ends_here false z m n out a c = cc (a, c.1)

not_nil : (a : List Word) (x : Word) (b : List Word) → a ++ x ∷ b ≡ [] → ⊥
not_nil [] x b e = cc
not_nil (y ∷ a) x b e = cc

-- the two refusals exclude each other
one_kind : (l : ℕ) (d e : Bool) (front : List Word) (x : Word) → IsRefusedAs l d front x → IsRefusedAs l e front x → d ≡ e
one_kind l true true front x a b = refl
one_kind l true false front x a b = absurd (b.1 a.0)
one_kind l false true front x a b = absurd (a.1 b.0)
one_kind l false false front x a b = refl

pub viable_as : (l : ℕ) (d : Bool) (front : List Word) (x : Word) → IsRefusedAs l d front x → IsViable front
viable_as l true front x a = (x, a.0)
viable_as l false front x a = a.0

module _ (l : ℕ) (pos : 0 < l) where
  reads : Reads l l (narration_at l) IsWritten (fits_written l) spell always
  reads = reads_narration l pos

  pub ok_is : (w : List Tok) (n : Written) (rest : List Tok) → narration_at l w ≡ Ok (n, rest) → IsText l n w rest
  ok_is w n rest e = let i = reads.sound w n rest e in record { valid = i.valid; fit = i.fit; begins = i.begins }

  pub is_ok : (w : List Tok) (n : Written) (rest : List Tok) → IsText l n w rest → narration_at l w ≡ Ok (n, rest)
  is_ok w n rest t = let Q : Bool → Type 0 = λ b. Again b (narration_at l w) n rest in subst Q t.fit (reads.again w n rest t.valid t.begins refl)

  -- what is refused for its first word doesn't go on with it
  stuck : (w : List Tok) (y : ReadNo) (r : Refuses l (narration_at l) IsWritten spell w y) → r.is_deep ≡ false → Continues r.front (head r.rest) → ⊥
  stuck w y r d c =
      let g = as_begins (spell c.written) r.front (head r.rest ∷ c.more) c.completes in
      let a = reads.again (as_toks (spell c.written)) c.written [] c.valid (whole_as (spell c.written)) refl in
      let e : narration_at l (as_toks (spell c.written)) ≡ Err (fault false (as_toks (head r.rest ∷ c.more))) = r.alike (as_toks (spell c.written)) (as_toks (head r.rest ∷ c.more)) g refl ∙ ap (λ b. Err (fault b (as_toks (head r.rest ∷ c.more)))) d in
      no_again (fits_written l c.written) (narration_at l (as_toks (spell c.written))) c.written [] (as_toks (head r.rest ∷ c.more)) a e

  -- the completion isn't empty
  goes_further : (w : List Tok) (y : ReadNo) (r : Refuses l (narration_at l) IsWritten spell w y) → narration_at l w ≡ Err y → r.is_deep ≡ false → (more : List Word) → spell r.value ≡ r.front ++ more → IsViable r.front
  goes_further w y r e d (x ∷ more) c = (x, record { written = r.value; valid = r.valid; more = more; completes = c })
  goes_further w y r e d [] c =
      let s : spell r.value ≡ r.front = c ∙ append-nil r.front in
      let g : Begins w (spell r.value) r.rest = let P : List Word → Type 0 = λ xs. Begins w xs r.rest in subst P (sym s) r.begins in
      let a = reads.again w r.value r.rest r.valid g refl in
      absurd (no_again (fits_written l r.value) (narration_at l w) r.value r.rest r.rest a (e ∙ ap Err r.is ∙ ap (λ b. Err (fault b r.rest)) d))

  why : (w : List Tok) (y : ReadNo) (r : Refuses l (narration_at l) IsWritten spell w y) → narration_at l w ≡ Err y → (d : Bool) → r.is_deep ≡ d → IfDeep d (TooDeep l r.front (head r.rest) r.more) → IsRefusedAs l d r.front (head r.rest)
  why w y r e true d t = (record { written = r.value; valid = r.valid; more = t.others; completes = r.completes ∙ ap (λ (xs : List Word). r.front ++ xs) t.goes_on }, t.starts, t.nested)
  why w y r e false d t = (goes_further w y r e d r.more r.completes, stuck w y r d)

  -- a refusal further left
  earlier : (w : List Tok) (words : List Word) (rest : List Tok) (value : Written) (more : List Word) (other : Bool) (before : List Word) (after : List Tok) → IsWritten value → spell value ≡ words ++ more → Begins w words rest → Shallow l words
      → IsRefused l other w before after → length before < length words → ⊥
  earlier w words rest value more true before after v e g s i lt =
      let k = next_in before words w after rest i.begins g lt in
      let t = s before (head after) k.0 k.1 i.why.1 in
      omega (arith, t, i.why.2)
  earlier w words rest value more false before after v e g s i lt =
      let k = next_in before words w after rest i.begins g lt in
      i.why.1 (record { written = value; valid = v; more = k.0 ++ more; completes = e ∙ ap (λ (xs : List Word). xs ++ more) k.1 ∙ append_assoc before (head after ∷ k.0) more })

  pub err_is : (w : List Tok) (y : ReadNo) → narration_at l w ≡ Err y → (d : Bool) × (front : List Word) × (rest : List Tok) × IsFirst l d w front rest × (y ≡ fault d rest)
  err_is w y e =
      let r = reads.refused w y e in (
        r.is_deep,
        r.front,
        r.rest,
        record {
          refused = record { begins = r.begins; why = why w y r e r.is_deep refl r.level };
          first = λ other before after i. elim (compared (length r.front) (length before)) [
            | inl h ↦ h
            | inr h ↦ absurd (earlier w r.front r.rest r.value r.more other before after r.valid r.completes r.begins r.shallow i h)
          ];
        },
        r.is,
      )

  -- no narration begins another
  no_more : (m n : Written) (z : List Word) → IsWritten m → IsWritten n → fits_written l n ≡ true → spell m ≡ spell n ++ z → (b : Bool) → fits_written l m ≡ b → z ≡ []
  no_more m n z vm vn fn e b fm =
      let w = as_toks (spell m) in
      let Q : Bool → Type 0 = λ b. Again b (narration_at l w) n (as_toks z) in
      let R : Bool → Type 0 = λ b. Again b (narration_at l w) m [] in
      let a = subst Q fn (reads.again w n (as_toks z) vn (as_begins (spell m) (spell n) z e) refl) in
      let c = subst R fm (reads.again w m [] vm (whole_as (spell m)) refl) in
      ends_here b z m n (narration_at l w) a c

  not_read : (w : List Tok) (n : Written) (r : List Tok) (d : Bool) (front : List Word) (rest : List Tok) → IsRefused l d w front rest → IsRead l l (narration_at l) IsWritten (fits_written l) spell always w n r → ⊥
  not_read w n r d front rest i j = elim (compared (length (spell n)) (length front)) [
    | inl h ↦
        let k = rest_in (spell n) front w r rest j.begins i.begins h in
        let v = viable_as l d front (head rest) i.why in
        let e : spell v.1.written ≡ spell n ++ (k.0 ++ v.0 ∷ v.1.more) = v.1.completes ∙ ap (λ (xs : List Word). xs ++ v.0 ∷ v.1.more) k.1 ∙ append_assoc (spell n) k.0 (v.0 ∷ v.1.more) in
        not_nil k.0 v.0 v.1.more (no_more v.1.written n (k.0 ++ v.0 ∷ v.1.more) v.1.valid j.valid j.fit e (fits_written l v.1.written) refl)
    | inr h ↦ earlier w (spell n) r n [] d front rest j.valid (sym (append-nil (spell n))) j.begins j.shallow i h
  ]

  decided : (w : List Tok) (y : ReadNo) (d : Bool) (front : List Word) (rest : List Tok) → IsFirst l d w front rest → y ≡ fault d rest → (out : Result (Written × List Tok) ReadNo) → narration_at l w ≡ out → out ≡ Err y
  decided w y d front rest i e (Ok x) o = absurd (not_read w x.0 x.1 d front rest i.refused (reads.sound w x.0 x.1 o))
  decided w y d front rest i e (Err z) o =
      let k = err_is w z o in
      let le = i.first k.0 k.1 k.2 k.3.refused in
      let ge = k.3.first d front rest i.refused in
      let s = same_cut front k.1 w rest k.2 i.refused.begins k.3.refused.begins (omega arith) in
      let P : List Word → Type 0 = λ xs. IsRefusedAs l k.0 xs (head k.2) in
      let R : List Tok → Type 0 = λ xs. IsRefusedAs l k.0 front (head xs) in
      let same : d ≡ k.0 = one_kind l d k.0 front (head rest) i.refused.why (subst R (sym s.1) (subst P (sym s.0) k.3.refused.why)) in
      ap Err (k.4 ∙ ap (λ b. fault b k.2) (sym same) ∙ ap (fault d) (sym s.1) ∙ sym e)

  pub is_err : (w : List Tok) (y : ReadNo) (d : Bool) (front : List Word) (rest : List Tok) → IsFirst l d w front rest → y ≡ fault d rest → narration_at l w ≡ Err y
  is_err w y d front rest i e = decided w y d front rest i e (narration_at l w) refl
