-- What is answered for a text.
use Rattle.std.proofs.Common.{◌≡◌, ◌≢◌, ℕ, ◌<◌, ◌≤◌, List, [], ◌∷◌, length, Bool, true, false, Ok, Err, refl, sym, ap, ◌∙◌, subst, inl, inr, ◌⊎◌, arith, cond}
use Rattle.anb_syntax.specs.Words.{Word, name, literal, sign, end, bad, Tok, head, place, Begins}
use Rattle.anb_syntax.specs.Lexing.{Lexes}
use Rattle.anb_syntax.specs.Grammar.{Narration, Written, told, IsNarration, fits, IsSpellable, spell}
use Rattle.anb_syntax.specs.Text.{Text, IsViable, BeginsTermAt}
use Rattle.anb_syntax.proofs.Unique.{lexes_once}
use Rattle.anb_read.specs.declared.refusal.ReadNo.{ReadNo}
use Rattle.anb_read.specs.declared.refusal.ReadNo.TheVariants.{Token, Grammar, Deep, NoMemory}
use Rattle.anb_read.specs.Refusals.{IsCause, HasCause, offset, IsRefusal, UnlessNoMemory}
use Rattle.anb_read.specs.Productions.{is_bad, fault, narration_at}
use Rattle.anb_read.specs.Places.{Fails}
use Rattle.anb_read.proofs.Depth.{stands_at, begins_there}
use Rattle.anb_read.proofs.Endings.{no_bad, front_tokens, not_all}
use Rattle.anb_read.proofs.Offsets.{increasing}
use Rattle.anb_read.proofs.Exact.{IsRefusedAs, IsRefused, IsFirst, compared, same_cut, viable_as, ok_is, is_ok, err_is, is_err}

pub above : 0 < 64
above = omega arith

-- the level of a term, and the parentheses that are open
to_level : (front : List Word) (x : Word) → IsRefusedAs 64 true front x → BeginsTermAt 65 front x
to_level front x h = record { continues = h.0; stands = stands_at 64 h.0.written h.0.valid front x h.0.more h.0.completes above h.1 h.2 }

from_level : (front : List Word) (x : Word) → BeginsTermAt 65 front x → IsRefusedAs 64 true front x
from_level front x h =
    let c = h.continues in
    let k = begins_there 64 c.written c.valid front x c.more c.completes above h.stands in
    (c, k.0, k.1)

good : (x : Word) → x ≢ bad → is_bad x ≡ false
good (name b) n = refl
good (literal b) n = refl
good (sign c) n = refl
good end n = refl
good bad n = absurd (n refl)

-- a cause, and the refusal of the reader
cause_word : (front : List Word) (next : Tok) (b : Bool) → is_bad next.word ≡ b → IsRefusedAs 64 false front next.word → IsCause (cond b (Token next.at) (Grammar next.at)) front next
cause_word front next true e h = (refl, h.0, is_bad_bad next.word e)
  where
    is_bad_bad : (x : Word) → is_bad x ≡ true → x ≡ bad
    is_bad_bad bad e = refl
    is_bad_bad (name b) e = cc (e)
    is_bad_bad (literal b) e = cc (e)
    is_bad_bad (sign c) e = cc (e)
    is_bad_bad end e = cc (e)
cause_word front next false e h = (refl, h.0, (λ i. let k : is_bad bad ≡ false = ap is_bad (sym i) ∙ e in cc (k)), h.1)

to_cause : (d : Bool) (front : List Word) (next : Tok) (others : List Tok) → IsRefusedAs 64 d front next.word → IsCause (fault d (next ∷ others)) front next
to_cause true front next others h = (refl, to_level front next.word h)
to_cause false front next others h = cause_word front next (is_bad next.word) refl h

record Refused (why : ReadNo) (front : List Word) (next : Tok) : Type 0 where
  deep : Bool
  how : IsRefusedAs 64 deep front next.word
  is : (others : List Tok) → why ≡ fault deep (next ∷ others)

from_cause : (why : ReadNo) (front : List Word) (next : Tok) → IsCause why front next → Refused why front next
from_cause (Token at) front next h = record {
  deep = false;
  how = (h.1, λ c. no_bad front next.word c h.2);
  is = λ others. ap Token (sym h.0) ∙ ap (λ x. cond (is_bad x) (Token next.at) (Grammar next.at)) (sym h.2);
}
from_cause (Grammar at) front next h = record {
  deep = false;
  how = (h.1, h.3);
  is = λ others. ap Grammar (sym h.0) ∙ ap (λ b. cond b (Token next.at) (Grammar next.at)) (sym (good next.word h.2));
}
from_cause (Deep at) front next h = record { deep = true; how = from_level front next.word h.1; is = λ others. ap Deep (sym h.0) }
from_cause NoMemory front next h = absurd h

pub stands : (why : ReadNo) (front : List Word) (next : Tok) → IsCause why front next → offset why ≡ next.at
stands (Token at) front next h = sym h.0
stands (Grammar at) front next h = sym h.0
stands (Deep at) front next h = sym h.0
stands NoMemory front next h = absurd h

module _ (x : List ℕ) (ts : List Tok) (l : Lexes 0 x ts) where
  -- a refusal stands at a token
  some_rest : (front : List Word) (rest : List Tok) → Begins ts front rest → IsViable front → rest ≡ [] → ⊥
  some_rest front rest g v e =
      let P : List Tok → Type 0 = λ r. Begins ts front r in
      not_all 0 x ts front l (subst P e g) (front_tokens front v.0 v.1)

  record Caused (d : Bool) (front : List Word) (rest : List Tok) : Type 0 where
    has : HasCause x (fault d rest)
    same_front : has.front ≡ front
    same_tokens : has.tokens ≡ ts

  caused : (d : Bool) (front : List Word) (rest : List Tok) → IsRefused 64 d ts front rest → Caused d front rest
  caused d front [] r = absurd (some_rest front [] r.begins (viable_as 64 d front bad r.why) refl)
  caused d front (next ∷ others) r = record {
    has = record { tokens = ts; lexes = l; front = front; next = next; others = others; begins = r.begins; cause = to_cause d front next others r.why };
    same_front = refl;
    same_tokens = refl;
  }

  -- a cause in these tokens
  pub record Here (why : ReadNo) : Type 0 where
    pub deep : Bool
    pub front : List Word
    pub next : Tok
    pub others : List Tok
    pub refused : IsRefused 64 deep ts front (next ∷ others)
    pub is : why ≡ fault deep (next ∷ others)
    pub at : offset why ≡ next.at

  pub here : (why : ReadNo) → HasCause x why → Here why
  here why h =
      let k = from_cause why h.front h.next h.cause in
      let P : List Tok → Type 0 = λ us. Begins us h.front (h.next ∷ h.others) in
      record {
        deep = k.deep;
        front = h.front;
        next = h.next;
        others = h.others;
        refused = record { begins = subst P (lexes_once 0 x h.tokens ts h.lexes l) h.begins; why = k.how };
        is = k.is h.others;
        at = stands why h.front h.next h.cause;
      }

  -- a refusal further left has a smaller offset
  not_later : (d e : Bool) (front before : List Word) (rest after : List Tok) → IsRefused 64 d ts front rest → IsRefused 64 e ts before after → length front ≤ length before → place rest ≤ place after
  not_later d e front before [] after r s le = omega arith
  not_later d e front before (t ∷ rest) [] r s le = absurd (some_rest before [] s.begins (viable_as 64 e before bad s.why) refl)
  not_later d e front before (t ∷ rest) (u ∷ after) r s le = elim (compared (length before) (length front)) [
    | inl h ↦
        let k = same_cut front before ts (t ∷ rest) (u ∷ after) r.begins s.begins (omega arith) in
        let i : t.at ≡ u.at = ap place k.1 in omega arith
    | inr h ↦ omega (arith, increasing 0 x ts front before t u rest after l r.begins s.begins h)
  ]

  earlier : (d e : Bool) (front before : List Word) (rest after : List Tok) → IsRefused 64 d ts front rest → IsRefused 64 e ts before after → length before < length front → place after < place rest
  earlier d e front before [] after r s lt = absurd (some_rest front [] r.begins (viable_as 64 d front bad r.why) refl)
  earlier d e front before (t ∷ rest) [] r s lt = absurd (some_rest before [] s.begins (viable_as 64 e before bad s.why) refl)
  earlier d e front before (t ∷ rest) (u ∷ after) r s lt = increasing 0 x ts before front u t after rest l s.begins r.begins lt

  fault_at : (d : Bool) (rest : List Tok) → offset (fault d rest) ≡ place rest
  fault_at true rest = refl
  fault_at false rest = by_word (is_bad (head rest))
    where
      by_word : (b : Bool) → offset (cond b (Token (place rest)) (Grammar (place rest))) ≡ place rest
      by_word true = refl
      by_word false = refl

  -- the first refusal of the tokens is the text's
  pub refusal_of : (y : ReadNo) → narration_at 64 ts ≡ Err y → IsRefusal x y
  refusal_of y e =
      let k = err_is 64 above ts y e in
      let c = caused k.0 k.1 k.2 k.3.refused in
      subst (IsRefusal x) (sym k.4) (record {
        cause = c.has;
        first = λ other h.
            let i = here other h in
            let le = not_later k.0 i.deep k.1 i.front k.2 (i.next ∷ i.others) k.3.refused i.refused (k.3.first i.deep i.front (i.next ∷ i.others) i.refused) in
            omega (arith, fault_at k.0 k.2, i.at, le);
      })

  -- the text's refusal is the first of its tokens
  pub first_here : (why : ReadNo) → IsRefusal x why → (i : Here why) → IsFirst 64 i.deep ts i.front (i.next ∷ i.others)
  first_here why r i = record {
    refused = i.refused;
    first = λ other before after s. elim (compared (length i.front) (length before)) [
      | inl h ↦ h
      | inr h ↦
          let c = caused other before after s in
          let le = r.first (fault other after) c.has in
          absurd (omega (arith, le, fault_at other after, i.at, earlier i.deep other i.front before (i.next ∷ i.others) after i.refused s h))
    ];
  }

  pub first_of : (why : ReadNo) → IsRefusal x why → narration_at 64 ts ≡ Err why
  first_of why r =
      let i = here why r.cause in
      is_err 64 above ts why i.deep i.front (i.next ∷ i.others) (first_here why r i) i.is

  -- the tokens of a narration's text are read as it
  pub read_of : (n : Narration) → Text n x → (w : Written) × (rest : List Tok) × (narration_at 64 ts ≡ Ok (w, rest)) × (told w ≡ n)
  read_of n t =
      let P : List Tok → Type 0 = λ us. Begins us (spell t.written) t.rest in (
        t.written,
        t.rest,
        is_ok 64 above ts t.written t.rest (record {
          valid = subst IsNarration (sym t.tells) t.valid;
          fit = ap (fits 64) t.tells ∙ t.fit;
          begins = subst P (lexes_once 0 x t.tokens ts t.lexes l) t.begins;
        }),
        t.tells,
      )

  pub ok_found : (w : Written) (rest : List Tok) → narration_at 64 ts ≡ Ok (w, rest) → Text (told w) x
  ok_found w rest e =
      let k = ok_is 64 above ts w rest e in
      record { written = w; tells = refl; valid = k.valid; fit = k.fit; tokens = ts; lexes = l; rest = rest; begins = k.begins }

  pub ok_spellable : (w : Written) (rest : List Tok) → narration_at 64 ts ≡ Ok (w, rest) → IsSpellable (told w)
  ok_spellable w rest e = let k = ok_is 64 above ts w rest e in record { valid = k.valid; fit = k.fit }

  pub ok_only : (w : Written) (rest : List Tok) → narration_at 64 ts ≡ Ok (w, rest) → (n : Narration) → Text n x → told w ≡ n
  ok_only w rest e n t =
      let k = read_of n t in
      let s : (w, rest) ≡ (k.0, k.1) = cc (e, k.2) in
      ap (λ (y : Written × List Tok). told y.0) s ∙ k.3

  pub ok_exact : (w : Written) (rest : List Tok) → narration_at 64 ts ≡ Ok (w, rest) → (why : ReadNo) → IsRefusal x why → ⊥
  ok_exact w rest e why r = cc (e, first_of why r)

  pub err_refused : (f : ReadNo) → Fails f (narration_at 64 ts) → UnlessNoMemory f (IsRefusal x f)
  err_refused (Token at) e = refusal_of (Token at) e
  err_refused (Grammar at) e = refusal_of (Grammar at) e
  err_refused (Deep at) e = refusal_of (Deep at) e
  err_refused NoMemory e = tt

  fails_only : (f y : ReadNo) → narration_at 64 ts ≡ Err y → Fails f (narration_at 64 ts) → (f ≡ y) ⊎ (f ≡ NoMemory)
  fails_only (Token at) y e h = inl (cc (e, h))
  fails_only (Grammar at) y e h = inl (cc (e, h))
  fails_only (Deep at) y e h = inl (cc (e, h))
  fails_only NoMemory y e h = inr refl

  pub err_exact : (f : ReadNo) → Fails f (narration_at 64 ts) → (why : ReadNo) → IsRefusal x why → (f ≡ why) ⊎ (f ≡ NoMemory)
  err_exact f h why r = fails_only f why (first_of why r) h

  fails_never : (f : ReadNo) (y : Written × List Tok) → narration_at 64 ts ≡ Ok y → Fails f (narration_at 64 ts) → f ≡ NoMemory
  fails_never (Token at) y e h = cc (e, h)
  fails_never (Grammar at) y e h = cc (e, h)
  fails_never (Deep at) y e h = cc (e, h)
  fails_never NoMemory y e h = refl

  pub err_only : (f : ReadNo) → Fails f (narration_at 64 ts) → (n : Narration) → Text n x → f ≡ NoMemory
  err_only f h n t = let k = read_of n t in fails_never f (k.0, k.1) k.2 h

-- the laws
pub narrations_unique : (x : List ℕ) (m n : Narration) → Text m x → Text n x → m ≡ n
narrations_unique x m n s t =
    let k = read_of x s.tokens s.lexes m s in
    sym k.3 ∙ ok_only x s.tokens s.lexes k.0 k.1 k.2 n t

pub refusals_unique : (x : List ℕ) (why other : ReadNo) → IsRefusal x why → IsRefusal x other → why ≡ other
refusals_unique x why other r s = cc (first_of x r.cause.tokens r.cause.lexes why r, first_of x r.cause.tokens r.cause.lexes other s)

pub not_both : (x : List ℕ) (n : Narration) (why : ReadNo) → Text n x → IsRefusal x why → ⊥
not_both x n why t r =
    let k = read_of x t.tokens t.lexes n t in
    ok_exact x t.tokens t.lexes k.0 k.1 k.2 why r
