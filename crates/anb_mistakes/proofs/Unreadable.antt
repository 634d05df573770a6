-- What is said of texts that are no narration.
use Rattle.std.proofs.Common.{◌≡◌, ◌≢◌, ℕ, ◌+◌, List, ◌++◌, length, drop, Some, None, refl, sym, ap, ◌∙◌, arith}
use Rattle.std.proofs.lemmas.List.{drop_all}
use Rattle.anb_syntax.specs.Lexing.{gap_len, token_here}
use Rattle.anb_syntax.specs.Nexts.{IsNext}
use Rattle.anb_syntax.specs.Words.{Tok, Word, head}
use Rattle.anb_syntax.specs.declared.tokens.Next.{Next}
use Rattle.anb_syntax.specs.declared.tokens.Next.TheVariants as next
use Rattle.anb_syntax.specs.declared.tokens.Token.{Token}
use Rattle.anb_read.specs.Refusals.{offset, IsRefusal}
use Rattle.anb_read.specs.declared.refusal.ReadNo.{ReadNo}
use Rattle.anb_read.specs.declared.refusal.ReadNo.TheVariants as reading
use Rattle.anb_read.proofs.GoingOn.{expected_once}
use Rattle.anb_read.proofs.Standing.{refusal_begins}
use Rattle.anb_mistakes.specs.Pointing.{pointed}
use Rattle.anb_mistakes.specs.Near.{section_text}
use Rattle.anb_mistakes.specs.Spots.{item_at}
use Rattle.anb_mistakes.specs.Unread.{AreHints, AreWords, IsUnreadText, Mends, reason}
use Rattle.anb_mistakes.specs.Words.{expected_text}
use Rattle.anb_mistakes.proofs.Finding.{tokens_once}

words_once : (x : List ℕ) (why : ReadNo) (mend other : List ℕ) → AreWords x why mend → AreWords x why other → mend ≡ other
words_once x why mend other a b = a.2 ∙ ap expected_text (expected_once x why a.0 b.0 a.1 b.1) ∙ sym b.2

hints_once : (x : List ℕ) (at : ℕ) (mend other : List ℕ) → AreHints x at mend → AreHints x at other → mend ≡ other
hints_once x at mend other (words, are, (ts, has, is)) (words', are', (ts', has', is')) =
    is ∙ ap (λ (l : List ℕ). l ++ section_text (head (item_at at ts))) (words_once x (reading.Grammar at) words words' are are')
    ∙ ap (λ (l : List Tok). words' ++ section_text (head (item_at at l))) (tokens_once x ts ts' has has') ∙ sym is'

mends_once : (x : List ℕ) (why : ReadNo) (mend other : List ℕ) → Mends x why mend → Mends x why other → mend ≡ other
mends_once x (reading.Token at) mend other a b = words_once x (reading.Token at) mend other a b
mends_once x (reading.Grammar at) mend other a b = hints_once x at mend other a b
mends_once x (reading.Deep at) mend other a b = a ∙ sym b
mends_once x reading.NoMemory mend other a b = absurd a

pub said_once : (name x : List ℕ) (why : ReadNo) (text other : List ℕ) → IsUnreadText name x why text → IsUnreadText name x why other → text ≡ other
said_once name x why text other a b = a.is ∙ ap (pointed name x (offset why) (reason x why)) (mends_once x why a.mend b.mend a.mends b.mends) ∙ sym b.is

-- where no token begins there are words alone
pub words_mend : (x : List ℕ) (why : ReadNo) (mend : List ℕ) → ((at : ℕ) → why ≢ reading.Deep at) → ((at : ℕ) → why ≢ reading.Grammar at) → (why ≡ reading.NoMemory → ⊥) → AreWords x why mend → Mends x why mend
words_mend x (reading.Token at) mend deep grammar memory a = a
words_mend x (reading.Grammar at) mend deep grammar memory a = absurd (grammar at refl)
words_mend x (reading.Deep at) mend deep grammar memory a = absurd (deep at refl)
words_mend x reading.NoMemory mend deep grammar memory a = absurd (memory refl)

-- want of memory is no refusal
pub never_memory : (x : List ℕ) (why : ReadNo) → IsRefusal x why → why ≡ reading.NoMemory → ⊥
never_memory x (reading.Token at) r e = cc e
never_memory x (reading.Grammar at) r e = cc e
never_memory x (reading.Deep at) r e = cc e
never_memory x reading.NoMemory r e = r.cause.cause

-- the token at a refusal
module _ (x : List ℕ) (at : ℕ) (r : IsRefusal x (reading.Grammar at)) where
  pub token_there : (t : Token) → IsNext x at (next.Token t) → (t.at ≡ at) × ((w : Word) × (token_here (drop at x) ≡ Some (w, t.len)))
  token_there t i =
      let here : t.at ≡ at = i.0 ∙ ap (λ n. at + n) (refusal_begins x (reading.Grammar at) r) ∙ omega arith in
      (here, (_, ap (λ n. token_here (drop n x)) (sym here) ∙ i.1))

  nothing_at : (n : ℕ) → at + gap_len (drop at x) ≡ n → n ≡ at
  nothing_at n e = sym e ∙ ap (λ k. at + k) (refusal_begins x (reading.Grammar at) r) ∙ omega arith

  pub none_there : (n : Next) → IsNext x at n → ((t : Token) → n ≢ next.Token t) → token_here (drop at x) ≡ None
  none_there (next.Token t) i no_token = absurd (no_token t refl)
  none_there next.End i no_token = ap token_here (drop_all at x (omega (arith, nothing_at (length x) i)))
  none_there (next.Bad n) i no_token = ap (λ k. token_here (drop k x)) (sym (nothing_at n (sym i.0))) ∙ i.2
