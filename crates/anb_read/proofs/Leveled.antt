-- A term, by the levels that are left and by its first word.
use Rattle.std.proofs.Common.{◌≡◌, ℕ, suc, ◌-◌, ◌<◌, List, true, false, Result, Err, refl, sym, ap, ◌∙◌, arith}
use Rattle.anb_syntax.specs.Words.{Tok, head, hash_word, mac_word, seal_word, wrap_word}
use Rattle.anb_syntax.specs.Grammar.{mac, seal}
use Rattle.anb_read.specs.declared.refusal.ReadNo.{ReadNo}
use Rattle.anb_read.specs.declared.refusal.ReadNo.TheVariants.{Token, Grammar, Deep, NoMemory}
use Rattle.anb_read.specs.Productions.{fault, begins_term, is_word, term_at, term_over, hashed_at, keyed_at, wrapped_at, named_at}
use Rattle.anb_read.specs.Places.{Fails}

fails : {Y : Type 0} (e : ReadNo) (out : Result Y ReadNo) → out ≡ Err e → Fails e out
fails (Token at) out g = g
fails (Grammar at) out g = g
fails (Deep at) out g = g
fails NoMemory out g = tt

no_level : (w : List Tok) → term_at 0 w ≡ Err (fault (begins_term (head w)) w)
unfolding term_at
no_level w = refl

pub at_no_level : (l : ℕ) (w : List Tok) (e : ReadNo) → l ≡ 0 → e ≡ fault (begins_term (head w)) w → Fails e (term_at l w)
at_no_level l w e z h = fails e (term_at l w) (ap (λ k. term_at k w) z ∙ no_level w ∙ ap Err (sym h))

a_level : (l : ℕ) (w : List Tok) → term_at (suc l) w ≡ term_over (term_at l) w
unfolding term_at
a_level l w = refl

module _ (l : ℕ) (w : List Tok) (some : 0 < l) where
  level : term_at l w ≡ term_over (term_at (l - 1)) w
  level = let k : l ≡ suc (l - 1) = omega arith in ap (λ n. term_at n w) k ∙ a_level (l - 1) w

  pub at_hash : is_word hash_word (head w) ≡ true → term_at l w ≡ hashed_at (term_at (l - 1)) w
  unfolding term_over
  at_hash h = level ∙ rw h refl

  pub at_mac : is_word hash_word (head w) ≡ false → is_word mac_word (head w) ≡ true → term_at l w ≡ keyed_at (term_at (l - 1)) mac_word mac w
  unfolding term_over
  at_mac h m = level ∙ rw (h, m) refl

  pub at_seal : is_word hash_word (head w) ≡ false → is_word mac_word (head w) ≡ false → is_word seal_word (head w) ≡ true → term_at l w ≡ keyed_at (term_at (l - 1)) seal_word seal w
  unfolding term_over
  at_seal h m s = level ∙ rw (h, m, s) refl

  pub at_wrap : is_word hash_word (head w) ≡ false → is_word mac_word (head w) ≡ false → is_word seal_word (head w) ≡ false → is_word wrap_word (head w) ≡ true → term_at l w ≡ wrapped_at (term_at (l - 1)) w
  unfolding term_over
  at_wrap h m s v = level ∙ rw (h, m, s, v) refl

  pub at_name : is_word hash_word (head w) ≡ false → is_word mac_word (head w) ≡ false → is_word seal_word (head w) ≡ false → is_word wrap_word (head w) ≡ false → term_at l w ≡ named_at (term_at (l - 1)) w
  unfolding term_over
  at_name h m s v = level ∙ rw (h, m, s, v) refl
