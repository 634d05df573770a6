-- Tokens of a text, and what is found among them.
use Rattle.std.proofs.Common.{◌≡◌, ◌≢◌, ℕ, ◌+◌, ◌-◌, ◌<◌, List, [], ◌∷◌, ◌++◌, length, drop, take, get_or, map, Bool, true, false, refl, ap, sym, ◌∙◌, arith, rules, length-drop}
use Rattle.std.specs.Prelude.{◌==◌}
use Rattle.std.proofs.lemmas.List.{drop_more, take_all}
use Rattle.anb_syntax.specs.Lexing.{Lexes}
use Rattle.anb_syntax.specs.Nexts.{IsNext}
use Rattle.anb_syntax.specs.Views.{tok_of}
use Rattle.anb_syntax.specs.Words.{Tok}
use Rattle.anb_syntax.specs.declared.tokens.Next.{Next}
use Rattle.anb_syntax.specs.declared.tokens.Next.TheVariants as next
use Rattle.anb_syntax.specs.declared.tokens.Token.{Token}
use Rattle.anb_syntax.proofs.Unique.{lexes_once}
use Rattle.anb_syntax.specs.Grammar.{Narration}
use Rattle.anb_protocol.specs.declared.refusals.ResolveNo.{ResolveNo}
use Rattle.anb_read.proofs.Lexed.{lexed_end, lexed_bad}
use Rattle.anb_mistakes.specs.Mends.{mend}
use Rattle.anb_mistakes.specs.Pointing.{located, pointed}
use Rattle.anb_mistakes.specs.Spots.{HasTokens, is_spot, message, nth, spot}
use Rattle.anb_mistakes.specs.Unresolved.{IsUnresolvedText, offset_in}
use Rattle.anb_mistakes.specs.Unsent.{IsUnsentText}
use Rattle.anb_mistakes.specs.declared.spots.Follower.{Follower}

pub last_token : (x : List ℕ) (from : ℕ) (n : Next) → IsNext x from n → ((t : Token) → n ≢ next.Token t) → (last : Tok) × Lexes from (drop from x) (last ∷ [])
last_token x from (next.Token t) i none = absurd (none t refl)
last_token x from next.End i none = (_, lexed_end x from i)
last_token x from (next.Bad at) i none = (_, lexed_bad x from at i)

-- ---- the next place

module _ (text x : List ℕ) (b : Follower) (all : List Token) (i : ℕ) (d : Token) (within : i < length all) (found : Bool) (is : found ≡ is_spot x b (map (tok_of text) (take (length all - i) (drop i all)))) where
  from_here : drop i all ≡ get_or all i d ∷ drop (i + 1) all
  from_here = drop_more all i d within

  seen : found ≡ is_spot x b (map (tok_of text) (get_or all i d ∷ drop (i + 1) all))
  seen = is ∙ ap (λ (ts : List Token). is_spot x b (map (tok_of text) ts)) (take_all (length all - i) (drop i all) (omega (arith, length-drop i all)) ∙ from_here)

  pub not_here : found ≡ false → (k : ℕ) → nth x b k (map (tok_of text) (drop (i + 1) all)) ≡ nth x b k (map (tok_of text) (drop i all))
  not_here e k = rw (from_here, sym seen ∙ e) refl

  pub one_here : found ≡ true → (k m : ℕ) → (k ≡ 0 → ⊥) → m ≡ k - 1 → nth x b m (map (tok_of text) (drop (i + 1) all)) ≡ nth x b k (map (tok_of text) (drop i all))
  one_here e k m some h = rw (h, from_here, sym seen ∙ e, not_zero k some) refl
    where
      not_zero : (k : ℕ) → (k ≡ 0 → ⊥) → (k == 0) ≡ false
      not_zero k some = search (rules, some)

-- ---- one text

last_apart : (ts us : List Tok) (t u : Tok) → ts ++ t ∷ [] ≡ us ++ u ∷ [] → ts ≡ us
last_apart [] [] t u e = refl
last_apart [] (v ∷ us) t u e = absurd (not_nil us u (cc e))
  where
    not_nil : (us : List Tok) (u : Tok) → [] ≡ us ++ u ∷ [] → ⊥
    not_nil [] u e = cc e
    not_nil (v ∷ us) u e = cc e
last_apart (v ∷ ts) [] t u e = absurd (not_nil ts t (cc e))
  where
    not_nil : (ts : List Tok) (t : Tok) → ts ++ t ∷ [] ≡ [] → ⊥
    not_nil [] t e = cc e
    not_nil (v ∷ ts) t e = cc e
last_apart (v ∷ ts) (w ∷ us) t u e =
    let first : v ≡ w = cc e in
    let others : ts ++ t ∷ [] ≡ us ++ u ∷ [] = cc e in
    ap (λ z. z ∷ ts) first ∙ ap (λ (l : List Tok). w ∷ l) (last_apart ts us t u others)

-- a text has one list of tokens
pub tokens_once : (x : List ℕ) (ts us : List Tok) → HasTokens x ts → HasTokens x us → ts ≡ us
tokens_once x ts us a b = last_apart ts us a.last b.last (lexes_once 0 x (ts ++ a.last ∷ []) (us ++ b.last ∷ []) a.lexes b.lexes)

pub resolved_once : (name x : List ℕ) (n : Narration) (why : ResolveNo) (reason text other : List ℕ) → IsUnresolvedText name x n why reason text → IsUnresolvedText name x n why reason other → text ≡ other
resolved_once name x n why reason text other a b =
    let same = tokens_once x a.tokens b.tokens a.has b.has in
    a.is ∙ ap (λ (ts : List Tok). pointed name x (offset_in x (spot n why ts)) reason (mend n why (spot n why ts))) same ∙ sym b.is

pub unsent_once : (name x : List ℕ) (action : ℕ) (line lines text other : List ℕ) → IsUnsentText name x action line lines text → IsUnsentText name x action line lines other → text ≡ other
unsent_once name x action line lines text other a b =
    let same = tokens_once x a.tokens b.tokens a.has b.has in
    a.is ∙ ap (λ (ts : List Tok). located name x (offset_in x (message action ts)) line ++ lines) same ∙ sym b.is
