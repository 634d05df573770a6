-- What the parts of the reader compute: the grammar read from left to right, on lists of tokens, with the
-- first refusal that is met. The contract of `read` names none of this; that it is the grammar is proved.
use Rattle.std.specs.Prelude.{ℕ, zero, suc, List, [], ◌∷◌, ◌++◌, length, Bool, true, false, Option, Some, None, Result, Ok, Err, ◌||◌, if◌then◌else◌}
use Rattle.std.specs.Str.{bytes_eq}
use Rattle.anb_base.specs.Bytes.{is_bytes}
use Rattle.anb_base.specs.declared.content.Suite.{Suite}
use Rattle.anb_format.specs.declared.pieces.Piece.{Piece}
use Rattle.anb_format.specs.declared.pieces.Piece.TheVariants.{Lit, Field}
use Rattle.anb_format.specs.declared.pieces.FieldKind.{FieldKind}
use Rattle.anb_syntax.specs.declared.narration.Sort.{Sort}
use Rattle.anb_syntax.specs.declared.narration.Sort.TheVariants.{Agent, Number, Key}
use Rattle.anb_syntax.specs.Words.{Word, name, literal, end, bad, Tok, word_eqb, colon, semicolon, comma, open_sign, close_sign, equals, arrow, protocol_word, suite_word, types_word, formats_word, knowledge_word, actions_word, goals_word, hash_word, mac_word, seal_word, wrap_word, sort_word, is_name, kind_of_word, suite_of_word, head, tail, place}
use Rattle.anb_syntax.specs.Grammar.{Tree, atom, apply, hash, mac, seal, wrap, Trees, none, trees_of, TypeItem, FormatItem, KnowItem, ActionItem, Written}
use Rattle.anb_read.specs.declared.refusal.ReadNo.{ReadNo}
use Rattle.anb_read.specs.declared.refusal.ReadNo.TheVariants.{Token, Grammar, Deep}

abbrev pub is_bad : Word → Bool
is_bad bad = true
is_bad _ = false

-- the refusal of the first of these tokens, for its depth or for what it is
abbrev pub fault : Bool → List Tok → ReadNo
fault true w = Deep (place w)
fault false w = if is_bad (head w) then Token (place w) else Grammar (place w)

infixl 10 ◌>>=◌
abbrev pub ◌>>=◌ : {A B : Type 0} → Result A ReadNo → (A → Result B ReadNo) → Result B ReadNo
(Ok x) >>= f = f x
(Err e) >>= f = Err e

-- one token, by what it stands for
abbrev pub taken : {A : Type 0} → Option A → List Tok → Result (A × List Tok) ReadNo
taken None w = Err (fault false w)
taken (Some a) w = Ok (a, tail w)

abbrev pub one : {A : Type 0} → (Word → Option A) → List Tok → Result (A × List Tok) ReadNo
one pick w = taken (pick (head w)) w

abbrev pub this_word : Word → Word → Option (Unit {0})
this_word x y = if word_eqb x y then Some tt else None

abbrev pub word_name : Word → Option (List ℕ)
word_name (name b) = if is_name b then Some b else None
word_name _ = None

abbrev pub word_sort : Word → Option Sort
word_sort (name b) =
    if bytes_eq (sort_word Agent) b then Some Agent
    else (if bytes_eq (sort_word Number) b then Some Number
    else (if bytes_eq (sort_word Key) b then Some Key else None))
word_sort _ = None

abbrev pub word_suite : Word → Option Suite
word_suite (name b) = suite_of_word b
word_suite _ = None

abbrev pub field : Option FieldKind → Option Piece
field None = None
field (Some k) = Some (Field k)

abbrev pub word_piece : Word → Option Piece
word_piece (name b) = field (kind_of_word b)
word_piece (literal b) = if is_bytes b then Some (Lit b) else None
word_piece _ = None

unfoldable pub expect : Word → List Tok → Result (Unit {0} × List Tok) ReadNo
expect x w = one (this_word x) w

unfoldable pub name_at : List Tok → Result (List ℕ × List Tok) ReadNo
name_at w = one word_name w

unfoldable pub sort_at : List Tok → Result (Sort × List Tok) ReadNo
sort_at w = one word_sort w

unfoldable pub suite_at : List Tok → Result (Suite × List Tok) ReadNo
suite_at w = one word_suite w

unfoldable pub piece_at : List Tok → Result (Piece × List Tok) ReadNo
piece_at w = one word_piece w

-- what begins with a word
abbrev pub some_of : {A : Type 0} → Option A → Bool
some_of None = false
some_of (Some a) = true

abbrev pub is_comma : Word → Bool
is_comma x = word_eqb comma x

abbrev pub is_open : Word → Bool
is_open x = word_eqb open_sign x

abbrev pub is_close : Word → Bool
is_close x = word_eqb close_sign x

abbrev pub is_word : List ℕ → Word → Bool
is_word b x = word_eqb (name b) x

abbrev pub is_some_name : Word → Bool
is_some_name (name b) = is_name b
is_some_name _ = false

abbrev pub is_sort : Word → Bool
is_sort x = some_of (word_sort x)

abbrev pub is_piece : Word → Bool
is_piece (name b) = some_of (kind_of_word b)
is_piece (literal b) = true
is_piece _ = false

abbrev pub begins_term : Word → Bool
begins_term x = is_word hash_word x || is_word mac_word x || is_word seal_word x || is_word wrap_word x || is_some_name x

-- as many as begin so
module _ {A : Type 0} (starts : Word → Bool) (p : List Tok → Result (A × List Tok) ReadNo) where
  unfoldable pub many_within : ℕ → List Tok → Result (List A × List Tok) ReadNo
  many_within zero w = Ok ([], w)
  many_within (suc k) w = if starts (head w) then (p w >>= λ x. many_within k x.1 >>= λ y. Ok (x.0 ∷ y.0, y.1)) else Ok ([], w)

  unfoldable pub many : List Tok → Result (List A × List Tok) ReadNo
  many w = many_within (length w) w

-- what was read before, and what is still read
abbrev pub with_front : {A : Type 0} → List A → Result (List A × List Tok) ReadNo → Result (List A × List Tok) ReadNo
with_front front read = read >>= λ x. Ok (front ++ x.0, x.1)

abbrev pub put : {A B : Type 0} → (A → B) → A × List Tok → Result (B × List Tok) ReadNo
put g x = Ok (g x.0, x.1)

-- a part that a word begins, or nothing
unfoldable pub optional : {A : Type 0} → (Word → Bool) → (List Tok → Result (A × List Tok) ReadNo) → List Tok → Result (Option A × List Tok) ReadNo
optional test p w = if test (head w) then (p w >>= put Some) else Ok (None, w)

unfoldable pub comma_name_at : List Tok → Result (List ℕ × List Tok) ReadNo
comma_name_at w = do
  c ← expect comma w
  name_at c.1

unfoldable pub names_at : List Tok → Result (List (List ℕ) × List Tok) ReadNo
names_at w = do
  first ← name_at w
  with_front (first.0 ∷ []) (many is_comma comma_name_at first.1)

unfoldable pub type_at : List Tok → Result (TypeItem × List Tok) ReadNo
type_at w = do
  sort ← sort_at w
  names ← names_at sort.1
  last ← expect semicolon names.1
  Ok (record { sort = sort.0; names = names.0 }, last.1)

unfoldable pub format_at : List Tok → Result (FormatItem × List Tok) ReadNo
format_at w = do
  title ← name_at w
  is ← expect equals title.1
  pieces ← many is_piece piece_at is.1
  last ← expect semicolon pieces.1
  Ok (record { title = title.0; pieces = pieces.0 }, last.1)

-- an operator's word, and the sign behind it
unfoldable pub operator_at : List ℕ → List Tok → Result (Unit {0} × List Tok) ReadNo
operator_at b w = do
  o ← expect (name b) w
  expect open_sign o.1

module _ (term : List Tok → Result (Tree × List Tok) ReadNo) where
  unfoldable pub comma_term_at : List Tok → Result (Tree × List Tok) ReadNo
  comma_term_at w = do
    c ← expect comma w
    term c.1

  -- one term or more, and the word behind the last
  unfoldable pub some_terms_at : Word → List Tok → Result (Trees × List Tok) ReadNo
  some_terms_at close w = do
    first ← term w
    terms ← with_front (first.0 ∷ []) (many is_comma comma_term_at first.1)
    last ← expect close terms.1
    Ok (trees_of terms.0, last.1)

  unfoldable pub no_terms_at : Word → List Tok → Result (Trees × List Tok) ReadNo
  no_terms_at close w = do
    last ← expect close w
    Ok (none, last.1)

  unfoldable pub terms_at : Word → List Tok → Result (Trees × List Tok) ReadNo
  terms_at close w = if word_eqb close (head w) then no_terms_at close w else some_terms_at close w

  unfoldable pub applied_at : List ℕ → List Tok → Result (Tree × List Tok) ReadNo
  applied_at n w = do
    first ← expect open_sign w
    ts ← terms_at close_sign first.1
    Ok (apply n ts.0, ts.1)

  -- what stands behind a name
  unfoldable pub after_name_at : List ℕ → List Tok → Result (Tree × List Tok) ReadNo
  after_name_at n w = if is_open (head w) then applied_at n w else Ok (atom n, w)

  unfoldable pub named_at : List Tok → Result (Tree × List Tok) ReadNo
  named_at w = do
    n ← name_at w
    after_name_at n.0 n.1

  unfoldable pub hashed_at : List Tok → Result (Tree × List Tok) ReadNo
  hashed_at w = do
    o ← operator_at hash_word w
    t ← term o.1
    last ← expect close_sign t.1
    Ok (hash t.0, last.1)

  -- two terms, and the signs behind them
  unfoldable pub pair_at : List Tok → Result ((Tree × Tree) × List Tok) ReadNo
  pair_at w = do
    t ← term w
    u ← comma_term_at t.1
    last ← expect close_sign u.1
    Ok ((t.0, u.0), last.1)

  unfoldable pub keyed_at : List ℕ → (Tree → Tree → Tree) → List Tok → Result (Tree × List Tok) ReadNo
  keyed_at b make w = do
    o ← operator_at b w
    parts ← pair_at o.1
    Ok (make parts.0.0 parts.0.1, parts.1)

  unfoldable pub wrapped_at : List Tok → Result (Tree × List Tok) ReadNo
  wrapped_at w = do
    o ← operator_at wrap_word w
    t ← term o.1
    c ← expect comma t.1
    parts ← pair_at c.1
    Ok (wrap t.0 parts.0.0 parts.0.1, parts.1)

  unfoldable pub term_over : List Tok → Result (Tree × List Tok) ReadNo
  term_over w =
      if is_word hash_word (head w) then hashed_at w
      else (if is_word mac_word (head w) then keyed_at mac_word mac w
      else (if is_word seal_word (head w) then keyed_at seal_word seal w
      else (if is_word wrap_word (head w) then wrapped_at w else named_at w)))

-- a term with so many levels left
unfoldable pub term_at : ℕ → List Tok → Result (Tree × List Tok) ReadNo
term_at zero w = Err (fault (begins_term (head w)) w)
term_at (suc l) w = term_over (term_at l) w

unfoldable pub know_at : ℕ → List Tok → Result (KnowItem × List Tok) ReadNo
know_at l w = do
  role ← name_at w
  c ← expect colon role.1
  terms ← terms_at (term_at l) semicolon c.1
  Ok (record { role = role.0; terms = terms.0 }, terms.1)

unfoldable pub action_at : ℕ → List Tok → Result (ActionItem × List Tok) ReadNo
action_at l w = do
  from ← name_at w
  a ← expect arrow from.1
  to ← name_at a.1
  c ← expect colon to.1
  message ← term_at l c.1
  last ← expect semicolon message.1
  Ok (record { from = from.0; to = to.0; message = message.0 }, last.1)

-- the word of a section, and its colon
unfoldable pub heading_at : List ℕ → List Tok → Result (Unit {0} × List Tok) ReadNo
heading_at b w = do
  h ← expect (name b) w
  expect colon h.1

unfoldable pub title_at : List Tok → Result (List ℕ × List Tok) ReadNo
title_at w = do
  h ← heading_at protocol_word w
  title ← name_at h.1
  last ← expect semicolon title.1
  Ok (title.0, last.1)

unfoldable pub suite_section : List Tok → Result (Suite × List Tok) ReadNo
suite_section w = do
  h ← heading_at suite_word w
  suite ← suite_at h.1
  last ← expect semicolon suite.1
  Ok (suite.0, last.1)

unfoldable pub types_section : List Tok → Result (List TypeItem × List Tok) ReadNo
types_section w = do
  h ← heading_at types_word w
  many is_sort type_at h.1

unfoldable pub formats_section : List Tok → Result (List FormatItem × List Tok) ReadNo
formats_section w = do
  h ← heading_at formats_word w
  many is_some_name format_at h.1

unfoldable pub knows_section : ℕ → List Tok → Result (List KnowItem × List Tok) ReadNo
knows_section l w = do
  h ← heading_at knowledge_word w
  many is_some_name (know_at l) h.1

unfoldable pub actions_section : ℕ → List Tok → Result (List ActionItem × List Tok) ReadNo
actions_section l w = do
  h ← heading_at actions_word w
  many is_some_name (action_at l) h.1

unfoldable pub goals_at : List Tok → Result (Bool × List Tok) ReadNo
goals_at w = do
  h ← heading_at goals_word w
  Ok (true, h.1)

unfoldable pub end_at : List Tok → Result (Bool × List Tok) ReadNo
end_at w = do
  e ← expect end w
  Ok (false, e.1)

unfoldable pub ending_at : List Tok → Result (Bool × List Tok) ReadNo
ending_at w = if is_word goals_word (head w) then goals_at w else end_at w

unfoldable pub narration_at : ℕ → List Tok → Result (Written × List Tok) ReadNo
narration_at l w = do
  title ← title_at w
  suite ← optional (is_word suite_word) suite_section title.1
  types ← types_section suite.1
  formats ← optional (is_word formats_word) formats_section types.1
  knows ← optional (is_word knowledge_word) (knows_section l) formats.1
  actions ← actions_section l knows.1
  last ← ending_at actions.1
  Ok (record { title = title.0; suite = suite.0; types = types.0; formats = formats.0; knows = knows.0; actions = actions.0; goals = last.0 }, last.1)
