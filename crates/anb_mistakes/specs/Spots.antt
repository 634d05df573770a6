-- Where in a text stands what its narration is refused for. All of it is said of the tokens of the text.
use Rattle.std.specs.Prelude.{ℕ, ◌+◌, ◌-◌, List, [], ◌∷◌, ◌++◌, length, drop, Bool, true, false, ◌==◌, nat_eq, nat_le, nat_lt, ◌&&◌, ◌||◌, not, Option, Some, None, unwrap_or, slice_get, codes, if◌then◌else◌}
use Rattle.std.specs.List.{starts_with}
use Rattle.anb_syntax.specs.Grammar.{Narration, KnowItem, list_of}
use Rattle.anb_syntax.specs.Lexing.{Lexes}
use Rattle.anb_syntax.specs.Words.{Word, name, sign, Tok, head, tail, word_eqb, types_word, formats_word, knowledge_word, actions_word}
use Rattle.anb_format.specs.Formats.{field_count}
use Rattle.anb_format.specs.declared.pieces.FormatNo.{FormatNo}
use Rattle.anb_format.specs.declared.pieces.FormatNo.TheVariants.{NoHead, RestNotLast}
use Rattle.anb_syntax.specs.declared.narration.Sort.{Sort}
use Rattle.anb_syntax.specs.declared.narration.Sort.TheVariants.{Agent}
use Rattle.anb_mistakes.specs.Items.{is_format, pieces_of, sort_of}
use Rattle.anb_mistakes.specs.Beyond.{heavy_term, large_term, wide_format}
use Rattle.anb_protocol.specs.Names.{roles, terms}
use Rattle.anb_protocol.specs.declared.refusals.Item.TheVariants.{Know, Action}
use Rattle.anb_protocol.specs.declared.refusals.Kind.{Kind}
use Rattle.anb_protocol.specs.declared.refusals.Kind.TheVariants as kind
use Rattle.anb_protocol.specs.declared.refusals.ResolveNo.{ResolveNo}
use Rattle.anb_protocol.specs.declared.refusals.ResolveNo.TheVariants as resolving
use Rattle.anb_mistakes.specs.declared.spots.Follower.{Follower}

-- the tokens of a text, but for what stands behind the last
pub record HasTokens (x : List ℕ) (ts : List Tok) : Type 0 where
  pub last : Tok
  pub lexes : Lexes 0 x (ts ++ last ∷ [])

-- The depth behind a sign, and how many commas it adds: those outside of inner signs count. There is none
-- behind the sign that closes the outer one.
abbrev pub sign_step : ℕ → Word → Option (ℕ × ℕ)
sign_step depth w =
    if word_eqb (sign 40) w then Some (depth + 1, 0)
    else (if word_eqb (sign 41) w then (if depth == 0 then None else Some (depth - 1, 0))
    else (if word_eqb (sign 44) w && depth == 0 then Some (depth, 1) else Some (depth, 0)))

abbrev pub counted : Option (ℕ × ℕ) → (ℕ → ℕ) → ℕ
counted None others = 0
counted (Some step) others = step.1 + others step.0

abbrev pub commas : List Tok → ℕ → ℕ
commas [] depth = 0
commas (t ∷ ts) depth = counted (sign_step depth t.word) (commas ts)

-- how many arguments stand behind an opening sign
abbrev pub arguments : List Tok → ℕ
arguments ts = if word_eqb (sign 41) (head ts) then 0 else 1 + commas ts 0

-- a number of arguments, or another one than this
abbrev pub is_other : Option ℕ → ℕ → Bool
is_other None count = true
is_other (Some fields) count = not (count == fields)

-- what stands behind a name is one of the things that are sought
abbrev pub stands_behind : Follower → List Tok → Bool
stands_behind b ts =
    if word_eqb (sign 58) (head ts) then b.colon
    else (if word_eqb (sign 45) (head ts) then b.arrow
    else (if word_eqb (sign 40) (head ts) then b.paren && is_other b.but (arguments (tail ts))
    else (if word_eqb (sign 61) (head ts) then b.equals else b.other)))

-- a name, where it is told which
abbrev pub is_named : List ℕ → Word → Bool
is_named [] (name b) = true
is_named [] _ = false
is_named (c ∷ x) w = word_eqb (name (c ∷ x)) w

abbrev pub is_spot : List ℕ → Follower → List Tok → Bool
is_spot x b ts = is_named x (head ts) && stands_behind b (tail ts)

-- the tokens from the k-th such place on, counted from 0; none where there are fewer
abbrev pub nth : List ℕ → Follower → ℕ → List Tok → List Tok
nth x b k [] = []
nth x b k (t ∷ ts) = if is_spot x b (t ∷ ts) then (if k == 0 then t ∷ ts else nth x b (k - 1) ts) else nth x b k ts

-- the tokens behind the first of two words, and those before the first of three
abbrev pub behind : List ℕ → List ℕ → List Tok → List Tok
behind v w [] = []
behind v w (t ∷ ts) = if word_eqb (name v) t.word || word_eqb (name w) t.word then ts else behind v w ts

abbrev pub ends_types : Word → Bool
ends_types w = word_eqb (name formats_word) w || word_eqb (name knowledge_word) w || word_eqb (name actions_word) w

abbrev pub before_uses : List Tok → List Tok
before_uses [] = []
before_uses (t ∷ ts) = if ends_types t.word then [] else t ∷ before_uses ts

-- where names are declared with their sorts, and where names are used
abbrev pub typed : List Tok → List Tok
typed ts = before_uses (behind types_word types_word ts)

abbrev pub used : List Tok → List Tok
used ts = behind knowledge_word actions_word ts

-- The tokens from the first of the item on in which the offset stands: items end with semicolons.
abbrev pub item_from : (at : ℕ) → (item tokens : List Tok) → List Tok
item_from at item [] = item
item_from at item (t ∷ ts) =
    if nat_le at t.at then item else item_from at (if word_eqb (sign 59) t.word then ts else item) ts

abbrev pub item_at : ℕ → List Tok → List Tok
item_at at ts = item_from at ts ts

abbrev pub anything : Follower
anything = record { colon = true; arrow = true; paren = true; equals = true; other = true; but = None }

abbrev pub a_line : Follower
a_line = record { colon = true; arrow = false; paren = false; equals = false; other = false; but = None }

abbrev pub a_sender : Follower
a_sender = record { colon = false; arrow = true; paren = false; equals = false; other = false; but = None }

abbrev pub a_format : Follower
a_format = record { colon = false; arrow = false; paren = false; equals = true; other = false; but = None }

abbrev pub a_role : Follower
a_role = record { colon = true; arrow = true; paren = false; equals = false; other = false; but = None }

abbrev pub applied : Follower
applied = record { colon = false; arrow = false; paren = true; equals = false; other = false; but = None }

abbrev pub not_applied : Follower
not_applied = record { colon = true; arrow = true; paren = false; equals = false; other = true; but = None }

abbrev pub no_atom : Follower
no_atom = record { colon = true; arrow = true; paren = true; equals = false; other = false; but = None }

abbrev pub applied_but : ℕ → Follower
applied_but fields = record { colon = false; arrow = false; paren = true; equals = false; other = false; but = Some fields }

abbrev pub is_agent_sort : Option Sort → Bool
is_agent_sort (Some Agent) = true
is_agent_sort _ = false

-- where a name of this sort is used as something else
abbrev pub misused : Narration → List ℕ → Follower
misused n x = if is_format n.formats x then not_applied else (if is_agent_sort (sort_of n.types x) then applied else no_atom)

abbrev pub fields_of : Narration → List ℕ → ℕ
fields_of n x = field_count (pieces_of n.formats x)

abbrev pub first_of : List Tok → List Tok → List Tok
first_of [] ts = ts
first_of (t ∷ ts) us = t ∷ ts

-- both, where there are both
abbrev pub behind_some : List Tok → List Tok → List Tok
behind_some [] ts = []
behind_some (t ∷ us) ts = ts

-- A name a second time: among the types, as a format behind a type or behind a format, or as the head of
-- a line.
abbrev pub second : List ℕ → List Tok → List Tok
second x ts =
    first_of (nth x anything 1 (typed ts)) (first_of (behind_some (nth x anything 0 (typed ts)) (nth x a_format 0 ts))
    (first_of (nth x a_format 1 ts) (nth x a_line 1 (used ts))))

-- the action of a number that counts from 1, by its sender
abbrev pub action : ℕ → List Tok → List Tok
action n ts = nth [] a_sender (n - 1) (used ts)

-- the message of an action: behind the sender, the arrow, the receiver and the colon
abbrev pub behind_ends : List Tok → List Tok
behind_ends ts = tail (tail (tail (tail ts)))

abbrev pub message : ℕ → List Tok → List Tok
message n ts = behind_ends (action n ts)

-- ---- a term of a line of knowledge

abbrev pub is_end : Word → Bool
is_end w = word_eqb (sign 44) w || word_eqb (sign 59) w

-- the bytes of a word of a term
abbrev pub spelling : Word → List ℕ
spelling (name b) = b
spelling (sign c) = c ∷ []
spelling _ = []

-- a comma or a semicolon stands behind words that are spelled so
abbrev pub spells : List ℕ → List Tok → Bool
spells x [] = false
spells x (t ∷ ts) =
    if length x == 0 then is_end t.word
    else starts_with nat_eq x (spelling t.word) && spells (drop (length (spelling t.word)) x) ts

-- a term that is spelled so, or any where nothing is told
abbrev pub is_term : List ℕ → List Tok → Bool
is_term [] ts = true
is_term (c ∷ x) ts = spells (c ∷ x) ts

-- how many signs are open behind a word
abbrev pub depth_after : ℕ → Word → ℕ
depth_after depth w =
    if word_eqb (sign 40) w then depth + 1 else (if word_eqb (sign 41) w then depth - 1 else depth)

-- the word is a comma between the terms of a list
abbrev pub parts : ℕ → Word → Bool
parts depth w = word_eqb (sign 44) w && depth == 0

-- the tokens from the k-th such term of a list on, counted from 0; whether one begins here is told
abbrev pub known : (x : List ℕ) → (k : ℕ) → (begins : Bool) → (depth : ℕ) → List Tok → List Tok
known x k begins depth [] = []
known x k begins depth (t ∷ ts) =
    if begins && is_term x (t ∷ ts)
    then (if k == 0 then t ∷ ts else known x (k - 1) (parts depth t.word) (depth_after depth t.word) ts)
    else known x k (parts depth t.word) (depth_after depth t.word) ts

-- what stands behind the head of a line, and its colon
abbrev pub in_line : List Tok → List Tok
in_line ts = tail (tail ts)

-- A term of the narration, by its number from 0: first those of the lines of knowledge, the first of which
-- is the line of number i, and then the messages.
abbrev pub term_spot : List KnowItem → (i k : ℕ) → List Tok → List Tok
term_spot [] i k ts = behind_ends (nth [] a_sender k (used ts))
term_spot (l ∷ ls) i k ts =
    if nat_lt k (length (list_of l.terms)) then known [] k true 0 (in_line (nth [] a_line i (used ts)))
    else term_spot ls (i + 1) (k - length (list_of l.terms)) ts

-- ---- what is beyond a limit

abbrev pub is_long : Word → Bool
is_long (name b) = nat_lt 64 (length b)
is_long _ = false

-- the first name that is too long
abbrev pub long_name : List Tok → List Tok
long_name [] = []
long_name (t ∷ ts) = if is_long t.word then t ∷ ts else long_name ts

-- the role of a number from 0, where it first heads a line or stands at an end of an action
abbrev pub role_spot : Narration → ℕ → List Tok → List Tok
role_spot n k ts = nth (unwrap_or (slice_get (roles n) k) []) a_role 0 (used ts)

-- the first name, format, role, action or term that is beyond the limit
abbrev pub limit_spot : Narration → Kind → List Tok → List Tok
limit_spot n kind.Name ts = long_name ts
limit_spot n kind.Formats ts = nth [] a_format 64 ts
limit_spot n kind.Fields ts = nth [] a_format (wide_format n.formats) ts
limit_spot n kind.Roles ts = role_spot n 32 ts
limit_spot n kind.Actions ts = nth [] a_sender 256 (used ts)
limit_spot n kind.TermNodes ts = term_spot n.knows 0 (large_term 1024 (terms n)) ts
limit_spot n kind.AllNodes ts = term_spot n.knows 0 (heavy_term 65536 (terms n)) ts

-- the first `rest` of a format
abbrev pub rest_spot : List ℕ → List Tok → List Tok
rest_spot x ts = nth (codes "rest") anything 0 (in_line (nth x a_format 0 ts))

abbrev pub shape_spot : FormatNo → List ℕ → List Tok → List Tok
shape_spot NoHead x ts = nth x a_format 0 ts
shape_spot (RestNotLast i) x ts = rest_spot x ts

-- the tokens from there on, where nothing is beyond a limit
abbrev pub fault_spot : Narration → ResolveNo → List Tok → List Tok
fault_spot n (resolving.Limit k count) ts = ts
fault_spot n (resolving.Twice x) ts = second x ts
fault_spot n (resolving.Unknown x) ts = nth x anything 0 (used ts)
fault_spot n (resolving.WrongSort x) ts = nth x (misused n x) 0 (used ts)
fault_spot n (resolving.WrongCount x) ts = nth x (applied_but (fields_of n x)) 0 (used ts)
fault_spot n (resolving.FormatShape x why) ts = shape_spot why x ts
fault_spot n (resolving.Overlap x y) ts = nth y a_format 0 ts
fault_spot n (resolving.SelfSend i) ts = action i ts
fault_spot n (resolving.KnowledgeTwice role x) ts = known x 1 true 0 (in_line (nth role a_line 0 (used ts)))
fault_spot n (resolving.Wide (Know role)) ts = nth role a_line 0 (used ts)
fault_spot n (resolving.Wide (Action i)) ts = action i ts
fault_spot n resolving.NoMemory ts = ts

-- the tokens from there on
abbrev pub spot : Narration → ResolveNo → List Tok → List Tok
spot n (resolving.Limit k count) ts = limit_spot n k ts
spot n why ts = fault_spot n why ts
