-- What would mend a narration that isn't well formed.
use Rattle.std.specs.Prelude.{ℕ, List, [], ◌∷◌, ◌++◌, Bool, ◌==◌, ◌||◌, codes, decimal, Option, Some, None, if◌then◌else◌}
use Rattle.std.specs.List.{flat_map}
use Rattle.anb_format.specs.Formats.{field_count}
use Rattle.anb_format.specs.declared.pieces.FormatNo.{FormatNo}
use Rattle.anb_format.specs.declared.pieces.FormatNo.TheVariants.{NoHead, RestNotLast}
use Rattle.anb_format.specs.declared.pieces.Piece.{Piece}
use Rattle.anb_format.specs.declared.pieces.Piece.TheVariants.{Lit, Field}
use Rattle.anb_syntax.specs.Canon.{word_bytes}
use Rattle.anb_syntax.specs.Grammar.{Narration}
use Rattle.anb_syntax.specs.Words.{Tok, head, literal, sign, sort_word, tail, word_eqb}
use Rattle.anb_syntax.specs.declared.narration.Sort.{Sort}
use Rattle.anb_protocol.specs.declared.refusals.Kind.{Kind}
use Rattle.anb_protocol.specs.declared.refusals.Kind.TheVariants as kind
use Rattle.anb_protocol.specs.declared.refusals.ResolveNo.{ResolveNo}
use Rattle.anb_protocol.specs.declared.refusals.ResolveNo.TheVariants as resolving
use Rattle.anb_mistakes.specs.Items.{is_format, pieces_of, sort_of}
use Rattle.anb_mistakes.specs.Near.{hint, near_among, near_text}
use Rattle.anb_mistakes.specs.Spots.{arguments}

abbrev pub most : Kind → ℕ
most kind.Name = 64
most kind.Formats = 64
most kind.Fields = 32
most kind.Roles = 32
most kind.Actions = 256
most kind.TermNodes = 1024
most kind.AllNodes = 65536

abbrev pub fields_text : ℕ → List ℕ
fields_text count = if count == 1 then codes "1 field" else decimal count ++ codes " fields"

abbrev pub given_text : ℕ → List ℕ
given_text count = if count == 1 then codes "1 is given" else decimal count ++ codes " are given"

-- the names of the types and of the formats that are near
abbrev pub near : Narration → List ℕ → List ℕ
near n x = flat_map (λ i. near_among i.names x) n.types ++ flat_map (λ f. hint x f.title) n.formats

abbrev pub sort_text : Option Sort → List ℕ
sort_text None = []
sort_text (Some s) = sort_word s

-- a role is due there: a colon or an arrow stands behind the name
abbrev pub is_for_role : List Tok → Bool
is_for_role ts = word_eqb (sign 58) (head ts) || word_eqb (sign 45) (head ts)

-- how a format without fields is written, where it may stand
abbrev pub written : List ℕ → List Tok → List ℕ
written x ts = if is_for_role ts then [] else codes ": write " ++ (x ++ codes "()")

-- where these tokens stand behind the name
abbrev pub unsorted : Narration → List ℕ → List Tok → List ℕ
unsorted n x ts =
    if is_format n.formats x then (if field_count (pieces_of n.formats x) == 0
    then x ++ (codes " is a format without fields" ++ written x ts)
    else x ++ (codes " is a format with " ++ fields_text (field_count (pieces_of n.formats x))))
    else x ++ (codes " is declared as " ++ sort_text (sort_of n.types x))

abbrev pub miscounted : Narration → List ℕ → ℕ → List ℕ
miscounted n x given = x ++ (codes " has " ++ (fields_text (field_count (pieces_of n.formats x)) ++ (codes ", " ++ given_text given)))

abbrev pub shape_text : FormatNo → List ℕ
shape_text NoHead = codes "it must begin with a literal that isn't empty"
shape_text (RestNotLast i) = codes "rest must be the last field"

-- the literals before the first field, each behind a space
abbrev pub lead : List Piece → List ℕ
lead [] = []
lead (Lit b ∷ pieces) = 32 ∷ word_bytes (literal b) ++ lead pieces
lead (Field k ∷ pieces) = []

abbrev pub overlap : Narration → List ℕ → List ℕ → List ℕ
overlap n f g =
    f ++ (codes " begins with" ++ (lead (pieces_of n.formats f) ++ (codes ", " ++ (g ++ (codes " with" ++ lead (pieces_of n.formats g))))))

-- where the tokens stand from the place on
abbrev pub mend : Narration → ResolveNo → List Tok → List ℕ
mend n (resolving.Limit k count) ts = codes "at most " ++ decimal (most k)
mend n (resolving.Twice x) ts = codes "a name is declared once, and a role has one line of knowledge"
mend n (resolving.Unknown x) ts = x ++ (codes " isn't declared" ++ near_text (near n x))
mend n (resolving.WrongSort x) ts = unsorted n x (tail ts)
mend n (resolving.WrongCount x) ts = miscounted n x (arguments (tail (tail ts)))
mend n (resolving.FormatShape x why) ts = shape_text why
mend n (resolving.Overlap f g) ts = overlap n f g
mend n (resolving.SelfSend i) ts = codes "an action goes to another role"
mend n (resolving.KnowledgeTwice role t) ts = codes "a term is listed once"
mend n (resolving.Wide what) ts = codes "a term has at most 67108864 bytes"
mend n resolving.NoMemory ts = []
