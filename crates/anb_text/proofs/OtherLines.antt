-- Lines that are no format lines: their words, which are read again.
use Rattle.std.proofs.Common.{◌≡◌, inl, inr, ℕ, List, [], ◌∷◌, ◌++◌, length, map, Bool, true, Option, Some, None, refl, sym, ap, ◌∙◌, subst, arith, append_assoc}
use Rattle.std.specs.Prelude.{not, codes}
use Rattle.std.specs.List.{AllByRecursion, flat_map, list_all, list_any}
use Rattle.std.specs.Str.{bytes_eq}
use Rattle.std.proofs.lemmas.Bool.{and_parts}
use Rattle.std.proofs.lemmas.Bool.Decides.{nat_tests}
use Rattle.std.proofs.lemmas.Grind.{flat_map-append}
use Rattle.std.proofs.lemmas.List.{append-nil}
use Rattle.std.proofs.lemmas.List.Folds.{flat_map-map}
use Rattle.std.proofs.lemmas.List.Sums.{list_all-from_AllPass}
use Rattle.std.proofs.lemmas.Option.{same_Some}
use Rattle.anb_lemmas.proofs.Options.{guard_passed}
use Rattle.anb_base.specs.declared.content.Suite.{Suite}
use Rattle.anb_base.specs.declared.content.Suite.TheVariants as suite
use Rattle.anb_values.specs.Lines.{IsLabel, is_label_byte}
use Rattle.anb_syntax.specs.Words.{hash_name, is_letter, is_name, is_name_byte, is_spelled, reserved_words, suite_of_word}
use Rattle.anb_code.specs.declared.raw.What.{What}
use Rattle.anb_code.specs.declared.raw.What.TheVariants as what
use Rattle.anb_code.specs.RawValue.{RawInstrValue}
use Rattle.anb_code.specs.Table.{CountsAre}
use Rattle.anb_text.specs.declared.lines.Version.{Version}
use Rattle.anb_text.specs.declared.lines.Version.TheVariants as version
use Rattle.anb_text.specs.declared.lines.Line.{Line}
use Rattle.anb_text.specs.declared.lines.Line.TheVariants as line
use Rattle.anb_text.specs.Lines.{IsInstr, IsLine, IsNameFor, destinations, instr_line, line_bytes, operands, register, spaced_name, version_digit, what_word}
use Rattle.anb_text.specs.Reading.{◌>>=◌, head_of, instr_of, line_of, option_name, or_instr, version_of}
use Rattle.anb_text.proofs.Choices.{bound, chosen, first_differs, same_bytes}
use Rattle.anb_text.proofs.Words.{IsPlain, behind, is_plain, joined}
use Rattle.anb_text.proofs.Registers.{IsSmall, register_plain, registers_plain}
use Rattle.anb_text.proofs.Instrs.{by_recursion, instr_again, instr_is, instr_words, name_words, operation_words, target_words}

-- no format line
abbrev pub IsOther : Line → Type 0
IsOther (line.Format format) = ⊥
IsOther (line.Version v) = Unit {0}
IsOther (line.Protocol name) = Unit {0}
IsOther (line.Role name) = Unit {0}
IsOther (line.Suite s) = Unit {0}
IsOther line.Code = Unit {0}
IsOther (line.Instr i) = Unit {0}
IsOther line.End = Unit {0}

-- the words of a line that is no format line
abbrev pub line_words : Line → List (List ℕ)
line_words (line.Version v) = codes "anb-role" ∷ version_digit v ∷ []
line_words (line.Protocol name) = codes "protocol" ∷ name ∷ []
line_words (line.Role name) = codes "role" ∷ name ∷ []
line_words (line.Suite s) = codes "suite" ∷ hash_name s ∷ []
line_words (line.Format format) = []
line_words line.Code = codes "code" ∷ []
line_words (line.Instr i) = instr_words i
line_words line.End = codes "end" ∷ []

-- ---- read again

parse_head : (name : List ℕ) (rest : List (List ℕ)) → head_of (codes "parse" ∷ name ∷ rest) ≡ None
unfolding head_of
parse_head name [] = refl
parse_head name (w ∷ ws) = refl

equal_head : (rest : List (List ℕ)) → head_of (codes "equal" ∷ rest) ≡ None
unfolding head_of
equal_head [] = refl
equal_head (w ∷ []) = refl
equal_head (w ∷ v ∷ ws) = refl

send_head : (rest : List (List ℕ)) → head_of (codes "send" ∷ rest) ≡ None
unfolding head_of
send_head [] = refl
send_head (w ∷ []) = refl
send_head (w ∷ v ∷ ws) = refl

operation_head : (w : What) (name : List ℕ) (rest : List (List ℕ)) (args : ℕ) → CountsAre w 0 args → head_of (what_word w ∷ (name_words w name ++ rest)) ≡ None
operation_head what.Take name rest args h = absurd (omega (arith, h.0))
operation_head what.Fresh name rest args h = absurd (omega (arith, h.0))
operation_head what.Recv name rest args h = absurd (omega (arith, h.0))
operation_head what.Hash name rest args h = absurd (omega (arith, h.0))
operation_head what.Mac name rest args h = absurd (omega (arith, h.0))
operation_head what.Seal name rest args h = absurd (omega (arith, h.0))
operation_head what.Unseal name rest args h = absurd (omega (arith, h.0))
operation_head what.Wrap name rest args h = absurd (omega (arith, h.0))
operation_head what.Unwrap name rest args h = absurd (omega (arith, h.0))
operation_head what.Build name rest args h = absurd (omega (arith, h))
operation_head what.Parse name rest args h = parse_head name rest
operation_head what.Equal name rest args h = equal_head rest
operation_head what.Send name rest args h = send_head rest

target_head : (to : List ℕ) (w : List ℕ) (ws : List (List ℕ)) → (to ≡ [] → head_of (w ∷ ws) ≡ None) → head_of (target_words to (w ∷ ws)) ≡ None
unfolding head_of
target_head [] w ws h = h refl
target_head (r ∷ []) w ws h = refl
target_head (r ∷ s ∷ []) w ws h = refl
target_head (r ∷ s ∷ t ∷ rs) w ws h = refl

instr_head : (i : RawInstrValue) → IsInstr i → head_of (instr_words i) ≡ None
instr_head i h = target_head i.to (what_word i.what) (name_words i.what i.name ++ map register i.args)
    (λ e. operation_head i.what i.name (map register i.args) (length i.args) (subst (λ (to : List ℕ). CountsAre i.what (length to) (length i.args)) e h.counts))

version_again : (v : Version) → version_of (version_digit v) ≡ Some v
version_again version.One = refl
version_again version.Two = refl

suite_again : (s : Suite) → suite_of_word (hash_name s) ≡ Some s
suite_again suite.One = refl
suite_again suite.Two = refl

name_again : (name : List ℕ) → is_name name ≡ true → option_name name ≡ Some name
name_again name h = rw h refl

-- a line is read again from its words
pub line_again : (l : Line) → IsLine l → IsOther l → line_of (line_words l) ≡ Some l
unfolding head_of
line_again (line.Version v) h o = rw (version_again v) refl
line_again (line.Protocol name) h o = rw (name_again name h) refl
line_again (line.Role name) h o = rw (name_again name h) refl
line_again (line.Suite s) h o = rw (suite_again s) refl
line_again (line.Format format) h o = absurd o
line_again line.Code h o = refl
line_again (line.Instr i) h o = ap (λ (l : Option Line). or_instr l (instr_words i)) (instr_head i h) ∙ (rw (instr_again i h) refl)
line_again line.End h o = refl

-- ---- read

-- what was read as a line
pub record IsLineRead (words : List (List ℕ)) (l : Line) : Type 0 where
  pub stands : words ≡ line_words l
  pub is : IsLine l
  pub other : IsOther l

version_is : (w : List ℕ) (v : Version) → version_of w ≡ Some v → w ≡ version_digit v
version_is w v e = elim (chosen (bytes_eq (version_digit version.One) w) (Some version.One) _ v e) [
  | inl one ↦ same_bytes (version_digit version.One) w one.0 ∙ ap version_digit (same_Some version.One v one.1)
  | inr other ↦ let two = guard_passed (bytes_eq (version_digit version.Two) w) (Some version.Two) v other in same_bytes (version_digit version.Two) w two.0 ∙ ap version_digit (same_Some version.Two v two.1)
]

suite_is : (w : List ℕ) (s : Suite) → suite_of_word w ≡ Some s → w ≡ hash_name s
suite_is w s e = elim (chosen (bytes_eq (hash_name suite.One) w) (Some suite.One) _ s e) [
  | inl one ↦ same_bytes (hash_name suite.One) w one.0 ∙ ap hash_name (same_Some suite.One s one.1)
  | inr other ↦ let two = guard_passed (bytes_eq (hash_name suite.Two) w) (Some suite.Two) s other in same_bytes (hash_name suite.Two) w two.0 ∙ ap hash_name (same_Some suite.Two s two.1)
]

-- two words, of which the first is this one and the second has a value
pair_is : {A : Type 0} (kind word value : List ℕ) (test : List ℕ → Option A) (make : A → Line) (bytes : A → List ℕ) (l : Line)
    → ((w : List ℕ) (a : A) → test w ≡ Some a → (w ≡ bytes a) × (IsLine (make a) × IsOther (make a))) → ((a : A) → line_words (make a) ≡ kind ∷ bytes a ∷ [])
    → bytes_eq kind word ≡ true → (test value >>= λ a. Some (make a)) ≡ Some l → IsLineRead (word ∷ value ∷ []) l
pair_is kind word value test make bytes l sound words same e =
    let k = bound (test value) (λ a. Some (make a)) l e in
    let a = k.value in
    let s = sound value a k.is in
    subst (IsLineRead (word ∷ value ∷ [])) (same_Some (make a) l k.then) (record {
      stands = ap (λ (x : List ℕ). x ∷ value ∷ []) (same_bytes kind word same) ∙ ap (λ (x : List ℕ). kind ∷ x ∷ []) s.0 ∙ sym (words a);
      is = s.1.0;
      other = s.1.1;
    })

name_is : (w name : List ℕ) → option_name w ≡ Some name → (w ≡ name) × (is_name name ≡ true)
name_is w name e = let k = guard_passed (is_name w) (Some w) name e in let same : w ≡ name = same_Some w name k.1 in (same, subst (λ (x : List ℕ). is_name x ≡ true) same k.0)

head_is : (words : List (List ℕ)) (l : Line) → head_of words ≡ Some l → IsLineRead words l
unfolding head_of
head_is [] l e = cc
head_is (word ∷ []) l e = elim (chosen (bytes_eq (codes "code") word) (Some line.Code) _ l e) [
  | inl code ↦ subst (IsLineRead (word ∷ [])) (same_Some line.Code l code.1) (record { stands = ap (λ (x : List ℕ). x ∷ []) (same_bytes (codes "code") word code.0); is = tt; other = tt })
  | inr others ↦
      let end = guard_passed (bytes_eq (codes "end") word) (Some line.End) l others in
      subst (IsLineRead (word ∷ [])) (same_Some line.End l end.1) (record { stands = ap (λ (x : List ℕ). x ∷ []) (same_bytes (codes "end") word end.0); is = tt; other = tt })
]
head_is (word ∷ value ∷ []) l e = elim (chosen (bytes_eq (codes "anb-role") word) (version_of value >>= (λ v. Some (line.Version v))) _ l e) [
  | inl k ↦ pair_is (codes "anb-role") word value version_of line.Version version_digit l (λ w v h. (version_is w v h, (tt, tt))) (λ v. refl) k.0 k.1
  | inr others ↦
      elim (chosen (bytes_eq (codes "protocol") word) (option_name value >>= (λ n. Some (line.Protocol n))) _ l others) [
        | inl k ↦ pair_is (codes "protocol") word value option_name line.Protocol (λ n. n) l (λ w n h. let s = name_is w n h in (s.0, (s.1, tt))) (λ n. refl) k.0 k.1
        | inr others ↦
            elim (chosen (bytes_eq (codes "role") word) (option_name value >>= (λ n. Some (line.Role n))) _ l others) [
              | inl k ↦ pair_is (codes "role") word value option_name line.Role (λ n. n) l (λ w n h. let s = name_is w n h in (s.0, (s.1, tt))) (λ n. refl) k.0 k.1
              | inr others ↦
                  let k = guard_passed (bytes_eq (codes "suite") word) (suite_of_word value >>= (λ s. Some (line.Suite s))) l others in
                  pair_is (codes "suite") word value suite_of_word line.Suite hash_name l (λ w s h. (suite_is w s h, (tt, tt))) (λ s. refl) k.0 k.1
            ]
      ]
]
head_is (w ∷ v ∷ u ∷ ws) l e = cc

or_is : (words : List (List ℕ)) (head : Option Line) (l : Line) → head_of words ≡ head → or_instr head words ≡ Some l → IsLineRead words l
or_is words (Some m) l h e = head_is words l (h ∙ e)
or_is words None l h e =
    let k = bound (instr_of words) (λ i. Some (line.Instr i)) l e in
    let r = instr_is words k.value k.is in
    subst (IsLineRead words) (same_Some (line.Instr k.value) l k.then) (record { stands = r.stands; is = r.is; other = tt })

pub line_is : (words : List (List ℕ)) (l : Line) → line_of words ≡ Some l → IsLineRead words l
line_is words l e = or_is words (head_of words) l refl e

-- ---- as bytes

-- the registers that are written, in words
spaced_targets : (r : ℕ) (rs y : List ℕ) → flat_map (λ r. register r ++ 32 ∷ []) (r ∷ rs) ++ y ≡ register r ++ (flat_map (λ r. 32 ∷ register r) rs ++ 32 ∷ y)
spaced_targets r [] y = ap (λ (x : List ℕ). x ++ y) (append-nil (register r ++ 32 ∷ [])) ∙ append_assoc (register r) (32 ∷ []) y
spaced_targets r (s ∷ rs) y =
    append_assoc (register r ++ 32 ∷ []) (flat_map (λ r. register r ++ 32 ∷ []) (s ∷ rs)) y
    ∙ append_assoc (register r) (32 ∷ []) (flat_map (λ r. register r ++ 32 ∷ []) (s ∷ rs) ++ y)
    ∙ ap (λ (x : List ℕ). register r ++ 32 ∷ x) (spaced_targets s rs y ∙ sym (append_assoc (register s) (flat_map (λ r. 32 ∷ register r) rs) (32 ∷ y)))

targets : (to : List ℕ) (w : List ℕ) (ws : List (List ℕ)) → destinations to ++ joined (w ∷ ws) ≡ joined (target_words to (w ∷ ws))
targets [] w ws = refl
targets (r ∷ rs) w ws =
    append_assoc (flat_map (λ r. register r ++ 32 ∷ []) (r ∷ rs)) (codes "= ") (joined (w ∷ ws))
    ∙ spaced_targets r rs (codes "= " ++ joined (w ∷ ws))
    ∙ ap (λ (x : List ℕ). register r ++ (x ++ 32 ∷ (codes "= " ++ joined (w ∷ ws)))) (sym (flat_map-map (λ (v : List ℕ). 32 ∷ v) register rs))
    ∙ ap (λ (x : List ℕ). register r ++ x) (sym (flat_map-append (λ (v : List ℕ). 32 ∷ v) (map register rs) (codes "=" ∷ w ∷ ws)))

name_spaced : (w : What) (name : List ℕ) → spaced_name w name ≡ behind (name_words w name)
name_spaced what.Take name = ap (λ (x : List ℕ). 32 ∷ x) (sym (append-nil name))
name_spaced what.Build name = ap (λ (x : List ℕ). 32 ∷ x) (sym (append-nil name))
name_spaced what.Parse name = ap (λ (x : List ℕ). 32 ∷ x) (sym (append-nil name))
name_spaced what.Fresh name = refl
name_spaced what.Recv name = refl
name_spaced what.Hash name = refl
name_spaced what.Mac name = refl
name_spaced what.Seal name = refl
name_spaced what.Unseal name = refl
name_spaced what.Wrap name = refl
name_spaced what.Unwrap name = refl
name_spaced what.Equal name = refl
name_spaced what.Send name = refl

operation_text : (i : RawInstrValue) → what_word i.what ++ (spaced_name i.what i.name ++ operands i.args) ≡ joined (operation_words i)
operation_text i = ap (λ (x : List ℕ). what_word i.what ++ x)
    (rw (name_spaced i.what i.name, sym (flat_map-map (λ (w : List ℕ). 32 ∷ w) register i.args)) (sym (flat_map-append (λ (w : List ℕ). 32 ∷ w) (name_words i.what i.name) (map register i.args))))

instr_text : (i : RawInstrValue) → instr_line i ≡ joined (instr_words i)
instr_text i = ap (λ (x : List ℕ). destinations i.to ++ x) (operation_text i) ∙ targets i.to (what_word i.what) (name_words i.what i.name ++ map register i.args)

-- a line is its words, with a space between each two
pub line_text : (l : Line) → IsOther l → line_bytes l ≡ joined (line_words l)
line_text (line.Version v) o = ap (λ (x : List ℕ). codes "anb-role " ++ x) (sym (append-nil (version_digit v)))
line_text (line.Protocol name) o = ap (λ (x : List ℕ). codes "protocol " ++ x) (sym (append-nil name))
line_text (line.Role name) o = ap (λ (x : List ℕ). codes "role " ++ x) (sym (append-nil name))
line_text (line.Suite s) o = ap (λ (x : List ℕ). codes "suite " ++ x) (sym (append-nil (hash_name s)))
line_text (line.Format format) o = absurd o
line_text line.Code o = refl
line_text (line.Instr i) o = instr_text i
line_text line.End o = refl

-- ---- the bytes of words

letter_plain : (b : ℕ) → is_letter b ≡ true → is_plain b ≡ true
letter_plain b h = grind (arith, nat_tests)

name_byte_plain : (b : ℕ) → is_name_byte b ≡ true → is_plain b ≡ true
name_byte_plain b h = grind (arith, nat_tests)

label_byte_plain : (b : ℕ) → is_label_byte b ≡ true → is_plain b ≡ true
label_byte_plain b h = grind (arith, nat_tests)

all_plain : (test : ℕ → Bool) (w : List ℕ) → ((b : ℕ) → test b ≡ true → is_plain b ≡ true) → list_all test w ≡ true → IsPlain w
all_plain test [] each h = refl
all_plain test (b ∷ w) each h = let k = and_parts (test b) (list_all test w) h in rw (each b k.0) (all_plain test w each k.1)

spelled_plain : (w : List ℕ) → is_spelled w ≡ true → IsPlain w
spelled_plain [] h = refl
spelled_plain (b ∷ w) h = let k = and_parts (is_letter b) (list_all is_name_byte w) h in rw (letter_plain b k.0) (all_plain is_name_byte w name_byte_plain k.1)

pub name_plain : (w : List ℕ) → is_name w ≡ true → IsPlain w
unfolding is_name
name_plain w h = spelled_plain w (and_parts (is_spelled w) (not (list_any (bytes_eq w) reserved_words)) h).0

label_plain : (w : List ℕ) → IsLabel w → IsPlain w
label_plain w h = all_plain is_label_byte w label_byte_plain (list_all-from_AllPass is_label_byte w h.1)

what_plain : (w : What) → IsPlain (what_word w)
what_plain what.Take = refl
what_plain what.Fresh = refl
what_plain what.Recv = refl
what_plain what.Hash = refl
what_plain what.Mac = refl
what_plain what.Seal = refl
what_plain what.Unseal = refl
what_plain what.Wrap = refl
what_plain what.Unwrap = refl
what_plain what.Build = refl
what_plain what.Parse = refl
what_plain what.Equal = refl
what_plain what.Send = refl

names_plain : (w : What) (name : List ℕ) → IsNameFor w name → AllByRecursion IsPlain (name_words w name)
names_plain what.Take name h = (label_plain name h, tt)
names_plain what.Build name h = (name_plain name h, tt)
names_plain what.Parse name h = (name_plain name h, tt)
names_plain what.Fresh name h = tt
names_plain what.Recv name h = tt
names_plain what.Hash name h = tt
names_plain what.Mac name h = tt
names_plain what.Seal name h = tt
names_plain what.Unseal name h = tt
names_plain what.Wrap name h = tt
names_plain what.Unwrap name h = tt
names_plain what.Equal name h = tt
names_plain what.Send name h = tt

both_plain : (xs ys : List (List ℕ)) → AllByRecursion IsPlain xs → AllByRecursion IsPlain ys → AllByRecursion IsPlain (xs ++ ys)
both_plain [] ys h k = k
both_plain (x ∷ xs) ys h k = (h.0, both_plain xs ys h.1 k)

operation_plain : (i : RawInstrValue) → IsInstr i → AllByRecursion IsPlain (operation_words i)
operation_plain i h = (what_plain i.what, both_plain (name_words i.what i.name) (map register i.args) (names_plain i.what i.name h.name) (registers_plain i.args (by_recursion IsSmall i.args h.args)))

target_plain : (to : List ℕ) (words : List (List ℕ)) → AllByRecursion IsSmall to → AllByRecursion IsPlain words → AllByRecursion IsPlain (target_words to words)
target_plain [] words h k = k
target_plain (r ∷ rs) words h k = (register_plain r h.0, both_plain (map register rs) (codes "=" ∷ words) (registers_plain rs h.1) (refl, k))

version_plain : (v : Version) → IsPlain (version_digit v)
version_plain version.One = refl
version_plain version.Two = refl

suite_plain : (s : Suite) → IsPlain (hash_name s)
suite_plain suite.One = refl
suite_plain suite.Two = refl

pub line_plain : (l : Line) → IsLine l → IsOther l → AllByRecursion IsPlain (line_words l)
line_plain (line.Version v) h o = (refl, (version_plain v, tt))
line_plain (line.Protocol name) h o = (refl, (name_plain name h, tt))
line_plain (line.Role name) h o = (refl, (name_plain name h, tt))
line_plain (line.Suite s) h o = (refl, (suite_plain s, tt))
line_plain (line.Format format) h o = absurd o
line_plain line.Code h o = (refl, tt)
line_plain (line.Instr i) h o = target_plain i.to (operation_words i) (by_recursion IsSmall i.to h.to) (operation_plain i h)
line_plain line.End h o = (refl, tt)

-- ---- the first byte, which is that of no format line

operation_first : (w : What) (args : ℕ) (y x : List ℕ) → CountsAre w 0 args → what_word w ++ y ≡ 102 ∷ x → ⊥
operation_first what.Take args y x h e = absurd (omega (arith, h.0))
operation_first what.Fresh args y x h e = absurd (omega (arith, h.0))
operation_first what.Recv args y x h e = absurd (omega (arith, h.0))
operation_first what.Hash args y x h e = absurd (omega (arith, h.0))
operation_first what.Mac args y x h e = absurd (omega (arith, h.0))
operation_first what.Seal args y x h e = absurd (omega (arith, h.0))
operation_first what.Unseal args y x h e = absurd (omega (arith, h.0))
operation_first what.Wrap args y x h e = absurd (omega (arith, h.0))
operation_first what.Unwrap args y x h e = absurd (omega (arith, h.0))
operation_first what.Build args y x h e = absurd (omega (arith, h))
operation_first what.Parse args y x h e = first_differs _ 102 _ x refl e
operation_first what.Equal args y x h e = first_differs _ 102 _ x refl e
operation_first what.Send args y x h e = first_differs _ 102 _ x refl e

target_first : (to y x : List ℕ) → (to ≡ [] → y ≡ 102 ∷ x → ⊥) → destinations to ++ y ≡ 102 ∷ x → ⊥
target_first [] y x other e = other refl e
target_first (r ∷ rs) y x other e = first_differs 114 102 _ x refl e

pub other_first : (l : Line) (x : List ℕ) → IsLine l → IsOther l → line_bytes l ≡ 102 ∷ x → ⊥
other_first (line.Version v) x h o e = first_differs _ 102 _ x refl e
other_first (line.Protocol name) x h o e = first_differs _ 102 _ x refl e
other_first (line.Role name) x h o e = first_differs _ 102 _ x refl e
other_first (line.Suite s) x h o e = first_differs _ 102 _ x refl e
other_first (line.Format format) x h o e = o
other_first line.Code x h o e = first_differs _ 102 _ x refl e
other_first (line.Instr i) x h o e = target_first i.to (what_word i.what ++ (spaced_name i.what i.name ++ operands i.args)) x
    (λ none k. operation_first i.what (length i.args) (spaced_name i.what i.name ++ operands i.args) x (subst (λ (to : List ℕ). CountsAre i.what (length to) (length i.args)) none h.counts) k) e
other_first line.End x h o e = first_differs _ 102 _ x refl e
