-- Instructions: their words, which are read again.
use Rattle.std.proofs.Common.{◌≡◌, ◌⊎◌, inl, inr, ℕ, ◌<◌, List, [], ◌∷◌, ◌++◌, length, map, Bool, true, Option, Some, None, refl, sym, ap, ◌∙◌, subst, cond, arith}
use Rattle.std.specs.Prelude.{◌==◌, ◌&&◌, codes, All, nat_lt}
use Rattle.std.specs.List.{AllByRecursion, list_all}
use Rattle.std.specs.Str.{bytes_eq}
use Rattle.std.proofs.lemmas.Bool.{and_parts, eqb-true, eq-eqb}
use Rattle.std.proofs.lemmas.Bool.Decides.{nat_tests}
use Rattle.std.proofs.lemmas.List.Elements.{All-cons, All-head, All-nil, All-tail}
use Rattle.std.proofs.lemmas.List.{append-nil}
use Rattle.std.proofs.lemmas.List.Sums.{AllPass-from_list_all, list_all-from_AllPass}
use Rattle.std.proofs.lemmas.Option.{same_Some}
use Rattle.anb_lemmas.proofs.Options.{guard_passed}
use Rattle.anb_values.specs.Lines.{IsLabel, is_label_byte}
use Rattle.anb_syntax.specs.Words.{is_name}
use Rattle.anb_code.specs.declared.raw.What.{What}
use Rattle.anb_code.specs.declared.raw.What.TheVariants as what
use Rattle.anb_code.specs.RawValue.{RawInstrValue}
use Rattle.anb_code.specs.Table.{CountsAre}
use Rattle.anb_text.specs.Lines.{IsInstr, IsNameFor, register, what_word}
use Rattle.anb_text.specs.Reading.{◌>>=◌, Front, Named, after_equals, counted, counts_are, ended_front, front_of, instr_of, is_label, named, named_if, operation, what_of}
use Rattle.anb_text.proofs.Choices.{bound, chosen, same_bytes}
use Rattle.anb_text.proofs.Registers.{IsSmall, NoRegister, all_front, front_again, front_is}

-- ---- facts of each item

pub by_recursion : {X : Type 0} (P : X → Type 0) (xs : List X) → All P xs → AllByRecursion P xs
by_recursion P [] all = tt
by_recursion P (x ∷ xs) all = (All-head P x xs all, by_recursion P xs (All-tail P x xs all))

pub by_place : {X : Type 0} (P : X → Type 0) (xs : List X) → AllByRecursion P xs → All P xs
by_place P [] all = All-nil P
by_place P (x ∷ xs) all = All-cons P x xs all.0 (by_place P xs all.1)

-- ---- what an instruction does

what_again : (w : What) → what_of (what_word w) ≡ Some w
what_again what.Take = refl
what_again what.Fresh = refl
what_again what.Recv = refl
what_again what.Hash = refl
what_again what.Mac = refl
what_again what.Seal = refl
what_again what.Unseal = refl
what_again what.Wrap = refl
what_again what.Unwrap = refl
what_again what.Build = refl
what_again what.Parse = refl
what_again what.Equal = refl
what_again what.Send = refl

-- a word that is this one, or one of the others
one_of : (x : What) (word : List ℕ) (others : Option What) (w : What) → cond (bytes_eq (what_word x) word) (Some x) others ≡ Some w → (word ≡ what_word w) ⊎ (others ≡ Some w)
one_of x word others w e = elim (chosen (bytes_eq (what_word x) word) (Some x) others w e) [
  | inl this ↦ inl (same_bytes (what_word x) word this.0 ∙ ap what_word (same_Some x w this.1))
  | inr other ↦ inr other
]

or_else : {A B : Type 0} → A ⊎ B → (B → A) → A
or_else (inl a) f = a
or_else (inr b) f = f b

what_is : (word : List ℕ) (w : What) → what_of word ≡ Some w → word ≡ what_word w
what_is word w e =
    or_else (one_of what.Take word _ w e) (λ e.
    or_else (one_of what.Fresh word _ w e) (λ e.
    or_else (one_of what.Recv word _ w e) (λ e.
    or_else (one_of what.Hash word _ w e) (λ e.
    or_else (one_of what.Mac word _ w e) (λ e.
    or_else (one_of what.Seal word _ w e) (λ e.
    or_else (one_of what.Unseal word _ w e) (λ e.
    or_else (one_of what.Wrap word _ w e) (λ e.
    or_else (one_of what.Unwrap word _ w e) (λ e.
    or_else (one_of what.Build word _ w e) (λ e.
    or_else (one_of what.Parse word _ w e) (λ e.
    or_else (one_of what.Equal word _ w e) (λ e.
    or_else (one_of what.Send word None w e) (λ e. cc)))))))))))))

-- ---- how many registers

two_again : (a b x y : ℕ) → a ≡ x → b ≡ y → (a == x && b == y) ≡ true
two_again a b x y h k = rw (eq-eqb a x h, eq-eqb b y k) refl

two_are : (a b x y : ℕ) → (a == x && b == y) ≡ true → (a ≡ x) × (b ≡ y)
two_are a b x y h = let k = and_parts (a == x) (b == y) h in (eqb-true a x k.0, eqb-true b y k.1)

counts_again : (w : What) (to args : ℕ) → CountsAre w to args → counts_are w to args ≡ true
counts_again what.Take to args h = two_again to args 1 0 h.0 h.1
counts_again what.Fresh to args h = two_again to args 1 0 h.0 h.1
counts_again what.Recv to args h = two_again to args 1 0 h.0 h.1
counts_again what.Hash to args h = two_again to args 1 1 h.0 h.1
counts_again what.Mac to args h = two_again to args 1 2 h.0 h.1
counts_again what.Seal to args h = two_again to args 1 2 h.0 h.1
counts_again what.Unseal to args h = two_again to args 1 2 h.0 h.1
counts_again what.Wrap to args h = two_again to args 1 3 h.0 h.1
counts_again what.Unwrap to args h = two_again to args 1 3 h.0 h.1
counts_again what.Build to args h = eq-eqb to 1 h
counts_again what.Parse to args h = eq-eqb args 1 h
counts_again what.Equal to args h = two_again to args 0 2 h.0 h.1
counts_again what.Send to args h = two_again to args 0 1 h.0 h.1

counts_hold : (w : What) (to args : ℕ) → counts_are w to args ≡ true → CountsAre w to args
counts_hold what.Take to args h = two_are to args 1 0 h
counts_hold what.Fresh to args h = two_are to args 1 0 h
counts_hold what.Recv to args h = two_are to args 1 0 h
counts_hold what.Hash to args h = two_are to args 1 1 h
counts_hold what.Mac to args h = two_are to args 1 2 h
counts_hold what.Seal to args h = two_are to args 1 2 h
counts_hold what.Unseal to args h = two_are to args 1 2 h
counts_hold what.Wrap to args h = two_are to args 1 3 h
counts_hold what.Unwrap to args h = two_are to args 1 3 h
counts_hold what.Build to args h = eqb-true to 1 h
counts_hold what.Parse to args h = eqb-true args 1 h
counts_hold what.Equal to args h = two_are to args 0 2 h
counts_hold what.Send to args h = two_are to args 0 1 h

-- ---- names

-- the name as words
abbrev pub name_words : What → List ℕ → List (List ℕ)
name_words what.Take name = name ∷ []
name_words what.Build name = name ∷ []
name_words what.Parse name = name ∷ []
name_words other name = []

pub label_again : (w : List ℕ) → IsLabel w → is_label w ≡ true
label_again w h = let some = h.0 in let first : nat_lt 0 (length w) ≡ true = grind (arith, nat_tests) in rw (first, list_all-from_AllPass is_label_byte w h.1) refl

pub label_is : (w : List ℕ) → is_label w ≡ true → IsLabel w
label_is w h =
    let k = and_parts (nat_lt 0 (length w)) (list_all is_label_byte w) h in
    let first = k.0 in
    let some : 0 < length w = grind (arith, nat_tests) in
    (some, AllPass-from_list_all is_label_byte w k.1)

if_again : (test : List ℕ → Bool) (name : List ℕ) (rest : List (List ℕ)) → test name ≡ true → named_if test (name ∷ rest) ≡ Some (record { name = name; rest = rest })
if_again test name rest h = rw h refl

none_again : (w : What) (name : List ℕ) (rest : List (List ℕ)) → name ≡ [] → ◌≡◌ {A = Option Named} (Some (record { name = []; rest = rest })) (Some (record { name = name; rest = rest }))
none_again w name rest h = rw h refl

named_again : (w : What) (name : List ℕ) (rest : List (List ℕ)) → IsNameFor w name → named w (name_words w name ++ rest) ≡ Some (record { name = name; rest = rest })
named_again what.Take name rest h = if_again is_label name rest (label_again name h)
named_again what.Build name rest h = if_again is_name name rest h
named_again what.Parse name rest h = if_again is_name name rest h
named_again what.Fresh name rest h = none_again what.Fresh name rest h
named_again what.Recv name rest h = none_again what.Recv name rest h
named_again what.Hash name rest h = none_again what.Hash name rest h
named_again what.Mac name rest h = none_again what.Mac name rest h
named_again what.Seal name rest h = none_again what.Seal name rest h
named_again what.Unseal name rest h = none_again what.Unseal name rest h
named_again what.Wrap name rest h = none_again what.Wrap name rest h
named_again what.Unwrap name rest h = none_again what.Unwrap name rest h
named_again what.Equal name rest h = none_again what.Equal name rest h
named_again what.Send name rest h = none_again what.Send name rest h

-- words that are a name and others
record IsNamed (w : What) (words : List (List ℕ)) (n : Named) : Type 0 where
  stands : words ≡ name_words w n.name ++ n.rest
  name : IsNameFor w n.name

record IsFirst (test : List ℕ → Bool) (words : List (List ℕ)) (n : Named) : Type 0 where
  stands : words ≡ n.name ∷ n.rest
  name : test n.name ≡ true

first_is : (test : List ℕ → Bool) (words : List (List ℕ)) (n : Named) → named_if test words ≡ Some n → IsFirst test words n
first_is test [] n e = cc
first_is test (word ∷ words) n e =
    let k = guard_passed (test word) (Some (record { name = word; rest = words })) n e in
    let same : record { name = word; rest = words } ≡ n = same_Some _ n k.1 in
    subst (IsFirst test (word ∷ words)) same (record { stands = refl; name = k.0 })

none_is : (words : List (List ℕ)) (n : Named) → ◌≡◌ {A = Option Named} (Some (record { name = []; rest = words })) (Some n) → (n.name ≡ []) × (words ≡ n.rest)
none_is words n e = let same : record { name = []; rest = words } ≡ n = same_Some _ n e in (sym (ap (λ (m : Named). m.name) same), ap (λ (m : Named). m.rest) same)

named_is : (w : What) (words : List (List ℕ)) (n : Named) → named w words ≡ Some n → IsNamed w words n
named_is what.Take words n e = let k = first_is is_label words n e in record { stands = k.stands; name = label_is n.name k.name }
named_is what.Build words n e = let k = first_is is_name words n e in record { stands = k.stands; name = k.name }
named_is what.Parse words n e = let k = first_is is_name words n e in record { stands = k.stands; name = k.name }
named_is what.Fresh words n e = let k = none_is words n e in record { stands = k.1; name = k.0 }
named_is what.Recv words n e = let k = none_is words n e in record { stands = k.1; name = k.0 }
named_is what.Hash words n e = let k = none_is words n e in record { stands = k.1; name = k.0 }
named_is what.Mac words n e = let k = none_is words n e in record { stands = k.1; name = k.0 }
named_is what.Seal words n e = let k = none_is words n e in record { stands = k.1; name = k.0 }
named_is what.Unseal words n e = let k = none_is words n e in record { stands = k.1; name = k.0 }
named_is what.Wrap words n e = let k = none_is words n e in record { stands = k.1; name = k.0 }
named_is what.Unwrap words n e = let k = none_is words n e in record { stands = k.1; name = k.0 }
named_is what.Equal words n e = let k = none_is words n e in record { stands = k.1; name = k.0 }
named_is what.Send words n e = let k = none_is words n e in record { stands = k.1; name = k.0 }

-- ---- instructions

-- the words from what an instruction does
abbrev pub operation_words : RawInstrValue → List (List ℕ)
operation_words i = what_word i.what ∷ (name_words i.what i.name ++ map register i.args)

-- the registers that are written, and `=` behind them
abbrev pub target_words : List ℕ → List (List ℕ) → List (List ℕ)
target_words [] words = words
target_words (r ∷ rs) words = register r ∷ (map register rs ++ codes "=" ∷ words)

abbrev pub instr_words : RawInstrValue → List (List ℕ)
instr_words i = target_words i.to (operation_words i)

counted_again : (i : RawInstrValue) → CountsAre i.what (length i.to) (length i.args) → counted i ≡ Some i
counted_again i h = rw (counts_again i.what (length i.to) (length i.args) h) refl

operation_again : (i : RawInstrValue) → IsInstr i → operation i.to (operation_words i) ≡ Some i
unfolding operation
operation_again i h =
    let args : ended_front (front_of (map register i.args)) ≡ Some i.args = rw (all_front i.args (by_recursion IsSmall i.args h.args)) refl in
    rw (what_again i.what, named_again i.what i.name (map register i.args) h.name, args) (counted_again i h.counts)

no_register : (w : What) (args : ℕ) (rest : List (List ℕ)) → CountsAre w 0 args → NoRegister (what_word w ∷ rest)
no_register what.Take args rest h = absurd (omega (arith, h.0))
no_register what.Fresh args rest h = absurd (omega (arith, h.0))
no_register what.Recv args rest h = absurd (omega (arith, h.0))
no_register what.Hash args rest h = absurd (omega (arith, h.0))
no_register what.Mac args rest h = absurd (omega (arith, h.0))
no_register what.Seal args rest h = absurd (omega (arith, h.0))
no_register what.Unseal args rest h = absurd (omega (arith, h.0))
no_register what.Wrap args rest h = absurd (omega (arith, h.0))
no_register what.Unwrap args rest h = absurd (omega (arith, h.0))
no_register what.Build args rest h = absurd (omega (arith, h))
no_register what.Parse args rest h = refl
no_register what.Equal args rest h = refl
no_register what.Send args rest h = refl

-- the registers that are written are read again before words that give something
target_again : (to : List ℕ) (words : List (List ℕ)) (i : RawInstrValue) → AllByRecursion IsSmall to → (to ≡ [] → NoRegister words) → operation to words ≡ Some i
    → instr_of (target_words to words) ≡ Some i
unfolding instr_of
target_again [] words i all none e = rw (front_again [] words tt (none refl)) e
target_again (r ∷ rs) words i all none e = rw (front_again (r ∷ rs) (codes "=" ∷ words) all refl) e

bare : (i : RawInstrValue) → IsInstr i → i.to ≡ [] → NoRegister (operation_words i)
bare i h e = no_register i.what (length i.args) (name_words i.what i.name ++ map register i.args) (subst (λ (to : List ℕ). CountsAre i.what (length to) (length i.args)) e h.counts)

pub instr_again : (i : RawInstrValue) → IsInstr i → instr_of (instr_words i) ≡ Some i
instr_again i h = target_again i.to (operation_words i) i (by_recursion IsSmall i.to h.to) (bare i h) (operation_again i h)

-- what was read as an instruction
pub record IsRead (words : List (List ℕ)) (i : RawInstrValue) : Type 0 where
  pub stands : words ≡ instr_words i
  pub is : IsInstr i

counted_is : (i j : RawInstrValue) → counted i ≡ Some j → CountsAre i.what (length i.to) (length i.args) × (i ≡ j)
counted_is i j e = let k = guard_passed (counts_are i.what (length i.to) (length i.args)) (Some i) j e in (counts_hold i.what (length i.to) (length i.args) k.0, same_Some i j k.1)

ended_is : (front : Front) (args : List ℕ) → ended_front front ≡ Some args → (front.rest ≡ []) × (front.registers ≡ args)
ended_is front args e = elim_rest front.registers front.rest e
  where
    elim_rest : (registers : List ℕ) (rest : List (List ℕ)) → ended_front (record { registers = registers; rest = rest }) ≡ Some args → (rest ≡ []) × (registers ≡ args)
    elim_rest registers [] e = (refl, same_Some registers args e)
    elim_rest registers (w ∷ ws) e = cc

record IsArgs (words : List (List ℕ)) (args : List ℕ) : Type 0 where
  stands : words ≡ map register args
  small : AllByRecursion IsSmall args

args_are : (words : List (List ℕ)) (args : List ℕ) → ended_front (front_of words) ≡ Some args → IsArgs words args
args_are words args e =
    let front = front_is words in
    let end = ended_is (front_of words) args e in record {
      stands = front.stands ∙ ap (λ (rest : List (List ℕ)). map register (front_of words).registers ++ rest) end.0 ∙ append-nil _ ∙ ap (map register) end.1;
      small = subst (AllByRecursion IsSmall) end.1 front.small;
    }

record IsOperation (to : List ℕ) (words : List (List ℕ)) (i : RawInstrValue) : Type 0 where
  stands : words ≡ operation_words i
  is : IsInstr i
  same : i.to ≡ to

-- what the steps of reading give
parts_are : (to : List ℕ) (word : List ℕ) (words : List (List ℕ)) (w : What) (n : Named) (args : List ℕ) (i : RawInstrValue) → AllByRecursion IsSmall to → what_of word ≡ Some w → named w words ≡ Some n
    → ended_front (front_of n.rest) ≡ Some args → counted (record { to = to; what = w; name = n.name; args = args }) ≡ Some i → IsOperation to (word ∷ words) i
parts_are to word words w n args i small one two three four =
    let j : RawInstrValue = record { to = to; what = w; name = n.name; args = args } in
    let counts = counted_is j i four in
    let name = named_is w words n two in
    let operands = args_are n.rest args three in
    subst (IsOperation to (word ∷ words)) {x = j} counts.1 (record {
      stands = ap (λ (x : List ℕ). x ∷ words) (what_is word w one)
          ∙ ap (λ (xs : List (List ℕ)). what_word w ∷ xs) (name.stands ∙ ap (λ (xs : List (List ℕ)). name_words w n.name ++ xs) operands.stands);
      is = record { counts = counts.0; name = name.name; to = by_place IsSmall to small; args = by_place IsSmall args operands.small };
      same = refl;
    })

operation_is : (to : List ℕ) (words : List (List ℕ)) (i : RawInstrValue) → AllByRecursion IsSmall to → operation to words ≡ Some i → IsOperation to words i
unfolding operation
operation_is to [] i small e = cc
operation_is to (word ∷ words) i small e =
    let one = bound (what_of word) (λ w. named w words >>= λ n. ended_front (front_of n.rest) >>= λ args. counted (record { to = to; what = w; name = n.name; args = args })) i e in
    let two = bound (named one.value words) (λ n. ended_front (front_of n.rest) >>= λ args. counted (record { to = to; what = one.value; name = n.name; args = args })) i one.then in
    let three = bound (ended_front (front_of two.value.rest)) (λ args. counted (record { to = to; what = one.value; name = two.value.name; args = args })) i two.then in
    parts_are to word words one.value two.value three.value i small one.is two.is three.is three.then

after_is : (to : List ℕ) (words rest : List (List ℕ)) → after_equals to words ≡ Some rest → map register to ++ words ≡ target_words to rest
after_is [] words rest e = same_Some words rest e
after_is (r ∷ rs) [] rest e = cc
after_is (r ∷ rs) (word ∷ words) rest e =
    let k = guard_passed (bytes_eq (codes "=") word) (Some words) rest e in
    ap (λ (x : List ℕ). register r ∷ (map register rs ++ x ∷ words)) (same_bytes (codes "=") word k.0)
    ∙ ap (λ (xs : List (List ℕ)). register r ∷ (map register rs ++ codes "=" ∷ xs)) (same_Some words rest k.1)

pub instr_is : (words : List (List ℕ)) (i : RawInstrValue) → instr_of words ≡ Some i → IsRead words i
unfolding instr_of
instr_is words i e =
    let front = front_is words in
    let to = (front_of words).registers in
    let k = bound (after_equals to (front_of words).rest) (operation to) i e in
    let op = operation_is to k.value i front.small k.then in record {
      stands = front.stands ∙ after_is to (front_of words).rest k.value k.is ∙ ap (target_words to) op.stands ∙ ap (λ (rs : List ℕ). target_words rs (operation_words i)) (sym op.same);
      is = op.is;
    }
