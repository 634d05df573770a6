-- The reader of whole narrations.
use Rattle.std.proofs.Common.{◌≡◌, ℕ, ◌<◌, List, [], ◌∷◌, ◌++◌, Bool, true, false, Option, Some, None, refl, ap, ◌∙◌}
use Rattle.std.specs.Prelude.{◌&&◌, not, unwrap_or}
use Rattle.std.specs.List.{flat_map, list_all, AllByRecursion}
use Rattle.std.proofs.lemmas.List.{append-nil}
use Rattle.anb_base.specs.declared.content.Suite.{Suite}
use Rattle.anb_syntax.specs.Words.{Word, name, end, Tok, head, Begins, colon, semicolon, suite_word, types_word, formats_word, knowledge_word, actions_word, goals_word, hash_name, is_name}
use Rattle.anb_syntax.specs.Grammar.{spell_type, FormatItem, IsFormatItem, spell_format, KnowItem, IsKnowItem, spell_know, spell_action, Written, told, IsNarration, fits, spell, spell_suite, spell_formats, spell_knows, spell_ending}
use Rattle.anb_read.specs.Productions.{is_word, is_sort, is_some_name, narration_at}
use Rattle.anb_read.proofs.Readers.{Reads}
use Rattle.anb_read.proofs.Parts.{reads_nothing, reads_as, always, yes}
use Rattle.anb_read.proofs.Then.{reads_then}
use Rattle.anb_read.proofs.Optional.{IsMaybe, maybe_fits, maybe_words, maybe_stops, reads_optional}
use Rattle.anb_read.proofs.Picks.{seq, seq_until, next_is}
use Rattle.anb_read.proofs.Rows.{all_yes}
use Rattle.anb_read.proofs.Trees.{and_true}
use Rattle.anb_read.proofs.Written.{fits_know, fits_action, title_words, suite_words, reads_title, reads_suite_section, reads_types, reads_formats, reads_knows, reads_actions, reads_ending}

abbrev formats_words : List FormatItem → List Word
formats_words is = name formats_word ∷ colon ∷ flat_map spell_format is

abbrev knows_words : List KnowItem → List Word
knows_words is = name knowledge_word ∷ colon ∷ flat_map spell_know is

abbrev no_item : {A : Type 0} → List A → Word → Bool
no_item is x = not (is_some_name x)

-- what follows the types, and the formats
next_knows : (T : Word → Bool) → T (name knowledge_word) ≡ true → T (name actions_word) ≡ true → (k : Option (List KnowItem)) (xs : List Word) (w rest : List Tok)
    → Begins w (maybe_words knows_words k ++ name actions_word ∷ xs) rest → T (head w) ≡ true
next_knows T hk ha None xs w rest g = next_is T true (name actions_word) xs w rest g ha
next_knows T hk ha (Some is) xs w rest g = next_is T true (name knowledge_word) ((colon ∷ flat_map spell_know is) ++ name actions_word ∷ xs) w rest g hk

next_formats : (T : Word → Bool) → T (name formats_word) ≡ true → T (name knowledge_word) ≡ true → T (name actions_word) ≡ true → (f : Option (List FormatItem)) (k : Option (List KnowItem)) (xs : List Word) (w rest : List Tok)
    → Begins w (maybe_words formats_words f ++ (maybe_words knows_words k ++ name actions_word ∷ xs)) rest → T (head w) ≡ true
next_formats T hf hk ha None k xs w rest g = next_knows T hk ha k xs w rest g
next_formats T hf hk ha (Some is) k xs w rest g = next_is T true (name formats_word) ((colon ∷ flat_map spell_format is) ++ (maybe_words knows_words k ++ name actions_word ∷ xs)) w rest g hf

next_ending : (b : Bool) (w rest : List Tok) → Begins w (spell_ending b ++ []) rest → not (is_some_name (head w)) ≡ true
unfolding is_name
next_ending true w rest g = next_is (λ x. not (is_some_name x)) true (name goals_word) (colon ∷ []) w rest g refl
next_ending false w rest g = next_is (λ x. not (is_some_name x)) true end [] w rest g refl

abbrev suite_stops : Option Suite → Word → Bool
suite_stops = maybe_stops always (is_word suite_word)

abbrev formats_stops : Option (List FormatItem) → Word → Bool
formats_stops = maybe_stops no_item (is_word formats_word)

abbrev knows_stops : Option (List KnowItem) → Word → Bool
knows_stops = maybe_stops no_item (is_word knowledge_word)

suite_ends : (o : Option Suite) → suite_stops o (name types_word) ≡ true
suite_ends None = refl
suite_ends (Some s) = refl

formats_end : (o : Option (List FormatItem)) (x : Word) → not (is_some_name x) ≡ true → is_word formats_word x ≡ false → formats_stops o x ≡ true
formats_end None x h e = rw e refl
formats_end (Some is) x h e = h

knows_end : (o : Option (List KnowItem)) → knows_stops o (name actions_word) ≡ true
unfolding is_name
knows_end None = refl
knows_end (Some is) = refl

no_knowledge : not (is_some_name (name knowledge_word)) ≡ true
unfolding is_name
no_knowledge = refl

no_actions : not (is_some_name (name actions_word)) ≡ true
unfolding is_name
no_actions = refl

-- an optional section is a list
maybe_list : {A : Type 0} (V : A → Type 0) (o : Option (List A)) → IsMaybe (AllByRecursion V) o → AllByRecursion V (unwrap_or o [])
maybe_list V None v = tt
maybe_list V (Some is) v = v

list_maybe : {A : Type 0} (V : A → Type 0) (o : Option (List A)) → AllByRecursion V (unwrap_or o []) → IsMaybe (AllByRecursion V) o
list_maybe V None v = tt
list_maybe V (Some is) v = v

any_suite : (o : Option Suite) → IsMaybe (λ s. Unit {0}) o
any_suite None = tt
any_suite (Some s) = tt

maybe_yes : {A : Type 0} (o : Option A) → maybe_fits yes o ≡ true
maybe_yes None = refl
maybe_yes (Some a) = refl

maybe_all_yes : {A : Type 0} (o : Option (List A)) → maybe_fits (list_all yes) o ≡ true
maybe_all_yes None = refl
maybe_all_yes (Some is) = all_yes is

maybe_all : {A : Type 0} (f : A → Bool) (o : Option (List A)) → maybe_fits (list_all f) o ≡ list_all f (unwrap_or o [])
maybe_all f None = refl
maybe_all f (Some is) = refl

same_suite : (o : Option Suite) → maybe_words suite_words o ≡ spell_suite o
same_suite None = refl
same_suite (Some s) = refl

same_formats : (o : Option (List FormatItem)) → maybe_words formats_words o ≡ spell_formats o
same_formats None = refl
same_formats (Some is) = refl

same_knows : (o : Option (List KnowItem)) → maybe_words knows_words o ≡ spell_knows o
same_knows None = refl
same_knows (Some is) = refl

-- the words of a narration, whose sections are spelled so
abbrev spelled : Written → List Word → List Word → List Word → List Word → List Word
spelled w suite formats knows ending = title_words w.title ++ (suite ++ ((name types_word ∷ colon ∷ flat_map spell_type w.types) ++ (formats ++ (knows ++ ((name actions_word ∷ colon ∷ flat_map spell_action w.actions) ++ ending)))))

same_words : (w : Written) → spelled w (maybe_words suite_words w.suite) (maybe_words formats_words w.formats) (maybe_words knows_words w.knows) (spell_ending w.goals ++ []) ≡ spell w
same_words w =
    ap (λ (xs : List Word). spelled w xs (maybe_words formats_words w.formats) (maybe_words knows_words w.knows) (spell_ending w.goals ++ [])) (same_suite w.suite)
    ∙ ap (λ (xs : List Word). spelled w (spell_suite w.suite) xs (maybe_words knows_words w.knows) (spell_ending w.goals ++ [])) (same_formats w.formats)
    ∙ ap (λ (xs : List Word). spelled w (spell_suite w.suite) (spell_formats w.formats) xs (spell_ending w.goals ++ [])) (same_knows w.knows)
    ∙ ap (λ (xs : List Word). spelled w (spell_suite w.suite) (spell_formats w.formats) (spell_knows w.knows) xs) (append-nil (spell_ending w.goals))

same_fits : (a b c d e f : Bool) → a ≡ true → b ≡ true → c ≡ true → d ≡ e → (a && (b && (c && (d && (f && true))))) ≡ (e && f)
same_fits a b c d e f ha hb hc hd = rw (ha, hb, hc, hd) (ap (λ g. e && g) (and_true f))

abbrev pub fits_written : ℕ → Written → Bool
fits_written l w = fits l (told w)

abbrev pub IsWritten : Written → Type 0
IsWritten w = IsNarration (told w)

pub reads_narration : (l : ℕ) → 0 < l → Reads l l (narration_at l) IsWritten (fits_written l) spell always
unfolding narration_at
reads_narration l h = reads_as _ _ _ _ _ _ _ _ _ _ _
    (seq (λ w. w.title) (reads_title l h)
    (λ title. seq_until (λ w. w.suite) (name types_word) (reads_optional l _ _ _ suite_words always (is_word suite_word) (reads_suite_section l h) (λ s w rest v g. next_is (is_word suite_word) true (name suite_word) (colon ∷ name (hash_name s) ∷ semicolon ∷ []) w rest g refl))
    (λ suite. reads_then _ _ _ _ _ _ _ _ _ _ _ _ _ (λ w. w.types) (reads_types l h)
    (λ types. reads_then _ _ _ _ _ _ _ _ _ _ _ _ _ (λ w. w.formats) (reads_optional l _ _ _ formats_words no_item (is_word formats_word) (reads_formats l h) (λ is w rest v g. next_is (is_word formats_word) true (name formats_word) (colon ∷ flat_map spell_format is) w rest g refl))
    (λ formats. seq_until (λ w. w.knows) (name actions_word) (reads_optional l _ _ _ knows_words no_item (is_word knowledge_word) (reads_knows l h) (λ is w rest v g. next_is (is_word knowledge_word) true (name knowledge_word) (colon ∷ flat_map spell_know is) w rest g refl))
    (λ knows. reads_then _ _ _ _ _ _ _ _ _ _ _ _ _ (λ w. w.actions) (reads_actions l h)
    (λ actions. seq (λ w. w.goals) (reads_ending l h) (λ goals. reads_nothing Written l (record { title = title; suite = suite; types = types; formats = formats; knows = knows; actions = actions; goals = goals })) (λ a b v. ap (λ x. x.goals) v))
    (λ a w v. ap (λ x. x.actions) v.1)
    (λ a n w rest v g e. next_ending n.goals w rest g))
    (λ a w v. ap (λ x. x.knows) v.1.1) knows_end)
    (λ a w v. ap (λ x. x.formats) v.1.1.1)
    (λ a n w rest v g e. next_knows (formats_stops a) (formats_end a (name knowledge_word) no_knowledge refl) (formats_end a (name actions_word) no_actions refl) n.knows _ w rest g))
    (λ a w v. ap (λ x. x.types) v.1.1.1.1)
    (λ a n w rest v g e. next_formats (λ x. not (is_sort x)) refl refl refl n.formats n.knows _ w rest g))
    (λ a w v. ap (λ x. x.suite) v.1.1.1.1.1) suite_ends)
    (λ a w v. ap (λ x. x.title) v.1.1.1.1.1.1))
    (λ w v. record { title = v.0; types = v.1.1.0; formats = maybe_list IsFormatItem w.formats v.1.1.1.0; knows = maybe_list IsKnowItem w.knows v.1.1.1.1.0; actions = v.1.1.1.1.1.0 })
    (λ w v. (v.title, (any_suite w.suite, (v.types, (list_maybe IsFormatItem w.formats v.formats, (list_maybe IsKnowItem w.knows v.knows, (v.actions, (tt, refl))))))))
    (λ w v. same_fits (maybe_fits yes w.suite) (list_all yes w.types) (maybe_fits (list_all yes) w.formats) (maybe_fits (list_all (fits_know l)) w.knows) (list_all (fits_know l) (unwrap_or w.knows [])) (list_all (fits_action l) w.actions)
    (maybe_yes w.suite) (all_yes w.types) (maybe_all_yes w.formats) (maybe_all (fits_know l) w.knows))
    (λ w v. same_words w) (λ w x v. refl)
