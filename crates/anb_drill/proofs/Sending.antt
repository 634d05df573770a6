-- The roles of a drill can send all messages.
use Rattle.std.proofs.Common.{◌≡◌, ℕ, ◌+◌, ◌-◌, List, [], ◌∷◌, ◌++◌, length, map, Bool, true, false, cond, Option, Some, None, refl, sym, ap, ◌∙◌, subst, arith, append_assoc, append-nil, codes}
use Rattle.std.specs.Prelude.{filter, nat_eq, slice_get, option_and_then, ◌==◌, ◌&&◌, ◌||◌}
use Rattle.std.specs.List.{list_any}
use Rattle.std.proofs.lemmas.Bool.{eqb-true, or_right}
use Rattle.std.proofs.lemmas.Bool.Decides.{nat_tests}
use Rattle.anb_format.specs.Formats.{FormatValue}
use Rattle.anb_term.specs.declared.term.Op.{Op}
use Rattle.anb_term.specs.declared.term.Op.TheVariants.{Hash, Seal, Format}
use Rattle.anb_term.specs.Agree.{HasRecipe}
use Rattle.anb_term.specs.FreeAlgebra.{terms_over}
use Rattle.anb_term.specs.Tree.{Tree, leaf, node, none, more}
use Rattle.anb_term.specs.Value.{RecipeTree, label, build, part, no_recipes, more_recipes, value}
use Rattle.anb_term.proofs.Frames.{value_more}
use Rattle.anb_algebra.specs.ByteMeaning.{has_operator}
use Rattle.anb_plays.specs.Plans.{Event, CanSend}
use Rattle.anb_gen.specs.Drill.{pair_format}
use Rattle.anb_protocol.specs.Choices.{each_after}
use Rattle.anb_protocol.specs.Names.{distinct, first_new}
use Rattle.anb_protocol.specs.Protocols.{ActionValue, ProtocolValue}
use Rattle.anb_protocol.specs.Texts.{atoms_in}
use Rattle.anb_protocol.specs.Plans.{to_make, to_send, is_made, made}
use Rattle.anb_protocol.specs.Plays.{event_of}
use Rattle.anb_protocol.proofs.Afters.{any-append}
use Rattle.anb_drill.proofs.Numbered.{pair, sealed}

-- ---- recipes over the operators of a drill

abbrev pub pair_formats : List FormatValue
pair_formats = record { name = codes "p"; pieces = pair_format.pieces } ∷ []

abbrev Has : List Tree → Tree → Type 0
Has frame t = HasRecipe (has_operator pair_formats) frame t

abbrev over : List Tree → RecipeTree → Option Tree
over frame r = value (terms_over (has_operator pair_formats)) frame r

pub still : (frame later : List Tree) (t : Tree) → Has frame t → Has (frame ++ later) t
still frame later t (r, e) = (r, value_more (terms_over (has_operator pair_formats)) frame later r t e)

here_at : (frame later : List Tree) (t : Tree) → slice_get (frame ++ t ∷ later) (length frame) ≡ Some t
here_at [] later t = refl
here_at (x ∷ frame) later t = here_at frame later t

pub last_has : (frame : List Tree) (t : Tree) → Has (frame ++ t ∷ []) t
last_has frame t = (label (length frame), here_at frame [] t)

pub seal_has : (frame : List Tree) (k : ℕ) (t : Tree) → Has frame (leaf k) → Has frame t → Has frame (sealed k t)
seal_has frame k t (r, e) (s, d) = (build Seal (more_recipes r (more_recipes s no_recipes)), rw (e, d) refl)

hash_has : (frame : List Tree) (t : Tree) → Has frame t → Has frame (node Hash (more t none))
hash_has frame t (r, e) = (build Hash (more_recipes r no_recipes), rw e refl)

pair_has : (frame : List Tree) (t u : Tree) → Has frame t → Has frame u → Has frame (node (Format 0 2) (more t (more u none)))
pair_has frame t u (r, e) (s, d) = (build (Format 0 2) (more_recipes r (more_recipes s no_recipes)), rw (e, d) refl)

opened : (frame : List Tree) (k : ℕ) (t : Tree) → Has frame (leaf k) → Has frame (sealed k t) → Has frame t
opened frame k t (r, e) (s, d) =
    let same : (k == k) ≡ true = grind (arith, nat_tests) in
    (part Seal 0 (more_recipes r no_recipes) s, rw (e, d) (ap (λ b. option_and_then (λ ps. slice_get ps 0) (cond (b && true) (Some (t ∷ [])) None)) same))

first_of_pair : (frame : List Tree) (t u : Tree) → Has frame (node (Format 0 2) (more t (more u none))) → Has frame t
first_of_pair frame t u (s, d) = (part (Format 0 2) 0 no_recipes s, rw d refl)

pub exchange_has : (frame : List Tree) (n i : ℕ) → Has frame (leaf (n + 3)) → Has frame (leaf (2 + i)) → Has frame (leaf (2 + (i - 1))) → Has frame (sealed (n + 3) (pair i))
exchange_has frame n i key one before =
    seal_has frame (n + 3) (pair i) key (pair_has frame (leaf (2 + i)) (node Hash (more (leaf (2 + (i - 1))) none)) one (hash_has frame (leaf (2 + (i - 1))) before))

pub number_had : (frame : List Tree) (n i : ℕ) → Has frame (leaf (n + 3)) → Has frame (sealed (n + 3) (pair i)) → Has frame (leaf (2 + i))
number_had frame n i key message = first_of_pair frame (leaf (2 + i)) (node Hash (more (leaf (2 + (i - 1))) none)) (opened frame (n + 3) (pair i) key message)

-- ---- names that are made

abbrev pub has : List ℕ → ℕ → Bool
has xs a = list_any (λ b. b == a) xs

pub made_has : (frame : List Tree) (names : List ℕ) (a : ℕ) → has names a ≡ true → Has (frame ++ map leaf names) (leaf a)
made_has frame [] a e = absurd (cc)
made_has frame (x ∷ names) a e = by (x == a) refl e (λ h. made_has (frame ++ leaf x ∷ []) names a h) where
  by : (b : Bool) → (x == a) ≡ b → (b || has names a) ≡ true → (has names a ≡ true → Has ((frame ++ leaf x ∷ []) ++ map leaf names) (leaf a)) → Has (frame ++ leaf x ∷ map leaf names) (leaf a)
  by true s e later = (label (length frame), here_at frame (map leaf names) (leaf x) ∙ ap (λ k. Some (leaf k)) (eqb-true x a s))
  by false s e later = subst (λ (l : List Tree). Has l (leaf a)) (append_assoc frame (leaf x ∷ []) (map leaf names)) (later e)

kept_has : (f : ℕ → Bool) (xs : List ℕ) (a : ℕ) → f a ≡ true → has xs a ≡ true → has (filter f xs) a ≡ true
kept_has f [] a t e = absurd (cc)
kept_has f (x ∷ xs) a t e = by (x == a) (f x) refl refl e (kept_has f xs a t) where
  by : (b v : Bool) → (x == a) ≡ b → f x ≡ v → (b || has xs a) ≡ true → (has xs a ≡ true → has (filter f xs) a ≡ true) → has (cond v (x ∷ filter f xs) (filter f xs)) a ≡ true
  by true true s w e later = ap (λ d. d || has (filter f xs) a) s
  by true false s w e later = let never : true ≡ false = sym t ∙ ap f (sym (eqb-true x a s)) ∙ w in absurd (cc)
  by false true s w e later = or_right (x == a) (has (filter f xs) a) (later e)
  by false false s w e later = later e

pub distinct_has : (before xs : List ℕ) (a : ℕ) → has before a ≡ false → has xs a ≡ true → has (each_after (first_new nat_eq) before xs) a ≡ true
distinct_has before [] a new e = absurd (cc)
distinct_has before (x ∷ xs) a new e = by (x == a) refl e (distinct_has (before ++ x ∷ []) xs a) where
  rest : List ℕ
  rest = each_after (first_new nat_eq) (before ++ x ∷ []) xs

  by : (b : Bool) → (x == a) ≡ b → (b || has xs a) ≡ true → (has (before ++ x ∷ []) a ≡ false → has xs a ≡ true → has rest a ≡ true) → has (cond (has before x) [] (x ∷ []) ++ rest) a ≡ true
  by true s e later =
      let same : x ≡ a = eqb-true x a s in
      let fresh_here : has before x ≡ false = ap (has before) same ∙ new in
      ap (λ v. has (cond v [] (x ∷ []) ++ rest) a) fresh_here ∙ ap (λ d. d || has rest a) s
  by false s e later =
      any-append (λ b. b == a) (cond (has before x) [] (x ∷ [])) rest
      ∙ or_right (has (cond (has before x) [] (x ∷ [])) a) (has rest a) (later (any-append (λ b. b == a) before (x ∷ []) ∙ rw (new, s) refl) e)

-- a name in a message that is a number or a key, unknown and unsent, is made
pub is_among_made : (p : ProtocolValue) (before : List ActionValue) (message : Tree) (a : ℕ) → has (atoms_in message) a ≡ true → is_made p before a ≡ true → has (made p before message) a ≡ true
is_among_made p before message a stands new = kept_has (is_made p before) (distinct nat_eq (atoms_in message)) a new (distinct_has [] (atoms_in message) a refl stands)

-- ---- one action

pub sends_first : (has_op : Op → Bool) (frame : List Tree) (names : List ℕ) (k : ℕ) (t : Tree) (rest : List Event)
    → HasRecipe has_op (frame ++ map leaf names) t → CanSend has_op (frame ++ map leaf names) rest
    → CanSend has_op frame (map event_of (map (λ x. to_make (leaf x)) names ++ to_send k t ∷ []) ++ rest)
sends_first has_op frame [] k t rest recipe later =
    (subst (λ (l : List Tree). HasRecipe has_op l t) (append-nil frame) recipe, subst (λ (l : List Tree). CanSend has_op l rest) (append-nil frame) later)
sends_first has_op frame (x ∷ names) k t rest recipe later =
    sends_first has_op (frame ++ leaf x ∷ []) names k t rest (subst (λ (l : List Tree). HasRecipe has_op l t) (sym (append_assoc frame (leaf x ∷ []) (map leaf names))) recipe)
    (subst (λ (l : List Tree). CanSend has_op l rest) (sym (append_assoc frame (leaf x ∷ []) (map leaf names))) later)
